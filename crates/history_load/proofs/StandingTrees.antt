-- The trees of a history that stands as a volume.
use Rattle.std.proofs.Common.{◌≡◌, ◌≤◌, inl, ℕ, zero, suc, Bool, List, [], ◌∷◌, length, map, Option, Some, None, refl, sym, subst, ap, ◌∙◌}
use Rattle.std.specs.Prelude.{if◌then◌else◌}
use Rattle.std.specs.List.{flat_map, AllByRecursion}
use Rattle.std.proofs.lemmas.Bool.{eq-eqb}
use Rattle.ex_base.specs.declared.geometry.Geometry.{Geometry}
use Rattle.ex_base.specs.declared.names.PageNo.{PageNo}
use Rattle.ex_base.specs.declared.names.Root.{Root}
use Rattle.ex_base.specs.Sizes.{leaf_bytes}
use Rattle.object_records.specs.Record.{Large}
use Rattle.op_log.specs.declared.record.LogRecord.{LogRecord}
use Rattle.trees.specs.Node.{Node}
use Rattle.trees.specs.Shape.{IsBalanced, Subtree}
use Rattle.trees.specs.Trees.{Units, for_each_child, IsNamed, RootNamed, root_bytes, root_units}
use Rattle.version_lists.proofs.Lists.{Has, has_back, has_contains, has_flat, has_front}
use Rattle.volume_model.specs.Parts.{HasBalance, HoldsOf, content_parts}
use Rattle.volume_model.specs.Volume.{Stored, Volume, root_in, roots_in, stored_in}
use Rattle.volume_model.proofs.Places.{each_has}
use Rattle.history_model.specs.Dumps.{AreAsNamed, namings, namings_at, namings_by, namings_on}
use Rattle.history_model.specs.History.{History, HistoryVersion, all_versions, numbered}
use Rattle.history_model.specs.Items.{AreItems}
use Rattle.history_model.specs.Trees.{IsRooted, bytes_rooted, pieces_rooted}
use Rattle.history_volumes.specs.Histories.{page_placed, root_placed}
use Rattle.history_volumes.specs.Transcribed.{piece_place, place_of}
use Rattle.history_volumes.proofs.Numbers.{as_named, numbered_has}
use Rattle.history_volumes.proofs.Transcribing.{AreClosed, IsLongEnough, IsNumber, each_listed, each_turned, leaf_is, tree_back, tree_bytes, tree_shape, tree_units}
use Rattle.history_load.specs.Placed.{StandsAs}
use Rattle.history_load.proofs.ItemNumbers.{children_there, root_there}

-- the children of a node, each with its bytes
abbrev listed : Node → List (ℕ × ℕ)
listed n = for_each_child (λ (number m : ℕ). (number, m)) 0 n.pairs

module _ (g : Geometry) (records : List LogRecord) (units : Units) (v : Volume) (h : History) (leaf node : ℕ → ℕ) (parts : AllByRecursion (HoldsOf g records units v) content_parts)
    (items : AreItems g h) (lengths : AreAsNamed h 1 h.leaves) (on : StandsAs g units v h leaf node) where
  -- ---- no leaf is named longer than it is

  long_enough : (k n : ℕ) → IsNumber h zero k → Has (namings h) (k, n) → IsLongEnough h zero k n
  long_enough k n is named =
      subst (λ (bytes : List ℕ). n ≤ length bytes) (sym (leaf_is g h units leaf node on.transcribed k is.0 is.1))
      ((as_named h h.leaves k is.0 lengths is.1).most n (has_contains (namings h) (k, n) named))

  named_by_node : (number : ℕ) (n : Node) (k m : ℕ) → numbered h.nodes number ≡ Some n → n.level ≡ 1 → Has (listed n) (k, m) → Has (namings h) (k, m)
  named_by_node number n k m is level there =
      has_front (flat_map namings_on h.nodes) (flat_map (λ (w : HistoryVersion). namings_by w.content) (all_versions h)) (k, m)
      (has_flat namings_on h.nodes n (k, m) (numbered_has h.nodes number n is)
      (subst (λ (b : Bool). Has {A = ℕ × ℕ} (if b then listed n else []) (k, m)) (sym (eq-eqb n.level 1 level)) there))

  closed : AreClosed g h units leaf node on.transcribed
  closed = record {
    there = λ l number n is level. each_turned (λ k m. IsNumber h l k) (λ k m. IsNamed g units l (place_of leaf node l k) → IsNumber h l k) (λ k m is_there named. is_there) 0 n.pairs (children_there g h items l number n is level);
    long = λ number n is level. each_listed (λ k m. IsNumber h zero k → IsLongEnough h zero k m) 0 n.pairs (λ k m there is_there. long_enough k m is_there (named_by_node number n k m is level there));
  }

  -- the leaf that is the whole tree of a version
  named_by_root : (w : HistoryVersion) (root : Root) (number : PageNo) → Has (all_versions h) w → w.content ≡ Large root → root.page ≡ Some number → root.height ≡ zero → Has (namings h) (number.0, root.size)
  named_by_root w root number there large page height =
      let own : namings_by w.content ≡ (number.0, root.size) ∷ [] =
      ap namings_by large ∙ ap (λ (k : ℕ). namings_at k root.size root.page) height ∙ ap (namings_at zero root.size) page in
      has_back (flat_map namings_on h.nodes) (flat_map (λ (x : HistoryVersion). namings_by x.content) (all_versions h)) (number.0, root.size)
      (has_flat (λ (x : HistoryVersion). namings_by x.content) (all_versions h) w (number.0, root.size) there (subst (λ (xs : List (ℕ × ℕ)). Has xs (number.0, root.size)) (sym own) (inl refl)))

  root_long : (w : HistoryVersion) (root : Root) (number : PageNo) (l : ℕ) → Has (all_versions h) w → w.content ≡ Large root → root.page ≡ Some number → root.height ≡ l → IsNumber h l number.0 → IsLongEnough h l number.0 root.size
  root_long w root number zero there large page height is = long_enough number.0 root.size is (named_by_root w root number there large page height)
  root_long w root number (suc l) there large page height is = tt

  -- ---- the tree of a version

  -- The root's tree is one of the history: it is balanced, and spells what the one on the volume does, over the places of its pieces.
  pub record RootStands (root : Root) : Type 0 where
    pub rooted : IsRooted g h root.height root.size root.page
    pub bytes : root_bytes units (root_placed leaf node root) ≡ bytes_rooted h root.height root.size root.page
    pub units_are : root_units units (root_placed leaf node root) ≡ map (piece_place leaf node) (pieces_rooted h root.height root.page)

  -- what is known of a root on the volume, and of its number
  record IsRootThere (root : Root) : Type 0 where
    named : RootNamed g units root.height (page_placed (place_of leaf node root.height) root.page)
    balance : HasBalance g units (root_placed leaf node root)
    number : (number : PageNo) → root.page ≡ Some number → IsNumber h root.height number.0
    long : (number : PageNo) → root.page ≡ Some number → IsLongEnough h root.height number.0 root.size

  stands : (height size : ℕ) (page : Option PageNo) → IsRootThere (record { height = height; page = page; size = size }) → RootStands (record { height = height; page = page; size = size })
  stands height size None is = record { rooted = is.balance.sized; bytes = refl; units_are = refl }
  stands height size (Some number) is =
      let under = tree_back g h units leaf node on.transcribed closed height number.0 size (is.number number refl) is.named is.balance.sized (is.long number refl) in
      record {
        rooted = (
          under,
          subst (λ (shape : Subtree height). IsBalanced g.fan (leaf_bytes g) (Some (height, shape))) (sym (tree_shape g h units leaf node on.transcribed height number.0 size under)) is.balance.balanced,
          is.balance.limit,
        );
        bytes = sym (tree_bytes g h units leaf node on.transcribed height number.0 size under);
        units_are = tree_units g h units leaf node on.transcribed height number.0 size under;
      }

  placed_there : (s : Stored) (root : Root) → Has (stored_in v) s → s.body.content ≡ Large root → Has (roots_in (stored_in v)) root
  placed_there s root there large =
      has_flat (λ (x : Stored). root_in x.body.content) (stored_in v) s root there (subst (λ (rs : List Root). Has rs root) (sym (ap root_in large)) (inl refl))

  pub version_stands : (w : HistoryVersion) (s : Stored) (root : Root) → Has (all_versions h) w → Has (stored_in v) s → w.content ≡ Large root → s.body.content ≡ Large (root_placed leaf node root) → RootStands root
  version_stands w s root there stored large is =
      let on_volume = placed_there s (root_placed leaf node root) stored is in
      stands root.height root.size root.page (record {
        named = each_has (λ (r : Root). RootNamed g units r.height r.page) (roots_in (stored_in v)) parts.1.1.1.1.0.named (root_placed leaf node root) on_volume;
        balance = each_has (HasBalance g units) (roots_in (stored_in v)) parts.1.1.1.1.1.0 (root_placed leaf node root) on_volume;
        number = λ number page. root_there g h items w root number there large page;
        long = λ number page. root_long w root number root.height there large page refl (root_there g h items w root number there large page);
      })
