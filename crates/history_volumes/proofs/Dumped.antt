-- The history of a volume is one of its table.
use Rattle.std.proofs.Common.{◌≡◌, ◌≤◌, inl, ℕ, zero, suc, Bool, List, [], ◌∷◌, length, map, Option, Some, None, refl, sym, subst, ap, ◌∙◌, arith}
use Rattle.std.specs.Prelude.{if◌then◌else◌}
use Rattle.std.specs.List.{flat_map, AllByRecursion, AllZip, zip}
use Rattle.std.proofs.lemmas.Bool.{eq-eqb}
use Rattle.ex_base.specs.declared.geometry.Geometry.{Geometry}
use Rattle.ex_base.specs.declared.names.PageNo.{PageNo}
use Rattle.ex_base.specs.declared.names.Root.{Root}
use Rattle.ex_base.specs.Area.{InPageArea, NamesLeaf}
use Rattle.ex_base.specs.Sizes.{leaf_bytes, object_most}
use Rattle.ex_base.proofs.Each.{each_parted}
use Rattle.object_files.specs.Catalog.{FileEntry}
use Rattle.object_records.specs.Record.{Content, Small, Large}
use Rattle.op_log.specs.declared.record.LogRecord.{LogRecord}
use Rattle.table_model.specs.Tables.{all_in}
use Rattle.trees.specs.Node.{Node}
use Rattle.trees.specs.Shape.{IsBalanced, Subtree}
use Rattle.trees.specs.Trees.{Units, for_each_child, IsNamed, HasSize, RootNamed, RootSized, root_bytes_at, root_shape_at}
use Rattle.version_lists.specs.Sorted.{in_order}
use Rattle.version_lists.specs.Versions.{unique_of as number_of}
use Rattle.version_lists.proofs.Forming.{all_versions as formed_of_all}
use Rattle.version_lists.proofs.Links.{linked_all}
use Rattle.version_lists.proofs.Lists.{Has, has_contains, has_flat, has_front, has_back}
use Rattle.version_lists.proofs.Sorted.{order_map, order_has_from}
use Rattle.volume_model.specs.Parts.{HasBalance, HoldsOf, content_parts}
use Rattle.volume_model.specs.Volume.{FileContent, Stored, Volume, content_in, file_of, root_in, roots_in, stored_in, table_of, unique_of, version_of, versions_stored}
use Rattle.volume_model.proofs.Places.{each_has, sep_from, sep_parted}
use Rattle.volume_model.proofs.Standing.{StoredAt, files_at}
use Rattle.volume_model.proofs.TableVersions.{FileLinked, files_linked}
use Rattle.history_model.specs.Dumps.{IsFileOf, IsVersionOf, namings, namings_at, namings_by, namings_on}
use Rattle.history_model.specs.History.{History, HistoryFile, HistoryVersion, all_versions, numbered}
use Rattle.history_model.specs.Trees.{Gives, IsRooted, IsUnder, bytes_rooted}
use Rattle.history_volumes.specs.Histories.{IsFileOn, IsHistoryOn, IsVersionOn, content_placed, leaf_pages, node_pages, page_placed, root_placed}
use Rattle.history_volumes.specs.Transcribed.{at_of, place_of}
use Rattle.history_volumes.proofs.Numbers.{as_named, at_there, numbered_has, second_has, zip_turned}
use Rattle.history_volumes.proofs.Transcribing.{AreClosed, IsLongEnough, IsNumber, each_listed, leaf_is, tree_back, tree_bytes, tree_shape}

module _ (g : Geometry) (records : List LogRecord) (units : Units) (v : Volume) (h : History) (parts : AllByRecursion (HoldsOf g records units v) content_parts) (on : IsHistoryOn g units v h) where
  abbrev pub leaf : ℕ → ℕ
  leaf = at_of (leaf_pages units v)

  abbrev pub node : ℕ → ℕ
  node = at_of (node_pages units v)

  -- ---- each number that leads to a unit is one of the history

  leaf_number : (k : ℕ) → NamesLeaf g (leaf k) → IsNumber h zero k
  leaf_number k named = at_there (leaf_pages units v) h.leaves k on.leaves (omega (arith, named.2))

  node_number : (l k : ℕ) → InPageArea g (node k) → IsNumber h (suc l) k
  node_number l k area = at_there (node_pages units v) h.nodes k on.nodes (omega (arith, area.0))

  pub number_of_tree : (l k : ℕ) → IsNamed g units l (place_of leaf node l k) → IsNumber h l k
  number_of_tree zero k named = leaf_number k named
  number_of_tree (suc l) k named = node_number l k named.0

  -- ---- no leaf is named longer than it is

  long_enough : (k n : ℕ) → IsNumber h zero k → Has (namings h) (k, n) → IsLongEnough h zero k n
  long_enough k n is named =
      let most = (as_named h h.leaves k is.0 on.lengths is.1).most n (has_contains (namings h) (k, n) named) in
      subst (λ (bytes : List ℕ). n ≤ length bytes) (sym (leaf_is g h units leaf node on.transcribed k is.0 is.1)) most

  on_level : (n : Node) (k m : ℕ) → n.level ≡ 1 → Has {A = ℕ × ℕ} (for_each_child (λ (number n : ℕ). (number, n)) 0 n.pairs) (k, m) → Has (namings_on n) (k, m)
  on_level n k m level listed =
      subst (λ (b : Bool). Has {A = ℕ × ℕ} (if b then for_each_child (λ (number n : ℕ). (number, n)) 0 n.pairs else []) (k, m)) (sym (eq-eqb n.level 1 level)) listed

  by_node : (number : ℕ) (n : Node) (k m : ℕ) → numbered h.nodes number ≡ Some n → n.level ≡ 1 → Has {A = ℕ × ℕ} (for_each_child (λ (number n : ℕ). (number, n)) 0 n.pairs) (k, m) → Has (namings h) (k, m)
  by_node number n k m is level listed =
      has_front (flat_map namings_on h.nodes) (flat_map (λ (w : HistoryVersion). namings_by w.content) (all_versions h)) (k, m)
      (has_flat namings_on h.nodes n (k, m) (numbered_has h.nodes number n is) (on_level n k m level listed))

  pub closed : AreClosed g h units leaf node on.transcribed
  closed = record {
    there = λ l number n is level. each_listed (λ k m. IsNamed g units l (place_of leaf node l k) → IsNumber h l k) 0 n.pairs (λ k m listed named. number_of_tree l k named);
    long = λ number n is level. each_listed (λ k m. IsNumber h zero k → IsLongEnough h zero k m) 0 n.pairs (λ k m listed there. long_enough k m there (by_node number n k m is level listed));
  }

  -- ---- the tree of a root

  by_root : (w : HistoryVersion) (root : Root) (number : PageNo) → Has (all_versions h) w → w.content ≡ Large root → root.page ≡ Some number → root.height ≡ zero → Has (namings h) (number.0, root.size)
  by_root w root number there large page height =
      let is : namings_by w.content ≡ (number.0, root.size) ∷ [] =
      ap namings_by large ∙ ap (λ (k : ℕ). namings_at k root.size root.page) height ∙ ap (namings_at zero root.size) page in
      has_back (flat_map namings_on h.nodes) (flat_map (λ (x : HistoryVersion). namings_by x.content) (all_versions h)) (number.0, root.size)
      (has_flat (λ (x : HistoryVersion). namings_by x.content) (all_versions h) w (number.0, root.size) there (subst (λ (xs : List (ℕ × ℕ)). Has xs (number.0, root.size)) (sym is) (inl refl)))

  long_root : (w : HistoryVersion) (root : Root) (number : PageNo) (l : ℕ) → Has (all_versions h) w → w.content ≡ Large root → root.page ≡ Some number → root.height ≡ l → IsNumber h l number.0 → IsLongEnough h l number.0 root.size
  long_root w root number zero there large page height is = long_enough number.0 root.size is (by_root w root number there large page height)
  long_root w root number (suc l) there large page height is = tt

  -- the tree of a root that is there, and what it spells
  pub record IsTreeOf (height size : ℕ) (page : Option PageNo) : Type 0 where
    pub rooted : IsRooted g h height size page
    pub bytes : root_bytes_at units height size (page_placed (place_of leaf node height) page) ≡ bytes_rooted h height size page

  root_under : (height size : ℕ) (number : PageNo) → IsNamed g units height (place_of leaf node height number.0) → HasSize g units height (place_of leaf node height number.0) size → IsLongEnough h height number.0 size → IsUnder h height number.0 size
  root_under height size number named sized long = tree_back g h units leaf node on.transcribed closed height number.0 size (number_of_tree height number.0 named) named sized long

  root_tree : (height size : ℕ) (page : Option PageNo) → RootNamed g units height (page_placed (place_of leaf node height) page) → RootSized g units height size (page_placed (place_of leaf node height) page)
      → IsBalanced g.fan (leaf_bytes g) (root_shape_at units height size (page_placed (place_of leaf node height) page)) → size ≤ object_most
      → ((number : PageNo) → page ≡ Some number → IsNumber h height number.0 → IsLongEnough h height number.0 size) → IsTreeOf height size page
  root_tree height size None named sized balanced limit long = record { rooted = sized; bytes = refl }
  root_tree height size (Some number) named sized balanced limit long =
      let is = root_under height size number named sized (long number refl (number_of_tree height number.0 named)) in
      record {
        rooted = (
          is,
          subst (λ (shape : Subtree height). IsBalanced g.fan (leaf_bytes g) (Some (height, shape))) (sym (tree_shape g h units leaf node on.transcribed height number.0 size is)) balanced,
          limit,
        );
        bytes = sym (tree_bytes g h units leaf node on.transcribed height number.0 size is);
      }

  root_has : (s : Stored) (root : Root) → Has (stored_in v) s → s.body.content ≡ Large root → Has (roots_in (stored_in v)) root
  root_has s root there large =
      has_flat (λ (x : Stored). root_in x.body.content) (stored_in v) s root there (subst (λ (rs : List Root). Has rs root) (sym (ap root_in large)) (inl refl))

  -- the tree of a version's record
  pub version_tree : (w : HistoryVersion) (s : Stored) (root : Root) → Has (all_versions h) w → Has (stored_in v) s → w.content ≡ Large root → s.body.content ≡ Large (root_placed leaf node root) → IsTreeOf root.height root.size root.page
  version_tree w s root there stored large is =
      let balance = each_has (HasBalance g units) (roots_in (stored_in v)) parts.1.1.1.1.1.0 (root_placed leaf node root) (root_has s (root_placed leaf node root) stored is) in
      let named = each_has (λ (r : Root). RootNamed g units r.height r.page) (roots_in (stored_in v)) parts.1.1.1.1.0.named (root_placed leaf node root) (root_has s (root_placed leaf node root) stored is) in
      root_tree root.height root.size root.page named balance.sized balance.balanced balance.limit (λ number page number_is. long_root w root number root.height there large page refl number_is)

  -- ---- its bytes

  gives : (w : HistoryVersion) (s : Stored) (content : Content) → Has (all_versions h) w → Has (stored_in v) s → w.content ≡ content → s.body.content ≡ content_placed leaf node content → Gives g h content (content_in units s.body.content)
  gives w s (Small held) there stored content is = ap (content_in units) is
  gives w s (Large root) there stored content is = let tree = version_tree w s root there stored content is in (tree.rooted, ap (content_in units) is ∙ tree.bytes)

  version_is : (stored : List Stored) (w : HistoryVersion) (s : Stored) → Has (all_versions h) w → Has (stored_in v) s → IsVersionOn leaf node stored w s → IsVersionOf g h w (version_of units stored s)
  version_is stored w s there has is = record { unique = is.unique; state = is.state; older = is.older; bytes = gives w s w.content there has refl is.content }

  -- ---- its files

  pub linked : AllByRecursion (FileLinked units) v.files
  linked =
      files_linked units v.files (each_parted (StoredAt units) (λ (f : FileContent). f.stored) v.files (files_at units v.catalog.entries v.files parts.1.1.0 parts.1.1.1.0))
      (sep_parted unique_of (λ (f : FileContent). f.stored) v.files (sep_from unique_of (stored_in v) parts.1.1.1.1.1.1.0.differ)) parts.1.1.1.0

  -- the versions of a file of the table are its records in order of their numbers
  pub versions_in_order : (row : FileEntry × FileContent) → Has v.files row.1 → all_in (file_of units row) ≡ map (version_of units row.1.stored) (in_order unique_of row.1.stored)
  versions_in_order row there =
      let vs = versions_stored units row.1.stored in
      formed_of_all vs (linked_all vs (each_has (FileLinked units) v.files linked row.1 there))
      ∙ order_map unique_of number_of (version_of units row.1.stored) row.1.stored (λ s. refl)

  file_is : (f : HistoryFile) (row : FileEntry × FileContent) → Has h.files f → Has (zip v.catalog.entries v.files) row → IsFileOn leaf node f row → IsFileOf g h f (file_of units row)
  file_is f row file there is =
      let content = second_has v.catalog.entries v.files row there in
      record {
        name = is.name;
        versions = subst (AllZip (IsVersionOf g h) f.versions) (sym (versions_in_order row content))
            (zip_turned (IsVersionOn leaf node row.1.stored) (IsVersionOf g h) (version_of units row.1.stored) f.versions (in_order unique_of row.1.stored)
            (λ w s version stored on_it. version_is row.1.stored w s (has_flat (λ (x : HistoryFile). x.versions) h.files f w file version)
            (has_flat (λ (x : FileContent). x.stored) v.files row.1 s content (order_has_from unique_of row.1.stored s stored)) on_it) is.versions);
      }

  pub files_are : AllZip (IsFileOf g h) h.files (table_of units v).files
  files_are = zip_turned (IsFileOn leaf node) (IsFileOf g h) (file_of units) h.files (zip v.catalog.entries v.files) file_is on.files
