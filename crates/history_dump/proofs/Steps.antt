-- The bytes that come from a position on begin with those of the item there.
use Rattle.std.proofs.Common.{◌≡◌, ◌≤◌, ℕ, zero, suc, List, [], ◌∷◌, ◌++◌, length, drop, Some, refl, sym, subst, ap, ◌∙◌, arith, append_assoc}
use Rattle.std.specs.Prelude.{slice_get}
use Rattle.std.specs.List.{flat_map, AllZip}
use Rattle.std.proofs.lemmas.List.{length-append}
use Rattle.std.proofs.lemmas.Option.{none-some, same_Some}
use Rattle.ex_base.specs.declared.geometry.Geometry.{Geometry}
use Rattle.ex_base.specs.Fields.{eight_bytes, four_bytes}
use Rattle.ex_base.proofs.FieldLaws.{eight_is, four_is}
use Rattle.record_lists.specs.declared.Listed.{Listed}
use Rattle.trees.specs.Node.{Node as TreeNode}
use Rattle.history_model.specs.History.{History, HistoryFile, HistoryVersion}
use Rattle.history_model.specs.Stream.{content_item, file_head, file_item, head_bytes, head_of, leaf_item, node_item, number_or_none, state_code, stream_of, version_item}
use Rattle.history_model.proofs.Lengths.{length-head, length-node}
use Rattle.history_plans.specs.Plans.{StreamPlan}
use Rattle.history_dump.specs.Positions.{IsThere, stream_from, versions_before, versions_if}
use Rattle.history_dump.specs.declared.position.Position.{Position}
use Rattle.history_dump.specs.declared.position.Position.TheVariants.{Head, Leaf, Node, File, Version, End}
use Rattle.history_dump.proofs.Positions.{AreLong, HasCounts, at_there, drop_at}

-- ---- two lists side by side

pub zip_get : {A B : Type 0} (R : A → B → Type 0) (xs : List A) (ys : List B) (i : ℕ) (x : A) (y : B) → AllZip R xs ys → slice_get xs i ≡ Some x → slice_get ys i ≡ Some y → R x y
zip_get R [] ys i x y both one two = absurd (none-some x one)
zip_get R (a ∷ xs) [] i x y both one two = absurd both
zip_get R (a ∷ xs) (b ∷ ys) zero x y both one two = subst (λ (z : _). R z y) (same_Some a x one) (subst (R a) (same_Some b y two) both.0)
zip_get R (a ∷ xs) (b ∷ ys) (suc i) x y both one two = zip_get R xs ys i x y both.1 one two

pub zip_long : {A B : Type 0} (R : A → B → Type 0) (xs : List A) (ys : List B) → AllZip R xs ys → length xs ≡ length ys
zip_long R [] [] both = refl
zip_long R [] (b ∷ ys) both = absurd both
zip_long R (a ∷ xs) [] both = absurd both
zip_long R (a ∷ xs) (b ∷ ys) both = ap suc (zip_long R xs ys both.1)

-- ---- each step

item_first : {A : Type 0} (f : A → List ℕ) (xs : List A) (i : ℕ) (x : A) (rest : List ℕ) → slice_get xs i ≡ Some x → flat_map f (drop i xs) ++ rest ≡ f x ++ (flat_map f (drop (suc i) xs) ++ rest)
item_first f xs i x rest is = ap (λ (ys : List _). flat_map f ys ++ rest) (drop_at xs i x is) ∙ append_assoc (f x) (flat_map f (drop (suc i) xs)) rest

module _ (g : Geometry) (h : History) where
  pub head_step : stream_from g h Head ≡ head_bytes (head_of g h) ++ stream_from g h (Leaf 0)
  unfolding stream_of
  head_step = refl

  pub leaf_step : (at : ℕ) (leaf : List ℕ) → slice_get h.leaves at ≡ Some leaf → stream_from g h (Leaf at) ≡ leaf_item leaf ++ stream_from g h (Leaf (suc at))
  leaf_step at leaf is = item_first leaf_item h.leaves at leaf (flat_map node_item h.nodes ++ flat_map file_item h.files) is

  pub node_step : (at : ℕ) (node : TreeNode) → slice_get h.nodes at ≡ Some node → stream_from g h (Node at) ≡ node_item node ++ stream_from g h (Node (suc at))
  node_step at node is = item_first node_item h.nodes at node (flat_map file_item h.files) is

  pub version_step : (next at : ℕ) (v : HistoryVersion) → slice_get (versions_before h next) at ≡ Some v → stream_from g h (Version next at) ≡ version_item v ++ stream_from g h (Version next (suc at))
  version_step next at v is = item_first version_item (versions_before h next) at v (flat_map file_item (drop next h.files)) is

  pub file_step : (at : ℕ) (f : HistoryFile) → slice_get h.files at ≡ Some f → stream_from g h (File at) ≡ file_head f ++ stream_from g h (Version (suc at) 0)
  file_step at f is =
      let behind : List ℕ = flat_map file_item (drop (suc at) h.files) in
      ap (flat_map file_item) (drop_at h.files at f is)
      ∙ append_assoc (file_head f) (flat_map version_item f.versions) behind
      ∙ ap (λ (vs : List HistoryVersion). file_head f ++ (flat_map version_item vs ++ behind)) (sym (ap versions_if is))

  -- ---- some bytes come from an item on

  some_first : (bytes item rest : List ℕ) → bytes ≡ item ++ rest → 1 ≤ length item → 1 ≤ length bytes
  some_first bytes item rest is some = omega (arith, ap length is, length-append item rest, some)

  leaf_some : (leaf : List ℕ) → 1 ≤ length (leaf_item leaf)
  leaf_some leaf = omega (arith, length-append (four_bytes (length leaf)) leaf, four_is.len (length leaf))

  version_some : (v : HistoryVersion) → 1 ≤ length (version_item v)
  version_some v = omega (arith, length-append (eight_bytes v.unique) ((state_code v.frozen ∷ []) ++ (eight_bytes (number_or_none v.older) ++ content_item v.content)), eight_is.len v.unique)

  file_some : (f : HistoryFile) → 1 ≤ length (file_head f)
  file_some f = omega (arith, length-append (length f.name ∷ []) (f.name ++ four_bytes (length f.versions)))

  module _ (plan : StreamPlan) (counts : HasCounts plan h) (records : List Listed) where
    pub some_left : (position : Position) → IsThere plan (length records) position → AreLong h records position → 1 ≤ length (stream_from g h position)
    some_left Head there long = some_first (stream_from g h Head) (head_bytes (head_of g h)) (stream_from g h (Leaf 0)) head_step (omega (arith, length-head (head_of g h)))
    some_left (Leaf at) there long =
        let x = at_there h.leaves at (omega (arith, there, counts.leaves)) in
        some_first (stream_from g h (Leaf at)) (leaf_item x.0) (stream_from g h (Leaf (suc at))) (leaf_step at x.0 x.1) (leaf_some x.0)
    some_left (Node at) there long =
        let x = at_there h.nodes at (omega (arith, there, counts.nodes)) in
        some_first (stream_from g h (Node at)) (node_item x.0) (stream_from g h (Node (suc at))) (node_step at x.0 x.1) (omega (arith, length-node x.0))
    some_left (File at) there long =
        let x = at_there h.files at (omega (arith, there, counts.files)) in
        some_first (stream_from g h (File at)) (file_head x.0) (stream_from g h (Version (suc at) 0)) (file_step at x.0 x.1) (file_some x.0)
    some_left (Version next at) there long =
        let x = at_there (versions_before h next) at (omega (arith, there, long)) in
        some_first (stream_from g h (Version next at)) (version_item x.0) (stream_from g h (Version next (suc at))) (version_step next at x.0 x.1) (version_some x.0)
    some_left End there long = absurd there
