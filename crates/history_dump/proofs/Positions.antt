-- Which item of a stream comes next, and what comes behind it.
use Rattle.std.proofs.Common.{◌≡◌, ◌≤◌, ◌<◌, ℕ, zero, suc, Bool, true, false, List, [], ◌∷◌, ◌++◌, length, drop, Some, refl, sym, ap, ◌∙◌, arith}
use Rattle.std.specs.Prelude.{nat_lt, if◌then◌else◌, slice_get}
use Rattle.std.specs.List.{flat_map}
use Rattle.std.proofs.lemmas.Bool.{ltb-true, ltb-false}
use Rattle.std.proofs.lemmas.List.{drop_all}
use Rattle.std.proofs.lemmas.Option.{none-some, same_Some}
use Rattle.ex_base.specs.declared.geometry.Geometry.{Geometry}
use Rattle.record_lists.specs.declared.Listed.{Listed}
use Rattle.history_model.specs.History.{History}
use Rattle.history_model.specs.Stream.{file_item, leaf_item, node_item, version_item}
use Rattle.history_plans.specs.Plans.{StreamPlan}
use Rattle.history_dump.specs.Positions.{IsAt, IsThere, file_or_end, is_end, leaf_or_node, node_or_file, settled, stream_from, versions_before}
use Rattle.history_dump.specs.declared.position.Position.{Position}
use Rattle.history_dump.specs.declared.position.Position.TheVariants.{Head, Leaf, Node, File, Version, End}

-- ---- an item of a list

pub drop_at : {A : Type 0} (xs : List A) (i : ℕ) (x : A) → slice_get xs i ≡ Some x → drop i xs ≡ x ∷ drop (suc i) xs
drop_at [] i x is = absurd (none-some x is)
drop_at (y ∷ ys) zero x is = ap (λ (z : _). z ∷ ys) (same_Some y x is)
drop_at (y ∷ ys) (suc i) x is = drop_at ys i x is

pub at_there : {A : Type 0} (xs : List A) (i : ℕ) → i < length xs → (x : A) × (slice_get xs i ≡ Some x)
at_there [] i lt = absurd (omega (arith, lt))
at_there (y ∷ ys) zero lt = (y, refl)
at_there (y ∷ ys) (suc i) lt = at_there ys i (omega (arith, lt))

none_left : {A : Type 0} (f : A → List ℕ) (xs : List A) (i : ℕ) → length xs ≤ i → flat_map f (drop i xs) ≡ []
none_left f xs i le = ap (flat_map f) (drop_all i xs le)

-- ---- the item that comes next

module _ (plan : StreamPlan) where
  file_there : (listed at : ℕ) → is_end (file_or_end plan at) ≡ false → IsThere plan listed (file_or_end plan at)
  file_there listed at = by (nat_lt at plan.head.files) refl
    where
      by : (b : Bool) → nat_lt at plan.head.files ≡ b → is_end (if b then File at else End) ≡ false → IsThere plan listed (if b then File at else End)
      by true lt more = ltb-true at plan.head.files lt
      by false lt more = absurd (let e : true ≡ false = more in cc)

  node_there : (listed at : ℕ) → is_end (node_or_file plan at) ≡ false → IsThere plan listed (node_or_file plan at)
  node_there listed at = by (nat_lt at (length plan.nodes)) refl
    where
      by : (b : Bool) → nat_lt at (length plan.nodes) ≡ b → is_end (if b then Node at else file_or_end plan 0) ≡ false → IsThere plan listed (if b then Node at else file_or_end plan 0)
      by true lt more = ltb-true at (length plan.nodes) lt
      by false lt more = file_there listed 0 more

  leaf_there : (listed at : ℕ) → is_end (leaf_or_node plan at) ≡ false → IsThere plan listed (leaf_or_node plan at)
  leaf_there listed at = by (nat_lt at (length plan.leaves)) refl
    where
      by : (b : Bool) → nat_lt at (length plan.leaves) ≡ b → is_end (if b then Leaf at else node_or_file plan 0) ≡ false → IsThere plan listed (if b then Leaf at else node_or_file plan 0)
      by true lt more = ltb-true at (length plan.leaves) lt
      by false lt more = node_there listed 0 more

  version_there : (listed next at : ℕ) → is_end (if nat_lt at listed then Version next at else file_or_end plan next) ≡ false → IsThere plan listed (if nat_lt at listed then Version next at else file_or_end plan next)
  version_there listed next at = by (nat_lt at listed) refl
    where
      by : (b : Bool) → nat_lt at listed ≡ b → is_end (if b then Version next at else file_or_end plan next) ≡ false → IsThere plan listed (if b then Version next at else file_or_end plan next)
      by true lt more = ltb-true at listed lt
      by false lt more = file_there listed next more

  -- A settled position that isn't the end is that of an item.
  pub settled_there : (listed : ℕ) (position : Position) → is_end (settled plan listed position) ≡ false → IsThere plan listed (settled plan listed position)
  settled_there listed Head more = tt
  settled_there listed (Leaf at) more = leaf_there listed at more
  settled_there listed (Node at) more = node_there listed at more
  settled_there listed (File at) more = file_there listed at more
  settled_there listed (Version next at) more = version_there listed next at more
  settled_there listed End more = absurd (let e : true ≡ false = more in cc)

-- ---- the same bytes come from it

-- The plan has as many leaves, nodes and files as the history.
pub record HasCounts (plan : StreamPlan) (h : History) : Type 0 where
  pub leaves : length plan.leaves ≡ length h.leaves
  pub nodes : length plan.nodes ≡ length h.nodes
  pub files : plan.head.files ≡ length h.files

-- the same bytes come from the position, which is one of the stream too
record IsSame (g : Geometry) (h : History) (image : ℕ → List ℕ) (records : List Listed) (bytes : List ℕ) (position : Position) : Type 0 where
  bytes_are : stream_from g h position ≡ bytes
  at : IsAt image h position records

-- as many records are listed as the file at hand has versions
abbrev pub AreLong : History → List Listed → Position → Type 0
AreLong h records Head = Unit {0}
AreLong h records (Leaf at) = Unit {0}
AreLong h records (Node at) = Unit {0}
AreLong h records (File at) = Unit {0}
AreLong h records (Version next at) = length records ≡ length (versions_before h next)
AreLong h records End = Unit {0}

module _ (g : Geometry) (plan : StreamPlan) (h : History) (counts : HasCounts plan h) (image : ℕ → List ℕ) (records : List Listed) where
  file_same : (at : ℕ) → at ≤ length h.files → IsSame g h image records (flat_map file_item (drop at h.files)) (file_or_end plan at)
  file_same at le = by (nat_lt at plan.head.files) refl
    where
      by : (b : Bool) → nat_lt at plan.head.files ≡ b → IsSame g h image records (flat_map file_item (drop at h.files)) (if b then File at else End)
      by true lt = record { bytes_are = refl; at = le }
      by false lt = let past = ltb-false at plan.head.files lt in
          record { bytes_are = sym (none_left file_item h.files at (omega (arith, past, counts.files))); at = tt }

  node_same : (at : ℕ) → at ≤ length h.nodes → IsSame g h image records (flat_map node_item (drop at h.nodes) ++ flat_map file_item h.files) (node_or_file plan at)
  node_same at le = by (nat_lt at (length plan.nodes)) refl
    where
      by : (b : Bool) → nat_lt at (length plan.nodes) ≡ b → IsSame g h image records (flat_map node_item (drop at h.nodes) ++ flat_map file_item h.files) (if b then Node at else file_or_end plan 0)
      by true lt = record { bytes_are = refl; at = le }
      by false lt =
          let past = ltb-false at (length plan.nodes) lt in
          let none : flat_map node_item (drop at h.nodes) ≡ [] = none_left node_item h.nodes at (omega (arith, past, counts.nodes)) in
          let rest = file_same 0 (omega arith) in
          record { bytes_are = rest.bytes_are ∙ sym (ap (λ (xs : List ℕ). xs ++ flat_map file_item h.files) none); at = rest.at }

  leaf_same : (at : ℕ) → at ≤ length h.leaves → IsSame g h image records (flat_map leaf_item (drop at h.leaves) ++ (flat_map node_item h.nodes ++ flat_map file_item h.files)) (leaf_or_node plan at)
  leaf_same at le = by (nat_lt at (length plan.leaves)) refl
    where
      by : (b : Bool) → nat_lt at (length plan.leaves) ≡ b → IsSame g h image records (flat_map leaf_item (drop at h.leaves) ++ (flat_map node_item h.nodes ++ flat_map file_item h.files)) (if b then Leaf at else node_or_file plan 0)
      by true lt = record { bytes_are = refl; at = le }
      by false lt =
          let past = ltb-false at (length plan.leaves) lt in
          let none : flat_map leaf_item (drop at h.leaves) ≡ [] = none_left leaf_item h.leaves at (omega (arith, past, counts.leaves)) in
          let rest = node_same 0 (omega arith) in
          record { bytes_are = rest.bytes_are ∙ sym (ap (λ (xs : List ℕ). xs ++ (flat_map node_item h.nodes ++ flat_map file_item h.files)) none); at = rest.at }

  version_same : (next at : ℕ) → IsAt image h (Version next at) records → length records ≡ length (versions_before h next)
      → IsSame g h image records (stream_from g h (Version next at)) (if nat_lt at (length records) then Version next at else file_or_end plan next)
  version_same next at is long = by (nat_lt at (length records)) refl
    where
      by : (b : Bool) → nat_lt at (length records) ≡ b → IsSame g h image records (stream_from g h (Version next at)) (if b then Version next at else file_or_end plan next)
      by true lt = record { bytes_are = refl; at = is }
      by false lt =
          let past = ltb-false at (length records) lt in
          let none : flat_map version_item (drop at (versions_before h next)) ≡ [] = none_left version_item (versions_before h next) at (omega (arith, past, long)) in
          let rest = file_same next is.1 in
          record { bytes_are = rest.bytes_are ∙ sym (ap (λ (xs : List ℕ). xs ++ flat_map file_item (drop next h.files)) none); at = rest.at }

  same_settled : (position : Position) → IsAt image h position records → AreLong h records position → IsSame g h image records (stream_from g h position) (settled plan (length records) position)
  same_settled Head is long = record { bytes_are = refl; at = tt }
  same_settled (Leaf at) is long = leaf_same at is
  same_settled (Node at) is long = node_same at is
  same_settled (File at) is long = file_same at is
  same_settled (Version next at) is long = version_same next at is long
  same_settled End is long = record { bytes_are = refl; at = tt }

  pub settled_bytes : (position : Position) → IsAt image h position records → AreLong h records position → stream_from g h (settled plan (length records) position) ≡ stream_from g h position
  settled_bytes position is long = let same = same_settled position is long in same.bytes_are

  pub settled_at : (position : Position) → IsAt image h position records → AreLong h records position → IsAt image h (settled plan (length records) position) records
  settled_at position is long = let same = same_settled position is long in same.at
