-- What the item of a leaf needs.
use Rattle.std.proofs.Common.{◌≡◌, ℕ, ◌+◌, ◌≤◌, ◌^◌, true, ◌&&◌, nat_le, List, ◌++◌, length, drop, refl, ap, ◌∙◌, arith}
use Rattle.std.proofs.lemmas.Bool.{and_from, and_parts, le-leb, leb-true}
use Rattle.std.proofs.lemmas.List.{length-append, length-drop}
use Rattle.disk_model.specs.Outside.{BeginsWith}
use Rattle.ex_base.specs.declared.geometry.Geometry.{Geometry}
use Rattle.ex_base.specs.Bytes.{IsBytes}
use Rattle.ex_base.specs.Fields.{four_bytes, number_at}
use Rattle.ex_base.specs.Sizes.{leaf_bytes}
use Rattle.ex_base.proofs.FieldLaws.{four_is}
use Rattle.ex_base.proofs.Geometries.{leaf_most}
use Rattle.ex_base.proofs.Places.{number_spelled}
use Rattle.history_model.specs.Items.{IsLeafItem}
use Rattle.history_model.specs.Stream.{leaf_item}
use Rattle.history_items.specs.Gathering.{item_most}
use Rattle.history_items.specs.Needs.{Needs, need_of_leaf}
use Rattle.history_items.proofs.ItemNeeds.{needs_behind, needs_whole, number_begun}

leaf_len : (leaf : List ℕ) → length (leaf_item leaf) ≡ 4 + length leaf
leaf_len leaf = omega (arith, length-append (four_bytes (length leaf)) leaf, four_is.len (length leaf))

-- the length that stands in front
len_begun : (g : Geometry) (leaf bytes : List ℕ) → IsLeafItem g leaf → BeginsWith (leaf_item leaf) bytes → 4 ≤ length bytes → number_at 4 bytes 0 ≡ length leaf
len_begun g leaf bytes is begins long = number_begun 4 (leaf_item leaf) bytes 0 begins long ∙ four_is.again (length leaf) leaf (omega (arith, is.1, leaf_most g))

-- a number within two others passes for it
pub is_within : (low n high : ℕ) → low ≤ n → n ≤ high → (nat_le low n && nat_le n high) ≡ true
is_within low n high a b = and_from (nat_le low n) (nat_le n high) (le-leb low n a) (le-leb n high b)

pub within : (low n high : ℕ) → (nat_le low n && nat_le n high) ≡ true → (low ≤ n) × (n ≤ high)
within low n high e =
    let both = and_parts (nat_le low n) (nat_le n high) e in
    (leb-true low n both.0, leb-true n high both.1)

pub leaf_spelled : (bytes : List ℕ) → IsBytes bytes → length bytes ≡ 4 + number_at 4 bytes 0 → bytes ≡ leaf_item (drop 4 bytes)
leaf_spelled bytes are len =
    let here : bytes ≡ four_bytes (number_at 4 bytes 0) ++ drop 4 bytes = number_spelled 4 (2 ^ 32) four_bytes four_is bytes 0 4 are refl (omega arith) in
    let same : number_at 4 bytes 0 ≡ length (drop 4 bytes) = omega (arith, length-drop 4 bytes) in
    here ∙ ap (λ (n : ℕ). four_bytes n ++ drop 4 bytes) same

pub leaf_needs : (g : Geometry) (bytes : List ℕ) → IsBytes bytes → Needs (List ℕ) (IsLeafItem g) leaf_item (item_most g) bytes (need_of_leaf g bytes)
leaf_needs g bytes are =
    let n : ℕ = number_at 4 bytes 0 in
    needs_behind (List ℕ) (IsLeafItem g) leaf_item (item_most g) bytes 4 _ _ (omega arith)
    (λ leaf is. omega (arith, leaf_len leaf))
    (λ long leaf is begins. let same = len_begun g leaf bytes is begins long in is_within 1 (number_at 4 bytes 0) (leaf_bytes g) (omega (arith, same, is.0)) (omega (arith, same, is.1)))
    (λ long good. let bounds = within 1 (number_at 4 bytes 0) (leaf_bytes g) good in
    needs_whole (List ℕ) (IsLeafItem g) leaf_item (item_most g) bytes (4 + number_at 4 bytes 0) true (omega (arith, bounds.1))
    (λ leaf is begins. omega (arith, leaf_len leaf, len_begun g leaf bytes is begins long))
    (λ leaf is e. refl)
    (λ len _. (drop 4 bytes, (omega (arith, length-drop 4 bytes, bounds.0, len), omega (arith, length-drop 4 bytes, bounds.1, len)), leaf_spelled bytes are len)))
