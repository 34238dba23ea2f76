-- What the head of a file's item needs and says.
use Rattle.std.proofs.Common.{◌≡◌, ℕ, ◌+◌, ◌≤◌, ◌^◌, true, ◌&&◌, nat_le, List, [], ◌∷◌, ◌++◌, length, drop, refl, sym, ap, ◌∙◌, arith}
use Rattle.std.specs.Prelude.{IsTrue, slice_index}
use Rattle.std.specs.List.{list_all}
use Rattle.std.proofs.lemmas.Bool.{and_from, and_parts}
use Rattle.std.proofs.lemmas.List.{append-nil, drop-drop, drop_all, drop_at, length-append, take_at}
use Rattle.disk_model.specs.Outside.{BeginsWith}
use Rattle.ex_base.specs.declared.geometry.Geometry.{Geometry}
use Rattle.ex_base.specs.Bytes.{IsBytes, bytes_at}
use Rattle.ex_base.specs.Fields.{four_bytes, number_at}
use Rattle.ex_base.proofs.FieldLaws.{four_is}
use Rattle.ex_base.proofs.Geometries.{leaf_some}
use Rattle.ex_base.proofs.Places.{bytes_spelled, length-bytes_at, number_spelled, number_there}
use Rattle.table_model.specs.Words.{is_name, is_name_byte}
use Rattle.history_items.specs.Gathering.{item_most}
use Rattle.history_items.specs.ItemLaws.{FileFront, IsFileFront, front_bytes}
use Rattle.history_items.specs.Needs.{Needs, need_of_file}
use Rattle.history_items.proofs.ItemNeeds.{byte_begun, needs_behind, needs_whole}
use Rattle.history_items.proofs.LeafItems.{is_within, within}
use Rattle.history_items.proofs.NodeItems.{first_byte}

pub front_len : (f : FileFront) → length (front_bytes f) ≡ 5 + length f.name
front_len f = omega (arith, length-append f.name (four_bytes f.versions), four_is.len f.versions)

-- ---- names

record NameSays (name : List ℕ) : Type 0 where
  some : 1 ≤ length name
  few : length name ≤ 32
  each : list_all is_name_byte name ≡ true

name_says : (name : List ℕ) → IsTrue (is_name name) → NameSays name
name_says name is =
    let both = and_parts (nat_le 1 (length name) && nat_le (length name) 32) (list_all is_name_byte name) is in
    let lens = within 1 (length name) 32 both.0 in
    record { some = lens.0; few = lens.1; each = both.1 }

name_is : (name : List ℕ) → 1 ≤ length name → length name ≤ 32 → list_all is_name_byte name ≡ true → IsTrue (is_name name)
name_is name some few each = and_from (nat_le 1 (length name) && nat_le (length name) 32) (list_all is_name_byte name) (is_within 1 (length name) 32 some few) each

-- ---- what is read

pub name_back : (f : FileFront) → bytes_at (front_bytes f) 1 (length f.name) ≡ f.name
name_back f = take_at f.name (four_bytes f.versions) (length f.name) refl

behind_name : (f : FileFront) → drop (1 + length f.name) (front_bytes f) ≡ four_bytes f.versions ++ []
behind_name f = sym (drop-drop (length f.name) 1 (front_bytes f)) ∙ drop_at f.name (four_bytes f.versions) (length f.name) refl ∙ sym (append-nil (four_bytes f.versions))

pub front_back : (f : FileFront) → IsFileFront f → (bytes_at (front_bytes f) 1 (slice_index (front_bytes f) 0) ≡ f.name) × (number_at 4 (front_bytes f) (1 + slice_index (front_bytes f) 0) ≡ f.versions)
front_back f is = (name_back f, number_there 4 (2 ^ 32) four_bytes four_is (front_bytes f) [] (1 + length f.name) f.versions (behind_name f) is.1)

-- ---- what is spelled by what is read

abbrev front_read : List ℕ → FileFront
front_read bytes = record { name = bytes_at bytes 1 (slice_index bytes 0); versions = number_at 4 bytes (1 + slice_index bytes 0) }

pub front_spelled : (bytes : List ℕ) → IsBytes bytes → length bytes ≡ 5 + slice_index bytes 0 → bytes ≡ front_bytes (front_read bytes)
front_spelled bytes are len =
    let n : ℕ = slice_index bytes 0 in
    let name : drop 1 bytes ≡ bytes_at bytes 1 (slice_index bytes 0) ++ drop (1 + slice_index bytes 0) bytes = bytes_spelled bytes 1 (slice_index bytes 0) (1 + slice_index bytes 0) refl in
    let count : drop (1 + slice_index bytes 0) bytes ≡ four_bytes (number_at 4 bytes (1 + slice_index bytes 0)) ++ drop (5 + slice_index bytes 0) bytes =
    number_spelled 4 (2 ^ 32) four_bytes four_is bytes (1 + slice_index bytes 0) (5 + slice_index bytes 0) are (omega arith) (omega arith) in
    let none : drop (5 + slice_index bytes 0) bytes ≡ [] = drop_all (5 + slice_index bytes 0) bytes (omega arith) in
    let size : length (bytes_at bytes 1 (slice_index bytes 0)) ≡ slice_index bytes 0 = length-bytes_at bytes 1 (slice_index bytes 0) (omega arith) in
    first_byte bytes (omega arith)
    ∙ ap (λ (t : List ℕ). slice_index bytes 0 ∷ t) name
    ∙ ap (λ (t : List ℕ). slice_index bytes 0 ∷ (bytes_at bytes 1 (slice_index bytes 0) ++ t)) (count ∙ ap (λ (t : List ℕ). four_bytes (number_at 4 bytes (1 + slice_index bytes 0)) ++ t) none ∙ append-nil (four_bytes (number_at 4 bytes (1 + slice_index bytes 0))))
    ∙ ap (λ (k : ℕ). k ∷ (bytes_at bytes 1 (slice_index bytes 0) ++ four_bytes (number_at 4 bytes (1 + slice_index bytes 0)))) (sym size)

-- ---- its need

pub file_needs : (g : Geometry) (bytes : List ℕ) → IsBytes bytes → Needs FileFront IsFileFront front_bytes (item_most g) bytes (need_of_file bytes)
file_needs g bytes are =
    needs_behind FileFront IsFileFront front_bytes (item_most g) bytes 1 _ _ (omega (arith, leaf_some g))
    (λ f is. omega (arith, front_len f))
    (λ long f is begins. let len = len_begun f begins long in let says = name_says f.name is.0 in is_within 1 (slice_index bytes 0) 32 (omega (arith, len, says.some)) (omega (arith, len, says.few)))
    (λ long good. let bounds = within 1 (slice_index bytes 0) 32 good in
    needs_whole FileFront IsFileFront front_bytes (item_most g) bytes (5 + slice_index bytes 0) _ (omega (arith, bounds.1, leaf_some g))
    (λ f is begins. omega (arith, front_len f, len_begun f begins long))
    (λ f is e. passes f is e)
    (λ len each. (front_read bytes, (made len bounds.0 bounds.1 each, four_is.below bytes (1 + slice_index bytes 0) are), front_spelled bytes are len)))
  where
    len_begun : (f : FileFront) → BeginsWith (front_bytes f) bytes → 1 ≤ length bytes → slice_index bytes 0 ≡ length f.name
    len_begun f begins long = byte_begun (front_bytes f) bytes 0 begins (omega arith)

    passes : (f : FileFront) → IsFileFront f → bytes ≡ front_bytes f → list_all is_name_byte (bytes_at bytes 1 (slice_index bytes 0)) ≡ true
    passes f is e =
        let same : bytes_at bytes 1 (slice_index bytes 0) ≡ f.name = ap (λ (t : List ℕ). bytes_at t 1 (slice_index t 0)) e ∙ name_back f in
        ap (list_all is_name_byte) same ∙ (name_says f.name is.0).each

    made : length bytes ≡ 5 + slice_index bytes 0 → 1 ≤ slice_index bytes 0 → slice_index bytes 0 ≤ 32 → list_all is_name_byte (bytes_at bytes 1 (slice_index bytes 0)) ≡ true → IsTrue (is_name (bytes_at bytes 1 (slice_index bytes 0)))
    made len some few each =
        let size : length (bytes_at bytes 1 (slice_index bytes 0)) ≡ slice_index bytes 0 = length-bytes_at bytes 1 (slice_index bytes 0) (omega arith) in
        name_is (bytes_at bytes 1 (slice_index bytes 0)) (omega (arith, size)) (omega (arith, size)) each
