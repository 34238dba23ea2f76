-- A list with other items at a place.
use Rattle.std.proofs.Common.{◌≡◌, ◌<◌, ◌+◌, ℕ, zero, suc, Bool, true, false, List, [], ◌∷◌, ◌++◌, length, take, drop, refl, sym, ap, ◌∙◌, arith}
use Rattle.std.specs.Prelude.{slice_set}
use Rattle.std.specs.List.{insert}
use Rattle.std.proofs.lemmas.List.{length-append}
use Rattle.file_index.specs.declared.Entry.{Entry}
use Rattle.file_index.specs.Nodes.{joined}

pub set_parts : (xs : List Entry) (at : ℕ) (y : Entry) → at < length xs → slice_set xs at y ≡ take at xs ++ (y ∷ drop (at + 1) xs)
set_parts [] at y lt = absurd (omega arith)
set_parts (x ∷ xs) zero y lt = refl
set_parts (x ∷ xs) (suc at) y lt =
    let count : suc (at + 1) ≡ suc at + 1 = omega arith in
    ap (λ (t : List Entry). x ∷ t) (set_parts xs at y (omega arith)) ∙ ap (λ (k : ℕ). x ∷ (take at xs ++ (y ∷ drop k (x ∷ xs)))) count

pub insert_parts : (xs : List Entry) (at : ℕ) (y z : Entry) → at < length xs → insert (slice_set xs at y) (at + 1) z ≡ take at xs ++ ((y ∷ z ∷ []) ++ drop (at + 1) xs)
insert_parts [] at y z lt = absurd (omega arith)
insert_parts (x ∷ xs) zero y z lt = refl
insert_parts (x ∷ xs) (suc at) y z lt =
    let count : suc (at + 1) ≡ suc at + 1 = omega arith in
    ap (λ (k : ℕ). insert (slice_set (x ∷ xs) (suc at) y) k z) (sym count)
    ∙ ap (λ (t : List Entry). x ∷ t) (insert_parts xs at y z (omega arith)) ∙ ap (λ (k : ℕ). x ∷ (take at xs ++ ((y ∷ z ∷ []) ++ drop k (x ∷ xs)))) count

pub two_parts : (xs : List Entry) (at : ℕ) (y z : Entry) → at + 1 < length xs → slice_set (slice_set xs at y) (at + 1) z ≡ take at xs ++ ((y ∷ z ∷ []) ++ drop (at + 2) xs)
two_parts [] at y z lt = absurd (omega arith)
two_parts (x ∷ []) at y z lt = absurd (omega arith)
two_parts (x ∷ x' ∷ xs) zero y z lt = refl
two_parts (x ∷ x' ∷ xs) (suc at) y z lt =
    let count : suc (at + 1) ≡ suc at + 1 = omega arith in
    let more : suc (at + 2) ≡ suc at + 2 = omega arith in
    ap (λ (k : ℕ). slice_set (slice_set (x ∷ x' ∷ xs) (suc at) y) k z) (sym count)
    ∙ ap (λ (t : List Entry). x ∷ t) (two_parts (x' ∷ xs) at y z (omega arith)) ∙ ap (λ (k : ℕ). x ∷ (take at (x' ∷ xs) ++ ((y ∷ z ∷ []) ++ drop k (x ∷ x' ∷ xs)))) more

pub joined_length : (own_is_left : Bool) (own other : List Entry) → length (joined own_is_left own other) ≡ length own + length other
joined_length true own other = length-append own other
joined_length false own other = omega (arith, length-append other own)
