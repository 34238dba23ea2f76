-- A carriage return at the end of a line.
use Rattle.std.proofs.Common.{◌≡◌, ℕ, zero, suc, ◌-◌, List, [], ◌∷◌, length, take, Some, None, false, ap, ◌∙◌, arith, refl}
use Rattle.std.specs.Prelude.{slice_get, ◌==◌}
use Rattle.std.proofs.lemmas.Bool.Decides.{nat_tests}
use Rattle.std.proofs.lemmas.List.{take_all}
use Rattle.script_lines.specs.Lines.{without_return}

without_last : (xs : List ℕ) (n : ℕ) → length xs ≡ suc n → Some 13 ≡ slice_get xs n → take n xs ≡ without_return xs
without_last [] n size last = absurd (omega arith)
without_last (b ∷ []) zero size last = let e : b ≡ 13 = cc in rw e refl
without_last (b ∷ []) (suc n) size last = absurd (omega arith)
without_last (b ∷ c ∷ bs) zero size last = absurd (omega arith)
without_last (b ∷ c ∷ bs) (suc n) size last = ap (λ (l : List ℕ). b ∷ l) (without_last (c ∷ bs) n (omega arith) last)

differs : (x : ℕ) → (x ≡ 13 → ⊥) → x == 13 ≡ false
differs x other = grind (arith, nat_tests)

with_last : (xs : List ℕ) (n b : ℕ) → length xs ≡ suc n → Some b ≡ slice_get xs n → (b ≡ 13 → ⊥) → xs ≡ without_return xs
with_last [] n b size last other = absurd (omega arith)
with_last (x ∷ []) zero b size last other = let e : b ≡ x = cc in rw (differs x (λ h. other (e ∙ h))) refl
with_last (x ∷ []) (suc n) b size last other = absurd (omega arith)
with_last (x ∷ c ∷ bs) zero b size last other = absurd (omega arith)
with_last (x ∷ c ∷ bs) (suc n) b size last other = ap (λ (l : List ℕ). x ∷ l) (with_last (c ∷ bs) n b (omega arith) last other)

size_of : (xs : List ℕ) (b : ℕ) → Some b ≡ slice_get xs (length xs - 1) → length xs ≡ suc (length xs - 1)
size_of [] b last = absurd (let bad : Some b ≡ None = last in cc)
size_of (x ∷ xs) b last = omega arith

-- the last byte is a carriage return
pub return_dropped : (xs : List ℕ) → Some 13 ≡ slice_get xs (length xs - 1) → take (length xs - 1) xs ≡ without_return xs
return_dropped xs last = without_last xs (length xs - 1) (size_of xs 13 last) last

-- the last byte is another
pub return_missing : (xs : List ℕ) (b : ℕ) → Some b ≡ slice_get xs (length xs - 1) → (b ≡ 13 → ⊥) → take (length xs) xs ≡ without_return xs
return_missing xs b last other = take_all (length xs) xs (omega arith) ∙ with_last xs (length xs - 1) b (size_of xs b last) last other
