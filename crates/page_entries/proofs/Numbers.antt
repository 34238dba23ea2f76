-- Numbers of four bytes that stand one behind the other.
use Rattle.std.proofs.Common.{◌≡◌, ◌≢◌, ℕ, zero, suc, ◌+◌, ◌-◌, ◌*◌, ◌^◌, ◌<◌, ◌≤◌, List, [], ◌∷◌, ◌++◌, length, drop, map, get_or, Some, refl, sym, ap, subst, ◌∙◌, arith, append_assoc, slice_get}
use Rattle.std.specs.Prelude.{Contains}
use Rattle.std.specs.List.{flat_map, AllByRecursion}
use Rattle.std.proofs.lemmas.List.{length-append}
use Rattle.ex_base.specs.Bytes.{IsBytes}
use Rattle.ex_base.specs.Fields.{four_bytes, number_at}
use Rattle.ex_base.proofs.Each.{each_from, each_of}
use Rattle.ex_base.proofs.FieldLaws.{four_is}
use Rattle.ex_base.proofs.Places.{behind_more, number_there, number_spelled}
use Rattle.file_index.specs.Index.{Rises}
use Rattle.object_files.specs.Catalog.{FileEntry, number_of}
use Rattle.page_entries.specs.Said.{FitsNumber, NoneOf, numbers_read}

-- ---- a loop over them

pub rise_here : (b : List ℕ) (n i least : ℕ) → i < n → Rises least (numbers_read b (n - i) (18 + 4 * i)) → (least ≤ number_at 4 b (18 + 4 * i)) × Rises (number_at 4 b (18 + 4 * i) + 1) (numbers_read b (n - (i + 1)) (18 + 4 * (i + 1)))
rise_here b n i least lt h =
    let s = subst (λ (k : ℕ). Rises least (numbers_read b k (18 + 4 * i))) (let e : n - i ≡ suc (n - (i + 1)) = omega arith in e) h in
    (s.0, subst (λ (p : ℕ). Rises (number_at 4 b (18 + 4 * i) + 1) (numbers_read b (n - (i + 1)) p)) (let e : 18 + 4 * i + 4 ≡ 18 + 4 * (i + 1) = omega arith in e) s.1)

pub rise_back : (b : List ℕ) (n i least : ℕ) → i < n → least ≤ number_at 4 b (18 + 4 * i) → Rises (number_at 4 b (18 + 4 * i) + 1) (numbers_read b (n - (i + 1)) (18 + 4 * (i + 1))) → Rises least (numbers_read b (n - i) (18 + 4 * i))
rise_back b n i least lt le h =
    subst (λ (k : ℕ). Rises least (numbers_read b k (18 + 4 * i))) (let e : suc (n - (i + 1)) ≡ n - i = omega arith in e)
    (le, subst (λ (p : ℕ). Rises (number_at 4 b (18 + 4 * i) + 1) (numbers_read b (n - (i + 1)) p)) (let e : 18 + 4 * (i + 1) ≡ 18 + 4 * i + 4 = omega arith in e) h)

-- ---- one of them

pub length-numbers : (b : List ℕ) (n at : ℕ) → length (numbers_read b n at) ≡ n
length-numbers b zero at = refl
length-numbers b (suc n) at = ap suc (length-numbers b n (at + 4))

numbers_get : (b : List ℕ) (n at k d : ℕ) → k < n → get_or (numbers_read b n at) k d ≡ number_at 4 b (at + 4 * k)
numbers_get b zero at k d lt = absurd (omega arith)
numbers_get b (suc n) at zero d lt = ap (number_at 4 b) (let e : at ≡ at + 4 * 0 = omega arith in e)
numbers_get b (suc n) at (suc k) d lt = numbers_get b n (at + 4) k d (omega arith) ∙ ap (number_at 4 b) (let e : at + 4 + 4 * k ≡ at + 4 * suc k = omega arith in e)

pub number_in : (b : List ℕ) (n k x : ℕ) → k < n → number_at 4 b (18 + 4 * k) ≡ x → Contains (numbers_read b n 18) x
number_in b n k x lt is = (k, omega (arith, length-numbers b n 18), numbers_get b n 18 k x lt ∙ is)

pub number_not_in : (b : List ℕ) (n x : ℕ) → ((k : ℕ) → k < n → number_at 4 b (18 + 4 * k) ≢ x) → Contains (numbers_read b n 18) x → ⊥
number_not_in b n x differ (k, lt, is) =
    let low : k < n = omega (arith, lt, length-numbers b n 18) in
    differ k low (sym (numbers_get b n 18 k x low) ∙ is)

-- ---- none of them is that of a file

pub entry_with : (es : List FileEntry) (k x : ℕ) → k < length (map number_of es) → get_or (map number_of es) k x ≡ x → (e : FileEntry) × (slice_get es k ≡ Some e) × (e.file_no ≡ x)
entry_with [] k x lt is = absurd (omega arith)
entry_with (e ∷ es) zero x lt is = (e, refl, is)
entry_with (e ∷ es) (suc k) x lt is = entry_with es k x (omega arith) is

pub none_of : (xs : List ℕ) (es : List FileEntry) → ((k : ℕ) (e : FileEntry) → slice_get es k ≡ Some e → ¬ Contains xs e.file_no) → NoneOf xs (map number_of es)
none_of xs es apart = each_from (λ x. ¬ Contains (map number_of es) x) xs (λ x here there.
    let found = entry_with es there.0 x there.1 there.2 in
    apart there.0 found.0 found.1 (subst (Contains xs) (sym found.2) here))

-- ---- read and spelled

pub numbers_said : (b : List ℕ) (n at : ℕ) → IsBytes b → at + 4 * n ≤ length b → AllByRecursion FitsNumber (numbers_read b n at) × (drop at b ≡ flat_map four_bytes (numbers_read b n at) ++ drop (at + 4 * n) b)
numbers_said b zero at fits room = (tt, ap (λ (k : ℕ). drop k b) (let e : at ≡ at + 4 * 0 = omega arith in e))
numbers_said b (suc n) at fits room =
    let rest = numbers_said b n (at + 4) fits (omega arith) in (
      (four_is.below b at fits, rest.0),
      number_spelled 4 (2 ^ 32) four_bytes four_is b at (at + 4) fits refl (omega arith)
          ∙ ap (λ (t : List ℕ). four_bytes (number_at 4 b at) ++ t) (rest.1 ∙ ap (λ (k : ℕ). flat_map four_bytes (numbers_read b n (at + 4)) ++ drop k b) (let e : at + 4 + 4 * n ≡ at + 4 * suc n = omega arith in e))
          ∙ sym (append_assoc (four_bytes (number_at 4 b at)) (flat_map four_bytes (numbers_read b n (at + 4))) (drop (at + 4 * suc n) b)),
    )

pub numbers_given : (b rest xs : List ℕ) (at : ℕ) → AllByRecursion FitsNumber xs → drop at b ≡ flat_map four_bytes xs ++ rest → (numbers_read b (length xs) at ≡ xs) × (drop (at + 4 * length xs) b ≡ rest)
numbers_given b rest [] at fits e = (refl, ap (λ (k : ℕ). drop k b) (let same : at + 4 * 0 ≡ at = omega arith in same) ∙ e)
numbers_given b rest (x ∷ xs) at fits e =
    let whole : drop at b ≡ four_bytes x ++ (flat_map four_bytes xs ++ rest) = e ∙ append_assoc (four_bytes x) (flat_map four_bytes xs) rest in
    let next = numbers_given b rest xs (at + 4) fits.1 (behind_more b (four_bytes x) (flat_map four_bytes xs ++ rest) at 4 (at + 4) whole (four_is.len x) refl) in
    let first : number_at 4 b at ≡ x = number_there 4 (2 ^ 32) four_bytes four_is b (flat_map four_bytes xs ++ rest) at x whole fits.0 in
    (cc (first, next.0), ap (λ (k : ℕ). drop k b) (let same : at + 4 * suc (length xs) ≡ at + 4 + 4 * length xs = omega arith in same) ∙ next.1)

pub length-spelled_numbers : (xs : List ℕ) → length (flat_map four_bytes xs) ≡ 4 * length xs
length-spelled_numbers [] = refl
length-spelled_numbers (x ∷ xs) = omega (arith, length-append (four_bytes x) (flat_map four_bytes xs), four_is.len x, length-spelled_numbers xs)

-- what each of them has
pub each_number : (b : List ℕ) (n : ℕ) (P : ℕ → Type 0) → ((k : ℕ) → k < n → P (number_at 4 b (18 + 4 * k))) → AllByRecursion P (numbers_read b n 18)
each_number b n P f = each_from P (numbers_read b n 18) (λ x here.
    let lt : here.0 < n = omega (arith, here.1, length-numbers b n 18) in
    subst P (sym (numbers_get b n 18 here.0 x lt) ∙ here.2) (f here.0 lt))

pub number_has : (b : List ℕ) (n k : ℕ) (P : ℕ → Type 0) → k < n → AllByRecursion P (numbers_read b n 18) → P (number_at 4 b (18 + 4 * k))
number_has b n k P lt each = each_of P (numbers_read b n 18) (number_at 4 b (18 + 4 * k)) each (number_in b n k (number_at 4 b (18 + 4 * k)) lt refl)
