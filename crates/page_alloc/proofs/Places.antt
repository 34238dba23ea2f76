-- What the unit that a page names has, after a write at one unit.
use Rattle.std.proofs.Common.{◌≡◌, ℕ, ◌+◌, ◌*◌, ◌/◌, ◌%◌, ◌-◌, ◌<◌, ◌≤◌, ◌≢◌, inl, inr, Bool, true, false, cond, List, length, get_or, refl, ap, sym, ◌∙◌, arith, zero, suc, get_or-set_same, get_or-set_other, length-set, add-one}
use Rattle.std.proofs.Math.ListN.{set}
use Rattle.std.proofs.Math.Nat.{mul-div_cancel}
use Rattle.std.specs.Prelude.{eqb, take, not}
use mathlib.Core.Path.{fun_ext}
use Rattle.std.proofs.lemmas.Bool.{cases_eq, cases_lt, cases_Bool, lt-ltb, le-ltb, eq-eqb, ne_eqb, eqb-true, cond-false}
use Rattle.std.proofs.lemmas.Nat.{div-add-mod', mod-mul-add}
use Rattle.std.proofs.lemmas.List.{get_or_default}
use Rattle.std.proofs.lemmas.List.Sums.{count_by_more_no, count_by_more_yes}
use Rattle.ex_base.specs.declared.geometry.Geometry.{Geometry}
use Rattle.ex_base.specs.Area.{area_end}
use Rattle.page_alloc.specs.Flags.{count_free}
use Rattle.page_alloc.specs.UnitSet.{at_unit, updated, free_below}

at_low : {A : Type 0} (g : Geometry) (xs ys : List A) (d : A) (q : ℕ) → q < 257 → at_unit g xs ys d q ≡ d
unfolding at_unit
at_low g xs ys d q h = rw (lt-ltb q 257 h)

at_page : {A : Type 0} (g : Geometry) (xs ys : List A) (d : A) (q : ℕ) → 257 ≤ q → q < area_end g → at_unit g xs ys d q ≡ get_or xs (q - 257) d
unfolding at_unit
at_page g xs ys d q h b = rw (le-ltb q 257 h, lt-ltb q (area_end g) b)

at_seg : {A : Type 0} (g : Geometry) (xs ys : List A) (d : A) (q : ℕ) → area_end g ≤ q → at_unit g xs ys d q ≡ cond (eqb ((q - area_end g) % g.seg_len) 0) (get_or ys ((q - area_end g) / g.seg_len) d) d
unfolding at_unit
at_seg g xs ys d q h =
    let low : 257 ≤ q = omega arith in
    rw (le-ltb q 257 low, le-ltb q (area_end g) h)

-- at the i-th page of the page area
pub at_unit-page : {A : Type 0} (g : Geometry) (xs ys : List A) (d e : A) (i : ℕ) → i < g.pages → length xs ≡ g.pages → at_unit g xs ys d (257 + i) ≡ get_or xs i e
at_unit-page g xs ys d e i h len =
    let place : (257 + i) - 257 ≡ i = omega arith in
    at_page g xs ys d (257 + i) (omega arith) (omega arith) ∙ (ap (λ n. get_or xs n d) place ∙ get_or_default xs i d e (omega arith))

-- at the j-th unit of the segment area
pub at_unit-seg : {A : Type 0} (g : Geometry) (xs ys : List A) (d e : A) (j : ℕ) → 1 ≤ g.seg_len → j < g.segs → length ys ≡ g.segs → at_unit g xs ys d (area_end g + j * g.seg_len) ≡ get_or ys j e
at_unit-seg g xs ys d e j pos h len =
    let off : (area_end g + j * g.seg_len) - area_end g ≡ j * g.seg_len + 0 = omega arith in
    let plain : j * g.seg_len + 0 ≡ j * g.seg_len = omega arith in
    let whole : (j * g.seg_len + 0) % g.seg_len ≡ 0 = mod-mul-add j g.seg_len 0 (omega arith) in
    let place : (j * g.seg_len + 0) / g.seg_len ≡ j = ap (λ n. n / g.seg_len) plain ∙ mul-div_cancel j (omega arith) in
    at_seg g xs ys d (area_end g + j * g.seg_len) (omega arith) ∙
    rw (off, eq-eqb _ _ whole, place) (get_or_default ys j d e (omega arith))

-- a write at the i-th page
pub at_unit-set_page : {A : Type 0} (g : Geometry) (xs ys : List A) (d v : A) (i : ℕ) → i < g.pages → length xs ≡ g.pages → at_unit g (set xs i v) ys d ≡ updated (at_unit g xs ys d) (257 + i) v
at_unit-set_page g xs ys d v i h len = fun_ext (λ q. elim (cases_eq q (257 + i)) [
  | inl same ↦
      let place : q - 257 ≡ i = omega arith in
      rw (eq-eqb q (257 + i) same) (at_page g (set xs i v) ys d q (omega arith) (omega arith) ∙ (ap (λ n. get_or (set xs i v) n d) place ∙ get_or-set_same xs i v d (omega arith)))
  | inr other ↦ rw (ne_eqb q (257 + i) other) (elim (cases_lt q 257) [
    | inl low ↦ at_low g (set xs i v) ys d q low ∙ sym (at_low g xs ys d q low)
    | inr page ↦ elim (cases_lt q (area_end g)) [
      | inl below ↦ let n : q - 257 ≢ i = omega arith in
          at_page g (set xs i v) ys d q page below ∙ (get_or-set_other xs i (q - 257) v d n ∙ sym (at_page g xs ys d q page below))
      | inr above ↦ at_seg g (set xs i v) ys d q above ∙ sym (at_seg g xs ys d q above)
    ]
  ])
])

-- the page of the j-th unit
seg_place : (g : Geometry) (q j : ℕ) → area_end g ≤ q → (q - area_end g) % g.seg_len ≡ 0 → (q - area_end g) / g.seg_len ≡ j → q ≡ area_end g + j * g.seg_len
seg_place g q j above whole place =
    let split : (q - area_end g) / g.seg_len * g.seg_len + (q - area_end g) % g.seg_len ≡ q - area_end g = div-add-mod' (q - area_end g) g.seg_len in
    let times : (q - area_end g) / g.seg_len * g.seg_len ≡ j * g.seg_len = ap (λ n. n * g.seg_len) place in
    omega arith

-- a write at the j-th unit of the segment area
pub at_unit-set_seg : {A : Type 0} (g : Geometry) (xs ys : List A) (d v : A) (j : ℕ) → 1 ≤ g.seg_len → j < g.segs → length ys ≡ g.segs → at_unit g xs (set ys j v) d ≡ updated (at_unit g xs ys d) (area_end g + j * g.seg_len) v
at_unit-set_seg g xs ys d v j pos h len = fun_ext (λ q. elim (cases_eq q (area_end g + j * g.seg_len)) [
  | inl same ↦
      let size : length (set ys j v) ≡ g.segs = length-set ys j v ∙ len in
      rw (eq-eqb q (area_end g + j * g.seg_len) same)
      (ap (λ p. at_unit g xs (set ys j v) d p) same ∙ (at_unit-seg g xs (set ys j v) d d j pos h size ∙ get_or-set_same ys j v d (omega arith)))
  | inr other ↦ rw (ne_eqb q (area_end g + j * g.seg_len) other) (elim (cases_lt q 257) [
    | inl low ↦ at_low g xs (set ys j v) d q low ∙ sym (at_low g xs ys d q low)
    | inr page ↦ elim (cases_lt q (area_end g)) [
      | inl below ↦ at_page g xs (set ys j v) d q page below ∙ sym (at_page g xs ys d q page below)
      | inr above ↦
          at_seg g xs (set ys j v) d q above ∙ (elim (cases_Bool (eqb ((q - area_end g) % g.seg_len) 0)) [
            | inl whole ↦
                let n : (q - area_end g) / g.seg_len ≢ j = λ e. other (seg_place g q j above (eqb-true _ _ whole) e) in
                ap (λ w. cond (eqb ((q - area_end g) % g.seg_len) 0) w d) (get_or-set_other ys j ((q - area_end g) / g.seg_len) v d n)
            | inr part ↦ cond-false _ _ _ part ∙ sym (cond-false _ _ _ part)
          ] ∙ sym (at_seg g xs ys d q above))
    ]
  ])
])

-- one more flag
count_free-more : (xs : List Bool) (n : ℕ) → n < length xs → count_free (take (n + 1) xs) ≡ count_free (take n xs) + cond (get_or xs n true) 0 1
count_free-more xs n h = elim (cases_Bool (get_or xs n true)) [
  | inl used ↦ let no : not (get_or xs n true) ≡ false = rw used in
      rw used (omega (arith, count_by_more_no not xs n true h no))
  | inr free ↦ let one : not (get_or xs n true) ≡ true = rw free in
      rw free (omega (arith, count_by_more_yes not xs n true h one))
]

-- how many units are free, by the list of their flags
pub free_below_is : (f : ℕ → Bool) (at : ℕ → ℕ) (xs : List Bool) (n : ℕ) → n ≤ length xs → ((i : ℕ) → i < n → f (at i) ≡ get_or xs i true) → free_below f at n ≡ count_free (take n xs)
unfolding free_below
free_below_is f at xs zero h same = refl
free_below_is f at xs (suc n) h same =
    let below : free_below f at n ≡ count_free (take n xs) = free_below_is f at xs n (omega arith) (λ i l. same i (omega arith)) in
    let here : f (at n) ≡ get_or xs n true = same n (omega arith) in
    let more : count_free (take (n + 1) xs) ≡ count_free (take n xs) + cond (get_or xs n true) 0 1 = count_free-more xs n (omega arith) in
    ap (λ w. w + cond (f (at n)) 0 1) below ∙
    (ap (λ b. count_free (take n xs) + cond b 0 1) here ∙ (sym more ∙ ap (λ m. count_free (take m xs)) (add-one n)))
