-- What is still to copy, and how many of the low units are free.
use Rattle.std.proofs.Common.{◌≡◌, ◌≢◌, inl, inr, ℕ, zero, suc, ◌+◌, ◌<◌, ◌≤◌, Bool, true, false, List, [], ◌∷◌, Option, Some, None, refl, sym, ap, subst, ◌∙◌, arith, true≢false}
use Rattle.std.proofs.lemmas.Bool.{cases_Bool, cases_eq, cases_lt, lt-leb}
use Rattle.std.proofs.lemmas.Nat.{mul-le}
use Rattle.ex_base.specs.declared.geometry.Geometry.{Geometry}
use Rattle.ex_base.specs.declared.names.Area.TheVariants.{Segment}
use Rattle.ex_base.specs.declared.names.PageNo.{PageNo}
use Rattle.ex_base.specs.Area.{InPageArea, NamesLeaf, unit_at}
use Rattle.ex_base.specs.Ports.{IsLowest, times}
use Rattle.ex_base.proofs.Counts.{times_apart, times_here}
use Rattle.trees.specs.Made.{Has}
use Rattle.trees.proofs.RootSteps.{has_each}
use Rattle.compact.specs.High.{is_high, free_below, one_if_free}
use Rattle.compact.specs.Moved.{Copies, KeepsCopies, one_without, unmoved}
use Rattle.compact.specs.Walk.{AreLeaves}
use Rattle.compact.proofs.Counting.{times_of_has}

-- ---- copies

pub no_more : (was now : Option PageNo) → ((c : PageNo) → was ≡ Some c → now ≡ Some c) → one_without now ≤ one_without was
no_more None None f = omega arith
no_more None (Some c) f = omega arith
no_more (Some c) now f = subst (λ (o : Option PageNo). one_without o ≤ 0) (sym (f c refl)) (omega arith)

pub unmoved_less : (moves after : Copies) (pages : List ℕ) → KeepsCopies moves after → unmoved after pages ≤ unmoved moves pages
unmoved_less moves after [] keeps = omega arith
unmoved_less moves after (p ∷ ps) keeps = omega (arith, no_more (moves p) (after p) (keeps p), unmoved_less moves after ps keeps)

-- a unit that gets its copy
pub unmoved_one : (moves after : Copies) (pages : List ℕ) (page : ℕ) (copy : PageNo) → KeepsCopies moves after → Has pages page → moves page ≡ None → after page ≡ Some copy → unmoved after pages + 1 ≤ unmoved moves pages
unmoved_one moves after [] page copy keeps has none here = absurd has
unmoved_one moves after (p ∷ ps) page copy keeps (inl same) none here =
    let before : one_without (moves p) ≡ 1 = ap one_without (ap moves same ∙ none) in
    let now : one_without (after p) ≡ 0 = ap one_without (ap after same ∙ here) in
    omega (arith, before, now, unmoved_less moves after ps keeps)
unmoved_one moves after (p ∷ ps) page copy keeps (inr rest) none here = omega (arith, no_more (moves p) (after p) (keeps p), unmoved_one moves after ps page copy keeps rest none here)

-- where one page got its copy that is none of these
pub unmoved_same : (moves after : Copies) (pages : List ℕ) (page : ℕ) → ((q : ℕ) → q ≢ page → after q ≡ moves q) → (Has pages page → ⊥) → unmoved after pages ≡ unmoved moves pages
unmoved_same moves after [] page others off = refl
unmoved_same moves after (p ∷ ps) page others off =
    let here : one_without (after p) ≡ one_without (moves p) = ap one_without (others p (λ e. off (inl e))) in
    omega (arith, here, unmoved_same moves after ps page others (λ rest. off (inr rest)))

-- and where it is one of these, each of which stands there once
pub unmoved_exact : (moves after : Copies) (pages : List ℕ) (page : ℕ) (copy : PageNo) → ((q : ℕ) → q ≢ page → after q ≡ moves q) → times page pages ≤ 1 → Has pages page → moves page ≡ None → after page ≡ Some copy
    → unmoved after pages + 1 ≡ unmoved moves pages
unmoved_exact moves after [] page copy others once has none here = absurd has
unmoved_exact moves after (p ∷ ps) page copy others once has none here = elim (cases_eq p page) [
  | inl same ↦
      let before : one_without (moves p) ≡ 1 = ap one_without (ap moves same ∙ none) in
      let now : one_without (after p) ≡ 0 = ap one_without (ap after same ∙ here) in
      let first = times_here page p ps (sym same) in
      omega (arith, before, now, unmoved_same moves after ps page others (λ rest. (let again = times_of_has page ps rest in omega (arith, once, first, again))))
  | inr differ ↦
      let alike : one_without (after p) ≡ one_without (moves p) = ap one_without (others p differ) in
      let apart = times_apart page p ps (λ e. differ (sym e)) in
      let rest : Has ps page = elim has [ inl e ↦ absurd (differ e) | inr behind ↦ behind ] in
      omega (arith, alike, unmoved_exact moves after ps page copy others (omega (arith, once, apart)) rest none here)
]

-- a unit without a copy is one to copy
pub unmoved_some : (moves : Copies) (pages : List ℕ) (page : ℕ) → Has pages page → moves page ≡ None → 1 ≤ unmoved moves pages
unmoved_some moves [] page has none = absurd has
unmoved_some moves (p ∷ ps) page (inl same) none = let one : one_without (moves p) ≡ 1 = ap one_without (ap moves same ∙ none) in omega (arith, one)
unmoved_some moves (p ∷ ps) page (inr rest) none = omega (arith, unmoved_some moves ps page rest none)

-- ---- free low units

-- the units of the segment area lie one after the other
pub ahead : (g : Geometry) (i j : ℕ) → i < j → unit_at g Segment i < unit_at g Segment j
ahead g i j lt = omega (arith, mul-le (i + 1) g.seg_len j g.seg_len (omega arith) (omega arith), g.some_length)

one_free : (g : Geometry) (used : ℕ → Bool) (n : ℕ) → 1 ≤ free_below g used n → (j : ℕ) × (j < n) × (used (unit_at g Segment j) ≡ false)
one_free g used zero h = absurd (omega arith)
one_free g used (suc n) h = elim (cases_Bool (used (unit_at g Segment n))) [
  | inl is ↦
      let none : one_if_free (used (unit_at g Segment n)) ≡ 0 = ap one_if_free is in
      let rest = one_free g used n (omega (arith, h, none)) in (rest.0, omega (arith, rest.1), rest.2)
  | inr free ↦ (n, omega arith, free)
]

-- where a low unit is free, the lowest free one is low
pub lowest_index : (g : Geometry) (used : ℕ → Bool) (dense page : ℕ) → (low : IsLowest g used Segment page) → 1 ≤ free_below g used dense → low.index < dense
lowest_index g used dense page low some =
    let one = one_free g used dense some in
    elim (cases_lt one.0 low.index) [
      | inl before ↦ absurd (true≢false (sym (low.others one.0 before) ∙ one.2))
      | inr behind ↦ omega (arith, behind, one.1)
    ]

pub lowest_low : (g : Geometry) (used : ℕ → Bool) (dense page : ℕ) → IsLowest g used Segment page → 1 ≤ free_below g used dense → is_high g dense page ≡ false
lowest_low g used dense page low some =
    let first = lowest_index g used dense page low some in
    lt-leb (unit_at g Segment dense) page (subst (λ p. p < unit_at g Segment dense) (sym low.named) (ahead g low.index dense first))

pub free_same : (g : Geometry) (used after : ℕ → Bool) (n : ℕ) → ((j : ℕ) → j < n → after (unit_at g Segment j) ≡ used (unit_at g Segment j)) → free_below g after n ≡ free_below g used n
free_same g used after zero same = refl
free_same g used after (suc n) same =
    let here : one_if_free (after (unit_at g Segment n)) ≡ one_if_free (used (unit_at g Segment n)) = ap one_if_free (same n (omega arith)) in
    omega (arith, here, free_same g used after n (λ j lt. same j (omega (arith, lt))))

-- a low unit that is taken is one free low unit less
pub free_less : (g : Geometry) (used after : ℕ → Bool) (page n j : ℕ) → j < n → unit_at g Segment j ≡ page → used page ≡ false → after page ≡ true → ((p : ℕ) → p ≢ page → after p ≡ used p) → free_below g used n ≡ free_below g after n + 1
free_less g used after page zero j lt at was is others = absurd (omega (arith, lt))
free_less g used after page (suc n) j lt at was is others = elim (cases_eq j n) [
  | inl same ↦
      let here : unit_at g Segment n ≡ page = ap (unit_at g Segment) (sym same) ∙ at in
      let one : one_if_free (used (unit_at g Segment n)) ≡ 1 = ap one_if_free (ap used here ∙ was) in
      let none : one_if_free (after (unit_at g Segment n)) ≡ 0 = ap one_if_free (ap after here ∙ is) in
      omega (arith, one, none, free_same g used after n (λ i before. others (unit_at g Segment i) (λ e. (let gap : unit_at g Segment i < unit_at g Segment n = ahead g i n before in omega (arith, gap, e, here)))))
  | inr differ ↦
      let less : j < n = omega (arith, lt, differ) in
      let gap : unit_at g Segment j < unit_at g Segment n = ahead g j n less in
      let alike : one_if_free (after (unit_at g Segment n)) ≡ one_if_free (used (unit_at g Segment n)) = ap one_if_free (others (unit_at g Segment n) (λ e. omega (arith, gap, at, e))) in
      omega (arith, alike, free_less g used after page n j less at was is others)
]

-- a page of the page area is none of them
pub free_beside : (g : Geometry) (used after : ℕ → Bool) (page n : ℕ) → InPageArea g page → ((p : ℕ) → p ≢ page → after p ≡ used p) → free_below g after n ≡ free_below g used n
free_beside g used after page n area others = free_same g used after n (λ j lt. others (unit_at g Segment j) (λ e. omega (arith, e, area.1)))

-- and isn't high
pub page_low : (g : Geometry) (dense page : ℕ) → InPageArea g page → is_high g dense page ≡ false
page_low g dense page area = lt-leb (unit_at g Segment dense) page (omega (arith, area.1))

-- nor is it a leaf
pub no_leaf_page : (g : Geometry) (leaves : List ℕ) (page : ℕ) → AreLeaves g leaves → InPageArea g page → Has leaves page → ⊥
no_leaf_page g leaves page are area has = (let leaf = has_each (NamesLeaf g) leaves page are.named has in omega (arith, leaf.2, area.1))
