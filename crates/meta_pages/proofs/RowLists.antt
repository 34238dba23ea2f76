-- Rows in rising order.
use Rattle.std.proofs.Common.{◌≡◌, ◌≢◌, ◌≤◌, ◌<◌, ◌+◌, ℕ, zero, suc, true, false, cond, List, [], ◌∷◌, length, All, Option, Some, None, is_some, if◌then◌else◌, nat_eq, nat_lt, get_or, slice_set, refl, sym, ap, subst, ◌∙◌, arith, ltb-true, ltb-false, lt-ltb, le-ltb, eqb-true, eq-eqb}
use Rattle.std.proofs.Common.{⊎_elim}
use Rattle.std.specs.List.{AllByRecursion, insert, remove}
use Rattle.std.proofs.lemmas.List.Elements.{All-cons, All-head, All-tail}
use Rattle.std.proofs.lemmas.Bool.{cases_lt, both_ways}
use Rattle.std.specs.Map.{lookup}
use Rattle.meta_pages.specs.Rows.{IsAbove, IsRising, place, with_row, without_row}

pub not_equal_above : (page k : ℕ) → nat_lt k page ≡ false → nat_eq page k ≡ false → page < k
not_equal_above page k low differ = ⊎_elim (λ (lt : page < k). lt) (λ (ge : k ≤ page). absurd (apart (omega (arith, ge, ltb-false k page low)))) (cases_lt page k)
  where
    apart : page ≡ k → ⊥
    apart same = let h = eq-eqb page k same in cc

module _ {V : Type 0} (page : ℕ) where
  above_at : (low : ℕ) (rows : List (ℕ × V)) (at : ℕ) (d : ℕ × V) → IsAbove low rows → at < length rows → low < (get_or rows at d).0
  above_at low [] at d above h = absurd (omega arith)
  above_at low (row ∷ rows) zero d above h = above.0
  above_at low (row ∷ rows) (suc at) d above h = above_at low rows at d above.1 (omega (arith, h))

  -- the place of a page lies behind each row with a lower number
  pub place_behind : (rows : List (ℕ × V)) (at : ℕ) (d : ℕ × V) → IsRising rows → at < length rows → (get_or rows at d).0 < page → suc at ≤ place page rows
  place_behind [] at d rising h low = absurd (omega arith)
  place_behind (row ∷ rows) zero d rising h low = rw (lt-ltb row.0 page low) (omega arith)
  place_behind (row ∷ rows) (suc at) d rising h low =
      let first : row.0 < page = omega (arith, low, above_at row.0 rows at d rising.0 (omega (arith, h))) in
      rw (lt-ltb row.0 page first) (omega (arith, place_behind rows at d rising.1 (omega (arith, h)) low))

  -- and not behind one whose number isn't
  pub place_before : (rows : List (ℕ × V)) (at : ℕ) (d : ℕ × V) → at < length rows → page ≤ (get_or rows at d).0 → place page rows ≤ at
  place_before [] at d h high = absurd (omega arith)
  place_before (row ∷ rows) zero d h high = rw (le-ltb row.0 page high) (omega arith)
  place_before (row ∷ rows) (suc at) d h high = elim (nat_lt row.0 page) as (λ b. cond b (suc (place page rows)) 0 ≤ suc at) [
    | true ↦ omega (arith, place_before rows at d (omega (arith, h)) high)
    | false ↦ omega arith
  ]

  pub place_le : (rows : List (ℕ × V)) → place page rows ≤ length rows
  place_le [] = omega arith
  place_le (row ∷ rows) = elim (nat_lt row.0 page) as (λ b. cond b (suc (place page rows)) 0 ≤ length (row ∷ rows)) [
    | true ↦ omega (arith, place_le rows)
    | false ↦ omega arith
  ]

  -- the row is there
  pub put_set : (v : V) (rows : List (ℕ × V)) (d : ℕ × V) → place page rows < length rows → (get_or rows (place page rows) d).0 ≡ page
      → slice_set rows (place page rows) (page, v) ≡ with_row page v rows
  put_set v [] d h is = absurd (omega arith)
  put_set v (row ∷ rows) d h is = (elim (nat_lt row.0 page) as (λ b. nat_lt row.0 page ≡ b
      → cond b (suc (place page rows)) 0 < length (row ∷ rows) → (get_or (row ∷ rows) (cond b (suc (place page rows)) 0) d).0 ≡ page
      → slice_set (row ∷ rows) (cond b (suc (place page rows)) 0) (page, v) ≡ cond b (row ∷ with_row page v rows) (cond (nat_eq page row.0) ((page, v) ∷ rows) ((page, v) ∷ row ∷ rows))) [
        | true ↦ λ t lt at. ap (λ l. row ∷ l) (put_set v rows d (omega (arith, lt)) at)
        | false ↦ λ t lt at. rw (eq-eqb page row.0 (sym at)) refl
      ]) refl h is

  -- it is not
  pub put_insert : (v : V) (rows : List (ℕ × V)) → (((d : ℕ × V) → place page rows < length rows → (get_or rows (place page rows) d).0 ≢ page))
      → insert rows (place page rows) (page, v) ≡ with_row page v rows
  put_insert v [] h = refl
  put_insert v (row ∷ rows) h = (elim (nat_lt row.0 page) as (λ b. nat_lt row.0 page ≡ b
      → ((d : ℕ × V) → cond b (suc (place page rows)) 0 < length (row ∷ rows) → (get_or (row ∷ rows) (cond b (suc (place page rows)) 0) d).0 ≢ page)
      → insert (row ∷ rows) (cond b (suc (place page rows)) 0) (page, v) ≡ cond b (row ∷ with_row page v rows) (cond (nat_eq page row.0) ((page, v) ∷ rows) ((page, v) ∷ row ∷ rows))) [
        | true ↦ λ t none. ap (λ l. row ∷ l) (put_insert v rows (λ d lt. none d (omega (arith, lt))))
        | false ↦ λ t none. let differ : nat_eq page row.0 ≡ false = not_equal row (none row (omega arith)) in rw differ refl
      ]) refl h
    where
      not_equal : (row : ℕ × V) → (row.0 ≢ page) → nat_eq page row.0 ≡ false
      not_equal row none = (elim (nat_eq page row.0) as (λ b. nat_eq page row.0 ≡ b → b ≡ false) [ true ↦ λ t. absurd (none (sym (eqb-true page row.0 t))) | false ↦ λ t. refl ]) refl

  pub take_found : (rows : List (ℕ × V)) (d : ℕ × V) → place page rows < length rows → (get_or rows (place page rows) d).0 ≡ page
      → remove rows (place page rows) ≡ without_row page rows
  take_found [] d h is = absurd (omega arith)
  take_found (row ∷ rows) d h is = (elim (nat_lt row.0 page) as (λ b. nat_lt row.0 page ≡ b
      → cond b (suc (place page rows)) 0 < length (row ∷ rows) → (get_or (row ∷ rows) (cond b (suc (place page rows)) 0) d).0 ≡ page
      → remove (row ∷ rows) (cond b (suc (place page rows)) 0) ≡ cond b (row ∷ without_row page rows) (cond (nat_eq page row.0) rows (row ∷ rows))) [
        | true ↦ λ t lt at. ap (λ l. row ∷ l) (take_found rows d (omega (arith, lt)) at)
        | false ↦ λ t lt at. rw (eq-eqb page row.0 (sym at)) refl
      ]) refl h is

  pub take_absent : (rows : List (ℕ × V)) → (((d : ℕ × V) → place page rows < length rows → (get_or rows (place page rows) d).0 ≢ page)) → rows ≡ without_row page rows
  take_absent [] h = refl
  take_absent (row ∷ rows) h = (elim (nat_lt row.0 page) as (λ b. nat_lt row.0 page ≡ b
      → ((d : ℕ × V) → cond b (suc (place page rows)) 0 < length (row ∷ rows) → (get_or (row ∷ rows) (cond b (suc (place page rows)) 0) d).0 ≢ page)
      → row ∷ rows ≡ cond b (row ∷ without_row page rows) (cond (nat_eq page row.0) rows (row ∷ rows))) [
        | true ↦ λ t none. ap (λ l. row ∷ l) (take_absent rows (λ d lt. none d (omega (arith, lt))))
        | false ↦ λ t none. let differ : nat_eq page row.0 ≡ false = not_equal row (none row (omega arith)) in rw differ refl
      ]) refl h
    where
      not_equal : (row : ℕ × V) → (row.0 ≢ page) → nat_eq page row.0 ≡ false
      not_equal row none = (elim (nat_eq page row.0) as (λ b. nat_eq page row.0 ≡ b → b ≡ false) [ true ↦ λ t. absurd (none (sym (eqb-true page row.0 t))) | false ↦ λ t. refl ]) refl

  -- the row at the place is what a look-up finds
  place_found : (rows : List (ℕ × V)) (d : ℕ × V) → IsRising rows → place page rows < length rows → (get_or rows (place page rows) d).0 ≡ page → lookup (nat_eq page) rows ≡ Some (get_or rows (place page rows) d).1
  place_found [] d rising h is = absurd (omega arith)
  place_found (row ∷ rows) d rising h is = (elim (nat_lt row.0 page) as (λ b. nat_lt row.0 page ≡ b
      → cond b (suc (place page rows)) 0 < length (row ∷ rows) → (get_or (row ∷ rows) (cond b (suc (place page rows)) 0) d).0 ≡ page
      → lookup (nat_eq page) (row ∷ rows) ≡ Some (get_or (row ∷ rows) (cond b (suc (place page rows)) 0) d).1) [
        | true ↦ λ t lt at. rw (unlike row.0 (ltb-true row.0 page t)) (place_found rows d rising.1 (omega (arith, lt)) at)
        | false ↦ λ t lt at. rw (eq-eqb page row.0 (sym at)) refl
      ]) refl h is
    where
      unlike : (k : ℕ) → k < page → nat_eq page k ≡ false
      unlike k lt = (elim (nat_eq page k) as (λ b. nat_eq page k ≡ b → b ≡ false) [ true ↦ λ t. absurd (omega (arith, lt, eqb-true page k t)) | false ↦ λ t. refl ]) refl

  -- ---- rows stay in order

  above_on : (low high : ℕ) (rows : List (ℕ × V)) → low ≤ high → IsAbove high rows → IsAbove low rows
  above_on low high [] le above = tt
  above_on low high (row ∷ rows) le above = (omega (arith, le, above.0), above_on low high rows le above.1)

  above_with : (low : ℕ) (v : V) (rows : List (ℕ × V)) → low < page → IsAbove low rows → IsAbove low (with_row page v rows)
  above_with low v [] lt above = (lt, tt)
  above_with low v (row ∷ rows) lt above = elim (nat_lt row.0 page) as (λ b. IsAbove low (cond b (row ∷ with_row page v rows) (cond (nat_eq page row.0) ((page, v) ∷ rows) ((page, v) ∷ row ∷ rows)))) [
    | true ↦ (above.0, above_with low v rows lt above.1)
    | false ↦ elim (nat_eq page row.0) as (λ b. IsAbove low (cond b ((page, v) ∷ rows) ((page, v) ∷ row ∷ rows))) [
      | true ↦ (lt, above.1)
      | false ↦ (lt, above)
    ]
  ]

  pub rising_with : (v : V) (rows : List (ℕ × V)) → IsRising rows → IsRising (with_row page v rows)
  rising_with v [] h = (tt, tt)
  rising_with v (row ∷ rows) h = (elim (nat_lt row.0 page) as (λ b. nat_lt row.0 page ≡ b → IsRising (cond b (row ∷ with_row page v rows) (cond (nat_eq page row.0) ((page, v) ∷ rows) ((page, v) ∷ row ∷ rows)))) [
    | true ↦ λ t. (above_with row.0 v rows (ltb-true row.0 page t) h.0, rising_with v rows h.1)
    | false ↦ λ t. (elim (nat_eq page row.0) as (λ b. nat_eq page row.0 ≡ b → IsRising (cond b ((page, v) ∷ rows) ((page, v) ∷ row ∷ rows))) [
      | true ↦ λ e. (above_on page row.0 rows (omega (arith, eqb-true page row.0 e)) h.0, h.1)
      | false ↦ λ e. let lt = not_equal_above page row.0 t e in ((lt, above_on page row.0 rows (omega (arith, lt)) h.0), h)
    ]) refl
  ]) refl

  above_without : (low : ℕ) (rows : List (ℕ × V)) → IsAbove low rows → IsAbove low (without_row page rows)
  above_without low [] above = tt
  above_without low (row ∷ rows) above = elim (nat_lt row.0 page) as (λ b. IsAbove low (cond b (row ∷ without_row page rows) (cond (nat_eq page row.0) rows (row ∷ rows)))) [
    | true ↦ (above.0, above_without low rows above.1)
    | false ↦ elim (nat_eq page row.0) as (λ b. IsAbove low (cond b rows (row ∷ rows))) [ true ↦ above.1 | false ↦ above ]
  ]

  pub rising_without : (rows : List (ℕ × V)) → IsRising rows → IsRising (without_row page rows)
  rising_without [] h = tt
  rising_without (row ∷ rows) h = elim (nat_lt row.0 page) as (λ b. IsRising (cond b (row ∷ without_row page rows) (cond (nat_eq page row.0) rows (row ∷ rows)))) [
    | true ↦ (above_without row.0 rows h.0, rising_without rows h.1)
    | false ↦ elim (nat_eq page row.0) as (λ b. IsRising (cond b rows (row ∷ rows))) [ true ↦ h.1 | false ↦ h ]
  ]

  pub All-with_row : (P : ℕ × V → Type 0) (v : V) (rows : List (ℕ × V)) → P (page, v) → All P rows → All P (with_row page v rows)
  All-with_row P v [] here all = All-cons P (page, v) [] here all
  All-with_row P v (row ∷ rows) here all = elim (nat_lt row.0 page) as (λ b. All P (cond b (row ∷ with_row page v rows) (cond (nat_eq page row.0) ((page, v) ∷ rows) ((page, v) ∷ row ∷ rows)))) [
    | true ↦ All-cons P row (with_row page v rows) (All-head P row rows all) (All-with_row P v rows here (All-tail P row rows all))
    | false ↦ elim (nat_eq page row.0) as (λ b. All P (cond b ((page, v) ∷ rows) ((page, v) ∷ row ∷ rows))) [
      | true ↦ All-cons P (page, v) rows here (All-tail P row rows all)
      | false ↦ All-cons P (page, v) (row ∷ rows) here all
    ]
  ]

  pub All-without_row : (P : ℕ × V → Type 0) (rows : List (ℕ × V)) → All P rows → All P (without_row page rows)
  All-without_row P [] all = all
  All-without_row P (row ∷ rows) all = elim (nat_lt row.0 page) as (λ b. All P (cond b (row ∷ without_row page rows) (cond (nat_eq page row.0) rows (row ∷ rows)))) [
    | true ↦ All-cons P row (without_row page rows) (All-head P row rows all) (All-without_row P rows (All-tail P row rows all))
    | false ↦ elim (nat_eq page row.0) as (λ b. All P (cond b rows (row ∷ rows))) [ true ↦ All-tail P row rows all | false ↦ all ]
  ]

  -- ---- look-ups

  pub none_above : (low : ℕ) (rows : List (ℕ × V)) → page ≤ low → IsAbove low rows → lookup (nat_eq page) rows ≡ None
  none_above low [] le above = refl
  none_above low (row ∷ rows) le above =
      let differ : nat_eq page row.0 ≡ false = not_same row.0 (omega (arith, le, above.0)) in
      rw differ (none_above low rows le above.1)
    where
      not_same : (k : ℕ) → page < k → nat_eq page k ≡ false
      not_same k lt = (elim (nat_eq page k) as (λ b. nat_eq page k ≡ b → b ≡ false) [ true ↦ λ t. absurd (omega (arith, lt, eqb-true page k t)) | false ↦ λ t. refl ]) refl

  -- a row that isn't at its place is nowhere
  pub absent_none : (rows : List (ℕ × V)) → IsRising rows → ((d : ℕ × V) → place page rows < length rows → (get_or rows (place page rows) d).0 ≢ page) → lookup (nat_eq page) rows ≡ None
  absent_none [] rising h = refl
  absent_none (row ∷ rows) rising h = (elim (nat_lt row.0 page) as (λ b. nat_lt row.0 page ≡ b
      → ((d : ℕ × V) → cond b (suc (place page rows)) 0 < length (row ∷ rows) → (get_or (row ∷ rows) (cond b (suc (place page rows)) 0) d).0 ≢ page)
      → lookup (nat_eq page) (row ∷ rows) ≡ None) [
        | true ↦ λ t none. rw (below row.0 (ltb-true row.0 page t)) (absent_none rows rising.1 (λ d lt. none d (omega (arith, lt))))
        | false ↦ λ t none. let differ = other row (none row (omega arith)) in
            rw differ (none_above row.0 rows (let lt = not_equal_above page row.0 t differ in omega (arith, lt)) rising.0)
      ]) refl h
    where
      other : (row : ℕ × V) → (row.0 ≢ page) → nat_eq page row.0 ≡ false
      other row none = (elim (nat_eq page row.0) as (λ b. nat_eq page row.0 ≡ b → b ≡ false) [ true ↦ λ t. absurd (none (sym (eqb-true page row.0 t))) | false ↦ λ t. refl ]) refl

      below : (k : ℕ) → k < page → nat_eq page k ≡ false
      below k lt = (elim (nat_eq page k) as (λ b. nat_eq page k ≡ b → b ≡ false) [ true ↦ λ t. absurd (omega (arith, lt, eqb-true page k t)) | false ↦ λ t. refl ]) refl

  pub found_at : (rows : List (ℕ × V)) (at : ℕ) (d : ℕ × V) → IsRising rows → at ≡ place page rows → (at < length rows) × ((e : ℕ × V) → (get_or rows at e).0 ≡ page)
      → lookup (nat_eq page) rows ≡ Some (get_or rows at d).1
  found_at rows at d rising is there =
      place_found rows d rising (omega (arith, is, there.0)) (ap (λ n. (get_or rows n d).0) (sym is) ∙ there.1 d) ∙ ap (λ n. Some (get_or rows n d).1) (sym is)

  pub nowhere : (rows : List (ℕ × V)) (at : ℕ) → IsRising rows → at ≡ place page rows → ((d : ℕ × V) → at < length rows → (get_or rows at d).0 ≢ page) → lookup (nat_eq page) rows ≡ None
  nowhere rows at rising is none =
      absent_none rows rising (λ d lt same. none d (omega (arith, is, lt)) (ap (λ n. (get_or rows n d).0) is ∙ same))

  lookup_off : (row : ℕ × V) (rows : List (ℕ × V)) (p : ℕ) → row.0 ≢ p → lookup (nat_eq p) (row ∷ rows) ≡ lookup (nat_eq p) rows
  lookup_off row rows p differ = (elim (nat_eq p row.0) as (λ b. nat_eq p row.0 ≡ b → cond b (Some row.1) (lookup (nat_eq p) rows) ≡ lookup (nat_eq p) rows) [
    | true ↦ λ t. absurd (differ (sym (eqb-true p row.0 t)))
    | false ↦ λ t. refl
  ]) refl

  lookup_cons : (row : ℕ × V) (xs ys : List (ℕ × V)) (p : ℕ) → lookup (nat_eq p) xs ≡ lookup (nat_eq p) ys → lookup (nat_eq p) (row ∷ xs) ≡ lookup (nat_eq p) (row ∷ ys)
  lookup_cons row xs ys p same = ap (λ o. cond (nat_eq p row.0) (Some row.1) o) same

  pub lookup_other : (rows : List (ℕ × V)) (p : ℕ) → page ≢ p → lookup (nat_eq p) (without_row page rows) ≡ lookup (nat_eq p) rows
  lookup_other [] p differ = refl
  lookup_other (row ∷ rows) p differ = elim (nat_lt row.0 page) as (λ b. lookup (nat_eq p) (cond b (row ∷ without_row page rows) (cond (nat_eq page row.0) rows (row ∷ rows))) ≡ lookup (nat_eq p) (row ∷ rows)) [
    | true ↦ lookup_cons row (without_row page rows) rows p (lookup_other rows p differ)
    | false ↦ (elim (nat_eq page row.0) as (λ b. nat_eq page row.0 ≡ b → lookup (nat_eq p) (cond b rows (row ∷ rows)) ≡ lookup (nat_eq p) (row ∷ rows)) [
      | true ↦ λ t. sym (lookup_off row rows p (λ same. differ (eqb-true page row.0 t ∙ same)))
      | false ↦ λ t. refl
    ]) refl
  ]

  pub lookup_gone : (rows : List (ℕ × V)) → IsRising rows → lookup (nat_eq page) (without_row page rows) ≡ None
  lookup_gone [] h = refl
  lookup_gone (row ∷ rows) h = (elim (nat_lt row.0 page) as (λ b. nat_lt row.0 page ≡ b → lookup (nat_eq page) (cond b (row ∷ without_row page rows) (cond (nat_eq page row.0) rows (row ∷ rows))) ≡ None) [
    | true ↦ λ t. lookup_off row (without_row page rows) page (λ same. absurd (omega (arith, same, ltb-true row.0 page t))) ∙ lookup_gone rows h.1
    | false ↦ λ t. (elim (nat_eq page row.0) as (λ b. nat_eq page row.0 ≡ b → lookup (nat_eq page) (cond b rows (row ∷ rows)) ≡ None) [
      | true ↦ λ e. none_above row.0 rows (omega (arith, eqb-true page row.0 e)) h.0
      | false ↦ λ e. let lt = not_equal_above page row.0 t e in none_above page (row ∷ rows) (omega arith) (lt, above_on page row.0 rows (omega (arith, lt)) h.0)
    ]) refl
  ]) refl

  pub lookup-without_row : (rows : List (ℕ × V)) (p : ℕ) → IsRising rows → lookup (nat_eq p) (without_row page rows) ≡ (if nat_eq page p then None else lookup (nat_eq p) rows)
  lookup-without_row rows p h = (elim (nat_eq page p) as (λ b. nat_eq page p ≡ b → lookup (nat_eq p) (without_row page rows) ≡ (if b then None else lookup (nat_eq p) rows)) [
    | true ↦ λ t. subst (λ q. lookup (nat_eq q) (without_row page rows) ≡ None) (eqb-true page p t) (lookup_gone rows h)
    | false ↦ λ t. lookup_other rows p (λ same. let e = eq-eqb page p same in both_ways _ t e)
  ]) refl

  -- ---- what the code does at a place

  absent_at : (rows r1 r2 : List (ℕ × V)) (at : ℕ) → r1 ≡ rows → r2 ≡ rows → at ≡ place page r1
      → ((d : ℕ × V) → at < length r2 → (get_or r2 at d).0 ≢ page) → (d : ℕ × V) → place page rows < length rows → (get_or rows (place page rows) d).0 ≢ page
  absent_at rows r1 r2 at one two is none d lt same =
      let at_is : at ≡ place page rows = is ∙ ap (place page) one in
      none d (omega (arith, lt, at_is, ap length two)) (ap (λ (l : List (ℕ × V)). (get_or l at d).0) two ∙ ap (λ n. (get_or rows n d).0) at_is ∙ same)

  there_at : (rows r1 r2 : List (ℕ × V)) (at : ℕ) → r1 ≡ rows → r2 ≡ rows → at ≡ place page r1
      → (at < length r2) × ((d : ℕ × V) → (get_or r2 at d).0 ≡ page) → (place page rows < length rows) × ((d : ℕ × V) → (get_or rows (place page rows) d).0 ≡ page)
  there_at rows r1 r2 at one two is there =
      let at_is : at ≡ place page rows = is ∙ ap (place page) one in
      (omega (arith, there.0, at_is, ap length two), λ d. sym (ap (λ (l : List (ℕ × V)). (get_or l at d).0) two ∙ ap (λ n. (get_or rows n d).0) at_is) ∙ there.1 d)

  pub put_found : (v : V) (rows r1 r2 : List (ℕ × V)) (at : ℕ) → r1 ≡ rows → r2 ≡ rows → at ≡ place page r1
      → (at < length r2) × ((d : ℕ × V) → (get_or r2 at d).0 ≡ page) → slice_set rows at (page, v) ≡ with_row page v rows
  put_found v rows r1 r2 at one two is there =
      let h = there_at rows r1 r2 at one two is there in
      ap (λ n. slice_set rows n (page, v)) (is ∙ ap (place page) one) ∙ put_set v rows (page, v) h.0 (h.1 (page, v))

  pub put_new : (v : V) (rows r1 r2 : List (ℕ × V)) (at : ℕ) → r1 ≡ rows → r2 ≡ rows → at ≡ place page r1
      → ((d : ℕ × V) → at < length r2 → (get_or r2 at d).0 ≢ page) → insert rows at (page, v) ≡ with_row page v rows
  put_new v rows r1 r2 at one two is none =
      ap (λ n. insert rows n (page, v)) (is ∙ ap (place page) one) ∙ put_insert v rows (absent_at rows r1 r2 at one two is none)

  pub room_full : (v : V) (rows r1 r2 : List (ℕ × V)) (at cap : ℕ) → r1 ≡ rows → r2 ≡ rows → at ≡ place page r1
      → ((d : ℕ × V) → at < length r2 → (get_or r2 at d).0 ≢ page) → IsRising rows → length rows + (if is_some (lookup (nat_eq page) rows) then 0 else 1) ≤ cap → cap ≤ length rows → ⊥
  room_full v rows r1 r2 at cap one two is none rising room full =
      let gone = absent_none rows rising (absent_at rows r1 r2 at one two is none) in
      let more : length rows + 1 ≤ cap = subst (λ (o : Option V). length rows + (if is_some o then 0 else 1) ≤ cap) gone room in
      omega (arith, more, full)

  pub taken_found : (rows r1 r2 : List (ℕ × V)) (v : V) (at : ℕ) → r1 ≡ rows → r2 ≡ rows → at ≡ place page r1
      → (at < length r2) × ((d : ℕ × V) → (get_or r2 at d).0 ≡ page) → remove rows at ≡ without_row page rows
  taken_found rows r1 r2 v at one two is there =
      let h = there_at rows r1 r2 at one two is there in
      ap (λ n. remove rows n) (is ∙ ap (place page) one) ∙ take_found rows (page, v) h.0 (h.1 (page, v))

  pub taken_none : (rows r1 r2 : List (ℕ × V)) (at : ℕ) → r1 ≡ rows → r2 ≡ rows → at ≡ place page r1
      → ((d : ℕ × V) → at < length r2 → (get_or r2 at d).0 ≢ page) → rows ≡ without_row page rows
  taken_none rows r1 r2 at one two is none =
      take_absent rows (λ d lt same. let at_is : at ≡ place page rows = is ∙ ap (place page) one in
      none d (omega (arith, lt, at_is, ap length two)) (ap (λ (l : List (ℕ × V)). (get_or l at d).0) two ∙ ap (λ n. (get_or rows n d).0) at_is ∙ same))

-- ---- how many rows there can be

few_above : {V : Type 0} (low end : ℕ) (rows : List (ℕ × V)) → low < end → IsAbove low rows → IsRising rows → AllByRecursion (λ (row : ℕ × V). row.0 < end) rows → suc low + length rows ≤ end
few_above low end [] h above rising ends = omega (arith, h)
few_above low end (row ∷ rows) h above rising ends = omega (arith, above.0, few_above row.0 end rows ends.0 rising.0 rising.1 ends.1)

above_all : {V : Type 0} (low end : ℕ) (rows : List (ℕ × V)) → All (λ (row : ℕ × V). (suc low ≤ row.0) × (row.0 < end)) rows
    → IsAbove low rows × AllByRecursion (λ (row : ℕ × V). row.0 < end) rows
above_all low end [] all = (tt, tt)
above_all {V} low end (row ∷ rows) all =
    let first = All-head (λ (r : ℕ × V). (suc low ≤ r.0) × (r.0 < end)) row rows all in
    let rest = above_all low end rows (All-tail (λ (r : ℕ × V). (suc low ≤ r.0) × (r.0 < end)) row rows all) in
    ((first.0, rest.0), (first.1, rest.1))

-- rows in rising order between two numbers are no more than there are numbers
pub few_rising : {V : Type 0} (low end : ℕ) (rows : List (ℕ × V)) → low < end → IsRising rows → All (λ (row : ℕ × V). (suc low ≤ row.0) × (row.0 < end)) rows → suc low + length rows ≤ end
few_rising low end rows h rising all = let both = above_all low end rows all in few_above low end rows h both.0 rising both.1

-- a row more at most
pub length-with_row : {V : Type 0} (page : ℕ) (v : V) (rows : List (ℕ × V)) → length (with_row page v rows) ≤ length rows + 1
length-with_row page v [] = omega arith
length-with_row {V} page v (row ∷ rows) =
    elim (nat_lt row.0 page) as (λ b. length (cond b (row ∷ with_row page v rows) (cond (nat_eq page row.0) ((page, v) ∷ rows) ((page, v) ∷ row ∷ rows))) ≤ length (row ∷ rows) + 1) [
      | true ↦ omega (arith, length-with_row page v rows)
      | false ↦ elim (nat_eq page row.0) as (λ b. length (cond b ((page, v) ∷ rows) ((page, v) ∷ row ∷ rows)) ≤ length (row ∷ rows) + 1) [ true ↦ omega arith | false ↦ omega arith ]
    ]
