-- Rows of bodies: on one page, and over the pages of a file.
use Rattle.std.proofs.Common.{◌≡◌, ◌≢◌, ◌≤◌, ◌<◌, ◌+◌, ℕ, zero, suc, List, [], ◌∷◌, ◌++◌, length, Some, None, refl, sym, ap, subst, ◌∙◌, append_assoc, arith, ◌⊎◌, inl, inr}
use Rattle.std.specs.Prelude.{slice_index_or}
use Rattle.std.specs.List.{flat_map, AllByRecursion}
use Rattle.std.proofs.lemmas.List.Concat.{flat_map-append}
use Rattle.ex_base.specs.declared.names.Place.{Place}
use Rattle.ex_base.specs.Ports.{times}
use Rattle.ex_base.proofs.Counts.{apart_of, same_or_not, times-append, times_apart, times_here}
use Rattle.slotted_pages.specs.FilePage.{Slot}
use Rattle.slotted_pages.specs.Edits.{slots_of, with_slot, trimmed, before_live}
use Rattle.file_index.specs.Edits.{put_in, take_out}
use Rattle.file_index.proofs.Lists.{put_here, put_later, out_here, out_joined, out_lacks, Lacks}
use Rattle.file_bodies.specs.Bodies.{Row, place_at, row_of, bodies_from, bodies_on, EditsRow}

-- ---- a row changes among others

pub edits_behind : (zs old new : List Row) (place : Place) (was is : Slot) → EditsRow old new place was is → EditsRow (zs ++ old) (zs ++ new) place was is
edits_behind zs old new place was is e = record {
  front = zs ++ e.front;
  back = e.back;
  before = ap (λ (t : List Row). zs ++ t) e.before ∙ sym (append_assoc zs e.front (row_of place was ++ e.back));
  after = ap (λ (t : List Row). zs ++ t) e.after ∙ sym (append_assoc zs e.front (row_of place is ++ e.back));
}

pub edits_before : (zs old new : List Row) (place : Place) (was is : Slot) → EditsRow old new place was is → EditsRow (old ++ zs) (new ++ zs) place was is
edits_before zs old new place was is e = record {
  front = e.front;
  back = e.back ++ zs;
  before = ap (λ (t : List Row). t ++ zs) e.before ∙ append_assoc e.front (row_of place was ++ e.back) zs ∙ ap (λ (t : List Row). e.front ++ t) (append_assoc (row_of place was) e.back zs);
  after = ap (λ (t : List Row). t ++ zs) e.after ∙ append_assoc e.front (row_of place is ++ e.back) zs ∙ ap (λ (t : List Row). e.front ++ t) (append_assoc (row_of place is) e.back zs);
}

-- one slot of a page
pub slot_edits : (page at k : ℕ) (slots : List Slot) (i : ℕ) (s' : Slot) → k ≡ at + i → i ≤ length slots → EditsRow (bodies_from page at slots) (bodies_from page at (with_slot slots i s')) (place_at page k) (slice_index_or slots i None) s'
slot_edits page at k [] zero s' is le =
    let here : at ≡ k = omega arith in
    record { front = []; back = []; before = refl; after = ap (λ (n : ℕ). row_of (place_at page n) s' ++ []) here }
slot_edits page at k [] (suc i) s' is le = absurd (omega arith)
slot_edits page at k (s ∷ slots) zero s' is le =
    let here : at ≡ k = omega arith in
    record {
      front = [];
      back = bodies_from page (suc at) slots;
      before = ap (λ (n : ℕ). row_of (place_at page n) s ++ bodies_from page (suc at) slots) here;
      after = ap (λ (n : ℕ). row_of (place_at page n) s' ++ bodies_from page (suc at) slots) here;
    }
slot_edits page at k (s ∷ slots) (suc i) s' is le =
    edits_behind (row_of (place_at page at) s) (bodies_from page (suc at) slots) (bodies_from page (suc at) (with_slot slots i s')) (place_at page k) (slice_index_or slots i None) s'
    (slot_edits page (suc at) k slots i s' (omega arith) (omega arith))

before_rows : (page at : ℕ) (slot : Slot) (rest : List Slot) → bodies_from page at (before_live slot rest) ≡ row_of (place_at page at) slot ++ bodies_from page (suc at) rest
before_rows page at None [] = refl
before_rows page at None (s ∷ rest) = refl
before_rows page at (Some body) rest = refl

-- vacant slots behind the last body are no rows
pub rows_trimmed : (page at : ℕ) (slots : List Slot) → bodies_from page at (trimmed slots) ≡ bodies_from page at slots
rows_trimmed page at [] = refl
rows_trimmed page at (s ∷ slots) = before_rows page at s (trimmed slots) ∙ ap (λ (t : List Row). row_of (place_at page at) s ++ t) (rows_trimmed page (suc at) slots)

-- ---- how often a page stands in a list, and that it does

pub each_at : (P : ℕ → Type 0) (xs : List ℕ) (x : ℕ) → AllByRecursion P xs → 1 ≤ times x xs → P x
each_at P [] x h c = absurd (omega arith)
each_at P (y ∷ xs) x h c = elim (same_or_not x y) [
  | inl same ↦ subst P (sym same) h.0
  | inr differ ↦ each_at P xs x h.1 (omega (arith, times_apart x y xs differ))
]

pub each_of : (P : ℕ → Type 0) (xs : List ℕ) → ((x : ℕ) → 1 ≤ times x xs → P x) → AllByRecursion P xs
each_of P [] f = tt
each_of P (x ∷ xs) f = (f x (omega (arith, times_here x x xs refl)), each_of P xs (λ y h. f y (omega arith)))

pub lacks_of : (x : ℕ) (xs : List ℕ) → times x xs ≡ 0 → Lacks x xs
lacks_of x [] h = tt
lacks_of x (y ∷ xs) h =
    let differ = apart_of x y xs h in
    (λ same. differ (sym same), lacks_of x xs (omega (arith, times_apart x y xs differ)))

pub record Split (x : ℕ) (xs : List ℕ) : Type 0 where
  pub front : List ℕ
  pub back : List ℕ
  pub is : xs ≡ front ++ (x ∷ back)

pub split_at : (x : ℕ) (xs : List ℕ) → 1 ≤ times x xs → Split x xs
split_at x [] h = absurd (omega arith)
split_at x (y ∷ xs) h = elim (same_or_not x y) [
  | inl same ↦ record { front = []; back = xs; is = ap (λ (n : ℕ). n ∷ xs) (sym same) }
  | inr differ ↦
      let rest = split_at x xs (omega (arith, times_apart x y xs differ)) in
      record { front = y ∷ rest.front; back = rest.back; is = ap (λ (t : List ℕ). y ∷ t) rest.is }
]

-- a list that has a number once more
pub record Joined (x : ℕ) (few many : List ℕ) : Type 0 where
  pub front : List ℕ
  pub back : List ℕ
  pub few_is : few ≡ front ++ back
  pub many_is : many ≡ front ++ (x ∷ back)

pub put_joined : (a x : ℕ) (xs : List ℕ) → times x xs ≡ 0 → Joined x xs (put_in x xs)
put_joined a x [] none = record { front = []; back = []; few_is = refl; many_is = refl }
put_joined a x (y ∷ xs) none =
    let differ = apart_of x y xs none in
    elim (lt_or_gt x y differ) [
      | inl lt ↦ record { front = []; back = y ∷ xs; few_is = refl; many_is = put_here x y xs lt }
      | inr gt ↦
          let rest = put_joined a x xs (omega (arith, times_apart x y xs differ)) in
          record { front = y ∷ rest.front; back = rest.back; few_is = ap (λ (t : List ℕ). y ∷ t) rest.few_is; many_is = put_later x y xs gt ∙ ap (λ (t : List ℕ). y ∷ t) rest.many_is }
    ]
  where
    lt_or_gt : (m n : ℕ) → m ≢ n → (m < n) ⊎ (n < m)
    lt_or_gt zero zero differ = absurd (differ refl)
    lt_or_gt zero (suc n) differ = inl (omega arith)
    lt_or_gt (suc m) zero differ = inr (omega arith)
    lt_or_gt (suc m) (suc n) differ = elim (lt_or_gt m n (λ same. differ (ap (λ (k : ℕ). suc k) same))) [
      | inl lt ↦ inl (omega arith)
      | inr gt ↦ inr (omega arith)
    ]

pub out_joined_at : (x : ℕ) (xs : List ℕ) → 1 ≤ times x xs → times x xs ≤ 1 → Joined x (take_out x xs) xs
out_joined_at x xs some once =
    let s = split_at x xs some in
    let count : times x xs ≡ times x s.front + (1 + times x s.back) = ap (times x) s.is ∙ times-append x s.front (x ∷ s.back) ∙ ap (λ (n : ℕ). times x s.front + n) (times_here x x s.back refl) in
    let front : take_out x s.front ≡ s.front = out_lacks x s.front (lacks_of x s.front (omega arith)) in
    let back : take_out x s.back ≡ s.back = out_lacks x s.back (lacks_of x s.back (omega arith)) in
    record {
      front = s.front;
      back = s.back;
      few_is = ap (take_out x) s.is ∙ out_joined x s.front (x ∷ s.back) ∙ ap (λ (t : List ℕ). take_out x s.front ++ t) (out_here x x s.back refl) ∙ ap (λ (t : List ℕ). t ++ take_out x s.back) front ∙ ap (λ (t : List ℕ). s.front ++ t) back;
      many_is = s.is;
    }

pub times_joined : (x y : ℕ) (few many : List ℕ) → Joined x few many → times y many ≡ times y (x ∷ []) + times y few
times_joined x y few many j =
    omega (arith, ap (times y) j.many_is, ap (times y) j.few_is, times-append y j.front (x ∷ j.back), times-append y j.front j.back, times-append y (x ∷ []) j.back)

-- ---- rows over pages

pub rows_same : (i j : ℕ → List ℕ) (keys : List ℕ) → ((k : ℕ) → 1 ≤ times k keys → j k ≡ i k) → flat_map (bodies_on j) keys ≡ flat_map (bodies_on i) keys
rows_same i j [] same = refl
rows_same i j (k ∷ keys) same =
    let here : bodies_on j k ≡ bodies_on i k = ap (λ (t : List ℕ). bodies_from k 0 (slots_of t)) (same k (omega (arith, times_here k k keys refl))) in
    let rest = rows_same i j keys (λ q h. same q (omega arith)) in
    ap (λ (t : List Row). t ++ flat_map (bodies_on j) keys) here ∙ ap (λ (t : List Row). bodies_on i k ++ t) rest

-- the rows on one page change, between those of pages that stay
pub rows_edit : (i j : ℕ → List ℕ) (front back : List ℕ) (old new : List Row) (place : Place) (was is : Slot) → ((k : ℕ) → 1 ≤ times k front → j k ≡ i k) → ((k : ℕ) → 1 ≤ times k back → j k ≡ i k)
    → EditsRow old new place was is → EditsRow (flat_map (bodies_on i) front ++ (old ++ flat_map (bodies_on i) back)) (flat_map (bodies_on j) front ++ (new ++ flat_map (bodies_on j) back)) place was is
rows_edit i j front back old new place was is same_front same_back e =
    let f = rows_same i j front same_front in
    let b = rows_same i j back same_back in
    let F : List Row = flat_map (bodies_on i) front in
    let B : List Row = flat_map (bodies_on i) back in
    let within = edits_behind (flat_map (bodies_on i) front) (old ++ flat_map (bodies_on i) back) (new ++ flat_map (bodies_on i) back) place was is (edits_before (flat_map (bodies_on i) back) old new place was is e) in
    subst (λ (t : List Row). EditsRow (flat_map (bodies_on i) front ++ (old ++ flat_map (bodies_on i) back)) (t ++ (new ++ flat_map (bodies_on j) back)) place was is) (sym f)
    (subst (λ (t : List Row). EditsRow (flat_map (bodies_on i) front ++ (old ++ flat_map (bodies_on i) back)) (flat_map (bodies_on i) front ++ (new ++ t)) place was is) (sym b) within)

pub rows_joined : (i : ℕ → List ℕ) (x : ℕ) (few many : List ℕ) (j : Joined x few many) → flat_map (bodies_on i) many ≡ flat_map (bodies_on i) j.front ++ (bodies_on i x ++ flat_map (bodies_on i) j.back)
rows_joined i x few many j = ap (flat_map (bodies_on i)) j.many_is ∙ flat_map-append (bodies_on i) j.front (x ∷ j.back)

pub rows_few : (i : ℕ → List ℕ) (x : ℕ) (few many : List ℕ) (j : Joined x few many) → flat_map (bodies_on i) few ≡ flat_map (bodies_on i) j.front ++ flat_map (bodies_on i) j.back
rows_few i x few many j = ap (flat_map (bodies_on i)) j.few_is ∙ flat_map-append (bodies_on i) j.front j.back
