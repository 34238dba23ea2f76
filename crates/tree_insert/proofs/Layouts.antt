-- The leaves of a row after an insert or an append: those before, those of the layout, those behind.
use Rattle.std.proofs.Common.{◌≡◌, ◌≢◌, ℕ, zero, suc, ◌+◌, ◌-◌, ◌*◌, ◌/◌, ◌<◌, ◌≤◌, leb, ltb, Bool, true, false, List, [], ◌∷◌, ◌++◌, length, take, drop, Option, Some, None, refl, sym, ap, subst, ◌∙◌, arith, append_assoc, cond, inl, inr}
use Rattle.std.specs.Prelude.{option_to_list, slice_index}
use Rattle.std.specs.List.{AllByRecursion}
use Rattle.std.proofs.lemmas.Bool.{leb-true, leb-false, ltb-true, cases_lt, cond_both}
use Rattle.std.proofs.lemmas.List.{append-nil}
use Rattle.std.proofs.Math.Nat.{mul-le-mul_right}
use Rattle.std.proofs.Math.Seq.{take-length}
use Rattle.ex_base.specs.Even.{sum_of, evenly, least_parts}
use Rattle.ex_base.proofs.Rows.{sum_of-append, IsRow-as}
use Rattle.ex_base.proofs.Spread.{plain, least_parts_is, some_part, length-evenly}
use Rattle.trees.specs.Layout.{Layout, placed, insert_layout, append_layout, overflowing, overflowing_last, left_or_spread, right_or_spread, spread, filled, insert_leaves, append_leaves}
use Rattle.trees.proofs.Placed.{LeafRow, AreLeaves, insert_leaves_row, append_leaves_row}
use Rattle.tree_insert.specs.declared.layout.Growth.{Growth}
use Rattle.tree_insert.specs.declared.layout.Growth.TheVariants.{Insert, Append}
use Rattle.tree_insert.specs.Growth.{layout_by, IsSpot, row_by}
use Rattle.tree_insert.specs.Places.{last_of, first_of, flag}
use Rattle.tree_insert.proofs.PlanLaws.{length-filled}

-- ---- the leaf before the last of some, and those before it

abbrev before_last : Option ℕ → List ℕ → Option ℕ
before_last left [] = left
before_last left (x ∷ xs) = before_last (Some x) xs

abbrev far_left : Option ℕ → List ℕ → List ℕ
far_left left [] = []
far_left left (x ∷ xs) = option_to_list left ++ far_left (Some x) xs

before_is : (y : ℕ) (xs : List ℕ) → before_last (Some y) xs ≡ last_of (y ∷ xs)
before_is y [] = refl
before_is y (x ∷ xs) = before_is x xs

before_none : (xs : List ℕ) → before_last None xs ≡ last_of xs
before_none [] = refl
before_none (x ∷ xs) = before_is x xs

far_whole : (left : Option ℕ) (xs : List ℕ) → far_left left xs ++ option_to_list (before_last left xs) ≡ option_to_list left ++ xs
far_whole left [] = sym (append-nil (option_to_list left))
far_whole left (x ∷ xs) = append_assoc (option_to_list left) (far_left (Some x) xs) (option_to_list (before_last (Some x) xs)) ∙ ap (λ ys. option_to_list left ++ ys) (far_whole (Some x) xs)

far_some : (y : ℕ) (xs : List ℕ) → far_left (Some y) xs ≡ take (length xs) (y ∷ xs)
far_some y [] = refl
far_some y (x ∷ xs) = ap (λ ys. y ∷ ys) (far_some x xs)

far_none : (xs : List ℕ) → 1 ≤ length xs → far_left None xs ≡ take (length xs - 1) xs
far_none [] some = absurd (omega arith)
far_none (x ∷ xs) some = far_some x xs ∙ ap (λ k. take k (x ∷ xs)) (let e : length xs ≡ length (x ∷ xs) - 1 = omega arith in e)

abbrev kept_left : Bool → Option ℕ → List ℕ
kept_left true left = []
kept_left false left = option_to_list left

front_is : (takes : Bool) (xs : List ℕ) (first : ℕ) → first + flag takes ≡ length xs → far_left None xs ++ kept_left takes (before_last None xs) ≡ take first xs
front_is true xs first is = append-nil (far_left None xs) ∙ far_none xs (omega arith) ∙ ap (λ k. take k xs) (let e : length xs - 1 ≡ first = omega arith in e)
front_is false xs first is = far_whole None xs ∙ sym (take-length xs) ∙ ap (λ k. take k xs) (let e : length xs ≡ first = omega arith in e)

abbrev kept_right : Bool → List ℕ → List ℕ
kept_right true rest = drop 1 rest
kept_right false rest = rest

left_cond : (b : Bool) (left : Option ℕ) → cond b [] (option_to_list left) ≡ kept_left b left
left_cond true left = refl
left_cond false left = refl

right_cond : (b : Bool) (rest : List ℕ) → cond b (drop 1 rest) rest ≡ kept_right b rest
right_cond true rest = refl
right_cond false rest = refl

placed_is : (layout : Layout) (left : Option ℕ) (rest : List ℕ) → placed layout left rest ≡ (kept_left layout.takes_left left ++ layout.lengths) ++ kept_right layout.takes_right rest
placed_is layout left rest =
    ap (λ a. (a ++ layout.lengths) ++ cond layout.takes_right (drop 1 rest) rest) (left_cond layout.takes_left left) ∙ ap (λ b. (kept_left layout.takes_left left ++ layout.lengths) ++ b) (right_cond layout.takes_right rest)

-- ---- the place of the layout

insert_split : (full n : ℕ) (left : Option ℕ) (xs : List ℕ) (leaf : ℕ) (rest : List ℕ) (pos at : ℕ) → sum_of plain xs + at ≡ pos → at ≤ leaf → (length xs ≢ 0 → 1 ≤ at)
    → insert_leaves full n left (xs ++ (leaf ∷ rest)) pos ≡ far_left left xs ++ placed (insert_layout full (before_last left xs) leaf (first_of rest) n) (before_last left xs) rest
insert_split full n left [] leaf [] pos at sum fits first = refl
insert_split full n left [] leaf (next ∷ rest) pos at sum fits first =
    cond_both (leb pos leaf) _ _ (λ ys. ys ≡ placed (insert_layout full left leaf (Some next) n) left (next ∷ rest)) (λ e. refl) (λ e. absurd (omega (arith, leb-false _ _ e)))
insert_split full n left (x ∷ []) leaf rest pos at sum fits first =
    cond_both (leb pos x) _ _ (λ ys. ys ≡ (option_to_list left ++ []) ++ placed (insert_layout full (Some x) leaf (first_of rest) n) (Some x) rest) (λ e. absurd (omega (arith, leb-true _ _ e, first (λ none. absurd (omega arith))))) (λ e. ap (λ ys. option_to_list left ++ ys) (insert_split full n (Some x) [] leaf rest (pos - x) at (omega arith) fits (λ ne. absurd (ne refl)))
    ∙ ap (λ ys. ys ++ placed (insert_layout full (Some x) leaf (first_of rest) n) (Some x) rest) (sym (append-nil (option_to_list left))))
insert_split full n left (x ∷ y ∷ xs) leaf rest pos at sum fits first =
    cond_both (leb pos x) _ _ (λ ys. ys ≡ far_left left (x ∷ y ∷ xs) ++ placed (insert_layout full (before_last left (x ∷ y ∷ xs)) leaf (first_of rest) n) (before_last left (x ∷ y ∷ xs)) rest) (λ e. absurd (omega (arith, leb-true _ _ e, first (λ none. absurd (omega arith))))) (λ e. ap (λ ys. option_to_list left ++ ys) (insert_split full n (Some x) (y ∷ xs) leaf rest (pos - x) at (omega arith) fits (λ ne. first (λ none. absurd (omega arith))))
    ∙ sym (append_assoc (option_to_list left) (far_left (Some x) (y ∷ xs)) (placed (insert_layout full (before_last (Some x) (y ∷ xs)) leaf (first_of rest) n) (before_last (Some x) (y ∷ xs)) rest)))

append_split : (full n : ℕ) (left : Option ℕ) (xs : List ℕ) (leaf : ℕ) → append_leaves full n left (xs ++ (leaf ∷ [])) ≡ far_left left xs ++ placed (append_layout full (before_last left xs) leaf n) (before_last left xs) []
append_split full n left [] leaf = refl
append_split full n left (x ∷ []) leaf = ap (λ ys. ys ++ placed (append_layout full (Some x) leaf n) (Some x) []) (sym (append-nil (option_to_list left)))
append_split full n left (x ∷ y ∷ xs) leaf =
    ap (λ ys. option_to_list left ++ ys) (append_split full n (Some x) (y ∷ xs) leaf)
    ∙ sym (append_assoc (option_to_list left) (far_left (Some x) (y ∷ xs)) (placed (append_layout full (before_last (Some x) (y ∷ xs)) leaf n) (before_last (Some x) (y ∷ xs)) []))

nothing_behind : (xs : List ℕ) → AllByRecursion (λ n. 1 ≤ n) xs → sum_of plain xs ≡ 0 → xs ≡ []
nothing_behind [] each none = refl
nothing_behind (x ∷ xs) each none = absurd (omega (arith, each.0))

-- the layout in the place of a leaf that stands between others
by_split : (growth : Growth) (fan full n : ℕ) (xs : List ℕ) (leaf : ℕ) (rest : List ℕ) (pos at : ℕ) → sum_of plain xs + at ≡ pos → at ≤ leaf → (length xs ≢ 0 → 1 ≤ at) → AllByRecursion (λ n. 1 ≤ n) rest → IsSpot growth pos (sum_of plain (xs ++ (leaf ∷ rest)))
    → row_by growth fan full n 0 (xs ++ (leaf ∷ rest)) pos ≡ far_left None xs ++ placed (layout_by growth full (last_of xs) leaf (first_of rest) n) (before_last None xs) rest
by_split Insert fan full n xs leaf rest pos at sum fits first each spot =
    insert_split full n None xs leaf rest pos at sum fits first ∙ ap (λ l. far_left None xs ++ placed (insert_layout full l leaf (first_of rest) n) (before_last None xs) rest) (before_none xs)
by_split Append fan full n xs leaf rest pos at sum fits first each spot =
    let none : rest ≡ [] = nothing_behind rest each (omega (arith, sum_of-append plain xs (leaf ∷ rest))) in
    ap (λ r. append_leaves full n None (xs ++ (leaf ∷ r))) none ∙ append_split full n None xs leaf ∙ ap (λ r. far_left None xs ++ placed (append_layout full (before_last None xs) leaf n) (before_last None xs) r) (sym none)
    ∙ ap (λ l. far_left None xs ++ placed (append_layout full l leaf n) (before_last None xs) rest) (before_none xs)

-- ---- a row of sizes around an index

around : (xs : List ℕ) (i : ℕ) → i < length xs → xs ≡ take i xs ++ (slice_index xs i ∷ drop (i + 1) xs)
around [] i lt = absurd (omega arith)
around (x ∷ xs) zero lt = refl
around (x ∷ xs) (suc i) lt = ap (λ ys. x ∷ ys) (around xs i (omega arith)) ∙ ap (λ k. x ∷ (take i xs ++ (slice_index xs i ∷ drop k (x ∷ xs)))) (let e : suc (i + 1) ≡ suc i + 1 = omega arith in e)

length_front : (xs : List ℕ) (i : ℕ) → i ≤ length xs → length (take i xs) ≡ i
length_front xs zero le = refl
length_front [] (suc i) le = absurd (omega arith)
length_front (x ∷ xs) (suc i) le = omega (arith, length_front xs i (omega arith))

take_front : (xs : List ℕ) (a b : ℕ) → a ≤ b → take a (take b xs) ≡ take a xs
take_front xs zero b le = refl
take_front [] (suc a) zero le = refl
take_front [] (suc a) (suc b) le = refl
take_front (x ∷ xs) (suc a) zero le = absurd (omega arith)
take_front (x ∷ xs) (suc a) (suc b) le = ap (λ ys. x ∷ ys) (take_front xs a b (omega arith))

drop_one : (xs : List ℕ) (i : ℕ) → drop 1 (drop i xs) ≡ drop (suc i) xs
drop_one xs zero = refl
drop_one [] (suc i) = refl
drop_one (x ∷ xs) (suc i) = drop_one xs i

back_is : (takes : Bool) (xs : List ℕ) (i end : ℕ) → end ≡ i + 1 + flag takes → kept_right takes (drop (i + 1) xs) ≡ drop end xs
back_is true xs i end is = drop_one xs (i + 1) ∙ ap (λ k. drop k xs) (let e : suc (i + 1) ≡ end = omega arith in e)
back_is false xs i end is = ap (λ k. drop k xs) (let e : i + 1 ≡ end = omega arith in e)

each_drop : (P : ℕ → Type 0) (xs : List ℕ) (i : ℕ) → AllByRecursion P xs → AllByRecursion P (drop i xs)
each_drop P xs zero all = all
each_drop P [] (suc i) all = tt
each_drop P (x ∷ xs) (suc i) all = each_drop P xs i all.1

pub record IsPlaced (xs : List ℕ) (pos index at : ℕ) : Type 0 where
  pub inside : index < length xs
  pub start : sum_of plain (take index xs) + at ≡ pos
  pub fits : at ≤ slice_index xs index
  pub first : index ≢ 0 → 1 ≤ at

pub laid_out : (growth : Growth) (fan full n : ℕ) (xs : List ℕ) (pos index at first end : ℕ) (layout : Layout) → IsPlaced xs pos index at → AllByRecursion (λ n. 1 ≤ n) xs → IsSpot growth pos (sum_of plain xs)
    → layout ≡ layout_by growth full (last_of (take index xs)) (slice_index xs index) (first_of (drop (index + 1) xs)) n → first + flag layout.takes_left ≡ index → end ≡ index + 1 + flag layout.takes_right
    → row_by growth fan full n 0 xs pos ≡ take first xs ++ (layout.lengths ++ drop end xs)
laid_out growth fan full n xs pos index at first end layout h each spot layout_is first_is end_is =
    let split : xs ≡ take index xs ++ (slice_index xs index ∷ drop (index + 1) xs) = around xs index h.inside in
    let len : length (take index xs) ≡ index = length_front xs index (omega (arith, h.inside)) in
    let front : far_left None (take index xs) ++ kept_left layout.takes_left (before_last None (take index xs)) ≡ take first xs =
    front_is layout.takes_left (take index xs) first (first_is ∙ sym len) ∙ take_front xs first index (omega arith) in
    let back : kept_right layout.takes_right (drop (index + 1) xs) ≡ drop end xs = back_is layout.takes_right xs index end end_is in
    ap (λ ys. row_by growth fan full n 0 ys pos) split
    ∙ by_split growth fan full n (take index xs) (slice_index xs index) (drop (index + 1) xs) pos at h.start h.fits (λ ne. h.first (λ none. ne (len ∙ none))) (each_drop (λ n. 1 ≤ n) xs (index + 1) each) (subst (λ ys. IsSpot growth pos (sum_of plain ys)) split spot)
    ∙ ap (λ l. far_left None (take index xs) ++ placed l (before_last None (take index xs)) (drop (index + 1) xs)) (sym layout_is)
    ∙ ap (λ ys. far_left None (take index xs) ++ ys) (placed_is layout (before_last None (take index xs)) (drop (index + 1) xs))
    ∙ regroup (far_left None (take index xs)) (kept_left layout.takes_left (before_last None (take index xs))) layout.lengths (kept_right layout.takes_right (drop (index + 1) xs))
    ∙ ap (λ ys. ys ++ (layout.lengths ++ kept_right layout.takes_right (drop (index + 1) xs))) front
    ∙ ap (λ ys. take first xs ++ (layout.lengths ++ ys)) back
  where
    regroup : (a b c d : List ℕ) → a ++ ((b ++ c) ++ d) ≡ (a ++ b) ++ (c ++ d)
    regroup a b c d = simp append_assoc

-- ---- which neighbours take part

pub no_left : (growth : Growth) (full leaf : ℕ) (right : Option ℕ) (n : ℕ) → (layout_by growth full None leaf right n).takes_left ≡ false
unfolding insert_layout append_layout
no_left Insert full leaf None n = cond_both (leb (leaf + n) full) _ _ (λ (l : Layout). l.takes_left ≡ false) (λ e. refl) (λ e. refl)
no_left Insert full leaf (Some r) n = cond_both (leb (leaf + n) full) _ _ (λ (l : Layout). l.takes_left ≡ false) (λ e. refl) (λ e. cond_both (leb (r + (leaf + n)) (2 * full)) _ _ (λ (l : Layout). l.takes_left ≡ false) (λ e. refl) (λ e. refl))
no_left Append full leaf right n = cond_both (leb (leaf + n) full) _ _ (λ (l : Layout). l.takes_left ≡ false) (λ e. refl) (λ e. refl)

pub no_right : (growth : Growth) (full : ℕ) (left : Option ℕ) (leaf n : ℕ) → (layout_by growth full left leaf None n).takes_right ≡ false
unfolding insert_layout append_layout
no_right Insert full None leaf n = cond_both (leb (leaf + n) full) _ _ (λ (l : Layout). l.takes_right ≡ false) (λ e. refl) (λ e. refl)
no_right Insert full (Some l) leaf n = cond_both (leb (leaf + n) full) _ _ (λ (l : Layout). l.takes_right ≡ false) (λ e. refl) (λ e. cond_both (leb (l + (leaf + n)) (2 * full)) _ _ (λ (l : Layout). l.takes_right ≡ false) (λ e. refl) (λ e. refl))
no_right Append full None leaf n = cond_both (leb (leaf + n) full) _ _ (λ (l : Layout). l.takes_right ≡ false) (λ e. refl) (λ e. refl)
no_right Append full (Some l) leaf n = cond_both (leb (leaf + n) full) _ _ (λ (l : Layout). l.takes_right ≡ false) (λ e. refl) (λ e. cond_both (ltb l full) _ _ (λ (l : Layout). l.takes_right ≡ false) (λ e. refl) (λ e. refl))

-- ---- how many leaves

-- as few leaves as hold n bytes and those of two leaves
pub few_parts : (full total n : ℕ) → 1 ≤ full → total ≤ n + 2 * full → least_parts full total ≤ n / full + 4
few_parts full total n some le =
    let least : least_parts full total * full < total + full = (least_parts_is full total some).least in
    let below : n < (n / full + 1) * full = omega arith in
    elim (cases_lt (n / full + 4) (least_parts full total)) [
      | inr le ↦ le
      | inl lt ↦
          let more : (n / full + 5) * full ≤ least_parts full total * full = mul-le-mul_right {m = n / full + 5} {n = least_parts full total} full (omega arith) in
          absurd (omega arith)
    ]

spread_few : (full leaf n : ℕ) → 1 ≤ full → 1 ≤ n → leaf ≤ full → length (spread full (leaf + n)).lengths ≤ n / full + 4
spread_few full leaf n some more fits =
    omega (arith, length-evenly (least_parts full (leaf + n)) (leaf + n) (some_part full (leaf + n) _ (least_parts_is full (leaf + n) some) (omega arith)), few_parts full (leaf + n) n some (omega arith))

two_few : (full total n : ℕ) → length (evenly 2 total) ≤ n / full + 4
two_few full total n = omega (arith, length-evenly 2 total (omega arith))

left_few : (full l leaf n : ℕ) → 1 ≤ full → 1 ≤ n → leaf ≤ full → length (left_or_spread full l (leaf + n)).lengths ≤ n / full + 4
left_few full l leaf n some more fits = cond_both (leb (l + (leaf + n)) (2 * full)) _ _ (λ (x : Layout). length x.lengths ≤ n / full + 4) (λ e. two_few full (l + (leaf + n)) n) (λ e. spread_few full leaf n some more fits)

right_few : (full r leaf n : ℕ) → 1 ≤ full → 1 ≤ n → leaf ≤ full → length (right_or_spread full r (leaf + n)).lengths ≤ n / full + 4
right_few full r leaf n some more fits = cond_both (leb (r + (leaf + n)) (2 * full)) _ _ (λ (x : Layout). length x.lengths ≤ n / full + 4) (λ e. two_few full (r + (leaf + n)) n) (λ e. spread_few full leaf n some more fits)

filled_few : (full total n : ℕ) → 1 ≤ full → full < total → total ≤ n + 2 * full → length (filled full total) ≤ n / full + 4
filled_few full total n some over le = omega (arith, length-filled full total some over, few_parts full total n some le)

over_few : (full : ℕ) (left : Option ℕ) (leaf : ℕ) (right : Option ℕ) (n : ℕ) → 1 ≤ full → 1 ≤ n → leaf ≤ full → length (overflowing full left right (leaf + n)).lengths ≤ n / full + 4
over_few full None leaf None n some more fits = spread_few full leaf n some more fits
over_few full (Some l) leaf None n some more fits = left_few full l leaf n some more fits
over_few full None leaf (Some r) n some more fits = right_few full r leaf n some more fits
over_few full (Some l) leaf (Some r) n some more fits = cond_both (leb l r) _ _ (λ (x : Layout). length x.lengths ≤ n / full + 4) (λ e. left_few full l leaf n some more fits) (λ e. right_few full r leaf n some more fits)

last_few : (full : ℕ) (left : Option ℕ) (leaf n : ℕ) → 1 ≤ full → 1 ≤ n → leaf ≤ full → full < leaf + n → length (overflowing_last full left (leaf + n)).lengths ≤ n / full + 4
last_few full None leaf n some more fits over = filled_few full (leaf + n) n some over (omega arith)
last_few full (Some l) leaf n some more fits over =
    cond_both (ltb l full) _ _ (λ (x : Layout). length x.lengths ≤ n / full + 4) (λ e. filled_few full (l + (leaf + n)) n some (omega arith) (omega (arith, ltb-true _ _ e))) (λ e. filled_few full (leaf + n) n some over (omega arith))

pub few_lengths : (growth : Growth) (full : ℕ) (left : Option ℕ) (leaf : ℕ) (right : Option ℕ) (n : ℕ) → 1 ≤ full → 1 ≤ n → leaf ≤ full → length (layout_by growth full left leaf right n).lengths ≤ n / full + 4
unfolding insert_layout append_layout
few_lengths Insert full left leaf right n some more fits = cond_both (leb (leaf + n) full) _ _ (λ (x : Layout). length x.lengths ≤ n / full + 4) (λ e. omega arith) (λ e. over_few full left leaf right n some more fits)
few_lengths Append full left leaf right n some more fits = cond_both (leb (leaf + n) full) _ _ (λ (x : Layout). length x.lengths ≤ n / full + 4) (λ e. omega arith) (λ e. last_few full left leaf n some more fits (leb-false _ _ e))

-- ---- the lengths of all leaves

pub grown_row : (growth : Growth) (fan full n : ℕ) (xs : List ℕ) (pos : ℕ) → 2 ≤ full → AreLeaves 1 full xs → 1 ≤ length xs → LeafRow 1 full (sum_of plain xs + n) (length xs) (row_by growth fan full n 0 xs pos)
grown_row Insert fan full n xs pos two each some = IsRow-as _ _ _ _ _ _ _ (insert_leaves_row 1 full n None xs pos (record { some = omega arith; half = omega arith }) tt each some) (omega arith) (omega arith)
grown_row Append fan full n xs pos two each some = IsRow-as _ _ _ _ _ _ _ (append_leaves_row 1 full n None xs (record { some = omega arith; half = omega arith }) tt each some) (omega arith) (omega arith)
