-- Lists without repeats: how many numbers they have, and how many of these have no copy.
use Rattle.std.proofs.Common.{◌≡◌, inl, inr, ℕ, ◌⊎◌, ◌+◌, ◌-◌, ◌≤◌, Bool, true, false, List, [], ◌∷◌, ◌++◌, length, Some, None, Option, refl, sym, ap, subst, ◌∙◌, arith, eq-eqb}
use Rattle.std.specs.Prelude.{if◌then◌else◌, nat_eq, not, filter}
use Rattle.std.proofs.lemmas.Bool.{cases_Bool, cases_eq}
use Rattle.ex_base.specs.declared.names.PageNo.{PageNo}
use Rattle.ex_base.specs.Ports.{times}
use Rattle.ex_base.proofs.Counts.{none_or_some, same_or_not, times-append, times_apart, times_here, not_equal}
use Rattle.trees.specs.Made.{Has}
use Rattle.trees.proofs.Laid.{has_left, has_right}
use Rattle.trees.proofs.Over.{has_split}
use Rattle.trees.proofs.Released.{gone, one_less, without_one}
use Rattle.compact.specs.High.{each_once}
use Rattle.compact.specs.Moved.{Copies, KeepsCopies, one_without, unmoved}
use Rattle.compact.proofs.Counting.{once_times, times_of_has}
use Rattle.compact.proofs.Once.{has_of_times, once_has}

-- ---- sums over the numbers of a list

abbrev pub total : (ℕ → ℕ) → List ℕ → ℕ
total f [] = 0
total f (x ∷ xs) = f x + total f xs

pub total_less : (f : ℕ → ℕ) (p : ℕ) (xs : List ℕ) → 1 ≤ times p xs → total f (without_one p xs) + f p ≡ total f xs
total_less f p [] some = absurd (omega (arith, some))
total_less f p (x ∷ xs) some = (elim (cases_eq p x) as (λ c. total f (elim c [ inl same ↦ xs | inr other ↦ x ∷ without_one p xs ]) + f p ≡ total f (x ∷ xs)) [
  | inl same ↦ (let e : f p ≡ f x = ap f same in omega (arith, e))
  | inr other ↦ omega (arith, total_less f p xs (omega (arith, some, times_apart p x xs other)))
])

-- a list of which each number that counts stands in another one as often
pub total_most : (f : ℕ → ℕ) (xs ys : List ℕ) → ((p : ℕ) → (f p ≡ 0) ⊎ (times p xs ≤ times p ys)) → total f xs ≤ total f ys
total_most f [] ys within = omega arith
total_most f (x ∷ xs) ys within = elim (within x) [
  | inl none ↦ omega (
    arith,
    none,
    total_most f xs ys (λ p. elim (within p) [
      | inl zero ↦ inl zero
      | inr most ↦ elim (same_or_not p x) [
        | inl same ↦ inr (omega (arith, most, times_here p x xs same))
        | inr differ ↦ inr (omega (arith, most, times_apart p x xs differ))
      ]
    ]),
  )
  | inr here ↦
      let there : 1 ≤ times x ys = omega (arith, here, times_here x x xs refl) in
      let rest = total_most f xs (without_one x ys) (λ p. elim (within p) [
        | inl zero ↦ inl zero
        | inr most ↦ elim (same_or_not p x) [
          | inl same ↦ inr (subst (λ q. times q xs ≤ times q (without_one x ys)) (sym same) (omega (arith, here, times_here x x xs refl, one_less x ys there)))
          | inr differ ↦ inr (omega (arith, most, times_apart p x xs differ, gone x p ys (λ e. differ (sym e))))
        ]
      ]) in
      omega (arith, rest, total_less f x ys there)
]

total-append : (f : ℕ → ℕ) (xs ys : List ℕ) → total f (xs ++ ys) ≡ total f xs + total f ys
total-append f [] ys = omega arith
total-append f (x ∷ xs) ys = omega (arith, total-append f xs ys)

-- a list of which the numbers stand in two others
total_parted : (f : ℕ → ℕ) (xs ys zs : List ℕ) → ((p : ℕ) → times p xs ≡ times p ys + times p zs) → total f xs ≡ total f ys + total f zs
total_parted f xs ys zs parted =
    let up = total_most f xs (ys ++ zs) (λ p. inr (omega (arith, parted p, times-append p ys zs))) in
    let down = total_most f (ys ++ zs) xs (λ p. inr (omega (arith, parted p, times-append p ys zs))) in
    omega (arith, up, down, total-append f ys zs)

pub total_none : (f : ℕ → ℕ) (xs : List ℕ) → ((p : ℕ) → Has xs p → f p ≡ 0) → total f xs ≡ 0
total_none f [] none = refl
total_none f (x ∷ xs) none = omega (arith, none x (inl refl), total_none f xs (λ p h. none p (inr h)))

-- ---- lengths, and what has no copy

abbrev pub one_each : ℕ → ℕ
one_each p = 1

abbrev lacks : Copies → ℕ → ℕ
lacks moves p = one_without (moves p)

-- 1 for what got its copy
abbrev pub newly : Copies → Copies → ℕ → ℕ
newly moves after p = one_without (moves p) - one_without (after p)

pub total_length : (xs : List ℕ) → total one_each xs ≡ length xs
total_length [] = refl
total_length (x ∷ xs) = omega (arith, total_length xs)

pub total_unmoved : (moves : Copies) (xs : List ℕ) → total (lacks moves) xs ≡ unmoved moves xs
total_unmoved moves [] = refl
total_unmoved moves (x ∷ xs) = omega (arith, total_unmoved moves xs)

no_more : (was now : Option PageNo) → ((c : PageNo) → was ≡ Some c → now ≡ Some c) → one_without now ≤ one_without was
no_more None None f = omega arith
no_more None (Some c) f = omega arith
no_more (Some c) now f = subst (λ (o : Option PageNo). one_without o ≤ 0) (sym (f c refl)) (omega arith)

total_newly : (moves after : Copies) (xs : List ℕ) → KeepsCopies moves after → unmoved moves xs ≡ unmoved after xs + total (newly moves after) xs
total_newly moves after [] keeps = refl
total_newly moves after (x ∷ xs) keeps = omega (arith, no_more (moves x) (after x) (keeps x), total_newly moves after xs keeps)

-- ---- each number once

once_back : (xs : List ℕ) (p : ℕ) → Has (each_once xs) p → Has xs p
once_back [] p has = has
once_back (x ∷ xs) p has = by_test (λ rest. once_back xs p rest) (nat_eq (times x xs) 0) has
  where
    by_test : (Has (each_once xs) p → Has xs p) → (b : Bool) → Has (if b then x ∷ each_once xs else each_once xs) p → Has (x ∷ xs) p
    by_test go true (inl e) = inl e
    by_test go true (inr rest) = inr (go rest)
    by_test go false rest = inr (go rest)

pub back_once : (xs : List ℕ) (p : ℕ) → Has (each_once xs) p → Has xs p
back_once xs p has = once_back xs p has

pub once_here : (xs : List ℕ) (p : ℕ) → Has xs p → times p (each_once xs) ≡ 1
once_here xs p has = omega (arith, once_times xs p, times_of_has p (each_once xs) (once_has xs p has))

pub once_none : (xs : List ℕ) (p : ℕ) → (Has xs p → ⊥) → times p (each_once xs) ≡ 0
once_none xs p off = elim (none_or_some (times p (each_once xs))) [
  | inl none ↦ none
  | inr some ↦ absurd (off (once_back xs p (has_of_times p (each_once xs) some)))
]

-- whether a number stands in a list
pub has_or_not : (xs : List ℕ) (p : ℕ) → (Has xs p) ⊎ (Has xs p → ⊥)
has_or_not xs p = elim (none_or_some (times p xs)) [
  | inl none ↦ inr (λ has. absurd (let some = times_of_has p xs has in omega (arith, none, some)))
  | inr some ↦ inl (has_of_times p xs some)
]

-- two lists with the same numbers have as many different ones
pub as_many : (xs ys : List ℕ) → ((p : ℕ) → Has xs p → Has ys p) → ((p : ℕ) → Has ys p → Has xs p) → length (each_once xs) ≡ length (each_once ys)
as_many xs ys on back =
    let same : (p : ℕ) → times p (each_once xs) ≡ times p (each_once ys) = λ p. elim (has_or_not xs p) [
      | inl has ↦ once_here xs p has ∙ sym (once_here ys p (on p has))
      | inr off ↦ once_none xs p off ∙ sym (once_none ys p (λ h. off (back p h)))
    ] in
    let up = total_most one_each (each_once xs) (each_once ys) (λ p. inr (omega (arith, same p))) in
    let down = total_most one_each (each_once ys) (each_once xs) (λ p. inr (omega (arith, same p))) in
    omega (arith, up, down, total_length (each_once xs), total_length (each_once ys))

-- fewer numbers, fewer that have no copy
pub fewer_unmoved : (moves : Copies) (xs ys : List ℕ) → ((p : ℕ) → Has xs p → Has ys p) → unmoved moves (each_once xs) ≤ unmoved moves (each_once ys)
fewer_unmoved moves xs ys on =
    let most = total_most (lacks moves) (each_once xs) (each_once ys) (λ p. elim (has_or_not xs p) [
      | inl has ↦ inr (omega (arith, once_here xs p has, once_here ys p (on p has)))
      | inr off ↦ inr (omega (arith, once_none xs p off))
    ]) in
    omega (arith, most, total_unmoved moves (each_once xs), total_unmoved moves (each_once ys))

-- ---- those of one list that stand in another one, and the others

abbrev off_test : List ℕ → ℕ → Bool
off_test ys p = nat_eq (times p ys) 0

abbrev on_test : List ℕ → ℕ → Bool
on_test ys p = not (off_test ys p)

-- the different numbers of a list that don't stand in another one
abbrev pub only_in : List ℕ → List ℕ → List ℕ
only_in xs ys = filter (off_test ys) (each_once xs)

abbrev both_in : List ℕ → List ℕ → List ℕ
both_in xs ys = filter (on_test ys) (each_once xs)

passed : (t : ℕ → Bool) (xs : List ℕ) (p : ℕ) → t p ≡ true → times p (filter t xs) ≡ times p xs
passed t [] p is = refl
passed t (x ∷ xs) p is = by_test (passed t xs p is) (t x) refl
  where
    by_test : times p (filter t xs) ≡ times p xs → (b : Bool) → t x ≡ b → times p (if b then x ∷ filter t xs else filter t xs) ≡ times p (x ∷ xs)
    by_test rest true here = elim (same_or_not p x) [
      | inl same ↦ omega (arith, rest, times_here p x xs same, times_here p x (filter t xs) same)
      | inr differ ↦ omega (arith, rest, times_apart p x xs differ, times_apart p x (filter t xs) differ)
    ]
    by_test rest false here = rest ∙ sym (times_apart p x xs (λ (same : p ≡ x). absurd (let e : true ≡ false = sym is ∙ ap t same ∙ here in cc)))

dropped : (t : ℕ → Bool) (xs : List ℕ) (p : ℕ) → t p ≡ false → times p (filter t xs) ≡ 0
dropped t [] p is = refl
dropped t (x ∷ xs) p is = by_test (dropped t xs p is) (t x) refl
  where
    by_test : times p (filter t xs) ≡ 0 → (b : Bool) → t x ≡ b → times p (if b then x ∷ filter t xs else filter t xs) ≡ 0
    by_test rest true here = times_apart p x (filter t xs) (λ (same : p ≡ x). absurd (let e : true ≡ false = sym here ∙ sym (ap t same) ∙ is in cc)) ∙ rest
    by_test rest false here = rest

off_is : (ys : List ℕ) (p : ℕ) → (Has ys p → ⊥) → off_test ys p ≡ true
off_is ys p off = elim (none_or_some (times p ys)) [
  | inl none ↦ eq-eqb (times p ys) 0 none
  | inr some ↦ absurd (off (has_of_times p ys some))
]

off_isnt : (ys : List ℕ) (p : ℕ) → Has ys p → off_test ys p ≡ false
off_isnt ys p has = not_equal (times p ys) 0 (λ none. absurd (let some = times_of_has p ys has in omega (arith, none, some)))

pub only_once : (xs ys : List ℕ) (p : ℕ) → times p (only_in xs ys) ≤ 1
only_once xs ys p = elim (cases_Bool (off_test ys p)) [
  | inl is ↦ omega (arith, passed (off_test ys) (each_once xs) p is, once_times xs p)
  | inr isnt ↦ omega (arith, dropped (off_test ys) (each_once xs) p isnt)
]

pub only_has : (xs ys : List ℕ) (p : ℕ) → Has xs p → (Has ys p → ⊥) → Has (only_in xs ys) p
only_has xs ys p has off = has_of_times p (only_in xs ys) (omega (arith, passed (off_test ys) (each_once xs) p (off_is ys p off), once_here xs p has))

pub has_only : (xs ys : List ℕ) (p : ℕ) → Has (only_in xs ys) p → Has xs p × (Has ys p → ⊥)
has_only xs ys p has =
    let some = times_of_has p (only_in xs ys) has in
    elim (has_or_not ys p) [
      | inl on ↦ absurd (let none = dropped (off_test ys) (each_once xs) p (off_isnt ys p on) in omega (arith, some, none))
      | inr off ↦ (once_back xs p (has_of_times p (each_once xs) (omega (arith, some, passed (off_test ys) (each_once xs) p (off_is ys p off)))), off)
    ]

-- how often a number stands in the parts
module _ (xs ys : List ℕ) where
  abbrev own : List ℕ
  own = each_once xs

  abbrev rest : List ℕ
  rest = each_once ys

  abbrev whole : List ℕ
  whole = each_once (xs ++ ys)

  abbrev only : List ℕ
  only = only_in xs ys

  abbrev both : List ℕ
  both = both_in xs ys

  whole_parted : (p : ℕ) → times p whole ≡ times p only + times p rest
  whole_parted p = elim (has_or_not ys p) [
    | inl on ↦ omega (arith, once_here (xs ++ ys) p (has_right xs ys p on), once_here ys p on, dropped (off_test ys) own p (off_isnt ys p on))
    | inr off ↦ elim (has_or_not xs p) [
      | inl has ↦ omega (arith, once_here (xs ++ ys) p (has_left xs ys p has), once_none ys p off, passed (off_test ys) own p (off_is ys p off), once_here xs p has)
      | inr none ↦
          let neither = once_none (xs ++ ys) p (λ h. elim (has_split xs ys p h) [ inl a ↦ none a | inr b ↦ off b ]) in
          omega (arith, neither, once_none ys p off, passed (off_test ys) own p (off_is ys p off), once_none xs p none)
    ]
  ]

  own_parted : (p : ℕ) → times p own ≡ times p only + times p both
  own_parted p = elim (has_or_not ys p) [
    | inl on ↦
        let test : on_test ys p ≡ true = ap not (off_isnt ys p on) in
        omega (arith, dropped (off_test ys) own p (off_isnt ys p on), passed (on_test ys) own p test)
    | inr off ↦
        let test : on_test ys p ≡ false = ap not (off_is ys p off) in
        omega (arith, passed (off_test ys) own p (off_is ys p off), dropped (on_test ys) own p test)
  ]

  both_inside : (p : ℕ) → times p both ≤ times p rest
  both_inside p = elim (has_or_not ys p) [
    | inl on ↦
        let test : on_test ys p ≡ true = ap not (off_isnt ys p on) in
        omega (arith, passed (on_test ys) own p test, once_times xs p, once_here ys p on)
    | inr off ↦
        let test : on_test ys p ≡ false = ap not (off_is ys p off) in
        omega (arith, dropped (on_test ys) own p test)
  ]

  -- ---- a step

  module _ (moves after : Copies) (keeps : KeepsCopies moves after) where
    length_whole : length whole ≡ length only + length rest
    length_whole = omega (arith, total_parted one_each whole only rest whole_parted, total_length whole, total_length only, total_length rest)

    unmoved_whole : unmoved moves whole ≡ unmoved moves only + unmoved moves rest
    unmoved_whole = omega (arith, total_parted (lacks moves) whole only rest whole_parted, total_unmoved moves whole, total_unmoved moves only, total_unmoved moves rest)

    unmoved_own : (copies : Copies) → unmoved copies own ≡ unmoved copies only + unmoved copies both
    unmoved_own copies = omega (arith, total_parted (lacks copies) own only both own_parted, total_unmoved copies own, total_unmoved copies only, total_unmoved copies both)

    -- fewer are left
    pub fewer_left : length rest ≤ length whole
    fewer_left = omega (arith, length_whole)

    newly_both : total (newly moves after) both ≤ total (newly moves after) rest
    newly_both = total_most (newly moves after) both rest (λ p. inr (both_inside p))

    -- the pages that are free, where those that only the first list has are given back
    pub fewer_pages : (least free later : ℕ) → least + unmoved moves whole ≤ free + length whole → free + unmoved after own + length only ≤ later + unmoved moves own
        → least + unmoved after rest ≤ later + length rest
    fewer_pages least free later before paid =
        omega (arith, before, paid, length_whole, unmoved_whole, unmoved_own moves, unmoved_own after, newly_both, total_newly moves after both keeps, total_newly moves after rest keeps)

    -- the units that are in use, where besides each of these has its copy, and no other of the second list got one
    pub same_units : (least used later : ℕ) → used + unmoved moves whole ≡ least + length whole → later + unmoved after own + length only ≡ used + unmoved moves own
        → ((p : ℕ) → Has only p → one_without (after p) ≡ 0) → ((p : ℕ) → Has ys p → (Has xs p → ⊥) → newly moves after p ≡ 0)
        → later + unmoved after rest ≡ least + length rest
    same_units least used later before paid copied others =
        let none : unmoved after only ≡ 0 = sym (total_unmoved after only) ∙ total_none (lacks after) only copied in
        let more = total_most (newly moves after) rest both (λ p. elim (has_or_not ys p) [
          | inl on ↦ elim (has_or_not xs p) [
            | inl has ↦
                let test : on_test ys p ≡ true = ap not (off_isnt ys p on) in
                inr (omega (arith, passed (on_test ys) own p test, once_here xs p has, once_here ys p on))
            | inr off ↦ inl (others p on off)
          ]
          | inr off ↦ inr (omega (arith, once_none ys p off))
        ]) in
        omega (arith, before, paid, none, more, length_whole, unmoved_whole, unmoved_own moves, unmoved_own after, newly_both, total_newly moves after both keeps, total_newly moves after rest keeps)
