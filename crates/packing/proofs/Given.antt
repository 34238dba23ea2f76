-- Units that were given back are free: how many more are.
use Rattle.std.proofs.Common.{◌≡◌, ◌≢◌, inl, inr, ℕ, zero, suc, ◌+◌, ◌<◌, ◌≤◌, Bool, true, false, List, [], ◌∷◌, length, refl, sym, ap, subst, ◌∙◌, arith, true≢false}
use Rattle.std.specs.Prelude.{if◌then◌else◌}
use Rattle.std.proofs.lemmas.Bool.{cases_eq}
use Rattle.ex_base.specs.Ports.{times}
use Rattle.ex_base.proofs.Counts.{same_or_not}
use Rattle.trees.specs.Made.{Has}
use Rattle.trees.proofs.Released.{gone, one_less, without_one}
use Rattle.compact.proofs.Counting.{times_of_has}
use Rattle.compact.proofs.Once.{has_of_times}
use Rattle.page_alloc.specs.UnitSet.{free_below}
use Rattle.volume_model.specs.Shown.{used_below}
use Rattle.packing.proofs.Totals.{has_or_not, one_each, total_length, total_less}

abbrev free_one : Bool → ℕ
free_one b = if b then 0 else 1

abbrev used_one : Bool → ℕ
used_one b = if b then 1 else 0

-- ---- one unit more

free_step : (used : ℕ → Bool) (at : ℕ → ℕ) (n : ℕ) → free_below used at (suc n) ≡ free_below used at n + free_one (used (at n))
unfolding free_below
free_step used at n = refl

free_start : (used : ℕ → Bool) (at : ℕ → ℕ) → free_below used at 0 ≡ 0
unfolding free_below
free_start used at = refl

-- each unit is free or in use
one_either : (b : Bool) → free_one b + used_one b ≡ 1
one_either true = refl
one_either false = refl

pub free_or_used : (used : ℕ → Bool) (at : ℕ → ℕ) (n : ℕ) → free_below used at n + used_below used at n ≡ n
free_or_used used at zero = omega (arith, free_start used at)
free_or_used used at (suc n) = omega (arith, free_step used at n, one_either (used (at n)), free_or_used used at n)

-- ---- units that differ, and a list of those that were given back

-- The first units of an area, each of them another one, were in use before where they are now; those of a list were, and aren't.
pub record GivesBack (before now : ℕ → Bool) (at : ℕ → ℕ) (n : ℕ) (given : List ℕ) : Type 0 where
  pub fewer : (u : ℕ) → now u ≡ true → before u ≡ true
  pub differ : (i j : ℕ) → i < j → j < n → at i ≡ at j → ⊥
  pub once : (p : ℕ) → times p given ≤ 1
  pub inside : (p : ℕ) → Has given p → (j : ℕ) × (j < n) × (at j ≡ p)
  pub was : (p : ℕ) → Has given p → before p ≡ true
  pub isnt : (p : ℕ) → Has given p → now p ≡ false

count_less : (p : ℕ) (xs : List ℕ) → 1 ≤ times p xs → length (without_one p xs) + 1 ≡ length xs
count_less p xs some = omega (arith, total_less one_each p xs some, total_length (without_one p xs), total_length xs)

module _ (before now : ℕ → Bool) (at : ℕ → ℕ) where
  fewer_free : (b n : Bool) → (n ≡ true → b ≡ true) → free_one b ≤ free_one n
  fewer_free true n on = omega arith
  fewer_free false false on = omega arith
  fewer_free false true on = absurd (true≢false (sym (on refl)))

  -- the last unit is one of the list
  last_given : (n : ℕ) (given : List ℕ) → GivesBack before now at (suc n) given → Has given (at n) → GivesBack before now at n (without_one (at n) given)
  last_given n given g has =
      let some = times_of_has (at n) given has in
      let none : times (at n) (without_one (at n) given) ≡ 0 = omega (arith, one_less (at n) given some, g.once (at n)) in
      let apart : (p : ℕ) → Has (without_one (at n) given) p → at n ≢ p = λ p h same. absurd (let one = times_of_has p (without_one (at n) given) h in omega (arith, one, none, ap (λ q. times q (without_one (at n) given)) same)) in
      let back : (p : ℕ) → Has (without_one (at n) given) p → Has given p = λ p h.
      has_of_times p given (let one = times_of_has p (without_one (at n) given) h in omega (arith, one, gone (at n) p given (apart p h))) in
      record {
        fewer = g.fewer;
        differ = λ i j lt below. g.differ i j lt (omega (arith, below));
        once = λ p. elim (same_or_not (at n) p) [
          | inl same ↦ subst (λ q. times q (without_one (at n) given) ≤ 1) same (omega (arith, none))
          | inr other ↦ omega (arith, gone (at n) p given other, g.once p)
        ];
        inside = λ p h.
            let j = g.inside p (back p h) in
            (j.0, (let off : j.0 ≢ n = λ same. apart p h (sym (ap at same) ∙ j.2) in omega (arith, j.1, off)), j.2);
        was = λ p h. g.was p (back p h);
        isnt = λ p h. g.isnt p (back p h);
      }

  last_other : (n : ℕ) (given : List ℕ) → GivesBack before now at (suc n) given → (Has given (at n) → ⊥) → GivesBack before now at n given
  last_other n given g off = record {
    fewer = g.fewer;
    differ = λ i j lt below. g.differ i j lt (omega (arith, below));
    once = g.once;
    inside = λ p h.
        let j = g.inside p h in
        (j.0, (let other : j.0 ≢ n = λ same. off (subst (Has given) (sym j.2 ∙ ap at same) h) in omega (arith, j.1, other)), j.2);
    was = g.was;
    isnt = g.isnt;
  }

  pub gives_back : (n : ℕ) (given : List ℕ) → GivesBack before now at n given → free_below before at n + length given ≤ free_below now at n
  gives_back zero [] g = omega (arith, free_start before at, free_start now at)
  gives_back zero (x ∷ xs) g = absurd (let j = g.inside x (inl refl) in omega (arith, j.1))
  gives_back (suc n) given g = elim (has_or_not given (at n)) [
    | inl has ↦
        let rest = gives_back n (without_one (at n) given) (last_given n given g has) in
        let was : free_one (before (at n)) ≡ 0 = ap free_one (g.was (at n) has) in
        let isnt : free_one (now (at n)) ≡ 1 = ap free_one (g.isnt (at n) has) in
        omega (arith, rest, was, isnt, count_less (at n) given (times_of_has (at n) given has), free_step before at n, free_step now at n)
    | inr off ↦
        let rest = gives_back n given (last_other n given g off) in
        omega (arith, rest, fewer_free (before (at n)) (now (at n)) (g.fewer (at n)), free_step before at n, free_step now at n)
  ]

  same_free : (b n : Bool) → (n ≡ true → b ≡ true) → (b ≡ true → n ≡ false → ⊥) → free_one b ≡ free_one n
  same_free true true on off = refl
  same_free true false on off = absurd (off refl refl)
  same_free false false on off = refl
  same_free false true on off = absurd (true≢false (sym (on refl)))

  -- and just these were given back
  pub gives_just : (n : ℕ) (given : List ℕ) → GivesBack before now at n given → ((j : ℕ) → j < n → before (at j) ≡ true → now (at j) ≡ false → Has given (at j)) → free_below before at n + length given ≡ free_below now at n
  gives_just zero [] g all = omega (arith, free_start before at, free_start now at)
  gives_just zero (x ∷ xs) g all = absurd (let j = g.inside x (inl refl) in omega (arith, j.1))
  gives_just (suc n) given g all = elim (has_or_not given (at n)) [
    | inl has ↦
        let rest = gives_just n (without_one (at n) given) (last_given n given g has) (λ j lt is isnt.
        has_of_times (at j) (without_one (at n) given) (let one = times_of_has (at j) given (all j (omega (arith, lt)) is isnt) in omega (arith, one, gone (at n) (at j) given (λ same. g.differ j n lt (omega arith) (sym same))))) in
        let was : free_one (before (at n)) ≡ 0 = ap free_one (g.was (at n) has) in
        let isnt : free_one (now (at n)) ≡ 1 = ap free_one (g.isnt (at n) has) in
        omega (arith, rest, was, isnt, count_less (at n) given (times_of_has (at n) given has), free_step before at n, free_step now at n)
    | inr off ↦
        let rest = gives_just n given (last_other n given g off) (λ j lt is isnt. all j (omega (arith, lt)) is isnt) in
        let same = same_free (before (at n)) (now (at n)) (g.fewer (at n)) (λ is isnt. off (all n (omega arith) is isnt)) in
        omega (arith, rest, same, free_step before at n, free_step now at n)
  ]

-- ---- units behind a number of an area

-- a list of different units of an area from a number on that are in use
pub record AreBehind (used : ℕ → Bool) (at : ℕ → ℕ) (from n : ℕ) (listed : List ℕ) : Type 0 where
  pub differ : (i j : ℕ) → i < j → j < n → at i ≡ at j → ⊥
  pub once : (p : ℕ) → times p listed ≤ 1
  pub inside : (p : ℕ) → Has listed p → (j : ℕ) × (from ≤ j) × (j < n) × (at j ≡ p)
  pub in_use : (p : ℕ) → Has listed p → used p ≡ true

-- so many more are in use than before that number
pub behind_most : (used : ℕ → Bool) (at : ℕ → ℕ) (from n : ℕ) (listed : List ℕ) → from ≤ n → AreBehind used at from n listed → used_below used at from + length listed ≤ used_below used at n
behind_most used at from zero [] le b = let same : from ≡ 0 = omega (arith, le) in omega (arith, ap (used_below used at) same)
behind_most used at from zero (x ∷ xs) le b = absurd (let j = b.inside x (inl refl) in omega (arith, j.2))
behind_most used at from (suc n) listed le b = elim (cases_eq from (suc n)) [
  | inl same ↦ none_left listed b.inside same
  | inr before ↦ elim (has_or_not listed (at n)) [
    | inl has ↦
        let some = times_of_has (at n) listed has in
        let none : times (at n) (without_one (at n) listed) ≡ 0 = omega (arith, one_less (at n) listed some, b.once (at n)) in
        let apart : (p : ℕ) → Has (without_one (at n) listed) p → at n ≢ p = λ p h same. absurd (let one = times_of_has p (without_one (at n) listed) h in omega (arith, one, none, ap (λ q. times q (without_one (at n) listed)) same)) in
        let back : (p : ℕ) → Has (without_one (at n) listed) p → Has listed p = λ p h.
        has_of_times p listed (let one = times_of_has p (without_one (at n) listed) h in omega (arith, one, gone (at n) p listed (apart p h))) in
        let rest = behind_most used at from n (without_one (at n) listed) (omega (arith, le, before)) (record {
          differ = λ i j lt below. b.differ i j lt (omega (arith, below));
          once = λ p. elim (same_or_not (at n) p) [
            | inl same ↦ subst (λ q. times q (without_one (at n) listed) ≤ 1) same (omega (arith, none))
            | inr other ↦ omega (arith, gone (at n) p listed other, b.once p)
          ];
          inside = λ p h.
              let j = b.inside p (back p h) in
              (j.0, j.1, (let off : j.0 ≢ n = λ same. apart p h (sym (ap at same) ∙ j.3) in omega (arith, j.2, off)), j.3);
          in_use = λ p h. b.in_use p (back p h);
        }) in
        let is : used_one (used (at n)) ≡ 1 = ap used_one (b.in_use (at n) has) in
        omega (arith, rest, is, count_less (at n) listed some)
    | inr off ↦
        let rest = behind_most used at from n listed (omega (arith, le, before)) (record {
          differ = λ i j lt below. b.differ i j lt (omega (arith, below));
          once = b.once;
          inside = λ p h.
              let j = b.inside p h in
              (j.0, j.1, (let other : j.0 ≢ n = λ same. off (subst (Has listed) (sym j.3 ∙ ap at same) h) in omega (arith, j.2, other)), j.3);
          in_use = b.in_use;
        }) in
        omega (arith, rest)
  ]
]
  where
    none_left : (listed : List ℕ) → ((p : ℕ) → Has listed p → (j : ℕ) × (from ≤ j) × (j < suc n) × (at j ≡ p)) → from ≡ suc n → used_below used at from + length listed ≤ used_below used at (suc n)
    none_left [] inside same = omega (arith, ap (used_below used at) same)
    none_left (x ∷ xs) inside same = absurd (let j = inside x (inl refl) in omega (arith, j.1, j.2, same))
