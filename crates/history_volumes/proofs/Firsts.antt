-- Lists in which each number is kept where it stands first.
use Rattle.std.proofs.Common.{◌≡◌, ◌≢◌, ◌≤◌, ◌+◌, ◌⊎◌, inl, inr, ℕ, zero, suc, Bool, true, false, eqb, List, [], ◌∷◌, ◌++◌, refl, sym, subst, ap, ◌∙◌, arith}
use Rattle.std.specs.Prelude.{if◌then◌else◌, ◌==◌}
use Rattle.std.proofs.lemmas.Bool.{eqb-true, eq-eqb}
use Rattle.ex_base.specs.Order.{AllDiffer}
use Rattle.ex_base.specs.Ports.{times}
use Rattle.ex_base.proofs.Counts.{times-append, times_here, times_apart, once_differ}
use Rattle.version_lists.proofs.Lists.{Has, has_front, has_back, has_either}
use Rattle.history_volumes.specs.Walks.{added, with_firsts, firsts}

pub has_times : (x : ℕ) (xs : List ℕ) → Has xs x → 1 ≤ times x xs
has_times x [] h = absurd h
has_times x (y ∷ ys) (inl e) = omega (arith, times_here x y ys (sym e))
has_times x (y ∷ ys) (inr m) = let rest = has_times x ys m in omega arith

pub times_has : (x : ℕ) (xs : List ℕ) → 1 ≤ times x xs → Has xs x
times_has x [] h = absurd (omega (arith, h))
times_has x (y ∷ ys) h = by (eqb y x) refl (times_has x ys)
  where
    by : (b : Bool) → eqb y x ≡ b → (1 ≤ times x ys → Has ys x) → Has (y ∷ ys) x
    by true is rest = inl (eqb-true y x is)
    by false is rest = let le = subst (λ (b : Bool). 1 ≤ (if b then 1 else 0) + times x ys) is h in inr (rest (omega (arith, le)))

module _ (seen : List ℕ) (x : ℕ) where
  -- it was there, or comes behind
  pub added_by : (P : List ℕ → Type 0) → (1 ≤ times x seen → P seen) → (times x seen ≡ 0 → P (seen ++ x ∷ [])) → P (added seen x)
  added_by P there new = by (times x seen == 0) refl
    where
      by : (b : Bool) → (times x seen == 0) ≡ b → P (if b then seen ++ x ∷ [] else seen)
      by true is = new (eqb-true (times x seen) 0 is)
      by false is = there (some (times x seen) is)
        where
          some : (n : ℕ) → (n == 0) ≡ false → 1 ≤ n
          some zero e = absurd cc
          some (suc n) e = omega arith

  pub added_has : Has (added seen x) x
  added_has = added_by (λ (l : List ℕ). Has l x) (λ le. times_has x seen le) (λ none. has_back seen (x ∷ []) x (inl refl))

  pub added_keeps : (y : ℕ) → Has seen y → Has (added seen x) y
  added_keeps y h = added_by (λ (l : List ℕ). Has l y) (λ le. h) (λ none. has_front seen (x ∷ []) y h)

  pub added_from : (y : ℕ) → Has (added seen x) y → Has seen y ⊎ (x ≡ y)
  added_from y = added_by (λ (l : List ℕ). Has l y → Has seen y ⊎ (x ≡ y)) (λ le h. inl h) (λ none h. elim (has_either seen (x ∷ []) y h) [
    | inl a ↦ inl a
    | inr b ↦ elim b [ inl e ↦ inr e | inr none ↦ absurd none ]
  ])

  pub added_once : ((y : ℕ) → times y seen ≤ 1) → (y : ℕ) → times y (added seen x) ≤ 1
  added_once once y = added_by (λ (l : List ℕ). times y l ≤ 1) (λ le. once y) (λ none. by (eqb x y) refl none)
    where
      by : (b : Bool) → eqb x y ≡ b → times x seen ≡ 0 → times y (seen ++ x ∷ []) ≤ 1
      by true is none =
          let same = eqb-true x y is in
          let gone : times y seen ≡ 0 = subst (λ (z : ℕ). times z seen ≡ 0) same none in
          omega (arith, times-append y seen (x ∷ []), times_here y x [] (sym same), gone)
      by false is none =
          let apart : y ≢ x = λ e. (let d : false ≡ true = sym is ∙ eq-eqb x y (sym e) in cc) in
          omega (arith, times-append y seen (x ∷ []), times_apart y x [] apart, once y)

  -- what is there already isn't added
  pub added_none : Has seen x → added seen x ≡ seen
  added_none h = added_by (λ (l : List ℕ). l ≡ seen) (λ le. refl) (λ none. absurd (omega (arith, none, has_times x seen h)))

pub with_append : (seen xs ys : List ℕ) → with_firsts seen (xs ++ ys) ≡ with_firsts (with_firsts seen xs) ys
with_append seen [] ys = refl
with_append seen (x ∷ xs) ys = with_append (added seen x) xs ys

pub with_keeps : (seen xs : List ℕ) (y : ℕ) → Has seen y → Has (with_firsts seen xs) y
with_keeps seen [] y h = h
with_keeps seen (x ∷ xs) y h = with_keeps (added seen x) xs y (added_keeps seen x y h)

pub with_has : (seen xs : List ℕ) (y : ℕ) → Has xs y → Has (with_firsts seen xs) y
with_has seen [] y h = absurd h
with_has seen (x ∷ xs) y (inl e) = with_keeps (added seen x) xs y (subst (λ (z : ℕ). Has (added seen x) z) e (added_has seen x))
with_has seen (x ∷ xs) y (inr m) = with_has (added seen x) xs y m

pub with_from : (seen xs : List ℕ) (y : ℕ) → Has (with_firsts seen xs) y → Has seen y ⊎ Has xs y
with_from seen [] y h = inl h
with_from seen (x ∷ xs) y h = elim (with_from (added seen x) xs y h) [
  | inl a ↦ elim (added_from seen x y a) [ inl b ↦ inl b | inr e ↦ inr (inl e) ]
  | inr m ↦ inr (inr m)
]

pub with_once : (seen xs : List ℕ) → ((y : ℕ) → times y seen ≤ 1) → (y : ℕ) → times y (with_firsts seen xs) ≤ 1
with_once seen [] once = once
with_once seen (x ∷ xs) once = with_once (added seen x) xs (added_once seen x once)

-- where all is there already nothing is added
pub with_none : (seen xs : List ℕ) → ((y : ℕ) → Has xs y → Has seen y) → with_firsts seen xs ≡ seen
with_none seen [] all = refl
with_none seen (x ∷ xs) all =
    let same = added_none seen x (all x (inl refl)) in
    ap (λ (l : List ℕ). with_firsts l xs) same ∙ with_none seen xs (λ y m. all y (inr m))

-- ---- from nothing on

pub firsts_has : (xs : List ℕ) (y : ℕ) → Has xs y → Has (firsts xs) y
firsts_has xs y h = with_has [] xs y h

pub firsts_from : (xs : List ℕ) (y : ℕ) → Has (firsts xs) y → Has xs y
firsts_from xs y h = elim (with_from [] xs y h) [ inl none ↦ absurd none | inr m ↦ m ]

pub firsts_once : (xs : List ℕ) (y : ℕ) → times y (firsts xs) ≤ 1
firsts_once xs y = with_once [] xs (λ z. omega arith) y

pub firsts_differ : (xs : List ℕ) → AllDiffer (firsts xs)
firsts_differ xs = once_differ (firsts xs) (firsts_once xs)
