-- The first rows of the working pages, one after the other.
use Rattle.std.proofs.Common.{◌≡◌, ◌≢◌, ◌<◌, ◌+◌, ℕ, zero, suc, true, false, cond, List, [], ◌∷◌, take, Option, Some, None, nat_eq, slice_get, refl, sym, ap, subst, ◌∙◌, ⊎_elim, arith, eqb-true, eq-eqb}
use Rattle.std.specs.Map.{lookup}
use Rattle.std.proofs.lemmas.Bool.{cases_eq}
use Rattle.ex_base.proofs.Counts.{not_equal}
use Rattle.meta_pages.specs.Rows.{IsAbove, IsRising}
use Rattle.volume_model.specs.Shown.{WorkingRow}

pub here_or : (p k : ℕ) (v : Option (List ℕ)) (rest : Option (Option (List ℕ))) → p ≢ k → cond (nat_eq p k) (Some v) rest ≡ rest
here_or p k v rest differ = rw (not_equal p k differ) refl

pub here_is : (k : ℕ) (v : Option (List ℕ)) (rest : Option (Option (List ℕ))) → cond (nat_eq k k) (Some v) rest ≡ Some v
here_is k v rest = rw (eq-eqb k k refl) refl

pub above_at : (low : ℕ) (rows : List WorkingRow) (i : ℕ) (row : WorkingRow) → IsAbove low rows → slice_get rows i ≡ Some row → low < row.0
above_at low [] i row above is = absurd (cc)
above_at low (r ∷ rows) zero row above is = (let same : r ≡ row = cc (is) in subst (λ (x : WorkingRow). low < x.0) same above.0)
above_at low (r ∷ rows) (suc i) row above is = above_at low rows i row above.1 is

pub swap : (p k low : ℕ) (v w : Option (List ℕ)) (rest : Option (Option (List ℕ))) → low < k → cond (nat_eq p low) (Some w) (cond (nat_eq p k) (Some v) rest) ≡ cond (nat_eq p k) (Some v) (cond (nat_eq p low) (Some w) rest)
swap p k low v w rest lt = (elim (nat_eq p low) as (λ b. nat_eq p low ≡ b → cond b (Some w) (cond (nat_eq p k) (Some v) rest) ≡ cond (nat_eq p k) (Some v) (cond b (Some w) rest)) [
  | true ↦ λ t. sym (here_or p k v (Some w) (λ same. absurd (omega (arith, lt, same, eqb-true p low t))))
  | false ↦ λ t. refl
]) refl

pub next_by : (rows : List WorkingRow) (i : ℕ) (row : WorkingRow) → IsRising rows → slice_get rows i ≡ Some row → (p : ℕ) → lookup (nat_eq p) (take (suc i) rows) ≡ cond (nat_eq p row.0) (Some row.1) (lookup (nat_eq p) (take i rows))
next_by [] i row rising is p = absurd (cc)
next_by (r ∷ rows) zero row rising is p = (let same : r ≡ row = cc (is) in ap (λ (x : WorkingRow). cond (nat_eq p x.0) (Some x.1) None) same)
next_by (r ∷ rows) (suc i) row rising is p =
    ap (λ (o : Option (Option (List ℕ))). cond (nat_eq p r.0) (Some r.1) o) (next_by rows i row rising.1 is p)
    ∙ swap p row.0 r.0 row.1 r.1 (lookup (nat_eq p) (take i rows)) (above_at r.0 rows i row rising.0 is)

-- what the rows up to one say of a page: it is that row's, or one of the rows before it
pub lookup_next : (rows : List WorkingRow) (i : ℕ) (row : WorkingRow) → IsRising rows → slice_get rows i ≡ Some row → (p : ℕ) → lookup (nat_eq p) (take (i + 1) rows) ≡ cond (nat_eq p row.0) (Some row.1) (lookup (nat_eq p) (take i rows))
lookup_next rows i row rising is p =
    let e : i + 1 ≡ suc i = omega arith in
    ap (λ (n : ℕ). lookup (nat_eq p) (take n rows)) e ∙ next_by rows i row rising is p

pub none_below : (rows : List WorkingRow) (i : ℕ) (row : WorkingRow) → IsRising rows → slice_get rows i ≡ Some row → lookup (nat_eq row.0) (take i rows) ≡ None
none_below [] i row rising is = absurd (cc)
none_below (r ∷ rows) zero row rising is = refl
none_below (r ∷ rows) (suc i) row rising is =
    let lt = above_at r.0 rows i row rising.0 is in
    here_or row.0 r.0 r.1 (lookup (nat_eq row.0) (take i rows)) (λ same. absurd (omega (arith, lt, same))) ∙ none_below rows i row rising.1 is

module _ (rows : List WorkingRow) (i : ℕ) (row : WorkingRow) (rising : IsRising rows) (is : slice_get rows i ≡ Some row) where
  pub next_here : lookup (nat_eq row.0) (take (i + 1) rows) ≡ Some row.1
  next_here = lookup_next rows i row rising is row.0 ∙ here_is row.0 row.1 (lookup (nat_eq row.0) (take i rows))

  pub next_other : (p : ℕ) → p ≢ row.0 → lookup (nat_eq p) (take (i + 1) rows) ≡ lookup (nat_eq p) (take i rows)
  next_other p differ = lookup_next rows i row rising is p ∙ here_or p row.0 row.1 (lookup (nat_eq p) (take i rows)) differ

  pub next_keeps : (p : ℕ) (v : Option (List ℕ)) → lookup (nat_eq p) (take i rows) ≡ Some v → lookup (nat_eq p) (take (i + 1) rows) ≡ Some v
  next_keeps p v has = ⊎_elim
      (λ (same : p ≡ row.0). absurd (some_none (sym has ∙ ap (λ (q : ℕ). lookup (nat_eq q) (take i rows)) same ∙ none_below rows i row rising is)))
      (λ (differ : p ≢ row.0). next_other p differ ∙ has) (cases_eq p row.0)
    where
      some_none : Some v ≡ None → ⊥
      some_none e = cc
