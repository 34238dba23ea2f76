-- The rows of bound names, as the entries of the map change.
use Rattle.std.proofs.Common.{ℕ, zero, suc, ◌≤◌, ◌≡◌, ◌∙◌, ap, sym, refl, arith, List, [], ◌∷◌, ◌++◌, length, take, Bool, true, false, Option, Some, None, is_some, cond, ◌||◌, true≢false}
use Rattle.std.specs.Prelude.{bytes_eq, find, option_map}
use Rattle.std.specs.Map.{lookup}
use Rattle.std.proofs.lemmas.Cmp.{nat_list_eq_equiv}
use Rattle.ex_base.specs.declared.names.Oid.{Oid}
use Rattle.table_model.specs.declared.machine.BoundName.{BoundName}
use Rattle.table_model.specs.Machines.{kept, unmarked}
use Rattle.bound_names.specs.Bindings.{row_of, rows_of, bound_oid, is_bound}

module _ {K : Type 0} (text : K → List ℕ) where
  -- one more entry is a marked row
  pub rows_of-push : (n : ℕ) (es : List (K × Oid)) (e : K × Oid) → n ≤ length es → rows_of text n (es ++ e ∷ []) ≡ rows_of text n es ++ row_of text true e ∷ []
  rows_of-push zero [] e h = refl
  rows_of-push (suc n) [] e h = absurd (omega arith)
  rows_of-push zero (x ∷ es) e h = ap (λ (more : List BoundName). row_of text true x ∷ more) (rows_of-push zero es e (omega arith))
  rows_of-push (suc n) (x ∷ es) e h = ap (λ (more : List BoundName). row_of text false x ∷ more) (rows_of-push n es e (omega arith))

  -- all entries settled: no row has a mark
  pub rows_of-settled : (n : ℕ) (es : List (K × Oid)) → rows_of text (length es) es ≡ unmarked (rows_of text n es)
  rows_of-settled n [] = refl
  rows_of-settled zero (x ∷ es) = ap (λ (more : List BoundName). row_of text false x ∷ more) (rows_of-settled zero es)
  rows_of-settled (suc n) (x ∷ es) = ap (λ (more : List BoundName). row_of text false x ∷ more) (rows_of-settled n es)

  none_kept : (es : List (K × Oid)) → kept (rows_of text zero es) ≡ []
  none_kept [] = refl
  none_kept (x ∷ es) = none_kept es

  -- the settled entries alone: the rows without a mark
  pub rows_of-kept : (n : ℕ) (es : List (K × Oid)) → rows_of text n (take n es) ≡ kept (rows_of text n es)
  rows_of-kept zero [] = refl
  rows_of-kept (suc n) [] = refl
  rows_of-kept zero (x ∷ es) = sym (none_kept (x ∷ es))
  rows_of-kept (suc n) (x ∷ es) = ap (λ (more : List BoundName). row_of text false x ∷ more) (rows_of-kept n es)

  either : (b marked : Bool) (x : K × Oid) (rest : Option Oid) (rows : List BoundName) (q : List ℕ) → rest ≡ bound_oid rows q
      → cond b (Some x.1) rest ≡ option_map (λ (b : BoundName). b.oid) (cond b (Some (row_of text marked x)) (find (λ (b : BoundName). bytes_eq b.name q) rows))
  either true marked x rest rows q e = refl
  either false marked x rest rows q e = e

  -- what the map finds is the version of the row of that name
  pub bound_oid-rows_of : (q : List ℕ) (n : ℕ) (es : List (K × Oid)) → lookup (λ k. bytes_eq q (text k)) es ≡ bound_oid (rows_of text n es) q
  bound_oid-rows_of q n [] = refl
  bound_oid-rows_of q zero (x ∷ es) = rw (nat_list_eq_equiv.symm q (text x.0)) (either (bytes_eq (text x.0) q) true x _ (rows_of text zero es) q (bound_oid-rows_of q zero es))
  bound_oid-rows_of q (suc n) (x ∷ es) = rw (nat_list_eq_equiv.symm q (text x.0)) (either (bytes_eq (text x.0) q) false x _ (rows_of text n es) q (bound_oid-rows_of q n es))

-- a name is bound where it has a version
pub is_bound-oid : (q : List ℕ) (rows : List BoundName) → is_some (bound_oid rows q) ≡ is_bound rows q
is_bound-oid q [] = refl
is_bound-oid q (x ∷ rows) = go (bytes_eq x.name q) (is_bound-oid q rows)
  where
    go : (b : Bool) → is_some (bound_oid rows q) ≡ is_bound rows q
        → is_some (option_map (λ (b : BoundName). b.oid) (cond b (Some x) (find (λ (b : BoundName). bytes_eq b.name q) rows))) ≡ (b || is_bound rows q)
    go true e = refl
    go false e = e

-- without one, the map has none either
pub none_bound : (o : Option Oid) (rows : List BoundName) (q : List ℕ) → o ≡ bound_oid rows q → is_bound rows q ≡ false → o ≡ None
none_bound None rows q e h = refl
none_bound (Some oid) rows q e h = absurd (true≢false (ap is_some e ∙ is_bound-oid q rows ∙ h))
