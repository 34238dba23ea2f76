-- What has a row that a look-up finds.
use Rattle.std.proofs.Common.{◌≡◌, ◌≢◌, ⊎_elim, ℕ, Bool, true, false, cond, List, [], ◌∷◌, Some, nat_eq, sym, ap, subst, ◌∙◌}
use Rattle.std.specs.List.{AllByRecursion}
use Rattle.std.specs.Map.{lookup}
use Rattle.std.proofs.lemmas.Bool.Decides.{eqb_tells}

pub found_is : {V : Type 0} (P : ℕ × V → Type 0) (rows : List (ℕ × V)) (page : ℕ) (value : V) → AllByRecursion P rows → lookup (nat_eq page) rows ≡ Some value → P (page, value)
found_is P [] page value all found = absurd (cc)
found_is P (row ∷ rows) page value all found = ⊎_elim
    (λ (same : (nat_eq page row.0 ≡ true) × (page ≡ row.0)).
    let is : Some row.1 ≡ Some value = sym (ap (λ (t : Bool). cond t (Some row.1) (lookup (nat_eq page) rows)) same.0) ∙ found in
    let here : row.1 ≡ value = cc in
    subst (λ (v : _). P (page, v)) here (subst (λ (n : ℕ). P (n, row.1)) (sym same.1) all.0))
    (λ (other : (nat_eq page row.0 ≡ false) × (page ≢ row.0)). found_is P rows page value all.1 (sym (ap (λ (t : Bool). cond t (Some row.1) (lookup (nat_eq page) rows)) other.0) ∙ found)) (eqb_tells page row.0)
