-- The bound names as rows: in the order in which they were bound, those that the open transaction bound with a mark.
use Rattle.std.specs.Prelude.{ℕ, zero, suc, List, [], ◌∷◌, Bool, true, false, bytes_eq, find, option_map, Option}
use Rattle.std.specs.List.{list_any}
use Rattle.ex_base.specs.declared.names.Oid.{Oid}
use Rattle.table_model.specs.declared.machine.BoundName.{BoundName}

-- one name and its version
abbrev pub row_of : {K : Type 0} → (K → List ℕ) → Bool → K × Oid → BoundName
row_of text marked entry = record { name = text entry.0; oid = entry.1; marked = marked }

-- the names in their order, all but the first so many with a mark
abbrev pub rows_of : {K : Type 0} → (K → List ℕ) → ℕ → List (K × Oid) → List BoundName
rows_of text settled [] = []
rows_of text zero (entry ∷ more) = row_of text true entry ∷ rows_of text zero more
rows_of text (suc settled) (entry ∷ more) = row_of text false entry ∷ rows_of text settled more

-- the version that the name is bound to
abbrev pub bound_oid : List BoundName → List ℕ → Option Oid
bound_oid rows name = option_map (λ b. b.oid) (find (λ b. bytes_eq b.name name) rows)

-- whether the name is bound
abbrev pub is_bound : List BoundName → List ℕ → Bool
is_bound rows name = list_any (λ b. bytes_eq b.name name) rows
