-- Names that a session keeps.
use Rattle.std.proofs.Common.{◌≡◌, ℕ, List, true, refl}
use Rattle.table_model.specs.Words.{is_name, is_kept_name}

-- what a line spells is one of them
pub name_is_kept : (name : List ℕ) → is_name name ≡ true → is_kept_name name ≡ true
name_is_kept name is = rw is refl
