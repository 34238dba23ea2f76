-- The open scan at an index, in the list of all.
use Rattle.std.proofs.Common.{◌≡◌, ◌∙◌, ℕ, ◌<◌, List, [], ◌∷◌, length, Some, get_or, refl, sym, subst, arith}
use Rattle.std.specs.Prelude.{slice_get}
use Rattle.std.proofs.lemmas.Option.{slice_get-get_or, slice_get_read}
use Rattle.open_scans.specs.OpenScans.{OpenRow}

-- there is a scan at each index
pub record HasRow (rows : List OpenRow) (index : ℕ) : Type 0 where
  pub row : OpenRow
  pub at : slice_get rows index ≡ Some row

pub row_there : (rows : List OpenRow) (index : ℕ) → index < length rows → HasRow rows index
row_there [] index lt = absurd (omega (arith, lt))
row_there (r ∷ rows) index lt = record { row = _; at = slice_get-get_or (r ∷ rows) index r lt }

-- what is lent at an index is the scan there
pub lent_there : (items rows : List OpenRow) (index : ℕ) (lent row : OpenRow) → items ≡ rows → index < length rows → lent ≡ get_or items index lent → slice_get rows index ≡ Some row → lent ≡ row
lent_there items rows index lent row same lt value at =
    let there : slice_get rows index ≡ Some lent = slice_get_read rows (length rows) index lent refl lt (subst (λ (l : List OpenRow). lent ≡ get_or l index lent) same value) in
    let both : Some lent ≡ Some row = sym there ∙ at in
    cc
