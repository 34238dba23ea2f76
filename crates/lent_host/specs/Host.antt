-- A host over a lent image, and what it keeps of its loans.
use Rattle.std.specs.Prelude.{◌≡◌}
use Rattle.disk_model.specs.Outside.{Outside}
use Rattle.lent_host.specs.Lent.{outside_of}
use Rattle.lent_host.specs.declared.host.LentHost.{LentHost}

abbrev pub outside_over : LentHost → Outside
outside_over h = outside_of h.file.now.bytes h.asked.now.items h.image.ghost_name h.asked.ghost_name

-- It has the same image on loan, the same list and the same file.
pub record SameLoans (a b : LentHost) : Type 0 where
  pub image : b.image.ghost_name ≡ a.image.ghost_name
  pub asked : b.asked.ghost_name ≡ a.asked.ghost_name
  pub file : b.file.now.bytes ≡ a.file.now.bytes

-- What keeps what is left of its source keeps them.
pub same_loans : (a b : LentHost) → (outside_over b).left ≡ (outside_over a).left → SameLoans a b
same_loans a b left = record { image = cc (left); asked = cc (left); file = cc (left) }
