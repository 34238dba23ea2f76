-- What a line that removes a version asks for.
use Rattle.std.specs.Prelude.{◌≡◌, None}
use Rattle.ex_base.specs.declared.names.Oid.{Oid}
use Rattle.table_model.specs.declared.machine.Machine.{Machine}
use Rattle.table_model.specs.Machines.{the_oid}
use Rattle.table_model.specs.Requests.{Reference, Request}
use Rattle.transactions.specs.declared.edits.Need.{Need}
use Rattle.transactions.specs.Lines.{Answered}

-- what the removal of a version may take
abbrev pub removal_need : Need
removal_need = record { charge = 16; pages = 0; segs = 0 }

-- The machine accepts the line, which names the version with this OID.
pub record AcceptsOf (m : Machine) (r : Request) (x : Reference) (oid : Oid) : Type 0 where
  pub accepted : Answered m r None
  pub own : the_oid m x ≡ oid
