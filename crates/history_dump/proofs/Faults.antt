-- A fault that is told is that of the port.
use Rattle.ex_base.specs.declared.faults.PortFault.{PortFault}
use Rattle.ex_base.specs.declared.faults.PortFault.TheVariants.{Disk, Memory, Damaged}
use Rattle.std.proofs.Common.{arith}
use Rattle.ex_base.specs.Ports.{IsDamage}
use Rattle.disk_model.specs.Outside.{Goes, Outside}
use Rattle.history_dump.specs.Sending.{DumpCause, TellsDamage, dump_fault}
use Rattle.history_dump.specs.declared.fault.DumpFault.{DumpFault}
use Rattle.history_dump.specs.declared.fault.DumpFault.TheVariants.{Output}
use Rattle.history_dump.specs.declared.fault.DumpFault.TheVariants as dump

pub damage_told : (fault : PortFault) → TellsDamage (dump_fault fault) → IsDamage fault
damage_told Disk damage = damage
damage_told Memory damage = damage
damage_told (Damaged page want got) damage = damage

-- a cause since a later moment is one since an earlier one
pub cause_later : (a b c : Outside) (fault : DumpFault) → Goes a b → DumpCause b c fault → DumpCause a c fault
cause_later a b c Output goes cause = let le = goes.write_faults in omega arith
cause_later a b c dump.Disk goes cause = let le = goes.disk_faults in omega arith
cause_later a b c dump.Memory goes cause = cause
cause_later a b c (dump.Damaged page want got) goes cause = cause
