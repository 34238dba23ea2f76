-- What faults of the parts are told as: none of pages that are lacking, and damage just where a port tells of it.
use Rattle.std.proofs.Common.{◌≡◌, ◌≤◌, refl, arith}
use Rattle.ex_base.specs.declared.faults.PortFault.{PortFault}
use Rattle.ex_base.specs.declared.faults.PortFault.TheVariants as port_fault
use Rattle.ex_base.specs.Ports.{Cause, IsDamage}
use Rattle.commits.specs.declared.keep.CommitFault.{CommitFault}
use Rattle.commits.specs.declared.keep.CommitFault.TheVariants as commit_fault
use Rattle.disk_model.specs.Outside.{Outside, ReadsOnly, Rose}
use Rattle.packing.specs.Faults.{told_of, uncommitted}
use Rattle.packing.specs.Resting.{NeverLacks, PackCause, TellsDamage}
use Rattle.packing.specs.declared.fault.PackFault.{PackFault}
use Rattle.packing.specs.declared.fault.PackFault.TheVariants.{Disk, Memory, Damaged, NoPages}

pub never_told : (fault : PortFault) → NeverLacks (told_of fault)
never_told port_fault.Disk = tt
never_told port_fault.Memory = tt
never_told (port_fault.Damaged page want got) = tt

pub never_uncommitted : (fault : CommitFault) → NeverLacks (uncommitted fault)
never_uncommitted commit_fault.Memory = tt
never_uncommitted commit_fault.Disk = tt

pub damage_told : (fault : PortFault) → TellsDamage (told_of fault) → IsDamage fault
damage_told port_fault.Disk none = none
damage_told port_fault.Memory none = none
damage_told (port_fault.Damaged page want got) is = tt

pub no_damage : (fault : CommitFault) → TellsDamage (uncommitted fault) → ⊥
no_damage commit_fault.Memory none = none
no_damage commit_fault.Disk none = none

pub cause_told : (a b : Outside) (fault : PortFault) → Cause a.disk_faults b.disk_faults fault → PackCause a b (told_of fault)
cause_told a b port_fault.Disk rose = rose
cause_told a b port_fault.Memory cause = tt
cause_told a b (port_fault.Damaged page want got) differ = differ

-- since before a reading
pub cause_uncommitted : (x y z : Outside) (fault : CommitFault) → ReadsOnly x y → (fault ≡ commit_fault.Disk → Rose y.disk_faults z.disk_faults) → PackCause x z (uncommitted fault)
cause_uncommitted x y z commit_fault.Memory reads cause = tt
cause_uncommitted x y z commit_fault.Disk reads cause =
    let before = reads.nothing.only.goes.disk_faults in
    omega (arith, before, cause refl)

-- and so of any fault, since an earlier count
pub cause_later : (a m b : Outside) (fault : PackFault) → a.disk_faults ≤ m.disk_faults → PackCause m b fault → PackCause a b fault
cause_later a m b Disk before rose = omega (arith, before, rose)
cause_later a m b Memory before cause = tt
cause_later a m b (Damaged page want got) before differ = differ
cause_later a m b (NoPages need free) before cause = tt
