-- Faults of a port, as packing tells them.
use Rattle.std.proofs.Common.{ℕ}
use Rattle.ex_base.specs.Ports.{Cause, IsDamage}
use Rattle.ex_base.specs.declared.faults.PortFault.{PortFault}
use Rattle.ex_base.specs.declared.faults.PortFault.TheVariants as port_fault
use Rattle.disk_model.specs.Outside.{Outside}
use Rattle.packing.specs.Faults.{told_of}
use Rattle.packing.specs.Packing.{IfLacking}
use Rattle.packing.specs.Resting.{NeverLacks, PackCause, TellsDamage}
use Rattle.packing.specs.declared.fault.PackFault.{PackFault}
use Rattle.packing.specs.declared.fault.PackFault.TheVariants as fault

pub damage_told : (why : PortFault) → TellsDamage (told_of why) → IsDamage why
damage_told port_fault.Disk damage = absurd damage
damage_told port_fault.Memory damage = absurd damage
damage_told (port_fault.Damaged page want got) damage = tt

pub cause_told : (a b : Outside) (why : PortFault) → Cause a.disk_faults b.disk_faults why → PackCause a b (told_of why)
cause_told a b port_fault.Disk cause = cause
cause_told a b port_fault.Memory cause = tt
cause_told a b (port_fault.Damaged page want got) cause = cause

pub never_told : (why : PortFault) → NeverLacks (told_of why)
never_told port_fault.Disk = tt
never_told port_fault.Memory = tt
never_told (port_fault.Damaged page want got) = tt

-- what never tells of pages that are lacking says nothing of them
pub nothing_lacks : (why : PackFault) (fact : ℕ → ℕ → Type 0) → NeverLacks why → IfLacking why fact
nothing_lacks fault.Disk fact never = tt
nothing_lacks fault.Memory fact never = tt
nothing_lacks (fault.Damaged page want got) fact never = tt
nothing_lacks (fault.NoPages need free) fact never = absurd never

-- what is known of pages that are lacking, of a step and of all
pub lacks_weaker : (why : PackFault) (fact other : ℕ → ℕ → Type 0) → ((need free : ℕ) → fact need free → other need free) → IfLacking why fact → IfLacking why other
lacks_weaker fault.Disk fact other turn lacks = tt
lacks_weaker fault.Memory fact other turn lacks = tt
lacks_weaker (fault.Damaged page want got) fact other turn lacks = tt
lacks_weaker (fault.NoPages need free) fact other turn lacks = turn need free lacks
