-- Calls on a port that change nothing of its meanings, one after the other, and the cause of the last one's fault.
use Rattle.std.specs.Prelude.{◌≡◌, ◌≤◌, ℕ, Result, Ok, Err, refl}
use Rattle.std.proofs.Common.{◌∙◌, arith}
use Rattle.ex_base.specs.declared.ground.Ground as ground
use Rattle.ex_base.specs.declared.faults.PortFault.{PortFault}
use Rattle.ex_base.specs.declared.faults.PortFault.TheVariants.{Disk, Memory, Damaged}
use Rattle.ex_base.specs.Ports.{Keeps, Cause, HasCause}

module _ {S : Type 0} (g : ground.Ghosts S) where
  -- no call at all
  pub keeps_refl : (a : S) → Keeps g a a
  keeps_refl a = record { units = refl; images = refl; used = refl; refs = refl; held = refl; free = refl; touched = refl; leads = g.leads_refl a }

  -- one and then another
  pub keeps_on : (a b c : S) → Keeps g a b → Keeps g b c → Keeps g a c
  keeps_on a b c one two = record {
    units = two.units ∙ one.units;
    images = two.images ∙ one.images;
    used = two.used ∙ one.used;
    refs = two.refs ∙ one.refs;
    held = two.held ∙ one.held;
    free = two.free ∙ one.free;
    touched = two.touched ∙ one.touched;
    leads = g.leads_trans a b c one.leads two.leads;
  }

  pub same_geometry : (a b : S) → Keeps g a b → g.geometry b ≡ g.geometry a
  same_geometry a b kept = g.leads_geometry a b kept.leads

-- a cause since a later count is one since an earlier count
pub cause_since : (before mid now : ℕ) (fault : PortFault) → before ≤ mid → Cause mid now fault → Cause before now fault
cause_since before mid now Disk le cause = omega arith
cause_since before mid now Memory le cause = cause
cause_since before mid now (Damaged page want got) le cause = cause

pub cause_on : {X : Type 0} (before mid now : ℕ) (r : Result X PortFault) → before ≤ mid → HasCause mid now r → HasCause before now r
cause_on before mid now (Ok x) le cause = cause
cause_on before mid now (Err fault) le cause = cause_since before mid now fault le cause
