-- How a run begins, by its status.
use Rattle.std.proofs.Common.{◌≡◌, ◌⊎◌, ◌∙◌, ⊎_elim, ℕ, List, Option, None, Some, IfSome, inl, inr, refl, ap}
use Rattle.disk_model.specs.Outside.{Goes, Outside, ReadsOnly}
use Rattle.disk_model.specs.Runs.{goes_trans}
use Rattle.table_model.specs.declared.table.Table.{Table}
use Rattle.session_views.specs.declared.OpenFault.{OpenFault}
use Rattle.session_views.specs.declared.OpenFault.TheVariants as open_fault
use Rattle.talks.specs.Headline.{RunOpens}
use Rattle.talks.specs.Opening.{Opened}
use Rattle.talks.specs.Stops.{unopened_as}
use Rattle.talks.specs.declared.stopped.Stopped.{Stopped}
use Rattle.talks.specs.declared.stopped.Stopped.TheVariants as stopped
use Rattle.runs.specs.Source.{NotBegun}
use Rattle.session_core.specs.Meant.{meant}
use Rattle.session_core.specs.Sessions.{SessionState}
use Rattle.command_line.specs.declared.status.Status.{Status}
use Rattle.command_line.specs.declared.status.Status.TheVariants.{Done}
use Rattle.exsm_run.specs.Begun.{Begins, BeginsOrNot, OpensVolume}
use Rattle.exsm_run.specs.Check.{unopened_status}
use Rattle.exsm_run.specs.Fresh.{IsFresh}
use Rattle.exsm_run.specs.Kept.{volume_steps}
use Rattle.exsm_run.specs.Script.{HoldsVolume, status_of}

unopened_is : (most : ℕ) (fault : OpenFault) → status_of most (Some (unopened_as fault)) ≡ unopened_status fault
unopened_is most open_fault.Memory = refl
unopened_is most open_fault.Disk = refl
unopened_is most (open_fault.BadVolume part) = refl

unopened_undone : (fault : OpenFault) → unopened_status fault ≡ Done → ⊥
unopened_undone open_fault.Memory is = absurd (cc)
unopened_undone open_fault.Disk is = absurd (cc)
unopened_undone (open_fault.BadVolume part) is = absurd (cc)

-- what is shown where the opening ended
abbrev ShowsThen : Outside → Outside → Type 0
ShowsThen before then = (table : Table) (was : List ℕ) → HoldsVolume before table was → (session : SessionState) × Opened meant IsFresh table session then

-- A run that ended so, and whose status is that of its ending where its opening failed.
module _ {H : Type 0} {outside : H → Outside} {a b c : Outside} {ending : Option Stopped} (status : Status) (opens : RunOpens meant (volume_steps outside) IsFresh OpensVolume a b ending) (later : Goes (outside opens.then) c)
    (ended : (fault : OpenFault) → ending ≡ Some (unopened_as fault) → ReadsOnly (outside opens.then) b → (status ≡ unopened_status fault) × ReadsOnly (outside opens.then) c) where
  by : (fault : Option OpenFault) → OpensVolume a (outside opens.then) fault → (fault ≡ None → ShowsThen a (outside opens.then))
      → IfSome fault (λ why. (ending ≡ Some (unopened_as why)) × ReadsOnly (outside opens.then) b) → Begins outside a c status
  by None did shows failed = record {
    then = opens.then;
    answer = Done;
    writes = did;
    only = opens.only;
    later = later;
    shows = λ done. shows refl;
    ended = inl refl;
  }
  by (Some fault) did shows failed = record {
    then = opens.then;
    answer = unopened_status fault;
    writes = did;
    only = opens.only;
    later = later;
    shows = λ done. absurd (unopened_undone fault done);
    ended = inr (ended fault failed.0 failed.1);
  }

  begins_by : Begins outside a c status
  begins_by = by opens.fault opens.did opens.shows opens.failed

-- a run with this ending
pub begins_as : {H : Type 0} {outside : H → Outside} {a b : Outside} (most : ℕ) (ending : Option Stopped) (status : Status) → status ≡ status_of most ending → RunOpens meant (volume_steps outside) IsFresh OpensVolume a b ending
    → Begins outside a b status
begins_as most ending status is opens = begins_by status opens opens.later (λ fault ends reads. (is ∙ ap (status_of most) ends ∙ unopened_is most fault, reads))

-- one that went to the end of its lines, and goes on behind that
pub begins_on : {H : Type 0} {outside : H → Outside} {a b c : Outside} (status : Status) → RunOpens meant (volume_steps outside) IsFresh OpensVolume a b None → Goes b c → Begins outside a c status
begins_on status opens goes = begins_by status opens (goes_trans opens.later goes) (λ fault ends reads. absurd (cc))

-- one of a source
pub begins_source : {H : Type 0} {outside : H → Outside} {a b : Outside} {most : ℕ} {status : Status} → (ending : Option Stopped) × (status ≡ status_of most ending)
    × (RunOpens meant (volume_steps outside) IsFresh OpensVolume a b ending ⊎ ((ending ≡ Some stopped.Memory) × NotBegun a b)) → BeginsOrNot outside a b status
begins_source {most = most} {status = status} (ending, is, began) =
    ⊎_elim (λ opens. inl (begins_as most ending status is opens)) (λ wanting. inr (is ∙ ap (status_of most) wanting.0, wanting.1)) began
