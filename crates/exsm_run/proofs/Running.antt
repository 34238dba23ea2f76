-- What a run of a source promises, by its status.
use Rattle.std.proofs.Common.{◌≡◌, ◌⊎◌, ◌∙◌, ⊎_elim, ◌≤◌, ◌<◌, ◌+◌, ℕ, List, [], Some, length, drop, inl, inr, sym, ap, subst}
use Rattle.disk_model.specs.Outside.{Outside, IsWorld}
use Rattle.table_model.specs.declared.table.Table.{Table}
use Rattle.ex_base.specs.declared.faults.Seen.{Seen}
use Rattle.ex_base.specs.declared.names.PageNo.{PageNo}
use Rattle.session_views.specs.View.{View}
use Rattle.engines.specs.Keeping.{DamagedStep}
use Rattle.talks.specs.Talking.{Talking}
use Rattle.runs.specs.ScriptTalk.{script_begins, script_talking}
use Rattle.runs.proofs.Whole.{headline_of}
use Rattle.clients.specs.ScheduleTalk.{BeginsSchedule, schedule_talking}
use Rattle.clients.proofs.Whole.{served_of}
use Rattle.session_core.specs.Meant.{meant}
use Rattle.session_core.specs.Sessions.{SessionState}
use Rattle.command_line.specs.declared.status.Status.{Status}
use Rattle.command_line.specs.declared.status.Status.TheVariants.{Damaged, Done, Memory, ScriptLong}
use Rattle.exsm_run.specs.Begun.{BeginsOrNot}
use Rattle.exsm_run.specs.Clients.{ClientsPromise}
use Rattle.exsm_run.specs.Fresh.{IsFresh}
use Rattle.exsm_run.specs.Kept.{volume_steps}
use Rattle.exsm_run.specs.Openings.{OpeningPromise}
use Rattle.exsm_run.specs.Promises.{RunPromise}
use Rattle.exsm_run.specs.Script.{HoldsVolume, IsRunStatus, MayRun, RanSource, status_of}
use Rattle.exsm_run.proofs.Ending.{completes_on, damaged_of, done_is, long_is, opening_of, run_status, starts_on}

-- What it promises whichever talk took its lines.
pub record Ends {H : Type 0} (outside : H → Outside) (most : ℕ) (before after : Outside) (status : Status) : Type 0 where
  pub sound : (table : Table) (was : List ℕ) → HoldsVolume before table was → IsRunStatus status
  pub completes : MayRun most before after → (status ≡ Done) ⊎ (status ≡ Memory)
  pub reads_all : status ≡ Done → (script : List ℕ) → before.left ≡ Some script → after.left ≡ Some []
  pub within : status ≡ Done → (script : List ℕ) → before.left ≡ Some script → length script ≤ most
  pub long : (max : ℕ) → status ≡ ScriptLong max → (script : List ℕ) → before.left ≡ Some script → (max ≡ most) × (most < length script)
  pub draws : (script : List ℕ) → before.left ≡ Some script → (n : ℕ) × (n ≤ most + 1) × (after.left ≡ Some (drop n script))
  pub damaged : (page : PageNo) (want got : Seen) → status ≡ Damaged page want got → DamagedStep (volume_steps outside) before after page want got
  pub opening : OpeningPromise before after status

pub ends_of : {H T : Type 0} {outside : H → Outside} {Fresh : View SessionState → Type 0} {K : Talking T} {begins : T → ℕ → Type 0} {most : ℕ} {before after : Outside} {status : Status} → IsWorld before
    → RanSource meant (volume_steps outside) Fresh K begins most before after status → Ends outside most before after status
ends_of {outside = outside} {most = most} {before = before} {after = after} world ran = record {
  sound = λ table was on. subst IsRunStatus (sym ran.is) (run_status most ran.ending (ran.run.on.sound table was on));
  completes = λ may. ⊎_elim (λ none. inl (ran.is ∙ ap (status_of most) none)) (λ memory. inr (ran.is ∙ ap (status_of most) memory)) (ran.run.completes (completes_on may));
  reads_all = λ done. ran.run.reads.reads_all (done_is most ran.ending (sym ran.is ∙ done));
  within = λ done. ran.run.reads.within (done_is most ran.ending (sym ran.is ∙ done));
  long = λ max is script told. let long = long_is most max ran.ending (sym ran.is ∙ is) in (long.0, ran.run.reads.long long.1 script told);
  draws = ran.run.reads.draws;
  damaged = λ page want got is. damaged_of (volume_steps outside) most ran.ending ran.run.on.damaged page want got (sym ran.is ∙ is);
  opening = subst (OpeningPromise before after) (sym ran.is) (opening_of most ran.ending world ran.run.on);
}

pub run_promise : {H : Type 0} {outside : H → Outside} {most : ℕ} {before after : Outside} {status : Status} → IsWorld before → RanSource meant (volume_steps outside) IsFresh script_talking script_begins most before after status → BeginsOrNot outside before after status
    → RunPromise outside most before after status
run_promise world ran begins =
    let ends = ends_of world ran in record {
      headline = λ table was volume. record { ending = ran.ending; is = ran.is; headline = headline_of (ran.run.headline table was (starts_on volume)) };
      sound = ends.sound;
      completes = ends.completes;
      reads_all = ends.reads_all;
      within = ends.within;
      long = ends.long;
      draws = ends.draws;
      damaged = ends.damaged;
      opening = ends.opening;
      begins = begins;
    }

pub clients_promise : {H : Type 0} {outside : H → Outside} {most : ℕ} {before after : Outside} {status : Status} → IsWorld before → RanSource meant (volume_steps outside) IsFresh schedule_talking BeginsSchedule most before after status
    → BeginsOrNot outside before after status → ClientsPromise outside most before after status
clients_promise world ran begins =
    let ends = ends_of world ran in record {
      headline = λ table was volume. record { ending = ran.ending; is = ran.is; served = served_of (ran.run.headline table was (starts_on volume)) };
      sound = ends.sound;
      completes = ends.completes;
      reads_all = ends.reads_all;
      within = ends.within;
      long = ends.long;
      draws = ends.draws;
      damaged = ends.damaged;
      opening = ends.opening;
      begins = begins;
    }
