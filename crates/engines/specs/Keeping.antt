-- What the steps of a session keep, and the one that ended a run by damage.
use Rattle.std.specs.Prelude.{◌≤◌, ℕ, Result, Err}
use Rattle.ex_base.specs.declared.faults.Seen.{Seen}
use Rattle.ex_base.specs.declared.names.PageNo.{PageNo}
use Rattle.disk_model.specs.Outside.{Outside, DiskOnly, Goes}
use Rattle.table_model.specs.declared.reply.Reply.{Reply}
use Rattle.table_model.specs.Requests.{Request}
use Rattle.session_views.specs.declared.Stop.{Stop}
use Rattle.session_views.specs.declared.Stop.TheVariants as stop
use Rattle.session_views.specs.View.{View, Meaning, ShowsNow}

-- What a type of sessions promises of each of its steps: of the session before it and after it, what stands outside before it and after it, the request,
-- and what it gave.
abbrev pub Keeping : Type 0 → Type 1
Keeping S = S → S → Outside → Outside → Request → Result Reply Stop → Type 0

-- That, with what stands outside of each host of a type.
pub record Conduct (S H : Type 0) : Type 1 where
  pub outside : H → Outside
  pub Keeps : Keeping S

abbrev pub conduct : {S H : Type 0} → (H → Outside) → Keeping S → Conduct S H
conduct outside Keeps = record { outside = outside; Keeps = Keeps }

-- A session stepped on the request between these times, on a host that the view shows, to that result, and kept what its steps keep.
pub record StepKept {S H : Type 0} (M : Meaning S) (C : Conduct S H) (since time : ℕ) (now : Outside) (before : View S) (r : Request) (result : Result Reply Stop) (after : S) : Type 0 where
  pub from : H
  pub to : H
  pub shown : ShowsNow M (C.outside from) before
  pub only : DiskOnly (C.outside from) (C.outside to)
  pub begun : since ≤ (C.outside from).clock
  pub over : (C.outside to).clock ≤ time
  pub later : Goes (C.outside to) now
  pub kept : C.Keeps before.session after (C.outside from) (C.outside to) r result

-- A step of a session found the page damaged, and kept what its steps keep, whatever the session showed.
pub record DamagedStep {S H : Type 0} (C : Conduct S H) (before after : Outside) (page : PageNo) (want got : Seen) : Type 0 where
  pub session : S
  pub then : S
  pub asked : Request
  pub from : H
  pub to : H
  pub earlier : Goes before (C.outside from)
  pub only : DiskOnly (C.outside from) (C.outside to)
  pub later : Goes (C.outside to) after
  pub kept : C.Keeps session then (C.outside from) (C.outside to) asked (Err (stop.Damaged page want got))
