use Rattle.std.proofs.Common.{List, ℕ, subst, None, inl, sym, ◌≡◌, ◌≤◌}
use Rattle.file_index.specs.Damage.{every_page}
use Rattle.file_bodies.specs.Damage.{IsFilePageFault}
use Rattle.file_bodies.proofs.Blame.{blames_lacking}
use Rattle.ex_base.proofs.Options.{if_some_both}
use Rattle.std.specs.Prelude.{slice_index_or}
use Rattle.file_bodies.proofs.OwnFaults.{own_page}
use Rattle.file_bodies.specs.Places.{IsFirstLive}
use Rattle.ex_base.proofs.Results.{if_err_handed}
use Rattle.file_bodies.proofs.Pages.{none_weaker, viewed_slots}
use Rattle.ex_base.proofs.Keeping.{keeps_refl}
use Rattle.file_bodies.specs.Files.{IsPageOf}
use Rattle.slotted_pages.specs.FilePage.{Slot}
use Rattle.file_bodies.proofs.page.live_slot.Goals as goal

pub returns-then-not-may_be_of_file-clause-cause : goal.returns-then-not-may_be_of_file-clause-cause
returns-then-not-may_be_of_file-clause-cause g c = c.no_page.ensures.cause _ _

pub returns-in-Err-clause-cause : goal.returns-in-Err-clause-cause
returns-in-Err-clause-cause g c = c.in-Err.ensures.cause _ _

pub returns-in-Err-clause-fault : goal.returns-in-Err-clause-fault
returns-in-Err-clause-fault g c = λ told.
    subst (λ (bytes : List ℕ). IsFilePageFault (g.P.Ground.geometry c.args.pages.now) every_page bytes c.args.file_no c.args.page.0 c.in-Err.fault) (c.in_ok-bytes.ensures.bytes told)
    (c.in-Err.ensures.fault (g.P.Ground.geometry c.args.pages.now) every_page (c.may_be_of_file.ensures.may c.if-not-may_be_of_file.false))

pub returns-in_err-bytes-clause-sound : goal.returns-in_err-bytes-clause-sound
returns-in_err-bytes-clause-sound g c =
    if_err_handed c.from_residual.result _ c.in_err-bytes.field-0.0 c.from_residual.ensures.1 (λ damage told area of. c.in_err-bytes.ensures.no_damage damage)

pub returns-in_err-bytes-clause-fault : goal.returns-in_err-bytes-clause-fault
returns-in_err-bytes-clause-fault g c =
    if_err_handed c.from_residual.result _ c.in_err-bytes.field-0.0 c.from_residual.ensures.1
    (λ told. own_page _ _ _ _ _ c.in_err-bytes.field-0.0 c.in_err-bytes.ensures.no_damage)

pub returns-in-Ok-clause-page : goal.returns-in-Ok-clause-page
returns-in-Ok-clause-page g c = λ told. subst (IsPageOf c.args.file_no) (c.in_ok-bytes.ensures.bytes told) c.in-Ok.ensures.ok

pub returns-in-Ok-clause-none : goal.returns-in-Ok-clause-none
returns-in-Ok-clause-none g c = none_weaker c.first_live.result (λ none told.
    subst (λ (s : List Slot). (k : ℕ) → c.args.from ≤ k → slice_index_or s k None ≡ None)
    (viewed_slots _ _ c.in-Ok.view c.in-Ok.ensures.view (c.in_ok-bytes.ensures.bytes told)) none) c.first_live.ensures.none

pub returns-in-Ok-clause-some : goal.returns-in-Ok-clause-some
returns-in-Ok-clause-some g c = if_some_both c.first_live.result _ _ (λ slot first told.
    subst (λ (s : List Slot). IsFirstLive s c.args.from slot) (viewed_slots _ _ c.in-Ok.view c.in-Ok.ensures.view (c.in_ok-bytes.ensures.bytes told))
    first) c.first_live.ensures.some

pub returns-in-Ok-clause-area : goal.returns-in-Ok-clause-area
returns-in-Ok-clause-area g c = c.may_be_of_file.ensures.may c.if-not-may_be_of_file.false

pub returns-in-Err-clause-sound : goal.returns-in-Err-clause-sound
returns-in-Err-clause-sound g c = λ damage told area of. c.in-Err.ensures.err (subst (IsPageOf c.args.file_no) (sym (c.in_ok-bytes.ensures.bytes told)) of)

pub returns-then-not-may_be_of_file-clause-kept : goal.returns-then-not-may_be_of_file-clause-kept
returns-then-not-may_be_of_file-clause-kept g c = keeps_refl g.P.Ground c.args.pages.now

pub returns-then-not-may_be_of_file-clause-fault : goal.returns-then-not-may_be_of_file-clause-fault
returns-then-not-may_be_of_file-clause-fault g c = λ told.
    blames_lacking (g.P.Ground.geometry c.args.pages.now) every_page (g.P.Ground.image c.args.pages.now c.args.page.0) c.args.file_no c.args.page
    c.no_page.result (inl (c.may_be_of_file.ensures.never c.if-not-may_be_of_file.true)) c.no_page.ensures.is

pub returns-then-not-may_be_of_file-clause-sound : goal.returns-then-not-may_be_of_file-clause-sound
returns-then-not-may_be_of_file-clause-sound g c = λ damage told area of. c.may_be_of_file.ensures.never c.if-not-may_be_of_file.true area

pub returns-in-Err-clause-kept : goal.returns-in-Err-clause-kept
returns-in-Err-clause-kept g c = c.get.follows.holds-at-none.0

pub returns-in-Ok-clause-kept : goal.returns-in-Ok-clause-kept
returns-in-Ok-clause-kept g c = c.get.follows.holds-at-none.0

pub get-requires-clause-page : goal.get-requires-clause-page
get-requires-clause-page g c = (c.may_be_of_file.ensures.may c.if-not-may_be_of_file.false).0

pub returns-in_err-bytes-clause-kept : goal.returns-in_err-bytes-clause-kept
returns-in_err-bytes-clause-kept g c = c.get.follows.holds-at-none.0
