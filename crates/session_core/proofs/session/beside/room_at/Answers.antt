use Rattle.std.proofs.Common.{◌∙◌, ℕ, ap}
use Rattle.slotted_pages.specs.FilePage.{room_of}
use Rattle.session_core.proofs.Beside.{room_told}
use Rattle.ex_base.proofs.Keeping.{keeps_refl}
use Rattle.ex_base.proofs.Results.{if_err_handed}
use Rattle.session_core.proofs.session.beside.room_at.Goals as goal

pub returns-then-not-in_area-clause-cause : goal.returns-then-not-in_area-clause-cause
returns-then-not-in_area-clause-cause g c = c.no_record.ensures.cause (g.P.Ground.faults c.args.pages.now) (g.P.Ground.faults c.args.pages.now)

pub returns-in-Some-clause-room : goal.returns-in-Some-clause-room
returns-in-Some-clause-room g c = λ tells.
    room_told (g.P.Ground.geometry c.args.pages.now).page_size c.room.result c.in_ok-get.field-0.now (g.P.Ground.image c.args.pages.now c.args.page.0) c.in-Some.view.page
    (c.room.ensures ∙ ap (λ (n : ℕ). room_of n c.in-Some.view.page.slots) (c.in-Some.ensures.found.0 ∙ c.in_ok-get.ensures.len)) c.in-Some.ensures.found.1 (c.in_ok-get.ensures.bytes tells)

pub returns-in-None-clause-cause : goal.returns-in-None-clause-cause
returns-in-None-clause-cause g c = c.no_record-in-None.ensures.cause (g.P.Ground.faults c.args.pages.now) (g.P.Ground.faults c.get.follows.lender-at-none)

pub returns-then-not-in_area-clause-kept : goal.returns-then-not-in_area-clause-kept
returns-then-not-in_area-clause-kept g c = keeps_refl g.P.Ground c.args.pages.now

pub returns-in_err-get-clause-sound : goal.returns-in_err-get-clause-sound
returns-in_err-get-clause-sound g c = if_err_handed c.from_residual.result _ _ c.from_residual.ensures.1 (λ damage told area page. c.in_err-get.ensures.no_damage damage)

pub returns-in-Some-clause-area : goal.returns-in-Some-clause-area
returns-in-Some-clause-area g c = c.in_area.ensures.0 c.if-not-in_area.false
