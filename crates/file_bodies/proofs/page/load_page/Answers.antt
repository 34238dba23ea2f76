use Rattle.std.proofs.Common.{sym, ◌∙◌, inl, inr, true≢false, List, subst, ℕ}
use Rattle.file_bodies.proofs.Blame.{blames_lacking}
use Rattle.file_bodies.specs.Damage.{IsFilePageFault}
use Rattle.file_bodies.proofs.OwnFaults.{own_page}
use Rattle.ex_base.proofs.Keeping.{keeps_refl}
use Rattle.ex_base.proofs.Results.{if_err_handed}
use Rattle.file_bodies.specs.Files.{IsPageOf}
use Rattle.file_bodies.proofs.page.load_page.Goals as goal

pub returns-then-not-may_be_written-clause-sound : goal.returns-then-not-may_be_written-clause-sound
returns-then-not-may_be_written-clause-sound g c = λ damage told area held of. elim (c.may_be_written.ensures.never c.if-not-may_be_written.true) [
  | inl never ↦ never area
  | inr lacks ↦ true≢false (sym held ∙ lacks.1)
]

pub returns-then-not-may_be_written-clause-fault : goal.returns-then-not-may_be_written-clause-fault
returns-then-not-may_be_written-clause-fault g c = λ told.
    blames_lacking (g.P.Ground.geometry c.args.pages.now) (g.P.Ground.held c.args.pages.now) (g.P.Ground.image c.args.pages.now c.args.page.0) c.args.file_no c.args.page c.no_page.result
    (c.may_be_written.ensures.never c.if-not-may_be_written.true) c.no_page.ensures.is

pub returns-then-not-may_be_written-clause-cause : goal.returns-then-not-may_be_written-clause-cause
returns-then-not-may_be_written-clause-cause g c = c.no_page.ensures.cause _ _

pub returns-in-Err-clause-cause : goal.returns-in-Err-clause-cause
returns-in-Err-clause-cause g c = c.in-Err.ensures.cause _ _

pub returns-in_err-get-clause-sound : goal.returns-in_err-get-clause-sound
returns-in_err-get-clause-sound g c =
    if_err_handed c.from_residual.result _ c.in_err-get.field-0.0 c.from_residual.ensures.1 (λ damage told area held of. c.in_err-get.ensures.no_damage damage)

pub returns-in_err-get-clause-fault : goal.returns-in_err-get-clause-fault
returns-in_err-get-clause-fault g c =
    if_err_handed c.from_residual.result _ c.in_err-get.field-0.0 c.from_residual.ensures.1
    (λ told. own_page _ _ _ _ _ c.in_err-get.field-0.0 c.in_err-get.ensures.no_damage)

pub returns-in-Ok-clause-page : goal.returns-in-Ok-clause-page
returns-in-Ok-clause-page g c = λ told. subst (IsPageOf c.args.file_no) (c.copy_from_slice.ensures.after ∙ c.in_ok-get.ensures.bytes told) c.in-Ok.ensures.ok

pub copy_from_slice-requires : goal.copy_from_slice-requires
copy_from_slice-requires g c = c.requires.out ∙ sym c.in_ok-get.ensures.len

pub returns-in-Err-clause-fault : goal.returns-in-Err-clause-fault
returns-in-Err-clause-fault g c = λ told.
    subst
    (λ (bytes : List ℕ). IsFilePageFault (g.P.Ground.geometry c.args.pages.now) (g.P.Ground.held c.args.pages.now) bytes c.args.file_no c.args.page.0
    c.in-Err.fault) (c.copy_from_slice.ensures.after ∙ c.in_ok-get.ensures.bytes told)
    (c.in-Err.ensures.fault (g.P.Ground.geometry c.args.pages.now) (g.P.Ground.held c.args.pages.now)
    (c.may_be_written.ensures.files c.if-not-may_be_written.false))

pub returns-in-Ok-clause-area : goal.returns-in-Ok-clause-area
returns-in-Ok-clause-area g c = c.may_be_written.ensures.files c.if-not-may_be_written.false

pub returns-in-Ok-clause-held : goal.returns-in-Ok-clause-held
returns-in-Ok-clause-held g c = c.may_be_written.ensures.held c.if-not-may_be_written.false

pub returns-in-Err-clause-sound : goal.returns-in-Err-clause-sound
returns-in-Err-clause-sound g c =
    λ damage told area held of. c.in-Err.ensures.err (subst (IsPageOf c.args.file_no) (sym (c.copy_from_slice.ensures.after ∙ c.in_ok-get.ensures.bytes told))
    of)

pub returns-then-not-may_be_written-clause-kept : goal.returns-then-not-may_be_written-clause-kept
returns-then-not-may_be_written-clause-kept g c = keeps_refl g.P.Ground c.args.pages.now

pub returns-in-Ok-clause-bytes : goal.returns-in-Ok-clause-bytes
returns-in-Ok-clause-bytes g c = λ told. c.copy_from_slice.ensures.after ∙ c.in_ok-get.ensures.bytes told

pub returns-in-Err-clause-kept : goal.returns-in-Err-clause-kept
returns-in-Err-clause-kept g c = c.get.follows.holds-at-none.0

pub returns-in-Ok-clause-kept : goal.returns-in-Ok-clause-kept
returns-in-Ok-clause-kept g c = c.get.follows.holds-at-none.0

pub returns-in_err-get-clause-kept : goal.returns-in_err-get-clause-kept
returns-in_err-get-clause-kept g c = c.get.follows.holds-at-none.0

pub returns-in-Ok-clause-of : goal.returns-in-Ok-clause-of
returns-in-Ok-clause-of g c = c.in-Ok.ensures.ok

pub get-requires-clause-page : goal.get-requires-clause-page
get-requires-clause-page g c = (c.may_be_written.ensures.files c.if-not-may_be_written.false).0
