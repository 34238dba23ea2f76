use Rattle.std.proofs.Common.{◌≡◌, ◌∙◌, sym, inl, inr, true, false, List, ℕ, subst}
use Rattle.file_index.proofs.Blame.{blames_lacking, other_fault}
use Rattle.ex_base.proofs.Handed.{no_value, not_given}
use Rattle.ex_base.proofs.Results.{if_err_handed}
use Rattle.ex_base.proofs.Keeping.{keeps_refl}
use Rattle.file_index.specs.Damage.{IsPageFault}
use Rattle.file_index.proofs.Naming.{named_as, named_of}
use Rattle.file_index.proofs.Rooms.{page_long}
use Rattle.file_index.proofs.nodes.entries_at.Goals as goal

pub returns-then-not-may_be_written-clause-sound : goal.returns-then-not-may_be_written-clause-sound
returns-then-not-may_be_written-clause-sound g c = λ damage told area held named. elim (c.may_be_written.ensures.never c.if-not-may_be_written.true) [
  | inl never ↦ never area
  | inr lacks ↦ absurd (let e : true ≡ false = sym held ∙ lacks.1 in cc)
]

pub returns-then-not-may_be_written-clause-fault : goal.returns-then-not-may_be_written-clause-fault
returns-then-not-may_be_written-clause-fault g c = λ told.
    blames_lacking (g.P.Ground.geometry c.args.pages.now) (g.P.Ground.held c.args.pages.now) (g.P.Ground.image c.args.pages.now c.args.named.now.page.0) c.args.named.now.level c.args.named.now.file_no c.args.named.now.least c.args.named.now.page
    c.no_index_page.result (c.may_be_written.ensures.never c.if-not-may_be_written.true) c.no_index_page.ensures.is

pub returns-then-not-may_be_written-clause-cause : goal.returns-then-not-may_be_written-clause-cause
returns-then-not-may_be_written-clause-cause g c = c.no_index_page.ensures.cause _ _

pub returns-in-Err-clause-cause : goal.returns-in-Err-clause-cause
returns-in-Err-clause-cause g c = c.in-Err.ensures.damage _ _

pub returns-then-not-may_be_written-clause-entries : goal.returns-then-not-may_be_written-clause-entries
returns-then-not-may_be_written-clause-entries g c = tt

pub returns-then-not-may_be_written-clause-named : goal.returns-then-not-may_be_written-clause-named
returns-then-not-may_be_written-clause-named g c = tt

pub returns-then-not-may_be_written-clause-few : goal.returns-then-not-may_be_written-clause-few
returns-then-not-may_be_written-clause-few g c = tt

pub returns-then-not-may_be_written-clause-many : goal.returns-then-not-may_be_written-clause-many
returns-then-not-may_be_written-clause-many g c = tt

pub returns-then-not-may_be_written-clause-area : goal.returns-then-not-may_be_written-clause-area
returns-then-not-may_be_written-clause-area g c = tt

pub returns-then-not-may_be_written-clause-held : goal.returns-then-not-may_be_written-clause-held
returns-then-not-may_be_written-clause-held g c = tt

pub returns-in-Err-to_entries-clause-entries : goal.returns-in-Err-to_entries-clause-entries
returns-in-Err-to_entries-clause-entries g c = tt

pub returns-in-Err-to_entries-clause-named : goal.returns-in-Err-to_entries-clause-named
returns-in-Err-to_entries-clause-named g c = tt

pub returns-in-Err-to_entries-clause-few : goal.returns-in-Err-to_entries-clause-few
returns-in-Err-to_entries-clause-few g c = tt

pub returns-in-Err-to_entries-clause-many : goal.returns-in-Err-to_entries-clause-many
returns-in-Err-to_entries-clause-many g c = tt

pub returns-in-Err-to_entries-clause-area : goal.returns-in-Err-to_entries-clause-area
returns-in-Err-to_entries-clause-area g c = tt

pub returns-in-Err-to_entries-clause-held : goal.returns-in-Err-to_entries-clause-held
returns-in-Err-to_entries-clause-held g c = tt

pub returns-in-Err-clause-entries : goal.returns-in-Err-clause-entries
returns-in-Err-clause-entries g c = tt

pub returns-in-Err-clause-named : goal.returns-in-Err-clause-named
returns-in-Err-clause-named g c = tt

pub returns-in-Err-clause-few : goal.returns-in-Err-clause-few
returns-in-Err-clause-few g c = tt

pub returns-in-Err-clause-many : goal.returns-in-Err-clause-many
returns-in-Err-clause-many g c = tt

pub returns-in-Err-clause-area : goal.returns-in-Err-clause-area
returns-in-Err-clause-area g c = tt

pub returns-in-Err-clause-held : goal.returns-in-Err-clause-held
returns-in-Err-clause-held g c = tt

pub returns-in-Ok-to_entries-clause-sound : goal.returns-in-Ok-to_entries-clause-sound
returns-in-Ok-to_entries-clause-sound g c = tt

pub returns-in-Ok-to_entries-clause-fault : goal.returns-in-Ok-to_entries-clause-fault
returns-in-Ok-to_entries-clause-fault g c = tt

pub returns-in-Ok-to_entries-clause-cause : goal.returns-in-Ok-to_entries-clause-cause
returns-in-Ok-to_entries-clause-cause g c = tt

pub returns-in_err-page-clause-entries : goal.returns-in_err-page-clause-entries
returns-in_err-page-clause-entries g c = no_value c.from_residual.result _ c.in_err-page.field-0.0 c.from_residual.ensures.1

pub returns-in_err-page-clause-few : goal.returns-in_err-page-clause-few
returns-in_err-page-clause-few g c = no_value c.from_residual.result _ c.in_err-page.field-0.0 c.from_residual.ensures.1

pub returns-in_err-page-clause-many : goal.returns-in_err-page-clause-many
returns-in_err-page-clause-many g c = no_value c.from_residual.result _ c.in_err-page.field-0.0 c.from_residual.ensures.1

pub returns-in_err-page-clause-named : goal.returns-in_err-page-clause-named
returns-in_err-page-clause-named g c = not_given c.from_residual.result _ c.in_err-page.field-0.0 c.from_residual.ensures.1

pub returns-in_err-page-clause-area : goal.returns-in_err-page-clause-area
returns-in_err-page-clause-area g c = not_given c.from_residual.result _ c.in_err-page.field-0.0 c.from_residual.ensures.1

pub returns-in_err-page-clause-held : goal.returns-in_err-page-clause-held
returns-in_err-page-clause-held g c = not_given c.from_residual.result _ c.in_err-page.field-0.0 c.from_residual.ensures.1

pub returns-in_err-page-clause-sound : goal.returns-in_err-page-clause-sound
returns-in_err-page-clause-sound g c =
    if_err_handed c.from_residual.result _ c.in_err-page.field-0.0 c.from_residual.ensures.1
    (λ damage told area held named. c.in_err-page.ensures.no_damage damage)

pub returns-in_err-page-clause-fault : goal.returns-in_err-page-clause-fault
returns-in_err-page-clause-fault g c =
    if_err_handed c.from_residual.result _ c.in_err-page.field-0.0 c.from_residual.ensures.1
    (λ told. other_fault (g.P.Ground.geometry c.args.pages.now) (g.P.Ground.held c.args.pages.now) (g.P.Ground.image c.args.pages.now c.args.named.now.page.0)
    c.args.named.now.level c.args.named.now.file_no c.args.named.now.least c.args.named.now.page.0 c.in_err-page.field-0.0 c.in_err-page.ensures.no_damage)

pub returns-then-not-may_be_written-clause-kept : goal.returns-then-not-may_be_written-clause-kept
returns-then-not-may_be_written-clause-kept g c = keeps_refl g.P.Ground _

pub returns-in-Ok-to_entries-clause-area : goal.returns-in-Ok-to_entries-clause-area
returns-in-Ok-to_entries-clause-area g c = c.may_be_written.ensures.files c.if-not-may_be_written.false

pub returns-in-Ok-to_entries-clause-held : goal.returns-in-Ok-to_entries-clause-held
returns-in-Ok-to_entries-clause-held g c = c.may_be_written.ensures.held c.if-not-may_be_written.false

pub get-requires-clause-page : goal.get-requires-clause-page
get-requires-clause-page g c = (c.may_be_written.ensures.files c.if-not-may_be_written.false).0

pub get-requires-clause-ready : goal.get-requires-clause-ready
get-requires-clause-ready g c = c.requires

pub checked-requires : goal.checked-requires
checked-requires g c = page_long (g.P.Ground.geometry c.args.pages.now) _ c.in_ok-page.ensures.len

pub returns-in-Ok-to_entries-clause-named : goal.returns-in-Ok-to_entries-clause-named
returns-in-Ok-to_entries-clause-named g c = λ told. named_of _ _ _ _ _ _ c.in_ok-page.ensures.len (c.in_ok-page.ensures.bytes told) c.in-Ok.ensures.ok

pub returns-in-Err-clause-sound : goal.returns-in-Err-clause-sound
returns-in-Err-clause-sound g c =
    λ damage told area held named. c.in-Err.ensures.err (named_as _ _ _ _ _ _ c.in_ok-page.ensures.len (c.in_ok-page.ensures.bytes told) named)

pub returns-in-Err-clause-fault : goal.returns-in-Err-clause-fault
returns-in-Err-clause-fault g c = λ told.
    subst (λ (bytes : List ℕ). IsPageFault (g.P.Ground.geometry c.args.pages.now) (g.P.Ground.held c.args.pages.now) bytes c.args.named.now.level
    c.args.named.now.file_no c.args.named.now.least c.args.named.now.page.0 c.in-Err.fault) (c.in_ok-page.ensures.bytes told)
    (c.in-Err.ensures.fault (g.P.Ground.geometry c.args.pages.now) (g.P.Ground.held c.args.pages.now) (sym c.in_ok-page.ensures.len)
    (c.may_be_written.ensures.files c.if-not-may_be_written.false))
