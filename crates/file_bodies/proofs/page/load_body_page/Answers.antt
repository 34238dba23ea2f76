use Rattle.std.proofs.Common.{sym, ◌∙◌, inl, inr, true≢false, List, subst, ℕ}
use Rattle.file_bodies.proofs.Blame.{blames_place}
use Rattle.slotted_pages.specs.Reads.{IsPage}
use Rattle.ex_base.proofs.Results.{if_err_handed, on_ok_both, on_ok_from}
use Rattle.file_bodies.proofs.OwnFaults.{own_place}
use Rattle.ex_base.proofs.Keeping.{keeps_refl}
use Rattle.file_bodies.specs.Files.{IsLive}
use Rattle.file_bodies.specs.Damage.{IsPlaceFault}
use Rattle.std.proofs.lemmas.Result.{IfErr-weaker}
use Rattle.file_bodies.proofs.page.load_body_page.Goals as goal

pub returns-then-not-may_be_written-clause-sound : goal.returns-then-not-may_be_written-clause-sound
returns-then-not-may_be_written-clause-sound g c = λ damage told area held page live. elim (c.may_be_written.ensures.never c.if-not-may_be_written.true) [
  | inl never ↦ never area
  | inr lacks ↦ true≢false (sym held ∙ lacks.1)
]

pub returns-then-not-may_be_written-clause-fault : goal.returns-then-not-may_be_written-clause-fault
returns-then-not-may_be_written-clause-fault g c = λ told.
    blames_place (g.P.Ground.geometry c.args.pages.now) (g.P.Ground.held c.args.pages.now) (g.P.Ground.image c.args.pages.now c.args.place.page.0) c.args.place c.no_body.result
    (λ has. elim (c.may_be_written.ensures.never c.if-not-may_be_written.true) [
      | inl never ↦ never has.area
      | inr lacks ↦ true≢false (sym has.is_held ∙ lacks.1)
    ]) c.no_body.ensures.is

pub returns-then-not-may_be_written-clause-cause : goal.returns-then-not-may_be_written-clause-cause
returns-then-not-may_be_written-clause-cause g c = c.no_body.ensures.cause _ _

pub returns-clause-cause : goal.returns-clause-cause
returns-clause-cause g c = c.body_checked.ensures.damage _ _

pub returns-in_err-get-clause-sound : goal.returns-in_err-get-clause-sound
returns-in_err-get-clause-sound g c =
    if_err_handed c.from_residual.result _ c.in_err-get.field-0.0 c.from_residual.ensures.1
    (λ damage told area held page live. c.in_err-get.ensures.no_damage damage)

pub returns-in_err-get-clause-fault : goal.returns-in_err-get-clause-fault
returns-in_err-get-clause-fault g c =
    if_err_handed c.from_residual.result _ c.in_err-get.field-0.0 c.from_residual.ensures.1
    (λ told. own_place _ _ _ _ c.in_err-get.field-0.0 c.in_err-get.ensures.no_damage)

pub returns-clause-sound : goal.returns-clause-sound
returns-clause-sound g c = IfErr-weaker c.body_checked.result _ _ (λ fault never damage told area held page live.
    let read = c.copy_from_slice.ensures.after ∙ c.in_ok-get.ensures.bytes told in
    never (subst IsPage (sym read) page) (subst (λ (t : List ℕ). IsLive t c.args.place.slot) (sym read) live)) c.body_checked.ensures.err

pub returns-clause-held : goal.returns-clause-held
returns-clause-held g c = on_ok_from c.body_checked.result _ (λ x is. c.may_be_written.ensures.held c.if-not-may_be_written.false)

pub copy_from_slice-requires : goal.copy_from_slice-requires
copy_from_slice-requires g c = c.requires.out ∙ sym c.in_ok-get.ensures.len

pub returns-clause-has : goal.returns-clause-has
returns-clause-has g c = on_ok_both c.body_checked.result _ _ _ (λ page live told.
    let read = c.copy_from_slice.ensures.after ∙ c.in_ok-get.ensures.bytes told in
    record {
      area = c.may_be_written.ensures.files c.if-not-may_be_written.false;
      is_held = c.may_be_written.ensures.held c.if-not-may_be_written.false;
      spelled = subst IsPage read page;
      live = subst (λ (t : List ℕ). IsLive t c.args.place.slot) read live;
    }) c.body_checked.ensures.ok c.body_checked.ensures.live

pub returns-clause-bytes : goal.returns-clause-bytes
returns-clause-bytes g c = on_ok_from c.body_checked.result _ (λ x is told. c.copy_from_slice.ensures.after ∙ c.in_ok-get.ensures.bytes told)

pub returns-clause-fault : goal.returns-clause-fault
returns-clause-fault g c = IfErr-weaker c.body_checked.result _ _ (λ fault blames told.
    subst (λ (t : List ℕ). IsPlaceFault (g.P.Ground.geometry c.args.pages.now) (g.P.Ground.held c.args.pages.now) t c.args.place fault)
    (c.copy_from_slice.ensures.after ∙ c.in_ok-get.ensures.bytes told)
    (blames (g.P.Ground.geometry c.args.pages.now) (g.P.Ground.held c.args.pages.now))) c.body_checked.ensures.fault

pub returns-clause-area : goal.returns-clause-area
returns-clause-area g c = on_ok_from c.body_checked.result _ (λ x is. c.may_be_written.ensures.files c.if-not-may_be_written.false)

pub returns-then-not-may_be_written-clause-kept : goal.returns-then-not-may_be_written-clause-kept
returns-then-not-may_be_written-clause-kept g c = keeps_refl g.P.Ground c.args.pages.now

pub get-requires-clause-page : goal.get-requires-clause-page
get-requires-clause-page g c = (c.may_be_written.ensures.files c.if-not-may_be_written.false).0

pub returns-clause-live : goal.returns-clause-live
returns-clause-live g c = c.body_checked.ensures.live

pub returns-clause-kept : goal.returns-clause-kept
returns-clause-kept g c = c.get.follows.holds-at-none.0

pub returns-clause-of : goal.returns-clause-of
returns-clause-of g c = c.body_checked.ensures.ok

pub returns-clause-file : goal.returns-clause-file
returns-clause-file g c = c.body_checked.ensures.file

pub returns-in_err-get-clause-kept : goal.returns-in_err-get-clause-kept
returns-in_err-get-clause-kept g c = c.get.follows.holds-at-none.0
