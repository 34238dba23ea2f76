use Rattle.std.proofs.Common.{◌≡◌, ℕ, List, true, false, sym, ap, subst, ◌∙◌}
use Rattle.std.proofs.lemmas.Result.{IfOk-weaker, IfErr-weaker, on_ok_weaker}
use Rattle.ex_base.proofs.Counts.{contains_times}
use Rattle.slotted_pages.specs.Reads.{page_on, IsPage}
use Rattle.file_bodies.specs.Bodies.{pages_in}
use Rattle.file_bodies.proofs.Moving.{lies}
use Rattle.versions.proofs.Puts.{page_is}
use Rattle.version_tree.proofs.ReadPlaces.{err_both}
use Rattle.std.proofs.lemmas.Bool.{false≢true}
use Rattle.ex_base.proofs.Keeping.{keeps_refl}
use Rattle.version_tree.proofs.descent.file_of.Goals as goal

pub returns-in-Ok-clause-number : goal.returns-in-Ok-clause-number
returns-in-Ok-clause-number g c = IfOk-weaker c.number_on.result _ _ (λ number is told index body has.
    sym (page_is g.V.Ground c.args.volume.now index c.args.place body has).number ∙ sym (ap (λ (t : List ℕ). (page_on t).file_no) (c.in-Ok.ensures.bytes told)) ∙ is) c.number_on.ensures.number

pub returns-in-Ok-clause-sound : goal.returns-in-Ok-clause-sound
returns-in-Ok-clause-sound g c = IfErr-weaker c.number_on.result _ _ (λ fault never damage told index body has.
    never (subst IsPage (sym (c.in-Ok.ensures.bytes told)) (page_is g.V.Ground c.args.volume.now index c.args.place body has).spelled)) c.number_on.ensures.sound

pub returns-in-Ok-clause-fault : goal.returns-in-Ok-clause-fault
returns-in-Ok-clause-fault g c = IfErr-weaker c.number_on.result _ _ (λ fault h told damage. (h.1, λ area is. h.0 (subst IsPage (sym (c.in-Ok.ensures.bytes told)) is)))
    (err_both c.number_on.result _ _ c.number_on.ensures.sound c.number_on.ensures.fault)

pub returns-in-Ok-clause-cause : goal.returns-in-Ok-clause-cause
returns-in-Ok-clause-cause g c = c.number_on.ensures.cause _ _

pub returns-in-Err-clause-fault : goal.returns-in-Err-clause-fault
returns-in-Err-clause-fault g c = λ told damage. absurd (c.in-Err.ensures.no_damage damage)

pub returns-then-not-in_area-clause-sound : goal.returns-then-not-in_area-clause-sound
returns-then-not-in_area-clause-sound g c = λ damage told index body has. absurd (
    let yes : c.in_area.result ≡ true = c.in_area.ensures.1 (lies g.V.Ground c.args.volume.now index c.args.place.page.0 has.file (contains_times c.args.place.page.0 (pages_in (g.V.Ground.image c.args.volume.now) index) has.named)).0 in
    let no : c.in_area.result ≡ false = c.if-not-in_area.true in false≢true (sym no ∙ yes))

pub returns-then-not-in_area-clause-fault : goal.returns-then-not-in_area-clause-fault
returns-then-not-in_area-clause-fault g c = λ told damage. (
  c.no_record.ensures.is,
  λ area is. absurd (
      let yes : c.in_area.result ≡ true = c.in_area.ensures.1 area in
      let no : c.in_area.result ≡ false = c.if-not-in_area.true in false≢true (sym no ∙ yes)),
)

pub returns-in-Ok-clause-shown : goal.returns-in-Ok-clause-shown
returns-in-Ok-clause-shown g c = IfOk-weaker c.number_on.result _ _ (λ number is told. sym (ap (λ (t : List ℕ). (page_on t).file_no) (c.in-Ok.ensures.bytes told)) ∙ is) c.number_on.ensures.number

pub returns-in-Ok-clause-page : goal.returns-in-Ok-clause-page
returns-in-Ok-clause-page g c = on_ok_weaker c.number_on.result (λ is told. subst IsPage (c.in-Ok.ensures.bytes told) is) c.number_on.ensures.page

pub returns-then-not-in_area-clause-kept : goal.returns-then-not-in_area-clause-kept
returns-then-not-in_area-clause-kept g c = keeps_refl g.V.Ground c.args.volume.now

pub returns-then-not-in_area-clause-cause : goal.returns-then-not-in_area-clause-cause
returns-then-not-in_area-clause-cause g c = c.no_record.ensures.cause (g.V.Ground.faults c.args.volume.now) (g.V.Ground.faults c.args.volume.now)
