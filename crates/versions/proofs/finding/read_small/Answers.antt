use Rattle.std.proofs.Common.{List, None, Some, ap, false, length, subst, sym, true, ℕ, ◌∙◌, ◌≡◌}
use Rattle.std.specs.Prelude.{slice_index_or}
use Rattle.object_records.specs.Record.{BodyOf}
use Rattle.object_records.specs.Reads.{small_record}
use Rattle.std.proofs.lemmas.Result.{on_ok_weaker, IfErr-weaker}
use Rattle.slotted_pages.specs.Edits.{slots_of}
use Rattle.slotted_pages.specs.Reads.{IsPage}
use Rattle.file_bodies.proofs.Belonging.{of_body, of_lies, of_page}
use Rattle.versions.specs.Damage.{own, unread}
use Rattle.versions.proofs.Results.{of_mapped, ok_of}
use Rattle.versions.proofs.finding.read_small.Goals as goal

pub returns-in-Ok-clause-bytes : goal.returns-in-Ok-clause-bytes
returns-in-Ok-clause-bytes g c = on_ok_weaker c.copy_small.result (λ h told index body head bytes has spelled.
    let read = c.in-Ok.ensures.bytes told in
    of_mapped _ c.body_on.result body _ (c.body_on.ensures.body (subst IsPage (sym read) (of_page g.V.Ground c.args.volume.now c.args.place.page.0 (of_body g.V.Ground c.args.volume.now index c.args.place body has)))
    ∙ subst (λ (t : List ℕ). slice_index_or (slots_of t) c.args.place.slot None ≡ Some body) (sym read) has.stands) h
    (λ b is there. there head bytes (subst (λ (t : List ℕ). BodyOf t (small_record head bytes)) (sym is) spelled))) c.copy_small.ensures.bytes

pub returns-in-Ok-clause-sound : goal.returns-in-Ok-clause-sound
returns-in-Ok-clause-sound g c = IfErr-weaker c.copy_small.result _ _ (λ fault h damage told index body head bytes has spelled range.
    let read = c.in-Ok.ensures.bytes told in
    of_mapped _ c.body_on.result body _ (c.body_on.ensures.body (subst IsPage (sym read) (of_page g.V.Ground c.args.volume.now c.args.place.page.0 (of_body g.V.Ground c.args.volume.now index c.args.place body has)))
    ∙ subst (λ (t : List ℕ). slice_index_or (slots_of t) c.args.place.slot None ≡ Some body) (sym read) has.stands) h
    (λ b is never. never head bytes (subst (λ (t : List ℕ). BodyOf t (small_record head bytes)) (sym is) spelled) range)) c.copy_small.ensures.sound

pub returns-in-Ok-clause-fault : goal.returns-in-Ok-clause-fault
returns-in-Ok-clause-fault g c = IfErr-weaker c.copy_small.result _ _ (λ fault is told. unread tt is) c.copy_small.ensures.fault

pub returns-in-Err-clause-fault : goal.returns-in-Err-clause-fault
returns-in-Err-clause-fault g c = λ told. own c.in-Err.ensures.no_damage

pub returns-in-Ok-clause-cause : goal.returns-in-Ok-clause-cause
returns-in-Ok-clause-cause g c = c.copy_small.ensures.cause _ _

pub returns-in-Ok-clause-page : goal.returns-in-Ok-clause-page
returns-in-Ok-clause-page g c = ok_of c.copy_small.result _ (λ told index body has. ap length (sym (c.in-Ok.ensures.bytes told)) ∙ c.in-Ok.ensures.len)

pub returns-then-not-in_area-clause-sound : goal.returns-then-not-in_area-clause-sound
returns-then-not-in_area-clause-sound g c = λ damage told index body head bytes has spelled range.
    let yes : c.in_area.result ≡ true =
    c.in_area.ensures.1 (of_lies g.V.Ground c.args.volume.now c.args.place.page.0 (of_body g.V.Ground c.args.volume.now index c.args.place body has)).0 in
    absurd (let e : false ≡ true = sym c.if-not-in_area.true ∙ yes in cc)
