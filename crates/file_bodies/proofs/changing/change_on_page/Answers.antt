use Rattle.file_bodies.proofs.Moving.{kept_put}
use Rattle.file_bodies.proofs.Slots.{body_sound, body_changed, fits_read}
use Rattle.std.proofs.Common.{Bool, ap, false, length, sym, true, true≢false, ℕ, ◌∙◌}
use Rattle.file_bodies.proofs.LaterSizes.{size_after}
use Rattle.file_bodies.proofs.OwnFaults.{own_place}
use Rattle.ex_base.proofs.Handed.{cause_after}
use Rattle.std.proofs.lemmas.Bool.{false≢true}
use Rattle.file_index.proofs.LaterStates.{page_after}
use Rattle.file_bodies.proofs.TouchedPages.{most_since, more_same}
use Rattle.file_bodies.proofs.changing.change_on_page.Goals as goal

pub returns-in-Err-clause-sound : goal.returns-in-Err-clause-sound
returns-in-Err-clause-sound g c = λ damage told index was has. body_sound g.P.Ground c.args.pages.now index c.args.place was has (c.in-Err.ensures.sound damage told)

pub returns-in-Ok-put-clause-changed : goal.returns-in-Ok-put-clause-changed
returns-in-Ok-put-clause-changed g c = λ t told index was has.
    body_changed g.P.Ground c.args.pages.now c.load_body_page.new.pages c.put.new.self index c.args.place was c.args.body.now c.load_body_page.new.out c.resize_body.new.image has c.load_body_page.ensures.kept told
    (c.in-Ok.ensures.bytes told) (c.if-not-resize_body.ensures.changed t) c.in-Ok-put.ensures.put c.put.ensures.leads

pub returns-in-Ok-put-clause-put : goal.returns-in-Ok-put-clause-put
returns-in-Ok-put-clause-put g c = λ t. (c.resize_body.new.image, kept_put g.P.Ground c.args.pages.now c.load_body_page.new.pages c.put.new.self c.args.place.page.0 c.resize_body.new.image c.load_body_page.ensures.kept c.in-Ok-put.ensures.put)

pub returns-then-not-resize_body-clause-changed : goal.returns-then-not-resize_body-clause-changed
returns-then-not-resize_body-clause-changed g c = λ t. absurd (false≢true t)

pub returns-then-not-resize_body-clause-put : goal.returns-then-not-resize_body-clause-put
returns-then-not-resize_body-clause-put g c = λ t. absurd (false≢true t)

pub put-requires-clause-len : goal.put-requires-clause-len
put-requires-clause-len g c =
    size_after g.P.Ground _ _ c.load_body_page.ensures.kept.leads _ (c.resize_body.auto.image ∙ c.load_body_page.auto.out ∙ c.requires.image)

pub returns-in-Ok-put-clause-len : goal.returns-in-Ok-put-clause-len
returns-in-Ok-put-clause-len g c = λ told. ap length (sym (c.in-Ok.ensures.bytes told)) ∙ c.load_body_page.auto.out ∙ c.requires.image

pub returns-then-not-resize_body-clause-len : goal.returns-then-not-resize_body-clause-len
returns-then-not-resize_body-clause-len g c = λ told. ap length (sym (c.in-Ok.ensures.bytes told)) ∙ c.load_body_page.auto.out ∙ c.requires.image

pub returns-in-Ok-put-clause-kept : goal.returns-in-Ok-put-clause-kept
returns-in-Ok-put-clause-kept g c = λ f. absurd (true≢false f)

pub returns-in-Err-put-clause-leads : goal.returns-in-Err-put-clause-leads
returns-in-Err-put-clause-leads g c = g.P.Ground.leads_trans _ _ _ c.load_body_page.ensures.kept.leads c.put.ensures.leads

pub returns-in-Ok-put-clause-leads : goal.returns-in-Ok-put-clause-leads
returns-in-Ok-put-clause-leads g c = g.P.Ground.leads_trans _ _ _ c.load_body_page.ensures.kept.leads c.put.ensures.leads

pub returns-in-Err-put-clause-cause : goal.returns-in-Err-put-clause-cause
returns-in-Err-put-clause-cause g c =
    cause_after g.P.Ground _ _ c.load_body_page.ensures.kept.leads c.put.new.self c.in-Err-put.fault c.in-Err-put.ensures.cause

pub returns-in-Ok-put-clause-fits : goal.returns-in-Ok-put-clause-fits
returns-in-Ok-put-clause-fits g c = λ told index was has.
    fits_read g.P.Ground c.args.pages.now index c.args.place was c.args.body.now c.load_body_page.new.out true has (c.in-Ok.ensures.bytes told)
    (c.load_body_page.auto.out ∙ c.requires.image) c.if-not-resize_body.ensures.fits

pub returns-then-not-resize_body-clause-fits : goal.returns-then-not-resize_body-clause-fits
returns-then-not-resize_body-clause-fits g c = λ told index was has.
    fits_read g.P.Ground c.args.pages.now index c.args.place was c.args.body.now c.load_body_page.new.out false has (c.in-Ok.ensures.bytes told)
    (c.load_body_page.auto.out ∙ c.requires.image) c.if-not-resize_body.ensures.fits

pub put-requires-clause-page : goal.put-requires-clause-page
put-requires-clause-page g c = (page_after g.P.Ground _ _ c.load_body_page.ensures.kept.leads _ c.in-Ok.ensures.area).0

pub returns-in-Err-put-clause-sound : goal.returns-in-Err-put-clause-sound
returns-in-Err-put-clause-sound g c = λ damage told index was has. c.in-Err-put.ensures.no_damage damage

pub returns-in-Err-put-clause-fault : goal.returns-in-Err-put-clause-fault
returns-in-Err-put-clause-fault g c = λ told. own_place _ _ _ _ c.in-Err-put.fault c.in-Err-put.ensures.no_damage

pub put-requires-clause-ready : goal.put-requires-clause-ready
put-requires-clause-ready g c = g.P.Ground.leads_ready _ _ c.load_body_page.ensures.kept.leads c.requires.ready

pub returns-in-Ok-put-clause-touches : goal.returns-in-Ok-put-clause-touches
returns-in-Ok-put-clause-touches g c = most_since _ _ _ _ c.put.ensures.touched c.load_body_page.ensures.kept.touched

pub returns-in-Ok-put-clause-free : goal.returns-in-Ok-put-clause-free
returns-in-Ok-put-clause-free g c = c.in-Ok-put.ensures.put.free ∙ c.load_body_page.ensures.kept.free

pub returns-in-Ok-put-clause-has : goal.returns-in-Ok-put-clause-has
returns-in-Ok-put-clause-has g c = c.in-Ok.ensures.has

pub returns-then-not-resize_body-clause-touches : goal.returns-then-not-resize_body-clause-touches
returns-then-not-resize_body-clause-touches g c = more_same _ _ _ c.load_body_page.ensures.kept.touched

pub returns-then-not-resize_body-clause-kept : goal.returns-then-not-resize_body-clause-kept
returns-then-not-resize_body-clause-kept g c = λ f. c.load_body_page.ensures.kept

pub returns-then-not-resize_body-clause-free : goal.returns-then-not-resize_body-clause-free
returns-then-not-resize_body-clause-free g c = c.load_body_page.ensures.kept.free

pub returns-then-not-resize_body-clause-has : goal.returns-then-not-resize_body-clause-has
returns-then-not-resize_body-clause-has g c = c.in-Ok.ensures.has

pub returns-then-not-resize_body-clause-leads : goal.returns-then-not-resize_body-clause-leads
returns-then-not-resize_body-clause-leads g c = c.load_body_page.ensures.kept.leads

pub put-requires-clause-held : goal.put-requires-clause-held
put-requires-clause-held g c = ap (λ (f : ℕ → Bool). f c.args.place.page.0) c.load_body_page.ensures.kept.held ∙ c.in-Ok.ensures.held

pub returns-in-Err-clause-fault : goal.returns-in-Err-clause-fault
returns-in-Err-clause-fault g c = c.in-Err.ensures.fault

pub returns-in-Err-clause-leads : goal.returns-in-Err-clause-leads
returns-in-Err-clause-leads g c = c.load_body_page.ensures.kept.leads

pub returns-in-Err-clause-cause : goal.returns-in-Err-clause-cause
returns-in-Err-clause-cause g c = c.in-Err.ensures.cause

pub resize_body-requires-clause-some : goal.resize_body-requires-clause-some
resize_body-requires-clause-some g c = c.requires.some

pub resize_body-requires-clause-live : goal.resize_body-requires-clause-live
resize_body-requires-clause-live g c = c.in-Ok.ensures.live

pub resize_body-requires-clause-page : goal.resize_body-requires-clause-page
resize_body-requires-clause-page g c = c.in-Ok.ensures.of
