use Rattle.std.proofs.Common.{◌≡◌, true, false, refl}
use Rattle.versions.proofs.Puts.{never_fits}
use Rattle.ex_base.proofs.Keeping.{keeps_refl}
use Rattle.std.proofs.lemmas.Bool.{false≢true}
use Rattle.versions.proofs.editing.put_small.Goals as goal

pub returns-then-bytes-gt-SMALL_MOST-clause-fits : goal.returns-then-bytes-gt-SMALL_MOST-clause-fits
returns-then-bytes-gt-SMALL_MOST-clause-fits g c = λ told index was has.
    ((λ t. absurd (let e : false ≡ true = t in cc)), (λ fit. absurd (never_fits g.V.Ground c.args.volume.now index c.args.place was _ has c.if-bytes-gt-SMALL_MOST.true fit)))

pub returns-in-Ok-clause-fits : goal.returns-in-Ok-clause-fits
returns-in-Ok-clause-fits g c = c.put_small_by.ensures.fits

pub returns-in-Ok-clause-put : goal.returns-in-Ok-clause-put
returns-in-Ok-clause-put g c = c.put_small_by.ensures.put

pub returns-in-Ok-clause-kept : goal.returns-in-Ok-clause-kept
returns-in-Ok-clause-kept g c = c.put_small_by.ensures.kept

pub returns-in-Ok-clause-free : goal.returns-in-Ok-clause-free
returns-in-Ok-clause-free g c = c.put_small_by.ensures.free

pub returns-in-Ok-clause-sound : goal.returns-in-Ok-clause-sound
returns-in-Ok-clause-sound g c = c.put_small_by.ensures.sound

pub returns-in-Ok-clause-fault : goal.returns-in-Ok-clause-fault
returns-in-Ok-clause-fault g c = c.put_small_by.ensures.fault

pub returns-in-Ok-clause-touches : goal.returns-in-Ok-clause-touches
returns-in-Ok-clause-touches g c = c.put_small_by.ensures.touches

pub returns-in-Ok-clause-cause : goal.returns-in-Ok-clause-cause
returns-in-Ok-clause-cause g c = c.put_small_by.ensures.cause

pub returns-in-Ok-clause-leads : goal.returns-in-Ok-clause-leads
returns-in-Ok-clause-leads g c = c.put_small_by.ensures.leads

pub returns-then-bytes-gt-SMALL_MOST-clause-kept : goal.returns-then-bytes-gt-SMALL_MOST-clause-kept
returns-then-bytes-gt-SMALL_MOST-clause-kept g c = λ no. keeps_refl g.V.Ground c.args.volume.now

pub returns-then-bytes-gt-SMALL_MOST-clause-free : goal.returns-then-bytes-gt-SMALL_MOST-clause-free
returns-then-bytes-gt-SMALL_MOST-clause-free g c = refl

pub returns-then-bytes-gt-SMALL_MOST-clause-sound : goal.returns-then-bytes-gt-SMALL_MOST-clause-sound
returns-then-bytes-gt-SMALL_MOST-clause-sound g c = tt

pub returns-then-bytes-gt-SMALL_MOST-clause-fault : goal.returns-then-bytes-gt-SMALL_MOST-clause-fault
returns-then-bytes-gt-SMALL_MOST-clause-fault g c = tt

pub returns-then-bytes-gt-SMALL_MOST-clause-cause : goal.returns-then-bytes-gt-SMALL_MOST-clause-cause
returns-then-bytes-gt-SMALL_MOST-clause-cause g c = tt

pub returns-then-bytes-gt-SMALL_MOST-clause-leads : goal.returns-then-bytes-gt-SMALL_MOST-clause-leads
returns-then-bytes-gt-SMALL_MOST-clause-leads g c = g.V.Ground.leads_refl c.args.volume.now

pub put_small_by-requires-clause-ready : goal.put_small_by-requires-clause-ready
put_small_by-requires-clause-ready g c = c.requires.ready

pub put_small_by-requires-clause-head : goal.put_small_by-requires-clause-head
put_small_by-requires-clause-head g c = c.requires.head

pub returns-then-bytes-gt-SMALL_MOST-clause-put : goal.returns-then-bytes-gt-SMALL_MOST-clause-put
returns-then-bytes-gt-SMALL_MOST-clause-put g c = λ t. absurd (false≢true t)

pub returns-in-Err-clause-leads : goal.returns-in-Err-clause-leads
returns-in-Err-clause-leads g c = g.V.Ground.leads_refl c.args.volume.now
