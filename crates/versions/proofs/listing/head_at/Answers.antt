use Rattle.std.proofs.Common.{◌≡◌, List, ℕ}
use Rattle.object_records.specs.Record.{Record, BodyOf}
use Rattle.object_records.specs.Reads.{record_on}
use Rattle.std.proofs.lemmas.Result.{IfOk-weaker, IfErr-weaker}
use Rattle.versions.specs.Damage.{own, unread}
use Rattle.versions.proofs.Results.{at_image, if_err_both, none_then}
use Rattle.versions.proofs.There.{lacks_on}
use Rattle.versions.proofs.listing.head_at.Goals as goal

pub returns-in-Ok-clause-head : goal.returns-in-Ok-clause-head
returns-in-Ok-clause-head g c = IfOk-weaker c.head_on.result _ _ (λ head h told index body has.
    at_image (λ there. there.now) c.in-Ok.body body (λ (t : List ℕ). head ≡ (record_on t).head) (c.in-Ok.ensures.found told index body has) h) c.head_on.ensures.head

pub returns-in-Ok-clause-sound : goal.returns-in-Ok-clause-sound
returns-in-Ok-clause-sound g c = IfErr-weaker c.head_on.result _ _ (λ fault h damage told index body is has spelled.
    at_image (λ there. there.now) c.in-Ok.body body (λ (t : List ℕ). (r : Record) → BodyOf t r → ⊥) (c.in-Ok.ensures.found told index body has) h is spelled) c.head_on.ensures.sound

pub returns-in-Err-clause-sound : goal.returns-in-Err-clause-sound
returns-in-Err-clause-sound g c = λ damage told index body is has spelled. c.in-Err.ensures.no_damage damage

pub returns-in-Ok-clause-fault : goal.returns-in-Ok-clause-fault
returns-in-Ok-clause-fault g c = if_err_both c.head_on.result _ _ _ (λ fault is lacks told. unread
    (λ le. lacks_on (λ there. there.now) c.in-Ok.body (g.V.Ground.geometry c.args.volume.now) (g.V.Ground.image c.args.volume.now) c.args.place (c.in-Ok.ensures.stands told)
    (none_then c.in-Ok.body _ _ (λ never. never told) c.in-Ok.ensures.none) lacks) is) c.head_on.ensures.fault c.head_on.ensures.sound

pub returns-in-Err-clause-fault : goal.returns-in-Err-clause-fault
returns-in-Err-clause-fault g c = λ told. own c.in-Err.ensures.no_damage

pub returns-in-Ok-clause-cause : goal.returns-in-Ok-clause-cause
returns-in-Ok-clause-cause g c = c.head_on.ensures.cause _ _
