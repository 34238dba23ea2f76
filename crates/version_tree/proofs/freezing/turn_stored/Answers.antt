use Rattle.std.proofs.Common.{◌≡◌, true, false, refl, sym, ◌∙◌}
use Rattle.std.proofs.lemmas.Result.{on_ok_weaker, IfErr-weaker}
use Rattle.version_tree.proofs.Copying.{none_turned, one_turned, turned_head}
use Rattle.std.proofs.lemmas.Bool.{false≢true}
use Rattle.version_tree.proofs.freezing.turn_stored.Goals as goal

pub returns-then-not-is_at-clause-turned : goal.returns-then-not-is_at-clause-turned
returns-then-not-is_at-clause-turned g c = λ told index stands.
    none_turned g.V.Ground c.args.volume.now index c.args.stored.now c.args.from c.args.to
    (λ is. absurd (let yes : c.is_at.result ≡ true = c.is_at.ensures.1 is in let no : c.is_at.result ≡ false = c.if-not-is_at.true in false≢true (sym no ∙ yes))) stands

pub returns-clause-turned : goal.returns-clause-turned
returns-clause-turned g c = on_ok_weaker c.put_head.result (λ put told index stands.
    one_turned g.V.Ground c.args.volume.now c.put_head.new.volume index c.args.stored.now c.args.from c.args.to _ refl (c.is_at.ensures.0 c.if-not-is_at.false) stands
    (put told index stands.is stands.has stands.spelled)) c.put_head.ensures.put

pub returns-clause-sound : goal.returns-clause-sound
returns-clause-sound g c = IfErr-weaker c.put_head.result _ _ (λ fault h damage told index frozen named.
    h damage told index frozen.stands.is frozen.stands.has frozen.stands.spelled (turned_head g.V.Ground c.args.volume.now index c.args.stored.now c.args.to frozen named)) c.put_head.ensures.sound

pub returns-then-not-is_at-clause-sound : goal.returns-then-not-is_at-clause-sound
returns-then-not-is_at-clause-sound g c = tt

pub returns-then-not-is_at-clause-fault : goal.returns-then-not-is_at-clause-fault
returns-then-not-is_at-clause-fault g c = tt

pub returns-then-not-is_at-clause-leads : goal.returns-then-not-is_at-clause-leads
returns-then-not-is_at-clause-leads g c = g.V.Ground.leads_refl c.args.volume.now

pub returns-then-not-is_at-clause-cause : goal.returns-then-not-is_at-clause-cause
returns-then-not-is_at-clause-cause g c = tt

pub returns-clause-leads : goal.returns-clause-leads
returns-clause-leads g c = c.put_head.ensures.leads

pub returns-clause-cause : goal.returns-clause-cause
returns-clause-cause g c = c.put_head.ensures.cause

pub put_head-requires : goal.put_head-requires
put_head-requires g c = c.requires

pub returns-clause-free : goal.returns-clause-free
returns-clause-free g c = c.put_head.ensures.free

pub returns-clause-units : goal.returns-clause-units
returns-clause-units g c = c.put_head.ensures.units

pub returns-clause-touches : goal.returns-clause-touches
returns-clause-touches g c = c.put_head.ensures.touches

pub returns-clause-fault : goal.returns-clause-fault
returns-clause-fault g c = c.put_head.ensures.fault

pub returns-then-not-is_at-clause-free : goal.returns-then-not-is_at-clause-free
returns-then-not-is_at-clause-free g c = refl

pub returns-then-not-is_at-clause-units : goal.returns-then-not-is_at-clause-units
returns-then-not-is_at-clause-units g c = record { used = refl; held = refl }
