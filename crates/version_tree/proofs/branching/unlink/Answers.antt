use Rattle.std.proofs.Common.{Option, refl, sym, subst}
use Rattle.std.specs.Prelude.{IsSome}
use Rattle.std.proofs.lemmas.Result.{on_ok_weaker, IfErr-weaker}
use Rattle.ex_base.specs.declared.names.Place.{Place}
use Rattle.object_records.specs.declared.Head.{Head}
use Rattle.version_tree.specs.Bodies.{with_head}
use Rattle.version_tree.specs.Copies.{IsHead}
use Rattle.versions.specs.Put.{PutsRecord}
use Rattle.version_tree.proofs.Copying.{alone_fits, not_linked, unlinked_one}
use Rattle.version_tree.proofs.branching.unlink.Goals as goal

pub returns-in-None-clause-unlinked : goal.returns-in-None-clause-unlinked
returns-in-None-clause-unlinked g c = λ told index is v. not_linked g.V.Ground c.args.volume.now index c.args.was.now is c.in-None.is v

pub returns-in-Some-clause-unlinked : goal.returns-in-Some-clause-unlinked
returns-in-Some-clause-unlinked g c = on_ok_weaker c.put_head.result (λ put told index is v.
    unlinked_one g.V.Ground c.args.volume.now c.put_head.new.volume index c.args.was.now is (subst (λ (o : Option Place). IsSome o) (sym c.in-Some.is) refl) v
    (subst (λ (h : Head). PutsRecord g.V.Ground c.args.volume.now c.put_head.new.volume index c.args.was.now.place c.args.was.now.body.items (with_head h is)) c.newer_less.ensures (put told index is v.has v.spelled))) c.put_head.ensures.put

pub returns-in-Some-clause-sound : goal.returns-in-Some-clause-sound
returns-in-Some-clause-sound g c = IfErr-weaker c.put_head.result _ _ (λ fault h damage told index is v.
    h damage told index is v.has v.spelled (subst (λ (h : Head). IsHead h) (sym c.newer_less.ensures) (alone_fits g.V.Ground c.args.volume.now index c.args.was.now is v))) c.put_head.ensures.sound

pub returns-in-None-clause-sound : goal.returns-in-None-clause-sound
returns-in-None-clause-sound g c = tt

pub returns-in-None-clause-fault : goal.returns-in-None-clause-fault
returns-in-None-clause-fault g c = tt

pub returns-in-None-clause-leads : goal.returns-in-None-clause-leads
returns-in-None-clause-leads g c = g.V.Ground.leads_refl c.args.volume.now

pub returns-in-None-clause-cause : goal.returns-in-None-clause-cause
returns-in-None-clause-cause g c = tt

pub returns-in-Some-clause-leads : goal.returns-in-Some-clause-leads
returns-in-Some-clause-leads g c = c.put_head.ensures.leads

pub returns-in-Some-clause-cause : goal.returns-in-Some-clause-cause
returns-in-Some-clause-cause g c = c.put_head.ensures.cause

pub put_head-requires : goal.put_head-requires
put_head-requires g c = c.requires

pub returns-in-Some-clause-free : goal.returns-in-Some-clause-free
returns-in-Some-clause-free g c = c.put_head.ensures.free

pub returns-in-Some-clause-units : goal.returns-in-Some-clause-units
returns-in-Some-clause-units g c = c.put_head.ensures.units

pub returns-in-Some-clause-touches : goal.returns-in-Some-clause-touches
returns-in-Some-clause-touches g c = c.put_head.ensures.touches

pub returns-in-Some-clause-fault : goal.returns-in-Some-clause-fault
returns-in-Some-clause-fault g c = c.put_head.ensures.fault

pub returns-in-None-clause-free : goal.returns-in-None-clause-free
returns-in-None-clause-free g c = refl

pub returns-in-None-clause-units : goal.returns-in-None-clause-units
returns-in-None-clause-units g c = record { used = refl; held = refl }
