use Rattle.std.proofs.Common.{Option, refl, sym, subst}
use Rattle.std.proofs.lemmas.Result.{on_ok_weaker, IfErr-weaker}
use Rattle.ex_base.specs.declared.names.Place.{Place}
use Rattle.version_tree.specs.Copies.{IsNamed}
use Rattle.version_tree.specs.Removals.{NamesStored}
use Rattle.version_tree.proofs.Copying.{turned_head}
use Rattle.version_tree.proofs.TakenOut.{none_named, one_named}
use Rattle.version_tree.proofs.taking_out.name_newer.Goals as goal

pub returns-in-None-clause-named : goal.returns-in-None-clause-named
returns-in-None-clause-named g c = λ told index stands.
    subst (λ (n : Option Place). NamesStored g.V.Ground c.args.volume.now c.args.volume.now index c.args.stored.now n) (sym c.in-None.is)
    (none_named g.V.Ground c.args.volume.now index c.args.stored.now stands)

pub returns-in-Some-clause-named : goal.returns-in-Some-clause-named
returns-in-Some-clause-named g c = on_ok_weaker c.put_head.result (λ put told index stands.
    subst (λ (n : Option Place). NamesStored g.V.Ground c.args.volume.now c.put_head.new.volume index c.args.stored.now n) (sym c.in-Some.is)
    (one_named g.V.Ground c.args.volume.now c.put_head.new.volume index c.args.stored.now c.in-Some.at _ refl stands (put told index stands.is stands.has stands.spelled))) c.put_head.ensures.put

pub returns-in-Some-clause-sound : goal.returns-in-Some-clause-sound
returns-in-Some-clause-sound g c = IfErr-weaker c.put_head.result _ _ (λ fault h damage told index frozen named.
    h damage told index frozen.stands.is frozen.stands.has frozen.stands.spelled
    (turned_head g.V.Ground c.args.volume.now index c.args.stored.now c.in-Some.at frozen (subst IsNamed c.in-Some.is named))) c.put_head.ensures.sound

pub returns-in-None-clause-sound : goal.returns-in-None-clause-sound
returns-in-None-clause-sound g c = tt

pub returns-in-None-clause-fault : goal.returns-in-None-clause-fault
returns-in-None-clause-fault g c = tt

pub returns-in-None-clause-leads : goal.returns-in-None-clause-leads
returns-in-None-clause-leads g c = g.V.Ground.leads_refl c.args.volume.now

pub returns-in-None-clause-cause : goal.returns-in-None-clause-cause
returns-in-None-clause-cause g c = tt

pub returns-in-Some-clause-leads : goal.returns-in-Some-clause-leads
returns-in-Some-clause-leads g c = c.put_head.ensures.leads

pub returns-in-Some-clause-cause : goal.returns-in-Some-clause-cause
returns-in-Some-clause-cause g c = c.put_head.ensures.cause

pub put_head-requires : goal.put_head-requires
put_head-requires g c = c.requires

pub returns-in-Some-clause-free : goal.returns-in-Some-clause-free
returns-in-Some-clause-free g c = c.put_head.ensures.free

pub returns-in-Some-clause-units : goal.returns-in-Some-clause-units
returns-in-Some-clause-units g c = c.put_head.ensures.units

pub returns-in-Some-clause-touches : goal.returns-in-Some-clause-touches
returns-in-Some-clause-touches g c = c.put_head.ensures.touches

pub returns-in-Some-clause-fault : goal.returns-in-Some-clause-fault
returns-in-Some-clause-fault g c = c.put_head.ensures.fault

pub returns-in-None-clause-free : goal.returns-in-None-clause-free
returns-in-None-clause-free g c = refl

pub returns-in-None-clause-units : goal.returns-in-None-clause-units
returns-in-None-clause-units g c = record { used = refl; held = refl }
