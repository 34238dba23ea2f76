use Rattle.std.proofs.Common.{subst, refl}
use Rattle.std.proofs.lemmas.Result.{on_ok_weaker, IfErr-weaker}
use Rattle.ex_base.proofs.Options.{at_some}
use Rattle.version_tree.specs.Links.{StoredAt}
use Rattle.version_tree.proofs.Copying.{none_older, turned_older}
use Rattle.version_tree.proofs.ReadPlaces.{some_and}
use Rattle.version_tree.proofs.freezing.turn_older.Goals as goal

pub returns-in-None-clause-turned : goal.returns-in-None-clause-turned
returns-in-None-clause-turned g c = λ told index rows link file at stand.
    none_older g.V.Ground c.args.volume.now index rows link c.args.from c.args.to file (subst (StoredAt rows link) c.in-None.is at)

pub returns-in-Some-clause-turned : goal.returns-in-Some-clause-turned
returns-in-Some-clause-turned g c = on_ok_weaker c.turn_stored.result (λ h told index rows link file at stand.
    turned_older g.V.Ground c.args.volume.now c.turn_stored.new.volume index rows link c.in-Some.stored c.args.from c.args.to (subst (StoredAt rows link) c.in-Some.is at)
    (h told index (at_some c.args.older.now c.in-Some.stored _ c.in-Some.is stand))) c.turn_stored.ensures.turned

pub returns-in-Some-clause-sound : goal.returns-in-Some-clause-sound
returns-in-Some-clause-sound g c = IfErr-weaker c.turn_stored.result _ _ (λ fault h damage told index frozen named.
    h damage told index (at_some c.args.older.now c.in-Some.stored _ c.in-Some.is frozen) named) c.turn_stored.ensures.sound

pub returns-in-Some-clause-fault : goal.returns-in-Some-clause-fault
returns-in-Some-clause-fault g c = IfErr-weaker c.turn_stored.result _ _ (λ fault h told. some_and c.args.older.now c.in-Some.stored _ c.in-Some.is (h told)) c.turn_stored.ensures.fault

pub returns-in-None-clause-sound : goal.returns-in-None-clause-sound
returns-in-None-clause-sound g c = tt

pub returns-in-None-clause-fault : goal.returns-in-None-clause-fault
returns-in-None-clause-fault g c = tt

pub returns-in-None-clause-leads : goal.returns-in-None-clause-leads
returns-in-None-clause-leads g c = g.V.Ground.leads_refl c.args.volume.now

pub returns-in-None-clause-cause : goal.returns-in-None-clause-cause
returns-in-None-clause-cause g c = tt

pub returns-in-Some-clause-leads : goal.returns-in-Some-clause-leads
returns-in-Some-clause-leads g c = c.turn_stored.ensures.leads

pub returns-in-Some-clause-cause : goal.returns-in-Some-clause-cause
returns-in-Some-clause-cause g c = c.turn_stored.ensures.cause

pub turn_stored-requires : goal.turn_stored-requires
turn_stored-requires g c = c.requires

pub returns-in-Some-clause-free : goal.returns-in-Some-clause-free
returns-in-Some-clause-free g c = c.turn_stored.ensures.free

pub returns-in-Some-clause-units : goal.returns-in-Some-clause-units
returns-in-Some-clause-units g c = c.turn_stored.ensures.units

pub returns-in-Some-clause-touches : goal.returns-in-Some-clause-touches
returns-in-Some-clause-touches g c = c.turn_stored.ensures.touches

pub returns-in-None-clause-free : goal.returns-in-None-clause-free
returns-in-None-clause-free g c = refl

pub returns-in-None-clause-units : goal.returns-in-None-clause-units
returns-in-None-clause-units g c = record { used = refl; held = refl }
