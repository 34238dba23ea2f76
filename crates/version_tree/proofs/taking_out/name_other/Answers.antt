use Rattle.std.proofs.Common.{ap, subst, ◌∙◌, refl}
use Rattle.std.proofs.lemmas.Result.{on_ok_weaker, IfErr-weaker}
use Rattle.ex_base.proofs.Options.{at_some}
use Rattle.version_tree.specs.Links.{StoredAt}
use Rattle.version_tree.specs.Removals.{other_from}
use Rattle.version_tree.proofs.TakenOut.{named_other, none_other}
use Rattle.version_tree.proofs.ReadPlaces.{some_and}
use Rattle.version_tree.proofs.taking_out.name_other.Goals as goal

pub returns-in-None-clause-named : goal.returns-in-None-clause-named
returns-in-None-clause-named g c = λ told index rows link gone file at stand is.
    none_other g.V.Ground c.args.volume.now index rows link gone file (subst (StoredAt rows link) c.in-None.is at)

pub returns-in-Some-clause-named : goal.returns-in-Some-clause-named
returns-in-Some-clause-named g c = on_ok_weaker c.name_newer.result (λ h told index rows link gone file at stand is.
    named_other g.V.Ground c.args.volume.now c.name_newer.new.volume index rows link gone c.in-Some.stored c.args.other (subst (StoredAt rows link) c.in-Some.is at) (is ∙ ap (other_from rows gone) c.in-Some.is)
    (h told index (at_some c.args.older.now c.in-Some.stored _ c.in-Some.is stand))) c.name_newer.ensures.named

pub returns-in-Some-clause-sound : goal.returns-in-Some-clause-sound
returns-in-Some-clause-sound g c = IfErr-weaker c.name_newer.result _ _ (λ fault h damage told index frozen named.
    h damage told index (at_some c.args.older.now c.in-Some.stored _ c.in-Some.is frozen) named) c.name_newer.ensures.sound

pub returns-in-Some-clause-fault : goal.returns-in-Some-clause-fault
returns-in-Some-clause-fault g c = IfErr-weaker c.name_newer.result _ _ (λ fault h told. some_and c.args.older.now c.in-Some.stored _ c.in-Some.is (h told)) c.name_newer.ensures.fault

pub returns-in-None-clause-sound : goal.returns-in-None-clause-sound
returns-in-None-clause-sound g c = tt

pub returns-in-None-clause-fault : goal.returns-in-None-clause-fault
returns-in-None-clause-fault g c = tt

pub returns-in-None-clause-leads : goal.returns-in-None-clause-leads
returns-in-None-clause-leads g c = g.V.Ground.leads_refl c.args.volume.now

pub returns-in-None-clause-cause : goal.returns-in-None-clause-cause
returns-in-None-clause-cause g c = tt

pub returns-in-Some-clause-leads : goal.returns-in-Some-clause-leads
returns-in-Some-clause-leads g c = c.name_newer.ensures.leads

pub returns-in-Some-clause-cause : goal.returns-in-Some-clause-cause
returns-in-Some-clause-cause g c = c.name_newer.ensures.cause

pub name_newer-requires : goal.name_newer-requires
name_newer-requires g c = c.requires

pub returns-in-Some-clause-free : goal.returns-in-Some-clause-free
returns-in-Some-clause-free g c = c.name_newer.ensures.free

pub returns-in-Some-clause-units : goal.returns-in-Some-clause-units
returns-in-Some-clause-units g c = c.name_newer.ensures.units

pub returns-in-Some-clause-touches : goal.returns-in-Some-clause-touches
returns-in-Some-clause-touches g c = c.name_newer.ensures.touches

pub returns-in-None-clause-free : goal.returns-in-None-clause-free
returns-in-None-clause-free g c = refl

pub returns-in-None-clause-units : goal.returns-in-None-clause-units
returns-in-None-clause-units g c = record { used = refl; held = refl }
