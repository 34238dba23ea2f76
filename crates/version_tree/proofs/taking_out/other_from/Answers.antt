use Rattle.std.proofs.lemmas.Result.{IfErr-weaker, on_ok_weaker, IfOk-weaker}
use Rattle.versions.proofs.Results.{at_this}
use Rattle.version_tree.specs.Links.{IsWalkFault, IsWalkedFrom}
use Rattle.version_tree.specs.declared.links.Stored.{Stored}
use Rattle.version_tree.proofs.ReadPlaces.{some_and}
use Rattle.ex_base.proofs.Keeping.{keeps_refl}
use Rattle.ex_base.proofs.Options.{at_some}
use Rattle.std.proofs.Common.{Option, sym, ap, ◌∙◌}
use Rattle.version_tree.specs.Removals.{other_from}
use Rattle.file_bodies.specs.Bodies.{bodies_of}
use Rattle.version_tree.proofs.taking_out.other_from.Goals as goal

pub returns-in-Some-clause-fault : goal.returns-in-Some-clause-fault
returns-in-Some-clause-fault g c = IfErr-weaker c.only_other.result _ _ (λ fault h told.
    some_and c.args.older.now c.in-Some.stored (λ (s : Stored). IsWalkFault (g.V.Ground.geometry c.args.volume.now) (g.V.Ground.image c.args.volume.now) s.place fault) c.in-Some.is (h told)) c.only_other.ensures.fault

pub returns-in-Some-clause-walk : goal.returns-in-Some-clause-walk
returns-in-Some-clause-walk g c = on_ok_weaker c.only_other.result (λ h told.
    at_this c.args.older.now c.in-Some.stored (λ (s : Stored). IsWalkedFrom (g.V.Ground.geometry c.args.volume.now) (g.V.Ground.image c.args.volume.now) s.place) c.in-Some.is (h told)) c.only_other.ensures.walk

pub returns-in-None-clause-sound : goal.returns-in-None-clause-sound
returns-in-None-clause-sound g c = tt

pub returns-in-None-clause-fault : goal.returns-in-None-clause-fault
returns-in-None-clause-fault g c = tt

pub returns-in-None-clause-kept : goal.returns-in-None-clause-kept
returns-in-None-clause-kept g c = keeps_refl g.V.Ground c.args.volume.now

pub returns-in-None-clause-cause : goal.returns-in-None-clause-cause
returns-in-None-clause-cause g c = tt

pub returns-in-Some-clause-kept : goal.returns-in-Some-clause-kept
returns-in-Some-clause-kept g c = c.only_other.ensures.kept

pub returns-in-Some-clause-cause : goal.returns-in-Some-clause-cause
returns-in-Some-clause-cause g c = c.only_other.ensures.cause

pub only_other-requires : goal.only_other-requires
only_other-requires g c = c.requires

pub returns-in-Some-clause-sound : goal.returns-in-Some-clause-sound
returns-in-Some-clause-sound g c = IfErr-weaker c.only_other.result _ _ (λ fault h damage told index stand readable.
    h damage told index _ (at_some c.args.older.now c.in-Some.stored _ c.in-Some.is stand).has readable) c.only_other.ensures.sound

pub returns-in-Some-clause-other : goal.returns-in-Some-clause-other
returns-in-Some-clause-other g c = IfOk-weaker c.only_other.result _ _ (λ other h told index stand.
    h told index _ (at_some c.args.older.now c.in-Some.stored _ c.in-Some.is stand).has
    ∙ sym (ap (λ (o : Option Stored). other_from (bodies_of (g.V.Ground.image c.args.volume.now) index) c.args.gone o) c.in-Some.is)) c.only_other.ensures.other
