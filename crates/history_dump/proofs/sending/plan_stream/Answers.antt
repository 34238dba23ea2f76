use Rattle.std.proofs.Common.{rules, [], refl, subst}
use Rattle.std.proofs.lemmas.Result.{IfOk-weaker, IfErr-weaker}
use Rattle.history_dump.specs.Sending.{KeepsRest}
use Rattle.history_dump.proofs.PortShown.{keeps_of, rest_shows}
use Rattle.history_dump.proofs.sending.plan_stream.Goals as goal

pub returns-clause-keeps : goal.returns-clause-keeps
returns-clause-keeps g c =
    let l = c.make-made.ensures.kept.leads in
    subst (λ (d : g.row.D.Denot). KeepsRest (g.D.World.outside c.args.disk.now) (g.D.World.outside d) c.args.volume.now (record c.args.volume.now { groups = c.make-made.new.volume.groups.now })) (search rules)
    (keeps_of (g.D.World.outside c.args.disk.now) (g.D.World.outside c.make-made.new.volume.disk.now) c.args.volume.now c.make-made.new.volume.groups.now l.only l.kinds l.sizes l.behind l.told c.requires.ready)

pub returns-clause-plans : goal.returns-clause-plans
returns-clause-plans g c = IfOk-weaker c.make-made.result _ _
    (λ dumper plans d image rests.
    let w = plans (rests.told.1, rests.told.2) [] d.volume
    (rest_shows _ _ (g.D.World.outside c.args.disk.now) c.args.volume.now (record { geometry = refl; unit = refl; image = refl; held = refl }) d image rests) in
    (w.0, w.1.gives)) c.make-made.ensures.plans

pub returns-clause-sound : goal.returns-clause-sound
returns-clause-sound g c = IfErr-weaker c.make-made.result _ _
    (λ fault never damage d image rests.
    never damage (rests.told.1, rests.told.2) [] d.volume
    (rest_shows _ _ (g.D.World.outside c.args.disk.now) c.args.volume.now (record { geometry = refl; unit = refl; image = refl; held = refl }) d image rests)) c.make-made.ensures.sound

pub returns-clause-room : goal.returns-clause-room
returns-clause-room g c = c.make-made.ensures.room

pub returns-then-faults-clause-keeps : goal.returns-then-faults-clause-keeps
returns-then-faults-clause-keeps g c =
    let l = c.make-made.ensures.kept.leads in
    subst (λ (d : g.row.D.Denot). KeepsRest (g.D.World.outside c.args.disk.now) (g.D.World.outside d) c.args.volume.now (record c.args.volume.now { groups = c.make-made.new.volume.groups.now })) (search rules)
    (keeps_of (g.D.World.outside c.args.disk.now) (g.D.World.outside c.make-made.new.volume.disk.now) c.args.volume.now c.make-made.new.volume.groups.now l.only l.kinds l.sizes l.behind l.told c.requires.ready)
