use Rattle.std.proofs.Common.{rules, ◌∙◌, List, subst, sym, ap}
use Rattle.std.proofs.lemmas.Result.{IfOk-weaker, IfErr-weaker}
use Rattle.ex_base.specs.declared.names.Root.{Root}
use Rattle.packing.specs.Loop.{AreRootsIn, ReadsAtRest}
use Rattle.packing.proofs.Counted.{counted_need, counted_roots, sound_roots}
use Rattle.packing.proofs.Reading.{keeps_none, keeps_of}
use Rattle.packing.proofs.volume.pages_needed.Goals as goal

pub returns-in_err-roots-clause-keeps : goal.returns-in_err-roots-clause-keeps
returns-in_err-roots-clause-keeps g c = keeps_none (g.D.World.outside c.args.disk.now) c.args.volume.now c.requires.ready

pub returns-clause-keeps : goal.returns-clause-keeps
returns-clause-keeps g c =
    let l = c.high_nodes.ensures.kept.leads in
    subst (λ (d : g.row.D.Denot). ReadsAtRest (g.D.World.outside c.args.disk.now) (g.D.World.outside d) c.args.volume.now (record c.args.volume.now { groups = c.high_nodes.new.blocks.groups.now })) (search rules)
    (keeps_of (g.D.World.outside c.args.disk.now) (g.D.World.outside c.high_nodes.new.blocks.disk.now) c.args.volume.now c.high_nodes.new.blocks.groups.now l.only l.kinds l.sizes l.behind l.told c.requires.ready)

pub returns-clause-need : goal.returns-clause-need
returns-clause-need g c = IfOk-weaker c.high_nodes.result _ _
    (λ need count d image rests are.
    let roots = c.deref.ensures.value ∙ c.in_ok-roots.ensures in
    let of_volume = subst (AreRootsIn d.volume) (sym roots) are in
    counted_need (g.D.World.outside c.args.disk.now) c.args.volume.now d image rests c.args.dense c.deref.result.now of_volume need
    (count (rests.told.1, rests.told.2)) ∙ ap (λ (rs : List Root). counted_roots d image c.args.dense rs) roots) c.high_nodes.ensures.count

pub returns-clause-sound : goal.returns-clause-sound
returns-clause-sound g c = IfErr-weaker c.high_nodes.result _ _
    (λ fault never damage d image rests are.
    let roots = c.deref.ensures.value ∙ c.in_ok-roots.ensures in
    sound_roots (g.D.World.outside c.args.disk.now) c.args.volume.now d image rests c.deref.result.now (subst (AreRootsIn d.volume) (sym roots) are)
    (λ whole. never (rests.told.1, rests.told.2) whole damage)) c.high_nodes.ensures.sound
