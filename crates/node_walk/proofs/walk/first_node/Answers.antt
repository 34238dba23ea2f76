use Rattle.std.proofs.Common.{rules}
use Rattle.ex_base.proofs.Options.{none_is}
use Rattle.node_walk.specs.Walk.{IsNodeOn}
use Rattle.node_walk.proofs.Facts.{same_part}
use Rattle.node_walk.proofs.Levels.{not_named, not_read}
use Rattle.node_walk.proofs.walk.first_node.Goals as goal

pub returns-then-node-level-clause-bad : goal.returns-then-node-level-clause-bad
returns-then-node-level-clause-bad g c = λ part is told bytes shows.
    let on : IsNodeOn c.args.geometry.now.fan (g.P.Ground.image c.args.pages.now c.args.page.0) c.in-Some.node.met c.in-Some.node.below.items = search rules in
    (same_part _ _ is, λ named. absurd (not_named c.args.geometry.now bytes (g.P.Ground.image c.args.pages.now) c.args.level c.args.page.0 c.in-Some.node.met c.in-Some.node.below.items c.requires.level shows on c.if-node-level.true named))

pub returns-in_default-clause-bad : goal.returns-in_default-clause-bad
returns-in_default-clause-bad g c = λ part is told bytes shows. (
  same_part _ _ is,
  λ named. absurd (not_read c.args.geometry.now bytes (g.P.Ground.image c.args.pages.now) c.args.level c.args.page.0 c.requires.level shows
      (none_is c.in-Ok.found c.in_default.not-Some (c.in-Ok.ensures.none told)) named),
)
