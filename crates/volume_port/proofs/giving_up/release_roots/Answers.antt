use Rattle.std.proofs.Common.{◌+◌, List, drop, get_or, subst, arith, ◌∙◌}
use Rattle.std.proofs.lemmas.List.{drop_all, drop_more}
use Rattle.ex_base.specs.declared.names.Area.TheVariants.{Page}
use Rattle.ex_base.specs.declared.names.Root.{Root}
use Rattle.ex_base.proofs.Results.{if_err_handed}
use Rattle.volume_port.specs.Giving.{is_logged}
use Rattle.volume_port.proofs.GivingUp.{LeavesRoots, given_on, later_fault, next_owns, no_root, rest_left}
use Rattle.volume_port.proofs.giving_up.release_roots.Goals as goal

pub returns-clause-released : goal.returns-clause-released
returns-clause-released g c = λ own.
    (subst (λ (rest : List Root). LeavesRoots c.args.pages.now c.args.kept.now c.args.geometry.now (g.D.World.outside c.args.disk.now) c.args.groups.now c.args.units.now c.loop-root.units c.args.roots.now rest)
    (drop_all c.loop-root.root-index c.args.roots.now c.loop-root-test.false) c.loop-root.invariant.left own).1

pub loop-root-preserved : goal.loop-root-preserved
loop-root-preserved g c =
    let outside = g.D.World.outside in
    let roots = c.args.roots.now in
    let place = c.loop-root.root-index in
    let gives = c.loop-root.invariant.gives in
    let more = c.release_root.ensures.gives in
    let left = subst (λ (rest : List Root). LeavesRoots c.args.pages.now c.args.kept.now c.args.geometry.now (outside c.args.disk.now) c.args.groups.now c.args.units.now c.loop-root.units roots rest)
    (drop_more roots place no_root c.loop-root-test.true) c.loop-root.invariant.left in
    record {
      gives = given_on (is_logged c.args.pages.now c.args.kept.now) c.args.geometry.now (outside c.args.disk.now) (outside c.loop-root.disk) (outside c.release_root.new.disk)
          c.args.units.now c.loop-root.units c.release_root.new.units c.args.groups.now c.loop-root.groups c.release_root.new.groups gives more;
      left = rest_left c.args.pages.now c.args.kept.now c.args.geometry.now (outside c.args.disk.now) (outside c.loop-root.disk) c.args.groups.now c.loop-root.groups c.args.units.now c.loop-root.units roots gives
          (get_or roots place no_root) (drop (place + 1) roots) left c.release_root.new.units c.in_ok-release_root.ensures.released;
      refs = λ unit. omega (arith, c.loop-root.invariant.refs unit, c.release_root.ensures.refs unit);
      quiet = λ same. c.in_ok-release_root.ensures.quiet (omega (arith, same, gives.free Page, more.free Page)) ∙ c.loop-root.invariant.quiet (omega (arith, same, gives.free Page, more.free Page));
    }

pub returns-in_err-release_root-clause-sound : goal.returns-in_err-release_root-clause-sound
returns-in_err-release_root-clause-sound g c =
    let outside = g.D.World.outside in
    let roots = c.args.roots.now in
    let place = c.loop-root.root-index in
    let left = subst (λ (rest : List Root). LeavesRoots c.args.pages.now c.args.kept.now c.args.geometry.now (outside c.args.disk.now) c.args.groups.now c.args.units.now c.loop-root.units roots rest)
    (drop_more roots place no_root c.loop-root-test.true) c.loop-root.invariant.left in
    if_err_handed c.from_residual.result _ c.in_err-release_root.field-0.0 c.from_residual.ensures.1 (λ damage own.
    c.in_err-release_root.ensures.sound damage
    (next_owns c.args.pages.now c.args.kept.now c.args.geometry.now (outside c.args.disk.now) (outside c.loop-root.disk) c.args.groups.now c.loop-root.groups c.args.units.now c.loop-root.units roots c.loop-root.invariant.gives
    (get_or roots place no_root) (drop (place + 1) roots) left own))

pub returns-in_err-release_root-clause-fault : goal.returns-in_err-release_root-clause-fault
returns-in_err-release_root-clause-fault g c =
    let outside = g.D.World.outside in
    let gives = c.loop-root.invariant.gives in
    if_err_handed c.from_residual.result _ c.in_err-release_root.field-0.0 c.from_residual.ensures.1
    (later_fault c.args.geometry.now (outside c.args.disk.now) (outside c.loop-root.disk) c.args.groups.now c.loop-root.groups c.args.roots.now c.loop-root.root-index c.loop-root-test.true
    gives.only.nothing.disk gives.told c.in_err-release_root.field-0.0 c.in_err-release_root.ensures.fault)
