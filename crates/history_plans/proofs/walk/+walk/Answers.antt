use Rattle.std.proofs.Common.{◌≡◌, ◌≤◌, ◌-◌, List, get_or, subst, sym, ap, ◌∙◌, arith}
use Rattle.std.proofs.lemmas.Result.{on_ok_weaker, IfErr-weaker}
use Rattle.ex_base.specs.declared.geometry.Geometry.{Geometry}
use Rattle.trees.specs.Node.{pairs_on}
use Rattle.trees.specs.Rows.{parts_of}
use Rattle.trees.specs.Trees.{HasSize, IsNamed}
use Rattle.trees.proofs.Reading.{no_part}
use Rattle.history_plans.proofs.Walking.{next_tree, node_here, shows_on, trees_below, walk_done, walk_leaf, walk_more, walk_start, walk_known, tree_of_leaf}
use Rattle.ex_base.proofs.Handed.{cause_after}
use Rattle.ex_base.proofs.Keeping.{keeps_on, keeps_refl}
use Rattle.ex_base.specs.Area.{NamesLeaf}
use Rattle.ex_base.specs.Sizes.{leaf_bytes}
use Rattle.history_plans.proofs.walk.+walk.Goals as goal

pub returns-then-level-eq0-clause-walked : goal.returns-then-level-eq0-clause-walked
returns-then-level-eq0-clause-walked g t c =
    on_ok_weaker c.leave_leaf.result (λ leaves told units shows closed named.
    walk_leaf g.V.Ground (g.V.Ground.geometry c.args.volume.now) units c.args.level c.args.tree.page.0 c.args.tree.size c.args.pieces.now c.leave_leaf.new.pieces c.if-level-eq0.true leaves c.leave_leaf.ensures.nodes closed) c.leave_leaf.ensures.leaves

pub returns-in-Err-clause-sound : goal.returns-in-Err-clause-sound
returns-in-Err-clause-sound g t c = λ damage told units shows named sized.
    let some : 1 ≤ c.args.level = omega arith in
    let h = node_here g.V.Ground (g.V.Ground.geometry c.args.volume.now) units (g.V.Ground.image c.args.volume.now) c.args.level c.args.tree.page.0 some shows named in
    c.in-Err.ensures.sound damage told h.0 h.1.0 h.1.1

pub returns-in-Err-walk-clause-sound : goal.returns-in-Err-walk-clause-sound
returns-in-Err-walk-clause-sound g t c = λ damage told units shows named sized.
    let b = g.V.Ground in
    let old = c.args.volume.now in
    let k = c.in-Ok.ensures.kept in
    let k2 = c.loop-child.invariant.kept in
    let some : 1 ≤ c.args.level = omega arith in
    let row_is : c.deref-child-items.result.now ≡ parts_of 0 (pairs_on (units c.args.tree.page.0)) =
    c.deref-child-items.ensures.value ∙ c.in-Ok.ensures.found told ∙ ap (λ (bytes : List _). parts_of 0 (pairs_on bytes)) (sym (shows c.args.tree.page.0 c.in-Ok.ensures.area)) in
    let trees = trees_below b (b.geometry old) units c.args.level c.args.tree.page.0 c.args.tree.size c.deref-child-items.result.now some named sized row_is in
    let next = next_tree b (b.geometry old) units (c.args.level - 1) c.deref-child-items.result.now c.loop-child.child-index c.loop-child-test.true trees in
    let geo : b.geometry c.loop-child.volume ≡ b.geometry old = b.leads_geometry c.children.new.volume c.loop-child.volume k2.leads ∙ b.leads_geometry old c.children.new.volume k.leads in
    c.in-Err-walk.ensures.sound damage (b.leads_told c.children.new.volume c.loop-child.volume k2.leads (b.leads_told old c.children.new.volume k.leads told)) units
    (shows_on b units c.children.new.volume c.loop-child.volume k2 (shows_on b units old c.children.new.volume k shows))
    (subst (λ (x : Geometry). IsNamed x units (c.args.level - 1) (get_or c.deref-child-items.result.now c.loop-child.child-index no_part).page.0) (sym geo) next.0)
    (subst (λ (x : Geometry). HasSize x units (c.args.level - 1) (get_or c.deref-child-items.result.now c.loop-child.child-index no_part).page.0 (get_or c.deref-child-items.result.now c.loop-child.child-index no_part).size) (sym geo) next.1)

pub loop-child-preserved : goal.loop-child-preserved
loop-child-preserved g t c =
    walk_more g.V.Ground c.children.new.volume c.loop-child.volume c.walk.new.volume c.args.level c.deref-child-items.result.now c.loop-child.child-index c.args.pieces.now c.loop-child.pieces c.walk.new.pieces
    c.loop-child-test.true c.loop-child.invariant c.in-Ok-walk.ensures.kept (λ told units shows closed named. c.in-Ok-walk.ensures.walked told units shows closed named)

pub returns-in-Ok-add_node-clause-walked : goal.returns-in-Ok-add_node-clause-walked
returns-in-Ok-add_node-clause-walked g t c = λ told units shows closed named.
    let b = g.V.Ground in
    let old = c.args.volume.now in
    let k = c.in-Ok.ensures.kept in
    let some : 1 ≤ c.args.level = omega arith in
    let row_is : c.deref-child-items.result.now ≡ parts_of 0 (pairs_on (units c.args.tree.page.0)) =
    c.deref-child-items.ensures.value ∙ c.in-Ok.ensures.found told ∙ ap (λ (bytes : List _). parts_of 0 (pairs_on bytes)) (sym (shows c.args.tree.page.0 c.in-Ok.ensures.area)) in
    walk_done b c.children.new.volume c.loop-child.volume (b.geometry old) units c.args.level c.args.tree.page.0 c.args.tree.size c.deref-child-items.result.now c.loop-child.child-index c.args.pieces.now c.loop-child.pieces c.add_node.new.self
    some (omega arith) (sym (b.leads_geometry old c.children.new.volume k.leads)) c.loop-child.invariant (b.leads_told old c.children.new.volume k.leads told) (shows_on b units old c.children.new.volume k shows) closed named row_is
    c.in-Ok-add_node.ensures.leaves c.in-Ok-add_node.ensures.nodes

pub returns-then-level-eq0-clause-kept : goal.returns-then-level-eq0-clause-kept
returns-then-level-eq0-clause-kept g t c = keeps_refl g.V.Ground c.args.volume.now

pub children-requires : goal.children-requires
children-requires g t c = c.requires

pub returns-in-Err-clause-walked : goal.returns-in-Err-clause-walked
returns-in-Err-clause-walked g t c = tt

pub returns-in-Err-clause-kept : goal.returns-in-Err-clause-kept
returns-in-Err-clause-kept g t c = c.in-Err.ensures.kept

pub returns-in-Err-clause-cause : goal.returns-in-Err-clause-cause
returns-in-Err-clause-cause g t c = c.in-Err.ensures.cause

pub loop-child-init : goal.loop-child-init
loop-child-init g t c = walk_start g.V.Ground c.children.new.volume c.args.level c.deref-child-items.result.now c.args.pieces.now

pub returns-in-Err-walk-clause-walked : goal.returns-in-Err-walk-clause-walked
returns-in-Err-walk-clause-walked g t c = tt

pub returns-in-Err-walk-clause-kept : goal.returns-in-Err-walk-clause-kept
returns-in-Err-walk-clause-kept g t c = keeps_on g.V.Ground c.args.volume.now c.loop-child.volume c.walk.new.volume (keeps_on g.V.Ground c.args.volume.now c.children.new.volume c.loop-child.volume c.in-Ok.ensures.kept c.loop-child.invariant.kept) c.in-Err-walk.ensures.kept

pub returns-in-Err-walk-clause-cause : goal.returns-in-Err-walk-clause-cause
returns-in-Err-walk-clause-cause g t c =
    let leads = g.V.Ground.leads_trans c.args.volume.now c.children.new.volume c.loop-child.volume c.in-Ok.ensures.kept.leads c.loop-child.invariant.kept.leads in
    cause_after g.V.Ground c.args.volume.now c.loop-child.volume leads c.walk.new.volume c.in-Err-walk.fault c.in-Err-walk.ensures.cause

pub returns-in-Ok-add_node-clause-sound : goal.returns-in-Ok-add_node-clause-sound
returns-in-Ok-add_node-clause-sound g t c = tt

pub returns-in-Ok-add_node-clause-kept : goal.returns-in-Ok-add_node-clause-kept
returns-in-Ok-add_node-clause-kept g t c = keeps_on g.V.Ground c.args.volume.now c.children.new.volume c.loop-child.volume c.in-Ok.ensures.kept c.loop-child.invariant.kept

pub returns-in-Ok-add_node-clause-cause : goal.returns-in-Ok-add_node-clause-cause
returns-in-Ok-add_node-clause-cause g t c = tt

pub returns-clause-walked : goal.returns-clause-walked
returns-clause-walked g t c = tt

pub returns-clause-sound : goal.returns-clause-sound
returns-clause-sound g t c = λ damage. absurd damage

pub returns-clause-kept : goal.returns-clause-kept
returns-clause-kept g t c = keeps_on g.V.Ground c.args.volume.now c.children.new.volume c.loop-child.volume c.in-Ok.ensures.kept c.loop-child.invariant.kept

pub returns-clause-cause : goal.returns-clause-cause
returns-clause-cause g t c = tt

pub returns-then-has_node-clause-sound : goal.returns-then-has_node-clause-sound
returns-then-has_node-clause-sound g t c = tt

pub returns-then-has_node-clause-kept : goal.returns-then-has_node-clause-kept
returns-then-has_node-clause-kept g t c = keeps_refl g.V.Ground c.args.volume.now

pub returns-then-has_node-clause-cause : goal.returns-then-has_node-clause-cause
returns-then-has_node-clause-cause g t c = tt

pub geometry-requires : goal.geometry-requires
geometry-requires g t c = record { ready = c.requires }

pub returns-then-level-eq0-clause-sound : goal.returns-then-level-eq0-clause-sound
returns-then-level-eq0-clause-sound g t c = IfErr-weaker c.leave_leaf.result _ _ (λ fault never damage told units shows named sized.
    let leaf = tree_of_leaf g.V.Ground (g.V.Ground.geometry c.args.volume.now) units c.args.level c.args.tree.page.0 c.args.tree.size c.if-level-eq0.true named sized in
    never damage (subst (λ (x : Geometry). NamesLeaf x c.args.tree.page.0) (sym c.geometry.ensures) leaf.0) (subst (λ (x : Geometry). c.args.tree.size ≤ leaf_bytes x) (sym c.geometry.ensures) leaf.1)) c.leave_leaf.ensures.sound

pub returns-then-has_node-clause-walked : goal.returns-then-has_node-clause-walked
returns-then-has_node-clause-walked g t c = λ told units shows closed named.
    walk_known g.V.Ground (g.V.Ground.geometry c.args.volume.now) units c.args.level c.args.tree.page.0 c.args.tree.size c.args.pieces.now (omega (arith, c.if-level-eq0.false)) (c.has_node.ensures.0 c.if-has_node.true) closed named

pub overflow_sub-level : goal.overflow_sub-level
overflow_sub-level g t c = omega (arith, c.if-level-eq0.false)

pub walk-requires : goal.walk-requires
walk-requires g t c = λ κs le. (
  omega (arith, c.decreases, c.if-level-eq0.false),
  (
    le,
    g.V.Ground.leads_ready c.args.volume.now c.loop-child.volume (g.V.Ground.leads_trans c.args.volume.now c.children.new.volume c.loop-child.volume c.in-Ok.ensures.kept.leads c.loop-child.invariant.kept.leads) c.requires,
  ),
)

pub loop-child-smaller : goal.loop-child-smaller
loop-child-smaller g t c = omega (arith, c.loop-child-test.true)
