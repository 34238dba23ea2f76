use Rattle.std.proofs.Common.{◌∙◌, ap, subst, ◌≤◌, ◌+◌, ◌*◌, ◌-◌, arith, ◌≡◌, length, inl, inr}
use Rattle.std.proofs.lemmas.List.{nil_from_length}
use Rattle.std.proofs.lemmas.Result.{IfErr-weaker, IfOk-at_ok, on_ok_weaker}
use Rattle.std.specs.Vec.{vec_len}
use Rattle.trees.proofs.Laid.{extends_on, extends_kept}
use Rattle.tree_delete.proofs.OpenLaws.{three_sizes}
use Rattle.trees.specs.Split.{most_pairs}
use Rattle.tree_delete.proofs.Ends.{ends_kept}
use Rattle.tree_delete.proofs.RowLaws.{no_size, no_len, some_len}
use Rattle.ex_base.specs.declared.geometry.Geometry.{Geometry}
use Rattle.ex_base.proofs.Results.{from_ok, if_err_handed, if_ok_from, on_ok_from}
use Rattle.trees.specs.Damage.{IsWalkFault}
use Rattle.trees.proofs.Blame.{walk_back}
use Rattle.tree_delete.specs.Cuts.{all_of, HasSoundEnds}
use Rattle.tree_delete.proofs.Faults.{walk_run}
use Rattle.tree_delete.proofs.TreeLaws.{trimmed_here, trimmed_below}
use Rattle.tree_delete.proofs.rows.+cut_tree.Goals.{then-level-eq0-via-then-level-eq0, then-level-eq0-via-else-level-eq0+then-not-is_empty, then-level-eq0-via-else-level-eq0+else-not-is_empty+then-not-is_empty-2}
use Rattle.tree_delete.specs.Beside.{alone, OpensSound}
use Rattle.tree_delete.proofs.Beside.{beside_up, opens_kept}
use Rattle.ex_base.proofs.Handed.{no_value, not_given, cause_here}
use Rattle.ex_base.proofs.Keeping.{cause_on}
use Rattle.tree_delete.proofs.rows.+cut_tree.Goals as goal

pub returns-then-level-eq0-clause-trimmed : goal.returns-then-level-eq0-clause-trimmed
returns-then-level-eq0-clause-trimmed g t c = λ told l same holds halves have m to_m.
    trimmed_here g.B.Ground c.args.blocks.now c.cut_row.new.blocks c.args.level l m c.args.cut c.in_ok-row.row.items c.in_ok-row.ensures.leads same to_m
    (elim c.then-level-eq0.branch [
      | then-level-eq0-via-then-level-eq0 w ↦ inl w.if-level-eq0.true
      | then-level-eq0-via-else-level-eq0+then-not-is_empty w ↦ inr (omega (arith, some_len (vec_len c.args.cut.left) c.args.cut.left.items (omega (arith, c.args.cut.left.ok.0)) w.if-not-is_empty.ensures))
      | then-level-eq0-via-else-level-eq0+else-not-is_empty+then-not-is_empty-2 w ↦ inr (omega (arith, some_len (vec_len c.args.cut.right) c.args.cut.right.items (omega (arith, c.args.cut.right.ok.0)) w.if-not-is_empty-2.ensures))
    ])
    c.in_ok-row.ensures.roots halves (c.in_ok-row.ensures.left told l same holds)

pub returns-clause-extends : goal.returns-clause-extends
returns-clause-extends g t c =
    on_ok_from c.cut_tree.result _ (λ made is. extends_on g.B.Ground c.args.blocks.now c.cut_below.new.blocks c.cut_tree.new.blocks (extends_kept g.B.Ground c.args.blocks.now c.cut_below.new.blocks c.in_ok-below.ensures.kept) (from_ok c.cut_tree.result made _ is c.cut_tree.ensures.extends))

pub returns-clause-sum : goal.returns-clause-sum
returns-clause-sum g t c =
    let left : length c.args.cut.left.items ≡ 0 = no_len (vec_len c.args.cut.left) c.args.cut.left.items (omega (arith, c.args.cut.left.ok.0)) c.if-not-is_empty.ensures in
    let right : length c.args.cut.right.items ≡ 0 = no_len (vec_len c.args.cut.right) c.args.cut.right.items (omega (arith, c.args.cut.right.ok.0)) c.if-not-is_empty-2.ensures in
    if_ok_from c.cut_tree.result _ (λ made is. omega (arith, IfOk-at_ok _ is c.cut_tree.ensures.sum, c.in_ok-below.ensures.sum, three_sizes c.args.cut, no_size c.args.cut.left.items left, no_size c.args.cut.right.items right))

pub returns-clause-trimmed : goal.returns-clause-trimmed
returns-clause-trimmed g t c =
    let left : length c.args.cut.left.items ≡ 0 = no_len (vec_len c.args.cut.left) c.args.cut.left.items (omega (arith, c.args.cut.left.ok.0)) c.if-not-is_empty.ensures in
    let right : length c.args.cut.right.items ≡ 0 = no_len (vec_len c.args.cut.right) c.args.cut.right.items (omega (arith, c.args.cut.right.ok.0)) c.if-not-is_empty-2.ensures in
    if_ok_from c.cut_tree.result _ (λ made is told l same holds halves have m to_m.
    trimmed_below g.B.Ground c.args.blocks.now c.cut_below.new.blocks c.cut_tree.new.blocks c.args.level l m c.args.cut c.in_ok-below.below made.1.items told same c.if-level-eq0.false c.in_ok-below.ensures.kept (omega arith) holds have c.in_ok-below.ensures.below
    (λ told_b n to_n held half having. IfOk-at_ok _ is c.cut_tree.ensures.trimmed told_b n to_n held half having m to_m))

pub returns-in_err-row-clause-fault : goal.returns-in_err-row-clause-fault
returns-in_err-row-clause-fault g t c =
    if_err_handed c.from_residual.result _ c.in_err-row.field-0.0 c.from_residual.ensures.1
    (λ told. c.in_err-row.ensures.fault told c.args.least (λ high. c.requires.least (elim c.then-level-eq0.branch [
      | then-level-eq0-via-then-level-eq0 w ↦ absurd (omega (arith, w.if-level-eq0.true, high))
      | then-level-eq0-via-else-level-eq0+then-not-is_empty w ↦ omega (arith, some_len (vec_len c.args.cut.left) c.args.cut.left.items (omega (arith, c.args.cut.left.ok.0)) w.if-not-is_empty.ensures)
      | then-level-eq0-via-else-level-eq0+else-not-is_empty+then-not-is_empty-2 w ↦ omega (arith, some_len (vec_len c.args.cut.right) c.args.cut.right.items (omega (arith, c.args.cut.right.ok.0)) w.if-not-is_empty-2.ensures)
    ])))

pub returns-clause-fault : goal.returns-clause-fault
returns-clause-fault g t c =
    IfErr-weaker c.cut_tree.result _ _ (λ f h told.
    walk_run (g.B.Ground.geometry c.args.blocks.now) (g.B.Ground.unit c.args.blocks.now) c.args.level c.args.least c.args.cut f
    (c.in_ok-below.ensures.walk told f
    (walk_back g.B.Ground c.args.blocks.now c.cut_below.new.blocks (c.args.level - 1) (g.B.Ground.geometry c.args.blocks.now).fan (all_of c.in_ok-below.below) f c.in_ok-below.ensures.kept
    (λ told_b. subst (λ k. IsWalkFault (g.B.Ground.geometry c.cut_below.new.blocks) (g.B.Ground.unit c.cut_below.new.blocks) (c.args.level - 1) k (all_of c.in_ok-below.below) f)
    (ap (λ (k : Geometry). k.fan) (c.geometry-fan.ensures ∙ g.B.Ground.leads_geometry c.args.blocks.now c.cut_below.new.blocks c.in_ok-below.ensures.kept.leads)) (h told_b)) told))) c.cut_tree.ensures.fault

pub returns-then-level-eq0-clause-way : goal.returns-then-level-eq0-clause-way
returns-then-level-eq0-clause-way g t c = λ told.
    c.in_ok-row.ensures.way told c.args.least (λ high. c.requires.least (elim c.then-level-eq0.branch [
      | then-level-eq0-via-then-level-eq0 w ↦ absurd (omega (arith, w.if-level-eq0.true, high))
      | then-level-eq0-via-else-level-eq0+then-not-is_empty w ↦ omega (arith, some_len (vec_len c.args.cut.left) c.args.cut.left.items (omega (arith, c.args.cut.left.ok.0)) w.if-not-is_empty.ensures)
      | then-level-eq0-via-else-level-eq0+else-not-is_empty+then-not-is_empty-2 w ↦ omega (arith, some_len (vec_len c.args.cut.right) c.args.cut.right.items (omega (arith, c.args.cut.right.ok.0)) w.if-not-is_empty-2.ensures)
    ]))

pub returns-clause-way : goal.returns-clause-way
returns-clause-way g t c =
    on_ok_weaker c.cut_tree.result (λ way told. c.in_ok-below.ensures.way told
    (ends_kept g.B.Ground c.args.blocks.now c.cut_below.new.blocks (c.args.level - 1) (g.B.Ground.geometry c.args.blocks.now).fan c.in_ok-below.below c.in_ok-below.ensures.kept
    (λ told_b. subst (λ k. HasSoundEnds (g.B.Ground.geometry c.cut_below.new.blocks) (g.B.Ground.unit c.cut_below.new.blocks) (c.args.level - 1) k c.in_ok-below.below)
    (ap (λ (k : Geometry). k.fan) (c.geometry-fan.ensures ∙ g.B.Ground.leads_geometry c.args.blocks.now c.cut_below.new.blocks c.in_ok-below.ensures.kept.leads)) (way told_b)) told)) c.cut_tree.ensures.way

pub returns-clause-few : goal.returns-clause-few
returns-clause-few g t c =
    if_ok_from c.cut_tree.result _ (λ made is. subst (λ (k : Geometry). length made.1.items ≤ 2 * most_pairs k.fan + 4) (g.B.Ground.leads_geometry c.args.blocks.now c.cut_below.new.blocks c.in_ok-below.ensures.kept.leads) (IfOk-at_ok _ is c.cut_tree.ensures.few))

pub returns-then-level-eq0-clause-beside : goal.returns-then-level-eq0-clause-beside
returns-then-level-eq0-clause-beside g t c = λ told.
    c.in_ok-row.ensures.beside told c.args.least (λ high. c.requires.least (elim c.then-level-eq0.branch [
      | then-level-eq0-via-then-level-eq0 w ↦ absurd (omega (arith, w.if-level-eq0.true, high))
      | then-level-eq0-via-else-level-eq0+then-not-is_empty w ↦ omega (arith, some_len (vec_len c.args.cut.left) c.args.cut.left.items (omega (arith, c.args.cut.left.ok.0)) w.if-not-is_empty.ensures)
      | then-level-eq0-via-else-level-eq0+else-not-is_empty+then-not-is_empty-2 w ↦ omega (arith, some_len (vec_len c.args.cut.right) c.args.cut.right.items (omega (arith, c.args.cut.right.ok.0)) w.if-not-is_empty-2.ensures)
    ]))

pub returns-clause-beside : goal.returns-clause-beside
returns-clause-beside g t c =
    let left = nil_from_length c.args.cut.left.items (no_len (vec_len c.args.cut.left) c.args.cut.left.items (omega (arith, c.args.cut.left.ok.0)) c.if-not-is_empty.ensures) in
    let right = nil_from_length c.args.cut.right.items (no_len (vec_len c.args.cut.right) c.args.cut.right.items (omega (arith, c.args.cut.right.ok.0)) c.if-not-is_empty-2.ensures) in
    on_ok_weaker c.cut_tree.result (λ beside told.
    let nodes = c.in_ok-below.ensures.nodes told in
    beside_up (g.B.Ground.geometry c.args.blocks.now) (g.B.Ground.unit c.args.blocks.now) c.args.level c.args.least c.args.cut c.in_ok-below.below (omega (arith, c.if-level-eq0.false)) nodes.0 nodes.1
    (alone left right
    (opens_kept g.B.Ground c.args.blocks.now c.cut_below.new.blocks (c.args.level - 1) (g.B.Ground.geometry c.args.blocks.now).fan c.in_ok-below.below c.in_ok-below.ensures.kept
    (λ told_b. subst (λ k. OpensSound (g.B.Ground.geometry c.cut_below.new.blocks) (g.B.Ground.unit c.cut_below.new.blocks) (c.args.level - 1) k c.in_ok-below.below)
    (ap (λ (k : Geometry). k.fan) (c.geometry-fan.ensures ∙ g.B.Ground.leads_geometry c.args.blocks.now c.cut_below.new.blocks c.in_ok-below.ensures.kept.leads)) (beside told_b)) told))) c.cut_tree.ensures.beside

-- ---- what else is asked and promised

pub returns-in_err-row-clause-low : goal.returns-in_err-row-clause-low
returns-in_err-row-clause-low g t c = no_value c.from_residual.result _ c.in_err-row.field-0.0 c.from_residual.ensures.1

pub returns-in_err-row-clause-sum : goal.returns-in_err-row-clause-sum
returns-in_err-row-clause-sum g t c = no_value c.from_residual.result _ c.in_err-row.field-0.0 c.from_residual.ensures.1

pub returns-in_err-row-clause-sizes : goal.returns-in_err-row-clause-sizes
returns-in_err-row-clause-sizes g t c = no_value c.from_residual.result _ c.in_err-row.field-0.0 c.from_residual.ensures.1

pub returns-in_err-row-clause-few : goal.returns-in_err-row-clause-few
returns-in_err-row-clause-few g t c = no_value c.from_residual.result _ c.in_err-row.field-0.0 c.from_residual.ensures.1

pub returns-in_err-row-clause-trimmed : goal.returns-in_err-row-clause-trimmed
returns-in_err-row-clause-trimmed g t c = no_value c.from_residual.result _ c.in_err-row.field-0.0 c.from_residual.ensures.1

pub returns-in_err-row-clause-extends : goal.returns-in_err-row-clause-extends
returns-in_err-row-clause-extends g t c = not_given c.from_residual.result _ c.in_err-row.field-0.0 c.from_residual.ensures.1

pub returns-in_err-row-clause-leaves : goal.returns-in_err-row-clause-leaves
returns-in_err-row-clause-leaves g t c = not_given c.from_residual.result _ c.in_err-row.field-0.0 c.from_residual.ensures.1

pub returns-in_err-row-clause-pages : goal.returns-in_err-row-clause-pages
returns-in_err-row-clause-pages g t c = not_given c.from_residual.result _ c.in_err-row.field-0.0 c.from_residual.ensures.1

pub returns-in_err-row-clause-way : goal.returns-in_err-row-clause-way
returns-in_err-row-clause-way g t c = not_given c.from_residual.result _ c.in_err-row.field-0.0 c.from_residual.ensures.1

pub returns-in_err-row-clause-beside : goal.returns-in_err-row-clause-beside
returns-in_err-row-clause-beside g t c = not_given c.from_residual.result _ c.in_err-row.field-0.0 c.from_residual.ensures.1

pub returns-in_err-row-clause-leads : goal.returns-in_err-row-clause-leads
returns-in_err-row-clause-leads g t c = c.in_err-row.ensures.leads

pub returns-in_err-row-clause-cause : goal.returns-in_err-row-clause-cause
returns-in_err-row-clause-cause g t c = cause_here (g.B.Ground.faults c.args.blocks.now) (g.B.Ground.faults c.cut_row.new.blocks) c.from_residual.result c.in_err-row.field-0.0 c.from_residual.ensures.1 c.in_err-row.ensures.cause

pub returns-in_err-below-clause-low : goal.returns-in_err-below-clause-low
returns-in_err-below-clause-low g t c = no_value c.from_residual-in_err-below.result _ c.in_err-below.field-0.0 c.from_residual-in_err-below.ensures.1

pub returns-in_err-below-clause-sum : goal.returns-in_err-below-clause-sum
returns-in_err-below-clause-sum g t c = no_value c.from_residual-in_err-below.result _ c.in_err-below.field-0.0 c.from_residual-in_err-below.ensures.1

pub returns-in_err-below-clause-sizes : goal.returns-in_err-below-clause-sizes
returns-in_err-below-clause-sizes g t c = no_value c.from_residual-in_err-below.result _ c.in_err-below.field-0.0 c.from_residual-in_err-below.ensures.1

pub returns-in_err-below-clause-few : goal.returns-in_err-below-clause-few
returns-in_err-below-clause-few g t c = no_value c.from_residual-in_err-below.result _ c.in_err-below.field-0.0 c.from_residual-in_err-below.ensures.1

pub returns-in_err-below-clause-trimmed : goal.returns-in_err-below-clause-trimmed
returns-in_err-below-clause-trimmed g t c = no_value c.from_residual-in_err-below.result _ c.in_err-below.field-0.0 c.from_residual-in_err-below.ensures.1

pub returns-in_err-below-clause-extends : goal.returns-in_err-below-clause-extends
returns-in_err-below-clause-extends g t c = not_given c.from_residual-in_err-below.result _ c.in_err-below.field-0.0 c.from_residual-in_err-below.ensures.1

pub returns-in_err-below-clause-leaves : goal.returns-in_err-below-clause-leaves
returns-in_err-below-clause-leaves g t c = not_given c.from_residual-in_err-below.result _ c.in_err-below.field-0.0 c.from_residual-in_err-below.ensures.1

pub returns-in_err-below-clause-pages : goal.returns-in_err-below-clause-pages
returns-in_err-below-clause-pages g t c = not_given c.from_residual-in_err-below.result _ c.in_err-below.field-0.0 c.from_residual-in_err-below.ensures.1

pub returns-in_err-below-clause-way : goal.returns-in_err-below-clause-way
returns-in_err-below-clause-way g t c = not_given c.from_residual-in_err-below.result _ c.in_err-below.field-0.0 c.from_residual-in_err-below.ensures.1

pub returns-in_err-below-clause-beside : goal.returns-in_err-below-clause-beside
returns-in_err-below-clause-beside g t c = not_given c.from_residual-in_err-below.result _ c.in_err-below.field-0.0 c.from_residual-in_err-below.ensures.1

pub returns-in_err-below-clause-leads : goal.returns-in_err-below-clause-leads
returns-in_err-below-clause-leads g t c = c.cut_below.ensures.kept.leads

pub returns-in_err-below-clause-cause : goal.returns-in_err-below-clause-cause
returns-in_err-below-clause-cause g t c = cause_here (g.B.Ground.faults c.args.blocks.now) (g.B.Ground.faults c.cut_below.new.blocks) c.from_residual-in_err-below.result c.in_err-below.field-0.0 c.from_residual-in_err-below.ensures.1 c.in_err-below.ensures.cause

pub returns-then-level-eq0-clause-cause : goal.returns-then-level-eq0-clause-cause
returns-then-level-eq0-clause-cause g t c = tt

pub returns-then-level-eq0-clause-fault : goal.returns-then-level-eq0-clause-fault
returns-then-level-eq0-clause-fault g t c = tt

pub returns-then-level-eq0-clause-leads : goal.returns-then-level-eq0-clause-leads
returns-then-level-eq0-clause-leads g t c = c.in_ok-row.ensures.leads

pub returns-then-level-eq0-clause-extends : goal.returns-then-level-eq0-clause-extends
returns-then-level-eq0-clause-extends g t c = c.in_ok-row.ensures.extends

pub returns-then-level-eq0-clause-leaves : goal.returns-then-level-eq0-clause-leaves
returns-then-level-eq0-clause-leaves g t c = c.in_ok-row.ensures.leaves

pub returns-then-level-eq0-clause-pages : goal.returns-then-level-eq0-clause-pages
returns-then-level-eq0-clause-pages g t c = c.in_ok-row.ensures.pages

pub returns-clause-leads : goal.returns-clause-leads
returns-clause-leads g t c = g.B.Ground.leads_trans c.args.blocks.now c.cut_below.new.blocks c.cut_tree.new.blocks c.in_ok-below.ensures.kept.leads c.cut_tree.ensures.leads

pub returns-clause-cause : goal.returns-clause-cause
returns-clause-cause g t c = cause_on (g.B.Ground.faults c.args.blocks.now) (g.B.Ground.faults c.cut_below.new.blocks) (g.B.Ground.faults c.cut_tree.new.blocks) c.cut_tree.result (g.B.Ground.leads_faults c.args.blocks.now c.cut_below.new.blocks c.in_ok-below.ensures.kept.leads) c.cut_tree.ensures.cause
