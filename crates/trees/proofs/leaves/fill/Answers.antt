use Rattle.ex_base.specs.Area.{NamesLeaf}
use Rattle.trees.specs.Damage.{IsSoundWay}
use Rattle.std.proofs.Common.{length, ◌∙◌, ◌+◌, ◌++◌, ℕ, List, take, drop, ap, subst, arith, rules, sym}
use Rattle.trees.specs.Made.{Stays, changed}
use Rattle.std.proofs.lemmas.Result.{IfErr-weaker, on_ok_weaker}
use Rattle.trees.specs.Rows.{row_bytes, FitLeaves}
use Rattle.trees.proofs.Reading.{later, trees_back}
use Rattle.trees.proofs.Kept.{leaves_back}
use Rattle.trees.proofs.Laid.{fill_front, fill_way, leaves_way, same_bytes, row_length}
use Rattle.ex_base.specs.declared.geometry.Geometry.{Geometry}
use Rattle.ex_base.proofs.Keeping.{keeps_on}
use Rattle.ex_base.proofs.Handed.{not_given, cause_here, cause_of}
use Rattle.ex_base.proofs.Results.{if_err_handed}
use Rattle.trees.proofs.ReadFaults.{read_walks}
use Rattle.trees.proofs.leaves.fill.Goals as goal

pub returns-clause-bytes : goal.returns-clause-bytes
returns-clause-bytes g c =
    let b = g.B.Ground in
    on_ok_weaker c.fill_behind.result (λ read told trees.
    let kept = c.in_ok-read_row.ensures.kept in
    let old = row_bytes (g.B.Ground.unit c.args.blocks.now) 0 c.args.run.now in
    fill_front c.args.given.now (row_bytes (g.B.Ground.unit c.args.blocks.now) 0 c.args.run.now) c.args.out.now c.read_row.new.out c.fill_behind.new.out c.min-n.result c.saturating_sub.result c.saturating_sub-inside.result c.args.change.at c.args.change.cut c.args.at
    c.min-n.ensures c.saturating_sub.ensures c.saturating_sub-inside.ensures (omega (arith, row_length (b.geometry c.args.blocks.now) (b.unit c.args.blocks.now) 0 c.args.run.now (b.whole c.args.blocks.now c.requires.ready told) trees, c.requires.change))
    (search rules) (c.in_ok-read_row.ensures.bytes told trees)
    (read (b.leads_told c.args.blocks.now c.read_row.new.blocks c.in_ok-read_row.ensures.kept.leads told) (trees_back b c.args.blocks.now c.read_row.new.blocks 0 c.args.run.now c.in_ok-read_row.ensures.kept trees)
    ∙ ap (λ (xs : List ℕ). take (later c.min-n.result c.read_row.new.out c.args.out.now) (drop c.saturating_sub-inside.result (c.args.given.now ++ drop (c.args.change.at + c.args.change.cut) xs))) (same_bytes b c.args.blocks.now c.read_row.new.blocks 0 c.args.run.now c.in_ok-read_row.ensures.kept))) c.fill_behind.ensures.bytes

pub returns-clause-fault : goal.returns-clause-fault
returns-clause-fault g c =
    IfErr-weaker c.fill_behind.result _ _ (λ f h. leaves_back g.B.Ground c.args.blocks.now c.read_row.new.blocks c.args.run.now f c.in_ok-read_row.ensures.kept.leads h) c.fill_behind.ensures.fault

pub returns-clause-way : goal.returns-clause-way
returns-clause-way g c =
    on_ok_weaker c.fill_behind.result (λ behind told byte place stays low high.
    fill_way (IsSoundWay (g.B.Ground.geometry c.args.blocks.now) (g.B.Ground.unit c.args.blocks.now) (NamesLeaf (g.B.Ground.geometry c.args.blocks.now)) 0 0 c.args.run.now byte byte)
    c.args.out.now c.read_row.new.out c.min-n.result c.saturating_sub.result c.saturating_sub-inside.result c.args.change.at c.args.change.cut c.args.at (length c.args.given.now) byte place
    c.min-n.ensures c.saturating_sub.ensures c.saturating_sub-inside.ensures (search rules) stays low high
    (c.in_ok-read_row.ensures.way told byte)
    (λ from in_low in_high. leaves_way g.B.Ground c.args.blocks.now c.read_row.new.blocks c.args.run.now byte byte c.in_ok-read_row.ensures.kept.leads (λ later. behind later byte from in_low in_high) told)) c.fill_behind.ensures.way

pub returns-then-change-eq0-clause-way : goal.returns-then-change-eq0-clause-way
returns-then-change-eq0-clause-way g c =
    on_ok_weaker c.fill_once.result (λ read told byte place stays low high.
    read told byte place (subst (λ k. Stays c.args.change.at k (length c.args.given.now) byte place) c.if-change-eq0.true stays) low high) c.fill_once.ensures.way

pub returns-clause-kept : goal.returns-clause-kept
returns-clause-kept g c = keeps_on g.B.Ground c.args.blocks.now c.read_row.new.blocks c.fill_behind.new.blocks c.in_ok-read_row.ensures.kept c.fill_behind.ensures.kept

pub returns-clause-cause : goal.returns-clause-cause
returns-clause-cause g c = cause_of g.B.Ground c.args.blocks.now c.read_row.new.blocks c.in_ok-read_row.ensures.kept.leads c.fill_behind.new.blocks c.fill_behind.result c.fill_behind.ensures.cause

pub fill_behind-requires-clause-leaves : goal.fill_behind-requires-clause-leaves
fill_behind-requires-clause-leaves g c = subst (λ (geo : Geometry). FitLeaves geo 0 c.args.run.now) (sym (g.B.Ground.leads_geometry c.args.blocks.now c.read_row.new.blocks c.in_ok-read_row.ensures.kept.leads)) c.requires.leaves

pub fill_behind-requires-clause-ready : goal.fill_behind-requires-clause-ready
fill_behind-requires-clause-ready g c = g.B.Ground.leads_ready c.args.blocks.now c.read_row.new.blocks c.in_ok-read_row.ensures.kept.leads c.requires.ready

pub fill_behind-requires-clause-sizes : goal.fill_behind-requires-clause-sizes
fill_behind-requires-clause-sizes g c = omega (arith, c.requires.change, c.requires.sizes, c.saturating_sub-inside.ensures)

pub overflow_add-change : goal.overflow_add-change
overflow_add-change g c = omega (arith, c.requires.change, c.requires.sizes)

pub returns-then-change-eq0-clause-bytes : goal.returns-then-change-eq0-clause-bytes
returns-then-change-eq0-clause-bytes g c = on_ok_weaker c.fill_once.result (λ read told trees. read told trees ∙ ap (λ (k : ℕ). take (length c.args.out.now) (drop c.args.at (changed (row_bytes (g.B.Ground.unit c.args.blocks.now) 0 c.args.run.now) c.args.change.at k c.args.given.now))) (sym c.if-change-eq0.true)) c.fill_once.ensures.bytes

pub returns-in_err-read_row-clause-bytes : goal.returns-in_err-read_row-clause-bytes
returns-in_err-read_row-clause-bytes g c = not_given c.from_residual.result _ c.in_err-read_row.field-0.0 c.from_residual.ensures.1

pub returns-in_err-read_row-clause-way : goal.returns-in_err-read_row-clause-way
returns-in_err-read_row-clause-way g c = not_given c.from_residual.result _ c.in_err-read_row.field-0.0 c.from_residual.ensures.1

pub returns-in_err-read_row-clause-fault : goal.returns-in_err-read_row-clause-fault
returns-in_err-read_row-clause-fault g c =
    if_err_handed c.from_residual.result _ c.in_err-read_row.field-0.0 c.from_residual.ensures.1
    (λ told. read_walks (g.B.Ground.geometry c.args.blocks.now) (g.B.Ground.unit c.args.blocks.now) 0 0 c.args.run.now _ _ c.in_err-read_row.field-0.0 (c.in_err-read_row.ensures.fault told))

pub returns-in_err-read_row-clause-cause : goal.returns-in_err-read_row-clause-cause
returns-in_err-read_row-clause-cause g c = cause_here (g.B.Ground.faults c.args.blocks.now) (g.B.Ground.faults c.read_row.new.blocks) c.from_residual.result c.in_err-read_row.field-0.0 c.from_residual.ensures.1 c.in_err-read_row.ensures.cause

pub returns-in_err-read_row-clause-kept : goal.returns-in_err-read_row-clause-kept
returns-in_err-read_row-clause-kept g c = c.in_err-read_row.ensures.kept
