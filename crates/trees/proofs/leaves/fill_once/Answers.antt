use Rattle.std.proofs.Common.{◌≡◌, ◌+◌, ◌-◌, ◌∙◌, min, length, refl, arith, rules}
use Rattle.trees.specs.Rows.{row_bytes}
use Rattle.trees.proofs.Between.{filled_between, between_way, new_len}
use Rattle.trees.proofs.Laid.{row_length}
use Rattle.std.proofs.lemmas.List.{length-take-le}
use Rattle.ex_base.proofs.Handed.{not_given, cause_here}
use Rattle.ex_base.proofs.Results.{if_err_handed}
use Rattle.trees.proofs.ReadFaults.{read_walks}
use Rattle.trees.proofs.leaves.fill_once.Goals as goal

pub returns-clause-bytes : goal.returns-clause-bytes
returns-clause-bytes g c = λ told trees.
    let b = g.B.Ground in
    let from : c.min.result + c.saturating_sub-2.result ≡ min c.args.at c.args.place + (c.saturating_sub-inside.result - length c.args.given.now) = omega (arith, c.min.ensures, c.saturating_sub-2.ensures) in
    c.put_between.ensures
    ∙ filled_between (row_bytes (b.unit c.args.blocks.now) 0 c.args.run.now) c.args.given.now c.part_of-new.result.now c.args.out.now c.read_row.new.out c.args.place c.args.at c.min-before.result c.saturating_sub-inside.result (c.min.result + c.saturating_sub-2.result) (length c.args.out.now - length c.part_of-new.result.now)
    (omega (arith, c.min-before.ensures, c.saturating_sub.ensures)) c.saturating_sub-inside.ensures c.part_of-new.ensures from refl
    (omega (arith, row_length (b.geometry c.args.blocks.now) (b.unit c.args.blocks.now) 0 c.args.run.now (b.whole c.args.blocks.now c.requires.ready told) trees, c.requires.change))
    (search rules) (c.in_ok-read_row.ensures.bytes told trees)

pub returns-clause-way : goal.returns-clause-way
returns-clause-way g c = λ told byte stands stays low high.
    let from : c.min.result + c.saturating_sub-2.result ≡ min c.args.at c.args.place + (c.saturating_sub-inside.result - length c.args.given.now) = omega (arith, c.min.ensures, c.saturating_sub-2.ensures) in
    let read = between_way c.args.given.now c.part_of-new.result.now c.args.out.now c.args.place c.args.at c.min-before.result c.saturating_sub-inside.result (c.min.result + c.saturating_sub-2.result) (length c.args.out.now - length c.part_of-new.result.now) byte stands
    (omega (arith, c.min-before.ensures, c.saturating_sub.ensures)) c.saturating_sub-inside.ensures c.part_of-new.ensures from refl stays low high in
    c.in_ok-read_row.ensures.way told byte read.0 read.1

pub overflow_sub-old : goal.overflow_sub-old
overflow_sub-old g c = omega (arith, new_len c.args.given.now c.part_of-new.result.now c.args.out.now c.min-before.result c.saturating_sub-inside.result c.part_of-new.ensures)

pub read_row-requires-clause-range : goal.read_row-requires-clause-range
read_row-requires-clause-range g c = omega (arith, new_len c.args.given.now c.part_of-new.result.now c.args.out.now c.min-before.result c.saturating_sub-inside.result c.part_of-new.ensures, length-take-le (length c.args.out.now - length c.part_of-new.result.now) c.args.out.now (omega arith), c.min-before.ensures, c.saturating_sub.ensures, c.saturating_sub-inside.ensures, c.min.ensures, c.saturating_sub-2.ensures, c.requires.range, c.requires.change)

pub returns-in_err-read_row-clause-bytes : goal.returns-in_err-read_row-clause-bytes
returns-in_err-read_row-clause-bytes g c = not_given c.from_residual.result _ c.in_err-read_row.field-0.0 c.from_residual.ensures.1

pub returns-in_err-read_row-clause-way : goal.returns-in_err-read_row-clause-way
returns-in_err-read_row-clause-way g c = not_given c.from_residual.result _ c.in_err-read_row.field-0.0 c.from_residual.ensures.1

pub returns-in_err-read_row-clause-fault : goal.returns-in_err-read_row-clause-fault
returns-in_err-read_row-clause-fault g c =
    if_err_handed c.from_residual.result _ c.in_err-read_row.field-0.0 c.from_residual.ensures.1
    (λ told. read_walks (g.B.Ground.geometry c.args.blocks.now) (g.B.Ground.unit c.args.blocks.now) 0 0 c.args.run.now _ _ c.in_err-read_row.field-0.0 (c.in_err-read_row.ensures.fault told))

pub returns-in_err-read_row-clause-cause : goal.returns-in_err-read_row-clause-cause
returns-in_err-read_row-clause-cause g c = cause_here (g.B.Ground.faults c.args.blocks.now) (g.B.Ground.faults c.read_row.new.blocks) c.from_residual.result c.in_err-read_row.field-0.0 c.from_residual.ensures.1 c.in_err-read_row.ensures.cause

pub returns-in_err-read_row-clause-kept : goal.returns-in_err-read_row-clause-kept
returns-in_err-read_row-clause-kept g c = c.in_err-read_row.ensures.kept

pub returns-clause-kept : goal.returns-clause-kept
returns-clause-kept g c = c.in_ok-read_row.ensures.kept
