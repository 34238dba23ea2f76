use Rattle.std.proofs.Common.{Some, sym, ap, ◌∙◌, arith}
use Rattle.std.specs.Prelude.{slice_get}
use Rattle.meta_pages.specs.Entries.{imaged}
use Rattle.meta_pages.proofs.ImageRows.{image_here, image_more, none_more}
use Rattle.meta_pages.proofs.rows.image_row.Goals as goal
use Rattle.meta_pages.proofs.rows.image_row.Goals.{in-Some+else-ahead-eq0, in_default}

pub returns-then-ahead-eq0 : goal.returns-then-ahead-eq0
returns-then-ahead-eq0 c =
    ap (slice_get (imaged c.args.rows.now)) (omega (arith, c.loop-row.invariant, c.if-ahead-eq0.true))
    ∙ image_here c.args.rows.now c.loop-row.row-index c.row-item.result c.in-Some.image c.loop-row-test.true c.row-item.is c.in-Some.is ∙ ap (λ b. Some (c.row-item.result.0, b)) (sym c.as_slice.ensures)

pub loop-row-preserved : goal.loop-row-preserved
loop-row-preserved c = elim c.match-row.branch [
  | in-Some+else-ahead-eq0 w ↦
      omega (arith, c.loop-row.invariant, w.ahead-is, w.if-ahead-eq0.false, image_more c.args.rows.now c.loop-row.row-index c.row-item.result w.in-Some.image c.loop-row-test.true c.row-item.is w.in-Some.is)
  | in_default w ↦ omega (arith, c.loop-row.invariant, w.ahead-is, none_more c.args.rows.now c.loop-row.row-index c.row-item.result c.loop-row-test.true c.row-item.is w.in_default.is)
]
