use Rattle.std.proofs.Common.{◌-◌, ◌+◌, List, ap, sym, subst, ◌∙◌, arith}
use Rattle.trees.specs.declared.rows.Part.{Part}
use Rattle.trees.specs.declared.width.Width.TheVariants.{Wide}
use Rattle.trees.proofs.Rising.{row_all}
use Rattle.trees.proofs.LeafRises.{FitRow, fit_row_more, fit_row_all}
use Rattle.trees.proofs.wide.leaf_row.Goals as goal

pub push_reserved-requires : goal.push_reserved-requires
push_reserved-requires c = omega (arith, c.loop-i.invariant.1, c.loop-i.invariant.2, c.loop-i-test.true)

pub loop-i-preserved : goal.loop-i-preserved
loop-i-preserved c = (
  subst (λ (row : List Part). FitRow c.args.full c.args.n (c.loop-i.i + 1) c.get_u64-count.result c.args.bytes.now row) (sym c.push_reserved.ensures.items)
      (fit_row_more c.args.full c.args.n c.loop-i.i c.from-least.result (c.from.result - c.from-least.result) c.loop-i.last c.get_u64-count.result c.get_u32.result c.args.bytes.now c.loop-i.row.items c.requires.some c.ranges.full.fits c.requires.few c.loop-i-test.true
      c.from-least.ensures (ap (λ k. k - c.from-least.result) c.from.ensures) c.get_u64-count.ensures c.get_u32.ensures (omega (arith, c.get_u64-count.type_inv)) c.if-count-last.false c.loop-i.invariant.0),
  omega (arith, c.push_reserved.ensures.len, c.loop-i.invariant.1),
  c.push_reserved.ensures.capacity ∙ c.loop-i.invariant.2,
)

pub returns-clause-fit : goal.returns-clause-fit
returns-clause-fit c = fit_row_all c.args.full c.args.n c.loop-i.i c.loop-i.last c.args.bytes.now c.loop-i.row.items c.loop-i-test.false c.loop-i.invariant.0

pub returns-clause-row : goal.returns-clause-row
returns-clause-row c = (row_all Wide c.args.n c.loop-i.i c.loop-i.last c.args.bytes.now c.loop-i.row.items c.loop-i-test.false c.loop-i.invariant.0.read).1
