use Rattle.std.proofs.Common.{◌-◌, ◌+◌, ◌/◌, arith, subst}
use Rattle.file_index.specs.IndexPage.{Indexed, RiseFrom}
use Rattle.file_index.proofs.Picking.{start_halves, lower_half, upper_half, first_found}
use Rattle.file_index.proofs.view.IndexView.first_above.Goals as goal

pub loop-low-init : goal.loop-low-init
loop-low-init c = start_halves c.args.key c.args.self.now.entries c.len-high.result c.requires c.len-high.ensures.len

pub loop-low-preserved-then-key-entry : goal.loop-low-preserved-then-key-entry
loop-low-preserved-then-key-entry c =
    lower_half c.args.key c.args.self.now.entries c.loop-low.low c.loop-low.high (c.loop-low.low + (c.loop-low.high - c.loop-low.low) / 2) c.entry.result c.entry.ensures (omega arith) (omega arith) c.if-key-entry.true c.loop-low.invariant

pub loop-low-preserved : goal.loop-low-preserved
loop-low-preserved c =
    upper_half c.args.key c.args.self.now.entries c.loop-low.low c.loop-low.high (c.loop-low.low + (c.loop-low.high - c.loop-low.low) / 2) c.entry.result (subst (λ (view : Indexed). RiseFrom 0 view.entries) c.self.view_is c.self.invariant.2) c.entry.ensures (omega arith) c.if-key-entry.false c.loop-low.invariant

pub returns : goal.returns
returns c = first_found c.args.key c.args.self.now.entries c.loop-low.low c.loop-low.high c.loop-low-test.false c.loop-low.invariant
