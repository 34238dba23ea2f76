use Rattle.std.proofs.Common.{rules, arith, length}
use Rattle.std.proofs.lemmas.Result.{on_ok_weaker}
use Rattle.trees.specs.Rows.{row_bytes}
use Rattle.trees.proofs.Laid.{fill_rest, behind_in}
use Rattle.trees.proofs.ReadFaults.{reads_walk}
use Rattle.trees.proofs.leaves.fill_behind.Goals as goal

pub returns-clause-bytes : goal.returns-clause-bytes
returns-clause-bytes g c =
    on_ok_weaker c.read_row.result (λ read told trees.
    fill_rest c.args.given.now (row_bytes (g.B.Ground.unit c.args.blocks.now) 0 c.args.run.now) c.args.out.now c.copy_part.new.out c.read_row.new.out c.min-n.result c.saturating_sub.result c.saturating_sub-behind.result c.args.from c.args.inside
    c.min-n.ensures c.saturating_sub.ensures c.saturating_sub-behind.ensures (search rules) c.copy_part.ensures (read told trees)) c.read_row.ensures.bytes

pub returns-clause-way : goal.returns-clause-way
returns-clause-way g c =
    on_ok_weaker c.read_row.result (λ read told byte from low high. read told byte
    (omega (arith, from, low, c.saturating_sub-behind.ensures))
    (behind_in c.args.out.now c.copy_part.new.out c.min-n.result c.saturating_sub.result c.saturating_sub-behind.result c.args.from c.args.inside (length c.args.given.now) byte c.min-n.ensures c.saturating_sub.ensures c.saturating_sub-behind.ensures (search rules) from high)) c.read_row.ensures.way

pub returns-clause-fault : goal.returns-clause-fault
returns-clause-fault g c = reads_walk g.B.Ground c.args.blocks.now 0 0 c.args.run.now _ _ c.read_row.result c.read_row.ensures.fault
