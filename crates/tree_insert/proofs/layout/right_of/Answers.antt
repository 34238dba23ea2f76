use Rattle.std.proofs.Common.{rules, arith, ◌<◌, ◌+◌, ◌^◌, get_or}
use Rattle.ex_base.proofs.Each.{each_at}
use Rattle.trees.specs.declared.rows.Part.{Part}
use Rattle.trees.proofs.Reading.{no_part}
use Rattle.tree_insert.proofs.layout.right_of.Goals as goal

pub overflow_cast-result : goal.overflow_cast-result
overflow_cast-result c =
    let lt : (get_or c.args.row.now (c.args.index + 1) no_part).size < 2 ^ 32 = each_at (λ (part : Part). part.size < 2 ^ 32) c.args.row.now (c.args.index + 1) no_part (omega (arith, c.if-row-index-lt2.false)) c.requires.fits in
    search rules
