use Rattle.std.proofs.Common.{rules, arith, ◌<◌, ◌-◌, ◌^◌, get_or}
use Rattle.ex_base.proofs.Each.{each_at}
use Rattle.trees.specs.declared.rows.Part.{Part}
use Rattle.trees.proofs.Reading.{no_part}
use Rattle.tree_insert.proofs.PlaceLaws.{left_is}
use Rattle.tree_insert.proofs.layout.left_of.Goals as goal

pub overflow_cast-result : goal.overflow_cast-result
overflow_cast-result c =
    let lt : (get_or c.args.row.now (c.args.index - 1) no_part).size < 2 ^ 32 = each_at (λ (part : Part). part.size < 2 ^ 32) c.args.row.now (c.args.index - 1) no_part (omega (arith, c.requires.index)) c.requires.fits in
    search rules

pub returns : goal.returns
returns c = left_is c.args.row.now c.args.index c.if-index-eq0.false c.requires.index
