use Rattle.std.proofs.Common.{◌<◌, length, arith}
use Rattle.op_log.proofs.Writing.{entries_len-next}
use Rattle.op_log.proofs.length.entries_len.Goals as goal

pub loop-entry-preserved : goal.loop-entry-preserved
loop-entry-preserved c =
    let within : c.loop-entry.entry-index < length c.args.entries.now = omega arith in
    omega (arith, entries_len-next c.args.kind c.args.entries.now c.loop-entry.entry-index c.entry-item.result within c.entry-item.is)
