use Rattle.std.proofs.Common.{◌<◌, ◌+◌, length, arith}
use Rattle.op_log.specs.Records.{entry_bytes}
use Rattle.op_log.proofs.Writing.{puts_next, entries_len-next, entries_len-front}
use Rattle.op_log.proofs.encode.put_entries.Goals as goal

pub put_entry-at-requires : goal.put_entry-at-requires
put_entry-at-requires c =
    let within : c.loop-entry.entry-index < length c.args.entries.now = omega arith in
    omega (arith, entries_len-next c.args.kind c.args.entries.now c.loop-entry.entry-index c.entry-item.result within c.entry-item.is, entries_len-front c.args.kind (c.loop-entry.entry-index + 1) c.args.entries.now)

pub loop-entry-preserved : goal.loop-entry-preserved
loop-entry-preserved c =
    let within : c.loop-entry.entry-index < length c.args.entries.now = omega arith in
    record {
      puts = puts_next (entry_bytes c.args.kind) c.args.entries.now c.loop-entry.entry-index c.entry-item.result within c.entry-item.is c.loop-entry.invariant.puts c.put_entry-at.ensures.puts;
      at_is = omega (arith, entries_len-next c.args.kind c.args.entries.now c.loop-entry.entry-index c.entry-item.result within c.entry-item.is);
    }
