use Rattle.std.proofs.Common.{length, refl, arith}
use Rattle.file_index.specs.IndexPage.{head_bytes, HasEntryFields}
use Rattle.file_index.proofs.WriteLaws.{so_far_first, so_far_more, so_far_all, length-head, all_more, all_whole}
use Rattle.file_index.proofs.write.write_index.Goals as goal

pub loop-entry-init : goal.loop-entry-init
loop-entry-init c = record {
  bytes = so_far_first (length c.args.out.now) (head_bytes c.args.level c.args.file_no (length c.args.entries.now)) c.args.entries.now c.write_head.new.out (length-head c.args.level c.args.file_no (length c.args.entries.now)) c.write_head.ensures;
  fields = tt;
}

pub loop-entry-preserved : goal.loop-entry-preserved
loop-entry-preserved c = record {
  bytes = so_far_more (length c.args.out.now) (head_bytes c.args.level c.args.file_no (length c.args.entries.now)) c.args.entries.now c.loop-entry.entry-index c.loop-entry.at c.loop-entry.out _ (record { key = 0; page = record { 0 = 0 } }) c.write_entry.new.out c.loop-entry-test.true refl c.write_entry.ensures.written c.loop-entry.invariant.bytes;
  fields = all_more HasEntryFields c.args.entries.now c.loop-entry.entry-index (record { key = 0; page = record { 0 = 0 } }) c.loop-entry-test.true c.write_entry.ensures.fields c.loop-entry.invariant.fields;
}

pub returns-clause-written : goal.returns-clause-written
returns-clause-written c = so_far_all (length c.args.out.now) c.args.level c.args.file_no c.args.entries.now c.loop-entry.entry-index c.loop-entry.at c.loop-entry.out (omega (arith, c.loop-entry.auto.entry-index-end, c.loop-entry-test.false)) c.loop-entry.invariant.bytes

pub returns-clause-fields : goal.returns-clause-fields
returns-clause-fields c = all_whole HasEntryFields c.args.entries.now c.loop-entry.entry-index (omega (arith, c.loop-entry.auto.entry-index-end, c.loop-entry-test.false)) c.loop-entry.invariant.fields
