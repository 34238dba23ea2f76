use Rattle.op_log.specs.Records.{note_bytes, IsNote}
use Rattle.op_log.proofs.Reading.{reads_none, reads_next, note_there}
use Rattle.op_log.proofs.decoding.read_notes.Goals as goal

pub loop-i-init : goal.loop-i-init
loop-i-init c = reads_none IsNote note_bytes c.args.bytes.now c.args.start 31 c.make-notes.result c.make-notes.ensures

pub loop-i-preserved : goal.loop-i-preserved
loop-i-preserved c = reads_next IsNote note_bytes c.args.bytes.now c.args.start 31 c.loop-i.i c.loop-i.notes c.push.new.self _ c.loop-i.invariant c.in-Some.ensures.1 c.in-Some.ensures.0 c.in_ok-push.ensures.ok

pub returns-in_default : goal.returns-in_default
returns-in_default c notes reads =
    let there = note_there c.args.bytes.now c.args.start c.args.count c.loop-i.i notes c.requires reads c.loop-i-test.true in c.in_default.ensures there.0 there.1
