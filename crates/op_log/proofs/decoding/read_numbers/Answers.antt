use Rattle.std.proofs.Common.{arith, rules, sym, ◌+◌, ◌*◌}
use Rattle.op_log.specs.Records.{number_bytes}
use Rattle.op_log.specs.Decoding.{FitsNumber}
use Rattle.op_log.proofs.Reading.{reads_none, reads_next, got}
use Rattle.op_log.proofs.decoding.read_numbers.Goals as goal

pub loop-i-init : goal.loop-i-init
loop-i-init c = reads_none FitsNumber number_bytes c.args.bytes.now c.args.start 4 c.make-pages.result c.make-pages.ensures

pub loop-i-preserved : goal.loop-i-preserved
loop-i-preserved c =
    reads_next FitsNumber number_bytes c.args.bytes.now c.args.start 4 c.loop-i.i c.loop-i.pages c.push.new.self _ c.loop-i.invariant (search rules)
    (sym (got c.args.bytes.now (c.args.start + 4 * c.loop-i.i) 4 c.get_u32.result (omega arith) (λ i. omega (arith, c.type_inv.bytes i)) c.get_u32.ensures)) c.in_ok-push.ensures.ok
