use Rattle.std.proofs.Common.{◌∙◌, ap, length, arith}
use Rattle.std.specs.Prelude.{count_by}
use Rattle.std.proofs.lemmas.List.{take_all}
use Rattle.memory_host.specs.Replay.{is_write}
use Rattle.memory_host.proofs.Choosing.{pending_count}
use Rattle.memory_host.proofs.host.images.written_ranges.Goals as goal

pub returns : goal.returns
returns c m none =
    let calls = c.args.calls.now in
    let all = c.loop-call.invariant ∙ ap (count_by is_write) (take_all c.loop-call.call-index calls c.loop-call-test.false) in
    omega (arith, all, pending_count m calls c.requires, ap length none)
