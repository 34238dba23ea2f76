use Rattle.std.proofs.Common.{◌∙◌, List, ap, refl, take, fold, length}
use Rattle.std.proofs.lemmas.List.{take_rest}
use Rattle.memory_host.specs.Replay.{State, fresh, after_call, replayed}
use Rattle.memory_host.specs.declared.host.Call.{Call}
use Rattle.memory_host.proofs.Images.{replayed_parts}
use Rattle.memory_host.proofs.host.MemoryHost.pending.Goals as goal

pub returns : goal.returns
returns c =
    let start = c.args.self.now.start.items in
    let calls = take c.args.moment c.deref.result.now in
    let n = c.settled_calls.result in
    let mid = fold after_call (fresh start) (take n calls) in
    let settled = c.settled_calls.ensures.settled (fresh start) refl refl in
    c.written_ranges.ensures mid settled.pending
    ∙ ap (λ (st : State). length st.pending) (ap (fold after_call mid) (take_rest calls n) ∙ replayed_parts start calls n)
    ∙ ap (λ (cs : List Call). length (replayed start (take c.args.moment cs)).pending) c.deref.ensures.value
