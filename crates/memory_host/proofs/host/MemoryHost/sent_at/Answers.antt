use Rattle.std.proofs.Common.{◌≡◌, ◌∙◌, sym, ap, ◌+◌, List, [], ◌∷◌, ◌++◌, take}
use Rattle.std.proofs.lemmas.List.{take_more}
use Rattle.memory_host.specs.Replay.{State, replayed}
use Rattle.memory_host.specs.ReplayLaws.{replayed_none, replayed_push}
use Rattle.memory_host.specs.declared.host.Call.{Call}
use Rattle.memory_host.proofs.host.MemoryHost.sent_at.Goals as goal

pub loop-call-init : goal.loop-call-init
loop-call-init c = c.new-sent.ensures.items ∙ sym (ap (λ (st : State). st.sent) (replayed_none c.args.self.now.start.items [] (λ i. [])))

pub loop-call-preserved : goal.loop-call-preserved
loop-call-preserved c =
    let start = c.args.self.now.start.items in
    let calls = take c.args.moment c.deref.result.now in
    let i = c.loop-call.call-index in
    let more : take (i + 1) calls ≡ take i calls ++ c.call-item.result ∷ [] =
    take_more calls i c.call-item.result c.loop-call-test.true ∙ ap (λ (call : Call). take i calls ++ call ∷ []) (sym c.call-item.is) in
    sym
    (ap (λ (cs : List Call). (replayed start cs).sent) more
    ∙ ap (λ (st : State). st.sent) (replayed_push start (take i calls) c.call-item.result)
    ∙ c.in_ok-add_sent.ensures (replayed start (take i calls)) (sym c.loop-call.invariant))
