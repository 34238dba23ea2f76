use Rattle.std.proofs.Common.{◌≡◌, ◌∙◌, sym, ap, List, ℕ, take, fold, arith}
use Rattle.std.specs.Prelude.{count_by, reverse}
use Rattle.std.proofs.lemmas.List.{take_all}
use Rattle.memory_host.specs.Replay.{after_call, is_write, laid_by}
use Rattle.memory_host.specs.declared.host.Call.{Call}
use Rattle.memory_host.specs.declared.host.Choice.{Choice}
use Rattle.memory_host.proofs.Choosing.{settled_stays}
use Rattle.memory_host.proofs.host.images.lay_each.Goals as goal

pub returns : goal.returns
returns c m settled held =
    let calls = c.args.calls.now in
    let choices = c.args.choices.now in
    let i = c.loop-call.call-index in
    let all : take i calls ≡ calls = take_all i calls c.loop-call-test.false in
    let many = c.loop-call.invariant.count ∙ ap (count_by is_write) all ∙ sym c.requires.choices in
    let chosen : take c.loop-call.at choices ≡ choices = take_all c.loop-call.at choices (omega (arith, many)) in
    c.loop-call.invariant.laid m settled.pending (settled.settled ∙ held)
    ∙ ap (λ (cs : List Choice). laid_by m.settled (reverse cs) (fold after_call m (take i calls)).pending) chosen
    ∙ ap (λ (cs : List Call). laid_by m.settled (reverse choices) (fold after_call m cs).pending) all
    ∙ ap (λ (d : List ℕ). laid_by d (reverse choices) (fold after_call m calls).pending) (sym (settled_stays m calls c.requires.pending))
