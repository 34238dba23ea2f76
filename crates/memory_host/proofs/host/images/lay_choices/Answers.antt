use Rattle.std.proofs.Common.{◌∙◌, sym, ap, refl, fold, take, drop, length, arith}
use Rattle.std.specs.Prelude.{count_by}
use Rattle.std.proofs.lemmas.List.{take_rest}
use Rattle.memory_host.specs.Replay.{State, fresh, after_call, is_write, image_by}
use Rattle.memory_host.proofs.Choosing.{pending_count}
use Rattle.memory_host.proofs.Images.{replayed_parts}
use Rattle.memory_host.proofs.host.images.lay_choices.Goals as goal

pub lay_each-requires-clause-choices : goal.lay_each-requires-clause-choices
lay_each-requires-clause-choices c =
    let start = c.args.image.now in
    let calls = c.args.calls.now in
    let n = c.settled_calls-settled.result in
    let mid = fold after_call (fresh start) (take n calls) in
    let settled = c.settled_calls-settled.ensures.settled (fresh start) refl refl in
    let counts = pending_count mid (drop n calls) c.settled_calls-settled.ensures.pending in
    let parts = ap (λ (st : State). length st.pending) (replayed_parts start calls n) in
    let rest = ap (count_by is_write) (take_rest calls n) in
    omega (arith, c.requires.choices, counts, parts, ap length settled.pending, rest)

pub returns-clause-chosen : goal.returns-clause-chosen
returns-clause-chosen c =
    let start = c.args.image.now in
    let calls = c.args.calls.now in
    let n = c.settled_calls-settled.result in
    let mid = fold after_call (fresh start) (take n calls) in
    let settled = c.settled_calls-settled.ensures.settled (fresh start) refl refl in
    c.lay_each.ensures mid settled (sym (c.replay.ensures (fresh start) refl))
    ∙ ap (image_by c.args.choices.now) (ap (fold after_call mid) (take_rest calls n) ∙ replayed_parts start calls n)
