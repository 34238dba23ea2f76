use Rattle.std.proofs.Common.{◌∙◌, sym, ap, refl, fold, take}
use Rattle.std.proofs.lemmas.List.{take_rest}
use Rattle.memory_host.specs.Replay.{fresh, after_call, image_of}
use Rattle.memory_host.proofs.Images.{image_of_settled, replayed_parts}
use Rattle.memory_host.proofs.host.images.lay_image.Goals as goal

pub returns-clause-chosen : goal.returns-clause-chosen
returns-clause-chosen c =
    let start = c.args.image.now in
    let calls = c.args.calls.now in
    let n = c.settled_calls-settled.result in
    let mid = fold after_call (fresh start) (take n calls) in
    let settled = c.settled_calls-settled.ensures.settled (fresh start) refl refl in
    let replayed_ = c.replay.ensures (fresh start) refl in
    let laid = c.lay_pending.ensures mid (image_of_settled c.args.choice mid settled ∙ sym replayed_) in
    laid ∙ ap (image_of c.args.choice) (ap (fold after_call mid) (take_rest calls n) ∙ replayed_parts start calls n)
