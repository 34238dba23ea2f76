use Rattle.std.proofs.Common.{◌≡◌, ◌∙◌, ℕ, Bool, sym, ap, subst}
use Rattle.node_walk.specs.Notes.{notes_in}
use Rattle.page_alloc.specs.UnitSet.{used_at, refs_at}
use Rattle.node_walk.specs.Counts.{counted_at}
use Rattle.node_walk.specs.Walk.{Meets}
use Rattle.node_walk.proofs.Facts.{handed_err}
use Rattle.node_walk.proofs.Tracking.{one_more, tracked_counted}
use Rattle.node_walk.proofs.walk.meet.Goals as goal

pub returns-in_err-node-clause-bad : goal.returns-in_err-node-clause-bad
returns-in_err-node-clause-bad g c = λ part is. c.in_err-node.ensures.bad part (handed_err c.from_residual.result _ _ c.from_residual.ensures.1 is)

pub returns-clause-met : goal.returns-clause-met
returns-clause-met g c = λ told bytes shows.
    subst (λ (f : ℕ → Bool). Meets c.args.geometry.now bytes c.args.level c.args.page.0 c.in_ok-node.node.met c.in_ok-node.node.below.items (used_at c.args.units.now) (notes_in c.args.known.now) f (notes_in c.note.new.known))
    (sym c.add_ref.ensures.used) (c.in_ok-node.ensures.met told bytes shows)

pub returns-clause-counted : goal.returns-clause-counted
returns-clause-counted g c =
    let is = (c.in_ok-node.ensures.tracked.noted c.args.page.0 c.in_ok-node.ensures.noted).1 in
    subst (λ (f : ℕ → ℕ). refs_at c.add_ref.new.self ≡ counted_at f c.args.page.0) c.in_ok-node.ensures.uses.refs
    (one_more c.note.new.units c.add_ref.new.self c.args.page.0 c.in_ok-node.ensures.tracked.counted is c.add_ref.ensures.refs)

pub returns-clause-tracked : goal.returns-clause-tracked
returns-clause-tracked g c =
    let is = (c.in_ok-node.ensures.tracked.noted c.args.page.0 c.in_ok-node.ensures.noted).1 in
    tracked_counted c.args.geometry.now c.note.new.units c.add_ref.new.self (notes_in c.note.new.known) c.args.page.0 c.in_ok-node.ensures.tracked is c.add_ref.ensures.used
    (one_more c.note.new.units c.add_ref.new.self c.args.page.0 c.in_ok-node.ensures.tracked.counted is c.add_ref.ensures.refs)

pub returns-clause-stays : goal.returns-clause-stays
returns-clause-stays g c = λ unit is. ap (λ (f : ℕ → Bool). f unit) c.add_ref.ensures.used ∙ c.in_ok-node.ensures.uses.stays unit is
