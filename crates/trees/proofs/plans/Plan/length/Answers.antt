use Rattle.std.proofs.Common.{◌≡◌, true, rules, ◌∙◌}
use Rattle.trees.proofs.Lengths.{full_leaf, last_leaf, full_leaves_fit}
use Rattle.trees.proofs.plans.Plan.length.Goals as goal

pub returns-then-index-full : goal.returns-then-index-full
returns-then-index-full c =
    let tail : c.args.self.now.tail ≡ true = search rules in
    full_leaf c.args.cap c.args.self.now c.args.index tail (c.requires.plan.tail tail).1 c.if-index-full.true

pub overflow_sub-self : goal.overflow_sub-self
overflow_sub-self c =
    let tail : c.args.self.now.tail ≡ true = search rules in
    full_leaves_fit c.args.cap c.args.self.now.total c.args.self.now.leaves c.requires.cap (c.requires.plan.tail tail).0 (c.requires.plan.tail tail).1

pub returns : goal.returns
returns c =
    let tail : c.args.self.now.tail ≡ true = search rules in
    c.even_part-2.ensures ∙ last_leaf c.args.cap c.args.self.now c.args.index tail (c.requires.plan.tail tail).1 c.if-index-full.false
