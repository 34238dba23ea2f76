use Rattle.std.proofs.Common.{ℕ, List, IfNone, subst}
use Rattle.trees.specs.declared.Pair.{Pair}
use Rattle.trees.specs.Node.{PairsOf}
use Rattle.node_walk.proofs.nodes.read_node.Goals as goal

pub returns-clause-none : goal.returns-clause-none
returns-clause-none g c = λ told.
    subst (λ (bytes : List ℕ). IfNone c.in_ok-node_on.field-0 ((level : ℕ) (pairs : List Pair) → PairsOf c.args.fan bytes level pairs → ⊥)) (c.in_ok-bytes.ensures.bytes told) c.in_ok-node_on.ensures.none
