use Rattle.std.proofs.Common.{◌≡◌, Bool, true, false, All, List, slice_index_or, subst}
use Rattle.std.proofs.lemmas.Bool.{and_parts}
use Rattle.std.proofs.lemmas.List.{take_all}
use Rattle.std.proofs.lemmas.List.Elements.{All-more}
use Rattle.page_alloc.proofs.filled.are_set.Goals as goal

pub loop-flag-preserved : goal.loop-flag-preserved
loop-flag-preserved c both =
    let parts = and_parts c.loop-flag.all (slice_index_or c.args.flags.now c.loop-flag.flag-index false) both in
    All-more (λ (flag : Bool). flag ≡ true) c.args.flags.now c.loop-flag.flag-index false c.loop-flag-test.true (c.loop-flag.invariant parts.0) parts.1

pub returns : goal.returns
returns c all = subst (λ (seen : List Bool). All (λ (flag : Bool). flag ≡ true) seen) (take_all c.loop-flag.flag-index c.args.flags.now c.loop-flag-test.false) (c.loop-flag.invariant all)
