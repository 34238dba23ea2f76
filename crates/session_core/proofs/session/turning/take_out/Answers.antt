use Rattle.std.proofs.Common.{◌≡◌, ◌<◌, List, Some, length, get_or, sym, subst, false, refl}
use Rattle.ex_base.specs.declared.names.Root.{Root}
use Rattle.trees.specs.Owners.{page_here}
use Rattle.session_core.specs.Turning.{TakenOut}
use Rattle.session_core.proofs.TakingOut.{taken_out_at}
use Rattle.std.proofs.lemmas.Bool.{both_ways}
use Rattle.session_core.proofs.session.turning.take_out.Goals as goal

pub returns-in-Some-clause-there : goal.returns-in-Some-clause-there
returns-in-Some-clause-there c = λ _.
    let root = c.args.root.now in
    let there = subst (λ (rs : List Root). (c.in-Some.at < length rs) × (page_here (get_or rs c.in-Some.at root).page ≡ page_here root.page)) c.deref.ensures.value c.in-Some.ensures.there in
    subst (λ (rs : List Root). TakenOut c.args.roots.now.items rs (Some root)) (sym c.remove.ensures.items) (taken_out_at c.args.roots.now.items c.in-Some.at root root there.0 there.1)

pub returns-in-None-clause-there : goal.returns-in-None-clause-there
returns-in-None-clause-there c = λ yes. absurd (both_ways false refl yes)
