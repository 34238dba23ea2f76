use Rattle.std.proofs.Common.{ℕ, List, ◌++◌, ap, sym}
use Rattle.std.proofs.lemmas.List.{drop_more}
use Rattle.file_walk.specs.declared.Found.{Found}
use Rattle.file_walk.specs.Numbers.{uniques}
use Rattle.file_walk.proofs.Lists.{collect_step, collect_end}
use Rattle.file_walk.proofs.numbers.uniques_of.Goals as goal

pub loop-found-init : goal.loop-found-init
loop-found-init c = ap (λ (t : List ℕ). t ++ uniques c.args.records.now) (sym c.in_ok-numbers.ensures.items)

pub loop-found-preserved : goal.loop-found-preserved
loop-found-preserved c = collect_step (λ (found : Found). found.unique) (uniques c.args.records.now) c.loop-found.numbers.items c.push.new.self.items c.args.records.now c.loop-found.found-index _ (drop_more c.args.records.now c.loop-found.found-index _ c.loop-found-test.true) c.loop-found.invariant c.in_ok-push.ensures.items

pub returns : goal.returns
returns c = collect_end (λ (found : Found). found.unique) (uniques c.args.records.now) c.loop-found.numbers.items c.args.records.now c.loop-found.found-index c.loop-found-test.false c.loop-found.invariant
