use Rattle.std.proofs.Common.{ℕ, ◌↔◌, sym, subst}
use Rattle.std.proofs.lemmas.List.Sorted.{IsNonDecreasingBy-from_sort}
use Rattle.file_walk.specs.Numbers.{AreGoodNumbers, IsGoodRun}
use Rattle.file_walk.proofs.Runs.{sorted_run}
use Rattle.file_walk.proofs.numbers.has_good_numbers.Goals as goal

pub returns : goal.returns
returns c =
    let next : ℕ = c.args.next_unique in
    let same : AreGoodNumbers c.args.next_unique c.in_ok-numbers.numbers.items ↔ IsGoodRun c.args.next_unique 1 c.sort.new.self.items =
    sorted_run c.args.next_unique c.in_ok-numbers.numbers.items c.sort.new.self.items c.in_ok-sort.ensures.permutation (IsNonDecreasingBy-from_sort (λ (n : ℕ). n) c.sort.new.self.items c.in_ok-sort.ensures.sorted) in (
      λ yes. subst (AreGoodNumbers c.args.next_unique) c.in_ok-numbers.ensures (same.1 (subst (IsGoodRun c.args.next_unique 1) c.deref.ensures.value (c.is_good_run.ensures.0 yes))),
      λ good. c.is_good_run.ensures.1 (subst (IsGoodRun c.args.next_unique 1) (sym c.deref.ensures.value) (same.0 (subst (AreGoodNumbers c.args.next_unique) (sym c.in_ok-numbers.ensures) good))),
    )
