use Rattle.std.proofs.Common.{◌≡◌, ◌≤◌, ℕ, true, arith}
use Rattle.std.proofs.lemmas.Result.{on_ok_weaker}
use Rattle.page_alloc.specs.UnitSet.{used_at}
use Rattle.volume_port.specs.Giving.{tree_refs}
use Rattle.volume_port.proofs.Giving.{owned_by_tree, apart_from_logged}
use Rattle.volume_port.proofs.giving_port.GivingPort.give_up.Goals as goal

pub release_tree-requires-clause-counts : goal.release_tree-requires-clause-counts
release_tree-requires-clause-counts g c =
    let s = c.args.self.now in
    let counted = c.requires.ready.fits.counted in
    let used : (p : ℕ) → 1 ≤ tree_refs s.pages.now s.kept.now s.units.now p → used_at s.units.now p ≡ true = λ p some. counted.owned p (owned_by_tree s.pages.now s.kept.now s.units.now p some) in
    record { used = used; named = λ p some. counted.named p (used p some) }

pub release_tree-requires-clause-apart : goal.release_tree-requires-clause-apart
release_tree-requires-clause-apart g c =
    let s = c.args.self.now in
    apart_from_logged s.pages.now s.kept.now s.units.now

pub returns-clause-quiet : goal.returns-clause-quiet
returns-clause-quiet g c = on_ok_weaker c.release_tree.result (λ cost same. c.release_tree.ensures.idle (omega (arith, cost, same))) c.release_tree.ensures.cost
