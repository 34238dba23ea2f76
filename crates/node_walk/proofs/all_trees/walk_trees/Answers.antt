use Rattle.std.proofs.Common.{rules, ◌≡◌, ◌≤◌, ℕ, List, length, IsPermutation, sym, subst}
use Rattle.std.proofs.lemmas.Result.{on_ok_weaker}
use Rattle.std.proofs.lemmas.List.Sorted.{answers_always, IsNonDecreasingBy-from_sort, IsPermutation-sym}
use Rattle.object_records.specs.Record.{IsRootField}
use Rattle.page_alloc.specs.UnitSet.{used_at, refs_at}
use Rattle.node_walk.specs.declared.ObjectRoot.{ObjectRoot}
use Rattle.node_walk.specs.TreesNamed.{AreGrouped}
use Rattle.node_walk.proofs.Regrouped.{balanced_moved, each_moved, fails_moved, few_moved, named_moved, owned_moved, uses_moved}
use Rattle.node_walk.proofs.all_trees.walk_trees.Goals as goal

pub walk_grouped-requires-clause-roots : goal.walk_grouped-requires-clause-roots
walk_grouped-requires-clause-roots g c =
    each_moved (λ (r : ObjectRoot). IsRootField r.root) c.args.roots.items c.deref.result.now
    (subst (IsPermutation c.args.roots.items) (sym c.deref.ensures.value) c.sort_unstable_by_key.ensures.permutation) c.requires.roots

pub walk_grouped-requires-clause-grouped : goal.walk_grouped-requires-clause-grouped
walk_grouped-requires-clause-grouped g c =
    subst AreGrouped (sym c.deref.ensures.value)
    (IsNonDecreasingBy-from_sort (λ (r : ObjectRoot). r.object) c.sort_unstable_by_key.new.self.items (c.sort_unstable_by_key.ensures.sorted (λ (r : ObjectRoot). r.object) (answers_always _ _ _ (λ f a r h k. search rules))))

-- from the roots as they were walked
was_before : (xs ys zs : List ObjectRoot) → IsPermutation xs ys → zs ≡ ys → IsPermutation zs xs
was_before xs ys zs moved same = IsPermutation-sym xs zs (subst (IsPermutation xs) (sym same) moved)

pub returns-clause-named : goal.returns-clause-named
returns-clause-named g c =
    let moved = was_before c.args.roots.items _ c.deref.result.now c.sort_unstable_by_key.ensures.permutation c.deref.ensures.value in
    on_ok_weaker c.walk_grouped.result (λ h told bytes shows. named_moved c.args.geometry.now bytes c.deref.result.now c.args.roots.items moved (used_at c.args.units.now) (h told bytes shows)) c.walk_grouped.ensures.named

pub returns-clause-balanced : goal.returns-clause-balanced
returns-clause-balanced g c =
    let moved = was_before c.args.roots.items _ c.deref.result.now c.sort_unstable_by_key.ensures.permutation c.deref.ensures.value in
    on_ok_weaker c.walk_grouped.result (λ h told bytes shows. balanced_moved c.args.geometry.now bytes c.deref.result.now c.args.roots.items moved (h told bytes shows)) c.walk_grouped.ensures.balanced

pub returns-clause-used : goal.returns-clause-used
returns-clause-used g c =
    let moved = was_before c.args.roots.items _ c.deref.result.now c.sort_unstable_by_key.ensures.permutation c.deref.ensures.value in
    on_ok_weaker c.walk_grouped.result (λ h told bytes shows. uses_moved c.args.geometry.now bytes c.deref.result.now c.args.roots.items moved (used_at c.args.units.now) (used_at c.walk_grouped.new.units) (h told bytes shows)) c.walk_grouped.ensures.used

pub returns-clause-bad : goal.returns-clause-bad
returns-clause-bad g c = λ part is told bytes shows.
    let moved = was_before c.args.roots.items _ c.deref.result.now c.sort_unstable_by_key.ensures.permutation c.deref.ensures.value in
    fails_moved c.args.geometry.now bytes c.args.roots.items c.deref.result.now (IsPermutation-sym c.deref.result.now c.args.roots.items moved) (used_at c.args.units.now) part (c.walk_grouped.ensures.bad part is told bytes shows)

pub returns-clause-owned : goal.returns-clause-owned
returns-clause-owned g c =
    let moved = was_before c.args.roots.items _ c.deref.result.now c.sort_unstable_by_key.ensures.permutation c.deref.ensures.value in
    let back = IsPermutation-sym c.deref.result.now c.args.roots.items moved in
    on_ok_weaker c.walk_grouped.result (λ h told bytes shows few logged used.
    owned_moved c.args.geometry.now bytes c.deref.result.now c.args.roots.items moved (used_at c.walk_grouped.new.units) (refs_at c.walk_grouped.new.units) logged
    (h told bytes shows (few_moved c.args.geometry.now bytes c.args.roots.items c.deref.result.now back few) logged used)) c.walk_grouped.ensures.owned
