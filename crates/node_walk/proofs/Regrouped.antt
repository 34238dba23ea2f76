-- The trees of roots in another order.
use Rattle.std.proofs.Common.{◌≡◌, ◌⊎◌, ◌↔◌, ◌≤◌, ℕ, Bool, true, List, length, IsPermutation, inl, inr, sym, ap, ◌∙◌, arith}
use Rattle.std.specs.Prelude.{Contains}
use Rattle.std.specs.List.{flat_map, AllByRecursion}
use Rattle.std.proofs.lemmas.List.Elements.{All-from_recursion, recursion_from_All}
use Rattle.std.proofs.lemmas.List.Sorted.{All-permutation, Contains-permutation, IsPermutation-map, IsPermutation-sym, length_permutation, sum_by-IsPermutation}
use Rattle.ex_base.specs.declared.geometry.Geometry.{Geometry}
use Rattle.ex_base.specs.declared.names.Root.{Root}
use Rattle.ex_base.specs.Ports.{times}
use Rattle.ex_base.proofs.Counts.{times_flat}
use Rattle.ex_base.proofs.Members.{contains_in, from_flat, in_contains, into_flat}
use Rattle.session_views.specs.declared.Part.{Part}
use Rattle.trees.specs.Owners.{IsOwned, page_here, root_pages}
use Rattle.trees.specs.Trees.{Units, RootNamed, root_units}
use Rattle.volume_model.specs.Parts.{HasBalance}
use Rattle.volume_model.specs.OwnersMoved.{roots_most}
use Rattle.node_walk.specs.declared.ObjectRoot.{ObjectRoot}
use Rattle.node_walk.specs.TreesNamed.{AreBalanced, AreFree, AreNamed, FailsFirst, UsesTrees, tree_in, trees_in}

pub each_moved : {A : Type 0} (P : A → Type 0) (xs ys : List A) → IsPermutation xs ys → AllByRecursion P xs → AllByRecursion P ys
each_moved P xs ys same all = recursion_from_All P ys (All-permutation P xs ys same (All-from_recursion P xs all))

module _ (g : Geometry) (u : Units) (xs ys : List ObjectRoot) (same : IsPermutation xs ys) where
  back : IsPermutation ys xs
  back = IsPermutation-sym xs ys same

  trees : IsPermutation (trees_in xs) (trees_in ys)
  trees = IsPermutation-map tree_in xs ys same

  pub named_moved : (used : ℕ → Bool) → AreNamed g u used xs → AreNamed g u used ys
  named_moved used named = record {
    named = each_moved (λ (r : ObjectRoot). RootNamed g u r.root.height r.root.page) xs ys same named.named;
    free = each_moved (λ (r : ObjectRoot). AreFree used (root_units u r.root)) xs ys same named.free;
    apart = λ r s there here. named.apart r s (Contains-permutation ys xs r back there) (Contains-permutation ys xs s back here);
  }

  pub balanced_moved : AreBalanced g u (trees_in xs) → AreBalanced g u (trees_in ys)
  balanced_moved = each_moved (HasBalance g u) (trees_in xs) (trees_in ys) trees

  inside_moved : (p : ℕ) → Contains (flat_map (root_units u) (trees_in xs)) p → Contains (flat_map (root_units u) (trees_in ys)) p
  inside_moved p there =
      let found = from_flat (root_units u) p (trees_in xs) (in_contains p (flat_map (root_units u) (trees_in xs)) there) in
      let moved = Contains-permutation (trees_in xs) (trees_in ys) found.0 trees (contains_in found.0 (trees_in xs) found.1) in
      contains_in p (flat_map (root_units u) (trees_in ys)) (into_flat (root_units u) p found.0 (trees_in ys) (in_contains found.0 (trees_in ys) moved) found.2)

  pages_moved : (unit : ℕ) → times unit (root_pages (trees_in ys)) ≡ times unit (root_pages (trees_in xs))
  pages_moved unit =
      let pages : Root → List ℕ = λ (root : Root). page_here root.page in
      omega (arith, times_flat unit pages (trees_in xs), times_flat unit pages (trees_in ys), sum_by-IsPermutation (λ (root : Root). times unit (page_here root.page)) (trees_in xs) (trees_in ys) trees)

  pub owned_moved : (used : ℕ → Bool) (refs : ℕ → ℕ) (logged : List ℕ) → IsOwned g u used refs logged (root_pages (trees_in xs)) → IsOwned g u used refs logged (root_pages (trees_in ys))
  owned_moved used refs logged is = record {
    nodes = is.nodes;
    inner = is.inner;
    once = is.once;
    owners = λ unit. omega (arith, is.owners unit, pages_moved unit);
    listed = is.listed;
    owned = is.owned;
    in_use = is.in_use;
    apart = is.apart;
  }

  pub few_moved : length xs ≤ roots_most → length ys ≤ roots_most
  few_moved few = omega (arith, few, length_permutation xs ys same)

pub uses_moved : (g : Geometry) (u : Units) (xs ys : List ObjectRoot) (same : IsPermutation xs ys) (before after : ℕ → Bool) → UsesTrees u (trees_in xs) before after → UsesTrees u (trees_in ys) before after
uses_moved g u xs ys same before after uses p = (
  λ is. elim ((uses p).0 is) [ inl was ↦ inl was | inr inside ↦ inr (inside_moved g u xs ys same p inside) ],
  λ cases. elim cases [ inl was ↦ (uses p).1 (inl was) | inr inside ↦ (uses p).1 (inr (inside_moved g u ys xs (IsPermutation-sym xs ys same) p inside)) ],
)

pub fails_moved : (g : Geometry) (u : Units) (xs ys : List ObjectRoot) (same : IsPermutation xs ys) (used : ℕ → Bool) (part : Part) → FailsFirst g u used ys part → FailsFirst g u used xs part
fails_moved g u xs ys same used part fails = elim fails [
  | inl nodes ↦ inl (nodes.0, λ named. nodes.1 (named_moved g u xs ys same used named))
  | inr balance ↦ inr (balance.0, named_moved g u ys xs (IsPermutation-sym xs ys same) used balance.1, λ fine. balance.2 (balanced_moved g u xs ys same fine))
]
