-- The numbers that items name are numbers of leaves and nodes of their history.
use Rattle.std.proofs.Common.{◌≡◌, ◌≤◌, ◌+◌, inl, inr, ℕ, zero, suc, List, [], ◌∷◌, length, Some, subst, arith}
use Rattle.std.specs.List.{AllByRecursion}
use Rattle.ex_base.specs.declared.geometry.Geometry.{Geometry}
use Rattle.ex_base.specs.declared.names.PageNo.{PageNo}
use Rattle.ex_base.specs.declared.names.Root.{Root}
use Rattle.ex_base.proofs.Each.{each_as}
use Rattle.object_records.specs.Record.{Large}
use Rattle.trees.specs.declared.Pair.{Pair}
use Rattle.trees.specs.Node.{Node}
use Rattle.trees.specs.Trees.{EachChild}
use Rattle.version_lists.proofs.Lists.{Has, has_flat_from}
use Rattle.volume_model.proofs.Places.{each_has}
use Rattle.history_model.specs.History.{History, HistoryFile, HistoryVersion, all_versions, numbered}
use Rattle.history_model.specs.Items.{AreItems, AreNodeItems, IsChild, IsContentItem, IsFileItem, IsNodeItem, IsRootNumber, IsVersionItem, children_most, roots_most}
use Rattle.history_volumes.proofs.Numbers.{numbered_from, numbered_has}
use Rattle.history_volumes.proofs.Transcribing.{IsNumber}

-- a node among items, behind so many others
node_among : (g : Geometry) (leaves first : ℕ) (nodes : List Node) (n : Node) → AreNodeItems g leaves first nodes → Has nodes n → (before : ℕ) × (before ≤ first + length nodes) × IsNodeItem g leaves before n
node_among g leaves first [] n each there = absurd there
node_among g leaves first (x ∷ nodes) n each (inl is) = (first, omega arith, subst (IsNodeItem g leaves first) is each.0)
node_among g leaves first (x ∷ nodes) n each (inr more) = let found = node_among g leaves (suc first) nodes n each.1 more in (found.0, omega (arith, found.1), found.2)

pub each_pair : (P : ℕ → Type 0) (before : ℕ) (pairs : List Pair) → AllByRecursion (λ (pair : Pair). P pair.page.0) pairs → EachChild (λ k m. P k) before pairs
each_pair P before [] all = tt
each_pair P before (pair ∷ pairs) all = (all.0, each_pair P pair.count pairs all.1)

module _ (g : Geometry) (h : History) (items : AreItems g h) where
  child_number : (l before k : ℕ) → before ≤ length h.nodes → 1 ≤ k → k ≤ children_most (length h.leaves) before (suc l) → IsNumber h l k
  child_number zero before k few some most = numbered_from h.leaves k some most
  child_number (suc l) before k few some most = numbered_from h.nodes k some (omega (arith, most, few))

  -- each child of a node is there
  pub children_there : (l number : ℕ) (n : Node) → numbered h.nodes number ≡ Some n → n.level ≡ suc l → EachChild (λ k m. IsNumber h l k) 0 n.pairs
  children_there l number n is level =
      let found = node_among g (length h.leaves) 0 h.nodes n items.nodes (numbered_has h.nodes number n is) in
      let children = subst (λ (m : ℕ). AllByRecursion (IsChild (children_most (length h.leaves) found.0 m)) n.pairs) level found.2.children in
      each_pair (IsNumber h l) 0 n.pairs
      (each_as (IsChild (children_most (length h.leaves) found.0 (suc l))) (λ (pair : Pair). IsNumber h l pair.page.0) n.pairs (λ pair child. child_number l found.0 pair.page.0 (omega (arith, found.1)) child.0 child.1) children)

  version_item : (w : HistoryVersion) → Has (all_versions h) w → IsVersionItem g (length h.leaves) (length h.nodes) w
  version_item w there =
      let file = has_flat_from (λ (f : HistoryFile). f.versions) h.files w there in
      let item = each_has (IsFileItem g (length h.leaves) (length h.nodes)) h.files items.files file.0 file.1 in
      each_has (IsVersionItem g (length h.leaves) (length h.nodes)) file.0.versions item.versions w file.2

  root_number : (l : ℕ) (number : PageNo) → IsRootNumber (roots_most (length h.leaves) (length h.nodes) l) (Some number) → IsNumber h l number.0
  root_number zero number is = numbered_from h.leaves number.0 is.0 is.1
  root_number (suc l) number is = numbered_from h.nodes number.0 is.0 is.1

  -- and so is the root of a version
  pub root_there : (w : HistoryVersion) (root : Root) (number : PageNo) → Has (all_versions h) w → w.content ≡ Large root → root.page ≡ Some number → IsNumber h root.height number.0
  root_there w root number there large page =
      let content = subst (IsContentItem g (length h.leaves) (length h.nodes)) large (version_item w there).content in
      root_number root.height number (subst (IsRootNumber (roots_most (length h.leaves) (length h.nodes) root.height)) page content.1)
