-- A node whose last owner was taken away is given up: what is said of it from before that owner went.
use Rattle.std.proofs.Common.{◌≡◌, ℕ, ◌-◌, ◌<◌, ◌≤◌, Bool, true, List, [], ◌∷◌, length, take, get_or, sym, ap, subst, ◌∙◌, arith}
use Rattle.ex_base.specs.declared.faults.PortFault.{PortFault}
use Rattle.ex_base.specs.declared.geometry.Geometry.{Geometry}
use Rattle.ex_base.specs.declared.ground.Ground as ground
use Rattle.ex_base.specs.Ports.{Keeps, GivesUnit, without_ref}
use Rattle.trees.specs.declared.rows.Part.{Part}
use Rattle.trees.specs.Damage.{AnyPart, NamesNode, IsLeafFault, IsNodeFault, IsWalkFault}
use Rattle.trees.specs.Made.{pages_of}
use Rattle.trees.specs.Owners.{StandsAt}
use Rattle.trees.specs.Rows.{IsRowOn, IsFilled}
use Rattle.trees.specs.Trees.{Units}
use Rattle.trees.proofs.Blame.{walk_below, walk_node}
use Rattle.trees.proofs.Reading.{no_part}
use Rattle.version_delete.specs.Released.{IsFreed, Gives, Released, Blames, BlamesAlways, LosesLast}
use Rattle.version_delete.proofs.Releasing.{Drops, drops_of, drops_kept, gives_less, gives_last, gives_on, gives_geometry, node_released, node_left, suc_less}
use Rattle.version_delete.proofs.Blaming.{row_fault, kept_row, walk_leaves}

module _ {S : Type 0} (g : ground.Ghosts S) (before now read : S) (tree : Part) (loses : LosesLast g before now tree.page.0) (kept : Keeps g now read) where
  drops : Drops g before read tree.page.0 (without_ref (g.refs before tree.page.0))
  drops = drops_kept g before now read tree.page.0 (without_ref (g.refs before tree.page.0)) (drops_of g before now tree.page.0 (without_ref (g.refs before tree.page.0)) loses.counts) kept

  geometry_before : g.geometry now ≡ g.geometry before
  geometry_before = g.leads_geometry before now loses.counts.leads

  -- where the node wasn't read
  pub gives_unread : Gives g before read
  gives_unread = gives_less g before read tree.page.0 drops

  pub unread_fault : (level least : ℕ) (fault : PortFault) → 1 ≤ level → (g.tells now → IsNodeFault (g.geometry now) (g.unit now tree.page.0) level tree.size least tree.page.0 fault) → g.tells before
      → IsWalkFault (g.geometry before) (g.unit before) level least (tree ∷ []) fault
  unread_fault level least fault some told_of told =
      let here : IsNodeFault (g.geometry before) (g.unit before tree.page.0) level tree.size least tree.page.0 fault =
      subst (λ (x : Geometry). IsNodeFault x (g.unit before tree.page.0) level tree.size least tree.page.0 fault) geometry_before
      (subst (λ (us : Units). IsNodeFault (g.geometry now) (us tree.page.0) level tree.size least tree.page.0 fault) loses.counts.units
      (told_of (g.leads_told before now loses.counts.leads told))) in
      walk_node (g.geometry before) (g.unit before) level least 0 (tree ∷ []) fault (λ none. absurd (omega (arith, some, none))) (omega arith) here

  -- where its row was read, and its unit given back
  module _ (given : S) (gave : GivesUnit g read given tree.page.0) (used : g.used now tree.page.0 ≡ true) where
    was_used : g.used before tree.page.0 ≡ true
    was_used = sym (ap (λ (f : ℕ → Bool). f tree.page.0) loses.counts.used) ∙ used

    pub gives_node : Gives g before given
    gives_node = gives_last g before read given tree.page.0 drops gave loses.last was_used

    pub gives_after : (after : S) → Gives g given after → Gives g before after
    gives_after after more = gives_on g before given after gives_node more

    module _ (level : ℕ) (row : List Part) (some : 1 ≤ level) (names : NamesNode (g.geometry now) tree.page.0) (found : g.tells now → IsRowOn (g.geometry now) (g.unit now tree.page.0) level tree.size row) where
      names_before : NamesNode (g.geometry before) tree.page.0
      names_before = subst (λ (x : Geometry). NamesNode x tree.page.0) geometry_before names

      found_before : g.tells before → IsRowOn (g.geometry before) (g.unit before tree.page.0) level tree.size row
      found_before told =
          subst (λ (x : Geometry). IsRowOn x (g.unit before tree.page.0) level tree.size row) geometry_before
          (subst (λ (us : Units). IsRowOn (g.geometry now) (us tree.page.0) level tree.size row) loses.counts.units
          (found (g.leads_told before now loses.counts.leads told)))

      pub all_released : (after : S) → Released g given after (level - 1) (pages_of row) → Released g before after level (tree.page.0 ∷ [])
      all_released after rest =
          subst (λ k. Released g before after k (tree.page.0 ∷ [])) (suc_less level some)
          (node_released g before read given tree.page.0 drops gave loses.last was_used after (level - 1) row names_before.0 (λ told. (found_before told).parts) rest)

      -- a fault on the way down from the trees of the row
      module _ (least : ℕ) (filled : IsFilled (g.geometry now) level least row) (fault : PortFault) where
        row_walk : g.tells before → IsWalkFault (g.geometry before) (g.unit before) (level - 1) (g.geometry before).fan row fault → IsWalkFault (g.geometry before) (g.unit before) level least (tree ∷ []) fault
        row_walk told walk =
            walk_below (g.geometry before) (g.unit before) level least 0 (tree ∷ []) row fault (λ none. absurd (omega (arith, some, none))) (omega arith) names_before (found_before told)
            (subst (λ (x : Geometry). IsFilled x level least row) geometry_before filled) walk

        pub leaf_fault : level ≡ 1 → AnyPart (λ leaf. IsLeafFault (g.geometry given) leaf.page fault) row → g.tells before → IsWalkFault (g.geometry before) (g.unit before) level least (tree ∷ []) fault
        leaf_fault one any told =
            row_walk told (walk_leaves (g.geometry before) (g.unit before) (level - 1) (g.geometry before).fan row fault (omega (arith, one))
            (subst (λ (x : Geometry). AnyPart (λ leaf. IsLeafFault x leaf.page fault) row) (gives_geometry g before given gives_node) any))

        -- the trees of the row are given up one after the other, and the fault came at one of them
        module _ (after : S) (fan i : ℕ) (same_fan : fan ≡ (g.geometry given).fan) (inside : i < length row) (gives : Gives g given after) where
          fan_before : fan ≡ (g.geometry before).fan
          fan_before = same_fan ∙ ap (λ (x : Geometry). x.fan) (gives_geometry g before given gives_node)

          pub tree_fault : Released g given after (level - 1) (pages_of (take i row)) → Blames g after (level - 1) fan (get_or row i no_part ∷ []) fault → Blames g before level least (tree ∷ []) fault
          tree_fault released blames = λ told logged roots at is.
              let left = node_left g before read given tree.page.0 drops gave loses.last was_used (level - 1) row logged roots names_before.0 (found_before told).parts is
              (subst (λ k. StandsAt (g.geometry before) (g.unit before) k tree.page.0) (sym (suc_less level some)) at.0) in
              let walk = row_fault g before given after (level - 1) fan i row fault logged roots inside gives_node.units (gives_geometry g before given gives_node)
              (g.frees_told (IsFreed g before given) before given gives_node.frees told) left.1 left.0 gives released blames in
              row_walk told (subst (λ k. IsWalkFault (g.geometry before) (g.unit before) (level - 1) k row fault) fan_before walk)

          pub tree_way : BlamesAlways g after (level - 1) fan (get_or row i no_part ∷ []) fault → BlamesAlways g before level least (tree ∷ []) fault
          tree_way blames = λ keeps told.
              row_walk told (subst (λ k. IsWalkFault (g.geometry before) (g.unit before) (level - 1) k row fault) fan_before
              (kept_row g keeps before after (level - 1) fan i row fault inside (gives_after after gives) told blames))
