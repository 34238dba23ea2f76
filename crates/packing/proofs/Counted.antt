-- How many nodes lead to high leaves, as a port over a volume at rest reads them.
use Rattle.std.proofs.Common.{◌≡◌, ℕ, List, [], ◌++◌, Option, Some, None, refl, sym, ap, subst, ◌∙◌}
use Rattle.std.specs.Prelude.{Contains}
use Rattle.std.specs.List.{AllByRecursion, flat_map}
use Rattle.ex_base.specs.declared.geometry.Geometry.{Geometry}
use Rattle.ex_base.specs.declared.names.PageNo.{PageNo}
use Rattle.ex_base.specs.declared.names.Root.{Root}
use Rattle.ex_base.proofs.Each.{each_as}
use Rattle.ex_base.proofs.Members.{in_contains}
use Rattle.disk_model.specs.Outside.{Outside}
use Rattle.trees.specs.Damage.{IsWhole}
use Rattle.trees.specs.Owners.{page_here}
use Rattle.trees.specs.Trees.{RootNamed, Units, root_units_at}
use Rattle.trees.proofs.KeptRoots.{RootKept}
use Rattle.trees.proofs.SameUnits.{Kept}
use Rattle.tree_store.specs.Stored.{unit_bytes}
use Rattle.compact.specs.High.{high_leaves, need_of, nodes_above, root_high_leaves, root_nodes_above}
use Rattle.compact.proofs.Levels.{high_same}
use Rattle.volume_model.specs.Volume.{Decoded, roots_in, stored_in, units_of}
use Rattle.volume_port.specs.State.{IsAtRest}
use Rattle.volume_port.specs.declared.state.VolumeState.{VolumeState}
use Rattle.packing.specs.Loop.{AreRootsIn}
use Rattle.packing.proofs.Reading.{units_home}
use Rattle.packing.proofs.Trees.{home_named, home_whole}

-- ---- a root's tree that is kept has the same nodes above high leaves, and the same of these

nodes_here : (g : Geometry) (dense : ℕ) (u v : Units) (height : ℕ) (page : Option PageNo) → Kept u v (root_units_at u height page) → flat_map (nodes_above g dense v height) (page_here page) ≡ flat_map (nodes_above g dense u height) (page_here page)
nodes_here g dense u v height None kept = refl
nodes_here g dense u v height (Some page) kept = ap (λ (xs : List ℕ). xs ++ []) (high_same g dense u v height page.0 kept).nodes

leaves_here : (g : Geometry) (dense : ℕ) (u v : Units) (height : ℕ) (page : Option PageNo) → Kept u v (root_units_at u height page) → flat_map (high_leaves g dense v height) (page_here page) ≡ flat_map (high_leaves g dense u height) (page_here page)
leaves_here g dense u v height None kept = refl
leaves_here g dense u v height (Some page) kept = ap (λ (xs : List ℕ). xs ++ []) (high_same g dense u v height page.0 kept).leaves

pub same_nodes : (g : Geometry) (dense : ℕ) (u v : Units) (root : Root) → RootKept u v root → root_nodes_above g dense v root ≡ root_nodes_above g dense u root
same_nodes g dense u v root kept = nodes_here g dense u v root.height root.page kept

pub same_leaves : (g : Geometry) (dense : ℕ) (u v : Units) (root : Root) → RootKept u v root → root_high_leaves g dense v root ≡ root_high_leaves g dense u root
same_leaves g dense u v root kept = leaves_here g dense u v root.height root.page kept

-- ---- as a port reads them

abbrev pub counted_roots : Decoded → List ℕ → ℕ → List Root → ℕ
counted_roots d image dense roots = need_of d.geometry dense (units_of d image) roots

module _ (w : Outside) (volume : VolumeState) (d : Decoded) (disk : List ℕ) (rests : IsAtRest w volume d disk) where
  abbrev home : Geometry → Units
  home geometry = unit_bytes geometry w.disk

  pub counted_need : (dense : ℕ) (roots : List Root) → AreRootsIn d.volume roots → (need : ℕ)
      → (AllByRecursion (λ (root : Root). RootNamed volume.geometry (home volume.geometry) root.height root.page) roots → need ≡ need_of volume.geometry dense (home volume.geometry) roots)
      → need ≡ counted_roots d disk dense roots
  counted_need dense roots are need count =
      let named : AllByRecursion (λ (root : Root). RootNamed volume.geometry (home volume.geometry) root.height root.page) roots =
      subst (λ (g : Geometry). AllByRecursion (λ (root : Root). RootNamed g (home volume.geometry) root.height root.page) roots) rests.geometry
      (each_as (λ (root : Root). Contains (roots_in (stored_in d.volume)) root) (λ (root : Root). RootNamed d.geometry (home volume.geometry) root.height root.page) roots
      (λ root there. home_named w volume d disk rests root (in_contains root (roots_in (stored_in d.volume)) there)) are) in
      count named ∙ ap (λ (g : Geometry). need_of g dense (home volume.geometry) roots) (sym rests.geometry) ∙ ap (λ (units : Units). need_of d.geometry dense units roots) (units_home w volume d disk rests)

  pub sound_roots : (roots : List Root) → AreRootsIn d.volume roots → (AllByRecursion (IsWhole volume.geometry (home volume.geometry)) roots → ⊥) → ⊥
  sound_roots roots are never =
      never (subst (λ (g : Geometry). AllByRecursion (IsWhole g (home volume.geometry)) roots) rests.geometry
      (each_as (λ (root : Root). Contains (roots_in (stored_in d.volume)) root) (IsWhole d.geometry (home volume.geometry)) roots
      (λ root there. home_whole w volume d disk rests root (in_contains root (roots_in (stored_in d.volume)) there)) are))
