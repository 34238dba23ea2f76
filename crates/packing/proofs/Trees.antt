-- The trees of a volume at rest.
use Rattle.std.proofs.Common.{◌≡◌, ℕ, true, List, ◌∷◌, inl, refl, sym, subst}
use Rattle.std.specs.Prelude.{Contains}
use Rattle.std.specs.List.{AllByRecursion, flat_map}
use Rattle.ex_base.specs.declared.names.Root.{Root}
use Rattle.ex_base.specs.Area.{catalog_no}
use Rattle.ex_base.proofs.Members.{In, contains_in, each_in, in_right, into_flat, of_each}
use Rattle.disk_model.specs.Outside.{Outside}
use Rattle.object_records.specs.Record.{Content, Large}
use Rattle.page_alloc.specs.UnitSet.{used_at}
use Rattle.trees.specs.Damage.{IsWhole}
use Rattle.trees.specs.Made.{Has}
use Rattle.trees.specs.Trees.{RootNamed, Units, root_bytes, root_units}
use Rattle.tree_store.specs.Stored.{unit_bytes}
use Rattle.volume_model.specs.Links.{Apart}
use Rattle.volume_model.specs.Parts.{HasBalance, HoldsOf, content_parts}
use Rattle.volume_model.specs.Volume.{Decoded, Stored, file_pages, reach_of, root_in, roots_in, stored_in, units_of}
use Rattle.volume_moves.proofs.Moving.{unit_in}
use Rattle.volume_port.specs.State.{IsAtRest}
use Rattle.volume_port.specs.declared.state.VolumeState.{VolumeState}
use Rattle.packing.proofs.Reading.{units_home}

module _ (w : Outside) (volume : VolumeState) (d : Decoded) (disk : List ℕ) (rests : IsAtRest w volume d disk) where
  abbrev units : Units
  units = units_of d disk

  abbrev roots : List Root
  roots = roots_in (stored_in d.volume)

  whole : AllByRecursion (HoldsOf d.geometry d.records (units_of d disk) d.volume) content_parts
  whole = rests.committed.parts.1.1

  pub named : (root : Root) → In root roots → RootNamed d.geometry units root.height root.page
  named root m = of_each (λ (r : Root). RootNamed d.geometry units r.height r.page) root roots whole.1.1.1.1.0.named m

  balance : (root : Root) → In root roots → HasBalance d.geometry units root
  balance root m = of_each (HasBalance d.geometry units) root roots whole.1.1.1.1.1.0 m

  off_in : (root : Root) → In root roots → (u : ℕ) → In u (root_units units root) → Contains (catalog_no ∷ file_pages d.volume) u → ⊥
  off_in root m u h =
      of_each (λ (x : ℕ). Contains (catalog_no ∷ file_pages d.volume) x → ⊥) u (root_units units root)
      (of_each (λ (r : Root). Apart (root_units units r) (catalog_no ∷ file_pages d.volume)) root roots whole.1.1.1.1.0.no_file_page m) h

  pub off_pages : (root : Root) → In root roots → (u : ℕ) → Has (root_units units root) u → Contains (catalog_no ∷ file_pages d.volume) u → ⊥
  off_pages root m u h = off_in root m u (unit_in (root_units units root) u h)

  reached : (root : Root) → In root roots → (u : ℕ) → In u (root_units units root) → Contains (reach_of units d.volume) u
  reached root m u h = contains_in u (reach_of units d.volume) (in_right u (catalog_no ∷ file_pages d.volume) (flat_map (root_units units) roots) (into_flat (root_units units) u root roots m h))

  pub in_use : (root : Root) → In root roots → (u : ℕ) → Has (root_units units root) u → used_at volume.units u ≡ true
  in_use root m u h = (rests.knows.units u).1 (reached root m u (unit_in (root_units units root) u h))

  -- the root of a large record
  pub root_there : (s : Stored) (root : Root) → In s (stored_in d.volume) → s.body.content ≡ Large root → In root roots
  root_there s root there large = into_flat (λ (x : Stored). root_in x.body.content) root s (stored_in d.volume) there (subst (λ (c : Content). In root (root_in c)) (sym large) (inl refl))

  pub whole_root : (root : Root) → In root roots → IsWhole d.geometry units root
  whole_root root m =
      let balanced = balance root m in
      record {
        bytes = root_bytes units root;
        spells = record { named = named root m; sized = balanced.sized; balanced = balanced.balanced; spelled = refl };
        avoids = each_in (λ (p : ℕ). p ≡ catalog_no → ⊥) (root_units units root)
            (λ u there same. off_in root m u there (contains_in u (catalog_no ∷ file_pages d.volume) (inl same)));
      }

  -- ---- as a port over the state has them

  pub home_named : (root : Root) → In root roots → RootNamed d.geometry (unit_bytes volume.geometry w.disk) root.height root.page
  home_named root m = subst (λ (u : Units). RootNamed d.geometry u root.height root.page) (sym (units_home w volume d disk rests)) (named root m)

  pub home_whole : (root : Root) → In root roots → IsWhole d.geometry (unit_bytes volume.geometry w.disk) root
  home_whole root m = subst (λ (u : Units). IsWhole d.geometry u root) (sym (units_home w volume d disk rests)) (whole_root root m)
