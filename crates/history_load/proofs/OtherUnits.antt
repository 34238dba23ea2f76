-- What stands behind the catalog doesn't hang on the catalog's page.
use Rattle.std.proofs.Common.{◌≡◌, ◌≢◌, ℕ, List, ◌∷◌, refl, sym, subst, inl}
use Rattle.std.specs.Prelude.{Contains}
use Rattle.std.specs.List.{AllByRecursion}
use Rattle.ex_base.specs.declared.geometry.Geometry.{Geometry}
use Rattle.ex_base.specs.declared.names.Root.{Root}
use Rattle.ex_base.specs.Area.{catalog_no}
use Rattle.ex_base.proofs.Each.{each_as, each_parted, each_with, flat_same, split_each, zip_with}
use Rattle.file_index.specs.Index.{IsFilesPage}
use Rattle.object_files.specs.Catalog.{Catalog}
use Rattle.trees.specs.Trees.{Units, RootNamed, root_units}
use Rattle.trees.proofs.KeptRoots.{RootKept, named_root, units_of_root}
use Rattle.version_lists.proofs.Lists.{has_contains}
use Rattle.volume_model.specs.Links.{Apart}
use Rattle.volume_model.specs.Parts.{HasBalance, HasIndex, HasNodes, HasPages}
use Rattle.volume_model.specs.SameVolume.{PagesKept, RootsKept, StoredKept, balance_kept, index_kept, objects_kept, pages_kept}
use Rattle.volume_model.specs.Volume.{FileContent, Stored, Volume, file_pages, pages_of_file, root_in, roots_in, stored_in}
use Rattle.volume_model.proofs.FilePages.{file_pages_are}
use Rattle.restart.specs.Content.{FilesHold, volume_of}
use Rattle.history_load.specs.Placed.{tree_units}

module _ (g : Geometry) (old new : Units) (other : (u : ℕ) → u ≢ catalog_no → new u ≡ old u) (c : Catalog) (files : List FileContent) (holds : FilesHold g old c 6 files) where
  abbrev v : Volume
  v = volume_of c files

  pages_stay : AllByRecursion (PagesKept old new) files
  pages_stay =
      each_as (λ (f : FileContent). AllByRecursion (IsFilesPage g) (pages_of_file f)) (PagesKept old new) files
      (λ f are. each_as (IsFilesPage g) (λ (u : ℕ). new u ≡ old u) (pages_of_file f) (λ u is. other u is.1) are)
      (each_parted (IsFilesPage g) pages_of_file files (file_pages_are g old v holds.0.0))

  -- a unit of a tree isn't the catalog's page
  pub apart_from_catalog : (u : ℕ) → (¬ Contains (catalog_no ∷ file_pages v) u) → u ≢ catalog_no
  apart_from_catalog u none is = absurd (none (subst (Contains (catalog_no ∷ file_pages v)) (sym is) (has_contains (catalog_no ∷ file_pages v) catalog_no (inl refl))))

  roots_stay : RootsKept old new (roots_in (stored_in v))
  roots_stay =
      each_as (λ (root : Root). Apart (root_units old root) (catalog_no ∷ file_pages v)) (RootKept old new) (roots_in (stored_in v))
      (λ root apart. each_as (λ (u : ℕ). ¬ Contains (catalog_no ∷ file_pages v) u) (λ (u : ℕ). new u ≡ old u) (root_units old root) (λ u none. other u (apart_from_catalog u none)) apart)
      holds.1.1.1.0.no_file_page

  pub same_trees : tree_units new v ≡ tree_units old v
  same_trees = flat_same (root_units old) (root_units new) (RootKept old new) (roots_in (stored_in v)) (λ root kept. units_of_root old new root.height root.page kept) roots_stay

  stored_stay : AllByRecursion (StoredKept old new) (stored_in v)
  stored_stay = each_parted (RootKept old new) (λ (s : Stored). root_in s.body.content) (stored_in v) roots_stay

  nodes_stay : HasNodes g old v → HasNodes g new v
  nodes_stay h = record {
    named = each_with (RootKept old new) (λ (root : Root). RootNamed g old root.height root.page) (λ (root : Root). RootNamed g new root.height root.page) (roots_in (stored_in v)) (λ root kept named. named_root g old new root.height root.page kept named) roots_stay h.named;
    no_file_page = each_with (RootKept old new) (λ (root : Root). Apart (root_units old root) (catalog_no ∷ file_pages v)) (λ (root : Root). Apart (root_units new root) (catalog_no ∷ file_pages v)) (roots_in (stored_in v))
        (λ root kept apart. subst (λ (us : List ℕ). Apart us (catalog_no ∷ file_pages v)) (sym (units_of_root old new root.height root.page kept)) apart) roots_stay h.no_file_page;
    objects = objects_kept old new (stored_in v) stored_stay h.objects;
  }

  -- So the files hold there too.
  pub still_hold : FilesHold g new c 6 files
  still_hold = (
    (zip_with (PagesKept old new) (HasIndex g old) (HasIndex g new) c.entries files (λ entry f kept has. index_kept g old new entry f (split_each (λ u. new u ≡ old u) f.numbers f.index_pages kept).1 has) pages_stay holds.0.0, holds.0.1),
    (
      zip_with (PagesKept old new) (HasPages old) (HasPages new) c.entries files (λ entry f kept has. pages_kept old new entry f.numbers f.pages (split_each (λ u. new u ≡ old u) f.numbers f.index_pages kept).0 has) pages_stay holds.1.0,
      (
        holds.1.1.0,
        (
          nodes_stay holds.1.1.1.0,
          (
            each_with (RootKept old new) (HasBalance g old) (HasBalance g new) (roots_in (stored_in v)) (λ root kept balance. balance_kept g old new root kept balance) roots_stay holds.1.1.1.1.0,
            holds.1.1.1.1.1,
          ),
        ),
      ),
    ),
  )
