-- What a walk finds where the files hold all parts, and the pieces are in their trees.
use Rattle.std.proofs.Common.{◌≡◌, ℕ, zero, suc, Bool, true, false, List, [], ◌∷◌, take, refl, sym, subst}
use Rattle.std.specs.Prelude.{Contains, ◌-◌}
use Rattle.std.specs.List.{AllByRecursion}
use Rattle.ex_base.specs.declared.geometry.Geometry.{Geometry}
use Rattle.ex_base.specs.declared.names.Root.{Root}
use Rattle.ex_base.specs.Area.{catalog_no}
use Rattle.ex_base.proofs.Each.{each_as}
use Rattle.object_files.specs.Catalog.{Catalog}
use Rattle.page_alloc.specs.UnitSet.{used_at}
use Rattle.session_views.specs.declared.part.Part.{Part}
use Rattle.trees.specs.Trees.{Units, root_units}
use Rattle.version_lists.proofs.Lists.{contains_has, has_back, has_contains, has_flat_from}
use Rattle.volume_model.specs.Links.{Apart}
use Rattle.volume_model.specs.Parts.{HasBodies, HoldsOf, rank}
use Rattle.volume_model.specs.Volume.{FileContent, file_pages, reach_of, roots_in, stored_in}
use Rattle.volume_model.proofs.Places.{each_has}
use Rattle.volume_port.specs.Logged.{is_held}
use Rattle.restart.specs.Content.{FilesReached, IsFirstBad, file_parts, volume_of}
use Rattle.restart.specs.declared.content.Reached.{Reached}
use Rattle.history_load.specs.Placed.{tree_units}
use Rattle.history_load.proofs.OneContent.{HasRecords, one_content}
use Rattle.history_writes.specs.Places.{leaf_place, node_place}
use Rattle.history_load.specs.Reached.{AreLeavesUsed, AreNodesInTrees, IsWalked}

each_taken : {A : Type 0} (P : A → Type 0) (n : ℕ) (xs : List A) → AllByRecursion P xs → AllByRecursion P (take n xs)
each_taken P zero xs each = tt
each_taken P (suc n) [] each = tt
each_taken P (suc n) (x ∷ xs) each = (each.0, each_taken P n xs each.1)

not_true : (b : Bool) → (b ≡ true → ⊥) → b ≡ false
not_true true none = absurd (none refl)
not_true false none = refl

module _ (g : Geometry) (units : Units) (c : Catalog) (leaves nodes : ℕ) (walked : IsWalked g units c leaves nodes) where
  -- no part is the first that fails
  pub none_bad : (part : Part) → IsFirstBad g units c part → ⊥
  none_bad part bad = bad.fails walked.files (each_taken (HoldsOf g [] units (volume_of c walked.files)) (rank part - 2) file_parts walked.holds)

  -- ---- what a walk reached

  module _ (r : Reached) (found : FilesReached g units c r) where
    one_list : walked.files ≡ found.files
    one_list =
        one_content g units c.entries walked.files found.files walked.holds.0.0 found.holds.0.0 walked.holds.1.0 found.holds.1.0
        (each_as HasBodies HasRecords walked.files (λ f bodies. bodies.records) walked.holds.1.1.0) (each_as HasBodies HasRecords found.files (λ f bodies. bodies.records) found.holds.1.1.0)

    -- a unit of a tree is used, and no logged page
    used : (unit : ℕ) → Contains (tree_units units (volume_of c walked.files)) unit → used_at r.units unit ≡ true
    used unit there =
        let here = subst (λ (files : List FileContent). Contains (tree_units units (volume_of c files)) unit) one_list there in
        let v = volume_of c found.files in
        (found.used unit).1 (has_contains (reach_of units v) unit (has_back (catalog_no ∷ file_pages v) (tree_units units v) unit (contains_has (tree_units units v) unit here)))

    free : (unit : ℕ) → Contains (tree_units units (volume_of c walked.files)) unit → is_held r.pages unit ≡ false
    free unit there =
        let v = volume_of c walked.files in
        let root = has_flat_from (root_units units) (roots_in (stored_in v)) unit (contains_has (tree_units units v) unit there) in
        let none = each_has (λ (u : ℕ). ¬ Contains (catalog_no ∷ file_pages v) u) (root_units units root.0)
        (each_has (λ (x : Root). Apart (root_units units x) (catalog_no ∷ file_pages v)) (roots_in (stored_in v)) walked.holds.1.1.1.0.no_file_page root.0 root.1) unit root.2 in
        not_true (is_held r.pages unit) (λ held. none (subst (λ (files : List FileContent). Contains (catalog_no ∷ file_pages (volume_of c files)) unit) (sym one_list) ((found.held unit).0 held)))

    pub leaves_used : AreLeavesUsed g (used_at r.units) leaves
    leaves_used i some most = used (leaf_place g i) (walked.leaves_in i some most)

    pub nodes_in_trees : AreNodesInTrees (used_at r.units) (is_held r.pages) nodes
    nodes_in_trees i some most = (used (node_place i) (walked.nodes_in i some most), free (node_place i) (walked.nodes_in i some most))
