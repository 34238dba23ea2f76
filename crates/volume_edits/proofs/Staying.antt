-- A volume stays where nothing that it reaches changes.
use Rattle.std.proofs.Common.{◌≡◌, ℕ, ◌<◌, ◌≤◌, Bool, true, List, ◌∷◌, ◌++◌, sym, ap, subst, ◌∙◌, arith, inl, inr}
use Rattle.std.proofs.lemmas.Bool.{cases_lt}
use Rattle.std.specs.Prelude.{Contains}
use Rattle.std.specs.List.{flat_map, AllByRecursion}
use Rattle.ex_base.specs.declared.ground.Ground as ground
use Rattle.ex_base.specs.declared.geometry.Geometry.{Geometry}
use Rattle.ex_base.specs.declared.names.Root.{Root}
use Rattle.ex_base.specs.Area.{catalog_no, area_end, InPageArea}
use Rattle.ex_base.specs.Ports.{times, Keeps, GivesUnit}
use Rattle.ex_base.proofs.Each.{split_each, each_parted, each_with, flat_same, zip_with}
use Rattle.ex_base.proofs.Counts.{times-append}
use Rattle.ex_base.proofs.Members.{contains_in, each_in}
use Rattle.op_log.specs.declared.record.LogRecord.{LogRecord}
use Rattle.file_bodies.proofs.Moving.{moved}
use Rattle.file_bodies.proofs.Rows.{each_at}
use Rattle.object_files.specs.Catalog.{FileEntry, CatalogOf}
use Rattle.trees.specs.Trees.{Units, root_units, RootNamed}
use Rattle.volume_model.specs.Parts.{HasIndex, HasPages, HasNodes, HasBalance, HoldsOf, content_parts}
use Rattle.volume_model.specs.Links.{Apart}
use Rattle.volume_model.specs.Volume.{FileContent, Volume, stored_in, pages_of_file, file_pages, roots_in, reach_of, table_of}
use Rattle.volume_edits.specs.Ported.{ShowsVolume, IsVolume, IsApart, KeepsReach, units_in}
use Rattle.volume_model.proofs.Kept.{RootKept, StoredKept, units_of_root, named_root, balance_kept, roots_of_stored, objects_kept, files_same}
use Rattle.volume_edits.proofs.Counted.{in_area}
use Rattle.volume_edits.proofs.Frames.{past_area}
use Rattle.volume_edits.proofs.PagesRead.{pages_kept}

module _ {S : Type 0} (g : ground.Ghosts S) (old new : S) (records : List LogRecord) (v : Volume) (vol : ShowsVolume g old records v) (keeps : KeepsReach g old new v) where
  abbrev U : Units
  U = units_in g old

  abbrev U' : Units
  U' = units_in g new

  abbrev Stays : ℕ → Type 0
  Stays u = U' u ≡ U u

  reach_stays : AllByRecursion Stays (catalog_no ∷ file_pages v) × AllByRecursion Stays (flat_map (root_units U) (roots_in (stored_in v)))
  reach_stays = split_each Stays (catalog_no ∷ file_pages v) (flat_map (root_units U) (roots_in (stored_in v))) (each_in Stays (reach_of U v) (λ u inside. keeps.units u (contains_in u (reach_of U v) inside)))

  files_stay : AllByRecursion (λ (f : FileContent). AllByRecursion Stays (pages_of_file f)) v.files
  files_stay = each_parted Stays pages_of_file v.files reach_stays.0.1

  index_moved : (e : FileEntry) (f : FileContent) → AllByRecursion Stays (pages_of_file f) → HasIndex (g.geometry old) U e f → HasIndex (g.geometry new) U' e f
  index_moved e f stay has =
      let m = moved (g.geometry old) e.file_no U U' e.level e.root (λ p c. each_at Stays (pages_of_file f) p stay (omega (arith, times-append p f.numbers f.index_pages, ap (times p) has.index_pages, c))) in
      subst (λ (gm : Geometry). HasIndex gm U' e f) (sym keeps.geometry) (record { whole = m.whole has.whole; numbers = has.numbers ∙ sym m.keys; index_pages = has.index_pages ∙ sym m.pages })

  roots_kept : AllByRecursion (RootKept U U') (roots_in (stored_in v))
  roots_kept = each_parted Stays (root_units U) (roots_in (stored_in v)) reach_stays.1

  pub stored_kept : AllByRecursion (StoredKept U U') (stored_in v)
  stored_kept = roots_of_stored (RootKept U U') (stored_in v) roots_kept

  part_node : HasNodes (g.geometry new) U' v
  part_node = record {
    named = each_with (RootKept U U') (λ (root : Root). RootNamed (g.geometry old) U root.height root.page) (λ (root : Root). RootNamed (g.geometry new) U' root.height root.page) (roots_in (stored_in v))
        (λ root kept n. subst (λ (gm : Geometry). RootNamed gm U' root.height root.page) (sym keeps.geometry) (named_root (g.geometry old) U U' root.height root.page kept n)) roots_kept vol.parts.1.1.1.1.0.named;
    no_file_page = each_with (RootKept U U') (λ (root : Root). Apart (root_units U root) (catalog_no ∷ file_pages v)) (λ (root : Root). Apart (root_units U' root) (catalog_no ∷ file_pages v)) (roots_in (stored_in v))
        (λ root kept apart. subst (λ (us : List ℕ). Apart us (catalog_no ∷ file_pages v)) (sym (units_of_root U U' root.height root.page kept)) apart) roots_kept vol.parts.1.1.1.1.0.no_file_page;
    objects = objects_kept U U' (stored_in v) stored_kept vol.parts.1.1.1.1.0.objects;
  }

  all_parts : AllByRecursion (HoldsOf (g.geometry new) records U' v) content_parts
  all_parts = (
    (subst (λ (bytes : List ℕ). CatalogOf bytes v.catalog) (sym reach_stays.0.0) vol.parts.0.0, vol.parts.0.1),
    (
      (zip_with (λ (f : FileContent). AllByRecursion Stays (pages_of_file f)) (HasIndex (g.geometry old) U) (HasIndex (g.geometry new) U') v.catalog.entries v.files index_moved files_stay vol.parts.1.0.0, vol.parts.1.0.1),
      (
        zip_with (λ (f : FileContent). AllByRecursion Stays (pages_of_file f)) (HasPages U) (HasPages U') v.catalog.entries v.files (λ e f stay has. pages_kept U U' e f.numbers f.pages (split_each Stays f.numbers f.index_pages stay).0 has) files_stay vol.parts.1.1.0,
        (
          vol.parts.1.1.1.0,
          (
            part_node,
            (
              each_with (RootKept U U') (HasBalance (g.geometry old) U) (HasBalance (g.geometry new) U') (roots_in (stored_in v))
                  (λ root kept b. subst (λ (gm : Geometry). HasBalance gm U' root) (sym keeps.geometry) (balance_kept (g.geometry old) U U' root kept b)) roots_kept vol.parts.1.1.1.1.1.0,
              (vol.parts.1.1.1.1.1.1.0, tt),
            ),
          ),
        ),
      ),
    ),
  )

  held_same : (p : ℕ) → g.held new p ≡ g.held old p
  held_same p = ap (λ (f : ℕ → Bool). f p) keeps.held

  pub stays_shown : ShowsVolume g new records v
  stays_shown = record {
    parts = all_parts;
    held = λ p. ((λ t. (vol.held p).0 (sym (held_same p) ∙ t)), (λ c. held_same p ∙ (vol.held p).1 c));
    apart = keeps.apart;
  }

  pub reach_same : reach_of U' v ≡ reach_of U v
  reach_same = ap (λ (us : List ℕ). (catalog_no ∷ file_pages v) ++ us) (flat_same (root_units U) (root_units U') (RootKept U U') (roots_in (stored_in v)) (λ root kept. units_of_root U U' root.height root.page kept) roots_kept)

  pub stays_whole : ((u : ℕ) → Contains (reach_of U v) u → g.used new u ≡ true) → IsVolume g new records v
  stays_whole used = record { shows = stays_shown; used = λ u c. used u (subst (λ (us : List ℕ). Contains us u) reach_same c) }

  pub table_stays : table_of U' v ≡ table_of U v
  table_stays =
      let files = files_same U U' v.catalog.entries v.files (each_parted (StoredKept U U') (λ (file : FileContent). file.stored) v.files stored_kept) in
      cc files

-- ---- where nothing changes, and where a unit is given back that the volume doesn't reach

module _ {S : Type 0} (g : ground.Ghosts S) (old new : S) (v : Volume) where
  -- the bytes of a unit whose image and own bytes stay
  same_unit : (u : ℕ) → g.geometry new ≡ g.geometry old → g.image new u ≡ g.image old u → g.unit new u ≡ g.unit old u → units_in g new u ≡ units_in g old u
  same_unit u geometry image unit = elim (cases_lt u (area_end (g.geometry old))) [
    | inl lt ↦ in_area g new u (subst (λ (gm : Geometry). u < area_end gm) (sym geometry) lt) ∙ image ∙ sym (in_area g old u lt)
    | inr le ↦ past_area g new u (subst (λ (gm : Geometry). area_end gm ≤ u) (sym geometry) le) ∙ unit ∙ sym (past_area g old u le)
  ]

  pub kept_reach : Keeps g old new → IsApart g old → KeepsReach g old new v
  kept_reach keeps apart = record {
    geometry = g.leads_geometry old new keeps.leads;
    held = keeps.held;
    units = λ u c. same_unit u (g.leads_geometry old new keeps.leads) (ap (λ (f : ℕ → List ℕ). f u) keeps.images) (ap (λ (f : ℕ → List ℕ). f u) keeps.units);
    apart = λ p area held. ap (λ (f : ℕ → List ℕ). f p) keeps.images ∙ apart p (subst (λ (gm : Geometry). InPageArea gm p) (g.leads_geometry old new keeps.leads) area) (ap (λ (f : ℕ → Bool). f p) (sym keeps.held) ∙ held) ∙ ap (λ (f : ℕ → List ℕ). f p) (sym keeps.units);
  }

  pub given_reach : (unit : ℕ) → GivesUnit g old new unit → (Contains (reach_of (units_in g old) v) unit → ⊥) → IsApart g new → KeepsReach g old new v
  given_reach unit gives lacks apart =
      let geometry = g.frees_geometry (λ p. p ≡ unit) old new gives.frees in
      record {
        geometry = geometry;
        held = gives.held;
        units = λ u c. same_unit u geometry (ap (λ (f : ℕ → List ℕ). f u) gives.images) (gives.units u (λ same. lacks (subst (Contains (reach_of (units_in g old) v)) same c)));
        apart = apart;
      }

  pub given_used : (unit : ℕ) (records : List LogRecord) → GivesUnit g old new unit → (Contains (reach_of (units_in g old) v) unit → ⊥) → IsVolume g old records v → (u : ℕ) → Contains (reach_of (units_in g old) v) u → g.used new u ≡ true
  given_used unit records gives lacks vol u c = gives.used u (λ same. lacks (subst (Contains (reach_of (units_in g old) v)) same c)) ∙ vol.used u c
