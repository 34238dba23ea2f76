-- A volume whose catalog page alone changes.
use Rattle.std.proofs.Common.{◌≡◌, ◌≢◌, ℕ, ◌<◌, ◌≤◌, Bool, true, false, List, [], ◌∷◌, ◌++◌, refl, sym, ap, subst, ◌∙◌, arith, inl, inr}
use Rattle.std.proofs.lemmas.Bool.{cases_lt}
use Rattle.std.specs.Prelude.{Contains, ◌↔◌}
use Rattle.std.specs.List.{flat_map, AllByRecursion, AllZip}
use Rattle.ex_base.specs.declared.ground.Ground as ground
use Rattle.ex_base.specs.declared.geometry.Geometry.{Geometry}
use Rattle.ex_base.specs.declared.names.Root.{Root}
use Rattle.ex_base.specs.Area.{catalog_no, area_end, InPageArea}
use Rattle.ex_base.specs.Order.{AllDiffer}
use Rattle.ex_base.specs.Ports.{times, PutsImage}
use Rattle.ex_base.proofs.Each.{split_each, each_as, each_parted, each_with, flat_same, zip_with}
use Rattle.ex_base.proofs.Counts.{same_or_not, times-append}
use Rattle.ex_base.proofs.Members.{contains_in}
use Rattle.op_log.specs.declared.record.LogRecord.{LogRecord}
use Rattle.file_index.specs.Index.{IsFilesPage}
use Rattle.file_bodies.proofs.Moving.{moved}
use Rattle.file_bodies.proofs.Rows.{each_at}
use Rattle.object_files.specs.Catalog.{FileEntry, CatalogOf}
use Rattle.trees.specs.Trees.{Units, root_units, RootNamed}
use Rattle.volume_model.specs.Parts.{HasBodies, HasIndex, HasPages, HasNodes, HasBalance, HasUniques, IsLastOf, HoldsOf, content_parts}
use Rattle.volume_model.specs.Links.{Apart, HasObjects, NumbersDiffer}
use Rattle.volume_model.specs.Volume.{Stored, FileContent, Volume, stored_in, pages_of_file, file_pages, unique_of, roots_in, reach_of, table_of}
use Rattle.volume_edits.specs.Ported.{IsVolume, IsApart, units_in}
use Rattle.volume_model.proofs.Kept.{RootKept, StoredKept, units_of_root, named_root, balance_kept, roots_of_stored, objects_kept, files_same}
use Rattle.volume_edits.proofs.Counted.{file_lies, in_area}
use Rattle.volume_edits.proofs.Frames.{past_area}
use Rattle.volume_edits.proofs.PagesRead.{pages_kept}

-- A volume on the same pages and with the same records, under another catalog.
pub record Recataloged (g : Geometry) (units : Units) (v now : Volume) : Type 0 where
  pub pages_same : file_pages now ≡ file_pages v
  pub stored_same : stored_in now ≡ stored_in v
  pub last : now.catalog.last ≡ v.catalog.last
  pub next : v.catalog.next_unique ≤ now.catalog.next_unique
  pub index : AllZip (HasIndex g units) now.catalog.entries now.files
  pub page : AllZip (HasPages units) now.catalog.entries now.files
  pub bodies : AllByRecursion HasBodies now.files

zip_files : {R : FileEntry → FileContent → Type 0} (Q : FileContent → Type 0) (entries : List FileEntry) (files : List FileContent) → ((e : FileEntry) (f : FileContent) → R e f → Q f) → AllZip R entries files → AllByRecursion Q files
zip_files Q [] [] f h = tt
zip_files Q [] (c ∷ files) f h = absurd h
zip_files Q (e ∷ entries) [] f h = absurd h
zip_files Q (e ∷ entries) (c ∷ files) f h = (f e c h.0, zip_files Q entries files f h.1)

module _ {S : Type 0} (g : ground.Ghosts S) (old new : S) (records : List LogRecord) (v now : Volume) (vol : IsVolume g old records v) (image : List ℕ) (puts : PutsImage g old new catalog_no image)
    (tells : g.tells old) (geometry : g.geometry new ≡ g.geometry old) (catalog : CatalogOf image now.catalog) (is : Recataloged (g.geometry old) (units_in g old) v now) where
  abbrev U : Units
  U = units_in g old

  abbrev U' : Units
  U' = units_in g new

  abbrev Stays : ℕ → Type 0
  Stays p = U' p ≡ U p

  stays : (p : ℕ) → p ≢ catalog_no → Stays p
  stays p differ = elim (cases_lt p (area_end (g.geometry old))) [
    | inl lt ↦ in_area g new p (subst (λ (gm : Geometry). p < area_end gm) (sym geometry) lt) ∙ puts.images p differ ∙ sym (in_area g old p lt)
    | inr le ↦ past_area g new p (subst (λ (gm : Geometry). area_end gm ≤ p) (sym geometry) le) ∙ ap (λ (f : ℕ → List ℕ). f p) puts.units ∙ sym (past_area g old p le)
  ]

  held_same : (p : ℕ) → g.held new p ≡ g.held old p
  held_same p = ap (λ (f : ℕ → Bool). f p) puts.held

  used_same : (p : ℕ) → g.used new p ≡ g.used old p
  used_same p = ap (λ (f : ℕ → Bool). f p) puts.used

  catalog_held : g.held old catalog_no ≡ true
  catalog_held = (vol.shows.held catalog_no).1 (contains_in catalog_no (catalog_no ∷ file_pages v) (inl refl))

  apart_new : IsApart g new
  apart_new p area held = elim (same_or_not p catalog_no) [
    | inl same ↦ absurd (let t : g.held old p ≡ true = ap (g.held old) same ∙ catalog_held in let f : g.held old p ≡ false = sym (held_same p) ∙ held in cc)
    | inr differ ↦ puts.images p differ ∙ vol.shows.apart p (subst (λ (gm : Geometry). InPageArea gm p) geometry area) (sym (held_same p) ∙ held) ∙ ap (λ (f : ℕ → List ℕ). f p) (sym puts.units)
  ]

  pages_stay : (e : FileEntry) (f : FileContent) → HasIndex (g.geometry old) U e f → AllByRecursion Stays (pages_of_file f)
  pages_stay e f h = each_as (IsFilesPage (g.geometry old)) Stays (pages_of_file f) (λ p lies. stays p lies.1) (file_lies (g.geometry old) U e f h)

  files_stay : AllByRecursion (λ (f : FileContent). AllByRecursion Stays (pages_of_file f)) now.files
  files_stay = zip_files (λ (f : FileContent). AllByRecursion Stays (pages_of_file f)) now.catalog.entries now.files pages_stay is.index

  index_moved : (e : FileEntry) (f : FileContent) → AllByRecursion Stays (pages_of_file f) → HasIndex (g.geometry old) U e f → HasIndex (g.geometry new) U' e f
  index_moved e f stay has =
      let m = moved (g.geometry old) e.file_no U U' e.level e.root (λ p c. each_at Stays (pages_of_file f) p stay (omega (arith, times-append p f.numbers f.index_pages, ap (times p) has.index_pages, c))) in
      subst (λ (gm : Geometry). HasIndex gm U' e f) (sym geometry) (record { whole = m.whole has.whole; numbers = has.numbers ∙ sym m.keys; index_pages = has.index_pages ∙ sym m.pages })

  -- ---- trees

  units_differ : (u : ℕ) → (Contains (catalog_no ∷ file_pages v) u → ⊥) → u ≢ catalog_no
  units_differ u lacks same = lacks (contains_in u (catalog_no ∷ file_pages v) (inl same))

  roots_kept : AllByRecursion (RootKept U U') (roots_in (stored_in v))
  roots_kept = each_as (λ (root : Root). Apart (root_units U root) (catalog_no ∷ file_pages v)) (RootKept U U') (roots_in (stored_in v))
      (λ root apart. each_as (λ u. ¬ Contains (catalog_no ∷ file_pages v) u) Stays (root_units U root) (λ u lacks. stays u (units_differ u lacks)) apart) vol.shows.parts.1.1.1.1.0.no_file_page

  stored_kept : AllByRecursion (StoredKept U U') (stored_in v)
  stored_kept = roots_of_stored (RootKept U U') (stored_in v) roots_kept

  named : AllByRecursion (λ (root : Root). RootNamed (g.geometry new) U' root.height root.page) (roots_in (stored_in v))
  named = each_with (RootKept U U') (λ (root : Root). RootNamed (g.geometry old) U root.height root.page) (λ (root : Root). RootNamed (g.geometry new) U' root.height root.page) (roots_in (stored_in v))
      (λ root kept n. subst (λ (gm : Geometry). RootNamed gm U' root.height root.page) (sym geometry) (named_root (g.geometry old) U U' root.height root.page kept n)) roots_kept vol.shows.parts.1.1.1.1.0.named

  apart_pages : AllByRecursion (λ (root : Root). Apart (root_units U' root) (catalog_no ∷ file_pages v)) (roots_in (stored_in v))
  apart_pages = each_with (RootKept U U') (λ (root : Root). Apart (root_units U root) (catalog_no ∷ file_pages v)) (λ (root : Root). Apart (root_units U' root) (catalog_no ∷ file_pages v)) (roots_in (stored_in v))
      (λ root kept apart. subst (λ (us : List ℕ). Apart us (catalog_no ∷ file_pages v)) (sym (units_of_root U U' root.height root.page kept)) apart) roots_kept vol.shows.parts.1.1.1.1.0.no_file_page

  balance : AllByRecursion (HasBalance (g.geometry new) U') (roots_in (stored_in v))
  balance = each_with (RootKept U U') (HasBalance (g.geometry old) U) (HasBalance (g.geometry new) U') (roots_in (stored_in v))
      (λ root kept b. subst (λ (gm : Geometry). HasBalance gm U' root) (sym geometry) (balance_kept (g.geometry old) U U' root kept b)) roots_kept vol.shows.parts.1.1.1.1.1.0

  roots_same : roots_in (stored_in now) ≡ roots_in (stored_in v)
  roots_same = ap roots_in is.stored_same

  part_node : HasNodes (g.geometry new) U' now
  part_node = record {
    named = subst (AllByRecursion (λ (root : Root). RootNamed (g.geometry new) U' root.height root.page)) (sym roots_same) named;
    no_file_page = subst (λ (ps : List ℕ). AllByRecursion (λ (root : Root). Apart (root_units U' root) (catalog_no ∷ ps)) (roots_in (stored_in now))) (sym is.pages_same)
        (subst (AllByRecursion (λ (root : Root). Apart (root_units U' root) (catalog_no ∷ file_pages v))) (sym roots_same) apart_pages);
    objects = subst (HasObjects U') (sym is.stored_same) (objects_kept U U' (stored_in v) stored_kept vol.shows.parts.1.1.1.1.0.objects);
  }

  part_unique : HasUniques now
  part_unique =
      let before = vol.shows.parts.1.1.1.1.1.1.0 in
      record {
        differ = subst NumbersDiffer (sym is.stored_same) before.differ;
        some = subst (AllByRecursion (λ (s : Stored). 1 ≤ unique_of s)) (sym is.stored_same) before.some;
        below = each_as (λ (s : Stored). unique_of s < v.catalog.next_unique) (λ (s : Stored). unique_of s < now.catalog.next_unique) (stored_in now) (λ s lt. omega (arith, lt, is.next)) (subst (AllByRecursion (λ (s : Stored). unique_of s < v.catalog.next_unique)) (sym is.stored_same) before.below);
      }

  pub trees_same : flat_map (root_units U') (roots_in (stored_in now)) ≡ flat_map (root_units U) (roots_in (stored_in v))
  trees_same = ap (flat_map (root_units U')) roots_same ∙ flat_same (root_units U) (root_units U') (RootKept U U') (roots_in (stored_in v)) (λ root kept. units_of_root U U' root.height root.page kept) roots_kept

  reach_same : reach_of U' now ≡ reach_of U v
  reach_same = ap (λ (ps : List ℕ). (catalog_no ∷ ps) ++ flat_map (root_units U') (roots_in (stored_in now))) is.pages_same ∙ ap (λ (us : List ℕ). (catalog_no ∷ file_pages v) ++ us) trees_same

  all_parts : AllByRecursion (HoldsOf (g.geometry new) records U' now) content_parts
  all_parts = (
    (
      (let some = (g.geometry new).some_pages in subst (λ (bytes : List ℕ). CatalogOf bytes now.catalog) (sym (in_area g new catalog_no (omega (arith, some)) ∙ puts.image tells)) catalog),
      subst (IsLastOf records) (sym is.last) vol.shows.parts.0.1,
    ),
    (
      (
        zip_with (λ (f : FileContent). AllByRecursion Stays (pages_of_file f)) (HasIndex (g.geometry old) U) (HasIndex (g.geometry new) U') now.catalog.entries now.files index_moved files_stay is.index,
        subst AllDiffer (sym is.pages_same) vol.shows.parts.1.0.1,
      ),
      (
        zip_with (λ (f : FileContent). AllByRecursion Stays (pages_of_file f)) (HasPages U) (HasPages U') now.catalog.entries now.files (λ e f stay has. pages_kept U U' e f.numbers f.pages (split_each Stays f.numbers f.index_pages stay).0 has) files_stay is.page,
        (
          is.bodies,
          (
            part_node,
            (
              subst (AllByRecursion (HasBalance (g.geometry new) U')) (sym roots_same) balance,
              (part_unique, tt),
            ),
          ),
        ),
      ),
    ),
  )

  held_new : (p : ℕ) → (g.held new p ≡ true) ↔ Contains (catalog_no ∷ file_pages now) p
  held_new p = (
    (λ t. subst (λ (ps : List ℕ). Contains (catalog_no ∷ ps) p) (sym is.pages_same) ((vol.shows.held p).0 (sym (held_same p) ∙ t))),
    (λ c. held_same p ∙ (vol.shows.held p).1 (subst (λ (ps : List ℕ). Contains (catalog_no ∷ ps) p) is.pages_same c)),
  )

  pub recataloged : IsVolume g new records now
  recataloged = record {
    shows = record { parts = all_parts; held = held_new; apart = apart_new };
    used = λ u c. used_same u ∙ vol.used u (subst (λ (us : List ℕ). Contains us u) reach_same c);
  }

  pub table_same : table_of U' now ≡ table_of U now
  table_same =
      let kept = subst (AllByRecursion (StoredKept U U')) (sym is.stored_same) stored_kept in
      let files = files_same U U' now.catalog.entries now.files (each_parted (StoredKept U U') (λ (file : FileContent). file.stored) now.files kept) in
      cc files
