-- The records of a file of a volume are listed.
use Rattle.std.proofs.Common.{◌≡◌, ℕ, suc, List, length, map, Some, sym, subst, ap, ◌∙◌}
use Rattle.std.specs.Prelude.{slice_get}
use Rattle.ex_base.specs.declared.ground.Ground as ground
use Rattle.ex_base.specs.declared.names.Index.{Index}
use Rattle.ex_base.specs.Area.{catalog_no}
use Rattle.ex_base.specs.Order.{AllDiffer}
use Rattle.ex_base.specs.Ports.{Keeps}
use Rattle.file_bodies.specs.Bodies.{bodies_of}
use Rattle.file_bodies.specs.Files.{HasFile}
use Rattle.file_bodies.proofs.Entries.{entries_are}
use Rattle.file_bodies.proofs.Moving.{kept_file}
use Rattle.object_files.specs.Catalog.{FileEntry}
use Rattle.object_files.specs.Edits.{entries_on}
use Rattle.version_lists.specs.Sorted.{in_order}
use Rattle.versions.specs.Listed.{AreReadable}
use Rattle.volume_edits.specs.Ported.{index_named}
use Rattle.record_lists.specs.declared.Listed.{Listed}
use Rattle.record_lists.specs.Listed.{listed_of}
use Rattle.history_model.specs.History.{HistoryFile}
use Rattle.history_plans.specs.Plans.{StreamPlan, number_listed}
use Rattle.history_dump.specs.Items.{IsListedFile, IsListedVersion, records_of}
use Rattle.history_dump.specs.Positions.{AreRecordsOf}
use Rattle.history_dump.proofs.Steps.{zip_long}

module _ {S : Type 0} (g : ground.Ghosts S) (a b : S) (plan : StreamPlan) (at : ℕ) (f : HistoryFile) (is : IsListedFile g a plan at f) (kept : Keeps g a b) (number : ℕ) (named : number ≡ is.entry.file_no) where
  file_there : HasFile g b (index_named is.entry)
  file_there = kept_file g a b (index_named is.entry) kept is.file

  pub file_listed : (records : List Listed)
      → ((index : Index) → HasFile g b index → index.file_no ≡ number → AllDiffer (map number_listed (map listed_of (bodies_of (g.image b) index))) → records ≡ in_order number_listed (map listed_of (bodies_of (g.image b) index)))
      → AreRecordsOf (g.image a) (suc at) records × (length records ≡ length f.versions)
  file_listed records listed =
      let differ : AllDiffer (map number_listed (map listed_of (bodies_of (g.image b) (index_named is.entry)))) =
      subst (λ (image : ℕ → List ℕ). AllDiffer (map number_listed (map listed_of (bodies_of image (index_named is.entry))))) (sym kept.images) is.differ in
      let records_are : records ≡ records_of (g.image a) (index_named is.entry) =
      listed (index_named is.entry) file_there (sym named) differ ∙ ap (λ (image : ℕ → List ℕ). records_of image (index_named is.entry)) kept.images in
      let entry : slice_get (entries_on (g.image a catalog_no)) at ≡ Some is.entry = ap (λ (es : List FileEntry). slice_get es at) (entries_are (g.image a catalog_no) is.catalog is.spelled) ∙ is.entry_is in
      let long = zip_long (IsListedVersion g a plan (index_named is.entry)) (records_of (g.image a) (index_named is.entry)) f.versions is.versions in
      ((is.entry, entry, records_are), ap length records_are ∙ long)

  pub listing_sound : ((index : Index) → HasFile g b index → index.file_no ≡ number → AreReadable (bodies_of (g.image b) index) → ⊥) → ⊥
  listing_sound sound =
      sound (index_named is.entry) file_there (sym named) (subst (λ (image : ℕ → List ℕ). AreReadable (bodies_of image (index_named is.entry))) (sym kept.images) is.readable)
