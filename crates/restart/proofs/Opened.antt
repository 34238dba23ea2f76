-- A volume that was read, and then opened.
use Rattle.std.proofs.Common.{◌≡◌, ◌≤◌, ◌<◌, ◌↔◌, ℕ, Bool, true, inl, inr, ⊎_elim, List, [], ◌∷◌, length, nat_eq, Option, Some, is_some, IsTrue, unwrap_or, refl, sym, ap, subst, ◌∙◌, arith}
use Rattle.std.specs.Prelude.{Contains}
use Rattle.std.specs.List.{AllByRecursion}
use Rattle.std.specs.Map.{lookup}
use Rattle.std.proofs.lemmas.Bool.{cases_lt}
use Rattle.std.proofs.lemmas.List.{nil_from_length}
use Rattle.ex_base.specs.declared.geometry.Geometry.{Geometry}
use Rattle.ex_base.specs.Area.{catalog_no, page_at}
use Rattle.ex_base.proofs.Each.{each_from}
use Rattle.buffer_groups.specs.Frames.{Frames}
use Rattle.disk_model.specs.Outside.{Outside, IsWorld, Leaves, WritesNothing}
use Rattle.disk_model.specs.Runs.{honest_on, leaves_start, leaves_quiet, leaves_trans, leaves_wider, told_value}
use Rattle.meta_pages.specs.Homes.{homes_forgotten}
use Rattle.meta_pages.specs.Overlays.{Overlays, committed_image, image_at, over}
use Rattle.object_files.specs.Catalog.{Catalog}
use Rattle.op_log.specs.declared.record.LogRecord.{LogRecord}
use Rattle.op_log.specs.AfterLog.{after_log, logged}
use Rattle.op_log.specs.Decoding.{last_number}
use Rattle.op_log.specs.Log.{log_end}
use Rattle.op_log.specs.State.{LogState}
use Rattle.page_alloc.specs.UnitSet.{refs_at, used_at}
use Rattle.commits.proofs.Closing.{settled_agrees}
use Rattle.commits.proofs.Reached.{reach_behind, without_last}
use Rattle.volume_model.specs.Committed.{Checkpointed, Committed, SameAfterLog, StandsForVolume, with_records}
use Rattle.volume_model.specs.FreshView.{KnowsUnits, OwnsUnits}
use Rattle.volume_model.specs.Parts.{Decodes, HasRecords, HoldsOf, StandsFor, SuperOf, content_parts}
use Rattle.volume_model.specs.SameVolume.{reach_kept}
use Rattle.trees.specs.Owners.{root_pages}
use Rattle.trees.proofs.SameUnits.{Kept}
use Rattle.volume_model.specs.Volume.{Decoded, file_pages, reach_of, roots_in, stored_in, table_of, units_after, units_of}
use Rattle.volume_port.specs.Logged.{is_held}
use Rattle.restart.proofs.BadParts.{decoded_as, whole}
use Rattle.restart.proofs.LastRecord.{no_rows}
use Rattle.restart.specs.declared.content.Reached.{Reached}
use Rattle.restart.proofs.Owners.{owned_kept}
use Rattle.restart.specs.Content.{FilesReached, volume_of}
use Rattle.volume_model.specs.Homes.{home}
use Rattle.restart.specs.Opening.{HasCatalog, HoldsAs, OpenedOn, OpensAs, ReadsAs, empty_main}

-- the page that was read is the one after the log
pub page_after_log : (g : Geometry) (image : List ℕ) (records : List LogRecord) (m : Overlays) (page : List ℕ) → ((p : ℕ) → committed_image m p ≡ logged records p)
    → page ≡ unwrap_or (committed_image m catalog_no) (page_at g image catalog_no) → page ≡ after_log g records image catalog_no
page_after_log g image records m page just is = is ∙ ap (λ (o : Option (List ℕ)). unwrap_or o (page_at g image catalog_no)) (just catalog_no)

abbrev pub log_of : Geometry → ℕ → ℕ → LogState
log_of g end count = record { geometry = g; end = end; count = count }

pub same_log : (g : Geometry) {x y m n : ℕ} → x ≡ y → m ≡ n → log_of g x m ≡ log_of g y n
same_log g ends count = cc (ends, count)

-- the catalog of the page that was read
pub catalog_after_log : (g : Geometry) (image : List ℕ) (records : List LogRecord) (page : List ℕ) (last : Option ℕ) (c : Catalog) → page ≡ after_log g records image catalog_no → last ≡ last_number records → HasCatalog page last c
    → HasCatalog (after_log g records image catalog_no) (last_number records) c
catalog_after_log g image records page last c is number here = subst (λ (n : Option ℕ). HasCatalog (after_log g records image catalog_no) n c) number (subst (λ (p : List ℕ). HasCatalog p last c) is here)

pub catalog_before_log : (g : Geometry) (image : List ℕ) (records : List LogRecord) (page : List ℕ) (last : Option ℕ) (c : Catalog) → page ≡ after_log g records image catalog_no → last ≡ last_number records
    → HasCatalog (after_log g records image catalog_no) (last_number records) c → HasCatalog page last c
catalog_before_log g image records page last c is number here = subst (λ (n : Option ℕ). HasCatalog page n c) (sym number) (subst (λ (p : List ℕ). HasCatalog p (last_number records) c) (sym is) here)

-- where no page was touched, each has its committed image
pub no_working : (m : Overlays) (page : ℕ) → m.working ≡ [] → image_at m page ≡ committed_image m page
no_working m page none = ap (λ (rows : List (ℕ × Option (List ℕ))). over (lookup (nat_eq page) rows) (committed_image m page)) none

pub reads_as : (image : List ℕ) (g g' : Geometry) (records : List LogRecord) (c : Catalog) (m m' : Overlays) (log : LogState) (r : Reached) (used : ℕ → Bool) (refs : ℕ → ℕ) (held : ℕ → Bool) → SuperOf image g → HasRecords g image records
    → HasCatalog (after_log g records image catalog_no) (last_number records) c → FilesReached g (units_after g records image) c r → ((p : ℕ) → committed_image m p ≡ logged records p) → m' ≡ m → g' ≡ g
    → log ≡ log_of g (log_end records) (length records) → used ≡ used_at r.units → refs ≡ refs_at r.units → held ≡ is_held r.pages
    → ReadsAs image g' log m'.committed used refs held
reads_as image g g' records c m m' log r used refs held super says here reached just same_meta same_geometry counts same_used same_refs same_held = record {
  decoded = decoded_as g records c reached.files;
  geometry = sym same_geometry;
  parts = whole image g records super says c here reached.files reached.holds;
  shown = record { just = λ p. ap (λ (o : Overlays). committed_image o p) same_meta ∙ just p; log_is = counts };
  knows = record {
    units = subst (λ (f : ℕ → Bool). (unit : ℕ) → (f unit ≡ true) ↔ Contains (reach_of (units_after g records image) (volume_of c reached.files)) unit) (sym same_used) reached.used;
    pages = subst (λ (f : ℕ → Bool). (page : ℕ) → (f page ≡ true) ↔ Contains (catalog_no ∷ file_pages (volume_of c reached.files)) page) (sym same_held) reached.held;
  };
  owned = subst (λ (f : ℕ → ℕ). OwnsUnits g (units_after g records image) (volume_of c reached.files) used f) (sym same_refs)
      (subst (λ (f : ℕ → Bool). OwnsUnits g (units_after g records image) (volume_of c reached.files) f (refs_at r.units)) (sym same_used) reached.owned);
}

-- where no record counts, the log ends at its front and no page has an image
pub none_logged : (g : Geometry) (records : List LogRecord) (m m' : Overlays) (log : LogState) → ((p : ℕ) → committed_image m p ≡ logged records p) → m' ≡ m → log ≡ log_of g (log_end records) (length records) → log.count ≡ 0
    → (log.end ≡ 0) × (m'.committed ≡ [])
none_logged g records m m' log just same counts none =
    let no_records : records ≡ [] = nil_from_length records (sym (ap (λ (s : LogState). s.count) counts) ∙ none) in (
      ap (λ (s : LogState). s.end) counts ∙ ap log_end no_records,
      ap (λ (o : Overlays). o.committed) same ∙ no_rows m.committed (λ p. just p ∙ ap (λ (rs : List LogRecord). logged rs p) no_records),
    )

-- ---- what a volume reaches, after a checkpoint

pub kept_after : (d : Decoded) (image later : List ℕ) → AllByRecursion (HoldsOf d.geometry d.records (units_of d image) d.volume) content_parts → SameAfterLog d image [] later
    → Kept (units_of d image) (units_of (with_records d [] d.volume) later) (reach_of (units_of d image) d.volume)
kept_after d image later content same =
    let old = units_of d image in
    let new = units_of (with_records d [] d.volume) later in
    each_from (λ u. new u ≡ old u) (reach_of old d.volume) (λ u reached. same.pages u (reach_behind d.geometry old d.volume u (without_last d.geometry d.records old d.volume content) reached))

pub same_reach_after : (d : Decoded) (image later : List ℕ) → AllByRecursion (HoldsOf d.geometry d.records (units_of d image) d.volume) content_parts → SameAfterLog d image [] later
    → reach_of (units_of (with_records d [] d.volume) later) d.volume ≡ reach_of (units_of d image) d.volume
same_reach_after d image later content same = reach_kept (units_of d image) (units_of (with_records d [] d.volume) later) d.volume (kept_after d image later content same)

-- ---- up to the checkpoint

-- nothing is written until then
pub quiet_leaves : (a b c : Outside) (image : List ℕ) → IsWorld a → IsTrue a.honest → WritesNothing a b → WritesNothing b c → Leaves a c (OpensAs a.images image)
quiet_leaves a b c image world honest one two =
    let Q = OpensAs a.images image in
    leaves_quiet Q (leaves_quiet Q (leaves_start a Q world (λ e here. inl here)) honest one) (honest_on one.only.goes honest) two

-- what was read is committed
pub read_committed : (a b c : Outside) (image : List ℕ) (g : Geometry) (log : LogState) (rows : List (ℕ × List ℕ)) (used : ℕ → Bool) (refs : ℕ → ℕ) (held : ℕ → Bool) → IsTrue a.honest → a.disk ≡ Some image → WritesNothing a b → (IsTrue a.honest → (d : List ℕ) → a.disk ≡ Some d → (e : List ℕ) → b.images e → e ≡ d)
    → WritesNothing b c → (reads : ReadsAs image g log rows used refs held) → Committed c.images reads.decoded image log rows
read_committed a b c image g log rows used refs held honest holds one settles two reads = record {
  parts = reads.parts;
  durable = settled_agrees reads.decoded image c.images (λ e here. settles honest image holds e (two.back (honest_on one.only.goes honest) e here));
  shown = reads.shown;
}

-- what a crash leaves until the end
pub opens_as : (a b c w : Outside) (image : List ℕ) (d : Decoded) → IsWorld a → IsTrue a.honest → WritesNothing a b → WritesNothing b c → StandsFor image (table_of (units_of d image) d.volume) → Leaves c w (StandsForVolume d image)
    → Leaves a w (OpensAs a.images image)
opens_as a b c w image d world honest one two was leaves =
    leaves_trans (OpensAs a.images image) (quiet_leaves a b c image world honest one two)
    (leaves_wider (StandsForVolume d image) (OpensAs a.images image) leaves (λ e stands. inr (inr (record { table = table_of (units_of d image) d.volume; was = was; stands = stands }))))

-- what the volume reaches lies behind the log, where it is what it was
still_knows : (d : Decoded) (image later : List ℕ) (used held : ℕ → Bool) → Decodes image d → SameAfterLog d image [] later → KnowsUnits d image used held → KnowsUnits (with_records d [] d.volume) later used held
still_knows d image later used held (super, (log, content)) same knows = record {
  units = λ unit. subst (λ (us : List ℕ). (used unit ≡ true) ↔ Contains us unit) (sym (same_reach_after d image later content same)) (knows.units unit);
  pages = knows.pages;
}

-- once no record counts, each page stands at its home
owned_at_home : (d : Decoded) (image later : List ℕ) (used : ℕ → Bool) (refs : ℕ → ℕ) → SameAfterLog d image [] later → OwnsUnits d.geometry (units_of d image) d.volume used refs
    → OwnsUnits d.geometry (home d.geometry later) d.volume used refs
owned_at_home d image later used refs same owned =
    owned_kept d.geometry (units_of d image) (home d.geometry later) (λ page area. same.pages page area.0) used refs (catalog_no ∷ file_pages d.volume) (root_pages (roots_in (stored_in d.volume))) owned

pub opened_on : (w : Outside) (image : List ℕ) (g : Geometry) (log log' : LogState) (rows rows' : List (ℕ × List ℕ)) (used : ℕ → Bool) (refs : ℕ → ℕ) (held : ℕ → Bool) (reads : ReadsAs image g log rows used refs held)
    → ((later : List ℕ) × (w.disk ≡ Some later) × Checkpointed reads.decoded image w.images later log' rows') → OpenedOn image g w log' rows' used refs held
opened_on w image g log log' rows rows' used refs held reads done = record {
  decoded = reads.decoded;
  disk = done.0;
  geometry = reads.geometry;
  was = reads.parts;
  holds = done.1;
  committed = done.2.committed;
  same = done.2.same;
  knows = still_knows reads.decoded image done.0 used held reads.parts done.2.same reads.knows;
  owned = owned_at_home reads.decoded image done.0 used refs done.2.same reads.owned;
}

-- ---- what the disk holds

-- where nothing was written
pub holds_still : (w : Outside) (image : List ℕ) → w.disk ≡ Some image → HoldsAs image w
holds_still w image is = (image, is, inl refl)

-- while a checkpoint is made, whether it comes to its end or not
pub holds_same : (a b : Outside) (image : List ℕ) (d : Decoded) → IsWorld b → Decodes image d → a.disk ≡ Some image → is_some b.disk ≡ is_some a.disk → Leaves a b (StandsForVolume d image) → HoldsAs image b
holds_same a b image d world parts holds told leaves =
    let now = told_value b.disk (told ∙ ap is_some holds) in (
      now.0,
      now.1,
      inr (record {
        table = table_of (units_of d image) d.volume;
        was = record { decoded = d; parts = parts; same = refl };
        stands = leaves.now now.0 (world.held_may_stay now.0 now.1);
      }),
    )

-- ---- the parts

-- a group without frames forgets nothing
pub nothing_forgotten : (g : Geometry) (rows : List (ℕ × List ℕ)) → homes_forgotten rows (empty_main g ∷ []) ≡ empty_main g ∷ []
nothing_forgotten g [] = refl
nothing_forgotten g (row ∷ rows) = nothing_forgotten g rows

state_is : (g : Geometry) (log : LogState) (end count : ℕ) → log.geometry ≡ g → log.end ≡ end → log.count ≡ count → log ≡ log_of g end count
state_is g log end count geometry ends counts = λ i. record { geometry = geometry i; end = ends i; count = counts i }

-- after a checkpoint, or where there was nothing to do
pub all_closed : (g : Geometry) (log log' : LogState) (m m' : Overlays) (gs gs' : List Frames) → log.geometry ≡ g → gs ≡ empty_main g ∷ [] → (log.count ≡ 0 → (log.end ≡ 0) × (m.committed ≡ []))
    → (0 < log.count → log' ≡ record log { end = 0; count = 0 }) → (0 < log.count → m'.committed ≡ []) → (0 < log.count → gs' ≡ homes_forgotten m.committed gs)
    → (log.count ≡ 0 → (log' ≡ log) × (m' ≡ m) × (gs' ≡ gs)) → (log' ≡ log_of g 0 0) × (m'.committed ≡ []) × (gs' ≡ empty_main g ∷ [])
all_closed g log log' m m' gs gs' geometry groups logged closed emptied forgotten nothing = ⊎_elim
    (λ (some : 0 < log.count). (
      closed some ∙ ap (λ (h : Geometry). log_of h 0 0) geometry,
      emptied some,
      forgotten some ∙ ap (λ (l : List Frames). homes_forgotten m.committed l) groups ∙ nothing_forgotten g m.committed,
    ))
    (λ (none : log.count ≤ 0).
    let count : log.count ≡ 0 = omega (arith, none) in
    let same = nothing count in
    let front = logged count in (
      same.0 ∙ state_is g log 0 0 geometry front.0 count,
      ap (λ (o : Overlays). o.committed) same.1 ∙ front.1,
      same.2 ∙ groups,
    ))
    (cases_lt 0 log.count)
