-- What a session sums up of what it shows.
use Rattle.std.proofs.Common.{◌≡◌, ◌∙◌, ◌⊎◌, ℕ, zero, suc, ◌+◌, ◌≤◌, ◌<◌, ◌*◌, ◌^◌, List, [], ◌∷◌, ◌++◌, length, map, take, Option, Some, Result, Ok, Err, refl, sym, ap, subst, arith, add-one, length-append}
use Rattle.std.specs.Prelude.{Contains, IfErr, slice_get}
use Rattle.std.specs.List.{AllZip, flat_map, zip}
use Rattle.ex_base.specs.declared.names.Area.TheVariants.{Page, Segment}
use Rattle.ex_base.specs.declared.geometry.Geometry.{Geometry}
use Rattle.ex_base.specs.Sizes.{volume_bytes}
use Rattle.ex_base.proofs.Members.{contains_in}
use Rattle.disk_model.specs.Outside.{Outside}
use Rattle.op_log.specs.declared.record.LogRecord.{LogRecord}
use Rattle.object_files.specs.Catalog.{Catalog, CatalogOf, FileEntry}
use Rattle.object_files.specs.Reads.{catalog_on}
use Rattle.trees.specs.Trees.{Units}
use Rattle.table_model.specs.declared.table.Table.{Table}
use Rattle.table_model.specs.declared.table.TableFile.{TableFile}
use Rattle.table_model.specs.Machines.{shown}
use Rattle.table_model.specs.Tables.{file_at}
use Rattle.session_views.specs.declared.stop.Stop.{Stop}
use Rattle.session_views.specs.declared.stop.Stop.TheVariants as stop
use Rattle.session_views.specs.View.{View, ShowsNow}
use Rattle.volume_model.proofs.OneReading.{one_catalog}
use Rattle.volume_model.specs.Parts.{HasIndex}
use Rattle.volume_model.specs.Shown.{working_units}
use Rattle.volume_model.specs.Volume.{FileContent, Volume, file_of, table_of}
use Rattle.open_scans.proofs.Removed.{in_at}
use Rattle.volume_edits.proofs.Contents.{zip_by}
use Rattle.volume_edits.proofs.Listed.{file_named}
use Rattle.transactions.specs.declared.summary.Summary.{Summary}
use Rattle.transactions.specs.declared.summary.Totals.{Totals}
use Rattle.session_core.specs.declared.session.tally.Tally.{Tally}
use Rattle.session_core.specs.Damage.{TellsDamage, no_version}
use Rattle.session_core.specs.Finding.{IfFile, IfShown, IsOutside, LineStops}
use Rattle.session_core.specs.Meant.{meant}
use Rattle.session_core.specs.Counts.{used_of}
use Rattle.session_core.specs.Sessions.{IsSession, SessionState, held}
use Rattle.session_core.specs.Steps.{OnlyFrames, Stops}
use Rattle.session_core.specs.Tallies.{IsTally, objects_if, objects_named, versions_if, versions_named}
use Rattle.transactions.specs.Summaries.{AreTotals, IfCatalog, SumsUp}
use Rattle.session_core.proofs.Accepted.{ReadsCatalog, shown_on, used_is}
use Rattle.session_core.proofs.Damage.{catalog_told, later_damage}
use Rattle.session_core.proofs.Listing.{on_after}
use Rattle.volume_edits.proofs.Records.{paired}
use Rattle.session_core.proofs.Stopping.{disk_or_memory, unread_outside, unread_stops}
use Rattle.session_core.proofs.Naming.{frames_twice, later_stops}
use Rattle.session_core.proofs.Quiet.{nothing_changed, same_view, shown_lends, with_groups}
use Rattle.volume_model.proofs.Showing.{session_geometry}
use Rattle.volume_port.proofs.HeldCatalog.{held_catalog, reads_catalog}
use Rattle.volume_model.proofs.Volumes.{Parts, as_many_files, shown_parts, shown_table}

-- ---- the entries of a catalog, one after the other

count_next : {A : Type 0} (f : FileEntry → List A) (es : List FileEntry) (i : ℕ) (e : FileEntry) → slice_get es i ≡ Some e → length (flat_map f (take (suc i) es)) ≡ length (flat_map f (take i es)) + length (f e)
count_next f [] i e is = absurd (cc)
count_next f (x ∷ es) zero e is = let same : x ≡ e = cc in omega (arith, length-append (f x) [], ap (λ (y : FileEntry). length (f y)) same)
count_next f (x ∷ es) (suc i) e is = omega (arith, length-append (f x) (flat_map f (take (suc i) es)), length-append (f x) (flat_map f (take i es)), count_next f es i e is)

-- ---- the files of a table, found by name

module _ (U : Units) where
  -- The file is the one that the table has under the name of the entry.
  abbrev IsNamed : Table → FileEntry → FileContent → Type 0
  IsNamed t e f = file_at t e.name ≡ Some (file_of U (e, f))

  -- what files have together that are found by their names
  flat_named : {A : Type 0} (part : Option TableFile → List A) (t : Table) (entries : List FileEntry) (files : List FileContent) → AllZip (IsNamed t) entries files
      → flat_map (λ (e : FileEntry). part (file_at t e.name)) entries ≡ flat_map (λ (f : TableFile). part (Some f)) (map (file_of U) (zip entries files))
  flat_named part t [] [] h = refl
  flat_named part t [] (f ∷ files) h = refl
  flat_named part t (e ∷ entries) [] h = absurd h
  flat_named {A} part t (e ∷ entries) (f ∷ files) h =
      ap (λ (o : Option TableFile). part o ++ flat_map (λ (x : FileEntry). part (file_at t x.name)) entries) h.0
      ∙ ap (λ (rest : List A). part (Some (file_of U (e, f))) ++ rest) (flat_named part t entries files h.1)

  module _ (g : Geometry) (records : List LogRecord) (v : Volume) (parts : Parts g records U v) where
    pub all_named : {A : Type 0} (part : Option TableFile → List A) → flat_map (λ (e : FileEntry). part (file_at (table_of U v) e.name)) v.catalog.entries ≡ flat_map (λ (f : TableFile). part (Some f)) (table_of U v).files
    all_named part = flat_named part (table_of U v) v.catalog.entries v.files (zip_by (IsNamed (table_of U v)) v.catalog.entries v.files (file_named U v parts.0.0.fits.sorted) (paired g records U v parts))

-- ---- what a view shows

-- the files of the catalog have together what the shown table has
files_shown : {A : Type 0} {a : Outside} {before : View SessionState} (part : Option TableFile → List A) (now : ShowsNow meant a before)
    → flat_map (λ (e : FileEntry). part (file_at (shown before.machine) e.name)) now.shows.working.catalog.entries ≡ flat_map (λ (f : TableFile). part (Some f)) (shown before.machine).files
files_shown {A} {a} {before} part now =
    let d = now.shows.decoded in
    let U : Units = working_units d before.disk before.session.meta.working in
    subst (λ (t : Table). flat_map (λ (e : FileEntry). part (file_at t e.name)) now.shows.working.catalog.entries ≡ flat_map (λ (f : TableFile). part (Some f)) t.files) (sym (shown_table now.shows))
    (all_named U d.geometry d.records now.shows.working (shown_parts now.shows) part)

-- the catalog that a view shows is shown on after what changed frames alone
catalog_stays : {a b : Outside} {old mid : SessionState} (before : View SessionState) → before.session ≡ old → (now : ShowsNow meant a before) → OnlyFrames a b old mid → (later : ShowsNow meant b (with_groups before mid))
    → now.shows.working.catalog ≡ later.shows.working.catalog
catalog_stays {a} {b} {old} {mid} before same now only later =
    let moved : mid ≡ record before.session { groups = mid.groups } = only.same ∙ ap (λ (s : SessionState). record s { groups = mid.groups }) (sym same) in
    one_catalog (held_catalog (held before.session) before.disk) now.shows.working.catalog later.shows.working.catalog (reads_catalog now.shows)
    (subst (λ (bytes : List ℕ). CatalogOf bytes later.shows.working.catalog) (ap (λ (s : SessionState). held_catalog (held s) before.disk) moved) (reads_catalog later.shows))

-- ---- the files counted so far

-- The objects and versions of the first files of the catalog are counted, through frames alone, and the session goes on to be shown.
pub record Counted (a b : Outside) (old now : SessionState) (page : List ℕ) (files : ℕ) (totals : Totals) : Type 0 where
  pub only : OnlyFrames a b old now
  pub room : volume_bytes now.geometry ≤ b.size
  pub few_objects : totals.objects ≤ files * 2 ^ 64
  pub few_versions : totals.versions ≤ files * 2 ^ 64
  pub shows : IfShown a old (λ before. ShowsNow meant b (with_groups before now))
  pub counts : IfCatalog a old page (λ before. AreTotals before.machine (take files (catalog_on page).entries) totals)

abbrev pub no_totals : Totals
no_totals = record { objects = 0; versions = 0 }

pub none_counted : (a : Outside) (s : SessionState) (page : List ℕ) → volume_bytes s.geometry ≤ a.size → Counted a a s s page 0 no_totals
none_counted a s page room = record {
  only = nothing_changed a s;
  room = room;
  few_objects = omega arith;
  few_versions = omega arith;
  shows = λ before same now. subst (λ (t : SessionState). ShowsNow meant a (with_groups before t)) same now;
  counts = λ before same now on. record { objects = refl; versions = refl };
}

-- a tally of one file more
pub record IsMore (was : Totals) (tally : Tally) (now : Totals) : Type 0 where
  pub objects : now.objects ≡ was.objects + tally.objects
  pub versions : now.versions ≡ was.versions + tally.versions

module _ {a b c : Outside} {old mid new : SessionState} (page : List ℕ) (files : ℕ) (totals : Totals) (so_far : Counted a b old mid page files totals) (is : IsSession mid) (two : OnlyFrames b c mid new) where
  room_left : volume_bytes new.geometry ≤ c.size
  room_left = omega (arith, so_far.room, ap (λ (s : SessionState). volume_bytes s.geometry) two.same, two.reads.nothing.only.goes.size)

  pub shows_on : IfShown a old (λ before. ShowsNow meant c (with_groups before new))
  shows_on = λ before same now. same_view (with_groups before mid) refl (so_far.shows before same now) two is.sizes

  -- what holds of the next file holds of it
  pub next_file : (e : FileEntry) (file_no : ℕ) (P : View SessionState → List ℕ → Type 0) → slice_get (catalog_on page).entries files ≡ Some e → e.file_no ≡ file_no → IfFile b mid file_no P → IfCatalog a old page (λ before. P (with_groups before mid) e.name)
  next_file e file_no P at number each = λ before same now on.
      let later = so_far.shows before same now in
      let there : Contains (catalog_on page).entries e = contains_in e (catalog_on page).entries (in_at (catalog_on page).entries files e at) in
      each (with_groups before mid) refl later e (subst (λ (k : Catalog). Contains k.entries e) (on ∙ catalog_stays before same now so_far.only later) there) number

  pub one_more : (e : FileEntry) (file_no : ℕ) (more : Totals) (tally : Tally) → slice_get (catalog_on page).entries files ≡ Some e → e.file_no ≡ file_no → IsMore totals tally more
      → tally.objects < 2 ^ 64 → tally.versions < 2 ^ 64 → IfFile b mid file_no (λ before name. IsTally before.machine name tally) → Counted a c old new page (files + 1) more
  one_more e file_no more tally at number sum few_objects few_versions each = record {
    only = frames_twice so_far.only two;
    room = room_left;
    few_objects = omega (arith, so_far.few_objects, sum.objects, few_objects);
    few_versions = omega (arith, so_far.few_versions, sum.versions, few_versions);
    shows = shows_on;
    counts = λ before same now on.
        let here : IsTally before.machine e.name tally = next_file e file_no (λ before name. IsTally before.machine name tally) at number each before same now on in
        let t = shown before.machine in
        let objects = count_next (λ (x : FileEntry). objects_named t x.name) (catalog_on page).entries files e at in
        let versions = count_next (λ (x : FileEntry). versions_named t x.name) (catalog_on page).entries files e at in
        let before_it = so_far.counts before same now on in
        rw (add-one files) (record { objects = omega (arith, sum.objects, objects, before_it.objects, here.objects); versions = omega (arith, sum.versions, versions, before_it.versions, here.versions) });
  }

-- ---- the summary

-- what it counts of the session and of its catalog
pub record Counts (s : SessionState) (c : Catalog) (last files pages segs : ℕ) : Type 0 where
  pub last_is : last ≡ c.last
  pub files_is : files ≡ length c.entries
  pub pages_is : pages ≡ used_of s Page
  pub segs_is : segs ≡ used_of s Segment

abbrev pub summary_of : ℕ → ℕ → Totals → ℕ → ℕ → Summary
summary_of last files totals pages segs = record { last = last; files = files; objects = totals.objects; versions = totals.versions; pages = pages; segs = segs }

pub sums_unread : {a b : Outside} {old mid : SessionState} (why : Stop) → OnlyFrames a b old mid → IsSession old → Stops a b old why → SumsUp a b old mid (Err why)
sums_unread {a} {b} {old} why only is stops = record {
  frames = only;
  stops = unread_stops a b old why stops;
  damage = catalog_told a b old no_version why stops;
  sound = unread_outside b why is stops;
  sums = λ before same now. tt;
  shows = λ before same now. same_view before same now only is.sizes;
}

module _ {a b c : Outside} {old mid new : SessionState} (page : List ℕ) (one : OnlyFrames a b old mid) (two : OnlyFrames b c mid new) (is : IsSession old) (reads : ReadsCatalog a old page) where
  pub sums_stopped : (why : Stop) → LineStops b c why → TellsDamage b c mid no_version why → IfCatalog b mid page (λ before. IsOutside why) → SumsUp a c old new (Err why)
  sums_stopped why stops damage sound = record {
    frames = frames_twice one two;
    stops = later_stops a b c why one.reads stops;
    damage = later_damage old mid one c no_version why damage;
    sound = λ before same now. let later = same_view before same now one is.sizes in sound (with_groups before mid) refl later (on_after page is one reads before same now later);
    sums = λ before same now. tt;
    shows = λ before same now. same_view before same now (frames_twice one two) is.sizes;
  }

  pub sums_up : (last files : ℕ) (totals : Totals) (pages segs : ℕ) → IfCatalog b mid page (λ before. AreTotals before.machine (catalog_on page).entries totals) → Counts new (catalog_on page) last files pages segs
      → SumsUp a c old new (Ok (summary_of last files totals pages segs))
  sums_up last files totals pages segs each counts = record {
    frames = frames_twice one two;
    stops = tt;
    damage = tt;
    sound = tt;
    sums = λ before same now.
        let session = subst IsSession (sym same) is in
        let d = now.shows.decoded in
        let v = now.shows.working in
        let U : Units = working_units d before.disk before.session.meta.working in
        let on = shown_on now page (subst (λ (s : SessionState). ReadsCatalog a s page) (sym same) reads) (shown_lends now session.sizes) in
        let table = sym (shown_table now.shows) in
        let g = session_geometry now.shows in
        let moved : new ≡ record before.session { groups = new.groups } = (frames_twice one two).same ∙ ap (λ (s : SessionState). record s { groups = new.groups }) (sym same) in
        let later = same_view before same now one is.sizes in
        let counted : AreTotals before.machine v.catalog.entries totals =
        subst (λ (k : Catalog). AreTotals before.machine k.entries totals) on (each (with_groups before mid) refl later (on_after page is one reads before same now later)) in
        record {
          last = counts.last_is ∙ ap (λ (k : Catalog). k.last) on ∙ ap (λ (t : Table). t.last) table;
          files = counts.files_is ∙ ap (λ (k : Catalog). length k.entries) on ∙ sym (as_many_files (HasIndex d.geometry U) U v.catalog.entries v.files (shown_parts now.shows).1.0.0) ∙ ap (λ (t : Table). length t.files) table;
          objects = counted.objects ∙ ap length (files_shown objects_if now);
          versions = counted.versions ∙ ap length (files_shown versions_if now);
          pages = counts.pages_is ∙ ap (λ (s : SessionState). used_of s Page) moved ∙ used_is before.session d.geometry Page before.machine.pages_used session.units.geometry g now.shows.used.pages;
          segs = counts.segs_is ∙ ap (λ (s : SessionState). used_of s Segment) moved ∙ used_is before.session d.geometry Segment before.machine.segs_used session.units.geometry g now.shows.used.segs;
        };
    shows = λ before same now. same_view before same now (frames_twice one two) is.sizes;
  }

pub sums_soundly : {a b : Outside} {old new : SessionState} (result : Result Summary Stop) → SumsUp a b old new result → (before : View SessionState) (why : Stop) → before.session ≡ old → ShowsNow meant a before → result ≡ Err why
    → (why ≡ stop.Disk) ⊎ (why ≡ stop.Memory)
sums_soundly {a} {b} {old} result sums before why same now is = disk_or_memory why ((subst (λ (o : Result Summary Stop). IfErr o (λ w. IfShown a old (λ before. IsOutside w))) is sums.sound) before same now)
