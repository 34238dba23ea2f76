-- Accepted commands on files and counts. None writes.
use Rattle.std.proofs.Common.{◌≡◌, ◌≢◌, ◌∙◌, ℕ, true, List, [], ◌∷◌, ◌++◌, length, map, Option, Some, None, nat_eq, Ok, ⊎_elim, refl, sym, ap, subst, inl, arith}
use Rattle.std.specs.Prelude.{IsTrue, Contains, find}
use Rattle.std.specs.List.{AllZip}
use Rattle.std.specs.Map.{lookup}
use Rattle.std.proofs.lemmas.List.{length-map}
use Rattle.ex_base.specs.declared.geometry.Geometry.{Geometry}
use Rattle.ex_base.specs.declared.names.Area.TheVariants.{Page, Segment}
use Rattle.ex_base.specs.declared.names.OpNote.{OpNote}
use Rattle.ex_base.specs.Area.{catalog_no}
use Rattle.ex_base.specs.Order.{Rising}
use Rattle.disk_model.specs.Outside.{Outside}
use Rattle.buffer_groups.specs.Frames.{Frames}
use Rattle.meta_pages.specs.Rows.{with_row}
use Rattle.object_files.specs.Catalog.{Catalog, CatalogOf, name_of}
use Rattle.object_files.specs.Edits as edits
use Rattle.object_files.specs.Reads.{catalog_on}
use Rattle.table_model.specs.declared.machine.Machine.{Machine}
use Rattle.table_model.specs.declared.table.Table.{Table}
use Rattle.table_model.specs.declared.table.TableFile.{TableFile}
use Rattle.table_model.specs.declared.reply.Reply.{Reply}
use Rattle.table_model.specs.declared.reply.Reply.TheVariants as reply
use Rattle.table_model.specs.declared.reply.Refusal.{Refusal}
use Rattle.table_model.specs.Requests.{Request}
use Rattle.table_model.specs.Requests as request
use Rattle.table_model.specs.Words.{is_name}
use Rattle.table_model.specs.Machines.{shown, no_oid}
use Rattle.table_model.specs.Refusals.{refusal_of, has_objects}
use Rattle.table_model.specs.Steps.{Step, note}
use Rattle.table_model.specs.Tables.{with_file, without_file}
use Rattle.session_views.specs.View.{View, ShowsNow, Stepped}
use Rattle.volume_model.specs.Shown.{WorkingRow, WorkingShown, IsWorkingPage, working_units}
use Rattle.volume_model.specs.Parts.{IsLastOf, HasIndex}
use Rattle.volume_model.specs.Volume.{Stored, Volume, file_pages, stored_in, roots_in, table_of, unique_of}
use Rattle.volume_model.proofs.Places.{sep_from}
use Rattle.volume_edits.proofs.FileVersions.{files_are}
use Rattle.session_core.specs.Sessions.{SessionState, held, IsSession, updated}
use Rattle.session_core.specs.Catalogs.{FramesLend}
use Rattle.session_core.specs.Meant.{meant, pick_of, held_view}
use Rattle.session_core.specs.Counts.{used_of}
use Rattle.transactions.specs.Refused.{file_refusal, unfile_refusal, entry_named, has_pages}
use Rattle.table_model.specs.Tables as tables
use Rattle.transactions.proofs.Files.{no_pages_there}
use Rattle.transactions.proofs.Unfiled.{HasAll, volume_without, all_of, not_empty_as, gone_of, pages_without, stored_without, others_without, table_without_file}
use Rattle.session_core.specs.Steps.{OnlyFrames, StepsQuietly}
use Rattle.volume_model.proofs.Volumes.{names_shown, shown_parts}
use Rattle.volume_model.proofs.KeptOff.{Others, others_kept, table_off}
use Rattle.transactions.proofs.Filed.{volume_with, pages_with, stored_with, others_with, table_with_file}
use Rattle.volume_port.proofs.WorkingRows.{put_other}
use Rattle.std.proofs.lemmas.Bool.{cases_eq}
use Rattle.volume_model.proofs.Showing.{view_of, WorksAs, shows_catalog, session_geometry}
use Rattle.session_core.proofs.Quiet.{quiet_refusal, nothing_changed, shown_lends, same_view, with_groups}
use Rattle.transactions.proofs.Refusing.{same_counts, file_refused, unfile_refused}
use Rattle.volume_port.proofs.Working.{lookup_put, firsts_put, each_put, images_of_files, working_image, same_off}
use Rattle.ex_base.proofs.Options.{some_apart_inside}
use Rattle.ex_base.specs.declared.notes.NoteKind.TheVariants as note_kind
use Rattle.ex_base.specs.declared.notes.NoteKind.{NoteKind}
use Rattle.session_core.proofs.Accepted.{LaterFrames, ReadsCatalog, accepted_quietly, later_of, shown_on, stepped_by, took_place, used_is}

-- ---- file and unfile

-- the transaction has an image of the catalog
pub record HasImage (s : SessionState) : Type 0 where
  pub image : List ℕ
  pub there : lookup (nat_eq catalog_no) s.meta.working ≡ Some (Some image)

update_works : {a : Outside} {before : View SessionState} (now : ShowsNow meant a before) (groups : List Frames) (page : List ℕ) (kind : NoteKind) (w : Volume) (m : Machine) (table : Table)
    → HasImage before.session → before.session.opened ≡ true → CatalogOf page w.catalog → w.catalog.last ≡ now.shows.working.catalog.last
    → file_pages w ≡ file_pages now.shows.working → stored_in w ≡ stored_in now.shows.working
    → (Others now.shows.decoded.geometry now.shows.decoded.records (working_units now.shows.decoded before.disk (with_row catalog_no (Some page) before.session.meta.working)) now.shows.working
    → Others now.shows.decoded.geometry now.shows.decoded.records (working_units now.shows.decoded before.disk (with_row catalog_no (Some page) before.session.meta.working)) w)
    → table ≡ table_of (working_units now.shows.decoded before.disk (with_row catalog_no (Some page) before.session.meta.working)) w → m.working ≡ Some table → m.touched ≡ before.machine.touched
    → WorksAs now.shows.decoded (view_of m (held (updated (record before.session { groups = groups }) page kind)) before.disk) now.shows.working w
update_works {a} {before} now groups page kind w m table has opened catalog last files stored others same working touched =
    let d = now.shows.decoded in
    let rows = before.session.meta.working in
    let later = with_row catalog_no (Some page) rows in
    let v = view_of m (held (updated (record before.session { groups = groups }) page kind)) before.disk in
    let shown = shows_catalog now.shows in
    let firsts = firsts_put catalog_no (Some page) (Some has.image) rows now.shows.apart.in_order has.there in
    let off = same_off d before.disk page rows in
    let was = (shown_parts now.shows).1 in
    let units = working_units d before.disk later in
    record {
      working = subst (λ (o : Option Table). WorkingShown d v w o) (sym working)
          (record {
            parts = (
              (subst (λ (bytes : List ℕ). CatalogOf bytes w.catalog) (sym (working_image d v page (lookup_put catalog_no (Some page) rows))) catalog, subst (λ (n : ℕ). IsLastOf d.records n) (sym last) shown.last),
              others (others_kept d.geometry d.records d.records (working_units d before.disk rows) units now.shows.working off was),
            );
            same = same;
          });
      touched = touched ∙ now.shows.used.touched ∙ sym (same_count rows firsts);
      in_order = subst Rising (sym firsts) now.shows.apart.in_order;
      images = each_put (IsWorkingPage w) catalog_no (Some page) rows (λ some. inl refl) (images_of_files now.shows.working w rows files now.shows.apart.images);
      pages = files;
      roots = ap (λ (ss : List Stored). roots_in ss) stored;
      left = λ some number file none. left number file none;
    }
  where
    same_count : (rows : List WorkingRow) → map (λ (row : WorkingRow). row.0) (with_row catalog_no (Some page) rows) ≡ map (λ (row : WorkingRow). row.0) rows → length (with_row catalog_no (Some page) rows) ≡ length rows
    same_count rows firsts = sym (length-map (with_row catalog_no (Some page) rows) (λ (row : WorkingRow). row.0)) ∙ ap length firsts ∙ length-map rows (λ (row : WorkingRow). row.0)

    left : (number : ℕ) → Contains (file_pages now.shows.decoded.volume) number → (¬ Contains (file_pages now.shows.working) number) → lookup (nat_eq number) (with_row catalog_no (Some page) before.session.meta.working) ≡ Some None
    left number file none =
        let gone = now.shows.apart.left (now.shows.shared.open_txn ∙ opened) number file none in
        ⊎_elim
        (λ (same : number ≡ catalog_no). absurd (some_apart_inside has.image (sym has.there ∙ ap (λ (q : ℕ). lookup (nat_eq q) before.session.meta.working) (sym same) ∙ gone)))
        (λ (differ : number ≢ catalog_no). put_other catalog_no (Some page) before.session.meta.working number (λ e. differ (sym e)) ∙ gone) (cases_eq number catalog_no)

pub file_steps : {a b : Outside} {before : View SessionState} (now : ShowsNow meant a before) (new : SessionState) (groups : List Frames) (page image name : List ℕ) (file_no : ℕ) → updated (record before.session { groups = groups }) image note_kind.FileMade ≡ new
    → LaterFrames a b before.session groups → before.session.opened ≡ true → before.session.units.geometry ≡ before.session.geometry → HasImage before.session → ReadsCatalog a before.session page → FramesLend a before.session
    → IsTrue (is_name name) → file_refusal before.session (catalog_on page) name ≡ None
    → CatalogOf image (edits.with_entries (catalog_on page) (edits.entry_inserted (edits.new_file name file_no) (catalog_on page).entries))
    → Stepped meant before (request.File name) (reply.File name) new b
file_steps {a} {b} {before} now new groups page image name file_no same frames opened units has reads lends form none catalog =
    let m = before.machine in
    let shown_now = shows_catalog now.shows in
    let on = shown_on now page reads lends in
    let old = now.shows.working.catalog in
    let d = now.shows.decoded in
    let rows = before.session.meta.working in
    let later = working_units d before.disk (with_row catalog_no (Some image) rows) in
    let w = volume_with name file_no now.shows.working in
    let was = (shown_parts now.shows).1 in
    let off = same_off d before.disk image rows in
    let s = updated (record before.session { groups = groups }) image note_kind.FileMade in
    let after : Machine = record m { working = Some (with_file name (shown m)); notes = m.notes ++ note note_kind.FileMade no_oid 0 0 ∷ [] } in
    let q = pick_of (held_view before) (request.File name) (view_of after (held s) before.disk) in
    let counts = same_counts now.shows units in
    let kept_others = others_kept d.geometry d.records d.records (working_units d before.disk rows) later now.shows.working off was in
    let table : with_file name (shown m) ≡ table_of later w =
    ap (λ (t : Table). with_file name t) (shown_now.table ∙ sym (table_off d.geometry d.records (working_units d before.disk rows) later now.shows.working off was)) ∙ sym (table_with_file d.geometry d.records later name file_no now.shows.working kept_others) in
    let refuses : refusal_of m (request.File name) q ≡ None = file_refused before old name q counts opened ∙ ap (λ (c : Catalog). file_refusal before.session c name) (sym on) ∙ none in
    let step : Step m (request.File name) q (reply.File name) after =
    took_place m after (request.File name) q (reply.File name) refuses refl refl (tt, λ _. record { pages = omega arith; segs = omega arith; touched = omega arith }) in
    stepped_by now (request.File name) (reply.File name) after s new w same frames form step
    (record { geometry = refl; committed = refl; machine_scans = refl; pages = refl; segs = refl; scans = refl; used = refl; refs = refl; gained = refl; lost = refl; held = refl; kept = refl; overlay = refl; log = refl })
    (record { geometry = now.shows.shared.geometry; notes = ap (λ (notes : List OpNote). notes ++ note note_kind.FileMade no_oid 0 0 ∷ []) now.shows.shared.notes; names = now.shows.shared.names; group_rows = now.shows.shared.group_rows; open_txn = sym opened; up = now.shows.shared.up })
    (update_works now groups image note_kind.FileMade w after (with_file name (shown m)) has opened
    (subst (λ (o : Catalog). CatalogOf image (edits.with_entries o (edits.entry_inserted (edits.new_file name file_no) o.entries))) on catalog)
    refl (pages_with name file_no now.shows.working) (stored_with name file_no now.shows.working) (λ others. others_with d.geometry d.records later name file_no now.shows.working others) table refl refl)

-- the parts of the files of a shown volume
shown_all : {w : Outside} {before : View SessionState} (now : ShowsNow meant w before)
    → AllZip (HasAll now.shows.decoded.geometry (working_units now.shows.decoded before.disk before.session.meta.working)) now.shows.working.catalog.entries now.shows.working.files
shown_all {w} {before} now =
    let d = now.shows.decoded in
    let v = now.shows.working in
    let units = working_units d before.disk before.session.meta.working in
    let parts = (shown_parts now.shows).1 in
    all_of d.geometry units v.catalog.entries v.files parts.0.0 parts.1.0 parts.1.1.0
    (files_are units v.catalog.entries v.files parts.1.0 parts.1.1.0 (sep_from unique_of (stored_in v) parts.1.1.1.1.1.0.differ))

pub unfile_steps : {a b : Outside} {before : View SessionState} (now : ShowsNow meant a before) (new : SessionState) (groups : List Frames) (page image name : List ℕ) → updated (record before.session { groups = groups }) image note_kind.FileRemoved ≡ new
    → LaterFrames a b before.session groups → before.session.opened ≡ true → before.session.units.geometry ≡ before.session.geometry → HasImage before.session → ReadsCatalog a before.session page → FramesLend a before.session
    → IsTrue (is_name name) → unfile_refusal before.session (catalog_on page) name ≡ None
    → CatalogOf image (edits.with_entries (catalog_on page) (edits.without_name name (catalog_on page).entries))
    → Stepped meant before (request.Unfile name) (reply.Unfile name) new b
unfile_steps {a} {b} {before} now new groups page image name same frames opened units has reads lends form none catalog =
    let m = before.machine in
    let shown_now = shows_catalog now.shows in
    let on = shown_on now page reads lends in
    let old = now.shows.working.catalog in
    let d = now.shows.decoded in
    let rows = before.session.meta.working in
    let now_units = working_units d before.disk rows in
    let later = working_units d before.disk (with_row catalog_no (Some image) rows) in
    let w = volume_without name now.shows.working in
    let was = (shown_parts now.shows).1 in
    let all = shown_all now in
    let off = same_off d before.disk image rows in
    let s = updated (record before.session { groups = groups }) image note_kind.FileRemoved in
    let after : Machine = record m { working = Some (without_file name (shown m)); notes = m.notes ++ note note_kind.FileRemoved no_oid 0 0 ∷ [] } in
    let q = pick_of (held_view before) (request.Unfile name) (view_of after (held s) before.disk) in
    let counts = same_counts now.shows units in
    let none_here : unfile_refusal before.session old name ≡ None = ap (λ (c : Catalog). unfile_refusal before.session c name) (sym on) ∙ none in
    let gone = gone_of d.geometry now_units name old.entries now.shows.working.files shown_now.catalog.fits.sorted (no_pages_there before.session old name (sym none_here)) all in
    let kept_others = others_kept d.geometry d.records d.records now_units later now.shows.working off was in
    let table : without_file name (shown m) ≡ table_of later w =
    ap (λ (t : Table). without_file name t) (shown_now.table ∙ sym (table_off d.geometry d.records now_units later now.shows.working off was)) ∙ sym (table_without_file d.geometry d.records later name now.shows.working kept_others) in
    let empty = ap (λ (t : Table). has_objects (find (tables.has_name name) t.files)) shown_now.table ∙ not_empty_as d.geometry now_units name old.entries now.shows.working.files all in
    let refuses : refusal_of m (request.Unfile name) q ≡ None = unfile_refused before old name q counts empty opened ∙ none_here in
    let step : Step m (request.Unfile name) q (reply.Unfile name) after =
    took_place m after (request.Unfile name) q (reply.Unfile name) refuses refl refl (tt, λ _. record { pages = omega arith; segs = omega arith; touched = omega arith }) in
    stepped_by now (request.Unfile name) (reply.Unfile name) after s new w same frames form step
    (record { geometry = refl; committed = refl; machine_scans = refl; pages = refl; segs = refl; scans = refl; used = refl; refs = refl; gained = refl; lost = refl; held = refl; kept = refl; overlay = refl; log = refl })
    (record { geometry = now.shows.shared.geometry; notes = ap (λ (notes : List OpNote). notes ++ note note_kind.FileRemoved no_oid 0 0 ∷ []) now.shows.shared.notes; names = now.shows.shared.names; group_rows = now.shows.shared.group_rows; open_txn = sym opened; up = now.shows.shared.up })
    (update_works now groups image note_kind.FileRemoved w after (without_file name (shown m)) has opened
    (subst (λ (o : Catalog). CatalogOf image (edits.with_entries o (edits.without_name name o.entries))) on catalog)
    refl (pages_without name now.shows.working gone) (stored_without name now.shows.working gone) (λ others. others_without name now.shows.working gone d.geometry d.records later others) table refl refl)

work_image : (s : SessionState) → IsSession s → s.opened ≡ true → HasImage s
work_image s is opened = let work = is.work opened in record { image = work.image; there = work.there }

pub file_quietly : {a b : Outside} (old mid new : SessionState) (page image name : List ℕ) (file_no : ℕ) → IsSession old → OnlyFrames a b old mid → old.opened ≡ true → ReadsCatalog a old page → IsTrue (is_name name)
    → file_refusal mid (catalog_on page) name ≡ None → CatalogOf image (edits.with_entries (catalog_on page) (edits.entry_inserted (edits.new_file name file_no) (catalog_on page).entries))
    → updated mid image note_kind.FileMade ≡ new → StepsQuietly a b old new (request.File name) (Ok (reply.File name))
file_quietly {a} {b} old mid new page image name file_no is only opened reads form none catalog same =
    accepted_quietly old mid new (request.File name) (reply.File name) only (ap (λ (s : SessionState). s.geometry) (sym same)) (ap (λ (s : SessionState). s.log) (sym same)) (ap (λ (s : SessionState). s.down) (sym same)) (ap (λ (s : SessionState). s.scans) (sym same)) (λ why told. absurd (cc))
    (λ before from now.
    let session = subst IsSession (sym from) is in
    let at = ap (λ (s : SessionState). updated s image note_kind.FileMade) (ap (λ (s : SessionState). record s { groups = mid.groups }) from ∙ sym only.same) ∙ same in
    let refuses = ap (λ (s : SessionState). file_refusal s (catalog_on page) name) (ap (λ (s : SessionState). record s { groups = mid.groups }) from ∙ sym only.same) ∙ none in
    file_steps now new mid.groups page image name file_no at (subst (λ (s : SessionState). LaterFrames a b s mid.groups) (sym from) (later_of old mid is only)) (ap (λ (s : SessionState). s.opened) from ∙ opened)
    session.units.geometry (work_image before.session session (ap (λ (s : SessionState). s.opened) from ∙ opened)) (subst (λ (s : SessionState). ReadsCatalog a s page) (sym from) reads) (shown_lends now session.sizes) form refuses catalog)

pub file_no : {a b : Outside} (old mid : SessionState) (page name : List ℕ) (why : Refusal) (c : Catalog) → IsSession old → OnlyFrames a b old mid → old.opened ≡ true → ReadsCatalog a old page → c ≡ catalog_on page
    → Some why ≡ file_refusal mid c name → StepsQuietly a b old mid (request.File name) (Ok (reply.No why))
file_no {a} {b} old mid page name why c is only opened reads same refuses =
    quiet_refusal (request.File name) why only is.sizes
    (λ before from now q.
    let session = subst IsSession (sym from) is in
    let on = shown_on now page (subst (λ (s : SessionState). ReadsCatalog a s page) (sym from) reads) (shown_lends now session.sizes) in
    file_refused before now.shows.working.catalog name q (same_counts now.shows session.units.geometry) (ap (λ (s : SessionState). s.opened) from ∙ opened)
    ∙ ap (λ (c : Catalog). file_refusal before.session c name) (sym on ∙ sym same)
    ∙ ap (λ (s : SessionState). file_refusal s c name) (ap (λ (s : SessionState). record s { groups = mid.groups }) from ∙ sym only.same)
    ∙ sym refuses)

not_empty_shown : {a : Outside} {before : View SessionState} (now : ShowsNow meant a before) (name : List ℕ) → has_objects (find (tables.has_name name) (shown before.machine).files) ≡ has_pages (entry_named now.shows.working.catalog name)
not_empty_shown {a} {before} now name =
    let d = now.shows.decoded in
    let units = working_units d before.disk before.session.meta.working in
    ap (λ (t : Table). has_objects (find (tables.has_name name) t.files)) (shows_catalog now.shows).table
    ∙ not_empty_as d.geometry units name now.shows.working.catalog.entries now.shows.working.files (shown_all now)

pub unfile_no : {a b : Outside} (old mid : SessionState) (page name : List ℕ) (why : Refusal) (c : Catalog) → IsSession old → OnlyFrames a b old mid → old.opened ≡ true → ReadsCatalog a old page → c ≡ catalog_on page
    → Some why ≡ unfile_refusal mid c name → StepsQuietly a b old mid (request.Unfile name) (Ok (reply.No why))
unfile_no {a} {b} old mid page name why c is only opened reads same refuses =
    quiet_refusal (request.Unfile name) why only is.sizes
    (λ before from now q.
    let session = subst IsSession (sym from) is in
    let on = shown_on now page (subst (λ (s : SessionState). ReadsCatalog a s page) (sym from) reads) (shown_lends now session.sizes) in
    unfile_refused before now.shows.working.catalog name q (same_counts now.shows session.units.geometry) (not_empty_shown now name) (ap (λ (s : SessionState). s.opened) from ∙ opened)
    ∙ ap (λ (c : Catalog). unfile_refusal before.session c name) (sym on ∙ sym same)
    ∙ ap (λ (s : SessionState). unfile_refusal s c name) (ap (λ (s : SessionState). record s { groups = mid.groups }) from ∙ sym only.same)
    ∙ sym refuses)

-- as the code comes to it
pub file_told : {a b : Outside} {old mid new : SessionState} {page read edited name copy : List ℕ} {c : Catalog} (file_no : ℕ) → c ≡ catalog_on page → None ≡ file_refusal mid c name → read ≡ edited → copy ≡ name → new ≡ updated mid read note_kind.FileMade
    → CatalogOf edited (edits.with_entries (catalog_on page) (edits.entry_inserted (edits.new_file name file_no) (catalog_on page).entries))
    → IsSession old → OnlyFrames a b old mid → old.opened ≡ true → ReadsCatalog a old page → IsTrue (is_name name) → StepsQuietly a b old new (request.File name) (Ok (reply.File copy))
file_told {a} {b} {old} {mid} {new} {page} {read} {edited} {name} {copy} {c} file_no view none same told done catalog is only opened reads form =
    subst (λ (n : List ℕ). StepsQuietly a b old new (request.File name) (Ok (reply.File n))) (sym told)
    (file_quietly old mid new page edited name file_no is only opened reads form (ap (λ (k : Catalog). file_refusal mid k name) (sym view) ∙ sym none) catalog (ap (λ (l : List ℕ). updated mid l note_kind.FileMade) (sym same) ∙ sym done))

pub unfile_quietly : {a b : Outside} (old mid new : SessionState) (page image name : List ℕ) → IsSession old → OnlyFrames a b old mid → old.opened ≡ true → ReadsCatalog a old page → IsTrue (is_name name)
    → unfile_refusal mid (catalog_on page) name ≡ None → CatalogOf image (edits.with_entries (catalog_on page) (edits.without_name name (catalog_on page).entries))
    → updated mid image note_kind.FileRemoved ≡ new → StepsQuietly a b old new (request.Unfile name) (Ok (reply.Unfile name))
unfile_quietly {a} {b} old mid new page image name is only opened reads form none catalog same =
    accepted_quietly old mid new (request.Unfile name) (reply.Unfile name) only (ap (λ (s : SessionState). s.geometry) (sym same)) (ap (λ (s : SessionState). s.log) (sym same)) (ap (λ (s : SessionState). s.down) (sym same)) (ap (λ (s : SessionState). s.scans) (sym same)) (λ why told. absurd (cc))
    (λ before from now.
    let session = subst IsSession (sym from) is in
    let at = ap (λ (s : SessionState). updated s image note_kind.FileRemoved) (ap (λ (s : SessionState). record s { groups = mid.groups }) from ∙ sym only.same) ∙ same in
    let refuses = ap (λ (s : SessionState). unfile_refusal s (catalog_on page) name) (ap (λ (s : SessionState). record s { groups = mid.groups }) from ∙ sym only.same) ∙ none in
    unfile_steps now new mid.groups page image name at (subst (λ (s : SessionState). LaterFrames a b s mid.groups) (sym from) (later_of old mid is only)) (ap (λ (s : SessionState). s.opened) from ∙ opened)
    session.units.geometry (work_image before.session session (ap (λ (s : SessionState). s.opened) from ∙ opened)) (subst (λ (s : SessionState). ReadsCatalog a s page) (sym from) reads) (shown_lends now session.sizes) form refuses catalog)

pub unfile_told : {a b : Outside} {old mid new : SessionState} {page read edited name copy : List ℕ} {c : Catalog} → c ≡ catalog_on page → None ≡ unfile_refusal mid c name → read ≡ edited → copy ≡ name → new ≡ updated mid read note_kind.FileRemoved
    → CatalogOf edited (edits.with_entries (catalog_on page) (edits.without_name name (catalog_on page).entries))
    → IsSession old → OnlyFrames a b old mid → old.opened ≡ true → ReadsCatalog a old page → IsTrue (is_name name) → StepsQuietly a b old new (request.Unfile name) (Ok (reply.Unfile copy))
unfile_told {a} {b} {old} {mid} {new} {page} {read} {edited} {name} {copy} {c} view none same told done catalog is only opened reads form =
    subst (λ (n : List ℕ). StepsQuietly a b old new (request.Unfile name) (Ok (reply.Unfile n))) (sym told)
    (unfile_quietly old mid new page edited name is only opened reads form (ap (λ (k : Catalog). unfile_refusal mid k name) (sym view) ∙ sym none) catalog (ap (λ (l : List ℕ). updated mid l note_kind.FileRemoved) (sym same) ∙ sym done))

-- ---- the commands that tell of a session

abbrev space_of : SessionState → Reply
space_of s = reply.Space (used_of s Page) s.geometry.pages (used_of s Segment) s.geometry.segs

used_told : {a : Outside} {before : View SessionState} (now : ShowsNow meant a before) → IsSession before.session
    → space_of before.session ≡ reply.Space before.machine.pages_used before.machine.geometry.pages before.machine.segs_used before.machine.geometry.segs
used_told {a} {before} now is =
    let g = session_geometry now.shows in
    let pages = used_is before.session now.shows.decoded.geometry Page before.machine.pages_used is.units.geometry g now.shows.used.pages in
    let segs = used_is before.session now.shows.decoded.geometry Segment before.machine.segs_used is.units.geometry g now.shows.used.segs in
    let same = now.shows.shared.geometry in
    let of_pages = ap (λ (h : Geometry). h.pages) same in
    let of_segs = ap (λ (h : Geometry). h.segs) same in
    cc (pages, segs, of_pages, of_segs)

tells : {a b : Outside} (old new : SessionState) (r : Request) (told : Reply) → IsSession old → OnlyFrames a b old new → ((why : Refusal) → told ≡ reply.No why → ⊥)
    → ((before : View SessionState) → before.session ≡ old → ShowsNow meant a before → Step before.machine r (pick_of (held_view before) r (held_view (with_groups before new))) told before.machine) → StepsQuietly a b old new r (Ok told)
tells {a} {b} old new r told is only accepts steps =
    accepted_quietly old new new r told only refl refl refl refl accepts
    (λ before from now. record { after = with_groups before new; is = refl; shows = same_view before from now only is.sizes; step = steps before from now })

pub log_quietly : {a : Outside} (s : SessionState) → IsSession s → StepsQuietly a a s s request.Log (Ok (reply.Log s.log.count))
log_quietly {a} s is =
    tells s s request.Log (reply.Log s.log.count) is (nothing_changed a s) (λ why told. absurd (cc))
    (λ before from now. took_place before.machine before.machine request.Log _ (reply.Log s.log.count) refl (ap (λ (t : SessionState). reply.Log t.log.count) (sym from)) refl (tt, λ none. absurd (cc)))

pub space_quietly : {a : Outside} (s : SessionState) → IsSession s → StepsQuietly a a s s request.Space (Ok (reply.Space (used_of s Page) s.geometry.pages (used_of s Segment) s.geometry.segs))
space_quietly {a} s is =
    tells s s request.Space (reply.Space (used_of s Page) s.geometry.pages (used_of s Segment) s.geometry.segs) is (nothing_changed a s) (λ why told. absurd (cc))
    (λ before from now. took_place before.machine before.machine request.Space (pick_of (held_view before) request.Space (held_view (with_groups before s))) (space_of s) refl
    (subst (λ (t : SessionState). space_of t ≡ reply.Space before.machine.pages_used before.machine.geometry.pages before.machine.segs_used before.machine.geometry.segs) from (used_told now (subst IsSession (sym from) is))) refl (tt, λ none. absurd (cc)))

pub files_quietly : {a b : Outside} (old mid : SessionState) (page : List ℕ) (names : List (List ℕ)) → IsSession old → OnlyFrames a b old mid → ReadsCatalog a old page → names ≡ map name_of (catalog_on page).entries
    → StepsQuietly a b old mid request.Files (Ok (reply.Files names))
files_quietly {a} {b} old mid page names is only reads same =
    tells old mid request.Files (reply.Files names) is only (λ why told. absurd (cc))
    (λ before from now.
    let session = subst IsSession (sym from) is in
    let on = shown_on now page (subst (λ (s : SessionState). ReadsCatalog a s page) (sym from) reads) (shown_lends now session.sizes) in
    let told = ap reply.Files (same ∙ ap (λ (c : Catalog). map name_of c.entries) on ∙ sym (names_shown (HasIndex now.shows.decoded.geometry (working_units now.shows.decoded before.disk before.session.meta.working)) (working_units now.shows.decoded before.disk before.session.meta.working) now.shows.working.catalog.entries now.shows.working.files (shown_parts now.shows).1.0.0) ∙ ap (λ (t : Table). map (λ (f : TableFile). f.name) t.files) (sym (shows_catalog now.shows).table)) in
    took_place before.machine before.machine request.Files _ (reply.Files names) refl told refl (tt, λ none. absurd (cc)))
