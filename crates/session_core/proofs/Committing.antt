-- What a commit asks of a session that shows, and what it makes of units and owners.
use Rattle.std.proofs.Common.{◌≡◌, ◌≢◌, ◌∙◌, ◌↔◌, ◌⊎◌, ⊎_elim, cond, eqb-true, ℕ, ◌+◌, Bool, true, false, List, [], ◌∷◌, ◌++◌, All, Some, None, is_some, nat_eq, refl, sym, ap, subst, inl, inr, arith}
use Rattle.std.specs.Prelude.{IsTrue, Contains, is_none}
use Rattle.std.specs.List.{AllByRecursion}
use Rattle.std.specs.Map.{lookup}
use Rattle.ex_base.specs.declared.geometry.Geometry.{Geometry}
use Rattle.ex_base.specs.declared.names.OpNote.{OpNote}
use Rattle.ex_base.specs.Area.{catalog_no}
use Rattle.ex_base.proofs.Each.{each_from}
use Rattle.ex_base.proofs.Options.{some_apart_inside}
use Rattle.disk_model.specs.Outside.{Outside, IsWorld, ReadsOnly, Leaves}
use Rattle.disk_model.specs.Runs.{leaves_trans, leaves_wider, honest_on}
use Rattle.op_log.specs.Log.{SaysLog}
use Rattle.op_log.specs.State.{LogState}
use Rattle.op_log.specs.declared.record.LogRecord.{LogRecord}
use Rattle.meta_pages.specs.Rows.{with_row}
use Rattle.object_files.specs.Catalog.{Catalog, CatalogOf}
use Rattle.object_files.specs.Reads.{with_numbers}
use Rattle.trees.specs.Trees.{Units}
use Rattle.table_model.specs.declared.table.Table.{Table}
use Rattle.table_model.specs.Machines.{unmarked}
use Rattle.table_model.specs.Steps.{table_committed}
use Rattle.table_model.proofs.Keeping.{is_working}
use Rattle.session_views.specs.View.{View, ShowsNow, StandsDuring}
use Rattle.table_model.specs.Requests as request
use Rattle.volume_model.specs.Committed.{Committed, IsOverlayOf, MayCommit, CommittedAs, StandsForEither, with_records}
use Rattle.volume_model.specs.Parts.{StandsFor}
use Rattle.volume_model.specs.Shown.{Held, Shows, WorkingRow, PageRow, IsWorkingPage, working_units}
use Rattle.volume_model.specs.Volume.{Volume, Decoded, table_of, units_of, file_pages, reach_of, roots_in, stored_in}
use Rattle.buffer_groups.specs.Frames.{Frames}
use Rattle.buffer_groups.specs.Frames as lent
use Rattle.meta_pages.specs.Overlays.{Overlays}
use Rattle.session_core.specs.Commits.{LogsCommit, scans_reach}
use Rattle.session_core.specs.Sessions.{SessionState, IsSession, IsTracked, Settled, held, is_kept}
use Rattle.session_core.specs.Meant.{meant, held_view}
use Rattle.session_core.proofs.Quiet.{left_before, quiet_moments}
use Rattle.session_core.proofs.Refusing.{none_is_false}
use Rattle.volume_model.proofs.LastNumbers.{next_follows}
use Rattle.volume_model.proofs.Volumes.{shown_parts}
use Rattle.volume_model.proofs.KeptOff.{Others, SameOff, others_kept, trees_off, trees_kept, table_off}
use Rattle.trees.specs.Owners.{IsOwned, root_pages}
use Rattle.ex_base.proofs.Counts.{contains_times, times-append}
use Rattle.ex_base.proofs.Members.{contains_later}
use Rattle.volume_model.specs.Homes.{home}
use Rattle.volume_model.specs.OwnersMoved.{PagesGo}
use Rattle.volume_model.specs.OwnersShown.{OwnersShown, logged_pages}
use Rattle.volume_model.proofs.OwnersSwept.{committed as owners_committed, homes_owned}
use Rattle.session_core.proofs.Ending.{pages_go, same_refs, scan_roots}
use Rattle.volume_model.proofs.AtRest.{committed_side, in_second}
use Rattle.session_core.proofs.Tracking.{kept_settled, tracked_put}
use Rattle.std.proofs.lemmas.List.Elements.{Contains-append_left, Contains-append_cases}
use Rattle.std.proofs.lemmas.Bool.{cases_eq, both_ways, false_from_ne_true}
use Rattle.trees.proofs.SameUnits.{Kept}
use Rattle.volume_model.specs.SameVolume.{kept_from_reach}
use Rattle.volume_port.specs.Logged.{is_held}
use Rattle.volume_port.proofs.WorkingRows.{put_other}
use Rattle.page_alloc.specs.UnitSet.{UnitSet, refs_at, used_at}
use Rattle.op_log.specs.AfterLog.{logged}
use Rattle.commits.proofs.Reached.{reach_behind}
use Rattle.volume_model.proofs.Showing.{view_of, trees_in, shows_catalog, session_geometry}
use Rattle.volume_port.proofs.Working.{lookup_put, each_put, images_of_files, working_image, same_off}

-- ---- what a commit asks

-- the catalog with the number of the commit
abbrev pub numbered : Catalog → Catalog
numbered c = with_numbers c c.next_unique (c.last + 1)

-- the volume with its catalog so numbered
abbrev pub committed_as : Volume → Volume
committed_as v = record v { catalog = numbered v.catalog }

same_number : {may_leave : List ℕ → Type 0} {v : View Held} (shows : Shows may_leave v) → is_none v.machine.working ≡ false → shows.working.catalog.last ≡ shows.decoded.volume.catalog.last
same_number {may_leave} {v} shows opened =
    let work = is_working v.machine shows.rules opened in
    let one = ap (λ (t : Table). t.last) (shows_catalog shows).table in
    let two = ap (λ (t : Table). t.last) shows.committed in
    sym one ∙ work.last ∙ two

others_numbered : (g : Geometry) (records : List LogRecord) (units : Units) (v : Volume) → Others g records units v → Others g records units (committed_as v)
others_numbered g records units v (file, (page, (body, (node, (balance, (unique, end)))))) = (
  file,
  (
    page,
    (
      body,
      (
        record { named = node.named; no_file_page = node.no_file_page; objects = node.objects },
        (balance, (record { differ = unique.differ; some = unique.some; below = unique.below }, tt)),
      ),
    ),
  ),
)

-- the working pages with the catalog that has its number
abbrev pub numbered_rows : List ℕ → List WorkingRow → List WorkingRow
numbered_rows page rows = with_row catalog_no (Some page) rows

module _ {may_leave : List ℕ → Type 0} {v : View SessionState} (shows : Shows may_leave (held_view v)) (page : List ℕ) (session : IsSession v.session) (opened : v.session.opened ≡ true) where
  abbrev d : Decoded
  d = shows.decoded

  abbrev rows : List WorkingRow
  rows = v.session.meta.working

  abbrev later : List WorkingRow
  later = numbered_rows page rows

  abbrev w : Volume
  w = committed_as shows.working

  abbrev units : Units
  units = working_units d v.disk rows

  abbrev numbered_units : Units
  numbered_units = working_units d v.disk later

  off : SameOff units numbered_units
  off = same_off d v.disk page rows

  was : Others d.geometry d.records units shows.working
  was = (shown_parts shows).1

  trees_stay : trees_in numbered_units w ≡ trees_in units shows.working
  trees_stay = trees_off d.geometry d.records units numbered_units shows.working off was

  pub may_commit : CatalogOf page (numbered shows.working.catalog) → MayCommit d v.disk later (shows.working.catalog.last + 1) w
  may_commit catalog =
      let there = lookup_put catalog_no (Some page) rows in
      let seen = view_of v.machine (record (held v.session) { working_pages = later }) v.disk in
      let some : is_some v.machine.working ≡ true = shows.shared.open_txn ∙ opened in
      let old = session.work opened in
      record {
        follows = next_follows d.records d.volume.catalog.last (shows.working.catalog.last + 1) shows.parts.1.1.0.1 (ap (λ (n : ℕ). n + 1) (same_number shows (none_is_false v.machine.working some)));
        last = refl;
        parts = (
          (subst (λ (bytes : List ℕ). CatalogOf bytes (numbered shows.working.catalog)) (sym (working_image d seen page there)) catalog, tt),
          others_numbered d.geometry [] numbered_units shows.working (others_kept d.geometry d.records [] units numbered_units shows.working off was),
        );
        images = each_put (IsWorkingPage w) catalog_no (Some page) rows (λ some. inl refl) (images_of_files shows.working w rows refl shows.apart.images);
        kept = λ number has gone. ⊎_elim
            (λ (same : number ≡ catalog_no). some_apart_inside page (sym there ∙ ap (λ (q : ℕ). lookup (nat_eq q) later) (sym same) ∙ gone))
            (λ (differ : number ≢ catalog_no). both_ways _ (session.pages.gone number (sym (put_other catalog_no (Some page) rows number (λ e. differ (sym e))) ∙ gone)) ((shows.logged.held number).1 has)) (cases_eq number catalog_no);
        left = λ number file none.
            let gone = shows.apart.left some number file none in
            ⊎_elim
            (λ (same : number ≡ catalog_no). absurd (some_apart_inside old.image (sym old.there ∙ ap (λ (q : ℕ). lookup (nat_eq q) rows) (sym same) ∙ gone)))
            (λ (differ : number ≢ catalog_no). put_other catalog_no (Some page) rows number (λ e. differ (sym e)) ∙ gone) (cases_eq number catalog_no);
        no_tree = λ number file tree.
            shows.apart.no_tree number (Contains-append_left (file_pages d.volume) (file_pages shows.working) number file)
            (in_second (trees_in (units_of d v.disk) d.volume) (trees_in units shows.working) (scans_reach d v) number (subst (λ (us : List ℕ). Contains us number) trees_stay tree));
      }

  -- what the working volume reaches was not given back, where it was the committed volume's
  not_gone : CatalogOf page (numbered shows.working.catalog) → (u : ℕ) → Contains (reach_of numbered_units w) u → lookup (nat_eq u) later ≡ Some None → (u ≡ catalog_no) ⊎ Contains (file_pages d.volume) u → ⊥
  not_gone catalog u reached gone old =
      let may = may_commit catalog in
      ⊎_elim (λ (file : Contains (catalog_no ∷ file_pages w) u). may.kept u file gone)
      (λ (tree : Contains (trees_in numbered_units w) u). ⊎_elim
      (λ (same : u ≡ catalog_no). some_apart_inside page (sym (lookup_put catalog_no (Some page) rows) ∙ ap (λ (q : ℕ). lookup (nat_eq q) later) (sym same) ∙ gone))
      (λ file. may.no_tree u file tree) old) (Contains-append_cases (catalog_no ∷ file_pages w) (trees_in numbered_units w) u reached)

  logged_old : (u : ℕ) → logged d.records u ≢ None → (u ≡ catalog_no) ⊎ Contains (file_pages d.volume) u
  logged_old u some = has_row v.session.meta.committed shows.overlay.pages (λ none. some (sym (shows.overlay.just u) ∙ none))
    where
      has_row : (os : List PageRow) → AllByRecursion (λ (row : PageRow). (row.0 ≡ catalog_no) ⊎ Contains (file_pages d.volume) row.0) os → lookup (nat_eq u) os ≢ None → (u ≡ catalog_no) ⊎ Contains (file_pages d.volume) u
      has_row [] each isnt = absurd (isnt refl)
      has_row (row ∷ os) each isnt = (elim (nat_eq u row.0) as (λ b. nat_eq u row.0 ≡ b → cond b (Some row.1) (lookup (nat_eq u) os) ≢ None → (u ≡ catalog_no) ⊎ Contains (file_pages d.volume) u) [
        | true ↦ λ t _. subst (λ (q : ℕ). (q ≡ catalog_no) ⊎ Contains (file_pages d.volume) q) (sym (eqb-true u row.0 t)) each.0
        | false ↦ λ t isnt. has_row os each.1 isnt
      ]) refl isnt

  -- the units that a commit leaves are those of the working volume
  module _ (catalog : CatalogOf page (numbered shows.working.catalog)) (txn : ℕ) (notes : List OpNote) (leave : List ℕ → Type 0) (disk : List ℕ) (log : LogState) (overlay : List PageRow)
      (done : CommittedAs d v.disk later txn notes w leave disk log overlay) where
    abbrev e : Decoded
    e = with_records d (done.earlier ++ done.made ∷ []) w

    abbrev new_units : Units
    new_units = units_of e disk

    kept_units : Kept numbered_units new_units (reach_of numbered_units w)
    kept_units = each_from (λ u. new_units u ≡ numbered_units u) (reach_of numbered_units w) (λ u reached.
        done.pages u (reach_behind d.geometry numbered_units w u (may_commit catalog).parts reached) (λ stale. not_gone catalog u reached stale.0 (logged_old u stale.1)))

    new_trees : trees_in new_units w ≡ trees_in numbered_units w
    new_trees = trees_kept numbered_units new_units (roots_in (stored_in w)) (kept_from_reach numbered_units new_units w kept_units).roots

    -- the working volume has the trees that it had
    pub new_reach : reach_of new_units w ≡ reach_of units shows.working
    new_reach = ap (λ (us : List ℕ). (catalog_no ∷ file_pages w) ++ us) (new_trees ∙ trees_stay)

    module _ (given : UnitSet) (owned : IsOwned d.geometry (home d.geometry v.disk) (used_at given) (refs_at given) (logged_pages d shows.working) (root_pages (roots_in (stored_in shows.working) ++ scan_roots v.session))) (now : List Bool) (used : UnitSet)
        (settled : Settled later v.session.kept now given used) where
      tracked : IsTracked v.session.geometry later v.session.pages v.session.kept
      tracked = tracked_put v.session.geometry rows v.session.pages v.session.kept session.pages page

      -- the pages of committed files that the working ones lack are freed
      settled_go : PagesGo (used_at given) (used_at used) (refs_at given) (file_pages d.volume) (catalog_no ∷ file_pages shows.working)
      settled_go =
          pages_go _ given used (file_pages d.volume) (catalog_no ∷ file_pages shows.working) settled.units
          (λ p here (gone, flag). both_ways _ (tracked.gone p gone) ((shows.logged.held p).1 here))
          (λ p here none.
          let flag = (shows.logged.kept p).1 (contains_later catalog_no p (file_pages d.volume) here) in
          let off : is_held v.session.pages p ≡ false = false_from_ne_true (is_held v.session.pages p) (λ held. none ((shows.logged.held p).0 held)) in
          let unnamed = owned.apart p (omega (arith, contains_times p (file_pages d.volume) here, times-append p (catalog_no ∷ []) (file_pages d.volume), times-append p (catalog_no ∷ file_pages d.volume) (file_pages shows.working))) in
          settled.freed p (⊎_elim (λ (held : is_held v.session.pages p ≡ true). absurd (both_ways _ off held)) (λ gone. gone) (tracked.known p flag)) flag unnamed)

      -- each unit has the owners of the working volume
      pub owners_left : OwnersShown e (used_at used) (refs_at used) [] [] (scan_roots v.session) disk w
      owners_left =
          subst (λ (refs : ℕ → ℕ). OwnersShown e (used_at used) refs [] [] (scan_roots v.session) disk w) (same_refs given used settled.units)
          (owners_committed d (scan_roots v.session) w (done.earlier ++ done.made ∷ []) (used_at given) (used_at used) (refs_at given) v.disk disk owned
          (λ u area some. homes_owned d (scan_roots v.session) shows.working (held_view v) shows.overlay (used_at given) (refs_at given) (root_pages (roots_in (stored_in shows.working) ++ scan_roots v.session)) v.disk disk owned done.homes u area some)
          settled_go)

      pub kept_left : (p : ℕ) → (is_kept now p ≡ true) ↔ Contains (catalog_no ∷ file_pages w) p
      kept_left p =
          subst (λ (b : Bool). (b ≡ true) ↔ Contains (catalog_no ∷ file_pages w) p) (sym (kept_settled v.session.geometry later v.session.pages v.session.kept tracked now given used settled p)) (shows.logged.held p)

-- the table that the commit leaves
pub commits_table : {may_leave : List ℕ → Type 0} {v : View Held} (shows : Shows may_leave v) (page : List ℕ)
    → table_committed v.machine ≡ table_of (working_units shows.decoded v.disk (numbered_rows page v.session.working_pages)) (committed_as shows.working)
commits_table {may_leave} {v} shows page =
    let d = shows.decoded in
    let rows = v.session.working_pages in
    ap (λ (t : Table). record t { last = t.last + 1 })
    ((shows_catalog shows).table ∙ sym (table_off d.geometry d.records (working_units d v.disk rows) (working_units d v.disk (numbered_rows page rows)) shows.working (same_off d v.disk page rows) (shown_parts shows).1))

-- ---- a commit

abbrev pub Moments : Outside → Outside → LogState → Overlays → ℕ → Type 0
Moments m b log meta txn = (d : Decoded) (held : List ℕ) (working : Volume) → IsTrue m.honest → m.disk ≡ Some held → Committed m.images d held log meta.committed → IsOverlayOf d.volume meta.committed
    → MayCommit d held meta.working txn working → Leaves m b (StandsForEither d held meta.working working)

abbrev pub Commits : Outside → Outside → LogState → Overlays → ℕ → List OpNote → LogState → Overlays → Type 0
Commits m b log meta txn notes log_now meta_now = (d : Decoded) (held : List ℕ) (working : Volume) → IsTrue m.honest → m.disk ≡ Some held → Committed m.images d held log meta.committed → IsOverlayOf d.volume meta.committed
    → MayCommit d held meta.working txn working → (later : List ℕ) × (b.disk ≡ Some later) × CommittedAs d held meta.working txn notes working b.images later log_now meta_now.committed

-- the logged pages with the new number in the working catalog
abbrev pub numbered_pages : Overlays → List ℕ → Overlays
numbered_pages meta page = record meta { working = with_row catalog_no (Some page) meta.working }

pub commit_moments : {a m b : Outside} {before : View SessionState} (now : ShowsNow meant a before) (page : List ℕ) → IsSession before.session → IsWorld a → ReadsOnly a m → before.session.opened ≡ true → CatalogOf page (numbered now.shows.working.catalog)
    → Moments m b before.session.log (numbered_pages before.session.meta page) (now.shows.working.catalog.last + 1) → Leaves a b (StandsDuring meant before.machine request.Commit)
commit_moments {a} {m} {b} {before} now page session world reads opened catalog moments =
    let some : is_some before.machine.working ≡ true = now.shows.shared.open_txn ∙ opened in
    let rows = numbered_rows page before.session.meta.working in
    let w = committed_as now.shows.working in
    let leaves = moments now.shows.decoded before.disk w (honest_on reads.nothing.only.goes now.honest) (reads.nothing.disk ∙ now.holds) (committed_side now.shows (left_before reads now)) now.shows.overlay.pages
    (may_commit now.shows page session opened catalog) in
    leaves_trans (StandsDuring meant before.machine request.Commit) (quiet_moments request.Commit world reads before now)
    (leaves_wider (StandsForEither now.shows.decoded before.disk rows w) (StandsDuring meant before.machine request.Commit) leaves
    (λ image either. elim either [
      | inl old ↦ inl (subst (StandsFor image) (sym now.shows.committed) old)
      | inr new ↦ inr ((refl, some), subst (StandsFor image) (sym (commits_table now.shows page)) new)
    ]))

-- the session after a commit
abbrev pub committed_session : SessionState → LogState → Overlays → List Frames → List Bool → UnitSet → SessionState
committed_session s log meta groups kept units =
    record s { log = log; meta = meta; kept = kept; units = units; groups = groups; notes = []; gained = []; lost = []; names = unmarked s.names; opened = false; down = false }

-- the frames after a step that wrote
pub record FramesAfter (b : Outside) (g : Geometry) (groups : List Frames) : Type 0 where
  pub sizes : All (λ (f : Frames). f.page_size ≡ g.page_size) groups
  pub lends : All (lent.Lends b.disk) groups

pub commit_logs : {a m b : Outside} {before : View SessionState} (now : ShowsNow meant a before) (page : List ℕ) (log : LogState) (meta : Overlays) → IsSession before.session → ReadsOnly a m → before.session.opened ≡ true → CatalogOf page (numbered now.shows.working.catalog)
    → Commits m b before.session.log (numbered_pages before.session.meta page) (now.shows.working.catalog.last + 1) before.session.notes log meta → LogsCommit now.shows.decoded now.shows.working before.session b
commit_logs {a} {m} {b} {before} now page log meta session reads opened catalog commits =
    let done = commits now.shows.decoded before.disk (committed_as now.shows.working) (honest_on reads.nothing.only.goes now.honest) (reads.nothing.disk ∙ now.holds) (committed_side now.shows (left_before reads now)) now.shows.overlay.pages
    (may_commit now.shows page session opened catalog) in
    let result = done.2 in
    record {
      catalog = page;
      numbered = catalog;
      earlier = result.earlier;
      those = result.those;
      made = result.made;
      rule = result.rule;
      anew = result.anew;
      says = record { disk = done.0; holds = done.1; says = subst (λ (g : Geometry). SaysLog g (result.earlier ++ result.made ∷ []) done.0) (sym (session_geometry now.shows)) result.committed.parts.1.0.says };
    }
