-- What holds of every session goes on holding after an update, and after one that is given up.
use Rattle.std.proofs.Common.{◌≡◌, ◌∙◌, ⊎_elim, ℕ, ◌<◌, ◌≤◌, ◌+◌, ◌-◌, ◌*◌, ◌^◌, suc, true, false, List, [], ◌∷◌, ◌++◌, Bool, length, Some, nat_eq, refl, sym, ap, subst, inl, inr, arith, length-append}
use Rattle.std.specs.Map.{lookup}
use Rattle.std.proofs.lemmas.Bool.{cases_Bool, both_ways, or_right}
use Rattle.ex_base.specs.declared.geometry.Geometry.{Geometry}
use Rattle.ex_base.specs.declared.names.OpNote.{OpNote}
use Rattle.ex_base.specs.declared.names.Root.{Root}
use Rattle.ex_base.specs.Sizes.{volume_bytes}
use Rattle.disk_model.specs.Outside.{Outside}
use Rattle.op_log.specs.Records.{IsNote}
use Rattle.op_log.proofs.Reading.{each-push}
use Rattle.meta_pages.specs.Overlays.{Overlays}
use Rattle.meta_pages.specs.Rows.{IsRising}
use Rattle.page_alloc.specs.UnitSet.{UnitSet, used_at}
use Rattle.commits.specs.Room.{IsLogged}
use Rattle.volume_port.specs.Logged.{LoggedSet, is_held}
use Rattle.table_model.specs.Machines.{updates_most, touched_most}
use Rattle.session_core.specs.Sessions.{SessionState, ArePagesUsed, IsSession, IsTracked, HasWork, TakenBack, volume_held}
use Rattle.std.specs.Prelude.{Result, Ok, Err, IfOk, OnOk, OnErr, is_ok, Option, None}
use Rattle.ex_base.specs.declared.faults.PortFault.{PortFault}
use Rattle.ex_base.specs.declared.names.Oid.{Oid}
use Rattle.disk_model.specs.Outside.{IsWorld, Leaves}
use Rattle.table_model.specs.Requests.{Request}
use Rattle.session_views.specs.declared.stop.Stop.{Stop}
use Rattle.session_views.specs.View.{View, ShowsNow, StandsDuring}
use Rattle.session_core.specs.Meant.{meant}
use Rattle.session_core.proofs.Updating.{update_moments}
use Rattle.session_core.specs.declared.updates.Done.{Done}
use Rattle.session_core.specs.Updates.{HasRoots, HasVolume, IsLoose, WritesUnused, note_done, note_with}
use Rattle.volume_port.specs.State.{AreReady, Moved}
use Rattle.volume_port.specs.declared.state.VolumeState.{VolumeState}
use Rattle.ex_base.specs.Area.{catalog_no}
use Rattle.session_core.proofs.Sessions.{main_there}
use Rattle.session_core.proofs.Tracking.{counted_gives, tracked_back, used_back}

-- a port may be made over the volume of a session
pub session_ready : (s : SessionState) (size : ℕ) → IsSession s → volume_bytes s.geometry ≤ size → AreReady size (volume_held s)
session_ready s size is room = record {
  fits = record { group = main_there s.group_rows s.groups is.groups; disk = room; frames = is.sizes; behind = is.behind; counted = is.units };
  overlay = is.meta;
  held_len = is.pages.held_len;
  kept_len = is.pages.kept_len;
  catalog = is.pages.catalog;
  in_use = is.in_use.working;
  images = is.pages.images;
  gone = is.pages.gone;
}

-- the session with this volume
abbrev pub moved_to : SessionState → VolumeState → SessionState
moved_to s p = record s { geometry = p.geometry; log = p.log; meta = p.meta; pages = p.pages; kept = p.kept; units = p.units; groups = p.groups }

module _ {a b : Outside} (s : SessionState) (p : VolumeState) (is : IsSession s) (moved : Moved (IsLoose p.pages p.kept) a b (volume_held s) p) where
  ready : AreReady b.size (record (volume_held s) { units = p.units; groups = p.groups; meta = p.meta; pages = p.pages })
  ready = subst (AreReady b.size) moved.rest moved.ready

  kept_is : p.kept ≡ s.kept
  kept_is = ap (λ (v : VolumeState). v.kept) moved.rest

  pub tracked_moved : IsTracked s.geometry p.meta.working p.pages s.kept
  tracked_moved = record {
    held_len = ready.held_len;
    kept_len = is.pages.kept_len;
    catalog = ready.catalog;
    catalog_kept = is.pages.catalog_kept;
    images = ready.images;
    gone = ready.gone;
    known = λ page flag. ⊎_elim (λ there. inl there) (λ off. inr (moved.given_back page (is.pages.known page flag) off)) (cases_Bool (is_held p.pages page));
    untouched = λ page held none. let was = moved.untouched page (held, none) in is.pages.untouched page was.0 was.1;
  }

  used_moved : ArePagesUsed (used_at p.units) p.pages s.kept
  used_moved = record {
    working = ready.in_use;
    committed = λ page flag. moved.used page (is.in_use.committed page flag)
        (λ loose. both_ways _ loose (or_right (is_held p.pages page) (is_held p.kept page) (ap (λ (flags : List Bool). is_held flags page) kept_is ∙ flag)));
  }

  logged_moved : IsLogged s.log p.meta
  logged_moved =
      let size = ap (λ (g : Geometry). g.page_size) (is.meta ∙ sym ready.overlay) in
      record {
        images = subst (λ (n : ℕ). length p.meta.committed * (n + 4) ≤ s.log.end) size (subst (λ (rows : List (ℕ × List ℕ)). length rows * (s.meta.geometry.page_size + 4) ≤ s.log.end) (sym moved.committed) is.logged.images);
        none = is.logged.none;
      }

  -- the transaction has its catalog still: no call leaves a touched page untouched, and the catalog is there
  pub work_moved : s.opened ≡ true → HasWork p.meta
  work_moved opened = row (lookup (nat_eq catalog_no) p.meta.working) refl
    where
      row : (r : Option (Option (List ℕ))) → lookup (nat_eq catalog_no) p.meta.working ≡ r → HasWork p.meta
      row (Some (Some image)) there = record { image = image; there = there }
      row (Some None) there = absurd (both_ways _ (moved.ready.gone catalog_no there) moved.ready.catalog)
      row None there =
          let was = moved.untouched catalog_no (moved.ready.catalog, there) in
          let work = is.work opened in
          let both : None ≡ Some (Some work.image) = sym was.1 ∙ work.there in
          absurd (cc)

  -- an update that was noted
  pub moved_session : (gained lost : List Root) → length gained ≤ suc (length s.gained) → length lost ≤ suc (length s.lost) → (note : OpNote) → IsNote note → length s.notes < updates_most → length p.meta.working ≤ touched_most → IsRising p.meta.working → s.opened ≡ true
      → IsSession (record (moved_to s p) { notes = s.notes ++ note ∷ []; gained = gained; lost = lost })
  moved_session gained lost few_gained few_lost note noted room few rising opened = subst (λ (v : VolumeState). IsSession (record (moved_to s v) { notes = s.notes ++ note ∷ []; gained = gained; lost = lost })) (sym moved.rest) (record {
    log = is.log;
    meta = ready.overlay;
    units = ready.fits.counted;
    pages = tracked_moved;
    in_use = used_moved;
    sizes = ready.fits.frames;
    groups = moved.kinds ∙ is.groups;
    few_groups = is.few_groups;
    scans = is.scans;
    few_scans = is.few_scans;
    logged = logged_moved;
    behind = ready.fits.behind;
    few_notes = omega (arith, length-append s.notes (note ∷ []), room);
    notes = each-push IsNote s.notes note is.notes noted;
    few_gained = omega (arith, length-append s.notes (note ∷ []), is.few_gained, few_gained);
    few_lost = omega (arith, length-append s.notes (note ∷ []), is.few_lost, few_lost);
    few_pages = few;
    in_order = rising;
    work = λ _. work_moved opened;
    up = is.up;
    idle = λ shut. absurd (both_ways _ shut opened);
  })

  -- one that was given up: the working pages are again those of the committed state
  pub given_up : (gained lost : List Root) (meta : Overlays) (pages : LoggedSet) (units : UnitSet) → gained ≡ [] → lost ≡ [] → meta ≡ record p.meta { working = [] } → TakenBack p.meta.working p.kept p.pages pages p.units units
      → IsSession (record (moved_to s p) { meta = meta; pages = pages; units = units; gained = gained; lost = lost; opened = false; down = false })
  given_up gained lost meta pages units none_gained none_lost emptied taken =
      let back = subst (λ (flags : List Bool). TakenBack p.meta.working flags p.pages pages p.units units) kept_is taken in
      subst (λ (v : VolumeState). IsSession (record (moved_to s v) { meta = meta; pages = pages; units = units; gained = gained; lost = lost; opened = false; down = false })) (sym moved.rest)
      (subst (λ (m : Overlays). IsSession (record s { meta = m; pages = pages; units = units; groups = p.groups; gained = gained; lost = lost; opened = false; down = false })) (sym emptied)
      (subst (λ (roots : List Root). IsSession (record s { meta = record p.meta { working = [] }; pages = pages; units = units; groups = p.groups; gained = roots; lost = lost; opened = false; down = false })) (sym none_gained)
      (subst (λ (roots : List Root). IsSession (record s { meta = record p.meta { working = [] }; pages = pages; units = units; groups = p.groups; gained = []; lost = roots; opened = false; down = false })) (sym none_lost) (record {
        log = is.log;
        meta = ready.overlay;
        units = counted_gives s.geometry _ p.units units ready.fits.counted back.units;
        pages = tracked_back s.geometry p.meta.working p.pages s.kept tracked_moved pages p.units units back;
        in_use = used_back s.geometry p.meta.working p.pages s.kept tracked_moved pages p.units units back used_moved;
        sizes = ready.fits.frames;
        groups = moved.kinds ∙ is.groups;
        few_groups = is.few_groups;
        scans = is.scans;
        few_scans = is.few_scans;
        logged = (let h = logged_moved in record { images = h.images; none = h.none });
        behind = ready.fits.behind;
        few_notes = is.few_notes;
        notes = is.notes;
        few_gained = omega arith;
        few_lost = omega arith;
        few_pages = omega arith;
        in_order = tt;
        work = λ opened. absurd (cc);
        up = λ _. refl;
        idle = λ _ _. (refl, refl, refl);
      }))))

  -- the same, where the session was like that
  pub given_up_at : (inside : SessionState) (was_gained was_lost : List Root) → inside ≡ record (moved_to s p) { gained = was_gained; lost = was_lost } → (gained lost : List Root) (meta : Overlays) (pages : LoggedSet) (units : UnitSet)
      → gained ≡ [] → lost ≡ [] → meta ≡ record inside.meta { working = [] } → TakenBack inside.meta.working inside.kept inside.pages pages inside.units units
      → IsSession (record inside { meta = meta; pages = pages; units = units; gained = gained; lost = lost; opened = false; down = false })
  given_up_at inside was_gained was_lost same gained lost meta pages units none_gained none_lost emptied taken =
      subst (λ (t : SessionState). IsSession (record t { meta = meta; pages = pages; units = units; gained = gained; lost = lost; opened = false; down = false })) (sym same)
      (given_up gained lost meta pages units none_gained none_lost (emptied ∙ ap (λ (t : SessionState). record t.meta { working = [] }) same)
      (subst (λ (t : SessionState). TakenBack t.meta.working t.kept t.pages pages t.units units) same taken))

-- ---- as the code comes to it

-- the note of an update that was performed is that of the OID that it answered
pub noted_so : (note noted : OpNote) (done : Result Done PortFault) → is_ok done ≡ true → noted ≡ note_done note done → noted ≡ note_with note noted.oid
noted_so note noted (Ok done) ok is = is ∙ ap (λ (n : OpNote). note_with note n.oid) (sym is)
noted_so note noted (Err fault) ok is = absurd (cc)

-- the note is one of the log with any OID whose numbers fit their fields
pub note_with_oid : (note noted : OpNote) → noted ≡ note_with note noted.oid → IsNote note → noted.oid.page.0 < 2 ^ 32 → noted.oid.slot < 2 ^ 16 → noted.oid.unique < 2 ^ 64 → IsNote noted
note_with_oid note noted same is page slot unique =
    subst IsNote (sym same) (record { page = page; slot = slot; unique = unique; first = is.first; second = is.second })

-- what holds anyway holds of an error
pub on_err : {P : Type 0} (result : Result Oid Stop) → P → OnErr result P
on_err (Ok oid) p = tt
on_err (Err stop) p = p

-- where the session stops, no version is answered
pub none_answered : (P : Oid → Type 0) (result : Result Oid Stop) (why : Stop) → result ≡ Err why → IfOk result P
none_answered P result why is = subst (λ (r : Result Oid Stop). IfOk r P) (sym is) tt

-- what is said of an update that was performed holds of one
pub when_done : {P : Type 0} (done : Result Done PortFault) → is_ok done ≡ true → OnOk done P → P
when_done (Ok done) ok p = p
when_done (Err fault) ok p = absurd (both_ways false refl ok)

-- what holds of the OID that it answered holds of the noted one
pub at_oid : (P : Oid → Type 0) (note noted : OpNote) (done : Result Done PortFault) → is_ok done ≡ true → noted ≡ note_done note done → IfOk done (λ d. P d.oid) → P noted.oid
at_oid P note noted (Ok done) ok is p = subst P (ap (λ (n : OpNote). n.oid) (sym is)) p
at_oid P note noted (Err fault) ok is p = absurd (cc)

-- the session that was seen is the one that holds these fields
pub has_seen : (s now : SessionState) (before : View SessionState) → s ≡ now → before.session ≡ now → IsSession s → HasVolume before.session (volume_held s)
has_seen s now before seen same is =
    let here : s ≡ before.session = seen ∙ sym same in
    record { is = subst IsSession here is; volume = ap volume_held (sym here) }

-- and its roots are these
pub has_roots : (s : SessionState) (before : View SessionState) → before.session ≡ s → HasRoots before.session s.gained s.lost
has_roots s before same = record { gained = ap (λ (t : SessionState). t.gained) same; lost = ap (λ (t : SessionState). t.lost) same }

-- at every moment of it a crash leaves the committed table
pub moments_of : {a b : Outside} (s now : SessionState) → s ≡ now → IsSession s → IsWorld a → WritesUnused a b s
    → (before : View SessionState) → before.session ≡ now → ShowsNow meant a before → (r : Request) → Leaves a b (StandsDuring meant before.machine r)
moments_of {a} {b} s now seen is world changes before same shows r =
    let here : s ≡ before.session = seen ∙ sym same in
    update_moments shows (subst IsSession here is) r before.session world (subst (λ (t : SessionState). WritesUnused a b t) here changes)
