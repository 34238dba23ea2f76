-- What holds of every session goes on holding.
use Rattle.std.proofs.Common.{◌≡◌, ◌≢◌, ◌∙◌, ℕ, ◌-◌, ◌^◌, ◌<◌, ◌≤◌, Bool, true, false, List, [], ◌∷◌, ◌++◌, length, map, All, Option, Some, nat_eq, refl, sym, ap, subst, arith, length-append}
use Rattle.std.specs.List.{AllByRecursion}
use Rattle.std.specs.Map.{lookup}
use Rattle.std.specs.Prelude.{Result, Ok, Err, OnErr, is_err}
use Rattle.object_files.specs.Catalog.{Catalog}
use Rattle.ex_base.specs.declared.names.OpNote.{OpNote}
use Rattle.ex_base.specs.declared.names.Root.{Root}
use Rattle.ex_base.specs.Area.{catalog_no}
use Rattle.ex_base.specs.Sizes.{volume_bytes}
use Rattle.volume_port.specs.Reading.{CanRead}
use Rattle.op_log.specs.Records.{IsNote}
use Rattle.op_log.proofs.Reading.{each-push}
use Rattle.meta_pages.specs.Overlays.{Overlays}
use Rattle.meta_pages.specs.Rows.{with_row, IsRising}
use Rattle.meta_pages.proofs.RowLists.{rising_with}
use Rattle.object_files.specs.Edits.{IsCatalogPage}
use Rattle.object_files.specs.Reads.{catalog_on}
use Rattle.table_model.specs.Machines.{updates_most, touched_most, no_oid}
use Rattle.table_model.specs.Steps.{note}
use Rattle.volume_model.specs.Shown.{WorkingRow}
use Rattle.session_core.specs.Sessions.{SessionState, IsSession, IsTracked, HasWork, Settled, TakenBack, begun}
use Rattle.volume_port.specs.Logged.{LoggedSet}
use Rattle.page_alloc.specs.UnitSet.{UnitSet}
use Rattle.session_core.proofs.Tracking.{tracked_back, tracked_put, tracked_settled, used_back, used_settled, counted_gives}
use Rattle.commits.specs.Room.{IsLogged, HasCatalog, AreBehindLog}
use Rattle.buffer_groups.specs.Frames.{Frames}
use Rattle.buffer_groups.specs.declared.policy.Policy.{Policy}
use Rattle.buffer_groups.specs.Groups.{SameKinds, kind_of}
use Rattle.ex_base.specs.declared.geometry.Geometry.{Geometry}
use Rattle.op_log.specs.State.{LogState}
use Rattle.open_scans.specs.GroupRows.{AreGroupsOf, kind_of_row, main_kind}
use Rattle.table_model.specs.declared.machine.BoundName.{BoundName}
use Rattle.table_model.specs.declared.machine.GroupRow.{GroupRow}
use Rattle.ex_base.specs.Order.{Rising}
use Rattle.ex_base.specs.declared.notes.NoteKind.{NoteKind}
use Rattle.std.proofs.lemmas.List.{length-map}
use Rattle.std.proofs.lemmas.Bool.{both_ways}
use Rattle.session_core.specs.Steps.{OnlyFrames}
use Rattle.disk_model.specs.Outside.{Outside}
use Rattle.volume_port.proofs.Working.{lookup_put, length_put, firsts_put}

-- `main` is among the groups
pub main_there : (rows : List GroupRow) (groups : List Frames) → AreGroupsOf rows groups → 0 < length groups
main_there rows groups are = (let many : length groups ≡ length (main_kind ∷ map kind_of_row rows) = sym (length-map groups kind_of) ∙ ap (λ (kinds : List (ℕ × Policy)). length kinds) are in omega (arith, many))

-- a port for reading may be made over a session, with `main`
pub main_read : (s now : SessionState) (size : ℕ) → s ≡ now → IsSession s → volume_bytes now.geometry ≤ size → CanRead s.geometry size s.groups 0 s.meta
main_read s now size seen is large =
    record { group = main_there s.group_rows s.groups is.groups; disk = subst (λ (t : SessionState). volume_bytes t.geometry ≤ size) (sym seen) large; frames = is.sizes; behind = is.behind; overlay = is.meta }

-- with other working pages and notes
abbrev pub working_on : SessionState → Overlays → List OpNote → Bool → Bool → SessionState
working_on s meta notes opened down = record s { meta = meta; notes = notes; opened = opened; down = down }

-- what holds of other notes of a session
pub record AreNoted (s : SessionState) (notes : List OpNote) : Type 0 where
  pub few : length notes ≤ updates_most
  pub each : AllByRecursion IsNote notes
  pub gained : length s.gained ≤ length notes
  pub lost : length s.lost ≤ length notes

pub works_on : (s : SessionState) (rows : List WorkingRow) (notes : List OpNote) (opened down : Bool) (meta : Overlays) → IsSession s → meta ≡ record s.meta { working = rows } → length rows ≤ touched_most → AreNoted s notes → IsRising rows
    → (opened ≡ true → HasWork (record s.meta { working = rows })) → IsTracked s.geometry rows s.pages s.kept → (opened ≡ true → down ≡ false) → (opened ≡ false → down ≡ false → (rows ≡ []) × (s.gained ≡ []) × (s.lost ≡ [])) → IsSession (working_on s meta notes opened down)
works_on s rows notes opened down meta is same few_rows noted rising work tracked up idle = subst (λ (m : Overlays). IsSession (working_on s m notes opened down)) (sym same) (record {
  log = is.log;
  meta = is.meta;
  units = is.units;
  pages = tracked;
  in_use = is.in_use;
  sizes = is.sizes;
  groups = is.groups;
  few_groups = is.few_groups;
  scans = is.scans;
  few_scans = is.few_scans;
  logged = record { images = is.logged.images; none = is.logged.none };
  behind = is.behind;
  few_notes = noted.few;
  notes = noted.each;
  few_gained = noted.gained;
  few_lost = noted.lost;
  few_pages = few_rows;
  in_order = rising;
  work = work;
  up = up;
  idle = idle;
})

-- a page as the working catalog
pub has_work : (meta : Overlays) (page : List ℕ) → HasWork (record meta { working = with_row catalog_no (Some page) meta.working })
has_work meta page = record { image = page; there = lookup_put catalog_no (Some page) meta.working }

is_note : (kind : NoteKind) → IsNote (note kind no_oid 0 0)
is_note kind = record { page = omega arith; slot = omega arith; unique = omega arith; first = omega arith; second = omega arith }

-- what an update's caller has to see to
pub record MayUpdate (s : SessionState) (page : List ℕ) (kind : NoteKind) : Type 0 where
  pub catalog : IsCatalogPage page
  pub updates : length s.notes < updates_most
  pub touched : length s.meta.working < touched_most
  pub opened : s.opened ≡ true

pub edited : (s now : SessionState) (page : List ℕ) (kind : NoteKind) (meta : Overlays) (notes : List OpNote) → s ≡ now → IsSession s → MayUpdate now page kind → meta ≡ record s.meta { working = with_row catalog_no (Some page) s.meta.working }
    → notes ≡ s.notes → IsSession (working_on s meta notes s.opened s.down)
edited s now page kind meta notes is session may same noted =
    let here = subst (λ (t : SessionState). MayUpdate t page kind) (sym is) may in
    works_on s (with_row catalog_no (Some page) s.meta.working) notes s.opened s.down meta session same (omega (arith, length_put catalog_no (Some page) s.meta.working, here.touched))
    (subst (λ (l : List OpNote). AreNoted s l) (sym noted) (record { few = session.few_notes; each = session.notes; gained = session.few_gained; lost = session.few_lost })) (rising_with catalog_no (Some page) s.meta.working session.in_order) (λ _. has_work s.meta page) (tracked_put s.geometry s.meta.working s.pages s.kept session.pages page) session.up (λ closed. absurd (both_ways _ closed here.opened))

pub noted : (s now : SessionState) (page : List ℕ) (kind : NoteKind) (meta : Overlays) (notes : List OpNote) → s ≡ now → IsSession s → MayUpdate now page kind → meta ≡ record s.meta { working = with_row catalog_no (Some page) s.meta.working }
    → notes ≡ s.notes ++ note kind no_oid 0 0 ∷ [] → IsSession (working_on s meta notes s.opened s.down)
noted s now page kind meta notes is session may same pushed =
    let here = subst (λ (t : SessionState). MayUpdate t page kind) (sym is) may in
    works_on s (with_row catalog_no (Some page) s.meta.working) notes s.opened s.down meta session same (omega (arith, length_put catalog_no (Some page) s.meta.working, here.touched))
    (subst (λ (l : List OpNote). AreNoted s l) (sym pushed) (record {
      few = omega (arith, length-append s.notes (note kind no_oid 0 0 ∷ []), here.updates);
      each = each-push IsNote s.notes (note kind no_oid 0 0) session.notes (is_note kind);
      gained = omega (arith, length-append s.notes (note kind no_oid 0 0 ∷ []), session.few_gained);
      lost = omega (arith, length-append s.notes (note kind no_oid 0 0 ∷ []), session.few_lost);
    })) (rising_with catalog_no (Some page) s.meta.working session.in_order) (λ _. has_work s.meta page) (tracked_put s.geometry s.meta.working s.pages s.kept session.pages page) session.up (λ closed. absurd (both_ways _ closed here.opened))

-- a transaction that could not be opened, and one that was, in a session that isn't down
pub not_begun : (s : SessionState) (meta : Overlays) → IsSession s → s.opened ≡ false → s.down ≡ false → meta ≡ record s.meta { working = [] } → IsSession (working_on s meta s.notes s.opened s.down)
not_begun s meta is closed up same = works_on s [] s.notes s.opened s.down meta is same (omega arith) (record { few = is.few_notes; each = is.notes; gained = is.few_gained; lost = is.few_lost }) tt (λ opened. absurd (both_ways _ closed opened)) (subst (λ (rows : List WorkingRow). IsTracked s.geometry rows s.pages s.kept) (is.idle closed up).0 is.pages) is.up (λ _ _. (refl, (is.idle closed up).1, (is.idle closed up).2))

pub is_begun : (s : SessionState) (meta : Overlays) (notes : List OpNote) (page : List ℕ) → IsSession s → s.opened ≡ false → s.down ≡ false → meta ≡ record s.meta { working = (catalog_no, Some page) ∷ [] } → notes ≡ []
    → IsSession (working_on s meta notes true false)
is_begun s meta notes page is closed up same none =
    works_on s ((catalog_no, Some page) ∷ []) notes true false meta is same (omega arith) (subst (λ (l : List OpNote). AreNoted s l) (sym none) (record {
      few = omega arith;
      each = tt;
      gained = omega (arith, ap (λ (l : List Root). length l) (is.idle closed up).1);
      lost = omega (arith, ap (λ (l : List Root). length l) (is.idle closed up).2);
    })) (tt, tt)
    (λ _. record { image = page; there = refl })
    (tracked_put s.geometry [] s.pages s.kept (subst (λ (rows : List WorkingRow). IsTracked s.geometry rows s.pages s.kept) (is.idle closed up).0 is.pages) page) (λ _. refl) (λ shut. absurd (cc))

-- what a session is seen as
pub seen : {s now : SessionState} → s ≡ now → IsSession s → IsSession now
seen is session = subst IsSession is session

pub still_closed : {a b : Outside} {s now old later : SessionState} → s ≡ now → later ≡ old → OnlyFrames a b old now → later.opened ≡ false → s.opened ≡ false
still_closed is from only closed = ap (λ (s : SessionState). s.opened) is ∙ ap (λ (s : SessionState). s.opened) only.same ∙ ap (λ (s : SessionState). s.opened) (sym from) ∙ closed

pub still_up : {a b : Outside} {s now old : SessionState} → s ≡ now → OnlyFrames a b old now → old.down ≡ false → s.down ≡ false
still_up is only up = ap (λ (s : SessionState). s.down) is ∙ ap (λ (s : SessionState). s.down) only.same ∙ up

pub begun_is : (s now : SessionState) (meta : Overlays) (notes : List OpNote) (page : List ℕ) → s ≡ now → meta ≡ record s.meta { working = (catalog_no, Some page) ∷ [] } → notes ≡ [] → begun now page ≡ working_on s meta notes true false
begun_is s now meta notes page is same none = ap (λ (t : SessionState). begun t page) (sym is) ∙ cc (same, none)

pub if_error : {T E P : Type 0} (r : Result T E) → is_err r ≡ true → OnErr r P → P
if_error (Ok x) is p = absurd (cc)
if_error (Err e) is p = p

pub read_last : (last : ℕ) (v : Catalog) (b page : List ℕ) → last ≡ v.last → v ≡ catalog_on b → b ≡ page → last ≡ (catalog_on page).last
read_last last v b page one two three = one ∙ ap (λ (k : Catalog). k.last) two ∙ ap (λ (l : List ℕ). (catalog_on l).last) three

pub started_with : (meta old : Overlays) (b page : List ℕ) → meta ≡ record old { working = (catalog_no, Some b) ∷ [] } → b ≡ page → meta ≡ record old { working = (catalog_no, Some page) ∷ [] }
started_with meta old b page one two = one ∙ ap (λ (l : List ℕ). record old { working = (catalog_no, Some l) ∷ [] }) two

pub viewed : (v : Catalog) (b page : List ℕ) → v ≡ catalog_on b → b ≡ page → v ≡ catalog_on page
viewed v b page one two = one ∙ ap (λ (l : List ℕ). catalog_on l) two

-- ---- what a commit asks

abbrev first_of : WorkingRow → ℕ
first_of row = row.0

pub firsts_rise : (rows : List WorkingRow) → IsRising rows → Rising (map first_of rows)
firsts_rise [] rising = tt
firsts_rise (row ∷ []) rising = tt
firsts_rise (row ∷ next ∷ rows) rising = (rising.0.0, firsts_rise (next ∷ rows) rising.1)

-- a row that is put in the place of one
pub as_many : (page : ℕ) (v x : Option (List ℕ)) (rows : List WorkingRow) → IsRising rows → lookup (nat_eq page) rows ≡ Some x → length (with_row page v rows) ≡ length rows
as_many page v x rows rising there =
    sym (length-map (with_row page v rows) first_of) ∙ ap (λ (l : List ℕ). length l) (firsts_put page v x rows (firsts_rise rows rising) there) ∙ length-map rows first_of

-- the session whose working catalog has its new number
pub record ReadyToCommit (s : SessionState) (meta : Overlays) : Type 0 where
  pub logged : IsLogged s.log meta
  pub few_pages : length meta.working ≤ touched_most
  pub catalog : HasCatalog meta.working

pub ready : (s : SessionState) (meta : Overlays) (page : List ℕ) → IsSession s → s.opened ≡ true → meta ≡ record s.meta { working = with_row catalog_no (Some page) s.meta.working } → ReadyToCommit s meta
ready s meta page is opened same = subst (λ (m : Overlays). ReadyToCommit s m) (sym same) (record {
  logged = record { images = is.logged.images; none = is.logged.none };
  few_pages = (let work = is.work opened in omega (arith, as_many catalog_no (Some page) (Some work.image) s.meta.working is.in_order work.there, is.few_pages));
  catalog = (page, lookup_put catalog_no (Some page) s.meta.working);
})

-- what a commit leaves of the log, the overlay, the frames and the logged pages
pub record LeftByCommit (s : SessionState) (edited : Overlays) (log : LogState) (meta : Overlays) (groups later : List Frames) (kept : List Bool) (units : UnitSet) : Type 0 where
  pub edit : edited.geometry ≡ s.meta.geometry
  pub log_is : log.geometry ≡ s.log.geometry
  pub meta_is : meta.geometry ≡ edited.geometry
  pub sizes : All (λ (f : Frames). f.page_size ≡ edited.geometry.page_size) later
  pub kinds : SameKinds groups later
  pub logged : IsLogged log meta
  pub behind : AreBehindLog groups → AreBehindLog later
  pub none : meta.working ≡ []
  pub settled : Settled edited.working s.kept kept s.units units

-- the notes and the roots that are left then
pub record NoRoots (notes : List OpNote) (gains loses : List Root) : Type 0 where
  pub few : length notes ≤ updates_most
  pub each : AllByRecursion IsNote notes
  pub gained : gains ≡ []
  pub lost : loses ≡ []

pub after_commit : (s : SessionState) (edited : Overlays) (page : List ℕ) (log : LogState) (meta : Overlays) (later : List Frames) (kept : List Bool) (units : UnitSet) (notes : List OpNote) (gained lost : List Root) (names : List BoundName) → IsSession s
    → edited ≡ record s.meta { working = with_row catalog_no (Some page) s.meta.working } → LeftByCommit s edited log meta s.groups later kept units → NoRoots notes gained lost
    → IsSession (record s { log = log; meta = meta; kept = kept; units = units; groups = later; notes = notes; gained = gained; lost = lost; names = names; opened = false; down = false })
after_commit s edited page log meta later kept units notes gained lost names is same left none_left =
    let rows = with_row catalog_no (Some page) s.meta.working in
    let settled = subst (λ (o : Overlays). Settled o.working s.kept kept s.units units) same left.settled in
    let tracked = tracked_settled s.geometry rows s.pages s.kept (tracked_put s.geometry s.meta.working s.pages s.kept is.pages page) kept s.units units settled in
    record {
      log = left.log_is ∙ is.log;
      meta = left.meta_is ∙ left.edit ∙ is.meta;
      units = counted_gives s.geometry _ s.units units is.units settled.units;
      pages = subst (λ (none : List WorkingRow). IsTracked s.geometry none s.pages kept) (sym left.none) tracked;
      in_use = used_settled s.geometry rows s.pages s.kept (tracked_put s.geometry s.meta.working s.pages s.kept is.pages page) kept s.units units settled is.in_use;
      sizes = subst (λ (g : Geometry). All (λ (f : Frames). f.page_size ≡ g.page_size) later) (left.edit ∙ is.meta) left.sizes;
      groups = left.kinds ∙ is.groups;
      few_groups = is.few_groups;
      scans = is.scans;
      few_scans = is.few_scans;
      logged = left.logged;
      behind = left.behind is.behind;
      few_notes = none_left.few;
      notes = none_left.each;
      few_gained = omega (arith, ap (λ (l : List Root). length l) none_left.gained);
      few_lost = omega (arith, ap (λ (l : List Root). length l) none_left.lost);
      few_pages = subst (λ (none : List WorkingRow). length none ≤ touched_most) (sym left.none) (omega arith);
      in_order = subst IsRising (sym left.none) tt;
      work = λ opened. absurd (cc);
      up = λ _. refl;
      idle = λ _ _. (left.none, none_left.gained, none_left.lost);
    }

-- ---- after an abort

pub after_abort : (s : SessionState) (meta : Overlays) (pages : LoggedSet) (units : UnitSet) (notes : List OpNote) (gained lost : List Root) (names : List BoundName) → IsSession s → meta ≡ record s.meta { working = [] }
    → TakenBack s.meta.working s.kept s.pages pages s.units units → notes ≡ [] → gained ≡ [] → lost ≡ []
    → IsSession (record s { meta = meta; pages = pages; units = units; notes = notes; gained = gained; lost = lost; names = names; opened = false; down = false })
after_abort s meta pages units notes gained lost names is same back none no_gained no_lost =
    subst (λ (m : Overlays). IsSession (record s { meta = m; pages = pages; units = units; notes = notes; gained = gained; lost = lost; names = names; opened = false; down = false })) (sym same)
    (subst (λ (l : List OpNote). IsSession (record s { meta = record s.meta { working = [] }; pages = pages; units = units; notes = l; gained = gained; lost = lost; names = names; opened = false; down = false })) (sym none) (record {
      log = is.log;
      meta = is.meta;
      units = counted_gives s.geometry _ s.units units is.units back.units;
      pages = tracked_back s.geometry s.meta.working s.pages s.kept is.pages pages s.units units back;
      in_use = used_back s.geometry s.meta.working s.pages s.kept is.pages pages s.units units back is.in_use;
      sizes = is.sizes;
      groups = is.groups;
      few_groups = is.few_groups;
      scans = is.scans;
      few_scans = is.few_scans;
      logged = record { images = is.logged.images; none = is.logged.none };
      behind = is.behind;
      few_notes = omega arith;
      notes = tt;
      few_gained = omega (arith, ap (λ (l : List Root). length l) no_gained);
      few_lost = omega (arith, ap (λ (l : List Root). length l) no_lost);
      few_pages = omega arith;
      in_order = tt;
      work = λ opened. absurd (cc);
      up = λ _. refl;
      idle = λ _ _. (refl, no_gained, no_lost);
    }))

-- what a checkpoint leaves of the log, the overlay and the frames
pub record LeftByCheckpoint (s : SessionState) (log : LogState) (meta : Overlays) (groups : List Frames) : Type 0 where
  pub log_is : log.geometry ≡ s.log.geometry
  pub meta_is : meta.geometry ≡ s.meta.geometry
  pub working : meta.working ≡ s.meta.working
  pub sizes : All (λ (f : Frames). f.page_size ≡ s.meta.geometry.page_size) groups
  pub kinds : SameKinds s.groups groups
  pub logged : IsLogged s.log s.meta → IsLogged log meta
  pub behind : AreBehindLog s.groups → AreBehindLog groups

pub after_checkpoint : (s : SessionState) (log : LogState) (meta : Overlays) (groups : List Frames) → IsSession s → LeftByCheckpoint s log meta groups → IsSession (record s { log = log; meta = meta; groups = groups })
after_checkpoint s log meta groups is left = record {
  log = left.log_is ∙ is.log;
  meta = left.meta_is ∙ is.meta;
  units = is.units;
  pages = subst (λ (rows : List WorkingRow). IsTracked s.geometry rows s.pages s.kept) (sym left.working) is.pages;
  in_use = is.in_use;
  sizes = subst (λ (g : Geometry). All (λ (f : Frames). f.page_size ≡ g.page_size) groups) is.meta left.sizes;
  groups = left.kinds ∙ is.groups;
  few_groups = is.few_groups;
  scans = is.scans;
  few_scans = is.few_scans;
  logged = left.logged is.logged;
  behind = left.behind is.behind;
  few_notes = is.few_notes;
  notes = is.notes;
  few_gained = is.few_gained;
  few_lost = is.few_lost;
  few_pages = subst (λ (rows : List WorkingRow). length rows ≤ touched_most) (sym left.working) is.few_pages;
  in_order = subst IsRising (sym left.working) is.in_order;
  work = λ opened. let has = is.work opened in record { image = has.image; there = subst (λ (rows : List WorkingRow). lookup (nat_eq catalog_no) rows ≡ Some (Some has.image)) (sym left.working) has.there };
  up = is.up;
  idle = λ closed up. let none = is.idle closed up in (left.working ∙ none.0, none.1, none.2);
}
