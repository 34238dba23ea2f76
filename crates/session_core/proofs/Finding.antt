-- What a port over a session that shows finds of a version.
use Rattle.std.proofs.Common.{◌≡◌, ◌∙◌, ℕ, List, length, All, Option, Some, None, Result, Ok, Err, refl, sym, ap, subst, inl, inr, ◌<◌, ◌≤◌, arith}
use Rattle.std.specs.Prelude.{◌↔◌, slice_index_or, IsSome, IfOk, IfErr, IfSome, OnOk}
use Rattle.std.specs.Borrow.{MutBor}
use Rattle.ex_base.specs.declared.ground.Ground as ground
use Rattle.ex_base.specs.declared.geometry.Geometry.{Geometry}
use Rattle.ex_base.specs.declared.faults.PortFault.{PortFault}
use Rattle.ex_base.specs.declared.faults.PortFault.TheVariants as fault
use Rattle.ex_base.specs.declared.names.Oid.{Oid}
use Rattle.ex_base.specs.declared.names.Place.{Place}
use Rattle.ex_base.specs.Area.{InPageArea}
use Rattle.ex_base.specs.Ports.{Cause, HasCause, IsDamage, Keeps}
use Rattle.op_log.specs.declared.record.LogRecord.{LogRecord}
use Rattle.commits.specs.Room.{AreBehindLog}
use Rattle.disk_model.specs.Outside.{Outside, ReadsOnly}
use Rattle.buffer_groups.specs.Frames.{Frames, Lends}
use Rattle.buffer_groups.specs.Groups.{SameKinds}
use Rattle.tree_store.specs.Stored.{unit_bytes}
use Rattle.meta_pages.specs.Overlays.{Overlays, over}
use Rattle.slotted_pages.specs.FilePage.{Slot, body_of}
use Rattle.slotted_pages.specs.Edits.{slots_of}
use Rattle.ex_base.specs.declared.names.Index.{Index}
use Rattle.file_index.specs.Index.{IsFilesPage}
use Rattle.file_index.proofs.Heights.{keys_of_pages}
use Rattle.file_bodies.specs.Bodies.{bodies_of, pages_in}
use Rattle.file_bodies.specs.Files.{HasFiles, HasFileOf}
use Rattle.file_bodies.proofs.Belonging.{file_of_all}
use Rattle.object_records.specs.Record.{Content, Small, Large, Record}
use Rattle.object_records.specs.Reads.{record_on}
use Rattle.object_records.proofs.RecordLaws.{record_read}
use Rattle.table_model.specs.declared.table.Table.{Table}
use Rattle.version_lists.specs.declared.version.Version.{Version}
use Rattle.table_model.specs.Machines.{shown}
use Rattle.table_model.specs.Tables.{version_at, versions_of}
use Rattle.table_model.specs.Refusals.{branches_if}
use Rattle.session_views.specs.declared.stop.Stop.{Stop}
use Rattle.session_views.specs.View.{View, ShowsNow}
use Rattle.versions.specs.Found as found_words
use Rattle.ex_base.proofs.Members.{In, in_contains, of_each}
use Rattle.versions.proofs.Roots.{root_is_for}
use Rattle.versions.specs.Found.{HasLimits, IsReadable, found_of, root_of}
use Rattle.versions.specs.Versions.{HasRecord, HoldsVersion, Spells, Stands}
use Rattle.object_records.specs.declared.Head.{Head}
use Rattle.versions.specs.declared.finding.Found.{Found}
use Rattle.volume_port.specs.Logged.{LoggedSet, is_held}
use Rattle.volume_port.specs.Ported.{image_over}
use Rattle.volume_port.specs.Reading.{Reads, TellsBytes}
use Rattle.volume_model.specs.Volume.{Volume, content_in, is_frozen, table_of}
use Rattle.volume_edits.specs.Ported.{ShowsVolume, index_named, units_in}
use Rattle.volume_edits.specs.Shown.{ReadsVersion}
use Rattle.volume_edits.proofs.Contents.{content_of, found_at, has_files}
use Rattle.volume_edits.proofs.Finding.{found_or_not, into_volume, stands_row, stored_row}
use Rattle.volume_edits.proofs.Showing.{content_spells, none_there, roots_here, version_read}
use Rattle.volume_edits.proofs.Standings.{first_in_table, newer_in_table}
use Rattle.session_core.specs.Sessions.{SessionState, IsSession}
use Rattle.session_core.specs.Meant.{meant, held_view}
use Rattle.session_core.specs.Finding.{IsPortOver, PortShows, IfShown, LineStops, IsOutside, IsFound, TellsVersion, held_image, content_named, record_named, stop_at, stop_or}
use Rattle.session_core.specs.Steps.{OnlyFrames}
use Rattle.session_core.proofs.Bridge.{shows_volume, table_is, image_shown}
use Rattle.session_core.proofs.Reading.{frames_session}
use Rattle.volume_model.proofs.Showing.{session_geometry}
use Rattle.ex_base.specs.declared.names.Root.{Root}
use Rattle.ex_base.specs.Sizes.{object_most}
use Rattle.trees.specs.Roots.{IsRootFor}
use Rattle.volume_port.proofs.Frames.{frames_lent}

-- ---- what a reading leaves

-- What was read at most: the groups are as they were made, and their frames go on telling the bytes of their pages.
pub record LeavesFrames (a b : Outside) (f h : List Frames) : Type 0 where
  pub only : ReadsOnly a b
  pub sizes : (size : ℕ) → All (λ (x : Frames). x.page_size ≡ size) f → All (λ (x : Frames). x.page_size ≡ size) h
  pub kinds : SameKinds f h
  pub behind : AreBehindLog f → AreBehindLog h
  pub told : TellsBytes a f → TellsBytes b h

-- A port for reading leaves that.
pub frames_left : {D : Type 0} {outside : D → Outside} {d e : MutBor D} {f h : MutBor (List Frames)} {r t : MutBor (List ℕ)} {i j : ℕ} {x y : Geometry} {m n : Overlays} {k l : LoggedSet}
    → Reads outside d e f h r t i j x y m n k l → LeavesFrames (outside d.now) (outside e.now) f.now h.now
frames_left read = record { only = read.only; sizes = read.sizes; kinds = read.kinds; behind = read.behind; told = read.told }

-- as it stands outside at the end
pub frames_to : {D : Type 0} (outside : D → Outside) {a : Outside} (e z : D) {f h : List Frames} → e ≡ z → LeavesFrames a (outside e) f h → LeavesFrames a (outside z) f h
frames_to outside {a} e z {f} {h} same left = subst (λ o. LeavesFrames a (outside o) f h) same left

still_lend : (a b : Outside) (f h : List Frames) → LeavesFrames a b f h → All (Lends a.disk) f → All (Lends a.disk) h
still_lend a b f h left lends = λ k x lt held is.
    (subst (λ (o : Option (List ℕ)). All (Lends o) h) left.only.nothing.disk (left.told (subst (λ (o : Option (List ℕ)). IsSome o) (sym is) refl, lends)).1) k x lt held is

pub only_reads : {a b : Outside} (s now : SessionState) (groups : List Frames) → s ≡ now → LeavesFrames a b s.groups groups → OnlyFrames a b now (record s { groups = groups })
only_reads {a} {b} s now groups is left = record {
  reads = left.only;
  same = ap (λ (t : SessionState). record t { groups = groups }) is;
  lends = λ lends. still_lend a b s.groups groups left (subst (λ (t : SessionState). All (Lends a.disk) t.groups) (sym is) lends);
  sizes = λ n. subst (λ (t : SessionState). All (λ (f : Frames). f.page_size ≡ n) t.groups → All (λ (f : Frames). f.page_size ≡ n) groups) is (left.sizes n);
  kinds = subst (λ (t : SessionState). SameKinds t.groups groups) is left.kinds;
}

pub read_session : {a b : Outside} (s : SessionState) (groups : List Frames) → LeavesFrames a b s.groups groups → IsSession s → IsSession (record s { groups = groups })
read_session s groups left is = frames_session s groups (left.sizes s.geometry.page_size is.sizes) (left.kinds ∙ is.groups) (left.behind is.behind) is

-- ---- why it stops

pub stops_here : (a b : Outside) (fault : PortFault) → Cause a.disk_faults b.disk_faults fault → LineStops a b (stop_at fault)
stops_here a b fault.Disk cause = cause
stops_here a b fault.Memory cause = tt
stops_here a b (fault.Damaged page want got) cause = cause

pub no_damage : (fault : PortFault) → (IsDamage fault → ⊥) → IsOutside (stop_at fault)
no_damage fault.Disk never = tt
no_damage fault.Memory never = tt
no_damage (fault.Damaged page want got) never = absurd (never tt)

-- ---- a version

-- what the port reads of a version, as `find` and `read_at` ask it
pub held_version : {S : Type 0} (g : ground.Ghosts S) (s : S) (oid : Oid) (version : Version) (reads : ReadsVersion g s oid version) → HoldsVersion g s reads.index oid reads.head reads.content version.bytes
held_version g s oid version reads = record { stored = reads.stored; spells = reads.spells; apart = reads.apart }

-- what `find` says of its result
pub record FindsBy {S : Type 0} (g : ground.Ghosts S) (s : S) (oid : Oid) (result : Option Found) : Type 0 where
  pub stands : IfSome result (λ _. g.tells s → HasFileOf g s oid.page.0 → Stands g s oid)
  pub told : g.tells s → (index : Index) (is : Record) → HasRecord g s index oid is → result ≡ Some (found_of is)
  pub size : g.tells s → (index : Index) (head : Head) (content : Content) (bytes : List ℕ) → HoldsVersion g s index oid head content bytes
      → IfSome result (λ found. found.size ≡ length bytes)

module _ {S : Type 0} (g : ground.Ghosts S) (s : S) {v : View SessionState} (shows : PortShows g s v) where
  abbrev records : List LogRecord
  records = shows.records

  abbrev working : Volume
  working = shows.working

  abbrev volume : ShowsVolume g s records working
  volume = shows.volume

  abbrev tells : g.tells s
  tells = shows.tells

  abbrev table : Table
  table = table_of (units_in g s) working

  abbrev same : shown v.machine ≡ table
  same = shows.table

  pub files : HasFiles g s
  files = has_files g s records working volume

  -- the place of a version's record lies in the page area
  pub page_lies : (index : Index) (oid : Oid) (is : Record) → HasRecord g s index oid is → InPageArea (g.geometry s) oid.page.0
  page_lies index oid is has =
      (of_each (IsFilesPage (g.geometry s)) oid.page.0 (pages_in (g.image s) index)
      (keys_of_pages (g.geometry s) index.file_no (g.image s) index.level index.root has.stands.file.whole)
      (in_contains oid.page.0 (pages_in (g.image s) index) has.stands.named)).0

  pub named_record : (index : Index) (oid : Oid) (is : Record) → HasRecord g s index oid is → record_named (held_view v) oid ≡ is
  named_record index oid is has =
      let image : g.image s oid.page.0 ≡ held_image (held_view v).session v.disk oid.page.0 = shows.image oid.page.0 (page_lies index oid is has) in
      let slot : slice_index_or (slots_of (held_image (held_view v).session v.disk oid.page.0)) oid.slot None ≡ Some has.body =
      ap (λ (bytes : List ℕ). slice_index_or (slots_of bytes) oid.slot None) (sym image) ∙ has.stands.stands in
      ap (λ (o : Slot). record_on (body_of o)) slot ∙ record_read has.body is has.spelled

  pub named_content : (index : Index) (oid : Oid) (is : Record) → HasRecord g s index oid is → content_named (held_view v) oid ≡ is.content
  named_content index oid is has = ap (λ (r : Record). r.content) (named_record index oid is has)

  missing : (oid : Oid) → FindsBy g s oid None → version_at table oid ≡ None
  missing oid finds = (none_there g s records working volume oid).1 (λ st. absurd (let told = finds.told tells st.index st.is st.has in cc))

  -- what stands in the record of a version that the table has is told of it
  pub tells_version : (oid : Oid) (found : Found) (version : Version) (is : version_at table oid ≡ Some version) (reads : ReadsVersion g s oid version)
      → found ≡ found_of (record { head = reads.head; content = reads.content }) → found.size ≡ length version.bytes → TellsVersion v oid found
  tells_version oid found version is reads one size =
      let own : Record = record { head = reads.head; content = reads.content } in
      let content = sym (named_content reads.index oid own reads.stored) in
      let head : found.head ≡ reads.head = ap (λ (f : Found). f.head) one in
      record {
        version = version;
        is = ap (λ (t : Table). version_at t oid) same ∙ is;
        size = size;
        head = head ∙ ap (λ (r : Record). r.head) (sym (named_record reads.index oid own reads.stored));
        frozen = ap (λ (h : Head). is_frozen h.state) head ∙ reads.frozen;
        first = subst (λ (h : Head). (h.older ≡ None) ↔ (version.older ≡ None)) (sym head) (first_in_table g s records working volume oid version reads.index own is reads.stored);
        one = λ frozen.
            subst (λ (h : Head). IsSome h.newer ↔ (branches_if (versions_of (shown v.machine)) (Some version) ≡ 1)) (sym head)
            (subst (λ (t : Table). IsSome reads.head.newer ↔ (branches_if (versions_of t) (Some version) ≡ 1)) (sym same)
            (let has = newer_in_table g s records working volume oid version reads.index own is reads.stored frozen in (has.1, has.0)));
        root = ap (λ (f : Found). f.root) one ∙ ap root_of content;
        content = ap (λ (f : Found). f.size) one ∙ ap found_words.size_of content;
        named = reads.named;
        lies = subst (λ (h : Geometry). InPageArea h oid.page.0) shows.geometry (page_lies reads.index oid own reads.stored);
      }

  present : (oid : Oid) (found : Found) → FindsBy g s oid (Some found) → (version : Version) → version_at table oid ≡ Some version → TellsVersion v oid found
  present oid found finds version is =
      let reads = version_read g s records working volume oid version is in
      let told : Some found ≡ Some (found_of (record { head = reads.head; content = reads.content })) = finds.told tells reads.index (record { head = reads.head; content = reads.content }) reads.stored in
      let one : found ≡ found_of (record { head = reads.head; content = reads.content }) = cc in
      tells_version oid found version is reads one (finds.size tells reads.index reads.head reads.content version.bytes (held_version g s oid version reads))

  pub finds_here : (oid : Oid) (result : Option Found) → FindsBy g s oid result → IsFound v oid result
  finds_here oid None finds = ap (λ (t : Table). version_at t oid) same ∙ missing oid finds
  finds_here oid (Some found) finds = elim (found_or_not (version_at table oid)) [
    | inl nothing ↦ absurd ((none_there g s records working volume oid).0 nothing (finds.stands tells (file_of_all g s oid.page.0 files)))
    | inr some ↦ present oid found finds some.0 some.1
  ]

  limits_of : (content : Content) (bytes : List ℕ) → Spells (g.geometry s) (g.unit s) content bytes → HasLimits (g.geometry s) content
  limits_of (Small held) bytes spells = tt
  limits_of (Large root) bytes spells = root_is_for (g.geometry s) (g.unit s) root bytes spells.0 spells.1

  -- what stands at a place of a file is a record in its limits
  pub readable : (place : Place) → IsReadable g s place
  readable place body some =
      let has = some.has in
      let at = found_at g s records working volume some.index.file_no some.index has.file.entry in
      let content = content_of g s records working volume at.e at.f at.beside in
      let inside : In (place, body) (bodies_of (g.image s) (index_named at.e)) =
      subst (λ (i : Index). In (place, body) (bodies_of (g.image s) i)) (sym at.named) (stands_row (g.image s) (pages_in (g.image s) some.index) place body (has.named, has.stands)) in
      let own = stored_row (place, body) (bodies_of (g.image s) (index_named at.e)) at.f.stored content.records inside in
      let inside_volume = into_volume working at.e at.f own.0 at.beside own.1 in
      let spells = content_spells g s records working volume own.0.body.content (roots_here g s records working volume own.0 inside_volume) in
      record { is = own.0.body; spelled = own.2.1; limits = limits_of own.0.body.content (content_in (units_in g s) own.0.body.content) spells }

-- what was found has no more bytes than an object may have
pub few_bytes : {E : Type 0} (g : Geometry) (result : Result (Option Found) E) → IfOk result (λ found. IfSome found (λ f. f.root ≡ None → f.size < 65536)) → IfOk result (λ found. IfSome found (λ f. IfSome f.root (IsRootFor g)))
    → IfOk result (λ found. IfSome found (λ f. IfSome f.root (λ root. f.size ≡ root.size))) → IfOk result (λ found. IfSome found (λ f. f.size ≤ object_most))
few_bytes g (Err e) small limits large = tt
few_bytes g (Ok None) small limits large = tt
few_bytes g (Ok (Some f)) small limits large = by f.root refl limits large
  where
    by : (o : Option Root) → f.root ≡ o → IfSome o (IsRootFor g) → IfSome o (λ root. f.size ≡ root.size) → f.size ≤ object_most
    by None is limits large = (let few = small is in omega (arith, few))
    by (Some root) is limits large = (let few = limits.small in omega (arith, few, large))

-- ---- over the session that a step begins with

-- a session that shows tells its bytes
pub shown_tells : {w : Outside} {v : View SessionState} → ShowsNow meant w v → All (λ (f : Frames). f.page_size ≡ v.session.geometry.page_size) v.session.groups → TellsBytes w v.session.groups
shown_tells {w} {v} now sizes = (
  subst (λ (o : Option (List ℕ)). IsSome o) (sym now.holds) refl,
  frames_lent now.shows.decoded.geometry w.disk v.disk v.session.groups now.holds
      (subst (λ (g : Geometry). All (λ (f : Frames). f.page_size ≡ g.page_size) v.session.groups) (session_geometry now.shows) sizes) now.shows.frames,
)

-- The port shows what the view shows.
pub port_shows : {S : Type 0} (g : ground.Ghosts S) (s : S) {w : Outside} {old : SessionState} → IsPortOver g s w old → (before : View SessionState) → before.session ≡ old → ShowsNow meant w before → PortShows g s before
port_shows g s {w} {old} over before same now =
    let here : IsPortOver g s w before.session = subst (IsPortOver g s w) (sym same) over in
    record {
      geometry = here.port.geometry;
      records = now.shows.decoded.records;
      working = now.shows.working;
      volume = shows_volume g s now here.port here.is.pages;
      table = table_is g s now here.port;
      image = image_shown g s now here.port;
      tells = here.tells (shown_tells now here.is.sizes);
    }

pub port_working : {S : Type 0} (g : ground.Ghosts S) (s : S) {w : Outside} {old : SessionState} (over : IsPortOver g s w old) (before : View SessionState) (same : before.session ≡ old) (now : ShowsNow meant w before)
    → (port_shows g s over before same now).working ≡ now.shows.working
unfolding port_shows
port_working g s over before _ now = refl

-- what holds of the result for each view
pub ok_shown : {T E : Type 0} (w : Outside) (old : SessionState) (result : Result T E) (Q : View SessionState → T → Type 0)
    → ((before : View SessionState) → before.session ≡ old → ShowsNow meant w before → IfOk result (Q before)) → IfOk result (λ x. IfShown w old (λ before. Q before x))
ok_shown w old (Ok x) Q each = each
ok_shown w old (Err e) Q each = tt

pub error_shown : {T E : Type 0} (w : Outside) (old : SessionState) (result : Result T E) (Q : View SessionState → E → Type 0)
    → ((before : View SessionState) → before.session ≡ old → ShowsNow meant w before → IfErr result (Q before)) → IfErr result (λ e. IfShown w old (λ before. Q before e))
error_shown w old (Ok x) Q each = tt
error_shown w old (Err e) Q each = each

module _ {S : Type 0} (g : ground.Ghosts S) (s : S) {before : View SessionState} (shows : PortShows g s before) where
  pub looked : (oid : Oid) (result : Result (Option Found) PortFault)
      → IfOk result (λ found. IfSome found (λ _. g.tells s → HasFileOf g s oid.page.0 → Stands g s oid))
      → IfOk result (λ found. g.tells s → (index : Index) (is : Record) → HasRecord g s index oid is → found ≡ Some (found_of is))
      → IfOk result (λ found. g.tells s → (index : Index) (head : Head) (content : Content) (bytes : List ℕ) → HoldsVersion g s index oid head content bytes
      → IfSome found (λ f. f.size ≡ length bytes))
      → IfOk result (IsFound before oid)
  looked oid (Ok found) stands told size = finds_here g s shows oid found (record { stands = stands; told = told; size = size })
  looked oid (Err e) stands told size = tt

  pub looks_sound : {T : Type 0} (place : Place) (result : Result T PortFault) → IfErr result (λ fault. IsDamage fault → g.tells s → HasFileOf g s place.page.0 → IsReadable g s place → ⊥)
      → IfErr result (λ fault. IsDamage fault → ⊥)
  looks_sound place (Ok x) sound = tt
  looks_sound place (Err fault) sound = λ damage. sound damage shows.tells (file_of_all g s place.page.0 (files g s shows)) (readable g s shows place)

-- A port is over a session, where it has what the session holds, whatever it reads.
pub over_session : {S : Type 0} {g : ground.Ghosts S} {s t : S} → Keeps g s t → (w : Outside) {inside old : SessionState} → inside ≡ old → IsSession inside → g.geometry s ≡ inside.geometry → g.unit s ≡ unit_bytes inside.geometry w.disk
    → g.image s ≡ image_over inside.geometry inside.meta (unit_bytes inside.geometry w.disk) → g.held s ≡ is_held inside.pages → (TellsBytes w inside.groups → g.tells s)
    → IsPortOver g s w old
over_session {g = g} {s = s} kept w seen is geometry unit image held tells = subst (IsPortOver g s w) seen (record { is = is; port = record { geometry = geometry; unit = unit; image = image; held = held }; tells = tells })

-- ---- what the session answers

module _ {T : Type 0} (told : Result T PortFault) (result : Result T Stop) (is : result ≡ stop_or told) where
  pub told_ok : (P : T → Type 0) → IfOk told P → IfOk result P
  told_ok P p = subst (λ r. IfOk r P) (sym is) (by told p)
    where
      by : (r : Result T PortFault) → IfOk r P → IfOk (stop_or r) P
      by (Ok x) p = p
      by (Err fault) p = tt

  pub told_on_ok : (P : Type 0) → OnOk told P → OnOk result P
  told_on_ok P p = subst (λ r. OnOk r P) (sym is) (by told p)
    where
      by : (r : Result T PortFault) → OnOk r P → OnOk (stop_or r) P
      by (Ok x) p = p
      by (Err fault) p = tt

  pub told_err : (F : Stop → Type 0) → IfErr told (λ fault. F (stop_at fault)) → IfErr result F
  told_err F p = subst (λ r. IfErr r F) (sym is) (by told p)
    where
      by : (r : Result T PortFault) → IfErr r (λ fault. F (stop_at fault)) → IfErr (stop_or r) F
      by (Ok x) p = tt
      by (Err fault) p = p

  -- why it stops
  pub told_stops : (a b : Outside) → HasCause a.disk_faults b.disk_faults told → IfErr result (LineStops a b)
  told_stops a b cause = told_err (LineStops a b) (by told cause)
    where
      by : (r : Result T PortFault) → HasCause a.disk_faults b.disk_faults r → IfErr r (λ fault. LineStops a b (stop_at fault))
      by (Ok x) cause = tt
      by (Err fault) cause = stops_here a b fault cause

pub stopped_outside : {w : Outside} {old : SessionState} (fault : PortFault) (why : Stop) → why ≡ stop_at fault → IfShown w old (λ before. IsDamage fault → ⊥) → IfShown w old (λ before. IsOutside why)
stopped_outside fault why is never = λ before same now. subst IsOutside (sym is) (no_damage fault (never before same now))

pub stopped_so : (a b : Outside) (fault : PortFault) (why : Stop) → why ≡ stop_at fault → Cause a.disk_faults b.disk_faults fault → LineStops a b why
stopped_so a b fault why is cause = subst (LineStops a b) (sym is) (stops_here a b fault cause)

-- ---- bytes of a version

-- The version is one that the port reads.
pub reads_live : {S : Type 0} (g : ground.Ghosts S) (s : S) {before : View SessionState} → (shows : PortShows g s before) → (oid : Oid) (version : Version) → version_at (shown before.machine) oid ≡ Some version → ReadsVersion g s oid version
reads_live g s {before} shows oid version is = version_read g s shows.records shows.working shows.volume oid version (ap (λ (t : Table). version_at t oid) (sym shows.table) ∙ is)
