-- An update that has its room in a session has it in the session's port.
use Rattle.std.proofs.Common.{◌≡◌, ◌∙◌, ℕ, ◌+◌, ◌≤◌, Bool, Option, true, false, List, length, take, drop, ◌++◌, Some, refl, sym, ap, subst, arith, inl, inr}
use Rattle.std.specs.Prelude.{is_none, nat_le, ◌&&◌, ◌==◌, if◌then◌else◌}
use Rattle.std.proofs.lemmas.Bool.{cases_Bool, leb-true}
use Rattle.std.proofs.lemmas.List.{length-append, length-take, length-drop}
use Rattle.std.proofs.Math.Bool.{or-false, or-true}
use Rattle.ex_base.specs.declared.ground.Ground as ground
use Rattle.ex_base.specs.declared.geometry.Geometry.{Geometry}
use Rattle.ex_base.specs.declared.names.Area.{Area}
use Rattle.ex_base.specs.declared.names.Oid.{Oid}
use Rattle.ex_base.specs.declared.names.Root.{Root}
use Rattle.ex_base.specs.declared.names.Index.{Index}
use Rattle.object_records.specs.Record.{Content, Small, Large, Record}
use Rattle.object_records.specs.declared.Head.{Head}
use Rattle.volume_edits.specs.TableUpdates.{Asks, Changes, Derives, Drops, Freezes, HasRoom, Makes, Removes, TableUpdate, TakesForChange, TakesNeed}
use Rattle.op_log.specs.declared.record.LogRecord.{LogRecord}
use Rattle.session_views.specs.View.{View}
use Rattle.slotted_pages.specs.Edits.{slots_of}
use Rattle.slotted_pages.specs.FilePage.{room_of}
use Rattle.table_model.specs.declared.table.Table.{Table}
use Rattle.version_lists.specs.declared.version.Version.{Version}
use Rattle.table_model.specs.Machines.{shown}
use Rattle.table_model.specs.Tables.{version_at}
use Rattle.versions.specs.declared.finding.Found.{Found}
use Rattle.versions.specs.Edited.{HasNeed}
use Rattle.versions.specs.Found.{found_of, root_of, size_of}
use Rattle.versions.specs.Needs.{edit_need, height_in, most_need}
use Rattle.versions.specs.Versions.{Appends, Change, Deletes, HasVersion, Inserts, InRange, Replaces, StaysSmall, changed, count_of, place_of, record_len}
use Rattle.versions.proofs.Standing.{holds_of, version_size}
use Rattle.volume_edits.specs.Shown.{ReadsVersion}
use Rattle.volume_edits.specs.Ported.{IsVolume, units_in}
use Rattle.volume_edits.proofs.Showing.{version_found}
use Rattle.volume_model.specs.Volume.{Volume, table_of}
use Rattle.session_core.specs.Needs.{fits_beside, room_beside, root_height, size_after, units_need}
use Rattle.session_core.specs.Finding.{PortShows, TellsVersion}
use Rattle.session_core.specs.Counts.{free_in}
use Rattle.session_core.specs.Sessions.{SessionState}
use Rattle.session_core.specs.Updates.{HasRoomFor, TakesAtMost}
use Rattle.session_core.proofs.Beside.{beside}
use Rattle.session_core.proofs.Finding.{held_version, named_content, named_record, page_lies, reads_live, tells_version}

-- ---- the bytes after a change, and what it needs

pub length_after : (change : Change) (bytes : List ℕ) → InRange change (length bytes) → length (changed change bytes) ≡ size_after change (length bytes)
length_after (Inserts pos given) bytes range = omega (arith, range.0, length-append (take pos bytes) given, length-append (take pos bytes ++ given) (drop pos bytes), length-append given (drop pos bytes), length-append (take pos bytes) (given ++ drop pos bytes), length-take pos bytes, length-drop pos bytes)
length_after (Appends given) bytes range = length-append bytes given
length_after (Replaces pos given) bytes range = omega (arith, range, length-append (take pos bytes) given, length-append (take pos bytes ++ given) (drop (pos + length given) bytes), length-append given (drop (pos + length given) bytes), length-append (take pos bytes) (given ++ drop (pos + length given) bytes), length-take pos bytes, length-drop (pos + length given) bytes)
length_after (Deletes pos len) bytes range = omega (arith, range, length-append (take pos bytes) (drop (pos + len) bytes), length-take pos bytes, length-drop (pos + len) bytes)

height_is : (content : Content) → root_height (root_of content) ≡ height_in content
height_is (Small held) = refl
height_is (Large root) = refl

-- where the version doesn't stay small, the session counts for its change what the port asks for
need_is : (g : Geometry) (found : Found) (change : Change) (content : Content) (area : Area) → found.root ≡ root_of content → units_need g found change false area ≡ edit_need g change content area
need_is g found change content area root =
    ap (λ (b : Bool). if b then 0 else most_need g change (root_height found.root) area) (or-false (count_of change == 0))
    ∙ ap (λ (height : ℕ). if count_of change == 0 then 0 else most_need g change height area) (ap root_height root ∙ height_is content)

-- and where it stays small, nothing
small_need : (g : Geometry) (found : Found) (change : Change) (area : Area) → units_need g found change true area ≡ 0
small_need g found change area = ap (λ (b : Bool). if b then 0 else most_need g change (root_height found.root) area) (or-true (count_of change == 0))

module _ {S : Type 0} (g : ground.Ghosts S) (s : S) {before : View SessionState} (shows : PortShows g s before) where
  -- a version whose record fits beside the others stays small
  stays_by : (oid : Oid) (content : Content) (n room : ℕ) → room ≡ room_of (g.geometry s).page_size (slots_of (g.image s oid.page.0))
      → (is_none (root_of content) && nat_le (record_len n) (record_len (size_of content) + room)) ≡ true → StaysSmall g s (place_of oid) content n
  stays_by oid (Small held) n room is fits =
      subst (λ (k : ℕ). record_len n ≤ record_len (length held) + k) is (leb-true (record_len n) (record_len (length held) + room) fits)
  stays_by oid (Large root) n room is fits = absurd (cc)

  module _ (ready : g.ready s) (oid : Oid) (version : Version) (is : version_at (shown before.machine) oid ≡ Some version) (index : Index) (head : Head) (content : Content) (bytes : List ℕ) (has : HasVersion g s index oid head content bytes) where
    abbrev own : Record
    own = record { head = head; content = content }

    reads : ReadsVersion g s oid version
    reads = reads_live g s shows oid version is

    -- one record stands where the OID leads
    same_record : own ≡ record { head = reads.head; content = reads.content }
    same_record = sym (named_record g s shows index oid own has.stored) ∙ named_record g s shows reads.index oid (record { head = reads.head; content = reads.content }) reads.stored

    same_content : content ≡ reads.content
    same_content = ap (λ (r : Record). r.content) same_record

    size_here : length bytes ≡ size_of content
    size_here = version_size g s index oid head content bytes ready shows.tells (holds_of g s index oid head content bytes has)

    size_live : length version.bytes ≡ size_of content
    size_live = version_size g s reads.index oid reads.head reads.content version.bytes ready shows.tells (held_version g s oid version reads) ∙ ap size_of (sym same_content)

    told : TellsVersion before oid (found_of own)
    told =
        tells_version g s shows oid (found_of own) version (ap (λ (t : Table). version_at t oid) (sym shows.table) ∙ is) reads
        (ap found_of same_record) (sym size_live)

    room_here : room_beside before oid ≡ room_of (g.geometry s).page_size (slots_of (g.image s oid.page.0))
    room_here = sym (beside g s shows oid (room_of (g.geometry s).page_size (slots_of (g.image s oid.page.0))) (page_lies g s shows index oid own has.stored) refl)

    not_beside : (n : ℕ) → (StaysSmall g s (place_of oid) content n → ⊥) → fits_beside before (record { oid = oid; found = found_of own }) n ≡ false
    not_beside n large = elim (cases_Bool (fits_beside before (record { oid = oid; found = found_of own }) n)) [
      | inl fits ↦ absurd (large (stays_by oid content n (room_beside before oid) room_here fits))
      | inr not ↦ not
    ]

    has_need : (change : Change) → InRange change (length version.bytes) → ((area : Area) → g.free s area ≡ free_in before.session area) → HasRoomFor before (Changes oid change)
        → HasNeed g s (place_of oid) content change (length (changed change bytes))
    has_need change inside free room large area =
        let after : length (changed change bytes) ≡ size_after change (size_of content) =
        length_after change bytes (subst (InRange change) (size_live ∙ sym size_here) inside) ∙ ap (size_after change) size_here in
        let grown = not_beside (size_after change (size_of content)) (λ stays. large (subst (StaysSmall g s (place_of oid) content) (sym after) stays)) in
        let need : units_need before.session.geometry (found_of own) change (fits_beside before (record { oid = oid; found = found_of own }) (size_after change (size_of content))) area ≡ edit_need (g.geometry s) change content area =
        ap (λ (b : Bool). units_need before.session.geometry (found_of own) change b area) grown ∙ need_is before.session.geometry (found_of own) change content area refl
        ∙ ap (λ (h : Geometry). edit_need h change content area) (sym shows.geometry) in
        omega (arith, need, free area, room (found_of own) told area)

    module _ (found : Found) (tells : TellsVersion before oid found) where
      abbrev fits : ℕ → Bool
      fits n = fits_beside before (record { oid = oid; found = found }) n

      size_told : found.size ≡ size_of content
      size_told = tells.content ∙ ap size_of (named_content g s shows index oid own has.stored)

      root_told : found.root ≡ root_of content
      root_told = tells.root ∙ ap root_of (named_content g s shows index oid own has.stored)

      -- a version that is told to fit beside the others stays small
      stays_told : (n : ℕ) → fits n ≡ true → StaysSmall g s (place_of oid) content n
      stays_told n so =
          stays_by oid content n (room_beside before oid) room_here
          (subst (λ (size : ℕ). (is_none (root_of content) && nat_le (record_len n) (record_len size + room_beside before oid)) ≡ true) size_told
          (subst (λ (root : Option Root). (is_none root && nat_le (record_len n) (record_len found.size + room_beside before oid)) ≡ true) root_told so))

      -- what a change took of an area's free units, the session counts for it
      taken_in : (t : S) (change : Change) (n : ℕ) → TakesForChange g s t oid content change n → (area : Area) → g.free s area ≤ g.free t area + units_need before.session.geometry found change (fits n) area
      taken_in t change n takes area = elim (cases_Bool (fits n)) [
        | inl so ↦
            let none : units_need before.session.geometry found change (fits n) area ≡ 0 =
            ap (λ (b : Bool). units_need before.session.geometry found change b area) so ∙ small_need before.session.geometry found change area in
            let kept = takes.small (stays_told n so) area in
            omega (arith, none, kept)
        | inr not ↦
            let need : units_need before.session.geometry found change (fits n) area ≡ edit_need (g.geometry s) change content area =
            ap (λ (b : Bool). units_need before.session.geometry found change b area) not ∙ need_is before.session.geometry found change content area root_told
            ∙ ap (λ (h : Geometry). edit_need h change content area) (sym shows.geometry) in
            let most = takes.most area in
            omega (arith, need, most)
      ]

  -- an update that a session has room for has its room in the port
  pub has_room : g.ready s → ((area : Area) → g.free s area ≡ free_in before.session area) → (u : TableUpdate) (v : Volume) → Asks u v (shown before.machine) → HasRoomFor before u → HasRoom g s u
  has_room ready free (Changes oid change) v asks room = λ index head content bytes has. has_need ready oid asks.version asks.is index head content bytes has change asks.inside free room
  has_room ready free _ v asks room = tt

  -- and what it took of the port, the session counts for it
  module _ (ready : g.ready s) (records : List LogRecord) (v : Volume) (vol : IsVolume g s records v) (same : shown before.machine ≡ table_of (units_in g s) v) (t : S) (free : Area → ℕ)
      (was : (area : Area) → g.free s area ≡ free_in before.session area) (later : (area : Area) → g.free t area ≡ free area) where
    pub has_taken : (u : TableUpdate) → Asks u v (shown before.machine) → TakesNeed g s t u → TakesAtMost free before u
    has_taken (Changes oid change) asks takes = λ found tells area.
        let stands = (version_found g s records v vol.shows vol oid asks.version (ap (λ (table : Table). version_at table oid) (sym same) ∙ asks.is)) in
        let has = stands.stands in
        let size : length (changed change asks.version.bytes) ≡ size_after change found.size =
        length_after change asks.version.bytes asks.inside
        ∙ ap (size_after change) (size_live ready oid asks.version asks.is stands.index stands.head stands.content asks.version.bytes has ∙ sym (size_told ready oid asks.version asks.is stands.index stands.head stands.content asks.version.bytes has found tells)) in
        let most = taken_in ready oid asks.version asks.is stands.index stands.head stands.content asks.version.bytes has found tells t change (size_after change found.size)
        (subst (TakesForChange g s t oid stands.content change) size (takes shows.tells stands.index stands.head stands.content asks.version.bytes has)) area in
        omega (arith, was area, later area, most)
    has_taken (Removes oid) asks takes = λ area. let none = takes area in omega (arith, was area, later area, none)
    has_taken (Drops oid) asks takes = λ area. let none = takes area in omega (arith, was area, later area, none)
    has_taken (Makes name file_no unique) asks takes = λ area. let pages = takes area in omega (arith, was area, later area, pages)
    has_taken (Freezes oid unique) asks takes = λ area. let pages = takes area in omega (arith, was area, later area, pages)
    has_taken (Derives oid unique) asks takes = λ area. let pages = takes area in omega (arith, was area, later area, pages)

-- it still did, where more units are free
pub takes_still : (before : View SessionState) (free more : Area → ℕ) → ((area : Area) → free area ≤ more area) → (u : TableUpdate) → TakesAtMost free before u → TakesAtMost more before u
takes_still before free more grows (Changes oid change) takes = λ found tells area. let most = takes found tells area in omega (arith, grows area, most)
takes_still before free more grows (Removes oid) takes = λ area. let none = takes area in omega (arith, grows area, none)
takes_still before free more grows (Drops oid) takes = λ area. let none = takes area in omega (arith, grows area, none)
takes_still before free more grows (Makes name file_no unique) takes = λ area. let pages = takes area in omega (arith, grows area, pages)
takes_still before free more grows (Freezes oid unique) takes = λ area. let pages = takes area in omega (arith, grows area, pages)
takes_still before free more grows (Derives oid unique) takes = λ area. let pages = takes area in omega (arith, grows area, pages)
