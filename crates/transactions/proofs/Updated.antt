-- The step on an update of objects that was noted, from what the volume holds after it.
use Rattle.std.proofs.Common.{◌≡◌, ◌∙◌, ◌≤◌, ◌<◌, ◌+◌, ◌-◌, ◌++◌, ◌∷◌, ◌^◌, ℕ, true, List, [], length, Some, None, refl, sym, ap, subst, arith}
use Rattle.std.specs.Prelude.{nat_le, nat_lt}
use Rattle.std.proofs.lemmas.Bool.{leb-false, ltb-false, or_parts}
use Rattle.ex_base.specs.declared.geometry.Geometry.{Geometry}
use Rattle.ex_base.specs.declared.names.Area.{Area}
use Rattle.ex_base.specs.declared.names.Area.TheVariants.{Page, Segment}
use Rattle.ex_base.specs.declared.names.OpNote.{OpNote}
use Rattle.ex_base.specs.Sizes.{units}
use Rattle.disk_model.specs.Outside.{Outside, DiskOnly}
use Rattle.disk_model.specs.Runs.{honest_on}
use Rattle.page_alloc.specs.UnitSet.{free_count, used_at}
use Rattle.table_model.specs.declared.machine.BoundName.{BoundName}
use Rattle.table_model.specs.declared.machine.Machine.{Machine}
use Rattle.table_model.specs.declared.machine.Pick.{Pick}
use Rattle.table_model.specs.declared.reply.Reply.{Reply}
use Rattle.table_model.specs.declared.table.Table.{Table}
use Rattle.table_model.specs.Machines.{IsMachine, shown, updates_most, touched_most}
use Rattle.table_model.specs.Needs.{charge}
use Rattle.table_model.specs.Needs as needs
use Rattle.table_model.specs.Refusals.{refusal_of}
use Rattle.table_model.specs.Requests.{Request}
use Rattle.table_model.specs.Steps.{IsAllowed, WithinNeed, machine_after, reply_to}
use Rattle.table_model.specs.Tables.{IsTable}
use Rattle.table_model.proofs.Keeping.{is_working}
use Rattle.table_model.proofs.Stepping.{passes, unmet}
use Rattle.session_views.specs.View.{View, ShowsNow, Stepped}
use Rattle.volume_model.specs.Shown.{used_in}
use Rattle.transactions.specs.declared.edits.Need.{Need}
use Rattle.transactions.specs.Editing.{room_refusal}
use Rattle.session_core.specs.Meant.{meant, held_view, pick_of}
use Rattle.session_core.specs.Counts.{free_in}
use Rattle.transactions.specs.Refused.{full_in, long_txn}
use Rattle.session_core.specs.declared.updates.ObjectUpdate.{ObjectUpdate}
use Rattle.session_core.specs.declared.updates.ObjectUpdate.TheVariants as made
use Rattle.session_core.specs.Performed.{charge_of}
use Rattle.session_core.specs.Sessions.{SessionState, IsSession, volume_held}
use Rattle.session_core.specs.Updates.{HoldsTable, Noted}
use Rattle.session_core.proofs.Accepted.{took_place}
use Rattle.session_core.proofs.Refusing.{free_left, none_is_false}
use Rattle.volume_model.proofs.Showing.{session_geometry}

-- a session with other names
pub renamed : (s : SessionState) (names : List BoundName) → IsSession s → IsSession (record s { names = names })
renamed s names is = record {
  log = is.log;
  meta = is.meta;
  units = is.units;
  pages = is.pages;
  in_use = is.in_use;
  sizes = is.sizes;
  groups = is.groups;
  few_groups = is.few_groups;
  scans = is.scans;
  few_scans = is.few_scans;
  logged = is.logged;
  behind = is.behind;
  few_notes = is.few_notes;
  notes = is.notes;
  few_gained = is.few_gained;
  few_lost = is.few_lost;
  few_pages = is.few_pages;
  in_order = is.in_order;
  work = is.work;
  up = is.up;
  idle = is.idle;
}

-- what an update asks that has its room
pub record HasRoomLeft (s : SessionState) (n : Need) : Type 0 where
  pub updates : length s.notes < updates_most
  pub touched : length s.meta.working + n.charge ≤ touched_most
  pub pages : n.pages ≤ free_in s Page
  pub segs : n.segs ≤ free_in s Segment

pub room_left : (s : SessionState) (n : Need) → room_refusal s n ≡ None → HasRoomLeft s n
room_left s n none =
    let all = passes (long_txn s n.charge ∷ full_in s Page n.pages ∷ full_in s Segment n.segs ∷ []) (sym none) in
    let long = or_parts (nat_le updates_most (length s.notes)) (nat_lt touched_most (length s.meta.working + n.charge)) (unmet _ _ all.0) in
    record {
      updates = leb-false updates_most (length s.notes) long.0;
      touched = ltb-false touched_most (length s.meta.working + n.charge) long.1;
      pages = ltb-false (free_in s Page) n.pages (unmet _ _ all.1.0);
      segs = ltb-false (free_in s Segment) n.segs (unmet _ _ all.1.1.0);
    }

-- An update took no more of the touched pages and of the units than this.
pub record KeptTo (need : Need) (old new : SessionState) : Type 0 where
  pub touched : length new.meta.working ≤ length old.meta.working + need.charge
  pub pages : free_in old Page ≤ free_in new Page + need.pages
  pub segs : free_in old Segment ≤ free_in new Segment + need.segs

-- no update touches more pages than those that make or remove a version may
pub charge_most : (update : ObjectUpdate) → charge_of update ≤ 16
charge_most (made.Create file_no unique) = omega arith
charge_most (made.Change oid edit) = omega arith
charge_most (made.Remove oid) = omega arith
charge_most (made.Copy copying oid unique) = omega arith
charge_most (made.Drop oid) = omega arith

-- a machine with this table, these notes more, these names and the counts that were picked
abbrev pub machine_with : Machine → Table → List OpNote → List BoundName → Pick → Machine
machine_with m table notes names q = record m { working = Some table; notes = m.notes ++ notes; touched = q.touched; names = names; pages_used = q.pages; segs_used = q.segs }

pub same_machine : (m : Machine) {table same_table : Table} {notes same_notes : List OpNote} {names same_names : List BoundName} (q : Pick) → table ≡ same_table → notes ≡ same_notes → names ≡ same_names
    → machine_with m table notes names q ≡ machine_with m same_table same_notes same_names q
same_machine m {table} {same_table} {notes} {same_notes} {names} {same_names} q one two three =
    ap (λ (t : Table). machine_with m t notes names q) one ∙ ap (λ (ns : List OpNote). machine_with m same_table ns names q) two ∙ ap (λ (ns : List BoundName). machine_with m same_table same_notes ns q) three

module _ {a b : Outside} {before : View SessionState} (now : ShowsNow meant a before) (mid : SessionState) (noted : OpNote) (names : List BoundName) (table : Table) (did : Noted before.session mid noted)
    (holds : HoldsTable before b (volume_held mid) mid.gained mid.lost table) where
  -- the session after the update, with these names
  abbrev pub session_then : SessionState
  session_then = record mid { names = names }

  -- the machine that it shows
  abbrev pub machine_then : Machine
  machine_then = record before.machine {
    working = Some table;
    notes = before.machine.notes ++ noted ∷ [];
    touched = length mid.meta.working;
    names = names;
    pages_used = used_in mid.geometry (used_at mid.units) Page;
    segs_used = used_in mid.geometry (used_at mid.units) Segment;
  }

  abbrev pub view_then : View SessionState
  view_then = record { machine = machine_then; session = session_then; disk = holds.later }

  -- what the volume decided of a request that it did
  abbrev pub pick_then : Request → Pick
  pick_then r = pick_of (held_view before) r (held_view view_then)

  same_geometry : mid.geometry ≡ before.machine.geometry
  same_geometry = ap (λ (s : SessionState). s.geometry) did.same ∙ sym now.shows.shared.geometry

  used_fits : (area : Area) → used_in mid.geometry (used_at mid.units) area ≤ units before.machine.geometry area
  used_fits area =
      let whole = free_left mid.geometry (used_at mid.units) area in
      let most = ap (λ (g : Geometry). units g area) same_geometry in
      omega (arith, whole, most)

  same_notes : before.machine.notes ++ noted ∷ [] ≡ mid.notes
  same_notes = ap (λ (notes : List OpNote). notes ++ noted ∷ []) now.shows.shared.notes ∙ sym (ap (λ (s : SessionState). s.notes) did.same)

  rules_then : before.session.opened ≡ true → table.last ≡ (shown before.machine).last → IsMachine (record before.machine { names = names }) → IsMachine machine_then
  rules_then opened last named =
      let was = is_working before.machine now.shows.rules (none_is_false before.machine.working (now.shows.shared.open_txn ∙ opened)) in
      record {
        committed = named.committed;
        working = record {
          table = subst (λ (g : Geometry). IsTable g table) (sym now.shows.shared.geometry) holds.rules;
          last = last ∙ was.last;
          room = subst (λ (n : ℕ). n < 2 ^ 64 - 1) (sym last) was.room;
        };
        idle = tt;
        updates = omega (arith, ap length same_notes, did.is.few_notes);
        touched = did.is.few_pages;
        pages = used_fits Page;
        segs = used_fits Segment;
        names = named.names;
        scans = named.scans;
        few_scans = named.few_scans;
        groups = named.groups;
        few_groups = named.few_groups;
        once = named.once;
      }

  -- The machine steps to the one that has the table, where it accepts the request, is to reply so and to be that one.
  pub noted_steps : (new : SessionState) (r : Request) (told : Reply) → session_then ≡ new → DiskOnly a b → before.session.opened ≡ true → table.last ≡ (shown before.machine).last
      → IsMachine (record before.machine { names = names }) → refusal_of before.machine r (pick_then r) ≡ None → told ≡ reply_to before.machine r (pick_then r) → machine_then ≡ machine_after before.machine r (pick_then r)
      → IsAllowed before.machine r (pick_then r) → Stepped meant before r told new b
  noted_steps new r told same only opened last named accepts replies is allowed = record {
    after = view_then;
    is = same;
    shows = record {
      honest = honest_on only.goes now.honest;
      holds = holds.holds;
      shows = holds.shows machine_then session_then
          (record {
            is = renamed mid names did.is;
            volume = refl;
            gained = refl;
            lost = refl;
            scans = ap (λ (s : SessionState). s.scans) did.same;
          })
          (record { rules = rules_then opened last named; geometry = refl; committed = refl; scans = refl; working = refl; pages = refl; segs = refl; touched = refl })
          (record {
            geometry = sym same_geometry;
            notes = same_notes;
            names = refl;
            group_rows = now.shows.shared.group_rows ∙ sym (ap (λ (s : SessionState). s.group_rows) did.same);
            open_txn = sym opened ∙ sym (ap (λ (s : SessionState). s.opened) did.same);
            up = ap (λ (s : SessionState). s.down) did.same ∙ now.shows.shared.up;
          });
    };
    step = took_place before.machine machine_then r (pick_then r) told accepts replies is allowed;
  }

  free_before : before.session.units.geometry ≡ before.session.geometry → (area : Area) → used_in before.session.geometry (used_at before.session.units) area + free_in before.session area ≡ units before.session.geometry area
  free_before same area =
      let here : free_in before.session area ≡ free_count before.session.geometry (used_at before.session.units) area = ap (λ (g : Geometry). free_count g (used_at before.session.units) area) same in
      omega (arith, free_left before.session.geometry (used_at before.session.units) area, here)

  free_then : (area : Area) → used_in mid.geometry (used_at mid.units) area + free_count mid.units.geometry (used_at mid.units) area ≡ units before.session.geometry area
  free_then area =
      let here : free_count mid.units.geometry (used_at mid.units) area ≡ free_count mid.geometry (used_at mid.units) area = ap (λ (g : Geometry). free_count g (used_at mid.units) area) did.is.units.geometry in
      let most = ap (λ (s : SessionState). units s.geometry area) did.same in
      omega (arith, free_left mid.geometry (used_at mid.units) area, here, most)

  -- what took no more than a need is within it
  pub within_need : (n : Need) (r : Request) → before.session.units.geometry ≡ before.session.geometry → KeptTo n before.session mid → n.charge ≡ charge r
      → n.pages ≡ needs.need before.machine.geometry r (pick_then r) Page → n.segs ≡ needs.need before.machine.geometry r (pick_then r) Segment → WithinNeed before.machine r (pick_then r)
  within_need n r same kept charged pages segs =
      let g = session_geometry now.shows in
      let pages_are : before.machine.pages_used ≡ used_in before.session.geometry (used_at before.session.units) Page = now.shows.used.pages ∙ ap (λ (g : Geometry). used_in g (used_at before.session.units) Page) (sym g) in
      let segs_are : before.machine.segs_used ≡ used_in before.session.geometry (used_at before.session.units) Segment = now.shows.used.segs ∙ ap (λ (g : Geometry). used_in g (used_at before.session.units) Segment) (sym g) in
      record {
        pages = omega (arith, kept.pages, free_before same Page, free_then Page, pages_are, pages);
        segs = omega (arith, kept.segs, free_before same Segment, free_then Segment, segs_are, segs);
        touched = omega (arith, kept.touched, now.shows.used.touched, charged);
      }

-- The names stay, and so does the session that was noted.
pub same_session : {old : SessionState} (mid : SessionState) (noted : OpNote) → Noted old mid noted → record mid { names = old.names } ≡ mid
same_session mid noted did = ap (λ (names : List BoundName). record mid { names = names }) (sym (ap (λ (s : SessionState). s.names) did.same))

-- a machine with the names that it has
pub own_names : {w : Outside} {before : View SessionState} → ShowsNow meant w before → IsMachine (record before.machine { names = before.session.names })
own_names {w} {before} now = subst (λ (names : List BoundName). IsMachine (record before.machine { names = names })) now.shows.shared.names now.shows.rules
