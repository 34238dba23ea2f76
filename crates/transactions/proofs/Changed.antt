-- A version whose bytes are changed: what the update asks, and the step.
use Rattle.std.proofs.Common.{◌≡◌, ◌∙◌, ◌≤◌, ◌+◌, ◌-◌, ℕ, arith, true, false, [], ◌∷◌, length, Option, Some, None, Result, Ok, Err, refl, sym, ap, subst}
use Rattle.std.specs.Prelude.{IfOk, IfErr, is_none, nat_le, nat_lt, ◌&&◌, ◌==◌, ◌||◌, if◌then◌else◌}
use Rattle.std.proofs.lemmas.Bool.{ltb-false}
use Rattle.disk_model.specs.Outside.{Outside, DiskOnly, IsWorld}
use Rattle.ex_base.specs.declared.names.Area.{Area}
use Rattle.ex_base.specs.declared.names.Area.TheVariants.{Page, Segment}
use Rattle.ex_base.specs.declared.names.Oid.{Oid}
use Rattle.ex_base.specs.declared.names.OpNote.{OpNote}
use Rattle.ex_base.specs.declared.names.Root.{Root}
use Rattle.ex_base.specs.Edits.{inserted, deleted, replaced, appended}
use Rattle.ex_base.specs.Sizes.{object_most}
use Rattle.ex_base.specs.declared.notes.NoteKind.TheVariants as note_kind
use Rattle.session_core.specs.declared.updates.ObjectUpdate.TheVariants as made
use Rattle.volume_edits.specs.TableUpdates.{AsksChange}
use Rattle.table_model.specs.declared.machine.Machine.{Machine}
use Rattle.table_model.specs.declared.machine.Pick.{Pick}
use Rattle.table_model.specs.declared.reply.Refusal.{Refusal}
use Rattle.table_model.specs.declared.reply.Refusal.TheVariants as refusal
use Rattle.table_model.specs.declared.reply.Reply.{Reply}
use Rattle.table_model.specs.declared.reply.Reply.TheVariants as reply
use Rattle.version_lists.specs.declared.version.Version.{Version}
use Rattle.table_model.specs.Machines.{shown, the_oid, touched_most, size_of}
use Rattle.table_model.specs.Needs.{charge}
use Rattle.table_model.specs.Needs as needs
use Rattle.table_model.specs.Refusals.{when}
use Rattle.table_model.specs.Requests.{Data, given_bytes, Request, Reference}
use Rattle.table_model.specs.Requests as request
use Rattle.table_model.specs.Steps.{Asks, machine_after, note, notes_of, reply_to, table_after}
use Rattle.table_model.specs.Tables.{with_bytes}
use Rattle.table_model.proofs.Stepping.{passes, unmet}
use Rattle.session_views.specs.declared.stop.Stop.{Stop}
use Rattle.session_views.specs.View.{View, ShowsNow, Stepped}
use Rattle.versions.specs.declared.editing.Edit.{Edit}
use Rattle.versions.specs.declared.finding.Found.{Found}
use Rattle.versions.specs.Edited.{change_of}
use Rattle.versions.specs.Needs.{most_need}
use Rattle.volume_model.specs.Volume.{is_frozen}
use Rattle.versions.specs.Versions.{Change, Inserts, Appends, Replaces, Deletes, InRange, changed, count_of, record_len}
use Rattle.transactions.specs.declared.edits.Admitted.{Admitted}
use Rattle.transactions.specs.declared.edits.Need.{Need}
use Rattle.session_core.specs.declared.session.objects.Named.{Named}
use Rattle.transactions.specs.Editing.{AsksFor, IsAdmitted, IsAnswered, IsWithin, bytes_refusal, edit_note, edit_reply, is_outside, room_refusal}
use Rattle.session_core.specs.Needs.{fits_beside, room_beside, root_height, size_after, units_need}
use Rattle.session_core.specs.Finding.{IfShown, IsOutside, LineStops, NamesVersion, TellsVersion}
use Rattle.transactions.specs.Lines.{UpdatesLine}
use Rattle.session_core.specs.Meant.{meant, held_view}
use Rattle.session_core.specs.Counts.{free_in}
use Rattle.session_core.specs.Sessions.{SessionState, IsSession, volume_held}
use Rattle.session_core.specs.Steps.{OnlyFrames}
use Rattle.session_core.specs.Updates.{HasRoomFor, HoldsTable, IfUpdated, Noted, TakesAtMost, note_with}
use Rattle.volume_edits.specs.TableUpdates as update
use Rattle.transactions.proofs.EditRefusals.{pick_fits, pick_tall, same_units, units_told}
use Rattle.transactions.proofs.Naming.{the_oid_named, the_size_named}
use Rattle.session_core.proofs.Quiet.{with_groups}
use Rattle.transactions.proofs.Updated.{KeptTo, machine_with, noted_steps, own_names, pick_then, room_left, same_machine, same_session, view_then, within_need}
use Rattle.transactions.specs.Lines.{WentOn}
use Rattle.session_core.specs.Contents.{Shaped, pages_on}
use Rattle.transactions.proofs.Contents.{edit_lies}
use Rattle.transactions.proofs.UpdateLines.{counted_then, frames_of, line_refused, opened_then, update_done, update_stopped}

-- ---- where the session read

told_on : (before : View SessionState) (s : SessionState) (oid : Oid) (found : Found) → s ≡ record before.session { groups = s.groups } → TellsVersion before oid found → TellsVersion (with_groups before s) oid found
told_on before s oid found same t = subst (λ (u : SessionState). TellsVersion (with_groups before u) oid found) (sym same) (record {
  version = t.version;
  is = t.is;
  size = t.size;
  head = t.head;
  frozen = t.frozen;
  first = t.first;
  one = t.one;
  root = t.root;
  content = t.content;
  named = t.named;
  lies = t.lies;
})

-- other frames tell of the same version
pub names_then : {a b : Outside} {old mid : SessionState} (before : View SessionState) (x : Reference) (named : Named) → before.session ≡ old → OnlyFrames a b old mid → NamesVersion before x named → NamesVersion (with_groups before mid) x named
names_then {a} {b} {old} {mid} before x named same only names = record {
  named_by = names.named_by;
  told = told_on before mid named.oid named.found (frames_of before same only) names.told;
}

pub admitted_then : {a b : Outside} {old mid : SessionState} (before : View SessionState) (x : Reference) (change : Change) (given : Admitted) → before.session ≡ old → OnlyFrames a b old mid → IsAdmitted before x change given
    → IsAdmitted (with_groups before mid) x change given
admitted_then {a} {b} {old} {mid} before x change given same only admitted =
    let frames = frames_of before same only in
    let there : SessionState = record before.session { groups = mid.groups } in
    subst (λ (s : SessionState). IsAdmitted (with_groups before s) x change given) (sym frames) (record {
      named = record { named_by = admitted.named.named_by; told = told_on before there given.version.oid given.version.found refl admitted.named.told };
      accepted = admitted.accepted;
      need = admitted.need;
    })

pub within_then : {a b : Outside} {old mid : SessionState} (change : Change) (given : Admitted) → OnlyFrames a b old mid → IsWithin old change given → IsWithin mid change given
within_then {a} {b} {old} {mid} change given only within = record {
  size = within.size;
  bytes = within.bytes;
  count = within.count;
  room = ap (λ (s : SessionState). room_refusal s given.need) only.same ∙ within.room;
  charge = within.charge;
}

-- ---- what the update asks

range_of : (change : Change) (size : ℕ) → is_outside change size ≡ false → nat_lt object_most (size_after change size) ≡ false → InRange change size
range_of (Inserts pos given) size outside large = (ltb-false size pos outside, ltb-false object_most (size + length given) large)
range_of (Appends given) size outside large = ltb-false object_most (size + length given) large
range_of (Replaces pos given) size outside large = ltb-false size (pos + length given) outside
range_of (Deletes pos len) size outside large = ltb-false size (pos + len) outside

-- a change that is not refused for its bytes is of a current version, and lies inside
in_range : (found : Found) (change : Change) → bytes_refusal found change ≡ None → (is_frozen found.head.state ≡ false) × InRange change found.size
in_range found change none =
    let all = passes (when (is_frozen found.head.state) refusal.Frozen ∷ when (is_outside change found.size) refusal.Range ∷ when (nat_lt object_most (size_after change found.size)) refusal.TooLarge ∷ []) (sym none) in
    (unmet _ _ all.0, range_of change found.size (unmet _ _ all.1.0) (unmet _ _ all.1.1.0))

pub asks_change : (before : View SessionState) (x : Reference) (change : Change) (version : Named) → NamesVersion before x version → bytes_refusal version.found change ≡ None → AsksChange (shown before.machine) version.oid change
asks_change before x change version names none = record {
  version = names.told.version;
  is = names.told.is;
  current = sym names.told.frozen ∙ (in_range version.found change none).0;
  inside = subst (InRange change) names.told.size (in_range version.found change none).1;
}

-- two that are told of one version are the same in what counts
same_found : (before : View SessionState) (oid : Oid) (one two : Found) → TellsVersion before oid one → TellsVersion before oid two → (one.size ≡ two.size) × (one.root ≡ two.root)
same_found before oid one two first second =
    let there : Some first.version ≡ Some second.version = sym first.is ∙ second.is in
    let same : first.version ≡ second.version = cc in
    (first.size ∙ ap (λ (v : Version). length v.bytes) same ∙ sym second.size, first.root ∙ sym second.root)

-- the units that the change may take of a version of this size and root
abbrev units_so : View SessionState → Oid → Change → Area → ℕ → Option Root → ℕ
units_so before oid change area size root =
    if count_of change == 0 || (is_none root && nat_le (record_len (size_after change size)) (record_len size + room_beside before oid)) then 0 else most_need before.session.geometry change (root_height root) area

pub has_room : (before : View SessionState) (x : Reference) (change : Change) (given : Admitted) → IsAdmitted before x change given → IsWithin before.session change given → HasRoomFor before (update.Changes given.version.oid change)
has_room before x change given admitted within found told area =
    let own = given.version.found in
    let oid = given.version.oid in
    let same = same_found before oid found own told admitted.named.told in
    let moved : units_so before oid change area found.size found.root ≡ units_so before oid change area own.size own.root =
    ap (λ (n : ℕ). units_so before oid change area n found.root) same.0 ∙ ap (λ (r : Option Root). units_so before oid change area own.size r) same.1 in
    subst (λ (n : ℕ). n ≤ free_in before.session area) (sym moved) (bound area)
  where
    bound : (area : Area) → units_so before given.version.oid change area given.version.found.size given.version.found.root ≤ free_in before.session area
    bound Page = subst (λ (n : Need). n.pages ≤ free_in before.session Page) admitted.need (room_left before.session given.need within.room).pages
    bound Segment = subst (λ (n : Need). n.segs ≤ free_in before.session Segment) admitted.need (room_left before.session given.need within.room).segs

-- ---- the step

-- the note names the version that was changed
note_same : (change : Change) (oid : Oid) (size : ℕ) → note_with (edit_note change oid size) oid ≡ edit_note change oid size
note_same (Inserts pos given) oid size = refl
note_same (Appends given) oid size = refl
note_same (Replaces pos given) oid size = refl
note_same (Deletes pos len) oid size = refl

-- no change is answered by a refusal
never_no : (change : Change) (size : ℕ) (why : Refusal) → edit_reply change size ≡ reply.No why → ⊥
never_no (Inserts pos given) size why told = absurd (cc)
never_no (Appends given) size why told = absurd (cc)
never_no (Replaces pos given) size why told = absurd (cc)
never_no (Deletes pos len) size why told = absurd (cc)

-- What the machine does on the line is this change of this version.
record Does (m : Machine) (oid : Oid) (size : ℕ) (change : Change) (r : Request) : Type 0 where
  reply : (q : Pick) → edit_reply change (size_after change size) ≡ reply_to m r q
  table : (q : Pick) → with_bytes oid (changed change) (shown m) ≡ table_after m r q
  notes : (q : Pick) → edit_note change oid size ∷ [] ≡ notes_of m r q
  after : (q : Pick) → machine_with m (table_after m r q) (notes_of m r q) m.names q ≡ machine_after m r q
  asks : (q : Pick) → Asks m r q
  charge : 1 ≡ charge r
  pages : (q : Pick) → units_told m.geometry change q.small q.height Page ≡ needs.need m.geometry r q Page
  segs : (q : Pick) → units_told m.geometry change q.small q.height Segment ≡ needs.need m.geometry r q Segment

module _ (m : Machine) (x : Reference) (oid : Oid) (size : ℕ) (named : the_oid m x ≡ oid) (sized : size_of m x ≡ size) (change : Change) where
  named_by : (y : Reference) → y ≡ x → oid ≡ the_oid m y
  named_by y same = sym named ∙ ap (λ (z : Reference). the_oid m z) (sym same)

  sized_by : (y : Reference) → y ≡ x → size ≡ size_of m y
  sized_by y same = sym sized ∙ ap (λ (z : Reference). size_of m z) (sym same)

  does : (r : Request) → AsksFor r x change → Does m oid size change r
  does (request.Insert y pos given) asked = record {
    reply = λ q. ap (λ (c : Change). edit_reply c (size_after c size)) asked.1 ∙ ap (λ (n : ℕ). reply.Insert (n + length (given_bytes given))) (sized_by y asked.0);
    table = λ q. ap (λ (c : Change). with_bytes oid (changed c) (shown m)) asked.1 ∙ ap (λ (o : Oid). with_bytes o (λ bytes. inserted bytes pos (given_bytes given)) (shown m)) (named_by y asked.0);
    notes = λ q. ap (λ (c : Change). edit_note c oid size ∷ []) asked.1 ∙ ap (λ (o : Oid). note note_kind.Inserted o pos (length (given_bytes given)) ∷ []) (named_by y asked.0);
    after = λ q. refl;
    asks = λ q. tt;
    charge = refl;
    pages = λ q. ap (λ (c : Change). units_told m.geometry c q.small q.height Page) asked.1;
    segs = λ q. ap (λ (c : Change). units_told m.geometry c q.small q.height Segment) asked.1;
  }
  does (request.Append y given) asked = record {
    reply = λ q. ap (λ (c : Change). edit_reply c (size_after c size)) asked.1 ∙ ap (λ (n : ℕ). reply.Append (n + length (given_bytes given))) (sized_by y asked.0);
    table = λ q. ap (λ (c : Change). with_bytes oid (changed c) (shown m)) asked.1 ∙ ap (λ (o : Oid). with_bytes o (λ bytes. appended bytes (given_bytes given)) (shown m)) (named_by y asked.0);
    notes = λ q. ap (λ (c : Change). edit_note c oid size ∷ []) asked.1 ∙ ap (λ (o : Oid). note note_kind.Appended o size (length (given_bytes given)) ∷ []) (named_by y asked.0)
        ∙ ap (λ (n : ℕ). note note_kind.Appended (the_oid m y) n (length (given_bytes given)) ∷ []) (sized_by y asked.0);
    after = λ q. refl;
    asks = λ q. tt;
    charge = refl;
    pages = λ q. ap (λ (c : Change). units_told m.geometry c q.small q.height Page) asked.1;
    segs = λ q. ap (λ (c : Change). units_told m.geometry c q.small q.height Segment) asked.1;
  }
  does (request.Replace y pos given) asked = record {
    reply = λ q. ap (λ (c : Change). edit_reply c (size_after c size)) asked.1 ∙ ap (λ (n : ℕ). reply.Replace n) (sized_by y asked.0);
    table = λ q. ap (λ (c : Change). with_bytes oid (changed c) (shown m)) asked.1 ∙ ap (λ (o : Oid). with_bytes o (λ bytes. replaced bytes pos (given_bytes given)) (shown m)) (named_by y asked.0);
    notes = λ q. ap (λ (c : Change). edit_note c oid size ∷ []) asked.1 ∙ ap (λ (o : Oid). note note_kind.Replaced o pos (length (given_bytes given)) ∷ []) (named_by y asked.0);
    after = λ q. refl;
    asks = λ q. tt;
    charge = refl;
    pages = λ q. ap (λ (c : Change). units_told m.geometry c q.small q.height Page) asked.1;
    segs = λ q. ap (λ (c : Change). units_told m.geometry c q.small q.height Segment) asked.1;
  }
  does (request.Delete y pos len) asked = record {
    reply = λ q. ap (λ (c : Change). edit_reply c (size_after c size)) asked.1 ∙ ap (λ (n : ℕ). reply.Delete (n - len)) (sized_by y asked.0);
    table = λ q. ap (λ (c : Change). with_bytes oid (changed c) (shown m)) asked.1 ∙ ap (λ (o : Oid). with_bytes o (λ bytes. deleted bytes pos len) (shown m)) (named_by y asked.0);
    notes = λ q. ap (λ (c : Change). edit_note c oid size ∷ []) asked.1 ∙ ap (λ (o : Oid). note note_kind.Deleted o pos len ∷ []) (named_by y asked.0);
    after = λ q. refl;
    asks = λ q. tt;
    charge = refl;
    pages = λ q. ap (λ (c : Change). units_told m.geometry c q.small q.height Page) asked.1;
    segs = λ q. ap (λ (c : Change). units_told m.geometry c q.small q.height Segment) asked.1;
  }
  does r asked = absurd asked

module _ {a : Outside} {before : View SessionState} (now : ShowsNow meant a before) (counted : before.session.units.geometry ≡ before.session.geometry) (is_open : before.session.opened ≡ true) (x : Reference) (change : Change) (given : Admitted)
    (admitted : IsAdmitted before x change given) (within : IsWithin before.session change given) where
  pub change_steps : {b : Outside} (new : SessionState) (oid : Oid) → oid ≡ given.version.oid → DiskOnly a b → Noted before.session new (note_with (edit_note change given.version.oid given.version.found.size) oid)
      → length new.meta.working ≤ length before.session.meta.working + 1 → TakesAtMost (free_in new) before (update.Changes given.version.oid change) → HoldsTable before b (volume_held new) new.gained new.lost (with_bytes given.version.oid (changed change) (shown before.machine)) → (r : Request) → AsksFor r x change
      → Stepped meant before r (edit_reply change (size_after change given.version.found.size)) new b
  change_steps {b} new oid is only noted touched kept holds r asked =
      let m = before.machine in
      let version = given.version in
      let n = edit_note change version.oid version.found.size in
      let table = with_bytes version.oid (changed change) (shown m) in
      let did : Noted before.session new n = subst (λ (o : OpNote). Noted before.session new o) (ap (note_with n) is ∙ note_same change version.oid version.found.size) noted in
      let q = pick_then now new n before.session.names table did holds r in
      let names = admitted.named in
      let d = does m x version.oid version.found.size (the_oid_named before x version names) (the_size_named before x version names) change r asked in
      let after = held_view (record { machine = m; session = new; disk = holds.later }) in
      let small = fits_beside before version (size_after change version.found.size) in
      let fits : q.small ≡ small = pick_fits now counted is_open x version names within.size change small refl after r asked in
      let tall : q.height ≡ root_height version.found.root = pick_tall now counted is_open x version names within.size change small refl after r asked in
      let taken = kept version.found names.told in
      let keeps : KeptTo given.need before.session new = record {
        touched = omega (arith, touched, within.charge);
        pages = (let pages = taken Page in let need : given.need.pages ≡ units_need before.session.geometry version.found change small Page = ap (λ (e : Need). e.pages) admitted.need in omega (arith, pages, need));
        segs = (let segs = taken Segment in let need : given.need.segs ≡ units_need before.session.geometry version.found change small Segment = ap (λ (e : Need). e.segs) admitted.need in omega (arith, segs, need));
      } in
      let pages : given.need.pages ≡ needs.need m.geometry r q Page =
      ap (λ (e : Need). e.pages) admitted.need ∙ sym (same_units change Page now.shows.shared.geometry fits tall) ∙ d.pages q in
      let segs : given.need.segs ≡ needs.need m.geometry r q Segment =
      ap (λ (e : Need). e.segs) admitted.need ∙ sym (same_units change Segment now.shows.shared.geometry fits tall) ∙ d.segs q in
      noted_steps now new n before.session.names table did holds new r (edit_reply change (size_after change version.found.size)) (same_session new n did) only is_open refl (own_names now)
      (admitted.accepted r (held_view (view_then now new n before.session.names table did holds)) asked) (d.reply q) (same_machine m q (d.table q) (d.notes q) (sym now.shows.shared.names) ∙ d.after q)
      (d.asks q, λ _. within_need now new n before.session.names table did holds given.need r counted keeps (within.charge ∙ d.charge) pages segs)

-- ---- the ways of the line

-- it may touch the page that it does
pub change_left : {a b : Outside} {old mid : SessionState} (change : Change) (given : Admitted) → OnlyFrames a b old mid → IsWithin old change given → length mid.meta.working + 1 ≤ touched_most
change_left {a} {b} {old} {mid} change given read within =
    let there = within_then change given read within in
    let left = (room_left mid given.need there.room).touched in
    omega (arith, left, there.charge)

-- as the code comes to what was admitted
pub admitted_so : {w : Outside} {old : SessionState} (x : Reference) (change : Change) (given : Admitted) (told : Result Admitted Refusal) → told ≡ Ok given → IfOk told (λ g. IfShown w old (λ before. IsAdmitted before x change g))
    → IfShown w old (λ before. IsAdmitted before x change given)
admitted_so {w} {old} x change given told is admitted = subst (λ (t : Result Admitted Refusal). IfOk t (λ g. IfShown w old (λ before. IsAdmitted before x change g))) is admitted

pub within_so : (old : SessionState) (change : Change) (given : Admitted) (told : Result Admitted Refusal) → told ≡ Ok given → IfOk told (λ g. IsWithin old change g) → IsWithin old change given
within_so old change given told is within = subst (λ (t : Result Admitted Refusal). IfOk t (λ g. IsWithin old change g)) is within

pub answered_so : {w : Outside} {old : SessionState} (x : Reference) (change : Change) (why : Refusal) (told : Result Admitted Refusal) → told ≡ Err why → IfErr told (λ y. IfShown w old (λ before. IsAnswered before x change (Some y)))
    → IfShown w old (λ before. IsAnswered before x change (Some why))
answered_so {w} {old} x change why told is answered = subst (λ (t : Result Admitted Refusal). IfErr t (λ y. IfShown w old (λ before. IsAnswered before x change (Some y)))) is answered

module _ {a b : Outside} {old mid : SessionState} (x : Reference) (change : Change) (world : IsWorld a) (is : IsSession old) (is_open : old.opened ≡ true) (read : OnlyFrames a b old mid) (r : Request) (asked : AsksFor r x change) where
  pub change_refused : (why : Refusal) → IfShown a old (λ before. IsAnswered before x change (Some why)) → UpdatesLine a b old mid r (Ok (reply.No why))
  change_refused why answered = line_refused r world read why is (λ before same now after. answered before same now r after asked)

  module _ (given : Admitted) (admitted : IfShown a old (λ before. IsAdmitted before x change given)) (within : IsWithin old change given) {c : Outside} {new : SessionState} (went : WentOn b c mid new) (edit : Edit)
      (same_change : change ≡ change_of edit) where
    asks_then : (before : View SessionState) → before.session ≡ old → ShowsNow meant a before → AsksChange (shown before.machine) given.version.oid change
    asks_then before same now = asks_change before x change given.version (admitted before same now).named within.bytes

    -- it is done: the note and the reply as the code comes to them
    pub changed_so : (oid : Oid) (n : OpNote) (size : ℕ) (told : Reply) → oid ≡ given.version.oid → n ≡ edit_note change given.version.oid given.version.found.size
        → size ≡ size_after change given.version.found.size → told ≡ edit_reply change size → Noted mid new (note_with n oid) → length new.meta.working ≤ length mid.meta.working + 1
        → IfUpdated b mid (made.Change given.version.oid edit) (TakesAtMost (free_in new))
        → IfUpdated b mid (made.Change given.version.oid edit) (λ before u. HoldsTable before c (volume_held new) new.gained new.lost (update.updated u oid (shown before.machine)))
        → IfUpdated b mid (made.Change given.version.oid edit) (λ before u. Shaped (pages_on b mid) (pages_on c new) u oid) → UpdatesLine a c old new r (Ok told)
    changed_so oid n size told named noting sized telling noted touched kept holds lies =
        let did : Noted mid new (note_with (edit_note change given.version.oid given.version.found.size) oid) = subst (λ (o : OpNote). Noted mid new (note_with o oid)) noting noted in
        let is_told : told ≡ edit_reply change (size_after change given.version.found.size) = telling ∙ ap (edit_reply change) sized in
        subst (λ (t : Reply). UpdatesLine a c old new r (Ok t)) (sym is_told)
        (update_done r world is read went (edit_reply change (size_after change given.version.found.size)) (never_no change (size_after change given.version.found.size)) (λ before same now later.
        change_steps later (counted_then read is) (opened_then read is_open) x change given (admitted_then before x change given same read (admitted before same now)) (within_then change given read within) new oid named went.only did touched
        (kept (with_groups before mid) refl later (update.Changes given.version.oid change) (ap (λ (c : Change). update.Changes given.version.oid c) same_change) (asks_then before same now))
        (holds (with_groups before mid) refl later (update.Changes given.version.oid change) (ap (λ (c : Change). update.Changes given.version.oid c) same_change) (asks_then before same now)) r asked)
        (λ before same now later.
        edit_lies before.machine (pages_on b mid) (pages_on c new) r x change given.version.oid (size_after change given.version.found.size) asked (the_oid_named before x given.version (admitted before same now).named)
        (lies (with_groups before mid) refl later (update.Changes given.version.oid change) (ap (λ (c : Change). update.Changes given.version.oid c) same_change) (asks_then before same now))))

    pub change_stopped : (why : Stop) → LineStops b c why → IfUpdated b mid (made.Change given.version.oid edit) (λ before u. HasRoomFor before u → IsOutside why) → UpdatesLine a c old new r (Err why)
    change_stopped why stops sound = update_stopped r world is read went why stops (λ before same now later.
        sound (with_groups before mid) refl later (update.Changes given.version.oid change) (ap (λ (c : Change). update.Changes given.version.oid c) same_change) (asks_then before same now)
        (has_room (with_groups before mid) x change given (admitted_then before x change given same read (admitted before same now)) (within_then change given read within)))
