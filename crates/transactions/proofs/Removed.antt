-- A version that is destroyed or dropped: why the line is refused, and its step.
use Rattle.std.proofs.Common.{◌≡◌, ◌∙◌, ◌≤◌, ◌+◌, ℕ, length, arith, Bool, true, false, [], ◌∷◌, Option, Some, None, Ok, Err, refl, sym, ap, subst}
use Rattle.std.specs.Prelude.{nat_le, not}
use Rattle.std.specs.Option.{option_or}
use Rattle.std.proofs.lemmas.Bool.{leb-false}
use Rattle.disk_model.specs.Outside.{Outside, DiskOnly, IsWorld}
use Rattle.ex_base.specs.declared.geometry.Geometry.{Geometry}
use Rattle.ex_base.specs.declared.names.Area.{Area}
use Rattle.ex_base.specs.declared.names.Area.TheVariants.{Page, Segment}
use Rattle.ex_base.specs.declared.names.Oid.{Oid}
use Rattle.ex_base.specs.declared.names.OpNote.{OpNote}
use Rattle.ex_base.specs.declared.notes.NoteKind.{NoteKind}
use Rattle.ex_base.specs.declared.notes.NoteKind.TheVariants as note_kind
use Rattle.table_model.specs.declared.machine.Machine.{Machine}
use Rattle.table_model.specs.declared.machine.Pick.{Pick}
use Rattle.table_model.specs.declared.reply.Refusal.{Refusal}
use Rattle.table_model.specs.declared.reply.Refusal.TheVariants as refusal
use Rattle.table_model.specs.declared.reply.Reply.{Reply}
use Rattle.table_model.specs.declared.reply.Reply.TheVariants as reply
use Rattle.table_model.specs.declared.table.Table.{Table}
use Rattle.table_model.specs.Machines.{shown, touched_most, version_of}
use Rattle.table_model.specs.Needs.{charge, need}
use Rattle.table_model.specs.Refusals.{branches, branches_if, current, current_if, first, frozen, full, has_versions, is_only_one, limits, long_txn, refusal_of, when}
use Rattle.table_model.specs.Requests.{Reference, Request}
use Rattle.table_model.specs.Requests as request
use Rattle.table_model.specs.Steps.{Asks, machine_after, note, notes_of, reply_to, table_after}
use Rattle.table_model.specs.Tables.{IsTable, all_in, versions_of, without_version}
use Rattle.table_model.proofs.Keeping.{shown_is}
use Rattle.table_model.proofs.TableRules.{file_linked, has_file, in_file}
use Rattle.version_lists.specs.declared.version.Version.{Version}
use Rattle.version_lists.specs.Versions.{derived_from, has_oid, unique_of}
use Rattle.version_lists.proofs.Links.{has_derived, one_derived}
use Rattle.version_lists.proofs.Lists.{Has, find_has, has_length}
use Rattle.session_views.specs.declared.stop.Stop.{Stop}
use Rattle.session_views.specs.View.{View, ShowsNow, Stepped}
use Rattle.volume_model.specs.Volume.{is_frozen}
use Rattle.session_core.specs.declared.session.objects.Named.{Named}
use Rattle.session_core.specs.declared.updates.ObjectUpdate.{ObjectUpdate}
use Rattle.session_core.specs.declared.updates.ObjectUpdate.TheVariants as made
use Rattle.session_core.specs.Counts.{free_in}
use Rattle.session_core.specs.Finding.{IsMissing, IfShown, IsOutside, LineStops, NamesVersion, TellsVersion}
use Rattle.session_core.specs.Meant.{meant}
use Rattle.session_core.specs.Performed.{IsUpdate, charge_of}
use Rattle.session_core.specs.Sessions.{SessionState, IsSession, volume_held}
use Rattle.session_core.specs.Steps.{OnlyFrames}
use Rattle.volume_edits.specs.TableUpdates.{AsksDrop, AsksRemoval, TableUpdate, updated}
use Rattle.volume_edits.specs.TableUpdates as update
use Rattle.session_core.specs.Updates.{HasRoomFor, HoldsTable, IfUpdated, Noted, TakesAtMost, note_with}
use Rattle.session_core.proofs.Quiet.{same_view, with_groups}
use Rattle.transactions.specs.Editing.{room_refusal}
use Rattle.transactions.specs.Lines.{Answered, UpdatesLine, WentOn}
use Rattle.transactions.specs.Removing.{AcceptsOf, removal_need}
use Rattle.transactions.proofs.Changed.{names_then}
use Rattle.transactions.proofs.EditRefusals.{joined, misses, names_frozen, names_live, opens, room_is, units_counted, update_counts}
use Rattle.transactions.proofs.Naming.{the_oid_named, the_version}
use Rattle.transactions.proofs.Updated.{KeptTo, charge_most, machine_with, noted_steps, own_names, pick_then, room_left, same_machine, same_session, within_need}
use Rattle.session_core.specs.Contents.{VolumePages, pages_on}
use Rattle.transactions.specs.Contents.{LineShaped}
use Rattle.transactions.proofs.UpdateLines.{counted_then, line_refused, opened_then, update_done, update_stopped}

-- from a frozen version of a table another one is derived
some_derived : (g : Geometry) (t : Table) → IsTable g t → (v : Version) → Has (versions_of t) v → v.frozen ≡ true → 1 ≤ branches_if (versions_of t) (Some v)
some_derived g t is v there frozen =
    let at = in_file t v there in
    let one = one_derived (all_in at.0) v ((file_linked g t is at.0 at.1).1 v at.2) frozen in
    has_length (derived_from (unique_of v) (versions_of t)) one.0 (has_derived (versions_of t) (unique_of v) one.0 (has_file t at.0 one.0 at.1 one.1) one.2)

-- ---- what the machine answers, from what was found

abbrev destroy_told : Bool → Bool → Option Refusal → Option Refusal
destroy_told solid alone room = option_or (when solid refusal.Frozen) (option_or (when alone refusal.HasVersions) room)

abbrev drop_told : Bool → ℕ → Option Refusal → Option Refusal
drop_told solid derived room = option_or (when (not solid) refusal.Current) (option_or room (option_or (when (nat_le 2 derived) (refusal.Branches derived)) None))

module _ {w : Outside} {before : View SessionState} (now : ShowsNow meant w before) (counted : before.session.units.geometry ≡ before.session.geometry) (is_open : before.session.opened ≡ true) (x : Reference) (version : Named)
    (names : NamesVersion before x version) (q : Pick) where
  abbrev m : Machine
  m = before.machine

  abbrev solid : Bool
  solid = is_frozen version.found.head.state

  abbrev its_version : Version
  its_version = names.told.version

  found : version_of m x ≡ Some its_version
  found = the_version m x version.oid its_version names.named_by names.told.is

  pub destroy_is : refusal_of m (request.Destroy x) q ≡ destroy_told solid (is_only_one (versions_of (shown m)) (Some its_version)) (room_refusal before.session removal_need)
  destroy_is =
      names_live before x version (now.shows.shared.open_txn ∙ is_open) names (frozen m x ∷ has_versions m x ∷ limits m (request.Destroy x) q)
      ∙ ap (λ (b : Bool). destroy_told b (is_only_one (versions_of (shown m)) (version_of m x)) (first (limits m (request.Destroy x) q))) (names_frozen before x version names)
      ∙ ap (λ (v : Option Version). destroy_told solid (is_only_one (versions_of (shown m)) v) (first (limits m (request.Destroy x) q))) found
      ∙ ap (destroy_told solid (is_only_one (versions_of (shown m)) (Some its_version))) (room_is before removal_need 16 0 0 (update_counts now.shows counted) refl refl refl)

  -- what is asked of its branches
  abbrev last : Option Version → Option Refusal
  last v = option_or (when (nat_le 2 (branches_if (versions_of (shown m)) v)) (refusal.Branches (branches_if (versions_of (shown m)) v))) None

  pub drop_is : refusal_of m (request.DropVersion x) q ≡ drop_told solid (branches_if (versions_of (shown m)) (Some its_version)) (room_refusal before.session removal_need)
  drop_is =
      names_live before x version (now.shows.shared.open_txn ∙ is_open) names (current m x ∷ long_txn m 16 ∷ full m 0 0 ∷ branches m x ∷ [])
      ∙ ap (λ (v : Option Version). option_or (when (current_if v) refusal.Current) (option_or (long_txn m 16) (option_or (full m 0 0) (last v)))) found
      ∙ ap (λ (b : Bool). option_or (when (not b) refusal.Current) (option_or (long_txn m 16) (option_or (full m 0 0) (last (Some its_version))))) (sym names.told.frozen)
      ∙ ap (option_or (when (not solid) refusal.Current)) (joined (long_txn m 16) (full m 0 0) None (last (Some its_version)))
      ∙ ap (λ (o : Option Refusal). option_or (when (not solid) refusal.Current) (option_or o (last (Some its_version)))) (room_is before removal_need 16 0 0 (update_counts now.shows counted) refl refl refl)

-- ---- it is admitted, or not

module _ {a b : Outside} {old mid : SessionState} (x : Reference) (read : OnlyFrames a b old mid) (is : IsSession old) (is_open : old.opened ≡ true) where
  -- no version is named
  pub destroy_missed : (why : Refusal) → IfShown a old (λ before. IsMissing before.machine x why) → IfShown a old (λ before. Answered before.machine (request.Destroy x) (Some why))
  destroy_missed why missing before same now q =
      let m = before.machine in
      misses now (units_counted is before same) (opens is_open before same) x why (frozen m x ∷ has_versions m x ∷ limits m (request.Destroy x) q) (missing before same now)

  pub drop_missed : (why : Refusal) → IfShown a old (λ before. IsMissing before.machine x why) → IfShown a old (λ before. Answered before.machine (request.DropVersion x) (Some why))
  drop_missed why missing before same now q =
      let m = before.machine in
      misses now (units_counted is before same) (opens is_open before same) x why (current m x ∷ long_txn m 16 ∷ full m 0 0 ∷ branches m x ∷ []) (missing before same now)

  module _ (version : Named) (names : IfShown a old (λ before. NamesVersion before x version)) where
    -- the version that is told of, with the frames that were read
    told_of : (before : View SessionState) (same : before.session ≡ old) (now : ShowsNow meant a before) → TellsVersion (with_groups before mid) version.oid version.found
    told_of before same now = (names_then before x version same read (names before same now)).told

    destroys : (solid alone : Bool) (room : Option Refusal) → is_frozen version.found.head.state ≡ solid → IfShown a old (λ before. (named : NamesVersion before x version) → is_only_one (versions_of (shown before.machine)) (Some named.told.version) ≡ alone)
        → room ≡ room_refusal old removal_need → IfShown a old (λ before. Answered before.machine (request.Destroy x) (destroy_told solid alone room))
    destroys solid alone room frozen_is alone_is room_told before same now q =
        let n = names before same now in
        destroy_is now (units_counted is before same) (opens is_open before same) x version n q
        ∙ ap (λ (b : Bool). destroy_told b (is_only_one (versions_of (shown before.machine)) (Some n.told.version)) (room_refusal before.session removal_need)) frozen_is
        ∙ ap (λ (b : Bool). destroy_told solid b (room_refusal before.session removal_need)) (alone_is before same now n)
        ∙ ap (destroy_told solid alone) (ap (λ (s : SessionState). room_refusal s removal_need) same ∙ sym room_told)

    -- a frozen version isn't destroyed, and another one isn't dropped
    pub frozen_stays : is_frozen version.found.head.state ≡ true → IfShown a old (λ before. Answered before.machine (request.Destroy x) (Some refusal.Frozen))
    frozen_stays solid before same now q =
        let n = names before same now in
        destroy_is now (units_counted is before same) (opens is_open before same) x version n q
        ∙ ap (λ (b : Bool). destroy_told b (is_only_one (versions_of (shown before.machine)) (Some n.told.version)) (room_refusal before.session removal_need)) solid

    pub current_stays : is_frozen version.found.head.state ≡ false → IfShown a old (λ before. Answered before.machine (request.DropVersion x) (Some refusal.Current))
    current_stays thawed before same now q =
        let n = names before same now in
        drop_is now (units_counted is before same) (opens is_open before same) x version n q
        ∙ ap (λ (b : Bool). drop_told b (branches_if (versions_of (shown before.machine)) (Some n.told.version)) (room_refusal before.session removal_need)) thawed

    -- a frozen one isn't dropped without room
    pub drop_full : is_frozen version.found.head.state ≡ true → (why : Refusal) → Some why ≡ room_refusal mid removal_need → IfShown a old (λ before. Answered before.machine (request.DropVersion x) (Some why))
    drop_full solid why refuses before same now q =
        let n = names before same now in
        drop_is now (units_counted is before same) (opens is_open before same) x version n q
        ∙ ap (λ (b : Bool). drop_told b (branches_if (versions_of (shown before.machine)) (Some n.told.version)) (room_refusal before.session removal_need)) solid
        ∙ ap (drop_told true (branches_if (versions_of (shown before.machine)) (Some n.told.version)))
        (ap (λ (s : SessionState). room_refusal s removal_need) same ∙ sym (ap (λ (s : SessionState). room_refusal s removal_need) read.same) ∙ sym refuses)

    module _ {c : Outside} {new : SessionState} (later : OnlyFrames b c mid new) where
      -- ---- destroyed

      module _ (thawed : is_frozen version.found.head.state ≡ false) (alone : Bool) (asked : IfShown b mid (λ before. (told : TellsVersion before version.oid version.found) → alone ≡ is_only_one (versions_of (shown before.machine)) (Some told.version))) where
        alone_here : IfShown a old (λ before. (named : NamesVersion before x version) → is_only_one (versions_of (shown before.machine)) (Some named.told.version) ≡ alone)
        alone_here before same now named =
            let told = told_of before same now in
            let one : Some named.told.version ≡ Some told.version = sym named.told.is ∙ told.is in
            let both : named.told.version ≡ told.version = cc (one) in
            ap (λ (v : Version). is_only_one (versions_of (shown before.machine)) (Some v)) both ∙ sym (asked (with_groups before mid) refl (same_view before same now read is.sizes) told)

        room_there : room_refusal new removal_need ≡ room_refusal old removal_need
        room_there = ap (λ (s : SessionState). room_refusal s removal_need) later.same ∙ ap (λ (s : SessionState). room_refusal s removal_need) read.same

        pub destroy_alone : alone ≡ true → IfShown a old (λ before. Answered before.machine (request.Destroy x) (Some refusal.HasVersions))
        destroy_alone only before same now q = destroys false alone (room_refusal old removal_need) thawed alone_here refl before same now q ∙ ap (λ (b : Bool). destroy_told false b (room_refusal old removal_need)) only

        module _ (others : alone ≡ false) where
          passes_destroy : (room : Option Refusal) → room ≡ room_refusal new removal_need → IfShown a old (λ before. Answered before.machine (request.Destroy x) room)
          passes_destroy room is_room before same now q = destroys false alone room thawed alone_here (is_room ∙ room_there) before same now q ∙ ap (λ (b : Bool). destroy_told false b room) others

          pub destroy_full : (why : Refusal) → Some why ≡ room_refusal new removal_need → IfShown a old (λ before. Answered before.machine (request.Destroy x) (Some why))
          destroy_full why refuses = passes_destroy (Some why) refuses

          pub destroy_admitted : None ≡ room_refusal new removal_need → IfShown a old (λ before. AcceptsOf before.machine (request.Destroy x) x version.oid × AsksRemoval (shown before.machine) version.oid)
          destroy_admitted room before same now =
              let n = names before same now in (
                record { accepted = passes_destroy None room before same now; own = the_oid_named before x version n },
                record { version = n.told.version; is = n.told.is; current = sym n.told.frozen ∙ thawed; others = alone_here before same now n ∙ others },
              )

      pub still_asked : (why : Stop) → IfShown b mid (λ before. TellsVersion before version.oid version.found → IsOutside why) → IfShown a old (λ before. IsOutside why)
      still_asked why sound before same now = sound (with_groups before mid) refl (same_view before same now read is.sizes) (told_of before same now)

      -- ---- dropped

      module _ (solid : is_frozen version.found.head.state ≡ true) (room : None ≡ room_refusal mid removal_need) (derived : ℕ)
          (asked : IfShown b mid (λ before. (told : TellsVersion before version.oid version.found) → told.version.frozen ≡ true → derived ≡ branches_if (versions_of (shown before.machine)) (Some told.version))) where
        derived_here : IfShown a old (λ before. (named : NamesVersion before x version) → branches_if (versions_of (shown before.machine)) (Some named.told.version) ≡ derived)
        derived_here before same now named =
            let told = told_of before same now in
            let one : Some named.told.version ≡ Some told.version = sym named.told.is ∙ told.is in
            let both : named.told.version ≡ told.version = cc (one) in
            ap (λ (v : Version). branches_if (versions_of (shown before.machine)) (Some v)) both
            ∙ sym (asked (with_groups before mid) refl (same_view before same now read is.sizes) told (sym told.frozen ∙ solid))

        drops : IfShown a old (λ before. Answered before.machine (request.DropVersion x) (option_or (when (nat_le 2 derived) (refusal.Branches derived)) None))
        drops before same now q =
            let n = names before same now in
            drop_is now (units_counted is before same) (opens is_open before same) x version n q
            ∙ ap (λ (b : Bool). drop_told b (branches_if (versions_of (shown before.machine)) (Some n.told.version)) (room_refusal before.session removal_need)) solid
            ∙ ap (λ (k : ℕ). drop_told true k (room_refusal before.session removal_need)) (derived_here before same now n)
            ∙ ap (drop_told true derived) (ap (λ (s : SessionState). room_refusal s removal_need) same ∙ sym (ap (λ (s : SessionState). room_refusal s removal_need) read.same) ∙ sym room)

        pub drop_branched : nat_le 2 derived ≡ true → IfShown a old (λ before. Answered before.machine (request.DropVersion x) (Some (refusal.Branches derived)))
        drop_branched many before same now q = drops before same now q ∙ ap (λ (b : Bool). option_or (when b (refusal.Branches derived)) None) many

        pub drop_admitted : nat_le 2 derived ≡ false → IfShown a old (λ before. AcceptsOf before.machine (request.DropVersion x) x version.oid × AsksDrop (shown before.machine) version.oid)
        drop_admitted few before same now =
            let n = names before same now in
            let table = shown_is before.machine now.shows.rules in
            let frozen = sym n.told.frozen ∙ solid in
            let some = some_derived before.machine.geometry (shown before.machine) table n.told.version (find_has (has_oid version.oid) (versions_of (shown before.machine)) n.told.version n.told.is).0 frozen in
            let most = leb-false 2 derived few in (
              record { accepted = λ q. drops before same now q ∙ ap (λ (b : Bool). option_or (when b (refusal.Branches derived)) None) few; own = the_oid_named before x version n },
              record { version = n.told.version; is = n.told.is; frozen = frozen; one = omega (arith, some, most, derived_here before same now n) },
            )

-- ---- what the machine does

-- The machine accepts the line, which removes the version with this OID.
record Takes (m : Machine) (r : Request) (kind : NoteKind) (told : Oid → Reply) (u : TableUpdate) (oid : Oid) : Type 0 where
  accepted : Answered m r None
  reply : (q : Pick) → reply_to m r q ≡ told oid
  table : (q : Pick) → table_after m r q ≡ updated u oid (shown m)
  notes : (q : Pick) → notes_of m r q ≡ note kind oid 0 0 ∷ []
  after : (q : Pick) → machine_after m r q ≡ machine_with m (table_after m r q) (notes_of m r q) m.names q
  asks : (q : Pick) → Asks m r q
  charge : 16 ≡ charge r
  pages : (q : Pick) → 0 ≡ need m.geometry r q Page
  segs : (q : Pick) → 0 ≡ need m.geometry r q Segment
  takes : (v : View SessionState) (free : Area → ℕ) → TakesAtMost free v u → (area : Area) → free_in v.session area ≤ free area
  last : (updated u oid (shown m)).last ≡ (shown m).last

destroy_takes : (m : Machine) (x : Reference) (oid : Oid) → AcceptsOf m (request.Destroy x) x oid → Takes m (request.Destroy x) note_kind.ObjectRemoved (λ oid. reply.Destroy oid) (update.Removes oid) oid
destroy_takes m x oid is = record {
  accepted = is.accepted;
  reply = λ q. ap (λ (o : Oid). reply.Destroy o) is.own;
  table = λ q. ap (λ (o : Oid). without_version o (shown m)) is.own;
  notes = λ q. ap (λ (o : Oid). note note_kind.ObjectRemoved o 0 0 ∷ []) is.own;
  after = λ q. refl;
  asks = λ q. tt;
  charge = refl;
  pages = λ q. refl;
  segs = λ q. refl;
  takes = λ v free takes. takes;
  last = refl;
}

drop_takes : (m : Machine) (x : Reference) (oid : Oid) → AcceptsOf m (request.DropVersion x) x oid → Takes m (request.DropVersion x) note_kind.Dropped (λ oid. reply.DropVersion oid) (update.Drops oid) oid
drop_takes m x oid is = record {
  accepted = is.accepted;
  reply = λ q. ap (λ (o : Oid). reply.DropVersion o) is.own;
  table = λ q. ap (λ (o : Oid). without_version o (shown m)) is.own;
  notes = λ q. ap (λ (o : Oid). note note_kind.Dropped o 0 0 ∷ []) is.own;
  after = λ q. refl;
  asks = λ q. tt;
  charge = refl;
  pages = λ q. refl;
  segs = λ q. refl;
  takes = λ v free takes. takes;
  last = refl;
}

removed_steps : {a b : Outside} {before : View SessionState} (now : ShowsNow meant a before) → before.session.units.geometry ≡ before.session.geometry → before.session.opened ≡ true → (r : Request) (kind : NoteKind) (told : Oid → Reply) (u : TableUpdate) (oid : Oid)
    → Takes before.machine r kind told u oid → (new : SessionState) → DiskOnly a b → Noted before.session new (note kind oid 0 0) → KeptTo removal_need before.session new
    → HoldsTable before b (volume_held new) new.gained new.lost (updated u oid (shown before.machine)) → Stepped meant before r (told oid) new b
removed_steps {a} {b} {before} now counted is_open r kind told u oid takes new only did kept holds =
    let m = before.machine in
    let n = note kind oid 0 0 in
    let table = updated u oid (shown m) in
    let q = pick_then now new n before.session.names table did holds r in
    noted_steps now new n before.session.names table did holds new r (told oid) (same_session new n did) only is_open takes.last (own_names now) (takes.accepted q) (sym (takes.reply q))
    (same_machine m q (sym (takes.table q)) (sym (takes.notes q)) (sym now.shows.shared.names) ∙ sym (takes.after q))
    (takes.asks q, λ _. within_need now new n before.session.names table did holds removal_need r counted kept takes.charge (takes.pages q) (takes.segs q))

-- ---- the ways of the line

-- it may touch as many pages as it does
pub removal_left : {a b : Outside} {old mid : SessionState} → OnlyFrames a b old mid → room_refusal old removal_need ≡ None → length mid.meta.working + 16 ≤ touched_most
removal_left {a} {b} {old} {mid} read room = (room_left mid removal_need (ap (λ (s : SessionState). room_refusal s removal_need) read.same ∙ room)).touched

pub line_kept : {a b : Outside} {old mid : SessionState} (r : Request) → IsWorld a → IsSession old → OnlyFrames a b old mid → (why : Refusal) → IfShown a old (λ before. Answered before.machine r (Some why)) → UpdatesLine a b old mid r (Ok (reply.No why))
line_kept r world is read why refuses = line_refused r world read why is (λ before same now after. refuses before same now _)

module _ {a b c : Outside} {old mid new : SessionState} (world : IsWorld a) (is : IsSession old) (is_open : old.opened ≡ true) (read : OnlyFrames a b old mid) (went : WentOn b c mid new) (x : Reference) (oid : Oid) where
  module _ (r : Request) (kind : NoteKind) (told : Oid → Reply) (how : ObjectUpdate) (u : TableUpdate) (is_u : IsUpdate how u)
      (asks : IfShown a old (λ before. (later : ShowsNow meant b (with_groups before mid)) → update.Asks u later.shows.working (shown before.machine))) where
    -- it is done: the note as the code comes to it
    line_removed : IfShown a old (λ before. Takes before.machine r kind told u oid) → ((o : Oid) (why : Refusal) → told o ≡ reply.No why → ⊥) → ((m : Machine) (p q : VolumePages) (o : Oid) → LineShaped m p q r (told o)) → (gone : Oid) (n : OpNote) → gone ≡ oid → n ≡ note kind oid 0 0
        → Noted mid new (note_with n gone) → length new.meta.working ≤ length mid.meta.working + charge_of how → IfUpdated b mid how (TakesAtMost (free_in new)) → IfUpdated b mid how (λ before u. HoldsTable before c (volume_held new) new.gained new.lost (updated u gone (shown before.machine))) → UpdatesLine a c old new r (Ok (told gone))
    line_removed takes never none gone n named noting noted touched kept holds =
        let here : Noted mid new (note kind gone 0 0) = subst (λ (o : OpNote). Noted mid new (note_with o gone)) noting noted in
        let did : Noted mid new (note kind oid 0 0) = subst (λ (o : Oid). Noted mid new (note kind o 0 0)) named here in
        subst (λ (o : Oid). UpdatesLine a c old new r (Ok (told o))) (sym named)
        (update_done r world is read went (told oid) (never oid) (λ before same now later.
        let its = takes before same now in
        let taken = its.takes (with_groups before mid) (free_in new) (kept (with_groups before mid) refl later u is_u (asks before same now later)) in
        let keeps : KeptTo removal_need mid new =
        record { touched = (let most = charge_most how in omega (arith, touched, most)); pages = (let pages = taken Page in omega (arith, pages)); segs = (let segs = taken Segment in omega (arith, segs)) } in
        removed_steps later (counted_then read is) (opened_then read is_open) r kind told u oid its new went.only did keeps
        (subst (λ (o : Oid). HoldsTable (with_groups before mid) c (volume_held new) new.gained new.lost (updated u o (shown before.machine))) named (holds (with_groups before mid) refl later u is_u (asks before same now later))))
        (λ before same now later. none before.machine (pages_on b mid) (pages_on c new) oid))

    line_unremoved : ((v : View SessionState) → HasRoomFor v u) → (why : Stop) → LineStops b c why → IfUpdated b mid how (λ before u. HasRoomFor before u → IsOutside why) → UpdatesLine a c old new r (Err why)
    line_unremoved roomy why stops sound =
        update_stopped r world is read went why stops (λ before same now later. sound (with_groups before mid) refl later u is_u (asks before same now later) (roomy (with_groups before mid)))

  module _ (may : IfShown a old (λ before. AcceptsOf before.machine (request.Destroy x) x oid × AsksRemoval (shown before.machine) oid)) where
    pub destroyed : (gone : Oid) (n : OpNote) → gone ≡ oid → n ≡ note note_kind.ObjectRemoved oid 0 0 → Noted mid new (note_with n gone) → length new.meta.working ≤ length mid.meta.working + 16
        → IfUpdated b mid (made.Remove oid) (TakesAtMost (free_in new))
        → IfUpdated b mid (made.Remove oid) (λ before u. HoldsTable before c (volume_held new) new.gained new.lost (updated u gone (shown before.machine))) → UpdatesLine a c old new (request.Destroy x) (Ok (reply.Destroy gone))
    destroyed =
        line_removed (request.Destroy x) note_kind.ObjectRemoved (λ oid. reply.Destroy oid) (made.Remove oid) (update.Removes oid) refl (λ before same now later. (may before same now).1)
        (λ before same now. destroy_takes before.machine x oid (may before same now).0) (λ o why told. absurd (cc)) (λ m p q o. tt)

    pub destroy_stopped : (why : Stop) → LineStops b c why → IfUpdated b mid (made.Remove oid) (λ before u. HasRoomFor before u → IsOutside why) → UpdatesLine a c old new (request.Destroy x) (Err why)
    destroy_stopped = line_unremoved (request.Destroy x) note_kind.ObjectRemoved (λ oid. reply.Destroy oid) (made.Remove oid) (update.Removes oid) refl (λ before same now later. (may before same now).1) (λ v. tt)

  module _ (may : IfShown a old (λ before. AcceptsOf before.machine (request.DropVersion x) x oid × AsksDrop (shown before.machine) oid)) where
    pub dropped : (gone : Oid) (n : OpNote) → gone ≡ oid → n ≡ note note_kind.Dropped oid 0 0 → Noted mid new (note_with n gone) → length new.meta.working ≤ length mid.meta.working + 16
        → IfUpdated b mid (made.Drop oid) (TakesAtMost (free_in new))
        → IfUpdated b mid (made.Drop oid) (λ before u. HoldsTable before c (volume_held new) new.gained new.lost (updated u gone (shown before.machine))) → UpdatesLine a c old new (request.DropVersion x) (Ok (reply.DropVersion gone))
    dropped =
        line_removed (request.DropVersion x) note_kind.Dropped (λ oid. reply.DropVersion oid) (made.Drop oid) (update.Drops oid) refl (λ before same now later. (may before same now).1)
        (λ before same now. drop_takes before.machine x oid (may before same now).0) (λ o why told. absurd (cc)) (λ m p q o. tt)

    pub drop_stopped : (why : Stop) → LineStops b c why → IfUpdated b mid (made.Drop oid) (λ before u. HasRoomFor before u → IsOutside why) → UpdatesLine a c old new (request.DropVersion x) (Err why)
    drop_stopped = line_unremoved (request.DropVersion x) note_kind.Dropped (λ oid. reply.DropVersion oid) (made.Drop oid) (update.Drops oid) refl (λ before same now later. (may before same now).1) (λ v. tt)
