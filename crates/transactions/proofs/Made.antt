-- How a line is answered that makes a version, once the machine accepts it.
use Rattle.std.proofs.Common.{◌≡◌, ◌≤◌, ◌∙◌, ◌+◌, ◌-◌, ◌^◌, ℕ, arith, true, false, ◌||◌, List, [], ◌∷◌, ◌++◌, All, AllPairs, Option, Some, None, is_some, Ok, Err, refl, sym, ap, subst}
use Rattle.std.specs.Prelude.{IsTrue, ◌==◌, if◌then◌else◌}
use Rattle.std.specs.List.{list_any}
use Rattle.std.proofs.lemmas.Bool.{or_parts}
use Rattle.bound_names.specs.Bindings.{is_bound}
use Rattle.open_scans.specs.GroupRows.{group_index}
use Rattle.open_scans.specs.OpenScans.{is_named}
use Rattle.ex_base.specs.declared.names.Area.{Area}
use Rattle.ex_base.specs.declared.names.Area.TheVariants.{Page, Segment}
use Rattle.ex_base.specs.declared.names.Oid.{Oid}
use Rattle.ex_base.specs.declared.names.OpNote.{OpNote}
use Rattle.ex_base.specs.declared.names.Place.{Place}
use Rattle.ex_base.specs.declared.notes.NoteKind.{NoteKind}
use Rattle.disk_model.specs.Outside.{Outside, DiskOnly, IsWorld}
use Rattle.table_model.specs.declared.machine.BoundName.{BoundName}
use Rattle.table_model.specs.declared.machine.Machine.{Machine}
use Rattle.table_model.specs.declared.machine.Pick.{Pick}
use Rattle.table_model.specs.declared.reply.Refusal.{Refusal}
use Rattle.table_model.specs.declared.reply.Refusal.TheVariants as refusal
use Rattle.table_model.specs.declared.reply.Reply.{Reply}
use Rattle.table_model.specs.declared.reply.Reply.TheVariants as reply
use Rattle.table_model.specs.declared.table.Table.{Table}
use Rattle.table_model.specs.Machines.{IsMachine, bound_if, is_taken_if, shown}
use Rattle.table_model.specs.Needs.{charge, need, pages_need}
use Rattle.table_model.specs.Refusals.{when}
use Rattle.table_model.specs.Requests.{Request, is_kept_name_if}
use Rattle.table_model.specs.Steps.{Asks, IsVacant, machine_after, new_oid, note, notes_of, reply_to, table_after}
use Rattle.table_model.specs.Tables.{LieApart, SamePlace, versions_of}
use Rattle.table_model.proofs.Keeping.{bound_keeps}
use Rattle.version_lists.specs.declared.version.Version.{Version}
use Rattle.version_lists.specs.Changes.{new_version}
use Rattle.session_views.specs.View.{View, ShowsNow, Stepped}
use Rattle.volume_model.specs.Shown.{Shows}
use Rattle.session_core.specs.declared.updates.ObjectUpdate.{ObjectUpdate}
use Rattle.session_core.specs.Counts.{free_in}
use Rattle.session_core.specs.Finding.{IfShown}
use Rattle.session_core.specs.Meant.{held_view, meant, place_noted}
use Rattle.session_core.specs.Performed.{IsUpdate}
use Rattle.session_core.specs.Sessions.{SessionState, IsSession, volume_held}
use Rattle.session_core.specs.Steps.{OnlyFrames}
use Rattle.volume_edits.specs.TableUpdates.{TableUpdate, updated}
use Rattle.volume_edits.specs.TableUpdates as update
use Rattle.session_core.specs.Updates.{HoldsTable, Noted, TakesAtMost}
use Rattle.session_core.proofs.Quiet.{with_groups}
use Rattle.session_core.proofs.Refusing.{none_is_false}
use Rattle.session_core.proofs.Taken.{taken_as}
use Rattle.transactions.specs.Lines.{Answered, UpdatesLine, WentOn}
use Rattle.transactions.specs.Making.{MakesVersion, is_bound_if, making_need, takes_if}
use Rattle.transactions.proofs.Updated.{KeptTo, charge_most, machine_then, machine_with, noted_steps, pick_then, same_machine, within_need}
use Rattle.session_core.specs.Contents.{Shaped, VolumePages, pages_on}
use Rattle.transactions.specs.Contents.{LineShaped}
use Rattle.transactions.proofs.UpdateLines.{counted_then, opened_then, update_done}

-- ---- its number, and its room

pub spent_told : (n : ℕ) (why : Refusal) → Err why ≡ (if n == 2 ^ 64 - 1 then Err refusal.IdsSpent else Ok n) → when (n == 2 ^ 64 - 1) refusal.IdsSpent ≡ Some why
spent_told n why is = (elim (n == 2 ^ 64 - 1) as (λ b. Err why ≡ (if b then Err refusal.IdsSpent else Ok n) → when b refusal.IdsSpent ≡ Some why) [
  | true ↦ λ spent. cc (spent)
  | false ↦ λ given. absurd (cc (given))
]) is

-- the number that is given is the next one, and not the last of its kind
pub record IsNext (n unique : ℕ) : Type 0 where
  pub same : n ≡ unique
  pub unspent : (n == 2 ^ 64 - 1) ≡ false

pub next_told : (n unique : ℕ) → Ok unique ≡ (if n == 2 ^ 64 - 1 then Err refusal.IdsSpent else Ok n) → IsNext n unique
next_told n unique is = (elim (n == 2 ^ 64 - 1) as (λ b. n == 2 ^ 64 - 1 ≡ b → Ok unique ≡ (if b then Err refusal.IdsSpent else Ok n) → IsNext n unique) [
  | true ↦ λ _ spent. absurd (cc (spent))
  | false ↦ λ few given. (let same : n ≡ unique = cc in record { same = same; unspent = few })
]) refl is

-- ---- its name

-- the update left the names, so that it is bound behind those of before
pub bound_then : {old mid new : SessionState} {noted : OpNote} (bind : Option (List ℕ)) (oid : Oid) → Noted old mid noted → new ≡ record mid { names = mid.names ++ bound_if bind oid } → new ≡ record mid { names = old.names ++ bound_if bind oid }
bound_then {old} {mid} {new} bind oid did is =
    let same : mid.names ≡ old.names = ap (λ (s : SessionState). s.names) did.same in
    subst (λ (names : List BoundName). new ≡ record mid { names = names ++ bound_if bind oid }) same is

place_last : (notes : List OpNote) (last : OpNote) → place_noted (notes ++ last ∷ []) ≡ record { page = last.oid.page; slot = last.oid.slot }
place_last [] last = refl
place_last (n ∷ []) last = refl
place_last (n ∷ m ∷ notes) last = place_last (m ∷ notes) last

-- what is taken in the machine is taken in the session
pub taken_if_as : {may_leave : List ℕ → Type 0} (v : View SessionState) → Shows may_leave (held_view v) → (bind : Option (List ℕ)) → is_taken_if v.machine bind ≡ takes_if v.session bind
taken_if_as v shows None = refl
taken_if_as v shows (Some name) = taken_as v shows name

-- what isn't taken isn't bound
unbound_if : (s : SessionState) (bind : Option (List ℕ)) → takes_if s bind ≡ false → is_bound_if s.names bind ≡ false
unbound_if s None free = refl
unbound_if s (Some name) free =
    let first = or_parts (is_bound s.names name || list_any (is_named name) s.scans) (is_some (group_index s.group_rows name)) free in
    (or_parts (is_bound s.names name) (list_any (is_named name) s.scans) first.0).0

pub unbound_then : {a b : Outside} {old mid : SessionState} (bind : Option (List ℕ)) → OnlyFrames a b old mid → takes_if old bind ≡ false → is_bound_if mid.names bind ≡ false
unbound_then {a} {b} {old} {mid} bind read free = ap (λ (s : SessionState). is_bound_if s.names bind) read.same ∙ unbound_if old bind free

abbrev made_oid : Place → ℕ → Oid
made_oid place unique = record { page = place.page; slot = place.slot; unique = unique }

-- ---- what the machine does

-- The machine accepts the line. What it does on it is this update of the table: it makes a version with the next number, and binds the name to it, where there is one. What the
-- updated table keeps apart lies apart from the new version too.
pub record Makes (m : Machine) (r : Request) (bind : Option (List ℕ)) (kind : NoteKind) (told : Oid → Reply) (u : TableUpdate) : Type 0 where
  pub accepted : Answered m r None
  pub reply : (q : Pick) → reply_to m r q ≡ told (new_oid m q)
  pub table : (q : Pick) → table_after m r q ≡ updated u (new_oid m q) (shown m)
  pub notes : (q : Pick) → notes_of m r q ≡ note kind (new_oid m q) 0 0 ∷ []
  pub after : (q : Pick) → machine_after m r q ≡ machine_with m (table_after m r q) (notes_of m r q) (m.names ++ bound_if bind (new_oid m q)) q
  pub asks : (q : Pick) → IsVacant m q → Asks m r q
  pub charge : 16 ≡ charge r
  pub pages : (q : Pick) → 16 ≡ need m.geometry r q Page
  pub segs : (q : Pick) → 0 ≡ need m.geometry r q Segment
  pub takes : (v : View SessionState) (free : Area → ℕ) → TakesAtMost free v u → (area : Area) → free_in v.session area ≤ free area + pages_need 16 area
  pub lies : (old new : VolumePages) (oid : Oid) → Shaped old new u oid → LineShaped m old new r (told oid)
  pub last : (oid : Oid) → (updated u oid (shown m)).last ≡ (shown m).last
  pub vacant : (oid : Oid) → oid.unique ≡ (shown m).next_unique → AllPairs LieApart (versions_of (updated u oid (shown m))) → All (λ (v : Version). SamePlace v (new_version oid) → ⊥) (versions_of (shown m))

module _ {a b : Outside} {before : View SessionState} (now : ShowsNow meant a before) (counted : before.session.units.geometry ≡ before.session.geometry) (is_open : before.session.opened ≡ true) (r : Request) (bind : Option (List ℕ)) (kind : NoteKind)
    (told : Oid → Reply) (u : TableUpdate) (makes : Makes before.machine r bind kind told u) (spelled : IsTrue (is_kept_name_if bind)) (untaken : takes_if before.session bind ≡ false) (oid : Oid) (mid new : SessionState)
    (number : oid.unique ≡ (shown before.machine).next_unique) (did : Noted before.session mid (note kind oid 0 0)) (kept : KeptTo making_need before.session mid)
    (holds : HoldsTable before b (volume_held mid) mid.gained mid.lost (updated u oid (shown before.machine))) (bound : new ≡ record mid { names = before.session.names ++ bound_if bind oid }) (only : DiskOnly a b) where
  abbrev m : Machine
  m = before.machine

  abbrev names_then : List BoundName
  names_then = before.session.names ++ bound_if bind oid

  abbrev table_then : Table
  table_then = updated u oid (shown m)

  abbrev q : Pick
  q = pick_then now mid (note kind oid 0 0) names_then table_then did holds r

  oid_is : new_oid m q ≡ oid
  oid_is =
      ap (λ (place : Place). made_oid place (shown m).next_unique) (place_last m.notes (note kind oid 0 0))
      ∙ ap (λ (n : ℕ). made_oid (record { page = oid.page; slot = oid.slot }) n) (sym number)

  after_is : machine_then now mid (note kind oid 0 0) names_then table_then did holds ≡ machine_after m r q
  after_is =
      same_machine m q (ap (λ (o : Oid). updated u o (shown m)) (sym oid_is) ∙ sym (makes.table q)) (ap (λ (o : Oid). note kind o 0 0 ∷ []) (sym oid_is) ∙ sym (makes.notes q))
      (ap (λ (names : List BoundName). names ++ bound_if bind oid) (sym now.shows.shared.names) ∙ ap (λ (o : Oid). m.names ++ bound_if bind o) (sym oid_is))
      ∙ sym (makes.after q)

  named_machine : IsMachine (record m { names = names_then })
  named_machine =
      subst (λ (names : List BoundName). IsMachine (record m { names = names ++ bound_if bind oid })) now.shows.shared.names
      (bound_keeps m bind oid now.shows.rules spelled (taken_if_as before now.shows bind ∙ untaken) (none_is_false m.working (now.shows.shared.open_txn ∙ is_open)))

  vacant_there : IsVacant m q
  vacant_there = subst (λ (o : Oid). All (λ (v : Version). SamePlace v (new_version o) → ⊥) (versions_of (shown m))) (sym oid_is) (makes.vacant oid number holds.rules.apart)

  pub made_steps : Stepped meant before r (told oid) new b
  made_steps =
      noted_steps now mid (note kind oid 0 0) names_then table_then did holds new r (told oid) (sym bound) only is_open (makes.last oid) named_machine (makes.accepted q) (ap told (sym oid_is) ∙ sym (makes.reply q)) after_is
      (makes.asks q vacant_there, λ _. within_need now mid (note kind oid 0 0) names_then table_then did holds making_need r counted kept makes.charge (makes.pages q) (makes.segs q))

-- ---- the line

-- What a view asks for so that the line makes a version: the machine makes one by this update of the table, of this number, and the volume has what it asks.
pub record MakesIn (v : View SessionState) {w : Outside} (now : ShowsNow meant w v) (r : Request) (bind : Option (List ℕ)) (kind : NoteKind) (told : Oid → Reply) (made : ObjectUpdate) (unique : ℕ) : Type 0 where
  pub u : TableUpdate
  pub is : IsUpdate made u
  pub asks : update.Asks u now.shows.working (shown v.machine)
  pub makes : Makes v.machine r bind kind told u
  pub number : (shown v.machine).next_unique ≡ unique

pub line_made : {a b c : Outside} {old mid new : SessionState} (r : Request) (bind : Option (List ℕ)) (kind : NoteKind) (told : Oid → Reply) (made : ObjectUpdate) (unique : ℕ) → IsWorld a → IsSession old → old.opened ≡ true → OnlyFrames a b old mid
    → IsTrue (is_kept_name_if bind) → takes_if mid bind ≡ false → WentOn b c mid new → (oid : Oid) → oid.unique ≡ unique → MakesVersion b c mid new made kind bind oid → ((why : Refusal) → told oid ≡ reply.No why → ⊥)
    → IfShown a old (λ before. (later : ShowsNow meant b (with_groups before mid)) → MakesIn (with_groups before mid) later r bind kind told made unique) → UpdatesLine a c old new r (Ok (told oid))
line_made {a} {b} {c} {old} {mid} {new} r bind kind told made unique world is is_open read spelled untaken went oid named done never facts =
    update_done r world is read went (told oid) never (λ before same now later.
    let it = facts before same now later in
    let taken = it.makes.takes (with_groups before mid) (free_in done.mid) (done.kept (with_groups before mid) refl later it.u it.is it.asks) in
    let kept : KeptTo making_need mid done.mid = record { touched = (let most = charge_most made in let touched = done.touched in omega (arith, touched, most)); pages = taken Page; segs = taken Segment } in
    made_steps later (counted_then read is) (opened_then read is_open) r bind kind told it.u it.makes spelled untaken oid done.mid new (named ∙ sym it.number) done.noted kept (done.holds (with_groups before mid) refl later it.u it.is it.asks) done.bound went.only)
    (λ before same now later.
    let it = facts before same now later in
    subst (λ (s : SessionState). LineShaped before.machine (pages_on b mid) (pages_on c s) r (told oid)) (sym done.bound)
    (it.makes.lies (pages_on b mid) (pages_on c done.mid) oid (done.shaped (with_groups before mid) refl later it.u it.is it.asks)))
