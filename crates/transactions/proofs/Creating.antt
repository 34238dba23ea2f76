-- How a line that makes an object is answered.
use Rattle.std.proofs.Common.{◌≡◌, ◌∙◌, ◌-◌, ◌^◌, ℕ, Bool, true, false, List, Option, Some, None, is_some, Ok, Err, refl, sym, ap, subst}
use Rattle.std.specs.Prelude.{Contains, IsTrue, ◌==◌, bytes_eq, if◌then◌else◌, is_none}
use Rattle.std.specs.Option.{option_or}
use Rattle.std.proofs.lemmas.Slice.Eq.{bytes_eq-Decides}
use Rattle.ex_base.specs.declared.names.Oid.{Oid}
use Rattle.ex_base.proofs.Members.{contains_in}
use Rattle.ex_base.specs.declared.notes.NoteKind.TheVariants as note_kind
use Rattle.disk_model.specs.Outside.{Outside, IsWorld}
use Rattle.object_files.specs.Catalog.{Catalog, FileEntry}
use Rattle.object_files.specs.Edits.{has_name}
use Rattle.object_files.specs.Reads.{catalog_on}
use Rattle.session_core.specs.declared.updates.ObjectUpdate.TheVariants as made_update
use Rattle.volume_edits.specs.TableUpdates.{AsksFile}
use Rattle.volume_edits.specs.TableUpdates as update
use Rattle.table_model.specs.declared.machine.Pick.{Pick}
use Rattle.table_model.specs.declared.reply.Refusal.{Refusal}
use Rattle.table_model.specs.declared.reply.Refusal.TheVariants as refusal
use Rattle.table_model.specs.declared.reply.Reply.TheVariants as reply
use Rattle.table_model.specs.declared.table.Table.{Table}
use Rattle.table_model.specs.Machines.{is_taken_if, shown}
use Rattle.table_model.specs.Refusals.{refusal_of, when}
use Rattle.table_model.specs.Requests.{Request, is_kept_name_if}
use Rattle.table_model.specs.Requests as request
use Rattle.table_model.specs.Tables.{file_at}
use Rattle.session_views.specs.View.{View, ShowsNow}
use Rattle.session_views.specs.declared.stop.Stop.{Stop}
use Rattle.volume_edits.proofs.Finding.{find_in}
use Rattle.transactions.specs.declared.creation.NewObject.{NewObject}
use Rattle.transactions.specs.Editing.{new_object_in, numbered_at, place_if, room_refusal}
use Rattle.session_core.specs.Finding.{IsOutside, LineStops}
use Rattle.transactions.specs.Lines.{UpdatesLine, WentOn}
use Rattle.transactions.specs.Making.{MakesVersion, making_need, takes_if}
use Rattle.transactions.specs.Refused.{entry_named}
use Rattle.session_core.specs.Meant.{held_view, meant, pick_of}
use Rattle.session_core.specs.Sessions.{SessionState, IsSession}
use Rattle.session_core.specs.Steps.{OnlyFrames}
use Rattle.session_core.specs.Updates.{HasRoomFor, IfUpdated}
use Rattle.session_core.proofs.Accepted.{ReadsCatalog, shown_on}
use Rattle.session_core.proofs.Listing.{on_after}
use Rattle.transactions.proofs.EditRefusals.{UpdateCounts, opens, room_back, room_is, units_counted, update_counts}
use Rattle.session_core.proofs.Quiet.{shown_lends, with_groups}
use Rattle.transactions.proofs.Refusing.{missing, same_counts}
use Rattle.session_core.proofs.Refusing.{none_is_false}
use Rattle.volume_model.proofs.Showing.{shows_catalog}
use Rattle.transactions.proofs.UpdateLines.{counted_then, line_refused, opened_then, update_stopped}
use Rattle.transactions.proofs.Made.{Makes, MakesIn, line_made, taken_if_as}
use Rattle.transactions.proofs.Vacancy.{create_vacant}
use Rattle.table_model.proofs.Keeping.{shown_is}

-- ---- why it is refused

abbrev told_by : Bool → Bool → Bool → Bool → Option Refusal → Option Refusal
told_by none taken absent spent room =
    option_or (when none refusal.NoTxn) (option_or (when taken refusal.NameTaken) (option_or (when absent refusal.NoFile) (option_or (when spent refusal.IdsSpent) room)))

same_told : {none none' taken taken' absent absent' spent spent' : Bool} {room room' : Option Refusal} → none ≡ none' → taken ≡ taken' → absent ≡ absent' → spent ≡ spent' → room ≡ room'
    → told_by none taken absent spent room ≡ told_by none' taken' absent' spent' room'
same_told a b c d e = cc (a, b, c, d, e)

-- why no object is made in a file of the catalog, and its name bound, in an open transaction
abbrev pub create_refusal : SessionState → Catalog → List ℕ → Option (List ℕ) → Option Refusal
create_refusal s c file bind = told_by false (takes_if s bind) (is_none (entry_named c file)) (c.next_unique == 2 ^ 64 - 1) (room_refusal s making_need)

-- what a view gives of the machine for a new object
pub record GivesRoom (v : View SessionState) (c : Catalog) (file : List ℕ) (bind : Option (List ℕ)) : Type 0 where
  pub has_work : is_some v.machine.working ≡ true
  pub taken : is_taken_if v.machine bind ≡ takes_if v.session bind
  pub absent : is_none (file_at (shown v.machine) file) ≡ is_none (entry_named c file)
  pub next : (shown v.machine).next_unique ≡ c.next_unique
  pub counts : UpdateCounts v

pub gives_room : {w : Outside} {v : View SessionState} (now : ShowsNow meant w v) (file : List ℕ) (bind : Option (List ℕ)) → v.session.units.geometry ≡ v.session.geometry → v.session.opened ≡ true → GivesRoom v now.shows.working.catalog file bind
gives_room {w} {v} now file bind same opened = record {
  has_work = now.shows.shared.open_txn ∙ opened;
  taken = taken_if_as v now.shows bind;
  absent = missing file (shown v.machine).files now.shows.working.catalog.entries (same_counts {v = v} now.shows same).names;
  next = ap (λ (t : Table). t.next_unique) (shows_catalog now.shows).table;
  counts = update_counts {v = v} now.shows same;
}

pub create_told : (v : View SessionState) (c : Catalog) (file : List ℕ) (bind : Option (List ℕ)) (q : Pick) → GivesRoom v c file bind → refusal_of v.machine (request.Create file bind) q ≡ create_refusal v.session c file bind
create_told v c file bind q gives =
    same_told (none_is_false v.machine.working gives.has_work) gives.taken gives.absent (ap (λ (n : ℕ). n == 2 ^ 64 - 1) gives.next) (room_is v making_need 16 16 0 gives.counts refl refl refl)

-- ---- the place of the new object

abbrev made_in : ℕ → ℕ → NewObject
made_in file_no unique = record { file_no = file_no; unique = unique }

placed_no : (o : Option FileEntry) (c : Catalog) (why : Refusal) (room : Option Refusal) → Err why ≡ place_if o c → told_by false false (is_none o) (c.next_unique == 2 ^ 64 - 1) room ≡ Some why
placed_no None c why room is = cc (is)
placed_no (Some e) c why room is = (elim (c.next_unique == 2 ^ 64 - 1) as (λ b. Err why ≡ numbered_at e (if b then Err refusal.IdsSpent else Ok c.next_unique) → told_by false false false b room ≡ Some why) [
  | true ↦ λ spent. cc (spent)
  | false ↦ λ made. absurd (cc (made))
]) is

-- the file of the object that is made, with its number
record PlacedIn (o : Option FileEntry) (c : Catalog) (made : NewObject) : Type 0 where
  entry : FileEntry
  found : o ≡ Some entry
  file_no : entry.file_no ≡ made.file_no
  unique : c.next_unique ≡ made.unique
  passes : (room : Option Refusal) → told_by false false (is_none o) (c.next_unique == 2 ^ 64 - 1) room ≡ room

placed : (o : Option FileEntry) (c : Catalog) (made : NewObject) → Ok made ≡ place_if o c → PlacedIn o c made
placed None c made is = absurd (cc (is))
placed (Some e) c made is = (elim (c.next_unique == 2 ^ 64 - 1) as (λ b. c.next_unique == 2 ^ 64 - 1 ≡ b → Ok made ≡ numbered_at e (if b then Err refusal.IdsSpent else Ok c.next_unique) → PlacedIn (Some e) c made) [
  | true ↦ λ _ spent. absurd (cc (spent))
  | false ↦ λ few made_so. (let same : made ≡ made_in e.file_no c.next_unique = cc in record {
    entry = e;
    found = refl;
    file_no = sym (ap (λ (m : NewObject). m.file_no) same);
    unique = sym (ap (λ (m : NewObject). m.unique) same);
    passes = λ room. ap (λ (b : Bool). told_by false false false b room) few;
  })
]) refl is

-- ---- a line that is refused

module _ {a b : Outside} {old mid : SessionState} (file : List ℕ) (bind : Option (List ℕ)) (world : IsWorld a) (only : OnlyFrames a b old mid) (is : IsSession old) (opened : old.opened ≡ true) where
  abbrev line : Request
  line = request.Create file bind

  -- what the machine answers, as the session tells it
  answered : (before : View SessionState) (q : Pick) → before.session ≡ old → (now : ShowsNow meant a before) → refusal_of before.machine line q ≡ create_refusal old now.shows.working.catalog file bind
  answered before q same now =
      create_told before now.shows.working.catalog file bind q (gives_room now file bind (units_counted is before same) (opens opened before same))
      ∙ ap (λ (s : SessionState). create_refusal s now.shows.working.catalog file bind) same

  pub create_taken : takes_if old bind ≡ true → UpdatesLine a b old mid line (Ok (reply.No refusal.NameTaken))
  create_taken taken = line_refused line world only refusal.NameTaken is (λ before same now after.
      answered before (pick_of (held_view before) line after) same now
      ∙ ap (λ (t : Bool). told_by false t (is_none (entry_named now.shows.working.catalog file)) (now.shows.working.catalog.next_unique == 2 ^ 64 - 1) (room_refusal old making_need)) taken)

  module _ (page : List ℕ) (reads : ReadsCatalog a old page) (untaken : takes_if old bind ≡ false) where
    -- with the catalog that was read
    answered_on : (before : View SessionState) (q : Pick) → before.session ≡ old → (now : ShowsNow meant a before)
        → refusal_of before.machine line q ≡ told_by false false (is_none (entry_named (catalog_on page) file)) ((catalog_on page).next_unique == 2 ^ 64 - 1) (room_refusal old making_need)
    answered_on before q same now =
        let on = shown_on now page (subst (λ (s : SessionState). ReadsCatalog a s page) (sym same) reads) (shown_lends now (subst IsSession (sym same) is).sizes) in
        answered before q same now
        ∙ ap (λ (c : Catalog). create_refusal old c file bind) (sym on)
        ∙ ap (λ (t : Bool). told_by false t (is_none (entry_named (catalog_on page) file)) ((catalog_on page).next_unique == 2 ^ 64 - 1) (room_refusal old making_need)) untaken

    pub create_unplaced : (why : Refusal) → Err why ≡ new_object_in (catalog_on page) file → UpdatesLine a b old mid line (Ok (reply.No why))
    create_unplaced why refuses = line_refused line world only why is (λ before same now after.
        answered_on before (pick_of (held_view before) line after) same now
        ∙ placed_no (entry_named (catalog_on page) file) (catalog_on page) why (room_refusal old making_need) refuses)

    pub create_roomless : (made : NewObject) (why : Refusal) → Ok made ≡ new_object_in (catalog_on page) file → Some why ≡ room_refusal mid making_need → UpdatesLine a b old mid line (Ok (reply.No why))
    create_roomless made why placed_there refuses = line_refused line world only why is (λ before same now after.
        answered_on before (pick_of (held_view before) line after) same now
        ∙ (placed (entry_named (catalog_on page) file) (catalog_on page) made placed_there).passes (room_refusal old making_need)
        ∙ sym (room_back making_need (Some why) only refuses))

-- ---- a line that goes on

-- the name, where there is one, is free where the session was read
pub still_free : {a b : Outside} {old mid : SessionState} (bind : Option (List ℕ)) → OnlyFrames a b old mid → takes_if old bind ≡ false → takes_if mid bind ≡ false
still_free bind read untaken = ap (λ (s : SessionState). takes_if s bind) read.same ∙ untaken

module _ {a b c : Outside} {old mid new : SessionState} (file : List ℕ) (bind : Option (List ℕ)) (page : List ℕ) (made : NewObject) (world : IsWorld a) (is : IsSession old) (read : OnlyFrames a b old mid) (opened : old.opened ≡ true) (reads : ReadsCatalog a old page)
    (spelled : IsTrue (is_kept_name_if bind)) (untaken : takes_if old bind ≡ false) (placed_there : Ok made ≡ new_object_in (catalog_on page) file) (room : None ≡ room_refusal mid making_need) (went : WentOn b c mid new) where
  abbrev its_line : Request
  its_line = request.Create file bind

  at : PlacedIn (entry_named (catalog_on page) file) (catalog_on page) made
  at = placed (entry_named (catalog_on page) file) (catalog_on page) made placed_there

  module _ (before : View SessionState) (same : before.session ≡ old) (now : ShowsNow meant a before) (later : ShowsNow meant b (with_groups before mid)) where
    abbrev catalog : Catalog
    catalog = later.shows.working.catalog

    on : catalog_on page ≡ catalog
    on = on_after page is read reads before same now later

    gives : GivesRoom (with_groups before mid) catalog file bind
    gives = gives_room later file bind (counted_then read is) (opened_then read opened)

    asks : AsksFile later.shows.working file made.file_no made.unique
    asks =
        let there = find_in (has_name file) (catalog_on page).entries at.entry at.found in
        record {
          entry = at.entry;
          there = subst (λ (k : Catalog). Contains k.entries at.entry) on (contains_in at.entry (catalog_on page).entries there.0);
          name_is = (bytes_eq-Decides at.entry.name file).0 there.1;
          number = at.file_no;
          next = ap (λ (k : Catalog). k.next_unique) (sym on) ∙ at.unique;
        }

    accepted : (q : Pick) → refusal_of before.machine its_line q ≡ None
    accepted q =
        create_told (with_groups before mid) catalog file bind q gives
        ∙ ap (λ (k : Catalog). create_refusal mid k file bind) (sym on)
        ∙ ap (λ (t : Bool). told_by false t (is_none (entry_named (catalog_on page) file)) ((catalog_on page).next_unique == 2 ^ 64 - 1) (room_refusal mid making_need)) (still_free bind read untaken)
        ∙ at.passes (room_refusal mid making_need) ∙ sym room

    there_is : is_none (file_at (shown before.machine) file) ≡ false
    there_is = gives.absent ∙ ap (λ (k : Catalog). is_none (entry_named k file)) (sym on) ∙ ap (λ (o : Option FileEntry). is_none o) at.found

    makes : Makes before.machine its_line bind note_kind.ObjectMade (λ oid. reply.Create oid) (update.Makes file made.file_no made.unique)
    makes = record {
      accepted = accepted;
      reply = λ q. refl;
      table = λ q. refl;
      notes = λ q. refl;
      after = λ q. refl;
      asks = λ q vacant. vacant;
      charge = refl;
      pages = λ q. refl;
      segs = λ q. refl;
      takes = λ v free takes. takes;
      lies = λ old new oid small. small;
      last = λ oid. refl;
      vacant = λ oid number apart. create_vacant before.machine.geometry (shown before.machine) (shown_is before.machine now.shows.rules) oid number file there_is apart;
    }

    makes_in : MakesIn (with_groups before mid) later its_line bind note_kind.ObjectMade (λ oid. reply.Create oid) (made_update.Create made.file_no made.unique) made.unique
    makes_in = record {
      u = update.Makes file made.file_no made.unique;
      is = (file, refl);
      asks = asks;
      makes = makes;
      number = gives.next ∙ ap (λ (k : Catalog). k.next_unique) (sym on) ∙ at.unique;
    }

  -- the update failed
  pub create_stopped : (why : Stop) → LineStops b c why → IfUpdated b mid (made_update.Create made.file_no made.unique) (λ before u. HasRoomFor before u → IsOutside why) → UpdatesLine a c old new its_line (Err why)
  create_stopped why stops sound =
      update_stopped its_line world is read went why stops
      (λ before same now later. sound (with_groups before mid) refl later (update.Makes file made.file_no made.unique) (file, refl) (asks before same now later) tt)

  pub create_done : (oid : Oid) → MakesVersion b c mid new (made_update.Create made.file_no made.unique) note_kind.ObjectMade bind oid → UpdatesLine a c old new its_line (Ok (reply.Create oid))
  create_done oid done =
      line_made its_line bind note_kind.ObjectMade (λ oid. reply.Create oid) (made_update.Create made.file_no made.unique) made.unique world is opened read spelled (still_free bind read untaken) went oid done.named done
      (λ why told. absurd (cc)) makes_in
