-- How a line that copies a version is answered.
use Rattle.std.proofs.Common.{◌≡◌, ◌∙◌, ◌-◌, ◌^◌, ℕ, Bool, true, false, List, [], ◌∷◌, length, Option, Some, None, is_some, Result, Ok, Err, IsTrue, refl, sym, ap, subst, inl, inr}
use Rattle.std.specs.Prelude.{◌==◌, not}
use Rattle.std.specs.Option.{option_or}
use Rattle.std.proofs.lemmas.Bool.{not-false}
use Rattle.ex_base.specs.declared.names.Oid.{Oid}
use Rattle.ex_base.specs.declared.names.Area.TheVariants.{Page, Segment}
use Rattle.disk_model.specs.Outside.{Outside, IsWorld}
use Rattle.object_files.specs.Catalog.{Catalog}
use Rattle.object_files.specs.Reads.{catalog_on}
use Rattle.table_model.specs.declared.machine.Machine.{Machine}
use Rattle.table_model.specs.declared.machine.Pick.{Pick}
use Rattle.table_model.specs.declared.reply.Refusal.{Refusal}
use Rattle.table_model.specs.declared.reply.Refusal.TheVariants as refusal
use Rattle.table_model.specs.declared.reply.Reply.TheVariants as reply
use Rattle.table_model.specs.declared.table.Table.{Table}
use Rattle.table_model.specs.Machines.{is_taken_if, oid_of, shown, version_if, version_of}
use Rattle.table_model.specs.Needs.{free}
use Rattle.table_model.specs.Refusals.{current_if, frozen_if, refusal_of, when}
use Rattle.table_model.specs.Requests.{Reference, Request, is_kept_name_if}
use Rattle.table_model.specs.Steps.{new_oid}
use Rattle.table_model.specs.Tables.{IsTable, numbered, with_derived, with_frozen}
use Rattle.table_model.proofs.Keeping.{shown_is}
use Rattle.table_model.proofs.Stepping.{passes, unmet}
use Rattle.version_lists.specs.declared.version.Version.{Version}
use Rattle.session_views.specs.declared.stop.Stop.{Stop}
use Rattle.session_views.specs.View.{View, ShowsNow}
use Rattle.volume_model.specs.Volume.{is_frozen}
use Rattle.session_core.specs.declared.session.objects.Named.{Named}
use Rattle.session_core.specs.declared.updates.copying.Copying.{Copying}
use Rattle.session_core.specs.declared.updates.copying.Copying.TheVariants as copying
use Rattle.session_core.specs.declared.updates.ObjectUpdate.TheVariants as made
use Rattle.session_core.specs.Finding.{IfShown, IsMissing, IsNamed, IsOutside, LineStops, NamesVersion}
use Rattle.session_core.specs.Meant.{meant}
use Rattle.session_core.specs.Performed.{copies}
use Rattle.session_core.specs.Sessions.{IsSession, SessionState}
use Rattle.session_core.specs.Steps.{OnlyFrames}
use Rattle.volume_edits.specs.TableUpdates as update
use Rattle.session_core.specs.Updates.{HasRoomFor, IfUpdated}
use Rattle.session_core.proofs.Accepted.{ReadsCatalog, shown_on}
use Rattle.session_core.proofs.Quiet.{same_view, shown_lends, with_groups}
use Rattle.session_core.proofs.Refusing.{closed_refused, none_is_false}
use Rattle.volume_model.proofs.Showing.{shows_catalog}
use Rattle.transactions.specs.declared.copying.Original.{Original}
use Rattle.session_core.specs.Contents.{CopyShaped}
use Rattle.transactions.specs.Copies.{CanCopy, IsOriginal, MayCopy, copies_frozen, copy_kind, copy_refusal, copy_reply, copy_request, found_refusal, kind_refusal}
use Rattle.transactions.specs.Editing.{room_refusal}
use Rattle.transactions.specs.Lines.{Answered, UpdatesLine, WentOn}
use Rattle.transactions.specs.Making.{MakesVersion, making_need, number_in, takes_if}
use Rattle.transactions.specs.Scanning.{missing, unbound}
use Rattle.transactions.proofs.EditRefusals.{joined, opens, room_is, room_told, units_counted, update_counts}
use Rattle.transactions.proofs.Made.{IsNext, Makes, MakesIn, line_made, next_told, spent_told, taken_if_as}
use Rattle.transactions.proofs.Naming.{named_first, the_oid_named, the_version}
use Rattle.transactions.proofs.UpdateLines.{line_refused, update_stopped}
use Rattle.transactions.proofs.Vacancy.{derive_vacant, freeze_vacant}

-- ---- why it is refused

-- why the machine copies no such version
abbrev kind_told : Copying → Option Version → Option Refusal
kind_told copying.Freeze version = when (frozen_if version) refusal.Frozen
kind_told copying.Derive version = when (current_if version) refusal.Current

kind_is : (how : Copying) (version : Version) → kind_told how (Some version) ≡ kind_refusal how version.frozen
kind_is copying.Freeze version = refl
kind_is copying.Derive version = refl

copy_told : (m : Machine) (how : Copying) (x : Reference) (bind : Option (List ℕ)) (q : Pick) → is_some m.working ≡ true
    → refusal_of m (copy_request how x bind) q ≡ named_first (oid_of m x) (version_of m x) (is_taken_if m bind) (option_or (kind_told how (version_of m x))
    (option_or (when ((shown m).next_unique == 2 ^ 64 - 1) refusal.IdsSpent) (room_told 16 (length m.notes) m.touched 16 0 (free m Page) (free m Segment))))
unfolding named_first
copy_told m copying.Freeze x bind q opened = ap (λ (b : Bool). option_or (when b refusal.NoTxn) (named_first (oid_of m x) (version_of m x) (is_taken_if m bind) (option_or (kind_told copying.Freeze (version_of m x))
    (option_or (when ((shown m).next_unique == 2 ^ 64 - 1) refusal.IdsSpent) (room_told 16 (length m.notes) m.touched 16 0 (free m Page) (free m Segment)))))) (none_is_false m.working opened)
copy_told m copying.Derive x bind q opened = ap (λ (b : Bool). option_or (when b refusal.NoTxn) (named_first (oid_of m x) (version_of m x) (is_taken_if m bind) (option_or (kind_told copying.Derive (version_of m x))
    (option_or (when ((shown m).next_unique == 2 ^ 64 - 1) refusal.IdsSpent) (room_told 16 (length m.notes) m.touched 16 0 (free m Page) (free m Segment)))))) (none_is_false m.working opened)

shut : (a : Option Refusal) (why : Refusal) (rest : Option Refusal) → option_or a (Some why) ≡ option_or (option_or a (Some why)) rest
shut None why rest = refl
shut (Some told) why rest = refl

module _ {w : Outside} {before : View SessionState} (now : ShowsNow meant w before) (counted : before.session.units.geometry ≡ before.session.geometry) (is_open : before.session.opened ≡ true) (how : Copying) (x : Reference) (bind : Option (List ℕ)) where
  abbrev m : Machine
  m = before.machine

  abbrev s : SessionState
  s = before.session

  -- what is asked behind the tests of the version
  abbrev rest : Option Refusal
  rest = option_or (when ((shown m).next_unique == 2 ^ 64 - 1) refusal.IdsSpent) (room_refusal s making_need)

  missing_is : (why : Refusal) → IsMissing m x why → named_first (oid_of m x) (version_of m x) (takes_if s bind) (option_or (kind_told how (version_of m x)) rest) ≡ option_or (copy_refusal s (Err why) how bind) rest
  unfolding named_first
  missing_is why (inl (is, none)) =
      ap (λ (o : Option Oid). named_first o (version_of m x) (takes_if s bind) (option_or (kind_told how (version_of m x)) rest)) none
      ∙ ap (λ (y : Refusal). option_or (copy_refusal s (Err y) how bind) rest) (sym is)
  missing_is why (inr (is, (oid, named, none))) =
      ap (λ (o : Option Oid). named_first o (version_if (shown m) o) (takes_if s bind) (option_or (kind_told how (version_if (shown m) o)) rest)) named
      ∙ ap (λ (v : Option Version). named_first (Some oid) v (takes_if s bind) (option_or (kind_told how v) rest)) none
      ∙ shut (when (takes_if s bind) refusal.NameTaken) refusal.NoObject rest
      ∙ ap (λ (y : Refusal). option_or (copy_refusal s (Err y) how bind) rest) (sym is)

  named_is : (version : Named) → NamesVersion before x version → named_first (oid_of m x) (version_of m x) (takes_if s bind) (option_or (kind_told how (version_of m x)) rest) ≡ option_or (copy_refusal s (Ok version) how bind) rest
  unfolding named_first
  named_is version names =
      ap (λ (o : Option Oid). named_first o (version_of m x) (takes_if s bind) (option_or (kind_told how (version_of m x)) rest)) names.named_by
      ∙ ap (λ (v : Option Version). named_first (Some version.oid) v (takes_if s bind) (option_or (kind_told how v) rest)) (the_version m x version.oid names.told.version names.named_by names.told.is)
      ∙ ap (λ (o : Option Refusal). option_or (when (takes_if s bind) refusal.NameTaken) (option_or o rest)) (kind_is how names.told.version ∙ ap (kind_refusal how) (sym names.told.frozen))
      ∙ joined (when (takes_if s bind) refusal.NameTaken) (kind_refusal how (is_frozen version.found.head.state)) None rest

  -- The machine refuses the line as the session does.
  pub copies_as : (told : Result Named Refusal) (q : Pick) → IsNamed before x told → refusal_of m (copy_request how x bind) q ≡ option_or (copy_refusal s told how bind) rest
  copies_as told q names =
      copy_told m how x bind q (now.shows.shared.open_txn ∙ is_open)
      ∙ ap (λ (b : Bool). named_first (oid_of m x) (version_of m x) b (option_or (kind_told how (version_of m x))
      (option_or (when ((shown m).next_unique == 2 ^ 64 - 1) refusal.IdsSpent) (room_told 16 (length m.notes) m.touched 16 0 (free m Page) (free m Segment))))) (taken_if_as before now.shows bind)
      ∙ ap (λ (o : Option Refusal). named_first (oid_of m x) (version_of m x) (takes_if s bind) (option_or (kind_told how (version_of m x)) (option_or (when ((shown m).next_unique == 2 ^ 64 - 1) refusal.IdsSpent) o)))
      (room_is before making_need 16 16 0 (update_counts now.shows counted) refl refl refl)
      ∙ by told names
    where
      by : (r : Result Named Refusal) → IsNamed before x r → named_first (oid_of m x) (version_of m x) (takes_if s bind) (option_or (kind_told how (version_of m x)) rest) ≡ option_or (copy_refusal s r how bind) rest
      by (Ok version) has = named_is version has
      by (Err why) has = missing_is why has

-- ---- what was found

copied_kind : (how : Copying) (frozen : Bool) → None ≡ kind_refusal how frozen → frozen ≡ copies_frozen how
copied_kind copying.Freeze frozen none = unmet frozen refusal.Frozen none
copied_kind copying.Derive frozen none = not-false frozen (unmet (not frozen) refusal.Current none)

-- What is copied so may be, and the name, where there is one, is free.
record Copied (s : SessionState) (how : Copying) (bind : Option (List ℕ)) (version : Named) : Type 0 where
  untaken : takes_if s bind ≡ false
  kind : is_frozen version.found.head.state ≡ copies_frozen how

copied : (s : SessionState) (told : Result Named Refusal) (how : Copying) (bind : Option (List ℕ)) (version : Named) → MayCopy s told how bind version → Copied s how bind version
copied s told how bind version may =
    let none : copy_refusal s (Ok version) how bind ≡ None = subst (λ (t : Result Named Refusal). copy_refusal s t how bind ≡ None) may.found may.none in
    let all = passes (unbound (Ok version) ∷ when (takes_if s bind) refusal.NameTaken ∷ missing (Ok version) ∷ found_refusal how (Ok version) ∷ []) (sym none) in
    record { untaken = unmet _ _ all.1.0; kind = copied_kind how (is_frozen version.found.head.state) all.1.1.1.0 }

-- ---- it is admitted, or not

module _ {a b : Outside} {old mid : SessionState} (how : Copying) (x : Reference) (bind : Option (List ℕ)) (told : Result Named Refusal) (one : OnlyFrames a b old mid) (is : IsSession old) (is_open : old.opened ≡ true)
    (names : IfShown a old (λ before. IsNamed before x told)) where
  abbrev r : Request
  r = copy_request how x bind

  abbrev behind : View SessionState → Option Refusal
  behind before = option_or (when ((shown before.machine).next_unique == 2 ^ 64 - 1) refusal.IdsSpent) (room_refusal old making_need)

  -- what the machine answers, as the session tells it once it has read
  answered : (before : View SessionState) → before.session ≡ old → ShowsNow meant a before → (q : Pick) → refusal_of before.machine r q ≡ option_or (copy_refusal mid told how bind) (behind before)
  answered before same now q =
      copies_as now (units_counted is before same) (opens is_open before same) how x bind told q (names before same now)
      ∙ ap (λ (s : SessionState). option_or (copy_refusal s told how bind) (option_or (when ((shown before.machine).next_unique == 2 ^ 64 - 1) refusal.IdsSpent) (room_refusal s making_need))) same
      ∙ ap (λ (s : SessionState). option_or (copy_refusal s told how bind) (behind before)) (sym one.same)

  pub copy_unfound : (why : Refusal) → copy_refusal mid told how bind ≡ Some why → IfShown a old (λ before. Answered before.machine r (Some why))
  copy_unfound why refuses before same now q = answered before same now q ∙ ap (λ (o : Option Refusal). option_or o (behind before)) refuses

  module _ {c : Outside} {new : SessionState} (version : Named) (may : MayCopy mid told how bind version) (is_mid : IsSession mid) (two : OnlyFrames b c mid new) (page : List ℕ) (reads : ReadsCatalog b mid page) where
    -- the catalog that was read has the machine's next number
    next_is : (before : View SessionState) → before.session ≡ old → ShowsNow meant a before → (shown before.machine).next_unique ≡ (catalog_on page).next_unique
    next_is before same now =
        let later = same_view before same now one is.sizes in
        let on = shown_on later page reads (shown_lends later is_mid.sizes) in
        ap (λ (t : Table). t.next_unique) (shows_catalog later.shows).table ∙ sym (ap (λ (k : Catalog). k.next_unique) on)

    -- nothing but its number or its room refuses it
    passed : (before : View SessionState) → before.session ≡ old → ShowsNow meant a before → (q : Pick)
        → refusal_of before.machine r q ≡ option_or (when ((catalog_on page).next_unique == 2 ^ 64 - 1) refusal.IdsSpent) (room_refusal old making_need)
    passed before same now q =
        answered before same now q
        ∙ ap (λ (o : Option Refusal). option_or o (behind before)) may.none
        ∙ ap (λ (n : ℕ). option_or (when (n == 2 ^ 64 - 1) refusal.IdsSpent) (room_refusal old making_need)) (next_is before same now)

    pub copy_spent : (why : Refusal) → Err why ≡ number_in (catalog_on page) → IfShown a old (λ before. Answered before.machine r (Some why))
    copy_spent why spent before same now q = passed before same now q ∙ ap (λ (o : Option Refusal). option_or o (room_refusal old making_need)) (spent_told (catalog_on page).next_unique why spent)

    module _ (unique : ℕ) (given : Ok unique ≡ number_in (catalog_on page)) where
      next_here : IsNext (catalog_on page).next_unique unique
      next_here = next_told (catalog_on page).next_unique unique given

      -- the room of before
      room_here : room_refusal new making_need ≡ room_refusal old making_need
      room_here = ap (λ (s : SessionState). room_refusal s making_need) two.same ∙ ap (λ (s : SessionState). room_refusal s making_need) one.same

      full : (before : View SessionState) → before.session ≡ old → ShowsNow meant a before → (q : Pick) → refusal_of before.machine r q ≡ room_refusal new making_need
      full before same now q =
          passed before same now q
          ∙ ap (λ (b : Bool). option_or (when b refusal.IdsSpent) (room_refusal old making_need)) next_here.unspent
          ∙ sym room_here

      pub copy_full : (why : Refusal) → Some why ≡ room_refusal new making_need → IfShown a old (λ before. Answered before.machine r (Some why))
      copy_full why refuses before same now q = full before same now q ∙ sym refuses

      pub copy_admitted : None ≡ room_refusal new making_need → IfShown a old (λ before. IsOriginal before.machine how x bind (record { oid = version.oid; unique = unique }))
      copy_admitted room before same now =
          let own : NamesVersion before x version = subst (λ (t : Result Named Refusal). IsNamed before x t) may.found (names before same now) in
          let t = own.told in
          record {
            accepted = λ q. full before same now q ∙ sym room;
            own = the_oid_named before x version own;
            version = t.version;
            is = t.is;
            named = t.named;
            flag = sym t.frozen ∙ (copied mid told how bind version may).kind;
            next = next_is before same now ∙ next_here.same;
          }

-- ---- what it makes

copy_makes : (m : Machine) → IsTable m.geometry (shown m) → (how : Copying) (x : Reference) (bind : Option (List ℕ)) (given : Original) → IsOriginal m how x bind given
    → Makes m (copy_request how x bind) bind (copy_kind how) (copy_reply how) (copies how given.oid given.unique)
copy_makes m table copying.Freeze x bind given is = record {
  accepted = is.accepted;
  reply = λ q. refl;
  table = λ q. ap (λ (o : Oid). numbered (with_frozen o (new_oid m q) (shown m))) is.own;
  notes = λ q. refl;
  after = λ q. refl;
  asks = λ q vacant. vacant;
  charge = refl;
  pages = λ q. refl;
  segs = λ q. refl;
  takes = λ v free takes. takes;
  lies = λ old new oid copy. subst (λ (o : Oid). CopyShaped old new o oid) (sym is.own) copy;
  last = λ oid. refl;
  vacant = λ oid number apart. freeze_vacant m.geometry (shown m) table oid number given.oid is.version is.is is.named is.flag apart;
}
copy_makes m table copying.Derive x bind given is = record {
  accepted = is.accepted;
  reply = λ q. refl;
  table = λ q. ap (λ (o : Oid). numbered (with_derived o (new_oid m q) (shown m))) is.own;
  notes = λ q. refl;
  after = λ q. refl;
  asks = λ q vacant. vacant;
  charge = refl;
  pages = λ q. refl;
  segs = λ q. refl;
  takes = λ v free takes. takes;
  lies = λ old new oid copy. subst (λ (o : Oid). CopyShaped old new o oid) (sym is.own) copy;
  last = λ oid. refl;
  vacant = λ oid number apart. derive_vacant m.geometry (shown m) table oid number given.oid is.version is.is is.named is.flag apart;
}

copy_asks : (how : Copying) (given : Original) {w : Outside} {v : View SessionState} (now : ShowsNow meant w v) (x : Reference) (bind : Option (List ℕ)) → IsOriginal v.machine how x bind given
    → update.Asks (copies how given.oid given.unique) now.shows.working (shown v.machine)
copy_asks copying.Freeze given now x bind is = record { version = is.version; is = is.is; flag = is.flag; next = sym (ap (λ (t : Table). t.next_unique) (shows_catalog now.shows).table) ∙ is.next }
copy_asks copying.Derive given now x bind is = record { version = is.version; is = is.is; flag = is.flag; next = sym (ap (λ (t : Table). t.next_unique) (shows_catalog now.shows).table) ∙ is.next }

copy_in : (how : Copying) (given : Original) {w : Outside} {v : View SessionState} (now : ShowsNow meant w v) (x : Reference) (bind : Option (List ℕ)) → IsOriginal v.machine how x bind given
    → MakesIn v now (copy_request how x bind) bind (copy_kind how) (copy_reply how) (made.Copy how given.oid given.unique) given.unique
copy_in how given {w} {v} now x bind is = record {
  u = copies how given.oid given.unique;
  is = refl;
  asks = copy_asks how given now x bind is;
  makes = copy_makes v.machine (shown_is v.machine now.shows.rules) how x bind given is;
  number = is.next;
}

copy_never : (how : Copying) (oid : Oid) (why : Refusal) → copy_reply how oid ≡ reply.No why → ⊥
copy_never copying.Freeze oid why told = absurd (cc)
copy_never copying.Derive oid why told = absurd (cc)

copy_roomy : (how : Copying) (given : Original) (v : View SessionState) → HasRoomFor v (copies how given.oid given.unique)
copy_roomy copying.Freeze given v = tt
copy_roomy copying.Derive given v = tt

-- ---- the ways of the line

-- no transaction is open
pub copy_closed : (how : Copying) (x : Reference) (bind : Option (List ℕ)) (m : Machine) (q : Pick) → is_some m.working ≡ false → refusal_of m (copy_request how x bind) q ≡ Some refusal.NoTxn
copy_closed copying.Freeze x bind m q closed = closed_refused m _ closed
copy_closed copying.Derive x bind m q closed = closed_refused m _ closed

module _ {a b : Outside} {old mid : SessionState} (how : Copying) (x : Reference) (bind : Option (List ℕ)) (world : IsWorld a) (is : IsSession old) (is_open : old.opened ≡ true) (read : OnlyFrames a b old mid) where
  abbrev line : Request
  line = copy_request how x bind

  pub copy_refused : (why : Refusal) → IfShown a old (λ before. Answered before.machine line (Some why)) → UpdatesLine a b old mid line (Ok (reply.No why))
  copy_refused why refuses = line_refused line world read why is (λ before same now after. refuses before same now _)

  module _ (given : Original) (original : IfShown a old (λ before. IsOriginal before.machine how x bind given)) {c : Outside} {new : SessionState} (went : WentOn b c mid new) where
    pub copy_done : IsTrue (is_kept_name_if bind) → CanCopy old bind given → (oid : Oid) → MakesVersion b c mid new (made.Copy how given.oid given.unique) (copy_kind how) bind oid → UpdatesLine a c old new line (Ok (copy_reply how oid))
    copy_done spelled can oid done =
        line_made line bind (copy_kind how) (copy_reply how) (made.Copy how given.oid given.unique) given.unique world is is_open read spelled (ap (λ (s : SessionState). takes_if s bind) read.same ∙ can.untaken) went oid done.named done
        (copy_never how oid) (λ before same now later. copy_in how given later x bind (original before same now))

    pub copy_stopped : (why : Stop) → LineStops b c why → IfUpdated b mid (made.Copy how given.oid given.unique) (λ before u. HasRoomFor before u → IsOutside why) → UpdatesLine a c old new line (Err why)
    copy_stopped why stops sound =
        update_stopped line world is read went why stops (λ before same now later.
        sound (with_groups before mid) refl later (copies how given.oid given.unique) refl (copy_asks how given later x bind (original before same now)) (copy_roomy how given (with_groups before mid)))

-- what the update takes for granted, in the session that was read
pub can_make : {a b : Outside} {old mid : SessionState} (bind : Option (List ℕ)) (given : Original) → OnlyFrames a b old mid → CanCopy old bind given → room_refusal mid making_need ≡ None
can_make bind given read can = ap (λ (s : SessionState). room_refusal s making_need) read.same ∙ can.room
