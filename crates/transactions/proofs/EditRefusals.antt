-- Why a line that edits a version is refused: the session tells it as the machine does.
use Rattle.std.proofs.Common.{◌≡◌, ◌∙◌, ◌+◌, ◌-◌, ◌≤◌, ℕ, Bool, true, false, List, ◌∷◌, length, Option, Some, None, is_some, Result, Ok, refl, sym, ap, subst, arith}
use Rattle.std.specs.Prelude.{IfOk, nat_lt, nat_le, ◌==◌, ◌||◌, if◌then◌else◌}
use Rattle.std.specs.Option.{option_or}
use Rattle.ex_base.specs.declared.geometry.Geometry.{Geometry}
use Rattle.ex_base.specs.declared.names.Area.{Area}
use Rattle.ex_base.specs.declared.names.Area.TheVariants.{Page, Segment}
use Rattle.ex_base.specs.declared.names.Oid.{Oid}
use Rattle.ex_base.specs.Sizes.{object_most}
use Rattle.page_alloc.specs.UnitSet.{free_count, used_at}
use Rattle.table_model.specs.declared.machine.Machine.{Machine}
use Rattle.table_model.specs.declared.machine.Pick.{Pick}
use Rattle.table_model.specs.declared.reply.Refusal.{Refusal}
use Rattle.table_model.specs.declared.reply.Refusal.TheVariants as refusal
use Rattle.table_model.specs.Machines.{size_of, the_oid, updates_most, touched_most, version_of}
use Rattle.table_model.specs.Needs.{free, need}
use Rattle.table_model.specs.Refusals.{first, when, frozen_if, no_txn, no_name, no_object, frozen, range, too_large, limits, refusal_of}
use Rattle.table_model.specs.Requests.{Data, given_bytes, Request, Reference}
use Rattle.table_model.specs.Requests as request
use Rattle.disk_model.specs.Outside.{Outside}
use Rattle.session_views.specs.View.{View, ShowsNow}
use Rattle.volume_model.specs.Volume.{is_frozen}
use Rattle.versions.specs.Versions.{Change, Inserts, Appends, Replaces, Deletes, count_of}
use Rattle.versions.specs.Needs.{most_need}
use Rattle.versions.specs.declared.finding.Found.{Found}
use Rattle.volume_model.specs.Shown.{Held, Shows}
use Rattle.session_core.specs.declared.session.objects.Named.{Named}
use Rattle.transactions.specs.declared.edits.Need.{Need}
use Rattle.session_core.specs.Sessions.{SessionState, IsSession}
use Rattle.session_core.specs.Meant.{held_view, meant, pick_of, oid_asked, size_asked, fits_small, slots_at, content_at, height_of}
use Rattle.session_core.specs.Counts.{free_in}
use Rattle.session_core.specs.Finding.{IfLive, IfShown, IsOutside, NamesVersion, IsMissing}
use Rattle.session_core.specs.Steps.{OnlyFrames}
use Rattle.session_views.specs.declared.stop.Stop.{Stop}
use Rattle.session_core.proofs.Quiet.{same_view, with_groups}
use Rattle.transactions.specs.Editing.{AsksFor, IsAdmitted, IsAnswered, is_outside, bytes_refusal, room_refusal, edit_need, edit_refusal}
use Rattle.session_core.specs.Needs.{fits_beside, size_after, root_height}
use Rattle.transactions.proofs.Naming.{names_pass, refuses_missing, the_oid_named, the_size_named, the_version}
use Rattle.session_core.proofs.Picking.{pick_small, pick_height}
use Rattle.session_core.proofs.Refusing.{free_left, none_is_false}
use Rattle.volume_model.proofs.Showing.{session_geometry}

-- ---- the counts

-- what an update asks of the machine, as the session has it
pub record UpdateCounts (v : View SessionState) : Type 0 where
  pub geometry : v.machine.geometry ≡ v.session.geometry
  pub notes : length v.machine.notes ≡ length v.session.notes
  pub touched : v.machine.touched ≡ length v.session.meta.working
  pub pages : free v.machine Page ≡ free_in v.session Page
  pub segs : free v.machine Segment ≡ free_in v.session Segment

pub update_counts : {may_leave : List ℕ → Type 0} {v : View SessionState} (shows : Shows may_leave (held_view v)) → v.session.units.geometry ≡ v.session.geometry → UpdateCounts v
update_counts {may_leave} {v} shows same =
    let g = shows.decoded.geometry in
    let units_is : v.session.units.geometry ≡ g = same ∙ session_geometry shows in
    let of : (area : Area) → free_in v.session area ≡ free_count g (used_at v.session.units) area = λ area. ap (λ (g : Geometry). free_count g (used_at v.session.units) area) units_is in
    record {
      geometry = shows.shared.geometry;
      notes = ap (λ l. length l) shows.shared.notes;
      touched = shows.used.touched;
      pages = omega (arith, free_left g (used_at v.session.units) Page, shows.used.pages, ap (λ (g : Geometry). g.pages) shows.geometry, of Page);
      segs = omega (arith, free_left g (used_at v.session.units) Segment, shows.used.segs, ap (λ (g : Geometry). g.segs) shows.geometry, of Segment);
    }

-- ---- the room

abbrev pub units_told : Geometry → Change → Bool → ℕ → Area → ℕ
units_told g change small height area = if count_of change == 0 || small then 0 else most_need g change height area

pub same_units : {g h : Geometry} {small fits : Bool} {height tall : ℕ} (change : Change) (area : Area) → g ≡ h → small ≡ fits → height ≡ tall → units_told g change small height area ≡ units_told h change fits tall area
same_units change area one two three = cc (one, two, three)

-- what an update that may touch so many pages is told, from the updates, the touched pages, the units that it may take and those that are free
abbrev pub room_told : ℕ → ℕ → ℕ → ℕ → ℕ → ℕ → ℕ → Option Refusal
room_told charge updates touched pages segs free_pages free_segs =
    option_or (when (nat_le updates_most updates || nat_lt touched_most (touched + charge)) (refusal.LongTxn updates touched))
    (option_or (option_or (when (nat_lt free_pages pages) (refusal.Full Page pages free_pages)) (option_or (when (nat_lt free_segs segs) (refusal.Full Segment segs free_segs)) None)) None)

same_room : {a b c d e f g a' b' c' d' e' f' g' : ℕ} → a ≡ a' → b ≡ b' → c ≡ c' → d ≡ d' → e ≡ e' → f ≡ f' → g ≡ g' → room_told a b c d e f g ≡ room_told a' b' c' d' e' f' g'
same_room one two three four five six seven = cc (one, two, three, four, five, six, seven)

flat : (a b : Option Refusal) → option_or (option_or a (option_or b None)) None ≡ option_or a (option_or b None)
flat None None = refl
flat None (Some why) = refl
flat (Some why) b = refl

pub room_is : (v : View SessionState) (n : Need) (charge pages segs : ℕ) → UpdateCounts v → charge ≡ n.charge → pages ≡ n.pages → segs ≡ n.segs
    → room_told charge (length v.machine.notes) v.machine.touched pages segs (free v.machine Page) (free v.machine Segment) ≡ room_refusal v.session n
room_is v n charge pages segs counts one p s =
    same_room one counts.notes counts.touched p s counts.pages counts.segs
    ∙ ap (λ (o : Option Refusal). option_or (when (nat_le updates_most (length v.session.notes) || nat_lt touched_most (length v.session.meta.working + n.charge)) (refusal.LongTxn (length v.session.notes) (length v.session.meta.working))) o)
    (flat (when (nat_lt (free_in v.session Page) n.pages) (refusal.Full Page n.pages (free_in v.session Page))) (when (nat_lt (free_in v.session Segment) n.segs) (refusal.Full Segment n.segs (free_in v.session Segment))))

-- ---- the bytes

abbrev tests_told : Bool → Bool → Bool → Option Refusal → Option Refusal
tests_told solid outside large rest = option_or (when solid refusal.Frozen) (option_or (when outside refusal.Range) (option_or (when large refusal.TooLarge) rest))

pub joined : (a b c rest : Option Refusal) → option_or a (option_or b (option_or c rest)) ≡ option_or (option_or a (option_or b (option_or c None))) rest
joined None None None rest = refl
joined None None (Some why) rest = refl
joined None (Some why) c rest = refl
joined (Some why) b c rest = refl

same_tests : {solid outside large solid' outside' large' : Bool} → solid ≡ solid' → outside ≡ outside' → large ≡ large' → tests_told solid outside large None ≡ tests_told solid' outside' large' None
same_tests one two three = cc (one, two, three)

bytes_told : (found : Found) (change : Change) (solid outside large : Bool) (rest : Option Refusal) → solid ≡ is_frozen found.head.state → outside ≡ is_outside change found.size → large ≡ nat_lt object_most (size_after change found.size)
    → tests_told solid outside large rest ≡ option_or (bytes_refusal found change) rest
bytes_told found change solid outside large rest thaw out big =
    joined (when solid refusal.Frozen) (when outside refusal.Range) (when large refusal.TooLarge) rest
    ∙ ap (λ (o : Option Refusal). option_or o rest) (same_tests thaw out big)

within : (size most : ℕ) → size ≤ most → false ≡ nat_lt most size
within size most h = grind arith

-- ---- a line

-- a version that is named passes the first tests of a line that changes it
pub names_live : (v : View SessionState) (x : Reference) (version : Named) → is_some v.machine.working ≡ true → NamesVersion v x version → (rest : List (Option Refusal))
    → option_or (no_txn v.machine) (first (no_name v.machine x ∷ no_object v.machine x ∷ rest)) ≡ first rest
names_live v x version opened names rest =
    let m = v.machine in
    ap (λ (b : Bool). option_or (when b refusal.NoTxn) (first (no_name m x ∷ no_object m x ∷ rest))) (none_is_false m.working opened)
    ∙ names_pass m x version.oid names.told.version rest names.named_by names.told.is

-- whether it is frozen, as the session has found
pub names_frozen : (v : View SessionState) (x : Reference) (version : Named) → NamesVersion v x version → frozen_if (version_of v.machine x) ≡ is_frozen version.found.head.state
names_frozen v x version names = ap frozen_if (the_version v.machine x version.oid names.told.version names.named_by names.told.is) ∙ sym names.told.frozen

module _ (v : View SessionState) (x : Reference) (version : Named) (counts : UpdateCounts v) (opened : is_some v.machine.working ≡ true) (names : NamesVersion v x version) (limit : version.found.size ≤ object_most)
    (small : Bool) (q : Pick) (fits : q.small ≡ small) (height : q.height ≡ root_height version.found.root) where
  abbrev m : Machine
  m = v.machine

  size : size_of m x ≡ version.found.size
  size = the_size_named v x version names

  passes : (rest : List (Option Refusal)) → option_or (no_txn m) (first (no_name m x ∷ no_object m x ∷ rest)) ≡ first rest
  passes = names_live v x version opened names

  room_for : (change : Change) → room_told 1 (length m.notes) m.touched (units_told m.geometry change q.small q.height Page) (units_told m.geometry change q.small q.height Segment) (free m Page) (free m Segment)
      ≡ room_refusal v.session (edit_need v.session.geometry version.found change small)
  room_for change = room_is v (edit_need v.session.geometry version.found change small) 1 _ _ counts refl (same_units change Page counts.geometry fits height) (same_units change Segment counts.geometry fits height)

  told_for : (change : Change) (outside large : Bool) → outside ≡ is_outside change version.found.size → large ≡ nat_lt object_most (size_after change version.found.size)
      → tests_told (frozen_if (version_of m x)) outside large (room_told 1 (length m.notes) m.touched (units_told m.geometry change q.small q.height Page) (units_told m.geometry change q.small q.height Segment) (free m Page) (free m Segment))
      ≡ edit_refusal v.session version.found change small
  told_for change outside large out big =
      ap (λ (o : Option Refusal). tests_told (frozen_if (version_of m x)) outside large o) (room_for change)
      ∙ bytes_told version.found change (frozen_if (version_of m x)) outside large (room_refusal v.session (edit_need v.session.geometry version.found change small)) (names_frozen v x version names) out big

  insert_told : (pos : ℕ) (given : Data) → refusal_of m (request.Insert x pos given) q ≡ edit_refusal v.session version.found (Inserts pos (given_bytes given)) small
  insert_told pos given =
      passes (frozen m x ∷ range m x pos ∷ too_large m x (length (given_bytes given)) ∷ limits m (request.Insert x pos given) q) ∙ told_for (Inserts pos (given_bytes given)) (nat_lt (size_of m x) pos) (nat_lt object_most (size_of m x + length (given_bytes given)))
      (ap (λ (n : ℕ). nat_lt n pos) size) (ap (λ (n : ℕ). nat_lt object_most (n + length (given_bytes given))) size)

  append_told : (given : Data) → refusal_of m (request.Append x given) q ≡ edit_refusal v.session version.found (Appends (given_bytes given)) small
  append_told given =
      passes (frozen m x ∷ too_large m x (length (given_bytes given)) ∷ limits m (request.Append x given) q) ∙ told_for (Appends (given_bytes given)) false (nat_lt object_most (size_of m x + length (given_bytes given)))
      refl (ap (λ (n : ℕ). nat_lt object_most (n + length (given_bytes given))) size)

  replace_told : (pos : ℕ) (given : Data) → refusal_of m (request.Replace x pos given) q ≡ edit_refusal v.session version.found (Replaces pos (given_bytes given)) small
  replace_told pos given =
      passes (frozen m x ∷ range m x (pos + length (given_bytes given)) ∷ limits m (request.Replace x pos given) q) ∙ told_for (Replaces pos (given_bytes given)) (nat_lt (size_of m x) (pos + length (given_bytes given))) false
      (ap (λ (n : ℕ). nat_lt n (pos + length (given_bytes given))) size) (within version.found.size object_most limit)

  delete_told : (pos len : ℕ) → refusal_of m (request.Delete x pos len) q ≡ edit_refusal v.session version.found (Deletes pos len) small
  delete_told pos len =
      passes (frozen m x ∷ range m x (pos + len) ∷ limits m (request.Delete x pos len) q) ∙ told_for (Deletes pos len) (nat_lt (size_of m x) (pos + len)) false
      (ap (λ (n : ℕ). nat_lt n (pos + len)) size) (within (version.found.size - len) object_most (omega (arith, limit)))

-- ---- as a session that shows tells it

module _ {w : Outside} {before : View SessionState} (now : ShowsNow meant w before) (counted : before.session.units.geometry ≡ before.session.geometry) (is_open : before.session.opened ≡ true) (x : Reference) where
  abbrev has_work : is_some before.machine.working ≡ true
  has_work = now.shows.shared.open_txn ∙ is_open

  here : UpdateCounts before
  here = update_counts now.shows counted

  pub misses : (why : Refusal) (rest : List (Option Refusal)) → IsMissing before.machine x why → option_or (no_txn before.machine) (first (no_name before.machine x ∷ no_object before.machine x ∷ rest)) ≡ Some why
  misses why rest missing =
      ap (λ (b : Bool). option_or (when b refusal.NoTxn) (first (no_name before.machine x ∷ no_object before.machine x ∷ rest))) (none_is_false before.machine.working has_work)
      ∙ refuses_missing before.machine x why rest missing

  -- the line names no version
  pub missing_answered : (change : Change) (why : Refusal) → IsMissing before.machine x why → IsAnswered before x change (Some why)
  missing_answered change why missing (request.Insert y pos given) after asks = ap (λ (z : Reference). refusal_of before.machine (request.Insert z pos given) (pick_of (held_view before) (request.Insert y pos given) after)) asks.0 ∙ misses why (frozen before.machine x ∷ range before.machine x pos ∷ too_large before.machine x (length (given_bytes given)) ∷ limits before.machine (request.Insert x pos given) (pick_of (held_view before) (request.Insert y pos given) after)) missing
  missing_answered change why missing (request.Append y given) after asks = ap (λ (z : Reference). refusal_of before.machine (request.Append z given) (pick_of (held_view before) (request.Append y given) after)) asks.0 ∙ misses why (frozen before.machine x ∷ too_large before.machine x (length (given_bytes given)) ∷ limits before.machine (request.Append x given) (pick_of (held_view before) (request.Append y given) after)) missing
  missing_answered change why missing (request.Replace y pos given) after asks = ap (λ (z : Reference). refusal_of before.machine (request.Replace z pos given) (pick_of (held_view before) (request.Replace y pos given) after)) asks.0 ∙ misses why (frozen before.machine x ∷ range before.machine x (pos + length (given_bytes given)) ∷ limits before.machine (request.Replace x pos given) (pick_of (held_view before) (request.Replace y pos given) after)) missing
  missing_answered change why missing (request.Delete y pos len) after asks = ap (λ (z : Reference). refusal_of before.machine (request.Delete z pos len) (pick_of (held_view before) (request.Delete y pos len) after)) asks.0 ∙ misses why (frozen before.machine x ∷ range before.machine x (pos + len) ∷ limits before.machine (request.Delete x pos len) (pick_of (held_view before) (request.Delete y pos len) after)) missing
  missing_answered change why missing r after asks = absurd asks

  module _ (version : Named) (names : NamesVersion before x version) (limit : version.found.size ≤ object_most) (change : Change) where
    the_oid_is : the_oid before.machine x ≡ version.oid
    the_oid_is = the_oid_named before x version names

    the_size : size_of before.machine x ≡ version.found.size
    the_size = the_size_named before x version names

    record IsAskedOf (r : Request) : Type 0 where
      oid : oid_asked (held_view before) r ≡ version.oid
      size : size_asked (held_view before) r ≡ size_after change version.found.size

    asked : (r : Request) → AsksFor r x change → IsAskedOf r
    asked (request.Insert y pos given) asks = record {
      oid = ap (λ (z : Reference). the_oid before.machine z) asks.0 ∙ the_oid_is;
      size = ap (λ (z : Reference). size_of before.machine z + length (given_bytes given)) asks.0 ∙ ap (λ (n : ℕ). n + length (given_bytes given)) the_size ∙ ap (λ (c : Change). size_after c version.found.size) (sym asks.1);
    }
    asked (request.Append y given) asks = record {
      oid = ap (λ (z : Reference). the_oid before.machine z) asks.0 ∙ the_oid_is;
      size = ap (λ (z : Reference). size_of before.machine z + length (given_bytes given)) asks.0 ∙ ap (λ (n : ℕ). n + length (given_bytes given)) the_size ∙ ap (λ (c : Change). size_after c version.found.size) (sym asks.1);
    }
    asked (request.Replace y pos given) asks = record {
      oid = ap (λ (z : Reference). the_oid before.machine z) asks.0 ∙ the_oid_is;
      size = ap (λ (z : Reference). size_of before.machine z) asks.0 ∙ the_size ∙ ap (λ (c : Change). size_after c version.found.size) (sym asks.1);
    }
    asked (request.Delete y pos len) asks = record {
      oid = ap (λ (z : Reference). the_oid before.machine z) asks.0 ∙ the_oid_is;
      size = ap (λ (z : Reference). size_of before.machine z - len) asks.0 ∙ ap (λ (n : ℕ). n - len) the_size ∙ ap (λ (c : Change). size_after c version.found.size) (sym asks.1);
    }
    asked r asks = absurd asks

    abbrev fits_now : Oid → ℕ → Bool
    fits_now oid n = fits_small before.session.geometry.page_size (slots_at (held_view before) oid) n (content_at (held_view before) oid)

    module _ (small : Bool) (is : small ≡ fits_beside before version (size_after change version.found.size)) (after : View Held) where
      pub pick_fits : (r : Request) → AsksFor r x change → (pick_of (held_view before) r after).small ≡ small
      pick_fits r asks =
          let at = asked r asks in
          ap (λ (oid : Oid). fits_now oid (size_asked (held_view before) r)) at.oid ∙ ap (λ (n : ℕ). fits_now version.oid n) at.size
          ∙ sym (pick_small before version (size_after change version.found.size) names.told) ∙ sym is

      pub pick_tall : (r : Request) → AsksFor r x change → (pick_of (held_view before) r after).height ≡ root_height version.found.root
      pick_tall r asks = ap (λ (oid : Oid). height_of (content_at (held_view before) oid)) (asked r asks).oid ∙ sym (pick_height before version names.told)

      -- what the session tells of the line is what the machine does
      pub edit_answered : (r : Request) → AsksFor r x change → refusal_of before.machine r (pick_of (held_view before) r after) ≡ edit_refusal before.session version.found change small
      edit_answered (request.Insert y pos given) asks =
          let r = request.Insert y pos given in
          let q = pick_of (held_view before) r after in
          ap (λ (z : Reference). refusal_of before.machine (request.Insert z pos given) q) asks.0
          ∙ insert_told before x version here has_work names limit small q (pick_fits r asks) (pick_tall r asks) pos given ∙ ap (λ (c : Change). edit_refusal before.session version.found c small) (sym asks.1)
      edit_answered (request.Append y given) asks =
          let r = request.Append y given in
          let q = pick_of (held_view before) r after in
          ap (λ (z : Reference). refusal_of before.machine (request.Append z given) q) asks.0
          ∙ append_told before x version here has_work names limit small q (pick_fits r asks) (pick_tall r asks) given ∙ ap (λ (c : Change). edit_refusal before.session version.found c small) (sym asks.1)
      edit_answered (request.Replace y pos given) asks =
          let r = request.Replace y pos given in
          let q = pick_of (held_view before) r after in
          ap (λ (z : Reference). refusal_of before.machine (request.Replace z pos given) q) asks.0
          ∙ replace_told before x version here has_work names limit small q (pick_fits r asks) (pick_tall r asks) pos given ∙ ap (λ (c : Change). edit_refusal before.session version.found c small) (sym asks.1)
      edit_answered (request.Delete y pos len) asks =
          let r = request.Delete y pos len in
          let q = pick_of (held_view before) r after in
          ap (λ (z : Reference). refusal_of before.machine (request.Delete z pos len) q) asks.0
          ∙ delete_told before x version here has_work names limit small q (pick_fits r asks) (pick_tall r asks) pos len ∙ ap (λ (c : Change). edit_refusal before.session version.found c small) (sym asks.1)
      edit_answered r asks = absurd asks

-- ---- the ways to admit a line

pub units_counted : {old : SessionState} → IsSession old → (before : View SessionState) → before.session ≡ old → before.session.units.geometry ≡ before.session.geometry
units_counted session before same = subst (λ (s : SessionState). s.units.geometry ≡ s.geometry) (sym same) session.units.geometry

pub opens : {old : SessionState} → old.opened ≡ true → (before : View SessionState) → before.session ≡ old → before.session.opened ≡ true
opens is_open before same = ap (λ (s : SessionState). s.opened) same ∙ is_open

module _ {w : Outside} {old : SessionState} (session : IsSession old) (is_open : old.opened ≡ true) (x : Reference) (change : Change) where
  pub refuses_missed : (why : Refusal) → IfShown w old (λ before. IsMissing before.machine x why) → IfShown w old (λ before. IsAnswered before x change (Some why))
  refuses_missed why missing before same now = missing_answered now (units_counted session before same) (opens is_open before same) x change why (missing before same now)

  module _ (version : Named) (names : IfShown w old (λ before. NamesVersion before x version)) (limit : version.found.size ≤ object_most) where
    shut : (s : SessionState) (small : Bool) (why : Refusal) → Some why ≡ bytes_refusal version.found change → edit_refusal s version.found change small ≡ Some why
    shut s small why is = ap (λ (o : Option Refusal). option_or o (room_refusal s (edit_need s.geometry version.found change small))) (sym is)

    pub refuses_range : (why : Refusal) → Some why ≡ bytes_refusal version.found change → IfShown w old (λ before. IsAnswered before x change (Some why))
    refuses_range why is before same now r after asks =
        let small = fits_beside before version (size_after change version.found.size) in
        edit_answered now (units_counted session before same) (opens is_open before same) x version (names before same now) limit change small refl after r asks ∙ shut before.session small why is

    module _ (small : Bool) (fits : IfShown w old (λ before. small ≡ fits_beside before version (size_after change version.found.size))) (passes : None ≡ bytes_refusal version.found change) where
      pub answers_room : (room : Option Refusal) → room ≡ room_refusal old (edit_need old.geometry version.found change small) → IfShown w old (λ before. IsAnswered before x change room)
      answers_room room is before same now r after asks =
          edit_answered now (units_counted session before same) (opens is_open before same) x version (names before same now) limit change small (fits before same now) after r asks
          ∙ ap (λ (o : Option Refusal). option_or o (room_refusal before.session (edit_need before.session.geometry version.found change small))) (sym passes)
          ∙ ap (λ (s : SessionState). room_refusal s (edit_need s.geometry version.found change small)) same ∙ sym is

      pub admits : (need : Need) → need ≡ edit_need old.geometry version.found change small → None ≡ room_refusal old need → IfShown w old (λ before. IsAdmitted before x change (record { version = version; need = need }))
      admits need is room before same now = record {
        named = names before same now;
        accepted = answers_room None (room ∙ ap (λ (n : Need). room_refusal old n) is) before same now;
        need = is ∙ ap (λ (s : SessionState). edit_need s.geometry version.found change small) (sym same) ∙ ap (λ (b : Bool). edit_need before.session.geometry version.found change b) (fits before same now);
      }

-- ---- after the version was named

-- room and geometry are as they were
pub room_then : {a b : Outside} {old mid : SessionState} (found : Found) (change : Change) (small : Bool) (n : Need) (room : Option Refusal) → OnlyFrames a b old mid → n ≡ edit_need mid.geometry found change small → room ≡ room_refusal mid n
    → room ≡ room_refusal old (edit_need old.geometry found change small)
room_then {a} {b} {old} {mid} found change small n room only needs is =
    is ∙ ap (λ (s : SessionState). room_refusal s n) only.same ∙ ap (λ (m : Need). room_refusal old m) needs
    ∙ ap (λ (s : SessionState). room_refusal old (edit_need s.geometry found change small)) only.same

pub need_then : {a b : Outside} {old mid : SessionState} (found : Found) (change : Change) (small : Bool) (n : Need) → OnlyFrames a b old mid → n ≡ edit_need mid.geometry found change small → n ≡ edit_need old.geometry found change small
need_then {a} {b} {old} {mid} found change small n only needs = needs ∙ ap (λ (s : SessionState). edit_need s.geometry found change small) only.same

pub room_back : {a b : Outside} {old mid : SessionState} (n : Need) (room : Option Refusal) → OnlyFrames a b old mid → room ≡ room_refusal mid n → room ≡ room_refusal old n
room_back {a} {b} {old} {mid} n room only is = is ∙ ap (λ (s : SessionState). room_refusal s n) only.same

pub later_fits : {a b : Outside} {old mid : SessionState} (version : Named) (n : ℕ) (small : Bool) → OnlyFrames a b old mid → IsSession old → IfShown b mid (λ before. small ≡ fits_beside before version n) → IfShown a old (λ before. small ≡ fits_beside before version n)
later_fits {a} {b} {old} {mid} version n small only is fits before same now =
    let sessions : mid ≡ record before.session { groups = mid.groups } = only.same ∙ ap (λ (s : SessionState). record s { groups = mid.groups }) (sym same) in
    fits (with_groups before mid) refl (same_view before same now only is.sizes)
    ∙ ap (λ (s : SessionState). fits_beside (with_groups before s) version n) sessions

pub still_outside : {a b : Outside} {old mid : SessionState} (version : Named) (x : Reference) (why : Stop) → OnlyFrames a b old mid → IsSession old → IfShown a old (λ before. NamesVersion before x version)
    → IfShown b mid (λ before. IfLive before version.oid (λ bytes. IsOutside why)) → IfShown a old (λ before. IsOutside why)
still_outside {a} {b} {old} {mid} version x why only is names sound before same now =
    let t = (names before same now).told in
    sound (with_groups before mid) refl (same_view before same now only is.sizes) t.version t.is

pub limit_at : (version : Named) (told : Result Named Refusal) → told ≡ Ok version → IfOk told (λ named. named.found.size ≤ object_most) → version.found.size ≤ object_most
limit_at version told is limit = subst (λ (r : Result Named Refusal). IfOk r (λ named. named.found.size ≤ object_most)) is limit
