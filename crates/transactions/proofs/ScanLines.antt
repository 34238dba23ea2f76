-- How lines on open scans and groups are answered.
use Rattle.std.proofs.Common.{◌≡◌, ◌∙◌, ℕ, ◌<◌, ◌≤◌, Bool, true, false, List, [], ◌∷◌, length, Option, Some, None, Ok, Err, IsTrue, refl, sym, ap, subst, inr}
use Rattle.std.specs.Prelude.{is_none, nat_le, slice_get}
use Rattle.std.proofs.lemmas.Bool.{le-leb, lt-leb}
use Rattle.std.proofs.lemmas.Option.{same_Some}
use Rattle.disk_model.specs.Outside.{Outside, ReadsOnly}
use Rattle.disk_model.specs.Runs.{reads_refl}
use Rattle.open_scans.specs.OpenScans.{AtRow, scan_index}
use Rattle.session_views.specs.declared.stop.Stop.{Stop}
use Rattle.session_views.specs.declared.stop.Stop.TheVariants as stop
use Rattle.session_views.specs.View.{View, ShowsNow, Stepped}
use Rattle.table_model.specs.declared.machine.GroupRow.{GroupRow}
use Rattle.table_model.specs.declared.machine.Machine.{Machine}
use Rattle.table_model.specs.declared.machine.Pick.{Pick}
use Rattle.table_model.specs.declared.machine.ScanRow.{ScanRow}
use Rattle.table_model.specs.declared.reply.Refusal.{Refusal}
use Rattle.table_model.specs.declared.reply.Refusal.TheVariants as refusal
use Rattle.table_model.specs.declared.reply.Reply.{Reply}
use Rattle.table_model.specs.declared.reply.Reply.TheVariants as reply
use Rattle.table_model.specs.Machines.{groups_most, scan_at}
use Rattle.table_model.specs.Refusals.{first, refusal_of, when}
use Rattle.table_model.specs.Requests.{Request, is_request}
use Rattle.table_model.specs.Requests as request
use Rattle.table_model.specs.Steps.{IfAccepted, IsAllowed, Step, next_bytes}
use Rattle.table_model.proofs.Stepping.{accepted}
use Rattle.table_model.proofs.StepsKeep.{steps_keep}
use Rattle.session_core.specs.Finding.{IfShown, IsOutside, LineStops}
use Rattle.session_core.specs.Meant.{held_view, meant, pick_of}
use Rattle.session_core.specs.ScanRows.{grouped, takes_name, with_scans}
use Rattle.session_core.specs.Sessions.{IsSession, SessionState}
use Rattle.session_core.specs.Steps.{OnlyFrames}
use Rattle.session_core.proofs.OtherRows.{GivesNext, machine_grouped, machine_next, shows_grouped, shows_next}
use Rattle.session_core.proofs.Quiet.{nothing_changed, now_after}
use Rattle.session_core.proofs.Taken.{no_scan_as, scan_as, taken_as}
use Rattle.transactions.specs.Lines.{ScansLine}
use Rattle.transactions.specs.Scanning.{FillsItsGroup}
use Rattle.volume_port.specs.Reading.{OthersStay}
use Rattle.transactions.proofs.Naming.{refuses_so}
use Rattle.transactions.proofs.ScansLeft.{scans_stay}

-- ---- a refusal, and a stop

pub scans_refused : {a b : Outside} {old new : SessionState} (r : Request) (why : Refusal) → OnlyFrames a b old new → IsSession old → IfShown a old (λ before. (q : Pick) → refusal_of before.machine r q ≡ Some why)
    → ScansLine a b old new r (Ok (reply.No why))
scans_refused {a} {b} {old} {new} r why only is refuses = record {
  reads = only.reads;
  geometry = ap (λ (s : SessionState). s.geometry) only.same;
  log = ap (λ (s : SessionState). s.log) only.same;
  down = ap (λ (s : SessionState). s.down) only.same;
  stops = tt;
  sound = tt;
  refused = λ _. only;
  stepped = λ before same now. refuses_so r why only is before same now (refuses before same now);
  scans = scans_stay old.scans new.scans r (ap (λ (s : SessionState). s.scans) only.same);
}

-- what a stop leaves of the session
pub record StoppedAt (a b : Outside) (old new : SessionState) : Type 0 where
  pub reads : ReadsOnly a b
  pub geometry : new.geometry ≡ old.geometry
  pub log : new.log ≡ old.log
  pub down : new.down ≡ old.down

pub scans_stopped : {a b : Outside} {old new : SessionState} (r : Request) (why : Stop) → StoppedAt a b old new → LineStops a b why → IfShown a old (λ before. IsOutside why) → new.scans ≡ old.scans
    → ScansLine a b old new r (Err why)
scans_stopped {a} {b} {old} {new} r why left stops sound scans = record {
  reads = left.reads;
  geometry = left.geometry;
  log = left.log;
  down = left.down;
  stops = stops;
  sound = sound;
  refused = tt;
  stepped = tt;
  scans = scans_stay old.scans new.scans r scans;
}

-- an accepted command, with the machine and the session that it leaves
pub accepted_so : {b : Outside} {new : SessionState} (before : View SessionState) (r : Request) (told : Reply) (m : Machine) → ShowsNow meant b (record { machine = m; session = new; disk = before.disk })
    → ((q : Pick) → Step before.machine r q told m) → Stepped meant before r told new b
accepted_so {b} {new} before r told m shows step = record {
  after = record { machine = m; session = new; disk = before.disk };
  is = refl;
  shows = shows;
  step = step (pick_of (held_view before) r (held_view (record { machine = m; session = new; disk = before.disk })));
}

-- ---- the next bytes of a scan

no_scan_told : (m : Machine) (name : List ℕ) (o : Option ScanRow) → scan_at m name ≡ o → first (when (is_none (scan_at m name)) refusal.NoScan ∷ []) ≡ first (when (is_none o) refusal.NoScan ∷ [])
no_scan_told m name o is = ap (λ (x : Option ScanRow). first (when (is_none x) refusal.NoScan ∷ [])) is

pub next_refused : {a : Outside} {old : SessionState} (name : List ℕ) (len : ℕ) → IsSession old → scan_index old.scans name ≡ None → ScansLine a a old old (request.Next name len) (Ok (reply.No refusal.NoScan))
next_refused {a} {old} name len is none = scans_refused (request.Next name len) refusal.NoScan (nothing_changed a old) is (λ before same now q.
    no_scan_told before.machine name None (no_scan_as before now.shows name (ap (λ (s : SessionState). scan_index s.scans name) same ∙ none)))

-- the scan of a name is one, so it fills the group of that one
pub fills_own : (old new : SessionState) (name : List ℕ) (index : ℕ) → scan_index old.scans name ≡ Some index
    → AtRow old.scans index (λ row. OthersStay row.group old.groups new.groups) → FillsItsGroup old new.groups name
fills_own old new name index at others other here row row_at =
    others row (subst (λ (i : ℕ). slice_get old.scans i ≡ Some row) (same_Some other index (sym here ∙ at)) row_at)

-- what `next_piece` left
pub left_by : {a b : Outside} {old new : SessionState} → OnlyFrames a b (with_scans old new.scans) new → StoppedAt a b old new
left_by only = record {
  reads = only.reads;
  geometry = ap (λ (s : SessionState). s.geometry) only.same;
  log = ap (λ (s : SessionState). s.log) only.same;
  down = ap (λ (s : SessionState). s.down) only.same;
}

module _ {a b : Outside} {old new : SessionState} (name : List ℕ) (len index : ℕ) (is : IsSession old) (at : scan_index old.scans name ≡ Some index) (form : IsTrue (is_request (request.Next name len))) where
  module _ (given : List ℕ) (gives : GivesNext a b old new index len given) where
    module _ (before : View SessionState) (same : before.session ≡ old) (now : ShowsNow meant a before) where
      session_here : IsSession before.session
      session_here = subst IsSession (sym same) is

      index_here : scan_index before.session.scans name ≡ Some index
      index_here = ap (λ (s : SessionState). scan_index s.scans name) same ∙ at

      gives_here : GivesNext a b before.session new index len given
      gives_here = subst (λ (s : SessionState). GivesNext a b s new index len given) (sym same) gives

      row_here : ScanRow
      row_here = (scan_as before now.shows name index index_here).row

      step_next : (q : Pick) → Step before.machine (request.Next name len) q (reply.Next given) (machine_next before now session_here name given index len index_here gives_here)
      step_next q =
          let has = scan_as before now.shows name index index_here in
          let none : refusal_of before.machine (request.Next name len) q ≡ None = no_scan_told before.machine name (Some has.row) has.found in
          accepted before.machine (request.Next name len) q (reply.Next given) _ (sym none)
          (ap reply.Next (gives.bytes before same now has.row has.at ∙ ap (λ (o : Option ScanRow). next_bytes o len) (sym has.found)))
          refl
          (subst (λ (o : Option Refusal). IfAccepted o (IsAllowed before.machine (request.Next name len) q)) (sym none) (tt, λ update. absurd (cc)))

      stepped_next : Stepped meant before (request.Next name len) (reply.Next given) new b
      stepped_next =
          let m = machine_next before now session_here name given index len index_here gives_here in
          let q = pick_of (held_view before) (request.Next name len) (held_view (record { machine = m; session = new; disk = before.disk })) in
          let rules = steps_keep before.machine (request.Next name len) q (reply.Next given) m now.shows.rules form (step_next q) in
          accepted_so before (request.Next name len) (reply.Next given) m (now_after gives.only.reads now refl (shows_next before now session_here name given index len index_here gives_here rules)) step_next

    pub next_line : ScansLine a b old new (request.Next name len) (Ok (reply.Next given))
    next_line =
        let left : StoppedAt a b old new = left_by gives.only in
        record {
          reads = left.reads;
          geometry = left.geometry;
          log = left.log;
          down = left.down;
          stops = tt;
          sound = tt;
          refused = λ told. absurd (let is_no = told.1 in cc);
          stepped = stepped_next;
          scans = inr (record { index = index; named = at; rows = gives.moved });
        }

  pub next_stopped : (why : Stop) → OnlyFrames a b (with_scans old new.scans) new → new.scans ≡ old.scans → LineStops a b why
      → IfShown a old (λ before. (row : ScanRow) → slice_get before.machine.scans index ≡ Some row → IsOutside why) → ScansLine a b old new (request.Next name len) (Err why)
  next_stopped why only stays stops sound = scans_stopped (request.Next name len) why (left_by only) stops (λ before same now.
      let has = scan_as before now.shows name index (ap (λ (s : SessionState). scan_index s.scans name) same ∙ at) in
      sound before same now has.row has.at) stays

-- ---- a group is made

abbrev pub row_of : List ℕ → ℕ → Bool → GroupRow
row_of name frames mru = record { name = name; frames = frames; mru = mru }

-- why none is made
abbrev pub told_by : Bool → Bool → Option Refusal
told_by taken many = first (when taken refusal.NameTaken ∷ when many (refusal.TooMany false) ∷ [])

module _ {a : Outside} {old : SessionState} (name : List ℕ) (frames : ℕ) (mru : Bool) (is : IsSession old) where
  told_of : (before : View SessionState) (q : Pick) → before.session ≡ old → ShowsNow meant a before → refusal_of before.machine (request.Group name frames mru) q ≡ told_by (takes_name old name) (nat_le groups_most (length old.group_rows))
  told_of before q same now =
      ap (λ (taken : Bool). told_by taken (nat_le groups_most (length before.machine.groups))) (taken_as before now.shows name ∙ ap (λ (s : SessionState). takes_name s name) same)
      ∙ ap (λ (rows : List GroupRow). told_by (takes_name old name) (nat_le groups_most (length rows))) (now.shows.shared.group_rows ∙ ap (λ (s : SessionState). s.group_rows) same)

  pub group_taken : takes_name old name ≡ true → ScansLine a a old old (request.Group name frames mru) (Ok (reply.No refusal.NameTaken))
  group_taken taken = scans_refused (request.Group name frames mru) refusal.NameTaken (nothing_changed a old) is (λ before same now q.
      told_of before q same now ∙ ap (λ (t : Bool). told_by t (nat_le groups_most (length old.group_rows))) taken)

  module _ (untaken : takes_name old name ≡ false) where
    told_then : (many : Bool) → nat_le groups_most (length old.group_rows) ≡ many → (before : View SessionState) (q : Pick) → before.session ≡ old → ShowsNow meant a before → refusal_of before.machine (request.Group name frames mru) q ≡ told_by false many
    told_then many are before q same now =
        told_of before q same now ∙ ap (λ (t : Bool). told_by t (nat_le groups_most (length old.group_rows))) untaken ∙ ap (told_by false) are

    pub group_many : groups_most ≤ length old.group_rows → ScansLine a a old old (request.Group name frames mru) (Ok (reply.No (refusal.TooMany false)))
    group_many many = scans_refused (request.Group name frames mru) (refusal.TooMany false) (nothing_changed a old) is (λ before same now q.
        told_then true (le-leb groups_most (length old.group_rows) many) before q same now)

    module _ (few : length old.group_rows < groups_most) (form : IsTrue (is_request (request.Group name frames mru))) where
      none_told : (before : View SessionState) (q : Pick) → before.session ≡ old → ShowsNow meant a before → refusal_of before.machine (request.Group name frames mru) q ≡ None
      none_told before q same now = told_then false (lt-leb groups_most (length old.group_rows) few) before q same now

      step_group : (before : View SessionState) (same : before.session ≡ old) (now : ShowsNow meant a before) (q : Pick) → Step before.machine (request.Group name frames mru) q (reply.Group name) (machine_grouped before now (subst IsSession (sym same) is) (row_of name frames mru))
      step_group before same now q =
          let none = none_told before q same now in
          accepted before.machine (request.Group name frames mru) q (reply.Group name) _ (sym none) refl refl (subst (λ (o : Option Refusal). IfAccepted o (IsAllowed before.machine (request.Group name frames mru) q)) (sym none) (tt, λ update. absurd (cc)))

      stepped_group : {new : SessionState} → new ≡ grouped old (row_of name frames mru) → (before : View SessionState) → before.session ≡ old → ShowsNow meant a before → Stepped meant before (request.Group name frames mru) (reply.Group name) new a
      stepped_group {new} made before same now =
          let here = subst IsSession (sym same) is in
          let m = machine_grouped before now here (row_of name frames mru) in
          let last = grouped before.session (row_of name frames mru) in
          let q = pick_of (held_view before) (request.Group name frames mru) (held_view (record { machine = m; session = last; disk = before.disk })) in
          let rules = steps_keep before.machine (request.Group name frames mru) q (reply.Group name) m now.shows.rules form (step_group before same now q) in
          subst (λ (s : SessionState). Stepped meant before (request.Group name frames mru) (reply.Group name) s a) (ap (λ (s : SessionState). grouped s (row_of name frames mru)) same ∙ sym made)
          (accepted_so before (request.Group name frames mru) (reply.Group name) m (now_after (reads_refl a) now refl (shows_grouped before now here (row_of name frames mru) rules)) (step_group before same now))

      pub group_made : {new : SessionState} → new ≡ grouped old (row_of name frames mru) → ScansLine a a old new (request.Group name frames mru) (Ok (reply.Group name))
      group_made {new} made = record {
        reads = reads_refl a;
        geometry = ap (λ (s : SessionState). s.geometry) made;
        log = ap (λ (s : SessionState). s.log) made;
        down = ap (λ (s : SessionState). s.down) made;
        stops = tt;
        sound = tt;
        refused = λ told. absurd (let is_no = told.1 in cc);
        stepped = stepped_group made;
        scans = ap (λ (s : SessionState). s.scans) made;
      }

  -- no memory was there
  pub group_unmade : {new : SessionState} (why : Stop) → new ≡ old → why ≡ stop.Memory → ScansLine a a old new (request.Group name frames mru) (Err why)
  group_unmade {new} why same memory = record {
    reads = reads_refl a;
    geometry = ap (λ (s : SessionState). s.geometry) same;
    log = ap (λ (s : SessionState). s.log) same;
    down = ap (λ (s : SessionState). s.down) same;
    stops = subst (LineStops a a) (sym memory) tt;
    sound = λ before from now. subst IsOutside (sym memory) tt;
    refused = tt;
    stepped = tt;
    scans = ap (λ (s : SessionState). s.scans) same;
  }
