-- How a line that closes a scan is answered.
use Rattle.std.proofs.Common.{◌≡◌, ◌∙◌, ℕ, zero, suc, ◌≤◌, Bool, true, false, cond, not, List, [], ◌∷◌, length, Option, Some, None, Ok, IsTrue, refl, sym, ap, subst, arith, inr}
use Rattle.std.specs.Prelude.{bytes_eq, filter, is_none, slice_get}
use Rattle.std.specs.List.{remove}
use Rattle.std.specs.Option.{option_or}
use Rattle.disk_model.specs.Outside.{Outside, ReadsOnly}
use Rattle.ex_base.specs.declared.geometry.Geometry.{Geometry}
use Rattle.ex_base.specs.declared.names.Area.{Area}
use Rattle.ex_base.specs.declared.names.Area.TheVariants.{Page, Segment}
use Rattle.open_scans.specs.OpenScans.{scan_index}
use Rattle.open_scans.proofs.Beside.{HasScan, is_scan_named}
use Rattle.page_alloc.specs.UnitSet.{free_count, used_at}
use Rattle.table_model.specs.declared.machine.Machine.{Machine}
use Rattle.table_model.specs.declared.machine.Pick.{Pick}
use Rattle.table_model.specs.declared.machine.ScanRow.{ScanRow}
use Rattle.table_model.specs.declared.reply.Refusal.TheVariants as refusal
use Rattle.table_model.specs.declared.reply.Reply.TheVariants as reply
use Rattle.table_model.specs.Refusals.{first, refusal_of, when}
use Rattle.table_model.specs.Requests.{Request, is_request}
use Rattle.table_model.specs.Requests as request
use Rattle.table_model.specs.Steps.{Step, machine_after}
use Rattle.table_model.proofs.StepsKeep.{steps_keep}
use Rattle.volume_model.specs.Shown.{used_in}
use Rattle.session_core.specs.Finding.{IfShown}
use Rattle.session_core.specs.Meant.{held_view, pick_of}
use Rattle.session_core.specs.Opening.{GivesUnits, ShowsThen, closed_at, without_scan}
use Rattle.session_core.specs.Sessions.{IsSession, SessionState}
use Rattle.session_core.proofs.Accepted.{took_place}
use Rattle.session_core.proofs.Ending.{fewer_used}
use Rattle.session_core.proofs.Quiet.{nothing_changed}
use Rattle.volume_model.proofs.Showing.{session_geometry}
use Rattle.session_core.proofs.Taken.{no_scan_as, scan_as}
use Rattle.transactions.specs.Lines.{ScansLine}
use Rattle.transactions.proofs.ScanLines.{scans_refused}

-- ---- the only scan of a name, taken out

abbrev others : List ℕ → List ScanRow → List ScanRow
others name ms = filter (λ (s : ScanRow). not (bytes_eq s.name name)) ms

abbrev named : List ℕ → List ScanRow → List ScanRow
named name ms = filter (is_scan_named name) ms

-- where none has the name, all are others
none_named : (name : List ℕ) (ms : List ScanRow) → length (named name ms) ≡ 0 → others name ms ≡ ms
none_named name [] none = refl
none_named name (m ∷ ms) none = by (bytes_eq m.name name) refl none (λ few. none_named name ms few)
  where
    by : (b : Bool) → bytes_eq m.name name ≡ b → length (cond b (m ∷ named name ms) (named name ms)) ≡ 0 → (length (named name ms) ≡ 0 → others name ms ≡ ms) → cond (not (bytes_eq m.name name)) (m ∷ others name ms) (others name ms) ≡ m ∷ ms
    by true is many later = absurd (omega (arith, many))
    by false is many later = ap (λ (b : Bool). cond (not b) (m ∷ others name ms) (others name ms)) is ∙ ap (λ (rest : List ScanRow). m ∷ rest) (later many)

-- one that stands there has it
some_named : (name : List ℕ) (ms : List ScanRow) (i : ℕ) (row : ScanRow) → slice_get ms i ≡ Some row → is_scan_named name row ≡ true → 1 ≤ length (named name ms)
some_named name [] i row at is = absurd (let none : None ≡ Some row = at in cc)
some_named name (m ∷ ms) zero row at is =
    let here : Some m ≡ Some row = at in
    let same : m ≡ row = cc in
    by (bytes_eq m.name name) (ap (is_scan_named name) same ∙ is)
  where
    by : (b : Bool) → b ≡ true → 1 ≤ length (cond b (m ∷ named name ms) (named name ms))
    by true is_so = omega arith
    by false is_so = absurd (cc)
some_named name (m ∷ ms) (suc i) row at is = by (bytes_eq m.name name) (some_named name ms i row at is)
  where
    by : (b : Bool) → 1 ≤ length (named name ms) → 1 ≤ length (cond b (m ∷ named name ms) (named name ms))
    by true later = omega arith
    by false later = later

pub one_removed : (name : List ℕ) (ms : List ScanRow) (i : ℕ) (row : ScanRow) → length (named name ms) ≤ 1 → slice_get ms i ≡ Some row → is_scan_named name row ≡ true → remove ms i ≡ others name ms
one_removed name [] i row one at is = absurd (let none : None ≡ Some row = at in cc)
one_removed name (m ∷ ms) zero row one at is =
    let here : Some m ≡ Some row = at in
    let same : m ≡ row = cc in
    let named_so : bytes_eq m.name name ≡ true = ap (is_scan_named name) same ∙ is in
    let count : length (cond (bytes_eq m.name name) (m ∷ named name ms) (named name ms)) ≡ length (m ∷ named name ms) = ap (λ (b : Bool). length (cond b (m ∷ named name ms) (named name ms))) named_so in
    let none : length (named name ms) ≡ 0 = few_left (length (named name ms)) (length (cond (bytes_eq m.name name) (m ∷ named name ms) (named name ms))) count one in
    sym (ap (λ (b : Bool). cond (not b) (m ∷ others name ms) (others name ms)) named_so ∙ none_named name ms none)
  where
    few_left : (n all : ℕ) → all ≡ suc n → all ≤ 1 → n ≡ 0
    few_left n all is few = omega (arith, is, few)
one_removed name (m ∷ ms) (suc i) row one at is =
    by (bytes_eq m.name name) refl one (some_named name ms i row at is) (λ few. one_removed name ms i row few at is)
  where
    by : (b : Bool) → bytes_eq m.name name ≡ b → length (cond b (m ∷ named name ms) (named name ms)) ≤ 1 → 1 ≤ length (named name ms) → (length (named name ms) ≤ 1 → remove ms i ≡ others name ms)
        → m ∷ remove ms i ≡ cond (not (bytes_eq m.name name)) (m ∷ others name ms) (others name ms)
    by true here few some later = absurd (omega (arith, few, some))
    by false away few some later =
        ap (λ (rest : List ScanRow). m ∷ rest) (later few)
        ∙ sym (ap (λ (b : Bool). cond (not b) (m ∷ others name ms) (others name ms)) away)

-- ---- the line

pub close_refused : {a : Outside} {old : SessionState} (name : List ℕ) → IsSession old → scan_index old.scans name ≡ None → ScansLine a a old old (request.Close name) (Ok (reply.No refusal.NoScan))
close_refused {a} {old} name is none =
    scans_refused (request.Close name) refusal.NoScan (nothing_changed a old) is
    (λ before same now q. ap (λ (o : Option ScanRow). option_or (when (is_none o) refusal.NoScan) (first [])) (no_scan_as before now.shows name (ap (λ (s : SessionState). scan_index s.scans name) same ∙ none)))

pub close_done : {a b : Outside} {old new : SessionState} (name : List ℕ) (index : ℕ) → IsTrue (is_request (request.Close name)) → IsSession old → scan_index old.scans name ≡ Some index → ReadsOnly a b → GivesUnits a b old new → new ≡ closed_at index old new
    → IfShown a old (λ before. ShowsThen before b new (without_scan index new before.machine)) → ScansLine a b old new (request.Close name) (Ok (reply.Close name))
close_done {a} {b} {old} {new} name index form is there reads gives closed shows = record {
  reads = reads;
  geometry = geometry_stays;
  log = ap (λ (s : SessionState). s.log) closed;
  down = ap (λ (s : SessionState). s.down) closed;
  stops = tt;
  sound = tt;
  refused = λ (why, refused). absurd (cc);
  stepped = λ before same now.
      let m = before.machine in
      let r : Request = request.Close name in
      let after : Machine = without_scan index new m in
      let q : Pick = pick_of (held_view before) r (held_view (record { machine = after; session = new; disk = before.disk })) in
      let scan : HasScan m.scans name index = scan_as before now.shows name index (ap (λ (s : SessionState). scan_index s.scans name) same ∙ there) in
      let accepts : refusal_of m r q ≡ None = ap (λ (o : Option ScanRow). option_or (when (is_none o) refusal.NoScan) (first [])) scan.found in
      let once = now.shows.rules.once name in
      let one : length (named name m.scans) ≤ 1 = omega (arith, once) in
      let machine : after ≡ machine_after m r q =
      ap (λ (rows : List ScanRow). record m { scans = rows; pages_used = used_in new.geometry (used_at new.units) Page; segs_used = used_in new.geometry (used_at new.units) Segment }) (one_removed name m.scans index scan.row one scan.at scan.named) in
      let geometry : new.geometry ≡ now.shows.decoded.geometry = geometry_stays ∙ ap (λ (s : SessionState). s.geometry) (sym same) ∙ session_geometry now.shows in
      let fewer = fewer_used now.shows (subst IsSession (sym same) is) new.units
      (record {
        geometry = gives.geometry ∙ ap (λ (s : SessionState). s.units.geometry) (sym same);
        free = λ (area : Area). subst (λ (s : SessionState). FreeAs s area) (sym same) (gives.free area);
      }) in
      let pages : used_in new.geometry (used_at new.units) Page ≤ m.pages_used = omega (arith, fewer.pages, ap (λ (g : Geometry). used_in g (used_at new.units) Page) geometry) in
      let segs : used_in new.geometry (used_at new.units) Segment ≤ m.segs_used = omega (arith, fewer.segs, ap (λ (g : Geometry). used_in g (used_at new.units) Segment) geometry) in
      let step : Step m r q (reply.Close name) after = took_place m after r q (reply.Close name) accepts refl machine (record { pages = pages; segs = segs }, λ none. absurd (cc)) in
      record {
        after = record { machine = after; session = new; disk = before.disk };
        is = refl;
        shows = shows before same now (steps_keep m r q (reply.Close name) after now.shows.rules form step);
        step = step;
      };
  scans = inr (record { index = index; named = there; rows = ap (λ (s : SessionState). s.scans) closed });
}
  where
    geometry_stays : new.geometry ≡ old.geometry
    geometry_stays = ap (λ (s : SessionState). s.geometry) closed

    FreeAs : SessionState → Area → Type 0
    FreeAs s area = free_count s.units.geometry (used_at s.units) area ≤ free_count new.units.geometry (used_at new.units) area
