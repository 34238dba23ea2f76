-- Rows of a run, and one row more.
use Rattle.std.proofs.Common.{◌≡◌, ◌∙◌, ◌≤◌, ℕ, List, [], ◌∷◌, ◌++◌, Result, Ok, arith, refl, sym, ap, subst, inl, inr, ⊎_elim, append_assoc}
use Rattle.std.proofs.lemmas.List.{append-nil}
use Rattle.disk_model.specs.Outside.{Outside, IsWorld, DiskOnly, Goes}
use Rattle.disk_model.specs.Runs.{goes_refl, goes_trans}
use Rattle.table_model.specs.declared.table.Table.{Table}
use Rattle.table_model.specs.declared.machine.Machine.{Machine}
use Rattle.script_lang.specs.Reading.{Reading, Silent, Asks, Fails}
use Rattle.table_model.specs.declared.reply.Reply.{Reply}
use Rattle.table_model.specs.Requests.{Request}
use Rattle.session_views.specs.declared.Stop.{Stop}
use Rattle.session_views.specs.View.{View, Meaning, ShowsNow, Stepped}
use Rattle.engines.specs.Keeping.{Conduct, StepKept}
use Rattle.talks.specs.Talking.{Exchange}
use Rattle.talks.specs.Transcript.{Row, ShowsAt, LineKept, Follows, Trail, Committed, exchanges, last_time, output_of}

pub output_more : {S : Type 0} (rows : List (Row S)) (row : Row S) → output_of (rows ++ row ∷ []) ≡ output_of rows ++ row.had.text
output_more [] row = append-nil row.had.text ∙ sym (nil_append row.had.text)
  where
    nil_append : (xs : List ℕ) → [] ++ xs ≡ xs
    nil_append xs = refl
output_more (r ∷ rows) row = ap (λ (l : List ℕ). r.had.text ++ l) (output_more rows row) ∙ sym (append_assoc r.had.text (output_of rows) row.had.text)

pub exchanges_more : {S : Type 0} (rows : List (Row S)) (row : Row S) → exchanges (rows ++ row ∷ []) ≡ exchanges rows ++ row.had ∷ []
exchanges_more [] row = refl
exchanges_more (r ∷ rows) row = ap (λ (l : List Exchange). r.had ∷ l) (exchanges_more rows row)

-- ---- when the rows were

-- The rows were up to now.
pub up_to_now : {S H : Type 0} (M : Meaning S) (C : Conduct S H) {now : Outside} (was : List ℕ) (since : ℕ) (sent : List ℕ) (before after : View S) (rows : List (Row S))
    → IsWorld now → since ≤ now.clock → Trail M C now was since sent before rows after → last_time since rows ≤ now.clock
up_to_now M C was since sent before after [] world early trail = early
up_to_now M C was since sent before after (row ∷ rows) world early trail =
    up_to_now M C was row.time (sent ++ row.had.text) row.view after rows world
    (world.stood_by_now row.time (was ++ (sent ++ row.had.text)) row.view.disk row.view.disk trail.0.shown.stood) trail.1

-- What showed at a time shows at it later.
pub shows_at_later : {S : Type 0} (M : Meaning S) {a b : Outside} {time : ℕ} {sent : List ℕ} {v : View S} → IsWorld a → Goes a b → ShowsAt M a time sent v → ShowsAt M b time sent v
shows_at_later M {a} {b} {time} {sent} {v} world goes then =
    let up_to : time ≤ a.clock = world.stood_by_now time sent v.disk v.disk then.stood in record {
      stood = (goes.past time sent v.disk v.disk up_to).0 then.stood;
      shows = M.narrower (a.stood time sent v.disk) (b.stood time sent v.disk) v (λ e there. (goes.past time sent v.disk e up_to).1 there) then.shows;
    }

-- What a step kept stays kept later, and between wider times.
pub step_kept_within : {S H : Type 0} {M : Meaning S} {C : Conduct S H} {since early late time : ℕ} {a b : Outside} {before : View S} {r : Request} {result : Result Reply Stop} {after : S}
    → since ≤ early → late ≤ time → Goes a b → StepKept M C early late a before r result after → StepKept M C since time b before r result after
step_kept_within first last goes kept = record {
  from = kept.from;
  to = kept.to;
  shown = kept.shown;
  only = kept.only;
  begun = omega (arith, first, kept.begun);
  over = omega (arith, last, kept.over);
  later = goes_trans kept.later goes;
  kept = kept.kept;
}

-- A step was just made, from a host that the view shows.
pub step_just_kept : {S H : Type 0} {M : Meaning S} {C : Conduct S H} {session after : S} {v : View S} {r : Request} {result : Result Reply Stop} (from to : H) → v.session ≡ session → ShowsNow M (C.outside from) v
    → DiskOnly (C.outside from) (C.outside to) → C.Keeps session after (C.outside from) (C.outside to) r result
    → StepKept M C (C.outside from).clock (C.outside to).clock (C.outside to) v r result after
step_just_kept {S} {H} {M} {C} {session} {after} {v} {r} {result} from to is shows only kept = record {
  from = from;
  to = to;
  shown = shows;
  only = only;
  begun = omega arith;
  over = omega arith;
  later = goes_refl (C.outside to);
  kept = subst (λ (s : S). C.Keeps s after (C.outside from) (C.outside to) r result) (sym is) kept;
}

-- It replied, so that the view after it shows the host that it left.
pub line_just_kept : {S H : Type 0} {M : Meaning S} {C : Conduct S H} {session after : S} {v : View S} {r : Request} {told : Reply} (from to : H) → v.session ≡ session → ShowsNow M (C.outside from) v
    → DiskOnly (C.outside from) (C.outside to) → C.Keeps session after (C.outside from) (C.outside to) r (Ok told) → (stepped : Stepped M v r told after (C.outside to))
    → LineKept M C (C.outside from).clock (C.outside to).clock (C.outside to) v (Asks r) told stepped.after
unfolding step_just_kept
line_just_kept {S} {H} {M} {C} {session} {after} {v} {r} {told} from to is shows only kept stepped = (
  step_just_kept from to is shows only (subst (λ (s : S). C.Keeps session s (C.outside from) (C.outside to) r (Ok told)) (sym stepped.is) kept),
  stepped.shows,
)

pub line_kept_within : {S H : Type 0} {M : Meaning S} {C : Conduct S H} {since early late time : ℕ} {a b : Outside} {before : View S} {r : Request} {told : Reply} {after : View S}
    → since ≤ early → late ≤ time → Goes a b → LineKept M C early late a before (Asks r) told after → LineKept M C since time b before (Asks r) told after
unfolding step_kept_within
line_kept_within first last goes kept = (step_kept_within first last goes kept.0, kept.1)

line_kept_later : {S H : Type 0} (M : Meaning S) (C : Conduct S H) (since time : ℕ) {a b : Outside} (before : View S) (reading : Reading) (told : Reply) (after : View S)
    → Goes a b → LineKept M C since time a before reading told after → LineKept M C since time b before reading told after
line_kept_later M C since time before Silent told after goes kept = tt
line_kept_later M C since time before (Asks r) told after goes kept = line_kept_within (omega arith) (omega arith) goes kept
line_kept_later M C since time before (Fails why) told after goes kept = tt

pub trail_later : {S H : Type 0} (M : Meaning S) (C : Conduct S H) {a b : Outside} (was : List ℕ) (since : ℕ) (sent : List ℕ) (before after : View S) (rows : List (Row S))
    → IsWorld a → Goes a b → Trail M C a was since sent before rows after → Trail M C b was since sent before rows after
trail_later M C was since sent before after [] world goes trail = trail
trail_later M C was since sent before after (row ∷ rows) world goes trail = (
  record {
    steps = trail.0.steps;
    kept = line_kept_later M C since row.time before row.had.reading row.had.told row.view goes trail.0.kept;
    later = trail.0.later;
    shown = shows_at_later M world goes trail.0.shown;
  },
  trail_later M C was row.time (sent ++ row.had.text) row.view after rows world goes trail.1,
)

pub trail_more : {S H : Type 0} (M : Meaning S) (C : Conduct S H) (now : Outside) (was : List ℕ) (since : ℕ) (sent : List ℕ) (before mid : View S) (rows : List (Row S)) (row : Row S)
    → Trail M C now was since sent before rows mid → Follows M C now was (last_time since rows) (sent ++ output_of rows) mid row
    → Trail M C now was since sent before (rows ++ row ∷ []) row.view
trail_more M C now was since sent before mid [] row trail follows =
    (subst (λ (v : View _). Follows M C now was since sent v row) trail (subst (λ (s : List ℕ). Follows M C now was since s mid row) (append-nil sent) follows), refl)
trail_more M C now was since sent before mid (r ∷ rows) row trail follows = (
  trail.0,
  trail_more M C now was r.time (sent ++ r.had.text) r.view mid rows row trail.1
      (subst (λ (s : List ℕ). Follows M C now was (last_time r.time rows) s mid row) (sym (append_assoc sent r.had.text (output_of rows))) follows),
)

-- ---- what was committed

pub committed_more : {S : Type 0} (m : Machine) (rows : List (Row S)) (row : Row S) (j : ℕ) (t : Table) → Committed m rows j t → Committed m (rows ++ row ∷ []) j t
committed_more m [] row j t here = inl here
committed_more m (r ∷ rows) row j t here = ⊎_elim (λ h. inl h) (λ h. inr (committed_more r.view.machine rows row j t h)) here

pub committed_row : {S : Type 0} (m : Machine) (rows : List (Row S)) (row : Row S) → Committed m (rows ++ row ∷ []) row.view.machine.committed.last row.view.machine.committed
committed_row m [] row = inr (refl, refl)
committed_row m (r ∷ rows) row = inr (committed_row r.view.machine rows row)

pub committed_last : {S H : Type 0} (M : Meaning S) (C : Conduct S H) (now : Outside) (was : List ℕ) (since : ℕ) (sent : List ℕ) (before after : View S) (rows : List (Row S))
    → Trail M C now was since sent before rows after → Committed before.machine rows after.machine.committed.last after.machine.committed
committed_last M C now was since sent before after [] trail = (ap (λ (v : View _). v.machine.committed.last) trail, ap (λ (v : View _). v.machine.committed) trail)
committed_last M C now was since sent before after (row ∷ rows) trail = inr (committed_last M C now was row.time (sent ++ row.had.text) row.view after rows trail.1)
