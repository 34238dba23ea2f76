-- A run goes on: a line is taken, a step is made, a reply is told.
use Rattle.std.proofs.Common.{◌≡◌, ◌⊎◌, ◌∙◌, ℕ, ◌+◌, ◌≤◌, ◌<◌, IsTrue, Option, Some, None, List, [], ◌∷◌, ◌++◌, length, take, min, Bool, true, false, ltb, is_some, Ok, Err, refl, sym, ap, subst, inl, inr, ⊎_elim, arith, append_assoc}
use Rattle.std.proofs.lemmas.List.{append-nil, append_cancel_left, take-take, length-take, take_all}
use Rattle.std.proofs.lemmas.Bool.{ltb-true, ltb-false}
use Rattle.std.proofs.Math.Seq.{take-append_seam, take-length}
use Rattle.std.proofs.lemmas.Option.{same_Some}
use Rattle.disk_model.specs.Outside.{Outside, IsWorld, Goes, DiskOnly, SourceOnly, SinkOnly, Between, Along, Leaves}
use Rattle.disk_model.specs.Runs.{along_start, along_disk, along_sink, along_source, along_wider, honest_on, goes_refl, goes_trans}
use Rattle.table_model.specs.declared.table.Table.{Table}
use Rattle.table_model.specs.declared.machine.Machine.{Machine}
use Rattle.table_model.specs.declared.machine.Pick.{Pick}
use Rattle.table_model.specs.declared.reply.Reply.{Reply}
use Rattle.table_model.specs.declared.reply.Refusal.{Refusal}
use Rattle.table_model.specs.declared.reply.Reply.TheVariants as reply
use Rattle.table_model.specs.Requests.{Request, Abort, is_request}
use Rattle.table_model.specs.Steps.{table_committed}
use Rattle.script_lang.specs.Reading.{Reading, Asks, Fails}
use Rattle.session_views.specs.declared.Stop.{Stop}
use Rattle.session_views.specs.View.{View, Meaning, ShowsNow, Stepped, StandsDuring}
use Rattle.engines.specs.Keeping.{Conduct, StepKept}
use Rattle.talks.specs.Acking.{Acking}
use Rattle.talks.specs.Sending.{SentFront, SentPart}
use Rattle.talks.specs.Talking.{Exchange, IsReply}
use Rattle.talks.specs.Talking as talking
use Rattle.talks.specs.Stops.{stop_as, IsSendingStop, IsTakingStop}
use Rattle.talks.specs.Transcript.{Row, ShowsAt, StepsTo, LineKept, Trail, Committed, InFlight, IsRunMoment, Opens, Reached, CutShort, Ended, LastText, last_time, output_of}
use Rattle.talks.specs.declared.stopped.Stopped.{Stopped}
use Rattle.talks.specs.declared.stopped.Stopped.TheVariants.{Output}
use Rattle.talks.proofs.Steps.{Commits, Keeps, commits_or_keeps}
use Rattle.talks.proofs.Rows.{output_more, exchanges_more, line_kept_within, step_kept_within, up_to_now, trail_more, committed_more, committed_row, committed_last}
use Rattle.talks.proofs.Rows as rows

-- a table that was committed, or that a commit on its way makes, with its number as it bears on what is told
pub record Covers {S : Type 0} (A : Acking) (opening : Machine) (rows : List (Row S)) (last : Machine) (asked : Option Request) (text : List ℕ) (j : ℕ) (t : Table) : Type 0 where
  pub after : Committed opening rows j t ⊎ InFlight last asked j t
  pub front : (n : ℕ) → n < length text → A.May opening.committed.last (output_of rows ++ take n text) j
  pub even : A.Even opening.committed.last (output_of rows ++ text) j
  -- Once the reply is told, what was on its way is committed.
  pub closes : (k : ℕ) (u : Table) → InFlight last asked k u → (k ≡ j) × (u ≡ t)

split_at : (a b : ℕ) (less : Bool) → ltb b a ≡ less → (a ≤ b) ⊎ (b < a)
split_at a b true e = inr (ltb-true b a e)
split_at a b false e = inl (ltb-false b a e)

le_or_lt : (a b : ℕ) → (a ≤ b) ⊎ (b < a)
le_or_lt a b = split_at a b (ltb b a) refl

take_front : (xs ys zs : List ℕ) → xs ++ ys ≡ zs → xs ≡ take (length xs) zs
take_front xs ys zs is = sym (take-append_seam xs ys) ∙ ap (take (length xs)) is

take_twice : (k n : ℕ) (xs : List ℕ) → take k (take n xs) ≡ take (min k n) xs
take_twice k n xs = elim (le_or_lt k n) as (λ _. take k (take n xs) ≡ take (min k n) xs) [
  | inl le ↦ take-take k n xs le ∙ ap (λ (m : ℕ). take m xs) (let e : k ≡ min k n = omega (arith, le) in e)
  | inr lt ↦ take_all k (take n xs) (omega (arith, lt, length-take n xs)) ∙ ap (λ (m : ℕ). take m xs) (let e : n ≡ min k n = omega (arith, lt) in e)
]

-- What was sent meanwhile goes on from what was sent before by a front of the text.
front_between : (before text s rest tail : List ℕ) (n : ℕ) → s ≡ before ++ rest → before ++ take n text ≡ s ++ tail → rest ≡ take (min (length rest) n) text
front_between before text s rest tail n begins goes_on =
    let whole : before ++ take n text ≡ before ++ (rest ++ tail) = goes_on ∙ ap (λ (l : List ℕ). l ++ tail) begins ∙ append_assoc before rest tail in
    let front : rest ++ tail ≡ take n text = sym (append_cancel_left before (take n text) (rest ++ tail) whole) in
    take_front rest tail (take n text) front ∙ take_twice (length rest) n text

-- While a reply is told each image stands for the table of the view after the step.
moment_sending : {S : Type 0} (M : Meaning S) (A : Acking) (opening : Machine) (rows : List (Row S)) (last : Machine) (asked : Option Request) (was : List ℕ)
    (text : List ℕ) (j : ℕ) (t : Table) (s d : List ℕ) (k : ℕ) → Covers A opening rows last asked text j t → M.StandsFor d t
    → s ≡ was ++ (output_of rows ++ take k text) → IsRunMoment M A opening rows last asked was s d
moment_sending M A opening rows last asked was text j t s d k covers stands is = record {
  number = j;
  table = t;
  after = covers.after;
  stands = stands;
  more = output_of rows ++ take k text;
  sent = is;
  may = elim (le_or_lt (length text) k) as (λ _. A.May opening.committed.last (output_of rows ++ take k text) j) [
    | inl long ↦ subst (λ (l : List ℕ). A.May opening.committed.last (output_of rows ++ l) j) (sym (take_all k text long)) (A.now opening.committed.last (output_of rows ++ text) j covers.even)
    | inr short ↦ covers.front k short
  ];
}

-- Over the telling of a reply, whole or in part, the third sentence holds on.
pub along_sending : {S : Type 0} {entry b c : Outside} (M : Meaning S) (A : Acking) (opening : Machine) (rows : List (Row S)) (last : Machine) (asked : Option Request) (was : List ℕ)
    (text : List ℕ) (j : ℕ) (t : Table) (n : ℕ) → Covers A opening rows last asked text j t → ((d : List ℕ) → b.images d → M.StandsFor d t)
    → b.sent ≡ Some (was ++ output_of rows) → c.sent ≡ Some (was ++ output_of rows ++ take n text) → SinkOnly b c
    → Along entry b (IsRunMoment M A opening rows last asked was) → Along entry c (IsRunMoment M A opening rows last asked was)
along_sending {S} {entry} {b} {c} M A opening rows last asked was text j t n covers stands sent_before sent_after only so_far =
    along_sink (IsRunMoment M A opening rows last asked was) so_far only (ap is_some sent_before) here
  where
    here : (s d : List ℕ) → b.images d → Between b.sent c.sent s → IsRunMoment M A opening rows last asked was s d
    here s d image between =
        let before : List ℕ = was ++ output_of rows in
        let first : between.first ≡ before = same_Some between.first before (sym between.was ∙ sent_before) in
        let end : between.last ≡ before ++ take n text = same_Some between.last (before ++ take n text) (sym between.is ∙ sent_after) in
        let begins : s ≡ before ++ between.begins.0 = between.begins.1 ∙ ap (λ (l : List ℕ). l ++ between.begins.0) first in
        let front = front_between before text s between.begins.0 between.goes_on.0 n begins (sym end ∙ between.goes_on.1) in
        moment_sending M A opening rows last asked was text j t s d (min (length between.begins.0) n) covers (stands d image)
        (begins ∙ append_assoc was (output_of rows) between.begins.0 ∙ ap (λ (l : List ℕ). was ++ (output_of rows ++ l)) front)

-- ---- the tables that a reply stands over

pub covers_step : {S H : Type 0} {M : Meaning S} {C : Conduct S H} {A : Acking} {opening : View S} {was : List ℕ} {entry now w : Outside} {session now_session : S} {had : List Exchange} {r : Request} {told : Reply} {text : List ℕ}
    (so_far : Reached M C A opening was entry now session had) (stepped : Stepped M so_far.view r told now_session w) → A.Tells told text
    → Covers A opening.machine so_far.rows so_far.view.machine (Some r) text stepped.after.machine.committed.last stepped.after.machine.committed
covers_step {S} {H} {M} {C} {A} {opening} {was} {entry} {now} {w} {session} {now_session} {had} {r} {told} {text} so_far stepped tells =
    ⊎_elim committing keeping (commits_or_keeps (M.rules now.images so_far.view so_far.shows.shows) stepped.step)
  where
    before : View S
    before = so_far.view

    first : ℕ
    first = opening.machine.committed.last

    sent : List ℕ
    sent = output_of so_far.rows

    committed : Committed opening.machine so_far.rows before.machine.committed.last before.machine.committed
    committed = committed_last M C now was entry.clock [] opening before so_far.rows so_far.trail

    committing : Commits before.machine r told stepped.after.machine → Covers A opening.machine so_far.rows before.machine (Some r) text stepped.after.machine.committed.last stepped.after.machine.committed
    committing commits = record {
      after = inr (commits.open_commit, commits.number, commits.table);
      front = λ n short. subst (λ (j : ℕ). A.May first (sent ++ take n text) j) (sym commits.number) (A.front_next first sent before.machine.committed.last n told text so_far.even tells short);
      even = subst (λ (j : ℕ). A.Even first (sent ++ text) j) (sym commits.number)
          (A.commit first sent before.machine.committed.last text so_far.even (subst (λ (x : Reply). A.Tells x text) commits.reply tells) commits.fits);
      closes = λ k u flight. (flight.1 ∙ sym commits.number, flight.2 ∙ sym commits.table);
    }

    keeping : Keeps before.machine r told stepped.after.machine → Covers A opening.machine so_far.rows before.machine (Some r) text stepped.after.machine.committed.last stepped.after.machine.committed
    keeping keeps =
        let same : stepped.after.machine.committed.last ≡ before.machine.committed.last = ap (λ (t : Table). t.last) keeps.table in record {
          after = inl (subst (λ (t : Table). Committed opening.machine so_far.rows t.last t) (sym keeps.table) committed);
          front = λ n short. subst (λ (j : ℕ). A.May first (sent ++ take n text) j) (sym same) (A.front first sent before.machine.committed.last n told text so_far.even tells short);
          even = subst (λ (j : ℕ). A.Even first (sent ++ text) j) (sym same) (A.other first sent before.machine.committed.last told text so_far.even tells keeps.no_commit);
          closes = λ k u flight. absurd (keeps.not_open flight.0);
        }

pub covers_refused : {S H : Type 0} {M : Meaning S} {C : Conduct S H} {A : Acking} {opening : View S} {was : List ℕ} {entry now : Outside} {session : S} {had : List Exchange} {text : List ℕ}
    (so_far : Reached M C A opening was entry now session had) (why : Refusal) → A.Tells (reply.No why) text
    → Covers A opening.machine so_far.rows so_far.view.machine None text so_far.view.machine.committed.last so_far.view.machine.committed
covers_refused {S} {H} {M} {C} {A} {opening} {was} {entry} {now} {text = text} so_far why tells = record {
  after = inl (committed_last M C now was entry.clock [] opening so_far.view so_far.rows so_far.trail);
  front = λ n short. A.front opening.machine.committed.last (output_of so_far.rows) so_far.view.machine.committed.last n (reply.No why) text so_far.even tells short;
  even = A.other opening.machine.committed.last (output_of so_far.rows) so_far.view.machine.committed.last (reply.No why) text so_far.even tells (λ k same. cc);
  closes = λ k u flight. absurd flight;
}

no_pick : Pick
no_pick = record { place = record { page = record { 0 = 0 }; slot = 0 }; pages = 0; segs = 0; touched = 0; small = false; height = 0; leaves = []; records = 0 }

-- ---- what goes on showing

shows_fewer : {S : Type 0} {M : Meaning S} {a b : Outside} {v : View S} → Goes a b → b.disk ≡ a.disk → ((d : List ℕ) → b.images d → a.images d) → ShowsNow M a v → ShowsNow M b v
shows_fewer {S} {M} {a} {b} {v} goes same back shows = record {
  honest = honest_on goes shows.honest;
  holds = same ∙ shows.holds;
  shows = M.narrower a.images b.images v back shows.shows;
}

pub shows_sent : {S : Type 0} {M : Meaning S} {a b : Outside} {v : View S} → SinkOnly a b → ShowsNow M a v → ShowsNow M b v
shows_sent only shows = shows_fewer only.goes only.disk only.images.back shows

-- ---- the run so far

pub reached_start : {S H : Type 0} {M : Meaning S} {C : Conduct S H} {A : Acking} {opening : View S} {was : List ℕ} {entry : Outside} {session : S} → IsWorld entry → opening.session ≡ session → Opens M entry opening was
    → Reached M C A opening was entry entry session []
reached_start {S} {H} {M} {C} {A} {opening} {was} {entry} world same opens = record {
  rows = [];
  view = opening;
  heard = refl;
  sent = opens.sent ∙ ap (λ (l : List ℕ). Some l) (sym (append-nil was));
  trail = refl;
  is = same;
  shows = opens.shows;
  even = A.start opening.machine.committed.last;
  stops = along_start entry (IsRunMoment M A opening.machine [] opening.machine None was) world (record {
    now = λ s d sent here. record {
      number = opening.machine.committed.last;
      table = opening.machine.committed;
      after = inl (refl, refl);
      stands = M.stands entry.images opening d opens.shows.shows here;
      more = [];
      sent = same_Some s was (sym sent ∙ opens.sent) ∙ sym (append-nil was);
      may = A.now opening.machine.committed.last [] opening.machine.committed.last (A.start opening.machine.committed.last);
    };
  });
}

pub trail_later : {S H : Type 0} {M : Meaning S} {C : Conduct S H} {A : Acking} {opening : View S} {was : List ℕ} {entry a c : Outside} {session : S} {had : List Exchange} (so_far : Reached M C A opening was entry a session had) → IsWorld a → Goes a c
    → Trail M C c was entry.clock [] opening so_far.rows so_far.view
trail_later {S} {H} {M} {C} {A} {opening} {was} {entry} so_far world goes = rows.trail_later M C was entry.clock [] opening so_far.view so_far.rows world goes so_far.trail

-- The last row was by now.
rows_by_now : {S H : Type 0} {M : Meaning S} {C : Conduct S H} {A : Acking} {opening : View S} {was : List ℕ} {entry a : Outside} {session : S} {had : List Exchange} (so_far : Reached M C A opening was entry a session had) → IsWorld a
    → last_time entry.clock so_far.rows ≤ a.clock
rows_by_now {M = M} {C = C} {opening = opening} {was = was} {entry = entry} so_far world =
    up_to_now M C was entry.clock [] opening so_far.view so_far.rows world so_far.stops.goes.clock so_far.trail

-- The source was read: the line isn't yet answered.
pub reached_taken : {S H : Type 0} {M : Meaning S} {C : Conduct S H} {A : Acking} {opening : View S} {was : List ℕ} {entry a b : Outside} {session : S} {had : List Exchange} → IsWorld a → SourceOnly a b
    → Reached M C A opening was entry a session had → Reached M C A opening was entry b session had
reached_taken {S} {H} {M} {C} {A} {opening} {was} {entry} {a} {b} world only so_far = record {
  rows = so_far.rows;
  view = so_far.view;
  heard = so_far.heard;
  sent = only.sent ∙ so_far.sent;
  trail = trail_later so_far world only.goes;
  is = so_far.is;
  shows = shows_fewer only.goes only.disk only.images.back so_far.shows;
  even = so_far.even;
  stops = along_source (IsRunMoment M A opening.machine so_far.rows so_far.view.machine None was) so_far.stops only;
}

-- A step was made, whether it gave a reply or not.
pub stops_step : {S H : Type 0} {M : Meaning S} {C : Conduct S H} {A : Acking} {opening : View S} {was : List ℕ} {entry a b : Outside} {session : S} {had : List Exchange} (r : Request)
    (so_far : Reached M C A opening was entry a session had) → DiskOnly a b → Leaves a b (StandsDuring M so_far.view.machine r)
    → Along entry b (IsRunMoment M A opening.machine so_far.rows so_far.view.machine (Some r) was)
stops_step {S} {H} {M} {C} {A} {opening} {was} {entry} {a} {b} r so_far only leaves =
    along_disk (IsRunMoment M A opening.machine so_far.rows so_far.view.machine (Some r) was) (StandsDuring M so_far.view.machine r)
    (along_wider (IsRunMoment M A opening.machine so_far.rows so_far.view.machine None was) (IsRunMoment M A opening.machine so_far.rows so_far.view.machine (Some r) was) so_far.stops begun)
    only leaves during
  where
    here : List ℕ → List ℕ → Type 0
    here s d = IsRunMoment M A opening.machine so_far.rows so_far.view.machine (Some r) was s d

    begun : (s d : List ℕ) → IsRunMoment M A opening.machine so_far.rows so_far.view.machine None was s d → here s d
    begun s d moment = record {
      number = moment.number;
      table = moment.table;
      after = ⊎_elim (λ c. inl c) (λ flight. absurd flight) moment.after;
      stands = moment.stands;
      more = moment.more;
      sent = moment.sent;
      may = moment.may;
    }

    whole : (s : List ℕ) → a.sent ≡ Some s → s ≡ was ++ output_of so_far.rows
    whole s sent = same_Some s (was ++ output_of so_far.rows) (sym sent ∙ so_far.sent)

    during : (s d : List ℕ) → a.sent ≡ Some s → StandsDuring M so_far.view.machine r d → here s d
    during s d sent stands = ⊎_elim
        (λ old. record {
          number = so_far.view.machine.committed.last;
          table = so_far.view.machine.committed;
          after = inl (committed_last M C a was entry.clock [] opening so_far.view so_far.rows so_far.trail);
          stands = old;
          more = output_of so_far.rows;
          sent = whole s sent;
          may = A.now opening.machine.committed.last (output_of so_far.rows) so_far.view.machine.committed.last so_far.even;
        })
        (λ new. record {
          number = so_far.view.machine.committed.last + 1;
          table = table_committed so_far.view.machine;
          after = inr (new.0, refl, refl);
          stands = new.1;
          more = output_of so_far.rows;
          sent = whole s sent;
          may = A.next opening.machine.committed.last (output_of so_far.rows) so_far.view.machine.committed.last so_far.even;
        }) stands

-- ---- a reply was told whole

-- A text was sent whole: the view after it shows now.
pub shows_now : {S : Type 0} (M : Meaning S) {c : Outside} (sent : List ℕ) (v : View S) → IsWorld c → c.sent ≡ Some sent → ShowsNow M c v → ShowsAt M c c.clock sent v
shows_now M {c} sent v world is shows = record {
  stood = world.stands_now sent v.disk v.disk is shows.holds (world.held_may_stay v.disk shows.holds);
  shows = M.narrower c.images (c.stood c.clock sent v.disk) v (λ e there. (world.stands_only sent v.disk e there).2) shows.shows;
}

-- The row of an exchange whose text was sent whole just now.
abbrev row_now : {S : Type 0} → Outside → Exchange → Pick → View S → Row S
row_now c had pick view = record { had = had; pick = pick; view = view; time = c.clock }

reached_more : {S H : Type 0} {M : Meaning S} {C : Conduct S H} {A : Acking} {opening : View S} {was : List ℕ} {entry a b c : Outside} {session now_session : S} {had : List Exchange}
    (so_far : Reached M C A opening was entry a session had) (last : Exchange) (pick : Pick) (view : View S) (asked : Option Request)
    → StepsTo M so_far.view last.reading pick last.told view → LineKept M C (last_time entry.clock so_far.rows) c.clock c so_far.view last.reading last.told view
    → view.session ≡ now_session → ShowsNow M b view → IsWorld a → Goes a b
    → Covers A opening.machine so_far.rows so_far.view.machine asked last.text view.machine.committed.last view.machine.committed
    → IsWorld c → SinkOnly b c → c.sent ≡ Some (was ++ output_of so_far.rows ++ last.text)
    → Along entry c (IsRunMoment M A opening.machine so_far.rows so_far.view.machine asked was)
    → Reached M C A opening was entry c now_session (had ++ last ∷ [])
reached_more {S} {H} {M} {C} {A} {opening} {was} {entry} {a} {b} {c} {session} {now_session} {had} so_far last pick view asked steps kept is shows early goes covers world only sent along =
    let row : Row S = row_now c last pick view in
    let now_shows : ShowsNow M c view = shows_sent only shows in
    let whole : was ++ output_of so_far.rows ++ last.text ≡ was ++ (output_of so_far.rows ++ last.text) = append_assoc was (output_of so_far.rows) last.text in
    let later : Goes a c = goes_trans goes only.goes in
    let before : last_time entry.clock so_far.rows ≤ a.clock = rows_by_now so_far early in
    record {
      rows = so_far.rows ++ row ∷ [];
      view = view;
      heard = exchanges_more so_far.rows row ∙ ap (λ (l : List Exchange). l ++ last ∷ []) so_far.heard;
      sent = sent ∙ ap (λ (l : List ℕ). Some l) (whole ∙ ap (λ (l : List ℕ). was ++ l) (sym (output_more so_far.rows row)));
      trail = trail_more M C c was entry.clock [] opening so_far.view so_far.rows row (trail_later so_far early later) (record {
        steps = steps;
        kept = kept;
        later = omega (arith, before, later.clock);
        shown = shows_now M (was ++ (output_of so_far.rows ++ last.text)) view world (sent ∙ ap (λ (l : List ℕ). Some l) whole) now_shows;
      });
      is = is;
      shows = now_shows;
      even = subst (λ (l : List ℕ). A.Even opening.machine.committed.last l view.machine.committed.last) (sym (output_more so_far.rows row)) covers.even;
      stops = along_wider (IsRunMoment M A opening.machine so_far.rows so_far.view.machine asked was) (IsRunMoment M A opening.machine (so_far.rows ++ row ∷ []) view.machine None was) along closed;
    }
  where
    row : Row S
    row = row_now c last pick view

    closed : (s d : List ℕ) → IsRunMoment M A opening.machine so_far.rows so_far.view.machine asked was s d → IsRunMoment M A opening.machine (so_far.rows ++ row ∷ []) view.machine None was s d
    closed s d moment = record {
      number = moment.number;
      table = moment.table;
      after = inl (⊎_elim (λ early. committed_more opening.machine so_far.rows row moment.number moment.table early)
          (λ flight. let same = covers.closes moment.number moment.table flight in
          subst (λ (pair : ℕ × Table). Committed opening.machine (so_far.rows ++ row ∷ []) pair.0 pair.1) (λ i. (sym same.0 i, sym same.1 i)) (committed_row opening.machine so_far.rows row))
          moment.after);
      stands = moment.stands;
      more = moment.more;
      sent = moment.sent;
      may = moment.may;
    }

along_step : {S H : Type 0} {M : Meaning S} {C : Conduct S H} {A : Acking} {opening : View S} {was : List ℕ} {entry a b c : Outside} {session now_session : S} {had : List Exchange} {r : Request} {told : Reply} {text : List ℕ}
    (so_far : Reached M C A opening was entry a session had) (stepped : Stepped M so_far.view r told now_session b)
    → A.Tells told text → DiskOnly a b → Leaves a b (StandsDuring M so_far.view.machine r) → (n : ℕ) → SentFront b c text n
    → Along entry c (IsRunMoment M A opening.machine so_far.rows so_far.view.machine (Some r) was)
along_step {S} {H} {M} {C} {A} {opening} {was} {entry} {a} {b} {c} {session} {now_session} {had} {r} {told} {text} so_far stepped tells only leaves n sending =
    along_sending M A opening.machine so_far.rows so_far.view.machine (Some r) was text stepped.after.machine.committed.last stepped.after.machine.committed n
    (covers_step so_far stepped tells) (λ d here. M.stands b.images stepped.after d stepped.shows.shows here)
    (only.sent ∙ so_far.sent) (sending.sent (was ++ output_of so_far.rows) (only.sent ∙ so_far.sent)) sending.only
    (stops_step r so_far only leaves)

-- the reply of a step from what was reached
pub reply_of_step : {S H : Type 0} {M : Meaning S} {C : Conduct S H} {A : Acking} {opening : View S} {was : List ℕ} {entry a b : Outside} {session now_session : S} {had : List Exchange} {r : Request} {told : Reply}
    (so_far : Reached M C A opening was entry a session had) → IsTrue (is_request r) → Stepped M so_far.view r told now_session b → IsReply told
reply_of_step {S} {H} {M} {C} {A} {opening} {was} {entry} {a} {b} {session} {now_session} {had} {r} {told} so_far formed stepped =
    talking.stepped so_far.view.machine r (M.pick so_far.view r stepped.after) stepped.after.machine (M.rules a.images so_far.view so_far.shows.shows) formed stepped.step

pub reached_answered : {S H : Type 0} {M : Meaning S} {C : Conduct S H} {A : Acking} {opening : View S} {was : List ℕ} {entry a b c : Outside} {session now_session : S} {had : List Exchange} {r : Request} {told : Reply} {text : List ℕ}
    (so_far : Reached M C A opening was entry a session had) → A.Tells told text → (stepped : Stepped M so_far.view r told now_session b) → LineKept M C a.clock b.clock b so_far.view (Asks r) told stepped.after
    → IsWorld a → DiskOnly a b → Leaves a b (StandsDuring M so_far.view.machine r) → IsWorld c → SentFront b c text (length text)
    → Reached M C A opening was entry c now_session (had ++ record { reading = Asks r; told = told; text = text } ∷ [])
reached_answered {S} {H} {M} {C} {A} {opening} {was} {entry} {a} {b} {c} {session} {now_session} {had} {r} {told} {text} so_far tells stepped kept early only leaves world sending =
    reached_more so_far (record { reading = Asks r; told = told; text = text }) (M.pick so_far.view r stepped.after) stepped.after (Some r) (stepped.step, refl)
    (line_kept_within (rows_by_now so_far early) sending.only.goes.clock sending.only.goes kept) stepped.is stepped.shows early only.goes (covers_step so_far stepped tells) world sending.only
    (sending.sent (was ++ output_of so_far.rows) (only.sent ∙ so_far.sent) ∙ ap (λ (l : List ℕ). Some (was ++ output_of so_far.rows ++ l)) (take-length text))
    (along_step so_far stepped tells only leaves (length text) sending)

along_refusal : {S H : Type 0} {M : Meaning S} {C : Conduct S H} {A : Acking} {opening : View S} {was : List ℕ} {entry a c : Outside} {session : S} {had : List Exchange} {text : List ℕ}
    (so_far : Reached M C A opening was entry a session had) (why : Refusal) → A.Tells (reply.No why) text → (n : ℕ) → SentFront a c text n
    → Along entry c (IsRunMoment M A opening.machine so_far.rows so_far.view.machine None was)
along_refusal {S} {H} {M} {C} {A} {opening} {was} {entry} {a} {c} {text = text} so_far why tells n sending =
    along_sending M A opening.machine so_far.rows so_far.view.machine None was text so_far.view.machine.committed.last so_far.view.machine.committed n
    (covers_refused so_far why tells) (λ d here. M.stands a.images so_far.view d so_far.shows.shows here)
    so_far.sent (sending.sent (was ++ output_of so_far.rows) so_far.sent) sending.only so_far.stops

pub reached_refused : {S H : Type 0} {M : Meaning S} {C : Conduct S H} {A : Acking} {opening : View S} {was : List ℕ} {entry a c : Outside} {session : S} {had : List Exchange} {text : List ℕ}
    (so_far : Reached M C A opening was entry a session had) (why : Refusal) → A.Tells (reply.No why) text → IsWorld a → IsWorld c → SentFront a c text (length text)
    → Reached M C A opening was entry c session (had ++ record { reading = Fails why; told = reply.No why; text = text } ∷ [])
reached_refused {S} {H} {M} {C} {A} {opening} {was} {entry} {a} {c} {text = text} so_far why tells early world sending =
    reached_more so_far (record { reading = Fails why; told = reply.No why; text = text }) no_pick so_far.view None (refl, refl) tt so_far.is so_far.shows early (goes_refl a) (covers_refused so_far why tells) world sending.only
    (sending.sent (was ++ output_of so_far.rows) so_far.sent ∙ ap (λ (l : List ℕ). Some (was ++ output_of so_far.rows ++ l)) (take-length text))
    (along_refusal so_far why tells (length text) sending)

-- ---- the run was cut short

-- before a line was taken
pub cut_taken : {S H : Type 0} {M : Meaning S} {C : Conduct S H} {A : Acking} (text : Reply → List ℕ) {opening : View S} {was : List ℕ} {entry a : Outside} {session : S} {had : List Exchange} → Reached M C A opening was entry a session had
    → (why : Stopped) → IsTakingStop why → CutShort M C A text opening was entry a had None why
cut_taken text {was = was} so_far why taking = record {
  rows = so_far.rows;
  view = so_far.view;
  heard = so_far.heard;
  front = [];
  sent = so_far.sent ∙ ap (λ (l : List ℕ). Some l) (sym (append-nil (was ++ output_of so_far.rows)));
  is_front = refl;
  uncut = λ other. refl;
  trail = so_far.trail;
  kept = inl (inl taking);
  stops = so_far.stops;
}

-- in a line's step
pub cut_step : {S H : Type 0} {M : Meaning S} {C : Conduct S H} {A : Acking} (text : Reply → List ℕ) {opening : View S} {was : List ℕ} {entry a b : Outside} {session : S} {had : List Exchange} (r : Request)
    (so_far : Reached M C A opening was entry a session had) → IsWorld a → DiskOnly a b → Leaves a b (StandsDuring M so_far.view.machine r)
    → (why : Stopped) (stop : Stop) (now_session : S) → Some why ≡ stop_as stop → StepKept M C a.clock b.clock b so_far.view r (Err stop) now_session → CutShort M C A text opening was entry b had (Some (Asks r)) why
cut_step text {was = was} {b = b} r so_far early only leaves why stop now_session is kept = record {
  rows = so_far.rows;
  view = so_far.view;
  heard = so_far.heard;
  front = [];
  sent = only.sent ∙ so_far.sent ∙ ap (λ (l : List ℕ). Some l) (sym (append-nil (was ++ output_of so_far.rows)));
  is_front = inl refl;
  uncut = λ other. refl;
  trail = trail_later so_far early only.goes;
  kept = record { result = Err stop; session = now_session; ends = is; kept = step_kept_within (rows_by_now so_far early) (omega arith) (goes_refl b) kept; stepped = tt };
  stops = stops_step r so_far only leaves;
}

-- What was sent of a text is a front of it, and nothing where the sink didn't fail.
front_sent : {S : Type 0} (M : Meaning S) (text : Reply → List ℕ) (before : View S) (reading : Reading) (pick : Pick) (told : Reply) (view : View S) → StepsTo M before reading pick told view
    → {why : Stopped} {b c : Outside} (sending : SentPart why b c (text told))
    → LastText M text before (Some reading) (take sending.n (text told)) × ((why ≡ Output → ⊥) → take sending.n (text told) ≡ [])
front_sent M text before reading pick told view steps {why} sending = ⊎_elim
    (λ none. let nothing : take sending.n (text told) ≡ [] = ap (λ (n : ℕ). take n (text told)) none in (inl nothing, λ other. nothing))
    (λ cut. (inr (record { pick = pick; told = told; view = view; steps = steps; n = sending.n; short = cut.1; is = refl }), λ other. absurd (other cut.0)))
    sending.cut

-- while a reply was told
pub cut_answered : {S H : Type 0} {M : Meaning S} {C : Conduct S H} {A : Acking} (text : Reply → List ℕ) {opening : View S} {was : List ℕ} {entry a b c : Outside} {session now_session : S} {had : List Exchange} {r : Request} {told : Reply}
    (so_far : Reached M C A opening was entry a session had) → A.Tells told (text told) → (stepped : Stepped M so_far.view r told now_session b) → LineKept M C a.clock b.clock b so_far.view (Asks r) told stepped.after
    → IsWorld a → DiskOnly a b → Leaves a b (StandsDuring M so_far.view.machine r) → (why : Stopped) → IsSendingStop why → SentPart why b c (text told)
    → CutShort M C A text opening was entry c had (Some (Asks r)) why
cut_answered {S} {H} {M} {C} text {was = was} {r = r} {told = told} so_far tells stepped kept early only leaves why stops sending =
    let front = front_sent M text so_far.view (Asks r) (M.pick so_far.view r stepped.after) told stepped.after (stepped.step, refl) sending in
    let line = line_kept_within (rows_by_now so_far early) sending.front.only.goes.clock sending.front.only.goes kept in record {
      rows = so_far.rows;
      view = so_far.view;
      heard = so_far.heard;
      front = take sending.n (text told);
      sent = sending.front.sent (was ++ output_of so_far.rows) (only.sent ∙ so_far.sent);
      is_front = front.0;
      uncut = front.1;
      trail = trail_later so_far early (goes_trans only.goes sending.front.only.goes);
      kept = record {
        result = Ok told;
        session = stepped.after.session;
        ends = stops;
        kept = line.0;
        stepped = record { after = stepped.after; is = refl; shows = line.1; step = stepped.step };
      };
      stops = along_step so_far stepped tells only leaves sending.n sending.front;
    }

pub cut_refused : {S H : Type 0} {M : Meaning S} {C : Conduct S H} {A : Acking} (text : Reply → List ℕ) {opening : View S} {was : List ℕ} {entry a c : Outside} {session : S} {had : List Exchange}
    (so_far : Reached M C A opening was entry a session had) (refusal : Refusal) → A.Tells (reply.No refusal) (text (reply.No refusal)) → IsWorld a
    → (why : Stopped) → IsSendingStop why → SentPart why a c (text (reply.No refusal)) → CutShort M C A text opening was entry c had (Some (Fails refusal)) why
cut_refused {S} {H} {M} {C} text {was = was} so_far refusal tells early why stops sending =
    let front = front_sent M text so_far.view (Fails refusal) no_pick (reply.No refusal) so_far.view (refl, refl) sending in record {
      rows = so_far.rows;
      view = so_far.view;
      heard = so_far.heard;
      front = take sending.n (text (reply.No refusal));
      sent = sending.front.sent (was ++ output_of so_far.rows) so_far.sent;
      is_front = front.0;
      uncut = front.1;
      trail = trail_later so_far early sending.front.only.goes;
      kept = inl (inr stops);
      stops = along_refusal so_far refusal tells sending.n sending.front;
    }

-- ---- the end of the lines

-- The third sentence holds on over calls on the disk that leave the committed table.
pub stops_kept : {S H : Type 0} {M : Meaning S} {C : Conduct S H} {A : Acking} {opening : View S} {was : List ℕ} {entry a b : Outside} {session : S} {had : List Exchange}
    (so_far : Reached M C A opening was entry a session had) → DiskOnly a b → Leaves a b (λ d. M.StandsFor d so_far.view.machine.committed)
    → Along entry b (IsRunMoment M A opening.machine so_far.rows so_far.view.machine None was)
stops_kept {S} {H} {M} {C} {A} {opening} {was} {entry} {a} {b} so_far only leaves =
    along_disk (IsRunMoment M A opening.machine so_far.rows so_far.view.machine None was) (λ d. M.StandsFor d so_far.view.machine.committed) so_far.stops only leaves
    (λ s d sent stands. record {
      number = so_far.view.machine.committed.last;
      table = so_far.view.machine.committed;
      after = inl (committed_last M C a was entry.clock [] opening so_far.view so_far.rows so_far.trail);
      stands = stands;
      more = output_of so_far.rows;
      sent = same_Some s (was ++ output_of so_far.rows) (sym sent ∙ so_far.sent);
      may = A.now opening.machine.committed.last (output_of so_far.rows) so_far.view.machine.committed.last so_far.even;
    })

pub cut_ending : {S H : Type 0} {M : Meaning S} {C : Conduct S H} {A : Acking} (text : Reply → List ℕ) {opening : View S} {was : List ℕ} {entry a b : Outside} {session : S} {had : List Exchange}
    (so_far : Reached M C A opening was entry a session had) → IsWorld a → DiskOnly a b → Leaves a b (λ d. M.StandsFor d so_far.view.machine.committed) → (why : Stopped) (stop : Stop) (now_session : S)
    → Some why ≡ stop_as stop → StepKept M C a.clock b.clock b so_far.view Abort (Err stop) now_session → CutShort M C A text opening was entry b had None why
cut_ending text {was = was} {b = b} so_far early only leaves why stop now_session is kept = record {
  rows = so_far.rows;
  view = so_far.view;
  heard = so_far.heard;
  front = [];
  sent = only.sent ∙ so_far.sent ∙ ap (λ (l : List ℕ). Some l) (sym (append-nil (was ++ output_of so_far.rows)));
  is_front = refl;
  uncut = λ other. refl;
  trail = trail_later so_far early only.goes;
  kept = inr (record { stop = stop; session = now_session; is = is; kept = step_kept_within (rows_by_now so_far early) (omega arith) (goes_refl b) kept });
  stops = stops_kept so_far only leaves;
}

-- The abort at the end replied.
pub aborted : {S H : Type 0} {M : Meaning S} {C : Conduct S H} {since : ℕ} {b : Outside} {before : View S} {told : Reply} {now_session : S} (stepped : Stepped M before Abort told now_session b)
    → LineKept M C since b.clock b before (Asks Abort) told stepped.after → Ended M C since before b
aborted {told = told} stepped kept = record {
  after = stepped.after;
  told = told;
  step = stepped.step;
  kept = kept.0;
  left = kept.1;
  shows = stepped.shows;
}

-- The abort at the end came after the last row.
pub ended_after_rows : {S H : Type 0} {M : Meaning S} {C : Conduct S H} {A : Acking} {opening : View S} {was : List ℕ} {entry a b : Outside} {session : S} {had : List Exchange} (so_far : Reached M C A opening was entry a session had)
    → IsWorld a → Ended M C a.clock so_far.view b → Ended M C (last_time entry.clock so_far.rows) so_far.view b
ended_after_rows {b = b} so_far early ended =
    let line = line_kept_within {after = ended.after} (rows_by_now so_far early) (omega arith) (goes_refl b) (ended.kept, ended.left) in record {
      after = ended.after;
      told = ended.told;
      step = ended.step;
      kept = line.0;
      left = line.1;
      shows = ended.shows;
    }
