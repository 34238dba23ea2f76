-- From the opening of a volume to the end of its run.
use Rattle.std.proofs.Common.{◌≡◌, ◌∙◌, ℕ, Option, Some, None, List, [], ◌∷◌, ◌++◌, Result, Err, IfErr, IsTrue, refl, sym, ap, subst, inl, ⊎_elim}
use Rattle.std.specs.Prelude.{◌≢◌}
use Rattle.std.specs.Result.{result_err}
use Rattle.std.proofs.lemmas.List.{append-nil}
use Rattle.std.proofs.lemmas.Option.{same_Some}
use Rattle.disk_model.specs.Outside.{Outside, IsWorld, DiskOnly, Goes, Along, Leaves, Only, Rose, WritesNothing}
use Rattle.disk_model.specs.Runs.{along_start, along_disk, along_wider, adds_trans, goes_refl, leaves_wider, goes_trans, reads_refl}
use Rattle.table_model.specs.declared.table.Table.{Table}
use Rattle.table_model.specs.declared.machine.Machine.{Machine}
use Rattle.table_model.specs.Requests.{Request}
use Rattle.script_lang.specs.Reading.{Reading}
use Rattle.session_views.specs.declared.OpenFault.{OpenFault}
use Rattle.session_views.specs.declared.OpenFault.TheVariants as open_fault
use Rattle.session_views.specs.declared.Part.{Part}
use Rattle.session_views.specs.View.{View, Meaning}
use Rattle.session_views.specs.Opening.{StandsOpening}
use Rattle.engines.specs.Keeping.{Conduct}
use Rattle.talks.specs.Opening.{Opened}
use Rattle.talks.specs.Acking.{Acking}
use Rattle.talks.specs.Headline.{HoldsTable, RunOn, RunOpens, RunStarts, OpenedAt, SteppedTalk, Unopened}
use Rattle.talks.specs.Passage.{ByDamagedStep}
use Rattle.talks.specs.Stops.{CausedBy, IsLinesStop, IsOpeningStop, IsSoundStop, unopened_as}
use Rattle.talks.specs.Talking.{Exchange, Talking}
use Rattle.talks.specs.Transcript.{Row, Committed, IsRunMoment, Opens, Reached, CutShort, Ended, output_of, request_in}
use Rattle.talks.specs.declared.stopped.Stopped.{Stopped}
use Rattle.talks.specs.declared.stopped.Stopped.TheVariants.{Disk}
use Rattle.talks.proofs.Going.{ended_after_rows, shows_now, stops_kept, trail_later}
use Rattle.talks.proofs.Rows.{shows_at_later}
use Rattle.talks.proofs.Stopping.{bad_part, opening_caused, opening_sound, opening_stop, opening_undamaged, stop_is, lines_good}

-- one run after the other
along_trans : {a b c : Outside} (P : List ℕ → List ℕ → Type 0) → Along a b P → Along b c P → Along a c P
along_trans {a} {b} {c} P one two = record {
  goes = goes_trans one.goes two.goes;
  each = λ s d m. ⊎_elim (λ before. one.each s d before) (λ new. new) (two.adds.each a.clock s d one.goes.clock m);
  adds = adds_trans P one.goes.clock one.adds two.adds;
  stands = two.stands;
}

-- The opening of a volume leaves images of its table.
pub leaves_table : {S : Type 0} {M : Meaning S} {entry mid : Outside} {table : Table} {was : List ℕ} (starts : RunStarts M entry table was)
    → Leaves entry mid (StandsOpening M entry.images starts.on.image) → Leaves entry mid (λ d. M.StandsFor d table)
leaves_table {S} {M} {entry} {mid} {table} {was} starts leaves =
    leaves_wider (StandsOpening M entry.images starts.on.image) (λ d. M.StandsFor d table) leaves
    (λ d here. ⊎_elim (λ early. as_entry d (starts.settled d early))
    (λ later. ⊎_elim (as_entry d) (λ same. subst (λ (t : Table). M.StandsFor d t) (starts.alone same.table same.was) same.stands) later) here)
  where
    as_entry : (d : List ℕ) → d ≡ starts.on.image → M.StandsFor d table
    as_entry d same = subst (λ (x : List ℕ). M.StandsFor x table) (sym same) starts.on.stands

-- ---- the opening of a run

along_open : {S : Type 0} {M : Meaning S} {entry mid : Outside} {table : Table} {was : List ℕ} → IsWorld entry → (starts : RunStarts M entry table was)
    → DiskOnly entry mid → Leaves entry mid (λ d. M.StandsFor d table) → Along entry mid (λ s d. (s ≡ was) × M.StandsFor d table)
along_open {S} {M} {entry} {mid} {table} {was} world starts only leaves =
    along_disk (λ s d. (s ≡ was) × M.StandsFor d table) (λ d. M.StandsFor d table) (along_entry world starts)
    only leaves (λ s d sent stands. (same_Some s was (sym sent ∙ starts.on.sent), stands))
  where
    along_entry : {S : Type 0} {M : Meaning S} {entry : Outside} {table : Table} {was : List ℕ} → IsWorld entry → RunStarts M entry table was
        → Along entry entry (λ s d. (s ≡ was) × M.StandsFor d table)
    along_entry {S} {M} {entry} {table} {was} world starts =
        along_start entry (λ s d. (s ≡ was) × M.StandsFor d table) world (record {
          now = λ s d sent here. (same_Some s was (sym sent ∙ starts.on.sent), subst (λ (x : List ℕ). M.StandsFor x table) (sym (starts.settled d here)) starts.on.stands);
        })

pub unopened : {S : Type 0} {M : Meaning S} {entry mid : Outside} {table : Table} {was : List ℕ} → IsWorld entry → (starts : RunStarts M entry table was)
    → DiskOnly entry mid → Leaves entry mid (λ d. M.StandsFor d table) → (why : Stopped) → IsOpeningStop why → Unopened M table was entry mid (Some why)
unopened world starts only leaves why opening = record {
  why = why;
  is = refl;
  opening = opening;
  sent = only.sent ∙ starts.on.sent;
  left = only.left;
  stops = along_open world starts only leaves;
}

committed_first : {S : Type 0} (m : Machine) (rows : List (Row S)) (t : Table) → t ≡ m.committed → Committed m rows m.committed.last t
committed_first m [] t same = (refl, same)
committed_first m (row ∷ rows) t same = inl (refl, same)

-- What the opening leaves is the table that was committed when the lines began.
opening_moment : {S : Type 0} (M : Meaning S) (A : Acking) (opening : Machine) (rows : List (Row S)) (last : Machine) (asked : Option Request) (was : List ℕ) (table : Table)
    → table ≡ opening.committed → (s d : List ℕ) → (s ≡ was) × M.StandsFor d table → IsRunMoment M A opening rows last asked was s d
opening_moment M A opening rows last asked was table same s d here = record {
  number = opening.committed.last;
  table = table;
  after = inl (committed_first opening rows table same);
  stands = here.1;
  more = [];
  sent = here.0 ∙ sym (append-nil was);
  may = A.now opening.committed.last [] opening.committed.last (A.start opening.committed.last);
}

stops_open : {S : Type 0} {M : Meaning S} {Fresh : View S → Type 0} (A : Acking) {entry mid now : Outside} {session : S} {table : Table} {was : List ℕ} → IsWorld entry → (starts : RunStarts M entry table was)
    → DiskOnly entry mid → Leaves entry mid (λ d. M.StandsFor d table) → (opened : Opened M Fresh table session mid) (rows : List (Row S)) (last : Machine) (asked : Option Request)
    → Along mid now (IsRunMoment M A opened.view.machine rows last asked was) → Along entry now (IsRunMoment M A opened.view.machine rows last asked was)
stops_open {S} {M} {Fresh} A {entry} {mid} {now} {session} {table} {was} world starts only leaves opened rows last asked along =
    along_trans (IsRunMoment M A opened.view.machine rows last asked was)
    (along_wider (λ s d. (s ≡ was) × M.StandsFor d table) (IsRunMoment M A opened.view.machine rows last asked was) (along_open world starts only leaves)
    (opening_moment M A opened.view.machine rows last asked was table (sym (ap (λ (m : Machine). m.committed) opened.starts.is)))) along

pub opens_of : {S : Type 0} {M : Meaning S} {Fresh : View S → Type 0} {entry mid : Outside} {session : S} {table : Table} {was : List ℕ} → HoldsTable M entry table was → DiskOnly entry mid
    → (opened : Opened M Fresh table session mid) → Opens M mid opened.view was
opens_of on only opened = record { shows = opened.shows; sent = only.sent ∙ on.sent }

-- The opening view shows on, at the time when the volume was opened.
opened_at : {S : Type 0} {M : Meaning S} {Fresh : View S → Type 0} {entry mid now : Outside} {session : S} {table : Table} {was : List ℕ} → RunStarts M entry table was → DiskOnly entry mid → IsWorld mid → Goes mid now
    → (opened : Opened M Fresh table session mid) → OpenedAt M Fresh table was entry now mid.clock opened.view
opened_at {M = M} {was = was} starts only mid_world goes opened = record {
  starts = opened.starts;
  fresh = opened.fresh;
  later = only.goes.clock;
  shown = shows_at_later M mid_world goes (shows_now M was opened.view mid_world (only.sent ∙ starts.on.sent) opened.shows);
}

-- ---- the whole run

pub stepped_whole : {S H T : Type 0} {M : Meaning S} {C : Conduct S H} {Fresh : View S → Type 0} (K : Talking T) (first talk : T) {entry mid end now : Outside} {session now_session : S} {table : Table} {was : List ℕ} {had : List Exchange} → IsWorld entry → IsWorld mid → IsWorld end
    → (starts : RunStarts M entry table was) → DiskOnly entry mid → Leaves entry mid (λ d. M.StandsFor d table) → (opened : Opened M Fresh table session mid)
    → (so_far : Reached M C K.acking opened.view was mid end now_session had) → DiskOnly end now → Leaves end now (λ d. M.StandsFor d so_far.view.machine.committed)
    → Ended M C end.clock so_far.view now → K.Over first entry.left had talk now.left → SteppedTalk M C Fresh K first talk table was entry now None
stepped_whole {S} {H} {T} {M} {C} {Fresh} K first talk {entry} {mid} {end} {now} {session} {now_session} {table} {was} {had} world mid_world end_world starts only leaves opened so_far end_only end_leaves ended over =
    let stops = stops_kept so_far end_only end_leaves in record {
      opening = opened.view;
      time = mid.clock;
      opened = opened_at starts only mid_world stops.goes opened;
      rows = so_far.rows;
      after = so_far.view;
      last = None;
      at = talk;
      talked = (refl, subst (λ (l : List Exchange). K.Over first entry.left l talk now.left) (sym so_far.heard) over);
      front = [];
      sent = end_only.sent ∙ so_far.sent ∙ ap (λ (l : List ℕ). Some l) (sym (append-nil (was ++ output_of so_far.rows)));
      is_front = refl;
      uncut = λ other. refl;
      trail = trail_later so_far end_world end_only.goes;
      kept = tt;
      ended = λ is. ended_after_rows so_far end_world ended;
      stops = stops_open K.acking world starts only leaves opened so_far.rows so_far.view.machine None stops;
    }

pub stepped_cut : {S H T : Type 0} {M : Meaning S} {C : Conduct S H} {Fresh : View S → Type 0} (K : Talking T) (first talk at : T) {entry mid now : Outside} {session : S} {table : Table} {was : List ℕ} {had : List Exchange} {last : Option Reading} → IsWorld entry → IsWorld mid
    → (starts : RunStarts M entry table was) → DiskOnly entry mid → Leaves entry mid (λ d. M.StandsFor d table) → (opened : Opened M Fresh table session mid) (why : Stopped)
    → CutShort M C K.acking (K.text at) opened.view was mid now had last why → K.Broken first entry.left had last why at now.left → SteppedTalk M C Fresh K first talk table was entry now (Some why)
stepped_cut {S} {H} {T} {M} {C} {Fresh} K first talk at {entry} {mid} {now} {session} {table} {was} {had} {last} world mid_world starts only leaves opened why cut broken = record {
  opening = opened.view;
  time = mid.clock;
  opened = opened_at starts only mid_world cut.stops.goes opened;
  rows = cut.rows;
  after = cut.view;
  last = last;
  at = at;
  talked = subst (λ (l : List Exchange). K.Broken first entry.left l last why at now.left) (sym cut.heard) broken;
  front = cut.front;
  sent = cut.sent;
  is_front = cut.is_front;
  uncut = λ other. cut.uncut (λ same. other (ap (λ (w : Stopped). Some w) same));
  trail = cut.trail;
  kept = cut.kept;
  ended = λ end. absurd (cc);
  stops = stops_open K.acking world starts only leaves opened cut.rows cut.view.machine (request_in last) cut.stops;
}

-- ---- what becomes of the disk, and why a run was stopped

-- The volume wasn't opened.
pub run_unopened : {S H : Type 0} {M : Meaning S} {C : Conduct S H} {a b : Outside} (fault : OpenFault) → (fault ≡ open_fault.Disk → Rose a.disk_faults b.disk_faults)
    → ((part : Part) → fault ≡ open_fault.BadVolume part → (image : List ℕ) → a.disk ≡ Some image → M.FirstBad image part)
    → ((part : Part) → fault ≡ open_fault.BadVolume part → WritesNothing a b)
    → ((part : Part) → fault ≡ open_fault.BadVolume part → IsTrue a.honest → (image : List ℕ) → a.disk ≡ Some image → (b.disk ≡ Some image) × Only image b.images)
    → ((image : List ℕ) (part : Part) → a.disk ≡ Some image → M.FirstBad image part → WritesNothing a b)
    → (fault ≢ open_fault.Disk → b.disk_faults ≡ a.disk_faults) → RunOn M C a b (Some (unopened_as fault))
run_unopened {S} {H} {M} {C} {a} {b} fault disk bad only kept left told = record {
  caused = opening_caused fault a b disk;
  damaged = opening_undamaged C a b (unopened_as fault) (opening_stop fault);
  sound = λ table was on. opening_sound fault (λ part is. M.no_table on.image table part on.stands (bad part is on.image on.holds));
  bad = λ part is. bad part (bad_part fault part is);
  bad_only = λ part is. only part (bad_part fault part is);
  bad_kept = λ part is image honest holds. kept part (bad_part fault part is) honest image holds;
  unopened = λ image part holds fails. (unopened_as fault, refl, opening_stop fault);
  left = left;
  told = λ other. told (λ is. other (ap (λ f. Some (unopened_as f)) is));
}

-- It was opened, and the lines went to their end or were stopped.
pub run_opened : {S H T : Type 0} {M : Meaning S} {C : Conduct S H} {a b : Outside} (r : Result T Stopped) → ((image : List ℕ) → a.disk ≡ Some image → (table : Table) × M.StandsFor image table)
    → IfErr r IsLinesStop → IfErr r (λ why. CausedBy why a b) → IfErr r (ByDamagedStep C a b) → ((table : Table) (was : List ℕ) → HoldsTable M a table was → IfErr r IsSoundStop)
    → (r ≢ Err Disk → b.disk_faults ≡ a.disk_faults) → RunOn M C a b (result_err r)
run_opened {S} {H} {T} {M} {C} {a} {b} r opened stops caused damaged sound told = record {
  caused = stop_is r (λ why. CausedBy why a b) caused;
  damaged = stop_is r (ByDamagedStep C a b) damaged;
  sound = λ table was on. stop_is r IsSoundStop (sound table was on);
  bad = λ part is. absurd (lines_good r part stops is);
  bad_only = λ part is. absurd (lines_good r part stops is);
  bad_kept = λ part is. absurd (lines_good r part stops is);
  unopened = λ image part holds fails. absurd (good image part holds fails);
  left = λ image part holds fails. absurd (good image part holds fails);
  told = λ other. told (λ is. other (ap result_err is));
}
  where
    good : (image : List ℕ) (part : Part) → a.disk ≡ Some image → M.FirstBad image part → ⊥
    good image part holds fails = let stands = opened image holds in M.no_table image stands.0 part stands.1 fails

-- ---- how it began

-- The opening answered a volume,
pub opens_first : {S H : Type 0} {M : Meaning S} {C : Conduct S H} {Fresh : View S → Type 0} {Does : Outside → Outside → Option OpenFault → Type 0} {a b : Outside} {session : S} (then : H) (ending : Option Stopped)
    → Does a (C.outside then) None → DiskOnly a (C.outside then) → Goes (C.outside then) b
    → ((image : List ℕ) (table : Table) → IsTrue a.honest → a.disk ≡ Some image → M.StandsFor image table → Opened M Fresh table session (C.outside then)) → RunOpens M C Fresh Does a b ending
opens_first {session = session} then ending did only later shows = record {
  then = then;
  fault = None;
  did = did;
  only = only;
  later = later;
  shows = λ none table was on. (session, shows on.image table on.honest on.holds on.stands);
  failed = tt;
}

-- or a fault.
pub opens_none : {S H : Type 0} {M : Meaning S} {C : Conduct S H} {Fresh : View S → Type 0} {Does : Outside → Outside → Option OpenFault → Type 0} {a : Outside} (then : H) (fault : OpenFault)
    → Does a (C.outside then) (Some fault) → DiskOnly a (C.outside then) → RunOpens M C Fresh Does a (C.outside then) (Some (unopened_as fault))
opens_none {C = C} then fault did only = record {
  then = then;
  fault = Some fault;
  did = did;
  only = only;
  later = goes_refl (C.outside then);
  shows = λ none. absurd (cc);
  failed = (refl, reads_refl (C.outside then));
}
