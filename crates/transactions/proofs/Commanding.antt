-- One step on any command.
use Rattle.std.proofs.Common.{◌≡◌, ◌≢◌, ◌⊎◌, ℕ, List, Some, true, true≢false, Result, Ok, Err, sym, ap, subst, ◌∙◌}
use Rattle.std.specs.Prelude.{IfOk, IfErr}
use Rattle.disk_model.specs.Outside.{Outside, IsWorld}
use Rattle.session_views.specs.declared.stop.Stop.{Stop}
use Rattle.session_views.specs.declared.stop.Stop.TheVariants as stop
use Rattle.session_views.specs.View.{View, ShowsNow, Stepped}
use Rattle.table_model.specs.declared.reply.Reply.{Reply}
use Rattle.table_model.specs.Requests.{Request}
use Rattle.session_core.specs.Sessions.{SessionState, IsSession}
use Rattle.transactions.specs.Commands.{Answers, IsOfCatalog, asks_objects, changes_objects}
use Rattle.session_core.specs.Finding.{IfShown, IsOutside, LineStops}
use Rattle.transactions.specs.Lines.{ReadsLine, ScansLine, UpdatesLine}
use Rattle.session_core.specs.Meant.{meant}
use Rattle.session_core.specs.Steps.{IsQuiet, IsRefused, OnlyFrames, Steps, Stops, StepsQuietly}
use Rattle.session_core.specs.Updates.{WritesUnused}
use Rattle.disk_model.specs.Changes.{ChangesWithin}
use Rattle.op_log.specs.Log.{SaysLog}
use Rattle.op_log.specs.declared.record.LogRecord.{LogRecord}
use Rattle.volume_model.specs.Durable.{IsDurable}
use Rattle.session_core.proofs.Quiet.{quiet_moments}
use Rattle.session_core.proofs.Stopping.{disk_or_memory, quietly}
use Rattle.transactions.proofs.ScansLeft.{scans_stay}
use Rattle.session_core.proofs.Undisturbed.{durable_unwritten, records_unwritten, writes_nowhere}

-- ---- any command

-- on the catalog, and on what gives trees up
pub of_step : {a b : Outside} {old new : SessionState} (r s : Request) (result : Result Reply Stop) → r ≡ s → IsSession old → (IsOfCatalog s → IfErr result (Stops a b old)) → Steps a b old new s result → Answers a b old new r result
of_step {a} {b} {old} {new} r s result is session catalog steps = subst (λ (t : Request). Answers a b old new t result) (sym is) (record {
  only = steps.only;
  geometry = steps.geometry;
  down = steps.down;
  stops = steps.stops;
  sound = steps.sound;
  catalog = catalog;
  refused = steps.refused;
  quiet = λ quiet. (steps.quiet quiet).1;
  writes = λ quiet. writes_nowhere old (steps.quiet quiet).0;
  reads = λ alone. (steps.quiet alone.0).0;
  stepped = steps.stepped;
  any_moment = steps.any_moment;
  scans = scans_stay old.scans new.scans s steps.scans;
})

-- what stops for a fault of the disk alone blames no page
pub disk_alone : (a b : Outside) (old : SessionState) (result : Result Reply Stop) → IfErr result (λ why. why ≡ stop.Disk) → IfErr result (LineStops a b) → IfErr result (Stops a b old)
disk_alone a b old (Ok told) alone stops = tt
disk_alone a b old (Err why) alone stops = subst (Stops a b old) (sym alone) (subst (LineStops a b) alone stops)

pub of_quiet : {a b : Outside} {old new : SessionState} (r s : Request) (result : Result Reply Stop) → r ≡ s → IsWorld a → IsSession old → StepsQuietly a b old new s result → Answers a b old new r result
of_quiet r s result is world session quiet = of_step r s result is session (λ _. quiet.stops) (quietly s result world session quiet)

-- of each view by itself
each_view : (a b : Outside) (old new : SessionState) (r : Request) (result : Result Reply Stop) → IfOk result (λ told. IfShown a old (λ before. Stepped meant before r told new b)) → (before : View SessionState) → before.session ≡ old → ShowsNow meant a before
    → IfOk result (λ told. Stepped meant before r told new b)
each_view a b old new r (Ok told) steps = λ before same now. steps before same now
each_view a b old new r (Err why) steps = λ before same now. tt

-- on what reads objects
pub of_read : {a b : Outside} {old new : SessionState} (r s : Request) (result : Result Reply Stop) → r ≡ s → asks_objects s ≡ true → IsWorld a → ReadsLine a b old new s result → Answers a b old new r result
of_read {a} {b} {old} {new} r s result is asks world line = subst (λ (t : Request). Answers a b old new t result) (sym is) (record {
  only = line.only.reads.nothing.only;
  geometry = ap (λ (t : SessionState). t.geometry) line.only.same;
  down = ap (λ (t : SessionState). t.down) line.only.same;
  stops = line.stops;
  sound = line.sound;
  catalog = λ none. absurd (true≢false (sym asks ∙ none.0));
  refused = any_of result line.only;
  quiet = λ _. ap (λ (t : SessionState). t.log) line.only.same;
  writes = λ _. writes_nowhere old line.only.reads;
  reads = λ _. line.only.reads;
  stepped = each_view a b old new s result line.stepped;
  any_moment = λ before same now. quiet_moments s world line.only.reads before now;
  scans = scans_stay old.scans new.scans s (ap (λ (t : SessionState). t.scans) line.only.same);
})
  where
    any_of : (o : Result Reply Stop) → OnlyFrames a b old new → IfOk o (λ told. IsRefused told → OnlyFrames a b old new)
    any_of (Ok told) frames = λ _. frames
    any_of (Err why) frames = tt

-- on scans and groups
pub of_scans : {a b : Outside} {old new : SessionState} (r s : Request) (result : Result Reply Stop) → r ≡ s → IsWorld a → (IsOfCatalog s → IfErr result (Stops a b old)) → ScansLine a b old new s result → Answers a b old new r result
of_scans {a} {b} {old} {new} r s result is world catalog line = subst (λ (t : Request). Answers a b old new t result) (sym is) (record {
  only = line.reads.nothing.only;
  geometry = line.geometry;
  down = line.down;
  stops = line.stops;
  sound = line.sound;
  catalog = catalog;
  refused = line.refused;
  quiet = λ _. line.log;
  writes = λ _. writes_nowhere old line.reads;
  reads = λ _. line.reads;
  stepped = each_view a b old new s result line.stepped;
  any_moment = λ before same now. quiet_moments s world line.reads before now;
  scans = line.scans;
})

-- what asks more of the volume than its catalog
pub asks_more : (a b : Outside) (old : SessionState) (r : Request) (result : Result Reply Stop) → asks_objects r ≡ true → IsOfCatalog r → IfErr result (Stops a b old)
asks_more a b old r result asks none = absurd (true≢false (sym asks ∙ none.0))

-- and what stops for want of memory alone
pub memory_alone : (a b : Outside) (old : SessionState) (result : Result Reply Stop) → IfErr result (λ why. why ≡ stop.Memory) → IfErr result (Stops a b old)
memory_alone a b old (Ok told) alone = tt
memory_alone a b old (Err why) alone = subst (Stops a b old) (sym alone) tt

-- on what changes objects
pub of_update : {a b : Outside} {old new : SessionState} (r s : Request) (result : Result Reply Stop) → r ≡ s → changes_objects s ≡ true → asks_objects s ≡ true → UpdatesLine a b old new s result → Answers a b old new r result
of_update {a} {b} {old} {new} r s result is changes asks line = subst (λ (t : Request). Answers a b old new t result) (sym is) (record {
  only = line.only;
  geometry = line.geometry;
  down = line.down;
  stops = line.stops;
  sound = line.sound;
  catalog = λ none. absurd (true≢false (sym asks ∙ none.0));
  refused = line.refused;
  quiet = λ _. line.log;
  writes = λ _. line.writes;
  reads = λ alone. absurd (true≢false (sym changes ∙ alone.1));
  stepped = each_view a b old new s result line.stepped;
  any_moment = line.any_moment;
  scans = scans_stay old.scans new.scans s line.scans;
})

-- ---- what the engine promises, from a step

pub is_sound : {a b : Outside} {old new : SessionState} (r : Request) (result : Result Reply Stop) → Answers a b old new r result → (before : View SessionState) (why : Stop) → before.session ≡ old → ShowsNow meant a before → result ≡ Err why
    → (why ≡ stop.Disk) ⊎ (why ≡ stop.Memory)
is_sound {a} {b} {old} r result answers before why from now is = disk_or_memory why (subst (λ (o : Result Reply Stop). IfErr o (λ w. IfShown a old (λ before. IsOutside w))) is answers.sound before from now)

-- of the disk no byte is written that a crash image rests on, and the log says the records that it said
pub leaves_durable : {a b : Outside} {old new : SessionState} (r : Request) (result : Result Reply Stop) → IsSession old → Answers a b old new r result → IsQuiet r → (before : View SessionState) → before.session ≡ old
    → (now : ShowsNow meant a before) → ChangesWithin (λ i. IsDurable now.shows.decoded before.disk i → ⊥) a b
leaves_durable {a} {b} r result is answers quiet before from now =
    durable_unwritten now (subst IsSession (sym from) is) (subst (λ (s : SessionState). WritesUnused a b s) (sym from) (answers.writes quiet))

pub leaves_records : {a b : Outside} {old new : SessionState} (r : Request) (result : Result Reply Stop) → IsSession old → Answers a b old new r result → IsQuiet r → (before : View SessionState) → before.session ≡ old
    → ShowsNow meant a before → (records : List LogRecord) → SaysLog old.geometry records before.disk → (later : List ℕ) × (b.disk ≡ Some later) × SaysLog old.geometry records later
leaves_records {a} {b} {old} r result is answers quiet before from now records says =
    let left = records_unwritten now (subst IsSession (sym from) is) (subst (λ (s : SessionState). WritesUnused a b s) (sym from) (answers.writes quiet)) records (subst (λ (s : SessionState). SaysLog s.geometry records before.disk) (sym from) says) in
    (left.0, left.1.0, subst (λ (s : SessionState). SaysLog s.geometry records left.0) from left.1.1)
