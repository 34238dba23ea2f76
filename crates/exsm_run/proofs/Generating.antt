-- What `gen` promises.
use Rattle.std.proofs.Common.{◌≡◌, ◌∙◌, ◌⊎◌, ⊎_elim, ◌<◌, ◌^◌, ℕ, List, [], ◌∷◌, ◌++◌, Option, None, Some, length, inl, inr, refl, sym, ap, subst, arith}
use Rattle.std.proofs.lemmas.List.{append-nil}
use Rattle.std.proofs.lemmas.Option.{same_Some}
use Rattle.std.specs.Prelude.{is_some}
use Rattle.disk_model.specs.Outside.{Outside, Along, DiskOnly, Goes, IsWorld, SinkOnly}
use Rattle.disk_model.specs.Runs.{along_sink, along_wider}
use Rattle.table_model.specs.declared.reply.Reply.{Reply}
use Rattle.table_model.specs.declared.table.Table.{Table}
use Rattle.session_views.specs.declared.part.Part.{Part}
use Rattle.talks.specs.Headline.{RunOn, RunOpens, RunStarts, SteppedTalk, TalkHeadline}
use Rattle.talks.specs.Passage.{IsBroken, IsOver}
use Rattle.talks.specs.Stops.{CausedBy, IsOpeningStop, IsSessionStop, IsSoundStop}
use Rattle.talks.specs.Transcript.{Row, IsRunMoment, exchanges, output_of, request_in}
use Rattle.talks.specs.declared.stopped.Stopped.{Stopped}
use Rattle.talks.specs.declared.stopped.Stopped.TheVariants as stopped
use Rattle.talks.proofs.Going.{shows_sent}
use Rattle.talks.proofs.Rows.{line_kept_within, shows_at_later, trail_later}
use Rattle.generated.specs.GeneratedTalk.{generated_talking, silent_acking}
use Rattle.generated.specs.Lines.{to_come}
use Rattle.generated.specs.Replies.{IsTallyOf, gen_line}
use Rattle.generated.specs.Script.{generated}
use Rattle.generated.specs.Talked.{Heard, HeardFront, replies_of}
use Rattle.generated.specs.TalkLaws.{heard_whole}
use Rattle.generated.specs.declared.talk.Generated.{Generated}
use Rattle.session_core.specs.Meant.{meant}
use Rattle.session_core.specs.Sessions.{SessionState}
use Rattle.volume_model.specs.Parts.{FirstBad}
use Rattle.command_line.specs.declared.status.Status.{Status}
use Rattle.command_line.specs.declared.status.Status.TheVariants as status
use Rattle.exsm_run.specs.Begun.{OpensVolume}
use Rattle.exsm_run.specs.Check.{IsLineStatus}
use Rattle.exsm_run.specs.Fresh.{IsFresh}
use Rattle.exsm_run.specs.Kept.{volume_steps}
use Rattle.exsm_run.specs.Generate.{Answered, GenPromise, StandsForOne, StopsUntold, ToldOf}
use Rattle.exsm_run.specs.Script.{IsOnVolume, status_of}
use Rattle.exsm_run.proofs.Begun.{begins_as, begins_on}
use Rattle.exsm_run.proofs.Checking.{SentLine, line_good, line_ends, line_undamaged}
use Rattle.exsm_run.proofs.Ending.{damaged_of, opening_of, starts_on}

-- ---- how it is stopped

-- what may stop it
abbrev pub StopsGen : Stopped → Type 0
StopsGen why = IsOpeningStop why ⊎ (IsSessionStop why ⊎ (why ≡ stopped.Memory))

pub no_output : (why : Stopped) → StopsGen why → status_of 0 (Some why) ≡ status.OutputFault → ⊥
no_output stopped.Script whence is = cc
no_output stopped.Output (inl h) is = h
no_output stopped.Output (inr (inl h)) is = h
no_output stopped.Output (inr (inr h)) is = cc
no_output stopped.Disk whence is = cc
no_output stopped.Memory whence is = cc
no_output (stopped.BadVolume part) whence is = cc
no_output (stopped.Damaged page want got) whence is = cc
no_output stopped.ScriptLong whence is = cc

not_output : (why : Stopped) → StopsGen why → why ≡ stopped.Output → ⊥
not_output why whence is = no_output why whence (ap (λ (w : Stopped). status_of 0 (Some w)) is)

no_done : (why : Stopped) → status_of 0 (Some why) ≡ status.Done → ⊥
no_done stopped.Script is = cc
no_done stopped.Output is = cc
no_done stopped.Disk is = cc
no_done stopped.Memory is = cc
no_done (stopped.BadVolume part) is = cc
no_done (stopped.Damaged page want got) is = cc
no_done stopped.ScriptLong is = cc

sound_kind : (why : Stopped) → StopsGen why → IsSoundStop why → IsLineStatus (status_of 0 (Some why))
sound_kind stopped.Script (inl h) sound = h
sound_kind stopped.Script (inr (inl h)) sound = h
sound_kind stopped.Script (inr (inr h)) sound = absurd (cc)
sound_kind stopped.Output whence sound = tt
sound_kind stopped.Disk whence sound = tt
sound_kind stopped.Memory whence sound = tt
sound_kind (stopped.BadVolume part) whence sound = sound
sound_kind (stopped.Damaged page want got) whence sound = sound
sound_kind stopped.ScriptLong (inl h) sound = h
sound_kind stopped.ScriptLong (inr (inl h)) sound = h
sound_kind stopped.ScriptLong (inr (inr h)) sound = absurd (cc)

disk_is : (why : Stopped) → status_of 0 (Some why) ≡ status.DiskFault → why ≡ stopped.Disk
disk_is stopped.Script is = absurd (cc)
disk_is stopped.Output is = absurd (cc)
disk_is stopped.Disk is = refl
disk_is stopped.Memory is = absurd (cc)
disk_is (stopped.BadVolume part) is = absurd (cc)
disk_is (stopped.Damaged page want got) is = absurd (cc)
disk_is stopped.ScriptLong is = absurd (cc)

-- ---- what was sent by then

-- Nothing is sent for a line.
no_texts : (lines : List (List ℕ)) (rows : List (Row SessionState)) → Heard lines (exchanges rows) → output_of rows ≡ []
no_texts [] [] heard = refl
no_texts [] (row ∷ rows) heard = absurd heard
no_texts (line ∷ lines) [] heard = absurd heard
no_texts (line ∷ lines) (row ∷ rows) heard = ap (λ (t : List ℕ). t ++ output_of rows) heard.0.text ∙ no_texts lines rows heard.1

none_sent : (was out front : List ℕ) → out ≡ [] → front ≡ [] → was ++ out ++ front ≡ was
none_sent was out front none no_front =
    ap (λ (t : List ℕ). was ++ t ++ front) none ∙ ap (λ (t : List ℕ). was ++ [] ++ t) no_front ∙ append-nil (was ++ []) ∙ append-nil was

sent_none : {H : Type 0} {outside : H → Outside} {a b : Outside} {first talk : Generated} {table : Table} {was : List ℕ} (ending : Option Stopped) → (ending ≡ Some stopped.Output → ⊥)
    → TalkHeadline meant (volume_steps outside) IsFresh generated_talking first talk table was a b ending → b.sent ≡ Some was
sent_none {first = first} None fine (inl s) = s.sent ∙ ap Some (none_sent _ _ _ (no_texts (to_come first.lines) s.rows s.talked.1.heard) (s.uncut fine))
sent_none (Some why) fine (inl s) = s.sent ∙ ap Some (none_sent _ _ _ (no_texts s.talked.heard.lines s.rows s.talked.heard.heard) (s.uncut fine))
sent_none ending fine (inr u) = u.sent

-- ---- what a crash leaves

stands_moments : {H : Type 0} {outside : H → Outside} {a b : Outside} {first talk : Generated} {table : Table} {was : List ℕ} (ending : Option Stopped)
    → TalkHeadline meant (volume_steps outside) IsFresh generated_talking first talk table was a b ending → Along a b StandsForOne
stands_moments ending (inl s) = along_wider _ StandsForOne s.stops (λ sent d moment. (moment.table, moment.stands))
stands_moments {table = table} ending (inr u) = along_wider _ StandsForOne u.stops (λ sent d moment. (table, moment.1))

moments_on : {a b c : Outside} {was : List ℕ} → Along a b StandsForOne → SinkOnly b c → b.sent ≡ Some was → Along a c StandsForOne
moments_on {a} {b} {c} {was} so_far only sent =
    along_sink StandsForOne so_far only (ap is_some sent) (λ s d image between. so_far.stands.now was d sent image)

-- ---- it was stopped

stopped_in : {H : Type 0} {outside : H → Outside} {a b : Outside} {table : Table} {was : List ℕ} (seed count : ℕ) (first talk : Generated) (why : Stopped) → to_come first.lines ≡ generated seed count
    → TalkHeadline meant (volume_steps outside) IsFresh generated_talking first talk table was a b (Some why) → StopsUntold outside seed count table was a b (status_of 0 (Some why))
stopped_in seed count first talk why script (inl s) = inl (
  Some why,
  refl,
  record {
    had = exchanges s.rows;
    asked = s.last;
    heard = subst (λ (lines : List (List ℕ)). HeardFront lines (exchanges s.rows) s.last) script s.talked.heard;
    answered = record { opening = s.opening; time = s.time; opened = s.opened; rows = s.rows; last = s.after; are = refl; trail = s.trail; stops = s.stops };
    kept = s.kept;
  },
)
stopped_in seed count first talk why script (inr u) = inr (why, refl, u)

pub gen_stopped : {H : Type 0} {outside : H → Outside} {a b : Outside} (seed count : ℕ) (first : Generated) (talk : Generated) (why : Stopped) → IsWorld a → to_come first.lines ≡ generated seed count → StopsGen why
    → ((table : Table) (was : List ℕ) → RunStarts meant a table was → TalkHeadline meant (volume_steps outside) IsFresh generated_talking first talk table was a b (Some why))
    → (IsBroken generated_talking first a.left why b.left ⊎ (IsOpeningStop why × DiskOnly a b))
    → RunOn meant (volume_steps outside) a b (Some why) → RunOpens meant (volume_steps outside) IsFresh OpensVolume a b (Some why) → GenPromise outside seed count a b (status_of 0 (Some why))
gen_stopped {H} {outside} {a} {b} seed count first talk why world script whence headline broken on opens = record {
  done = λ table was on is. absurd (no_done why is);
  front = λ table was on is. absurd (no_output why whence is);
  nothing = λ table was on done output. sent_none (Some why) (λ is. not_output why whence (cc)) (headline table was (starts_on on));
  stopped = λ table was on done output. stopped_in seed count first talk why script (headline table was (starts_on on));
  left = ⊎_elim (λ cut. cut.3.left_so) (λ unopened. unopened.1.left) broken;
  moments = λ table was on. stands_moments (Some why) (headline table was (starts_on on));
  sound = λ table was holds. sound_kind why whence (on.sound table was holds);
  completes = λ may. line_ends (status_of 0 (Some why)) (sound_kind why whence (on.sound may.table may.was may.on)) (no_output why whence)
      (λ is. may.no_disk_fault (subst (λ (w : Stopped). CausedBy w a b) (disk_is why is) on.caused));
  damaged = λ page want got is. damaged_of (volume_steps outside) 0 (Some why) on.damaged page want got is;
  opening = opening_of 0 (Some why) world on;
  begins = begins_as 0 (Some why) (status_of 0 (Some why)) refl opens;
}

-- ---- all lines were answered

moments_sent : {H : Type 0} {outside : H → Outside} {a b c : Outside} {first talk : Generated} {table : Table} {was : List ℕ} → SinkOnly b c → b.sent ≡ Some was
    → (s : SteppedTalk meant (volume_steps outside) IsFresh generated_talking first talk table was a b None) → Along a c (IsRunMoment meant silent_acking s.opening.machine s.rows s.after.machine (request_in s.last) was)
moments_sent {was = was} only sent s =
    along_sink (IsRunMoment meant silent_acking s.opening.machine s.rows s.after.machine (request_in s.last) was) s.stops only (ap is_some sent) (λ then d image between.
    let moment = s.stops.stands.now was d sent image in
    record {
      number = moment.number;
      table = moment.table;
      after = moment.after;
      stands = moment.stands;
      more = between.begins.0;
      sent = between.begins.1 ∙ ap (λ (front : List ℕ). front ++ between.begins.0) (same_Some between.first was (sym between.was ∙ sent));
      may = moment.may;
    })

answered_on : {H : Type 0} {outside : H → Outside} {a b c : Outside} {first talk : Generated} {table : Table} {was : List ℕ} → IsWorld b → SinkOnly b c → b.sent ≡ Some was
    → (s : SteppedTalk meant (volume_steps outside) IsFresh generated_talking first talk table was a b None) → Answered outside table was a c (exchanges s.rows) None
answered_on {H} {outside} {a} {b} {c} {was = was} world only sent s = record {
  opening = s.opening;
  time = s.time;
  opened = record { starts = s.opened.starts; fresh = s.opened.fresh; later = s.opened.later; shown = shows_at_later meant world only.goes s.opened.shown };
  rows = s.rows;
  last = s.after;
  are = refl;
  trail = trail_later meant (volume_steps outside) was s.time [] s.opening s.after s.rows world only.goes s.trail;
  stops = subst (λ last. Along a c (IsRunMoment meant silent_acking s.opening.machine s.rows s.after.machine (request_in last) was)) s.talked.0 (moments_sent only sent s);
}

told_of : {H : Type 0} {outside : H → Outside} {a b c : Outside} {table : Table} {was : List ℕ} (seed count : ℕ) (first talk : Generated) (line : List ℕ) → IsWorld b → SinkOnly b c → b.sent ≡ Some was → to_come first.lines ≡ generated seed count
    → length (to_come first.lines) < 2 ^ 64 → IsTallyOf [] first.tally → ((replies : List Reply) → IsTallyOf replies talk.tally → line ≡ gen_line replies)
    → TalkHeadline meant (volume_steps outside) IsFresh generated_talking first talk table was a b None → ToldOf outside seed count table was a c line
unfolding answered_on
told_of seed count first talk line world only sent script few none made (inl s) =
    let ended = s.ended refl in
    let stayed = line_kept_within {after = ended.after} (omega arith) only.goes.clock only.goes (ended.kept, ended.left) in
    record {
      had = exchanges s.rows;
      heard = subst (λ (lines : List (List ℕ)). Heard lines (exchanges s.rows)) script s.talked.1.heard;
      answered = answered_on world only sent s;
      ended = record {
        after = ended.after;
        told = ended.told;
        step = ended.step;
        kept = stayed.0;
        left = stayed.1;
        shows = shows_sent only ended.shows;
      };
      line_is = made (replies_of (exchanges s.rows)) (s.talked.1.tallied [] none (omega (arith, few)));
    }
told_of seed count first talk line world only sent script few none made (inr u) = absurd (let is = u.is in cc)

-- All lines were answered, but no line tells of it.
untold_of : {H : Type 0} {outside : H → Outside} {a b c : Outside} {table : Table} {was : List ℕ} (seed count : ℕ) (first talk : Generated) (s : Status) → IsWorld b → SinkOnly b c → b.sent ≡ Some was → to_come first.lines ≡ generated seed count
    → TalkHeadline meant (volume_steps outside) IsFresh generated_talking first talk table was a b None → StopsUntold outside seed count table was a c s
untold_of seed count first talk status world only sent script (inl s) = inl (
  None,
  tt,
  record {
    had = exchanges s.rows;
    asked = None;
    heard = heard_whole (subst (λ (lines : List (List ℕ)). Heard lines (exchanges s.rows)) script s.talked.1.heard);
    answered = answered_on world only sent s;
    kept = tt;
  },
)
untold_of seed count first talk status world only sent script (inr u) = absurd (let is = u.is in cc)

pub gen_sent : {H : Type 0} {outside : H → Outside} {a b c : Outside} (s : Status) (seed count : ℕ) (first talk : Generated) (line : List ℕ) → IsWorld b → Goes a b → to_come first.lines ≡ generated seed count
    → length (to_come first.lines) < 2 ^ 64 → IsTallyOf [] first.tally
    → ((s ≡ status.Done) ⊎ (s ≡ status.OutputFault) → (replies : List Reply) → IsTallyOf replies talk.tally → line ≡ gen_line replies)
    → ((table : Table) (was : List ℕ) → RunStarts meant a table was → TalkHeadline meant (volume_steps outside) IsFresh generated_talking first talk table was a b None)
    → IsOver generated_talking first a.left b.left
    → RunOn meant (volume_steps outside) a b None → RunOpens meant (volume_steps outside) IsFresh OpensVolume a b None → SentLine s b c line → GenPromise outside seed count a c s
gen_sent {H} {outside} {a} {b} {c} s seed count first talk line world goes script few none made headline over on opens sent =
    let good : (image : List ℕ) (part : Part) → a.disk ≡ Some image → FirstBad image part → ⊥ = λ image part holds fails. let is = (on.unopened image part holds fails).1 in cc in
    let before : (table : Table) (was : List ℕ) → IsOnVolume a table was → b.sent ≡ Some was = λ table was on. sent_none None (λ is. cc) (headline table was (starts_on on)) in
    let told : (s ≡ status.Done) ⊎ (s ≡ status.OutputFault) → (table : Table) (was : List ℕ) → IsOnVolume a table was → ToldOf outside seed count table was a c line =
    λ is table was on. told_of seed count first talk line world sent.only (before table was on) script few none (made is) (headline table was (starts_on on)) in
    record {
      done = λ table was on is. (line, told (inl is) table was on, sent.done is was (before table was on));
      front = λ table was on is. (line, told (inr is) table was on, sent.front is was (before table was on));
      nothing = λ table was on done output. sent.nothing done output ∙ before table was on;
      stopped = λ table was on done output. untold_of seed count first talk s world sent.only (before table was on) script (headline table was (starts_on on));
      left = sent.only.left ∙ over.2.left_so;
      moments = λ table was on. moments_on (stands_moments None (headline table was (starts_on on))) sent.only (before table was on);
      sound = λ table was on. sent.kind;
      completes = λ may. line_ends s sent.kind (λ output. may.no_output_fault (let rose = sent.output output in omega (arith, rose, goes.write_faults))) sent.no_disk;
      damaged = λ page want got is. absurd (line_undamaged s page want got sent.kind is);
      opening = record {
        bad = λ part is. absurd (line_good s part sent.kind is);
        unopened = λ image part holds fails. absurd (good image part holds fails);
        left = λ image part holds fails. absurd (good image part holds fails);
        only = λ part is. absurd (line_good s part sent.kind is);
        kept = λ part is. absurd (line_good s part sent.kind is);
      };
      begins = begins_on s opens sent.only.goes;
    }
