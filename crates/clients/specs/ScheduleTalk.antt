-- What a schedule means as a talk.
use Rattle.std.specs.Prelude.{◌≡◌, ℕ, IfSome, None, List}
use Rattle.std.proofs.Common.{refl}
use Rattle.script_lines.specs.Lines.{Line}
use Rattle.script_lines.specs.Reader.{current}
use Rattle.talks.specs.Talking.{Exchange, Left, Talking}
use Rattle.runs.specs.Source.{BeginsReading}
use Rattle.runs.specs.TalkLaws as laws
use Rattle.runs.specs.Talked.{HasHeard, HasNext, IsRead, IsBrokenOff}
use Rattle.clients.specs.Heard.{Heard, LastAsks}
use Rattle.clients.specs.Prepared.{AsksNow, IsPrepared}
use Rattle.clients.specs.Routing.{turn_text}
use Rattle.clients.specs.ScheduleLaws as schedule
use Rattle.clients.specs.Sending.{tells, turn_acking}
use Rattle.clients.specs.declared.schedule.Schedule.{Schedule}

-- The lines are answered so, from whose transaction was open to whose is.
abbrev pub HeardTo : Schedule → Schedule → List Line → List Exchange → Type 0
HeardTo first now lines had = Heard first.clients.owner lines had now.clients.owner

-- One line more was taken, and isn't answered yet. Its client and its names are kept.
pub record HasPrepared (first : Schedule) (left : Left) (had : List Exchange) (now : Schedule) (at : Left) : Type 0 where
  pub waits : HasNext (HeardTo first now) first.reader left had now.reader at
  pub prepared : IfSome (current now.reader) (λ line. IsPrepared line now.clients)

abbrev pub schedule_talking : Talking Schedule
schedule_talking = record {
  acking = turn_acking;
  Asked = λ now reading. AsksNow (current now.reader) now.clients reading;
  text = λ now told. turn_text now.clients.client told;
  Had = λ first left had now at. HasHeard (HeardTo first now) first.reader left had now.reader at;
  Waits = HasPrepared;
  Over = λ first left had now at. IsRead (HeardTo first now) first.reader left had at;
  Broken = λ first left had last why handed at.
      IsBrokenOff (HeardTo first handed) (LastAsks handed.clients.owner handed.clients.client) first.reader left had last why at;
  begun = λ first left. laws.begun first.reader left (refl, refl);
  quiet = λ first now left at had waits asks. laws.heard_next waits.waits
      (schedule.heard_quiet first.clients.owner now.clients.owner waits.waits.lines waits.waits.next had waits.waits.heard (schedule.next_is_quiet waits.waits now.clients asks));
  stopped = λ first now left at had reading why waits asks loud part. laws.stopped reading why waits.waits (schedule.next_is_routed waits.waits now.clients reading waits.prepared asks loud) part;
  ended = λ first now left at had why over part. laws.ended why over tt part;
  tells = λ now told is. tells now.clients.client now.clients.few told is;
}

-- Nothing of it was taken yet, so many bytes count, and no transaction is open.
pub record BeginsSchedule (schedule : Schedule) (most : ℕ) : Type 0 where
  pub reading : BeginsReading schedule.reader most
  pub closed : schedule.clients.owner ≡ None
