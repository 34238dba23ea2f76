-- What the generated script means as a talk.
use Rattle.std.specs.Prelude.{◌≡◌, ◌≤◌, []}
use Rattle.script_lines.specs.Lines.{Short}
use Rattle.script_lang.specs.Reading.{Reads}
use Rattle.std.proofs.Common.{refl}
use Rattle.talks.specs.Acking.{Acking}
use Rattle.talks.specs.Talking.{Talking}
use Rattle.generated.specs.Lines.{line_taken}
use Rattle.generated.specs.Talked.{HasMade, HasAsked, IsMade, IsCutOff}
use Rattle.generated.specs.TalkLaws as laws
use Rattle.generated.specs.declared.talk.Generated.{Generated}

-- No reply is sent, so nothing is acknowledged: a stop may leave any commit from the first on.
abbrev pub silent_acking : Acking
silent_acking = record {
  Tells = λ told text. text ≡ [];
  Even = λ first sent j. first ≤ j;
  May = λ first sent j. first ≤ j;
  start = laws.from_first;
  now = λ first sent j least. least;
  next = laws.next_commit;
  front = λ first sent j n told text least none short. least;
  front_next = laws.front_next;
  other = λ first sent j told text least none other. least;
  commit = laws.one_commit;
}

abbrev pub generated_talking : Talking Generated
generated_talking = record {
  acking = silent_acking;
  Asked = λ talk reading. Reads (Short (line_taken talk.lines)) reading;
  text = λ talk told. [];
  Had = HasMade;
  Waits = HasAsked;
  Over = IsMade;
  Broken = λ first left had last why handed at. IsCutOff first left had last at;
  begun = laws.begun;
  quiet = laws.quiet;
  stopped = λ first now left at had reading why waits reads loud part. laws.stopped first now left at had reading waits reads;
  ended = λ first now left at had why over part. laws.ended first now left at had over;
  tells = λ talk told is. refl;
}
