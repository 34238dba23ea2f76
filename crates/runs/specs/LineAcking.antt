-- Replies that are sent as lines, and what they acknowledge.
use Rattle.std.specs.Prelude.{ℕ, ◌+◌, Option, List}
use Rattle.table_model.specs.declared.reply.Reply.{Reply}
use Rattle.table_model.specs.declared.reply.Reply.TheVariants as reply
use Rattle.talks.specs.Acking.{Acking}
use Rattle.runs.specs.Acks.{IsEven, MayLeave, TellsLine}
use Rattle.runs.specs.Acks as acks

-- What was sent acknowledges the greatest commit whose line stands in it, where its number is read of the line so, and a stop may leave that one or the next.
abbrev pub line_acking : (read : List ℕ → Option ℕ) (Tells : Reply → List ℕ → Type 0) → ((told : Reply) (text : List ℕ) → Tells told text → TellsLine read told text) → Acking
line_acking read Tells line = record {
  Tells = Tells;
  Even = IsEven read;
  May = MayLeave read;
  start = acks.even_start read;
  now = acks.may_now read;
  next = acks.may_next read;
  front = λ first sent j n told text even tells short. acks.may_front read first sent j n text even (line told text tells) short;
  front_next = λ first sent j n told text even tells short. acks.may_front_next read first sent j n text even (line told text tells) short;
  other = λ first sent j told text even tells none. acks.even_other read first sent j text even (line told text tells) none;
  commit = λ first sent j text even tells fits. acks.even_commit read first sent j text even (line (reply.Commit (j + 1)) text tells) fits;
}
