-- The laws of a script as a talk.
use Rattle.std.proofs.Common.{◌≡◌, ◌∙◌, ℕ, Option, List, [], ◌∷◌, ◌++◌, inl, inr, ⊎_elim, refl, sym, ap, subst}
use Rattle.table_model.specs.declared.reply.Reply.{Reply}
use Rattle.script_lines.specs.Lines.{Line}
use Rattle.script_lines.specs.Reader.{current}
use Rattle.script_lines.specs.declared.lines.Lines.{Lines}
use Rattle.script_lang.specs.Reading.{Reading, Silent, Reads}
use Rattle.script_replies.specs.ReplyText.{text_of}
use Rattle.talks.specs.Talking.{Exchange, IsReply, Left}
use Rattle.talks.specs.Talking as talking
use Rattle.runs.specs.Acknowledged.{commit_of}
use Rattle.runs.specs.Acks.{TellsLine}
use Rattle.runs.specs.Heard.{Heard, IsAnswer, AsksOf}
use Rattle.runs.specs.ReplyLines.{IsLine, line_of, commit_is_read, other_is_none, reply_is_line, refusal_is_line}
use Rattle.runs.specs.TalkLaws.{heard_next}
use Rattle.runs.specs.Talked.{HasHeard, HasNext}
use Rattle.runs.specs.declared.script.Script.{Script}

-- ---- what was heard, and one line more

pub heard_more : (lines : List Line) (line : Line) (had : List Exchange) (last : Exchange) → Heard lines had → IsAnswer line last → Heard (lines ++ line ∷ []) (had ++ last ∷ [])
heard_more [] line had last heard answer = inr (last, [], ap (λ (l : List Exchange). l ++ last ∷ []) heard, answer, refl)
heard_more (l ∷ lines) line had last heard answer =
    ⊎_elim (λ silent. inl (silent.0, heard_more lines line had last silent.1 answer))
    (λ said. inr (said.0, said.1 ++ last ∷ [], ap (λ (l : List Exchange). l ++ last ∷ []) said.2, said.3, heard_more lines line said.1 last said.4 answer)) heard

heard_silent : (lines : List Line) (line : Line) (had : List Exchange) → Heard lines had → Reads line Silent → Heard (lines ++ line ∷ []) had
heard_silent [] line had heard reads = inl (reads, heard)
heard_silent (l ∷ lines) line had heard reads =
    ⊎_elim (λ silent. inl (silent.0, heard_silent lines line had silent.1 reads))
    (λ said. inr (said.0, said.1, said.2, said.3, heard_silent lines line said.1 said.4 reads)) heard

-- ---- the line that waits

-- It reads so.
pub waits_for : {first now : Lines} {left at : Left} {had : List Exchange} (reading : Reading) (waits : HasNext Heard first left had now at) → AsksOf (current now) reading → Reads waits.next reading
waits_for reading waits asks = subst (λ (o : Option Line). AsksOf o reading) (sym waits.shown) asks

pub quiet : {first now : Lines} {left at : Left} {had : List Exchange} → HasNext Heard first left had now at → AsksOf (current now) Silent → HasHeard Heard first left had now at
quiet {had = had} waits asks = heard_next waits (heard_silent waits.lines waits.next had waits.heard (waits_for Silent waits asks))

-- ---- what tells a reply

pub tells : (script : Script) (told : Reply) → IsReply told → IsLine told × (text_of told ≡ text_of told)
tells script told (talking.stepped m r q after rules formed step) = (reply_is_line rules formed step, refl)
tells script told (talking.refused why is) = (subst IsLine (sym is) (refusal_is_line why), refl)

pub tells_line : (told : Reply) (text : List ℕ) → IsLine told × (text ≡ text_of told) → TellsLine commit_of told text
tells_line told text tells = record {
  line = line_of told;
  clear = tells.0.clear;
  is = tells.1;
  other = λ none. other_is_none told none;
  commit = λ k is fits. ap (λ (r : Reply). commit_of (line_of r)) is ∙ commit_is_read k fits;
}
