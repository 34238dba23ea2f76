-- What is sent to clients, line by line.
use Rattle.std.proofs.Common.{◌≡◌, ◌∙◌, ◌≤◌, ℕ, Bool, true, false, cond, Option, Some, None, List, [], ◌∷◌, ◌++◌, refl, sym, ap, subst, arith, append_assoc}
use Rattle.std.specs.Prelude.{bytes_eq, decimal, drop}
use Rattle.std.specs.List.{slice_split}
use Rattle.std.proofs.lemmas.List.Splits.{slice_split_at}
use Rattle.std.proofs.lemmas.Slice.Eq.{bytes_eq-Decides}
use Rattle.table_model.specs.Machines.{main}
use Rattle.table_model.specs.Refusals.{refusal_of}
use Rattle.table_model.specs.Steps.{answer_of, reply_to}
use Rattle.table_model.specs.Words.{number_of}
use Rattle.table_model.specs.declared.reply.Refusal.{Refusal}
use Rattle.table_model.specs.declared.reply.Reply.{Reply}
use Rattle.table_model.specs.declared.reply.Reply.TheVariants as reply
use Rattle.script_replies.specs.ReplyText.{reply_words}
use Rattle.talks.specs.Acking.{Acking, IsNoCommit}
use Rattle.talks.specs.Talking.{IsReply}
use Rattle.talks.specs.Talking as talking
use Rattle.runs.specs.Acknowledged.{commit_of, is_space}
use Rattle.runs.specs.Acks.{TellsLine}
use Rattle.runs.specs.Lacking.{each_differs, lacks, lacks_decimal, lacks_drop, lacks_join, lacks_more}
use Rattle.runs.specs.LineAcking.{line_acking}
use Rattle.runs.specs.ReplyLines.{GivenClear, IsLine, clear_words, commit_is_read, given_clear, line_of, other_is_none, refusal_is_line}
use Rattle.clients.specs.Acknowledged.{turn_commit_of, turn_commit_of_words}
use Rattle.clients.specs.Names.{bare, clients_most, told_bare}
use Rattle.clients.specs.Numbers.{number_back}
use Rattle.clients.specs.Routing.{turn_text}

-- ---- each reply is one line

bare_clear : (name : List ℕ) → lacks 10 name ≡ true → lacks 10 (bare name) ≡ true
bare_clear name clear = by_main (bytes_eq name main)
  where
    by_main : (b : Bool) → lacks 10 (cond b main (drop 1 name)) ≡ true
    by_main true = refl
    by_main false = lacks_drop 10 1 name clear

given_bare : (told : Reply) → GivenClear told → GivenClear (told_bare told)
given_bare (reply.Begin number) given = given
given_bare (reply.Commit number) given = given
given_bare reply.Abort given = given
given_bare reply.Checkpoint given = given
given_bare (reply.Log records) given = given
given_bare (reply.File name) given = given
given_bare (reply.Unfile name) given = given
given_bare (reply.Files names) given = given
given_bare (reply.List oids) given = given
given_bare (reply.Create oid) given = given
given_bare (reply.Destroy oid) given = given
given_bare (reply.Size size) given = given
given_bare (reply.StatSmall size) given = given
given_bare (reply.StatLarge size height leaves first) given = given
given_bare (reply.Digest hash) given = given
given_bare (reply.Read bytes) given = given
given_bare (reply.Insert size) given = given
given_bare (reply.Append size) given = given
given_bare (reply.Replace size) given = given
given_bare (reply.Delete size) given = given
given_bare (reply.Freeze oid) given = given
given_bare (reply.Derive oid) given = given
given_bare (reply.Versions oids) given = given
given_bare (reply.DropVersion oid) given = given
given_bare (reply.Group name) given = bare_clear name given
given_bare (reply.Scan name size) given = bare_clear name given
given_bare (reply.Next bytes) given = given
given_bare (reply.Close name) given = bare_clear name given
given_bare (reply.Space pages of_pages segs of_segs) given = given
given_bare (reply.No why) given = given

by_refusal : (o : Option Refusal) (told : Reply) → GivenClear told → IsLine (told_bare (answer_of o told))
by_refusal None told given = record { clear = lacks_join 10 32 (reply_words (told_bare told)) refl (clear_words (told_bare told) (given_bare told given)) }
by_refusal (Some why) told given = refusal_is_line why

-- The reply is told by this text, which is that of one of the clients.
pub record TellsTurn (told : Reply) (text : List ℕ) : Type 0 where
  pub line : IsLine (told_bare told)
  pub client : ℕ
  pub few : client ≤ clients_most
  pub is : text ≡ turn_text client told

pub tells : (client : ℕ) → client ≤ clients_most → (told : Reply) → IsReply told → TellsTurn told (turn_text client told)
tells client few told (talking.stepped m r q after rules form step) = record {
  line = subst (λ (t : Reply). IsLine (told_bare t)) (sym step.reply) (by_refusal (refusal_of m r q) (reply_to m r q) (given_clear m r q rules form));
  client = client;
  few = few;
  is = refl;
}
tells client few told (talking.refused why is) = record {
  line = subst (λ (t : Reply). IsLine (told_bare t)) (sym is) (refusal_is_line why);
  client = client;
  few = few;
  is = refl;
}

-- ---- which commit a line tells

-- Of a line with a number before it, it is the commit of what stands behind.
behind : (k : ℕ) (line : List ℕ) → k ≤ clients_most → turn_commit_of (decimal k ++ 32 ∷ line) ≡ commit_of line
behind k line few =
    let cut : slice_split is_space (decimal k ++ 32 ∷ line) ≡ decimal k ∷ slice_split is_space line =
    slice_split_at is_space (decimal k) 32 line (each_differs 32 (decimal k) (lacks_decimal 32 k (omega arith))) refl in
    let number : number_of (decimal k) ≡ k = number_back k few in
    let test : bytes_eq (decimal k) (decimal (number_of (decimal k))) ≡ true = (bytes_eq-Decides (decimal k) (decimal (number_of (decimal k)))).1 (ap decimal (sym number)) in
    ap turn_commit_of_words cut ∙ ap (λ (b : Bool). cond b (commit_of line) None) test

no_commit : (told : Reply) → IsNoCommit told → IsNoCommit (told_bare told)
no_commit (reply.Begin number) none = none
no_commit (reply.Commit number) none = none
no_commit reply.Abort none = none
no_commit reply.Checkpoint none = none
no_commit (reply.Log records) none = none
no_commit (reply.File name) none = none
no_commit (reply.Unfile name) none = none
no_commit (reply.Files names) none = none
no_commit (reply.List oids) none = none
no_commit (reply.Create oid) none = none
no_commit (reply.Destroy oid) none = none
no_commit (reply.Size size) none = none
no_commit (reply.StatSmall size) none = none
no_commit (reply.StatLarge size height leaves first) none = none
no_commit (reply.Digest hash) none = none
no_commit (reply.Read bytes) none = none
no_commit (reply.Insert size) none = none
no_commit (reply.Append size) none = none
no_commit (reply.Replace size) none = none
no_commit (reply.Delete size) none = none
no_commit (reply.Freeze oid) none = none
no_commit (reply.Derive oid) none = none
no_commit (reply.Versions oids) none = none
no_commit (reply.DropVersion oid) none = none
no_commit (reply.Group name) none = λ k is. cc
no_commit (reply.Scan name size) none = λ k is. cc
no_commit (reply.Next bytes) none = none
no_commit (reply.Close name) none = λ k is. cc
no_commit (reply.Space pages of_pages segs of_segs) none = none
no_commit (reply.No why) none = none

pub tells_line : (told : Reply) (text : List ℕ) → TellsTurn told text → TellsLine turn_commit_of told text
tells_line told text tells = record {
  line = decimal tells.client ++ 32 ∷ line_of (told_bare told);
  clear = lacks_join 10 32 (decimal tells.client ∷ line_of (told_bare told) ∷ []) refl
      (lacks_more 10 (decimal tells.client) (line_of (told_bare told) ∷ []) (lacks_decimal 10 tells.client (omega arith)) (lacks_more 10 (line_of (told_bare told)) [] tells.line.clear refl));
  is = tells.is ∙ sym (append_assoc (decimal tells.client) (32 ∷ line_of (told_bare told)) (10 ∷ []));
  other = λ none. behind tells.client (line_of (told_bare told)) tells.few ∙ other_is_none (told_bare told) (no_commit told none);
  commit = λ k is fits. behind tells.client (line_of (told_bare told)) tells.few ∙ ap (λ (r : Reply). commit_of (line_of (told_bare r))) is ∙ commit_is_read k fits;
}

-- Replies are sent as lines of text with a client's number before each. What was sent acknowledges the greatest commit whose line stands in it, and a
-- stop may leave that one or the next.
abbrev pub turn_acking : Acking
turn_acking = line_acking turn_commit_of TellsTurn tells_line
