-- What a session is asked for what a client says, and what its reply makes of whose transaction is open.
use Rattle.std.specs.Prelude.{◌≡◌, ◌++◌, ◌==◌, ◌&&◌, ℕ, List, ◌∷◌, Bool, true, false, not, if◌then◌else◌, Option, Some, None, decimal}
use Rattle.table_model.specs.Requests.{Request}
use Rattle.table_model.specs.Requests as request
use Rattle.table_model.specs.declared.reply.Refusal.TheVariants as refusal
use Rattle.table_model.specs.declared.reply.Reply.{Reply}
use Rattle.table_model.specs.declared.reply.Reply.TheVariants as reply
use Rattle.script_lang.specs.Reading.{Reading, Silent, Asks, Fails}
use Rattle.script_replies.specs.ReplyText.{text_of}
use Rattle.talks.specs.Talking.{Exchange}
use Rattle.clients.specs.Names.{owned, told_bare}

-- A scan goes on, and a group is made, whatever other clients do; each other command waits for the transaction of another client.
abbrev pub waits : Request → Bool
waits (request.Next name len) = false
waits (request.Close name) = false
waits (request.Group name frames mru) = false
waits _ = true

-- the other client whose transaction is open, where the command waits for it
abbrev pub busy_with : Option ℕ → ℕ → Request → Option ℕ
busy_with None k r = None
busy_with (Some other) k r = if not (other == k) && waits r then Some other else None

abbrev pub unless_busy : Option ℕ → Request → Reading
unless_busy None r = Asks r
unless_busy (Some other) r = Fails (refusal.Busy other)

-- what the session is asked for what a client says, where the transaction of this client is open, or none
abbrev pub routed : Option ℕ → ℕ → Reading → Reading
routed owner k Silent = Silent
routed owner k (Asks r) = unless_busy (busy_with owner k r) (owned k r)
routed owner k (Fails why) = Fails why

-- whose transaction is open behind a reply to a client
abbrev pub owner_after : ℕ → Reply → Option ℕ → Option ℕ
owner_after k (reply.Begin number) owner = Some k
owner_after k (reply.Commit number) owner = None
owner_after k reply.Abort owner = None
owner_after k _ owner = owner

-- what is sent for it
abbrev pub turn_text : ℕ → Reply → List ℕ
turn_text k told = decimal k ++ 32 ∷ text_of (told_bare told)

-- A client said this and was answered so: the machine stepped on its command with its own names, or the line is refused as busy or as it reads.
pub record ClientStep (owner : Option ℕ) (k : ℕ) (reading : Reading) (had : Exchange) (after : Option ℕ) : Type 0 where
  pub asked : had.reading ≡ routed owner k reading
  pub text : had.text ≡ turn_text k had.told
  pub after_is : after ≡ owner_after k had.told owner
