-- What a run asks of what hands it lines and takes its replies.
use Rattle.std.specs.Prelude.{◌≡◌, ℕ, IsTrue, Option, Some, None, List, []}
use Rattle.table_model.specs.declared.machine.Machine.{Machine}
use Rattle.table_model.specs.declared.machine.Pick.{Pick}
use Rattle.table_model.specs.declared.reply.Reply.{Reply}
use Rattle.table_model.specs.declared.reply.Reply.TheVariants as reply
use Rattle.table_model.specs.declared.reply.Refusal.{Refusal}
use Rattle.table_model.specs.Requests.{Request, is_request}
use Rattle.table_model.specs.Machines.{IsMachine}
use Rattle.table_model.specs.Steps.{Step}
use Rattle.script_lang.specs.Reading.{Reading, Silent, Asks, Fails}
use Rattle.talks.specs.declared.stopped.Stopped.{Stopped}
use Rattle.talks.specs.Acking.{Acking}
use Rattle.talks.specs.Stops.{IsPart}

-- a line that was answered: what it asked for, the reply, and the text that was sent for it
pub record Exchange : Type 0 where
  pub reading : Reading
  pub told : Reply
  pub text : List ℕ

-- the reply of a step of a machine under its rules, or a refusal
pub data IsReply (told : Reply) : Type 0 where
  stepped : (m : Machine) (r : Request) (q : Pick) (after : Machine) → IsMachine m → IsTrue (is_request r) → Step m r q told after → IsReply told
  refused : (why : Refusal) → told ≡ reply.No why → IsReply told

-- It asks for a reply.
abbrev pub IsLoud : Reading → Type 0
IsLoud Silent = ⊥
IsLoud (Asks r) = Unit {0}
IsLoud (Fails why) = Unit {0}

-- the source, as far as it tells what it has left
abbrev pub Left : Type 0
Left = Option (List ℕ)

-- What a talk means: how its values and the source go on, from the first ones, as exchanges are had.
pub record Talking (T : Type 0) : Type 1 where
  pub acking : Acking
  -- The line that was taken last asks for this.
  pub Asked : T → Reading → Type 0
  -- what is sent for a reply to it
  pub text : T → Reply → List ℕ
  -- From the first value and source to these, the exchanges were had, and no line waits for its answer,
  pub Had : T → Left → List Exchange → T → Left → Type 0
  -- or one does,
  pub Waits : T → Left → List Exchange → T → Left → Type 0
  -- or there is no further line.
  pub Over : T → Left → List Exchange → T → Left → Type 0
  -- So it may end early, with what the last line asked for, where that wasn't answered, with the value that handed that line in, and with this left in
  -- the source.
  pub Broken : T → Left → List Exchange → Option Reading → Stopped → T → Left → Type 0
  pub begun : (first : T) (left : Left) → Had first left [] first left
  -- A line that asks for nothing needs no answer.
  pub quiet : (first now : T) (left at : Left) (had : List Exchange) → Waits first left had now at → Asked now Silent → Had first left had now at
  -- The session may stop on a line that asks for a reply, or at the end.
  pub stopped : (first now : T) (left at : Left) (had : List Exchange) (reading : Reading) (why : Stopped)
      → Waits first left had now at → Asked now reading → IsLoud reading → IsPart why → Broken first left had (Some reading) why now at
  pub ended : (first now : T) (left at : Left) (had : List Exchange) (why : Stopped)
      → Over first left had now at → IsPart why → Broken first left had None why now at
  -- Each reply has its text.
  pub tells : (t : T) (told : Reply) → IsReply told → acking.Tells told (text t told)

-- The talk ended so: there was no further line (None), with its last value, or a stop left the last line unanswered, with the value that handed it in.
abbrev pub HasTalked : {T : Type 0} → Talking T → T → Left → List Exchange → Option Reading → Option Stopped → T → T → Left → Type 0
HasTalked K first left had last None talk handed at = (last ≡ None) × K.Over first left had talk at
HasTalked K first left had last (Some why) talk handed at = K.Broken first left had last why handed at
