-- Laws of clients, each the contract of a function.
use Rattle.std.specs.Prelude.{◌≡◌, ◌≢◌, ◌⊎◌, ℕ, IsTrue, List, Option, Some, is_some}
use Rattle.table_model.specs.Machines.{main, shown}
use Rattle.table_model.specs.Requests.{Request}
use Rattle.table_model.specs.Steps.{Step}
use Rattle.table_model.specs.Words.{is_kept_name, is_name}
use Rattle.table_model.specs.declared.machine.Machine.{Machine}
use Rattle.table_model.specs.declared.machine.Pick.{Pick}
use Rattle.table_model.specs.declared.reply.Reply.{Reply}
use Rattle.script_lines.specs.Lines.{Line}
use Rattle.script_lang.specs.Reading.{Asks}
use Rattle.clients.specs.Names.{IsClient, bare, own, owned}
use Rattle.clients.specs.Routing.{owner_after, routed, waits}
use Rattle.clients.specs.Turns.{IsTurn, Turn}

-- A client reads its own name back; what is kept of a name is one that a session keeps.
abbrev pub NamesAreReadBack : Type 0
NamesAreReadBack = (k : ℕ) (name : List ℕ) → IsClient k → (bare (own k name) ≡ name) × (IsTrue (is_name name) → IsTrue (is_kept_name (own k name)))

-- Two names are kept as one only where they are one client's one name, or both `main`.
abbrev pub NamesOfClientsDiffer : Type 0
NamesOfClientsDiffer = (j k : ℕ) (one other : List ℕ) → IsClient j → IsClient k → own j one ≡ own k other → (one ≡ other) × ((j ≡ k) ⊎ (one ≡ main))

-- Each line is exactly one turn.
abbrev pub LineIsOneTurn : Type 0
LineIsOneTurn = (line : Line) (one other : Turn) → IsTurn line one → IsTurn line other → one ≡ other

-- A client is the owner exactly while a transaction is open.
abbrev pub OwnerFollows : Type 0
OwnerFollows = (before : Machine) (k : ℕ) (r : Request) (q : Pick) (told : Reply) (after : Machine) (owner : Option ℕ) → Step before (owned k r) q told after
    → is_some owner ≡ is_some before.working → is_some (owner_after k told owner) ≡ is_some after.working

-- What steps while another client's transaction is open is a scan that goes on or is closed, or a group that is made: so each other line of a client
-- sees what is committed, or its own transaction.
abbrev pub OthersSeeWhatIsCommitted : Type 0
OthersSeeWhatIsCommitted = (m : Machine) (owner : Option ℕ) (k : ℕ) (r : Request) → is_some owner ≡ is_some m.working → IsTrue (waits r)
    → routed owner k (Asks r) ≡ Asks (owned k r) → owner ≢ Some k → shown m ≡ m.committed
