-- What the clients keep of the line that was taken last, and what they ask the session for.
use Rattle.std.specs.Prelude.{◌≡◌, ◌≤◌, ℕ, IsTrue, Option, Some, None}
use Rattle.table_model.specs.Machines.{main}
use Rattle.table_model.specs.Requests.{Request, is_request, is_spelled, request_of}
use Rattle.script_lines.specs.Lines.{Line}
use Rattle.script_lang.specs.Reading.{Reading, Silent, Asks, Fails}
use Rattle.clients.specs.Names.{IsClient, clients_most, owned, renamed}
use Rattle.clients.specs.Routing.{busy_with, unless_busy}
use Rattle.clients.specs.Turns.{IsTurn, Turn, Quiet, Said}
use Rattle.clients.specs.declared.own_names.OwnNames.{OwnNames}
use Rattle.clients.specs.declared.clients.Clients.{Clients}
use Rattle.clients.specs.declared.turns.Routed.{Routed}
use Rattle.clients.specs.declared.turns.Routed.TheVariants.{Nothing, Answer, Step}

-- a command with these names in the place of its own
abbrev pub with_names : OwnNames → Request → Request
with_names names r = renamed names.subject names.name names.group r

-- those of no command
abbrev pub no_names : OwnNames
no_names = record { subject = main; name = main; group = main }

-- ---- what a line says, and what it is routed as

-- what is routed, as the turn of a line
abbrev pub turn_in : Routed → Turn
turn_in Nothing = Quiet
turn_in (Answer client why) = Said client (Fails why)
turn_in (Step client command) = Said client (Asks (request_of command))

-- what is routed, as what a session is asked for
abbrev pub routed_reading : Routed → Reading
routed_reading Nothing = Silent
routed_reading (Answer client why) = Fails why
routed_reading (Step client command) = Asks (request_of command)

-- There are few clients. A command has the form of a line's words,
abbrev pub IsFormedRoute : Routed → Type 0
IsFormedRoute Nothing = Unit {0}
IsFormedRoute (Answer client why) = client ≤ clients_most
IsFormedRoute (Step client command) = IsClient client × IsTrue (is_request (request_of command))

-- and where it is as the line spells it, it names nothing as a session keeps it.
abbrev pub IsSpelledRoute : Routed → Type 0
IsSpelledRoute Nothing = Unit {0}
IsSpelledRoute (Answer client why) = Unit {0}
IsSpelledRoute (Step client command) = IsTrue (is_spelled (request_of command))

-- The client is the one who says the line.
abbrev pub IsClientOf : Option Line → Routed → Type 0
IsClientOf None routed = routed ≡ Nothing
IsClientOf (Some line) Nothing = IsTurn line Quiet
IsClientOf (Some line) (Answer client why) = (reading : Reading) × IsTurn line (Said client reading)
IsClientOf (Some line) (Step client command) = (reading : Reading) × IsTurn line (Said client reading)

-- The turn of the line that is lent; nothing, where there is none.
abbrev pub IsTurnOf : Option Line → Turn → Type 0
IsTurnOf None turn = turn ≡ Quiet
IsTurnOf (Some line) turn = IsTurn line turn

-- what the session is asked for the line of this turn, with the names that are kept
abbrev pub asks_with : Clients → Turn → Reading
asks_with clients Quiet = Silent
asks_with clients (Said k Silent) = Silent
asks_with clients (Said k (Asks r)) = unless_busy (busy_with clients.owner k r) (with_names clients.names r)
asks_with clients (Said k (Fails why)) = Fails why

-- What the line that was taken last asks for; nothing, where there is none.
abbrev pub AsksNow : Option Line → Clients → Reading → Type 0
AsksNow line clients reading = (turn : Turn) × IsTurnOf line turn × (reading ≡ asks_with clients turn)

-- The client and the names that are kept are those of the line.
pub record IsPrepared (line : Line) (clients : Clients) : Type 0 where
  pub client_is : (k : ℕ) (reading : Reading) → IsTurn line (Said k reading) → clients.client ≡ k
  pub names_are : (k : ℕ) (r : Request) → IsTurn line (Said k (Asks r)) → with_names clients.names r ≡ owned k r
