-- The laws of a schedule as a talk.
use Rattle.std.proofs.Common.{◌≡◌, ◌∙◌, ℕ, Option, Some, None, IfSome, List, [], ◌∷◌, ◌++◌, inl, inr, ⊎_elim, refl, sym, ap, subst}
use Rattle.table_model.specs.Requests.{Request}
use Rattle.table_model.specs.declared.reply.Refusal.TheVariants as refusal
use Rattle.script_lines.specs.Lines.{Line, Short, Long}
use Rattle.script_lines.specs.Reader.{current}
use Rattle.script_lines.specs.declared.lines.Lines.{Lines}
use Rattle.script_lang.specs.Reading.{Reading, Silent, Asks, Fails}
use Rattle.talks.specs.Talking.{Exchange, IsLoud, Left}
use Rattle.runs.specs.Talked.{HasNext}
use Rattle.clients.specs.Heard.{Heard, IsRouted}
use Rattle.clients.specs.Prepared.{AsksNow, IsPrepared, IsTurnOf, asks_with, with_names}
use Rattle.clients.specs.Routing.{ClientStep, busy_with, routed, unless_busy}
use Rattle.clients.specs.Turns.{IsTurn, Turn, Quiet, Said}
use Rattle.clients.specs.declared.clients.Clients.{Clients}

-- ---- what was heard, and one line more

pub heard_more : (owner mid after : Option ℕ) (lines : List Line) (line : Line) (had : List Exchange) (client : ℕ) (said : Reading) (last : Exchange) → Heard owner lines had mid
    → IsTurn line (Said client said) → ClientStep mid client said last after → Heard owner (lines ++ line ∷ []) (had ++ last ∷ []) after
heard_more owner mid after [] line had client said last heard turn step = inr (
  after,
  [],
  record {
    client = client;
    reading = said;
    turn = turn;
    first = last;
    had_is = ap (λ (l : List Exchange). l ++ last ∷ []) heard.0;
    step = subst (λ (o : Option ℕ). ClientStep o client said last after) heard.1 step;
  },
  (refl, refl),
)
heard_more owner mid after (l ∷ lines) line had client said last heard turn step =
    ⊎_elim (λ quiet. inl (quiet.0, heard_more owner mid after lines line had client said last quiet.1 turn step))
    (λ answered. inr (
      answered.0,
      answered.1 ++ last ∷ [],
      record {
        client = answered.2.client;
        reading = answered.2.reading;
        turn = answered.2.turn;
        first = answered.2.first;
        had_is = ap (λ (l : List Exchange). l ++ last ∷ []) answered.2.had_is;
        step = answered.2.step;
      },
      heard_more answered.0 mid after lines line answered.1 client said last answered.3 turn step,
    )) heard

pub heard_quiet : (owner now : Option ℕ) (lines : List Line) (line : Line) (had : List Exchange) → Heard owner lines had now → IsTurn line Quiet → Heard owner (lines ++ line ∷ []) had now
heard_quiet owner now [] line had heard turn = inl (turn, heard)
heard_quiet owner now (l ∷ lines) line had heard turn =
    ⊎_elim (λ quiet. inl (quiet.0, heard_quiet owner now lines line had quiet.1 turn))
    (λ answered. inr (answered.0, answered.1, answered.2, heard_quiet answered.0 now lines line answered.1 answered.3 turn)) heard

-- ---- the line that waits

-- What asks for nothing is quiet: what a client says isn't silent.
said_is_loud : (line : Line) (client : ℕ) → IsTurn line (Said client Silent) → ⊥
said_is_loud Long client turn = cc
said_is_loud (Short bytes) client turn = ⊎_elim (λ said. said.loud said.says) (λ unread. let no : Silent ≡ Fails refusal.Syntax = unread.syntax in cc) turn

not_silent : (busy : Option ℕ) (r : Request) → Silent ≡ unless_busy busy r → ⊥
not_silent None r is = cc
not_silent (Some other) r is = cc

-- The line is quiet.
quiet_of : (line : Line) (clients : Clients) (turn : Turn) → IsTurn line turn → Silent ≡ asks_with clients turn → IsTurn line Quiet
quiet_of line clients Quiet turn is = turn
quiet_of line clients (Said client Silent) turn is = absurd (said_is_loud line client turn)
quiet_of line clients (Said client (Asks r)) turn is = absurd (not_silent (busy_with clients.owner client r) (with_names clients.names r) is)
quiet_of line clients (Said client (Fails why)) turn is = absurd (cc)

-- What a client says is asked with its own names.
asked_as : (line : Line) (clients : Clients) (client : ℕ) (said reading : Reading) → IsPrepared line clients → IsTurn line (Said client said) → reading ≡ asks_with clients (Said client said)
    → reading ≡ routed clients.owner client said
asked_as line clients client Silent reading prepared turn is = is
asked_as line clients client (Asks r) reading prepared turn is = is ∙ ap (unless_busy (busy_with clients.owner client r)) (prepared.names_are client r turn)
asked_as line clients client (Fails why) reading prepared turn is = is

routed_by : (line : Line) (clients : Clients) (turn : Turn) (reading : Reading) → IsPrepared line clients → IsTurn line turn → IsLoud reading → reading ≡ asks_with clients turn
    → IsRouted clients.owner clients.client line reading
routed_by line clients Quiet reading prepared turn loud is = absurd (subst IsLoud is loud)
routed_by line clients (Said client said) reading prepared turn loud is =
    let same : clients.client ≡ client = prepared.client_is client said turn in
    subst (λ (k : ℕ). IsRouted clients.owner k line reading) (sym same) (said, turn, asked_as line clients client said reading prepared turn is)

module _ {H : List Line → List Exchange → Type 0} {first now : Lines} {left at : Left} {had : List Exchange} (waits : HasNext H first left had now at) where
  turn_of_next : (turn : Turn) → IsTurnOf (current now) turn → IsTurn waits.next turn
  turn_of_next turn is = subst (λ (o : Option Line). IsTurnOf o turn) (sym waits.shown) is

  pub next_is_quiet : (clients : Clients) → AsksNow (current now) clients Silent → IsTurn waits.next Quiet
  next_is_quiet clients asks = quiet_of waits.next clients asks.0 (turn_of_next asks.0 asks.1) asks.2

  pub next_is_routed : (clients : Clients) (reading : Reading) → IfSome (current now) (λ line. IsPrepared line clients) → AsksNow (current now) clients reading → IsLoud reading
      → IsRouted clients.owner clients.client waits.next reading
  next_is_routed clients reading prepared asks loud = routed_by waits.next clients asks.0 reading (subst (λ (o : Option Line). IfSome o (λ line. IsPrepared line clients)) (sym waits.shown) prepared) (turn_of_next asks.0 asks.1) loud asks.2
