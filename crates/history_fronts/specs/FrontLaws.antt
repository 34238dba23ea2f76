-- What holds of fronts.
use Rattle.std.specs.Prelude.{◌≡◌, ℕ, List, ◌++◌}
use Rattle.ex_base.specs.declared.geometry.Geometry.{Geometry}
use Rattle.ex_base.specs.Bytes.{IsBytes}
use Rattle.table_model.specs.declared.table.Table.{Table}
use Rattle.history_model.specs.Dumps.{IsHistoryOf}
use Rattle.history_model.specs.History.{History}
use Rattle.history_model.specs.Stream.{head_of}
use Rattle.history_fronts.specs.declared.turns.Turn.TheVariants.{End as NoTurn}
use Rattle.history_fronts.specs.Fronts.{Front, IsDumpHead, Leads, begun, history_of, items_of, turn_of}
use Rattle.history_fronts.specs.Readings.{IsFrontOf, IsReadTo, IsRefused, NoneBegins}

-- Bytes are read to one front, whatever their cuts.
abbrev pub OneFront : Type 0
OneFront = (g : Geometry) (joined : List ℕ) (f k : Front) (held kept : List ℕ) → IsReadTo g joined f held → IsReadTo g joined k kept → (f ≡ k) × (held ≡ kept)

-- What is refused behind a front, no dump begins with, whatever follows.
abbrev pub RefusedBegins : Type 0
RefusedBegins = (g : Geometry) (joined rest : List ℕ) (f : Front) (held : List ℕ) → IsBytes joined → IsFrontOf g joined f held → IsRefused g f held → NoneBegins g (joined ++ rest)

-- Nor are such bytes read to any front.
abbrev pub RefusedAlone : Type 0
RefusedAlone = (g : Geometry) (joined rest : List ℕ) (f k : Front) (held kept : List ℕ) → IsBytes joined → IsFrontOf g joined f held → IsRefused g f held → IsReadTo g (joined ++ rest) k kept → ⊥

-- The items of a dump lead to its end, each sound.
abbrev pub DumpsLead : Type 0
DumpsLead = (g : Geometry) (h : History) (t : Table) → IsHistoryOf g h t
    → IsDumpHead g (head_of g h) × (f : Front) × Leads g (begun (head_of g h)) (items_of h) f × (turn_of f ≡ NoTurn) × (history_of f ≡ h)
