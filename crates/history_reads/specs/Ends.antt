-- Bytes that were read to the end.
use Rattle.std.specs.Prelude.{◌≡◌, ℕ, List, []}
use Rattle.ex_base.specs.declared.geometry.Geometry.{Geometry}
use Rattle.history_model.specs.Dumps.{AreAsNamed}
use Rattle.history_model.specs.FilePages.{pages_needed}
use Rattle.history_model.specs.History.{History}
use Rattle.history_model.specs.Items.{AreItems}
use Rattle.history_model.specs.Stream.{stream_of}
use Rattle.history_fronts.specs.declared.turns.Turn.TheVariants.{End as NoTurn}
use Rattle.history_fronts.specs.Fronts.{Front, history_of, turn_of}
use Rattle.history_fronts.specs.Readings.{IsFrontOf}

-- They are the stream of the history that came, whose items are each one.
abbrev pub EndsAreItems : Type 0
EndsAreItems = (g : Geometry) (joined : List ℕ) (f : Front) → IsFrontOf g joined f [] → turn_of f ≡ NoTurn → AreItems g (history_of f) × (joined ≡ stream_of g (history_of f))

-- The bytes are the stream of a history whose items are each one, whose leaves are as long as their longest namings, and whose head says how many pages its files need.
pub record IsWhole (g : Geometry) (joined : List ℕ) : Type 0 where
  pub history : History
  pub spelled : joined ≡ stream_of g history
  pub items : AreItems g history
  pub lengths : AreAsNamed history 1 history.leaves
  pub pages : history.pages ≡ pages_needed g.page_size history
