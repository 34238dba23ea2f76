-- The record of a version, before its file is whole.
use Rattle.std.specs.Prelude.{Bool, true, false, None}
use Rattle.ex_base.specs.declared.geometry.Geometry.{Geometry}
use Rattle.object_records.specs.declared.Head.{Head}
use Rattle.object_records.specs.declared.State.{State}
use Rattle.object_records.specs.declared.State.TheVariants.{Current, Frozen}
use Rattle.object_records.specs.Record.{Record}
use Rattle.history_model.specs.History.{HistoryVersion}
use Rattle.history_volumes.specs.Histories.{content_placed}
use Rattle.history_writes.specs.Places.{leaf_place, node_place}

abbrev pub state_of : Bool → State
state_of false = Current
state_of true = Frozen

-- its state and its number, and no links
abbrev pub unlinked_head : HistoryVersion → Head
unlinked_head v = record { state = state_of v.frozen; unique = v.unique; older = None; newer = None }

-- with its root at its place
abbrev pub unlinked : Geometry → HistoryVersion → Record
unlinked g v = record { head = unlinked_head v; content = content_placed (leaf_place g) node_place v.content }
