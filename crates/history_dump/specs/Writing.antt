-- How far the stream of a volume was given.
use Rattle.std.specs.Prelude.{◌≡◌, ◌≤◌, ℕ, List, ◌++◌, length, take, drop}
use Rattle.ex_base.specs.declared.geometry.Geometry.{Geometry}
use Rattle.ex_base.specs.declared.ground.Ground as ground
use Rattle.op_log.specs.declared.record.LogRecord.{LogRecord}
use Rattle.trees.specs.Trees.{Units}
use Rattle.volume_model.specs.Volume.{Volume}
use Rattle.volume_edits.specs.Ported.{ShowsVolume, units_in}
use Rattle.history_model.specs.History.{History}
use Rattle.history_model.specs.Stream.{stream_of}
use Rattle.history_volumes.specs.Histories.{IsHistoryOn}
use Rattle.history_plans.specs.Plans.{IsPlanOf}
use Rattle.history_dump.specs.Positions.{IsAt, stream_from}
use Rattle.history_dump.specs.declared.dumper.Dumper.{Dumper}

-- what is left of the item that was made last
abbrev pub item_left : Dumper → List ℕ
item_left d = drop d.given (take d.end d.room.items)

-- The dumper's plan is that of a history of the volume on these units, of which logged pages have these images. It gave so many bytes of its stream: what it
-- has made and not given, and what it makes from its position on, are the rest.
pub record IsGiving (g : Geometry) (units : Units) (image : ℕ → List ℕ) (v : Volume) (h : History) (d : Dumper) (at : ℕ) : Type 0 where
  pub on : IsHistoryOn g units v h
  pub plan : IsPlanOf g units v d.items.plan h
  pub position : IsAt image h d.position d.items.records.items
  pub inside : at ≤ length (stream_of g h)
  pub left : item_left d ++ stream_from g h d.position ≡ drop at (stream_of g h)

-- The same of a volume that a port shows.
pub record IsWriting {S : Type 0} (g : ground.Ghosts S) (s : S) (v : Volume) (h : History) (d : Dumper) (at : ℕ) : Type 0 where
  pub records : List LogRecord
  pub shows : ShowsVolume g s records v
  pub gives : IsGiving (g.geometry s) (units_in g s) (g.image s) v h d at
