-- The stream of a volume.
use Rattle.std.specs.Prelude.{◌≡◌, ℕ, List}
use Rattle.table_model.specs.declared.table.Table.{Table}
use Rattle.volume_model.specs.Parts.{Decodes}
use Rattle.volume_model.specs.Volume.{Decoded, table_of, units_of}
use Rattle.history_model.specs.Dumps.{IsHistoryOf}
use Rattle.history_model.specs.History.{History}
use Rattle.history_model.specs.Stream.{stream_of}
use Rattle.history_volumes.specs.Histories.{IsHistoryOn}
use Rattle.history_volumes.specs.Laws.{HasEachOnce}

-- The stream is that of the history of the volume on the image, which has each leaf and node that the volume reaches once, in order, and it is a dump of the
-- volume's table.
pub record Streams (image : List ℕ) (table : Table) (stream : List ℕ) : Type 0 where
  pub decoded : Decoded
  pub parts : Decodes image decoded
  pub table_is : table ≡ table_of (units_of decoded image) decoded.volume
  pub history : History
  pub on : IsHistoryOn decoded.geometry (units_of decoded image) decoded.volume history
  pub once : HasEachOnce decoded.geometry (units_of decoded image) decoded.volume
  pub of : IsHistoryOf decoded.geometry history table
  pub spelled : stream ≡ stream_of decoded.geometry history
