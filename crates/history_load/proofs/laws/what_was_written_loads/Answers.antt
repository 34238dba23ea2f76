use Rattle.history_load.proofs.WrittenVolumes.{loads}
use Rattle.history_load.proofs.laws.what_was_written_loads.Goals as goal

pub returns : goal.returns
returns c g image page catalog h leaf node large spelled size next_unique last items lengths pages written found lowest =
    loads g image page catalog h leaf node large spelled size next_unique last items lengths pages written found lowest
