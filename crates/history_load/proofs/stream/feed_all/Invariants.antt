use Rattle.std.proofs.Common.{◌≡◌, ◌≤◌, ◌-◌, vec_len}
use Rattle.history_load.specs.Loading.{IsLoader}
use Rattle.history_load.specs.Streams.{Feeds, TakesAndWrites, most_behind, piece_most}
use Rattle.history_reads.specs.Kept.{AreOfOneStream}
use Rattle.history_load.specs.Staying.{StaysEmpty}
use Rattle.restart.specs.Opening.{AreOpened}
use Rattle.volume_port.specs.declared.state.VolumeState.{VolumeState}
use Rattle.history_load.proofs.stream.feed_all.Given as goal

abbrev pub invariant-pieces : goal.invariant-pieces
invariant-pieces g l = record {
  size : vec_len l.piece ≡ piece_most;
  few : l.left ≤ most_behind l.initial.loader.progress.geometry l.initial.loader.progress.head;
  stream : AreOfOneStream l.initial.loader.progress l.loader.progress;
  is : IsLoader l.initial.loader.progress.geometry l.loader;
  only : TakesAndWrites (g.H.World.outside l.initial.host) (g.H.World.outside l.host);
  stays : (volume : VolumeState) → AreOpened volume → volume.geometry ≡ l.initial.loader.progress.geometry → StaysEmpty (g.H.World.outside l.initial.host) (g.H.World.outside l.host) volume;
  fed : Feeds l.initial.loader.progress.geometry (g.H.World.outside l.initial.host) (g.H.World.outside l.host) l.initial.loader l.loader
      (most_behind l.initial.loader.progress.geometry l.initial.loader.progress.head - l.left);
}

abbrev pub decreases-pieces : goal.decreases-pieces
decreases-pieces g l = l.left
