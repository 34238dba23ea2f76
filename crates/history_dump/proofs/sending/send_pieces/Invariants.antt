use Rattle.std.proofs.Common.{◌≡◌, ◌≤◌, ℕ, List, length, vec_len}
use Rattle.history_items.specs.Gathering.{item_most}
use Rattle.volume_model.specs.Volume.{Decoded}
use Rattle.volume_port.specs.Reading.{CanRead}
use Rattle.volume_port.specs.State.{IsAtRest}
use Rattle.history_model.specs.History.{History}
use Rattle.history_dump.specs.Sending.{IsSending, ReadsAndSends}
use Rattle.history_dump.proofs.Pieces.{HasSent}
use Rattle.history_dump.proofs.sending.send_pieces.Given as goal

abbrev pub invariant-pieces : goal.invariant-pieces
invariant-pieces g l = record {
  sends : ReadsAndSends (g.H.World.outside l.initial.host) (g.H.World.outside l.host);
  rest : l.volume ≡ record l.initial.volume { groups = l.volume.groups };
  ready : CanRead l.volume.geometry (g.H.World.outside l.host).size l.volume.groups 0 l.volume.meta;
  same : (g.H.World.outside l.host).disk_faults ≡ (g.H.World.outside l.initial.host).disk_faults;
  room : item_most l.volume.geometry ≤ vec_len l.dumper.room;
  long : length l.piece ≡ 65536;
  rests : (d : Decoded) (disk : List ℕ) → IsAtRest (g.H.World.outside l.initial.host) l.initial.volume d disk → IsAtRest (g.H.World.outside l.host) l.volume d disk;
  given : (d : Decoded) (disk : List ℕ) (h : History) → IsAtRest (g.H.World.outside l.initial.host) l.initial.volume d disk → IsSending (g.H.World.outside l.initial.host) l.initial.volume d.volume h l.initial.dumper 0
      → HasSent (g.H.World.outside l.initial.host) l.initial.volume (g.H.World.outside l.host) d.volume h l.dumper l.left;
}

abbrev pub decreases-pieces : goal.decreases-pieces
decreases-pieces g l = l.left
