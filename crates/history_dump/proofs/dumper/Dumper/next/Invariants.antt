use Rattle.std.proofs.Common.{◌≡◌, ◌≤◌, ◌+◌, ◌-◌, ℕ, length, take, vec_len}
use Rattle.ex_base.specs.Bytes.{part}
use Rattle.ex_base.specs.Ports.{Keeps}
use Rattle.volume_model.specs.Volume.{Volume}
use Rattle.history_model.specs.History.{History}
use Rattle.history_model.specs.Stream.{stream_of}
use Rattle.history_dump.specs.Writing.{IsWriting}
use Rattle.history_dump.proofs.dumper.Dumper.next.Given as goal

abbrev pub invariant-given : goal.invariant-given
invariant-given g l = record {
  inside : l.len ≤ length l.out;
  kept : Keeps g.V.Ground l.initial.volume l.volume;
  room : vec_len l.self.room ≡ vec_len l.initial.self.room;
  given : g.V.Ground.tells l.initial.volume → (v : Volume) (h : History) (at : ℕ) → IsWriting g.V.Ground l.initial.volume v h l.initial.self at
      → (take l.len l.out ≡ part (stream_of (g.V.Ground.geometry l.initial.volume) h) at l.len) × IsWriting g.V.Ground l.initial.volume v h l.self (at + l.len);
  uncalled : g.V.Ground.tells l.initial.volume → (v : Volume) (h : History) → IsWriting g.V.Ground l.initial.volume v h l.initial.self (length (stream_of (g.V.Ground.geometry l.initial.volume) h))
      → l.volume ≡ l.initial.volume;
}

abbrev pub decreases-given : goal.decreases-given
decreases-given g l = length l.out - l.len
