use Rattle.std.proofs.Common.{◌≡◌, drop, Contains}
use Rattle.ex_base.specs.declared.notes.NoteKind.{NoteKind}
use Rattle.ex_base.specs.NoteKinds.{kind_number}
use Rattle.ex_base.proofs.notes.NoteKind.of_number.Given as goal

abbrev pub invariant-loop-kind : goal.invariant-loop-kind
invariant-loop-kind l = (kind : NoteKind) → kind_number kind ≡ l.number → Contains (drop l.kind-index l.kind-items) kind
