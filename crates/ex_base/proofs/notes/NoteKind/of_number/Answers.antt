use Rattle.std.proofs.Common.{◌-◌, arith}
use Rattle.ex_base.specs.NoteKinds.{kind_number}
use Rattle.ex_base.proofs.NoteKinds.{kind_later, no_kind_left}
use Rattle.ex_base.proofs.notes.NoteKind.of_number.Goals as goal

pub loop-kind-init : goal.loop-kind-init
loop-kind-init c kind same = (kind_number kind - 1, grind arith, grind arith)

pub loop-kind-preserved : goal.loop-kind-preserved
loop-kind-preserved c kind same =
    kind_later _ c.loop-kind.kind-index _ kind c.args.number c.number.result c.loop-kind-test.true c.number.ensures c.if-number.false same (c.loop-kind.invariant kind same)

pub returns : goal.returns
returns c kind same = no_kind_left _ c.loop-kind.kind-index kind (omega arith) (c.loop-kind.invariant kind same)
