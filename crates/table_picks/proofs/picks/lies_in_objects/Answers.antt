use Rattle.std.proofs.Common.{sym, ◌∙◌}
use Rattle.table_lists.proofs.Flat.{none_there, some_there}
use Rattle.table_picks.proofs.picks.lies_in_objects.Goals as goal

pub loop-object-preserved : goal.loop-object-preserved
loop-object-preserved c =
    none_there _ _ c.args.objects.now c.loop-object.object-index c.object-item.result _ c.loop-object-test.true c.object-item.is c.loop-object.invariant
    (rw (← c.as_slice.ensures) (sym c.lies_among.ensures ∙ c.if-lies_among.false))

pub returns-then-lies_among : goal.returns-then-lies_among
returns-then-lies_among c =
    some_there _ _ c.args.objects.now c.loop-object.object-index c.object-item.result _ c.loop-object-test.true c.object-item.is c.loop-object.invariant
    (rw (← c.as_slice.ensures) (sym c.lies_among.ensures ∙ c.if-lies_among.true))
