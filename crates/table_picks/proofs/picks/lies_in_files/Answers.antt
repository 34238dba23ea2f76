use Rattle.std.proofs.Common.{sym, ◌∙◌}
use Rattle.table_lists.proofs.Flat.{none_there, some_there}
use Rattle.table_picks.proofs.picks.lies_in_files.Goals as goal

pub loop-file-preserved : goal.loop-file-preserved
loop-file-preserved c =
    none_there _ _ c.args.files.now c.loop-file.file-index c.file-item.result _ c.loop-file-test.true c.file-item.is c.loop-file.invariant
    (rw (← c.as_slice.ensures) (sym c.lies_in_objects.ensures ∙ c.if-lies_in_objects.false))

pub returns-then-lies_in_objects : goal.returns-then-lies_in_objects
returns-then-lies_in_objects c =
    some_there _ _ c.args.files.now c.loop-file.file-index c.file-item.result _ c.loop-file-test.true c.file-item.is c.loop-file.invariant
    (rw (← c.as_slice.ensures) (sym c.lies_in_objects.ensures ∙ c.if-lies_in_objects.true))
