use Rattle.std.proofs.Common.{sym, ◌∙◌, ap}
use Rattle.std.specs.Prelude.{option_copied}
use Rattle.table_lists.proofs.Flat.{missed, found}
use Rattle.table_lists.proofs.find.object_in_files.Goals as goal

pub loop-file-preserved : goal.loop-file-preserved
loop-file-preserved c =
    missed _ _ c.args.files.now c.loop-file.file-index c.file-item.result _ c.loop-file-test.true c.file-item.is c.loop-file.invariant
    (rw (← c.as_slice.ensures) (sym c.object_with.ensures ∙ ap option_copied c.in-None.is))

pub returns-in-Some : goal.returns-in-Some
returns-in-Some c =
    found _ _ c.args.files.now c.loop-file.file-index c.file-item.result _ _ c.loop-file-test.true c.file-item.is c.loop-file.invariant
    (rw (← c.as_slice.ensures) (sym c.object_with.ensures ∙ ap option_copied c.in-Some.is))
