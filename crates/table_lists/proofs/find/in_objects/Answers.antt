use Rattle.std.proofs.Common.{sym, ◌∙◌, ap}
use Rattle.std.specs.Prelude.{option_copied}
use Rattle.table_lists.proofs.Flat.{missed, found}
use Rattle.table_lists.proofs.find.in_objects.Goals as goal

pub loop-object-preserved : goal.loop-object-preserved
loop-object-preserved c =
    missed _ _ c.args.objects.now c.loop-object.object-index c.object-item.result _ c.loop-object-test.true c.object-item.is c.loop-object.invariant
    (rw (← c.as_slice.ensures) (sym c.in_versions.ensures ∙ ap option_copied c.in-None.is))

pub returns-in-Some : goal.returns-in-Some
returns-in-Some c =
    found _ _ c.args.objects.now c.loop-object.object-index c.object-item.result _ _ c.loop-object-test.true c.object-item.is c.loop-object.invariant
    (rw (← c.as_slice.ensures) (sym c.in_versions.ensures ∙ ap option_copied c.in-Some.is))
