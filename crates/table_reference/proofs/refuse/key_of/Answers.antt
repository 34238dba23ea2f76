use Rattle.std.proofs.Common.{◌∙◌, ap}
use Rattle.std.specs.Prelude.{option_map, Some}
use Rattle.table_model.specs.declared.machine.BoundName.{BoundName}
use Rattle.table_reference.proofs.refuse.key_of.Goals as goal

pub returns-in-Some : goal.returns-in-Some
returns-in-Some c =
    let found = rw (c.as_slice.ensures, c.in-Some.is) at c.bound_named.ensures in
    rw c.in-Name.is (ap Some c.key_at.ensures ∙ ap (option_map (λ (b : BoundName). b.oid)) found)
