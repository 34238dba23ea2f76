use Rattle.std.proofs.Common.{◌∙◌, List, ap}
use Rattle.bound_names.specs.Bindings.{bound_oid}
use Rattle.table_model.specs.declared.machine.BoundName.{BoundName}
use Rattle.bound_names.proofs.Rows.{bound_oid-rows_of}
use Rattle.bound_names.proofs.names.NameMap.oid_of.Goals as goal

pub returns : goal.returns
returns c =
    let q = c.args.name.now in
    c.copied.ensures ∙ c.get.ensures.value ∙ bound_oid-rows_of (λ key. key.items) q c.self.inside.settled c.self.inside.oids.entries ∙ ap (λ (rows : List BoundName). bound_oid rows q) c.self.view_is
