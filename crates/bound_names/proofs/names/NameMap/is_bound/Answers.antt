use Rattle.std.proofs.Common.{◌∙◌, List, ap, is_some}
use Rattle.bound_names.specs.Bindings.{is_bound}
use Rattle.table_model.specs.declared.machine.BoundName.{BoundName}
use Rattle.bound_names.proofs.Rows.{bound_oid-rows_of, is_bound-oid}
use Rattle.bound_names.proofs.names.NameMap.is_bound.Goals as goal

pub returns : goal.returns
returns c =
    let q = c.args.name.now in
    c.contains_key.ensures ∙ ap is_some (bound_oid-rows_of (λ key. key.items) q c.self.inside.settled c.self.inside.oids.entries) ∙ is_bound-oid q _ ∙ ap (λ (rows : List BoundName). is_bound rows q) c.self.view_is
