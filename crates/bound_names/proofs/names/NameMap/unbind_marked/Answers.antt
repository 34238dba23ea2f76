use Rattle.std.proofs.Common.{◌∙◌, ap}
use Rattle.table_model.specs.Machines.{kept}
use Rattle.bound_names.specs.Bindings.{rows_of}
use Rattle.bound_names.proofs.Rows.{rows_of-kept}
use Rattle.bound_names.proofs.names.NameMap.unbind_marked.Goals as goal

pub returns : goal.returns
returns c =
    ap (rows_of (λ key. key.items) c.self.inside.settled) c.truncate.ensures.entries
    ∙ rows_of-kept (λ key. key.items) c.self.inside.settled c.self.inside.oids.entries ∙ ap kept c.self.view_is
