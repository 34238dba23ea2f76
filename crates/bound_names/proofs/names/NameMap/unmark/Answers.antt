use Rattle.std.proofs.Common.{◌∙◌, ℕ, ap}
use Rattle.table_model.specs.Machines.{unmarked}
use Rattle.bound_names.specs.Bindings.{rows_of}
use Rattle.bound_names.proofs.Rows.{rows_of-settled}
use Rattle.bound_names.proofs.names.NameMap.unmark.Goals as goal

pub returns : goal.returns
returns c =
    ap (λ (n : ℕ). rows_of (λ key. key.items) n c.self.inside.oids.entries) c.len-self-inside.ensures.len
    ∙ rows_of-settled (λ key. key.items) c.self.inside.settled c.self.inside.oids.entries ∙ ap unmarked c.self.view_is
