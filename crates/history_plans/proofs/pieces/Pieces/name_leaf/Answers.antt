use Rattle.std.proofs.Common.{◌≡◌, ℕ, List, max, nat_eq, Option, ap, ◌∙◌}
use Rattle.std.specs.Prelude.{unwrap_or}
use Rattle.std.specs.Map.{lookup}
use Rattle.indexmap.specs.IndexMap.{insert_entry}
use Rattle.history_volumes.specs.Walks.{raised}
use Rattle.history_plans.specs.Pieces.{PlannedPieces}
use Rattle.history_plans.proofs.Results.{err_given, ok_given}
use Rattle.history_plans.proofs.Tables.{inserted}
use Rattle.history_plans.proofs.pieces.Pieces.name_leaf.Goals as goal
use Rattle.history_plans.proofs.pieces.Pieces.name_leaf.Goals.{in-Ok, in-Err}

pub returns-clause-leaves : goal.returns-clause-leaves
returns-clause-leaves c =
    let here : c.self.inside.units.entries ≡ c.args.self.now.leaves = ap (λ (v : PlannedPieces). v.leaves) c.self.view_is in
    let most : c.max-most.result ≡ max (unwrap_or (lookup (nat_eq c.args.unit.0) c.self.inside.units.entries) 0) c.args.len =
    c.max-most.ensures ∙ ap (λ (m : ℕ). max m c.args.len) (c.unwrap_or.ensures ∙ ap (λ (o : Option ℕ). unwrap_or o 0) (c.copied.ensures ∙ c.get.ensures.value)) in
    elim c.match-insert.branch [
      | in-Ok w ↦ ok_given _ c.match-insert.result (w.in-Ok.ensures.entries ∙ ap (insert_entry nat_eq c.self.inside.units.entries c.args.unit.0) most
          ∙ inserted c.self.inside.units.entries c.args.unit.0 c.args.len ∙ ap (λ (ls : List (ℕ × ℕ)). raised ls c.args.unit.0 c.args.len) here)
      | in-Err w ↦ err_given _ c.match-insert.result _ w.result-is
    ]
