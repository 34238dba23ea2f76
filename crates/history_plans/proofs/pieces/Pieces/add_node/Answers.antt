use Rattle.std.proofs.Common.{◌≡◌, ℕ, List, ap, ◌∙◌}
use Rattle.history_volumes.specs.Walks.{added}
use Rattle.history_plans.specs.Pieces.{PlannedPieces}
use Rattle.history_plans.proofs.Results.{err_given, ok_given}
use Rattle.history_plans.proofs.Tables.{inserted_key}
use Rattle.history_plans.proofs.pieces.Pieces.add_node.Goals as goal
use Rattle.history_plans.proofs.pieces.Pieces.add_node.Goals.{in-Ok, in-Err}

pub returns-clause-nodes : goal.returns-clause-nodes
returns-clause-nodes c =
    let here : c.self.inside.pages.keys ≡ c.args.self.now.nodes = ap (λ (v : PlannedPieces). v.nodes) c.self.view_is in
    elim c.match-insert.branch [
      | in-Ok w ↦ ok_given _ c.match-insert.result (w.in-Ok.ensures.keys ∙ inserted_key c.self.inside.pages.keys c.args.page.0 ∙ ap (λ (ns : List ℕ). added ns c.args.page.0) here)
      | in-Err w ↦ err_given _ c.match-insert.result _ w.result-is
    ]
