use Rattle.std.proofs.Common.{◌≡◌, ℕ, suc, List, ap, ◌∙◌}
use Rattle.std.specs.Option.{option_map}
use Rattle.history_volumes.specs.Transcribed.{number_in}
use Rattle.history_plans.specs.Pieces.{PlannedPieces}
use Rattle.history_plans.proofs.Tables.{numbered_position}
use Rattle.history_plans.proofs.pieces.Pieces.index_of_node.Goals as goal

pub returns-clause-index : goal.returns-clause-index
returns-clause-index c =
    let here : c.self.inside.pages.keys ≡ c.args.self.now.nodes = ap (λ (v : PlannedPieces). v.nodes) c.self.view_is in
    ap (option_map suc) c.get_index_of.ensures.index ∙ numbered_position c.self.inside.pages.keys c.args.page.0 ∙ ap (λ (ks : List ℕ). number_in ks c.args.page.0) here
