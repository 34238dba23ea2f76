use Rattle.std.proofs.Common.{◌≡◌, ℕ, suc, List, map, ap, ◌∙◌}
use Rattle.std.specs.Map.{keys_of}
use Rattle.std.specs.Option.{option_map}
use Rattle.history_volumes.specs.Transcribed.{number_in}
use Rattle.history_volumes.specs.Walks.{unit_named}
use Rattle.history_plans.specs.Pieces.{PlannedPieces}
use Rattle.history_plans.proofs.Tables.{keys_units, numbered_position}
use Rattle.history_plans.proofs.pieces.Pieces.index_of_leaf.Goals as goal

pub returns-clause-index : goal.returns-clause-index
returns-clause-index c =
    let here : c.self.inside.units.entries ≡ c.args.self.now.leaves = ap (λ (v : PlannedPieces). v.leaves) c.self.view_is in
    ap (option_map suc) c.get_index_of.ensures.index ∙ numbered_position (keys_of c.self.inside.units.entries) c.args.unit.0
    ∙ ap (λ (ks : List ℕ). number_in ks c.args.unit.0) (keys_units c.self.inside.units.entries ∙ ap (map unit_named) here)
