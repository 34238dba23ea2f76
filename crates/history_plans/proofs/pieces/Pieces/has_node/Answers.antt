use Rattle.std.proofs.Common.{◌≡◌, ℕ, List, ap, subst, sym, ◌∙◌}
use Rattle.version_lists.proofs.Lists.{Has, contains_has, has_contains}
use Rattle.history_plans.specs.Pieces.{PlannedPieces}
use Rattle.history_plans.proofs.Tables.{any_has, has_any}
use Rattle.history_plans.proofs.pieces.Pieces.has_node.Goals as goal

pub returns : goal.returns
returns c =
    let here : c.self.inside.pages.keys ≡ c.args.self.now.nodes = ap (λ (v : PlannedPieces). v.nodes) c.self.view_is in (
      λ is. has_contains c.args.self.now.nodes c.args.page.0 (subst (λ (ns : List ℕ). Has ns c.args.page.0) here (any_has c.self.inside.pages.keys c.args.page.0 (sym c.contains.ensures ∙ is))),
      λ there. c.contains.ensures ∙ has_any c.self.inside.pages.keys c.args.page.0 (subst (λ (ns : List ℕ). Has ns c.args.page.0) (sym here) (contains_has c.args.self.now.nodes c.args.page.0 there)),
    )
