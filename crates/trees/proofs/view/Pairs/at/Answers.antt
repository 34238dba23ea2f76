use Rattle.std.proofs.Common.{ℕ, List, ◌+◌, ◌*◌, ◌<◌, ◌∙◌, ap, refl, sym, length, subst}
use Rattle.ex_base.specs.Fields.{number_at}
use Rattle.trees.specs.declared.Pair.{Pair}
use Rattle.trees.specs.Node.{count_len, pair_len, pairs_on, node_on}
use Rattle.trees.proofs.NodeLaws.{pair_given}
use Rattle.trees.proofs.view.Pairs.at.Goals as goal

pub returns : goal.returns
returns c =
    let page = c.self.inside.page.now in
    let w = c.self.inside.width in
    let lt : c.args.index < length (pairs_on page) = subst (λ (pairs : List Pair). c.args.index < length pairs) (sym c.self.view_is) c.requires in
    rw (sym c.self.view_is) (pair_given page (node_on page) w c.args.index c.count.result c.get_u32.result refl c.self.invariant.1 lt
    (c.count.ensures ∙ ap (λ (k : ℕ). number_at (count_len w) page (8 + k * c.args.index)) c.pair_len.ensures)
    (c.get_u32.ensures ∙ ap (λ (k : ℕ). number_at 4 page (8 + k * c.args.index + c.count_len.result)) c.pair_len.ensures
    ∙ ap (λ (n : ℕ). number_at 4 page (8 + pair_len w * c.args.index + n)) c.count_len.ensures))
