use Rattle.std.proofs.Common.{◌≡◌, ◌-◌, List, length, take, drop, sym, ap, subst, ◌∙◌}
use Rattle.trees.specs.declared.Pair.{Pair}
use Rattle.trees.specs.declared.width.Width.TheVariants.{Wide}
use Rattle.trees.specs.Node.{Node, RiseFrom, read_pairs, width_on}
use Rattle.trees.specs.Rows.{parts_of, AreHalfFull}
use Rattle.trees.proofs.NodeLaws.{rise_decides, pairs_read, viewed}
use Rattle.trees.proofs.lent_nodes.wide_node.Goals as goal

pub returns-clause-reads : goal.returns-clause-reads
returns-clause-reads c =
    let page = c.args.page.now in
    let wide : Wide ≡ width_on page = sym (c.is_wide.ensures.wide c.if-not-is_wide.false) in
    (rise_decides c.args.fan page Wide c.get_u16-n.result (RiseFrom 0 (read_pairs Wide c.get_u16-n.result (take (length page - 8) (drop 8 page)))) (c.is_wide.ensures.frame c.if-not-is_wide.false) wide c.get_u16-n.ensures (λ h. h, λ h. h)).0
    (c.wide_leaves_fit.ensures.0 c.if-not-wide_leaves_fit.false).0

pub over-requires : goal.over-requires
over-requires c =
    let page = c.args.page.now in
    let wide : Wide ≡ width_on page = sym (c.is_wide.ensures.wide c.if-not-is_wide.false) in
    let fit = (c.wide_leaves_fit.ensures.0 c.if-not-wide_leaves_fit.false).0 in
    viewed c.args.fan page ((rise_decides c.args.fan page Wide c.get_u16-n.result (RiseFrom 0 (read_pairs Wide c.get_u16-n.result (take (length page - 8) (drop 8 page)))) (c.is_wide.ensures.frame c.if-not-is_wide.false) wide c.get_u16-n.ensures (λ h. h, λ h. h)).0 fit)

pub returns-clause-halves : goal.returns-clause-halves
returns-clause-halves c =
    let page = c.args.page.now in
    let wide : Wide ≡ width_on page = sym (c.is_wide.ensures.wide c.if-not-is_wide.false) in
    subst (λ (pairs : List Pair). AreHalfFull c.args.full (parts_of 0 pairs)) (pairs_read page Wide c.get_u16-n.result wide c.get_u16-n.ensures ∙ sym (ap (λ (n : Node). n.pairs) c.over.ensures))
    (c.wide_leaves_fit.ensures.0 c.if-not-wide_leaves_fit.false).1
