use Rattle.std.proofs.Common.{◌≡◌, List, sym, subst}
use Rattle.std.specs.Prelude.{IfOk, IfSome}
use Rattle.trees.specs.declared.Pair.{Pair}
use Rattle.trees.specs.declared.width.Width.TheVariants.{Wide}
use Rattle.trees.specs.Rows.{parts_of, AreHalfFull}
use Rattle.trees.proofs.NodeLaws.{pairs_read, found_on}
use Rattle.trees.proofs.wide.wide_row.Goals as goal

pub returns-clause-row : goal.returns-clause-row
returns-clause-row c =
    subst (λ (pairs : List Pair). IfOk c.leaf_row.result (λ found. IfSome found (λ row. row.items ≡ parts_of 0 pairs))) (pairs_read c.args.page.now Wide c.get_u16-n.result (sym (c.is_wide.ensures.wide c.if-not-is_wide.false)) c.get_u16-n.ensures) c.leaf_row.ensures.row

pub returns-clause-halves : goal.returns-clause-halves
returns-clause-halves c = found_on c.leaf_row.result _ _ (λ fit. subst (λ (pairs : List Pair). AreHalfFull c.args.full (parts_of 0 pairs)) (pairs_read c.args.page.now Wide c.get_u16-n.result (sym (c.is_wide.ensures.wide c.if-not-is_wide.false)) c.get_u16-n.ensures) fit.1) c.leaf_row.ensures.fit
