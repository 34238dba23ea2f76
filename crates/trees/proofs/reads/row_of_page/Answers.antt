use Rattle.std.proofs.Common.{◌≡◌, List, subst, ◌-◌, length, take, drop}
use Rattle.std.specs.Prelude.{IfOk, IfSome}
use Rattle.trees.specs.declared.Pair.{Pair}
use Rattle.trees.specs.Rows.{parts_of}
use Rattle.trees.proofs.NodeLaws.{pairs_read, rise_decides, found_on, none_on}
use Rattle.trees.specs.Node.{RiseFrom, read_pairs}
use Rattle.trees.proofs.reads.row_of_page.Goals as goal

pub returns-clause-row : goal.returns-clause-row
returns-clause-row c =
    subst (λ (pairs : List Pair). IfOk c.rising_row.result (λ found. IfSome found (λ row. row.items ≡ parts_of 0 pairs))) (pairs_read c.args.page.now c.of.result c.get_u16-n.result c.of.ensures c.get_u16-n.ensures) c.rising_row.ensures.row

pub returns-clause-node : goal.returns-clause-node
returns-clause-node c = found_on c.rising_row.result _ _ ((rise_decides c.args.fan c.args.page.now c.of.result c.get_u16-n.result (RiseFrom 0 (read_pairs c.of.result c.get_u16-n.result (take (length c.args.page.now - 8) (drop 8 c.args.page.now)))) (c.has_frame.ensures.0 c.if-not-has_frame.false) c.of.ensures c.get_u16-n.ensures (λ h. h, λ h. h)).0) c.rising_row.ensures.rise

pub returns-clause-none : goal.returns-clause-none
returns-clause-none c = none_on c.rising_row.result _ _ ((rise_decides c.args.fan c.args.page.now c.of.result c.get_u16-n.result (RiseFrom 0 (read_pairs c.of.result c.get_u16-n.result (take (length c.args.page.now - 8) (drop 8 c.args.page.now)))) (c.has_frame.ensures.0 c.if-not-has_frame.false) c.of.ensures c.get_u16-n.ensures (λ h. h, λ h. h)).1) c.rising_row.ensures.none
