use Rattle.std.proofs.Common.{arith, ◌+◌, ◌*◌, ◌≤◌, ℕ, IsTrue, length, sym, subst, ◌∙◌, rules}
use Rattle.trees.proofs.PairLaws.{pairs_fit}
use Rattle.trees.proofs.NodeLaws.{frame_decides}
use Rattle.trees.proofs.reads.has_frame.Goals as goal

pub returns : goal.returns
returns c =
    let room : 8 + c.pair_len-2.result * c.get_u16-n.result ≤ length c.args.page.now = subst (λ (k : ℕ). 8 + k * c.get_u16-n.result ≤ length c.args.page.now) (c.pair_len.ensures ∙ sym c.pair_len-2.ensures) c.if-page-pair_len.false in
    frame_decides c.args.fan c.args.page.now c.of-width.result c.get_u16-n.result c.pair_len-2.result (IsTrue c.is_zero-2.result) c.if-page-lt-PAIRS_AT.false c.of-width.ensures c.get_u16-n.ensures (c.if-page-kind.false ∙ c.kind.ensures) c.if-page-eq0.false (c.is_zero.ensures.0 c.if-not-is_zero.false)
    c.if-n-eq0.false c.if-n-fan.false c.pair_len-2.ensures room c.is_zero-2.ensures

pub overflow_mul-pair_len : goal.overflow_mul-pair_len
overflow_mul-pair_len c = omega (arith, pairs_fit c.of-width.result c.pair_len.result c.get_u16-n.result 65535 c.pair_len.ensures (omega (arith, c.get_u16-n.type_inv)))

pub overflow_add-pair_len : goal.overflow_add-pair_len
overflow_add-pair_len c = omega (arith, pairs_fit c.of-width.result c.pair_len.result c.get_u16-n.result 65535 c.pair_len.ensures (omega (arith, c.get_u16-n.type_inv)))

pub overflow_mul-pair_len-2 : goal.overflow_mul-pair_len-2
overflow_mul-pair_len-2 c = omega (arith, pairs_fit c.of-width.result c.pair_len-2.result c.get_u16-n.result 65535 c.pair_len-2.ensures (omega (arith, c.get_u16-n.type_inv)))

pub overflow_add-pair_len-2 : goal.overflow_add-pair_len-2
overflow_add-pair_len-2 c = omega (arith, pairs_fit c.of-width.result c.pair_len-2.result c.get_u16-n.result 65535 c.pair_len-2.ensures (omega (arith, c.get_u16-n.type_inv)))

pub slice_bounds-is_zero-start-2 : goal.slice_bounds-is_zero-start-2
slice_bounds-is_zero-start-2 c =
    let room : 8 + c.pair_len-2.result * c.get_u16-n.result ≤ length c.args.page.now = subst (λ (k : ℕ). 8 + k * c.get_u16-n.result ≤ length c.args.page.now) (c.pair_len.ensures ∙ sym c.pair_len-2.ensures) c.if-page-pair_len.false in
    search rules

pub slice_bounds-is_zero-count-2 : goal.slice_bounds-is_zero-count-2
slice_bounds-is_zero-count-2 c =
    let room : 8 + c.pair_len-2.result * c.get_u16-n.result ≤ length c.args.page.now = subst (λ (k : ℕ). 8 + k * c.get_u16-n.result ≤ length c.args.page.now) (c.pair_len.ensures ∙ sym c.pair_len-2.ensures) c.if-page-pair_len.false in
    search rules
