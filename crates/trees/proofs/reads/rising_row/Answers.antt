use Rattle.std.proofs.Common.{◌≡◌, ℕ, ◌+◌, ◌*◌, List, ap, sym, subst, ◌∙◌, arith, ◌≤◌, length, rules}
use Rattle.ex_base.specs.Fields.{number_at}
use Rattle.trees.specs.declared.rows.Part.{Part}
use Rattle.trees.specs.Node.{count_len, pair_len}
use Rattle.trees.proofs.PairLaws.{stops, pair_inside}
use Rattle.trees.proofs.Rising.{RowSoFar, row_more, row_all}
use Rattle.trees.proofs.reads.rising_row.Goals as goal

pub push_reserved-requires : goal.push_reserved-requires
push_reserved-requires c = omega (arith, c.loop-i.invariant.1, c.loop-i.invariant.2, c.loop-i-test.true)

pub returns-then-count-last-clause-none : goal.returns-then-count-last-clause-none
returns-then-count-last-clause-none c =
    let count : c.count-count.result ≡ number_at (count_len c.args.width) c.args.bytes.now (pair_len c.args.width * c.loop-i.i) =
    c.count-count.ensures ∙ ap (λ (k : ℕ). number_at (count_len c.args.width) c.args.bytes.now (k * c.loop-i.i)) c.pair_len.ensures in
    λ all. stops c.args.width _ _ _ _ _ c.loop-i-test.true count c.if-count-last.true (c.loop-i.invariant.0.rise.0 all)

pub loop-i-preserved : goal.loop-i-preserved
loop-i-preserved c =
    let at : c.pair_len.result * c.loop-i.i ≡ pair_len c.args.width * c.loop-i.i = ap (λ (k : ℕ). k * c.loop-i.i) c.pair_len.ensures in
    let count : c.count-count.result ≡ number_at (count_len c.args.width) c.args.bytes.now (pair_len c.args.width * c.loop-i.i) =
    c.count-count.ensures ∙ ap (number_at (count_len c.args.width) c.args.bytes.now) at in
    let page : c.get_u32.result ≡ number_at 4 c.args.bytes.now (pair_len c.args.width * c.loop-i.i + count_len c.args.width) =
    c.get_u32.ensures ∙ ap (λ (k : ℕ). number_at 4 c.args.bytes.now (c.pair_len.result * c.loop-i.i + k)) c.count_len.ensures ∙ ap (λ (k : ℕ). number_at 4 c.args.bytes.now (k + count_len c.args.width)) at in (
      subst (λ (row : List Part). RowSoFar c.args.width c.args.n (c.loop-i.i + 1) c.count-count.result c.args.bytes.now row) (sym c.push_reserved.ensures.items)
          (row_more c.args.width c.args.n c.loop-i.i c.loop-i.last c.count-count.result c.get_u32.result c.args.bytes.now c.loop-i.row.items c.loop-i-test.true count page c.if-count-last.false c.loop-i.invariant.0),
      omega (arith, c.push_reserved.ensures.len, c.loop-i.invariant.1),
      c.push_reserved.ensures.capacity ∙ c.loop-i.invariant.2,
    )

pub overflow_mul-at : goal.overflow_mul-at
overflow_mul-at c =
    let inside : c.pair_len.result * c.loop-i.i + pair_len c.args.width ≤ length c.args.bytes.now = omega (arith, ap (λ (k : ℕ). k * c.loop-i.i) c.pair_len.ensures, pair_inside c.args.width c.args.n c.loop-i.i c.loop-i-test.true, c.requires) in
    search rules

pub overflow_add-at : goal.overflow_add-at
overflow_add-at c =
    let inside : c.pair_len.result * c.loop-i.i + pair_len c.args.width ≤ length c.args.bytes.now = omega (arith, ap (λ (k : ℕ). k * c.loop-i.i) c.pair_len.ensures, pair_inside c.args.width c.args.n c.loop-i.i c.loop-i-test.true, c.requires) in
    let len = c.count_len.ensures in
    search rules

pub count-count-requires : goal.count-count-requires
count-count-requires c =
    let inside : c.pair_len.result * c.loop-i.i + pair_len c.args.width ≤ length c.args.bytes.now = omega (arith, ap (λ (k : ℕ). k * c.loop-i.i) c.pair_len.ensures, pair_inside c.args.width c.args.n c.loop-i.i c.loop-i-test.true, c.requires) in
    omega (arith, inside)

pub get_u32-requires : goal.get_u32-requires
get_u32-requires c =
    let inside : c.pair_len.result * c.loop-i.i + pair_len c.args.width ≤ length c.args.bytes.now = omega (arith, ap (λ (k : ℕ). k * c.loop-i.i) c.pair_len.ensures, pair_inside c.args.width c.args.n c.loop-i.i c.loop-i-test.true, c.requires) in
    omega (arith, inside, c.count_len.ensures)

pub returns-clause-rise : goal.returns-clause-rise
returns-clause-rise c = (row_all c.args.width c.args.n c.loop-i.i c.loop-i.last c.args.bytes.now c.loop-i.row.items c.loop-i-test.false c.loop-i.invariant.0).0

pub returns-clause-row : goal.returns-clause-row
returns-clause-row c = (row_all c.args.width c.args.n c.loop-i.i c.loop-i.last c.args.bytes.now c.loop-i.row.items c.loop-i-test.false c.loop-i.invariant.0).1
