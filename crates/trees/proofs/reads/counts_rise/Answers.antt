use Rattle.std.proofs.Common.{ℕ, ◌*◌, ◌∙◌, ap, arith, ◌≤◌, length, rules}
use Rattle.ex_base.specs.Fields.{number_at}
use Rattle.trees.specs.Node.{count_len}
use Rattle.trees.proofs.PairLaws.{stops, goes_on, pair_inside}
use Rattle.std.proofs.lemmas.Bool.{false≢true}
use Rattle.trees.proofs.reads.counts_rise.Goals as goal

pub returns-then-count-last : goal.returns-then-count-last
returns-then-count-last c =
    let count = c.count-count.ensures ∙ ap (λ (k : ℕ). number_at (count_len c.args.width) c.args.bytes.now (k * c.loop-i.i)) c.pair_len.ensures in
    (λ e. absurd (false≢true e), λ all. absurd (stops c.args.width _ _ _ _ _ c.loop-i-test.true count c.if-count-last.true (c.loop-i.invariant.0 all)))

pub loop-i-preserved : goal.loop-i-preserved
loop-i-preserved c =
    let count = c.count-count.ensures ∙ ap (λ (k : ℕ). number_at (count_len c.args.width) c.args.bytes.now (k * c.loop-i.i)) c.pair_len.ensures in
    goes_on c.args.width _ _ _ _ _ _ c.loop-i-test.true count c.if-count-last.false c.loop-i.invariant

pub count-count-requires : goal.count-count-requires
count-count-requires c = omega (arith, ap (λ (k : ℕ). k * c.loop-i.i) c.pair_len.ensures, pair_inside c.args.width c.args.n c.loop-i.i c.loop-i-test.true, c.requires)

pub overflow_mul-pair_len : goal.overflow_mul-pair_len
overflow_mul-pair_len c =
    let inside : c.pair_len.result * c.loop-i.i ≤ length c.args.bytes.now = omega (arith, ap (λ (k : ℕ). k * c.loop-i.i) c.pair_len.ensures, pair_inside c.args.width c.args.n c.loop-i.i c.loop-i-test.true, c.requires) in
    search rules
