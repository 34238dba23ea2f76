use Rattle.std.proofs.Common.{◌≡◌, rules, get_or, true, false}
use Rattle.std.specs.Prelude.{◌==◌}
use Rattle.data_words.proofs.PartCuts.{free_more, cut_at, uncut}
use Rattle.data_words.proofs.parts.cut.Goals as goal

pub returns-then-byte-at : goal.returns-then-byte-at
returns-then-byte-at c =
    let hit : (get_or c.args.bytes.now c.loop-i.i 0 == c.args.at) ≡ true = search rules in
    cut_at (λ b. b == c.args.at) c.args.bytes.now c.loop-i.i c.loop-i-test.true c.loop-i.invariant hit

pub loop-i-preserved : goal.loop-i-preserved
loop-i-preserved c =
    let free : (get_or c.args.bytes.now c.loop-i.i 0 == c.args.at) ≡ false = search rules in
    free_more (λ b. b == c.args.at) c.args.bytes.now c.loop-i.i c.loop-i-test.true c.loop-i.invariant free

pub returns : goal.returns
returns c = uncut (λ b. b == c.args.at) c.args.bytes.now c.loop-i.i c.loop-i-test.false c.loop-i.invariant
