use Rattle.std.proofs.Common.{◌≡◌, true, rules}
use Rattle.object_files.proofs.MarkLaws.{none_so_far, differ_more}
use Rattle.object_files.proofs.marks.numbers_differ.Goals as goal

pub loop-i-init : goal.loop-i-init
loop-i-init c = none_so_far c.args.page.now c.args.n

pub loop-i-preserved : goal.loop-i-preserved
loop-i-preserved c =
    differ_more c.args.page.now c.args.n c.loop-i.i c.number_of-number.result c.loop-i.marks c.mark.new.marks c.loop-i.invariant c.loop-i-test.true c.number_of-number.ensures
    (λ found. let test : c.has_mark.result ≡ true = c.has_mark.ensures.1 found in absurd cc)
    (c.is_apart.ensures.0 (search rules)) c.mark.ensures.marked c.mark.ensures.kept
