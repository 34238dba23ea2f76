use Rattle.object_files.proofs.MarkLaws.{no_marks, marks_more}
use Rattle.object_files.proofs.marks.marks_of.Goals as goal

pub loop-i-init : goal.loop-i-init
loop-i-init c = no_marks c.args.page.now

pub loop-i-preserved : goal.loop-i-preserved
loop-i-preserved c = marks_more c.args.page.now c.loop-i.i c.number_of.result c.loop-i.marks c.mark.new.marks c.loop-i.invariant c.number_of.ensures c.mark.ensures.marked c.mark.ensures.kept
