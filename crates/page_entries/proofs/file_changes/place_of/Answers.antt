use Rattle.std.proofs.Common.{◌∙◌, sym, arith}
use Rattle.page_entries.proofs.Listing.{place_here, place_end, before_more}
use Rattle.page_entries.proofs.file_changes.place_of.Goals as goal

pub returns-in-Less-clause-place : goal.returns-in-Less-clause-place
returns-in-Less-clause-place c = λ es e h is. place_here c.args.files.now es e c.loop-i.i _ c.args.name.now c.loop-i-test.true h is (c.loop-i.invariant es h) (sym c.cmp.ensures ∙ c.in-Less.is)

pub loop-i-preserved : goal.loop-i-preserved
loop-i-preserved c = λ es h. before_more c.args.files.now es c.loop-i.i _ c.args.name.now h (c.loop-i.invariant es h) (λ less. c.in_default.not-Less (c.cmp.ensures ∙ less))

pub returns-clause-place : goal.returns-clause-place
returns-clause-place c = λ es e h is. place_end c.args.files.now es e c.args.name.now h is (λ k f lt at. c.loop-i.invariant es h k f (omega (arith, c.loop-i-test.false)) at)
