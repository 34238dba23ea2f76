use Rattle.std.proofs.Common.{sym, ◌∙◌}
use Rattle.page_entries.specs.Said.{numbers_read}
use Rattle.page_entries.specs.FilesAfter.{stays}
use Rattle.page_entries.proofs.Listing.{kept_more, kept_less}
use Rattle.page_entries.proofs.file_changes.kept.Goals as goal
use Rattle.page_entries.proofs.file_changes.kept.Goals.{then-keeps+in_ok-push, else-keeps}

pub loop-i-preserved : goal.loop-i-preserved
loop-i-preserved c = elim c.if-keeps.branch [
  | then-keeps+in_ok-push w ↦ rw w.files-is (rw w.in_ok-push.ensures.items (kept_more (stays (numbers_read c.args.fields.now c.args.n 18) c.args.put.now.entries) c.args.old.now.entries c.loop-i.i _ c.loop-i.files.items w.file_of.result c.entry.ensures (sym c.keeps.ensures ∙ w.if-keeps.true) (w.file_of.ensures _ c.entry.ensures) c.loop-i.invariant))
  | else-keeps w ↦ rw w.files-is (kept_less (stays (numbers_read c.args.fields.now c.args.n 18) c.args.put.now.entries) c.args.old.now.entries c.loop-i.i _ c.loop-i.files.items c.entry.ensures (sym c.keeps.ensures ∙ w.if-keeps.false) c.loop-i.invariant)
]
