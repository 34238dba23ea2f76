use Rattle.std.proofs.Common.{List, subst, sym}
use Rattle.page_entries.specs.declared.file_changes.Listed.{Listed}
use Rattle.page_entries.specs.FilesAfter.{Lists}
use Rattle.object_files.specs.Edits.{entry_inserted}
use Rattle.page_entries.proofs.Listing.{placed}
use Rattle.page_entries.proofs.file_changes.put_in.Goals as goal

pub returns : goal.returns
returns c = λ es e h k.
    subst (λ (t : List Listed). Lists t (entry_inserted e es)) (sym c.in_ok-insert.ensures.items)
    (placed c.args.files.now.items es c.place_of-at.result c.args.file.now e h k (c.place_of-at.ensures.place es e (subst (λ (t : List Listed). Lists t es) (sym c.deref.ensures.value) h) (sym k.name)))
