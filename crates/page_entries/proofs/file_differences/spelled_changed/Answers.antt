use Rattle.std.proofs.Common.{List, sym, ap, ◌∙◌, arith}
use Rattle.std.specs.List.{flat_map}
use Rattle.std.proofs.lemmas.List.{take_all}
use Rattle.object_files.specs.Catalog.{FileEntry, entry_bytes}
use Rattle.page_entries.specs.Rule.{files_changed}
use Rattle.page_entries.proofs.FilesCompared.{changed_more, changed_less}
use Rattle.page_entries.proofs.file_differences.spelled_changed.Goals as goal
use Rattle.page_entries.proofs.file_differences.spelled_changed.Goals.{then-not-has_entry+in_ok-extend_from_slice, else-not-has_entry}

pub loop-i-preserved : goal.loop-i-preserved
loop-i-preserved c = elim c.if-not-has_entry.branch [
  | then-not-has_entry+in_ok-extend_from_slice w ↦ rw w.bytes-is (w.in_ok-extend_from_slice.ensures.items
      ∙ changed_more c.args.old.now.entries c.args.new.now.entries c.loop-i.i c.spelled-spelled.result.now c.loop-i.bytes.items c.spelled-spelled.ensures (sym c.has_entry.ensures ∙ w.if-not-has_entry.true) c.loop-i.invariant)
  | else-not-has_entry w ↦ rw w.bytes-is (changed_less c.args.old.now.entries c.args.new.now.entries c.loop-i.i c.spelled-spelled.result.now c.loop-i.bytes.items c.spelled-spelled.ensures (sym c.has_entry.ensures ∙ w.if-not-has_entry.false) c.loop-i.invariant)
]

pub returns : goal.returns
returns c = c.loop-i.invariant ∙ ap (λ (t : List FileEntry). flat_map entry_bytes (files_changed c.args.old.now.entries t)) (take_all c.loop-i.i c.args.new.now.entries (omega (arith, c.loop-i-test.false, c.len-i-end.ensures)))
