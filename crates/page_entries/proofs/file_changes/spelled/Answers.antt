use Rattle.std.proofs.Common.{ap, ◌∙◌, arith}
use Rattle.std.specs.List.{flat_map}
use Rattle.std.proofs.lemmas.List.{take_all}
use Rattle.object_files.specs.Catalog.{entry_bytes}
use Rattle.page_entries.proofs.Listing.{zip_len, bytes_more}
use Rattle.page_entries.proofs.file_changes.spelled.Goals as goal

pub loop-file-preserved : goal.loop-file-preserved
loop-file-preserved c = λ es h. c.in_ok-extend_from_slice.ensures.items ∙ bytes_more c.args.files.now es c.loop-file.file-index _ c.loop-file.bytes.items c.loop-file-test.true h (c.loop-file.invariant es h)

pub returns : goal.returns
returns c = λ es h. c.loop-file.invariant es h ∙ ap (flat_map entry_bytes) (take_all c.loop-file.file-index es (omega (arith, zip_len c.args.files.now es h, c.loop-file-test.false)))
