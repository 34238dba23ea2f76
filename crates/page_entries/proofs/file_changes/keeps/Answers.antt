use Rattle.std.proofs.Common.{Bool, ◌≡◌, true, false, not, map, ap, sym, ◌∙◌}
use Rattle.std.specs.Prelude.{◌&&◌}
use Rattle.object_files.specs.Catalog.{number_of}
use Rattle.page_entries.specs.Said.{numbers_read}
use Rattle.page_entries.specs.FilesAfter.{has_no}
use Rattle.page_entries.proofs.Listing.{is_has}
use Rattle.page_entries.proofs.file_changes.keeps.Goals as goal

pub returns-then-not-is_removed : goal.returns-then-not-is_removed
returns-then-not-is_removed c =
    let first : false ≡ has_no (numbers_read c.args.fields.now c.args.n 18) c.args.file_no = sym c.if-not-is_removed.true ∙ is_has c.is_removed.result (numbers_read c.args.fields.now c.args.n 18) c.args.file_no c.is_removed.ensures in
    ap not (is_has c.has_number.result (map number_of c.args.put.now.entries) c.args.file_no c.has_number.ensures) ∙ ap (λ (b : Bool). not b && not (has_no (map number_of c.args.put.now.entries) c.args.file_no)) first

pub returns-else-not-is_removed : goal.returns-else-not-is_removed
returns-else-not-is_removed c =
    let first : true ≡ has_no (numbers_read c.args.fields.now c.args.n 18) c.args.file_no = sym c.if-not-is_removed.false ∙ is_has c.is_removed.result (numbers_read c.args.fields.now c.args.n 18) c.args.file_no c.is_removed.ensures in
    ap not c.if-not-is_removed.false ∙ ap (λ (b : Bool). not b && not (has_no (map number_of c.args.put.now.entries) c.args.file_no)) first
