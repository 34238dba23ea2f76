use Rattle.std.proofs.Common.{◌≡◌, ℕ, List, ◌/◌, Bool, not, length, ap, ◌∙◌, arith}
use Rattle.std.specs.List.{flat_map}
use Rattle.std.proofs.lemmas.Bool.Decides.{nat_tests}
use Rattle.ex_base.specs.Area.{catalog_no}
use Rattle.object_files.specs.Catalog.{FileEntry, IsEntry, entry_bytes}
use Rattle.object_files.proofs.CatalogLaws.{length-spelled}
use Rattle.page_entries.specs.Rule.{has_same, files_changed}
use Rattle.page_entries.specs.Said.{Files, said_bytes}
use Rattle.ex_base.proofs.Filters.{each_kept, few_kept}
use Rattle.page_entries.proofs.FilesDiffering.{files_found}
use Rattle.page_entries.proofs.file_differences.file_fields.Goals as goal

pub files_spelled-requires-clause-put : goal.files_spelled-requires-clause-put
files_spelled-requires-clause-put c =
    let same : FileEntry → Bool = λ (e : FileEntry). not (has_same c.in-Some.view.entries (entry_bytes e)) in
    omega (arith, ap length (c.deref-2.ensures.value ∙ c.in_ok-put.ensures), length-spelled (files_changed c.in-Some.view.entries c.in-Some-of.view.entries) (each_kept IsEntry same c.in-Some-of.view.entries c.in-Some-of.ensures.found.fits.entries), few_kept same c.in-Some-of.view.entries, c.in-Some-of.ensures.found.fits.room, c.in-Some-of.ensures.found.fits.page)

pub returns-clause-differ : goal.returns-clause-differ
returns-clause-differ c =
    let same : FileEntry → Bool = λ (e : FileEntry). not (has_same c.in-Some.view.entries (entry_bytes e)) in
    let bytes : c.deref-2.result.now ≡ flat_map entry_bytes (files_changed c.in-Some.view.entries c.in-Some-of.view.entries) = c.deref-2.ensures.value ∙ c.in_ok-put.ensures in
    let count : length (files_changed c.in-Some.view.entries c.in-Some-of.view.entries) ≡ length c.deref-2.result.now / 48 =
    omega (arith, ap length bytes, length-spelled (files_changed c.in-Some.view.entries c.in-Some-of.view.entries) (each_kept IsEntry same c.in-Some-of.view.entries c.in-Some-of.ensures.found.fits.entries)) in
    let catalog : c.args.page.0 ≡ catalog_no = (let test = c.ne.ensures in let is = c.if-ne.false in grind (arith, nat_tests, test, is)) in
    (files_found c.args.page.0 c.args.old.now c.args.new.now c.in-Some.view c.in-Some-of.view c.in_ok-gone.gone.items c.from_vec.result catalog c.in-Some.ensures.found c.in-Some-of.ensures.found c.in_ok-gone.ensures.gone c.in_ok-gone.ensures.few c.requires
    (c.from_vec.ensures ∙ c.in_ok-files_spelled.ensures (files_changed c.in-Some.view.entries c.in-Some-of.view.entries) bytes count
    ∙ ap (λ (gone : List ℕ). said_bytes (Files c.in-Some-of.view.next_unique c.in-Some-of.view.last gone (files_changed c.in-Some.view.entries c.in-Some-of.view.entries))) c.deref.ensures.value)).0

pub returns-clause-fields : goal.returns-clause-fields
returns-clause-fields c =
    let same : FileEntry → Bool = λ (e : FileEntry). not (has_same c.in-Some.view.entries (entry_bytes e)) in
    let bytes : c.deref-2.result.now ≡ flat_map entry_bytes (files_changed c.in-Some.view.entries c.in-Some-of.view.entries) = c.deref-2.ensures.value ∙ c.in_ok-put.ensures in
    let count : length (files_changed c.in-Some.view.entries c.in-Some-of.view.entries) ≡ length c.deref-2.result.now / 48 =
    omega (arith, ap length bytes, length-spelled (files_changed c.in-Some.view.entries c.in-Some-of.view.entries) (each_kept IsEntry same c.in-Some-of.view.entries c.in-Some-of.ensures.found.fits.entries)) in
    let catalog : c.args.page.0 ≡ catalog_no = (let test = c.ne.ensures in let is = c.if-ne.false in grind (arith, nat_tests, test, is)) in
    (files_found c.args.page.0 c.args.old.now c.args.new.now c.in-Some.view c.in-Some-of.view c.in_ok-gone.gone.items c.from_vec.result catalog c.in-Some.ensures.found c.in-Some-of.ensures.found c.in_ok-gone.ensures.gone c.in_ok-gone.ensures.few c.requires
    (c.from_vec.ensures ∙ c.in_ok-files_spelled.ensures (files_changed c.in-Some.view.entries c.in-Some-of.view.entries) bytes count
    ∙ ap (λ (gone : List ℕ). said_bytes (Files c.in-Some-of.view.next_unique c.in-Some-of.view.last gone (files_changed c.in-Some.view.entries c.in-Some-of.view.entries))) c.deref.ensures.value)).1
