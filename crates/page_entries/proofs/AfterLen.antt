-- A page keeps its size.
use Rattle.std.proofs.Common.{◌≡◌, ℕ, ◌+◌, ◌-◌, ◌*◌, List, ◌++◌, length, Option, Some, None, sym, ap, subst, ◌∙◌, arith}
use Rattle.std.specs.Prelude.{IfSome}
use Rattle.std.specs.List.{flat_map}
use Rattle.std.proofs.lemmas.List.{length-append, length-replicate}
use Rattle.std.proofs.lemmas.Option.{same_Some}
use Rattle.ex_base.specs.Fields.{two_bytes, four_bytes, eight_bytes, zeros, padded, length-field_bytes}
use Rattle.slotted_pages.specs.FilePage.{FilePage, IsFilePage, bodies, directory, file_page, room_of}
use Rattle.slotted_pages.proofs.PageLaws.{length-directory}
use Rattle.object_files.specs.Catalog.{Catalog, IsCatalog, catalog_page, entry_bytes}
use Rattle.object_files.proofs.CatalogLaws.{length-spelled, page_headed}
use Rattle.object_files.proofs.SpliceLaws.{length-headed}
use Rattle.page_entries.specs.declared.form.EntryForm.{EntryForm}
use Rattle.page_entries.specs.Said.{Said, Whole, Slots, Files, IsSaid, AreFields, said_on, said_bytes, form_of}
use Rattle.page_entries.proofs.ReadAgain.{read_again}
use Rattle.page_entries.specs.After.{Applies, said_after}

length-file : (size : ℕ) (p : FilePage) → IsFilePage size p → length (file_page size p) ≡ size
unfolding file_page
length-file size p fits = simp (length-append, length-field_bytes, length-replicate) (omega (arith, fits.room, length-directory 16 p.slots))

length-catalog : (old : List ℕ) (c : Catalog) → IsCatalog (length old) c → length (catalog_page (length old) c) ≡ length old
length-catalog old c fits =
    omega (
      arith,
      ap length (page_headed old c fits.entries),
      length-headed (length c.entries) c.next_unique c.last (flat_map entry_bytes c.entries ++ zeros (length old - (32 + 48 * length c.entries))),
      length-append (flat_map entry_bytes c.entries) (zeros (length old - (32 + 48 * length c.entries))),
      length-spelled c.entries fits.entries,
      length-replicate {A = ℕ} (length old - (32 + 48 * length c.entries)) 0,
      fits.room,
    )

-- what an entry that applies makes of a page of a size is one of it
pub said_len : (size page : ℕ) (said : Said) (so_far : Option (List ℕ)) (after : List ℕ) → IsSaid size said → IfSome so_far (λ old. length old ≡ size) → Applies page said so_far → said_after said so_far ≡ Some after → length after ≡ size
said_len size page (Whole image) so_far after fits sized applies is = ap length (same_Some after image (sym is)) ∙ fits
said_len size page (Slots changes) None after fits sized applies is = absurd applies
said_len size page (Slots changes) (Some old) after fits sized applies is = ap length (same_Some after _ (sym is)) ∙ length-file (length old) _ applies.fits ∙ sized
said_len size page (Files next_unique last removed put) None after fits sized applies is = absurd applies
said_len size page (Files next_unique last removed put) (Some old) after fits sized applies is = ap length (same_Some after _ (sym is)) ∙ length-catalog old _ applies.1.fits ∙ sized

-- the same of its fields
pub fields_len : (size page : ℕ) (form : EntryForm) (fields : List ℕ) (so_far : Option (List ℕ)) (after : List ℕ) → AreFields size form fields → IfSome so_far (λ old. length old ≡ size) → Applies page (said_on form fields) so_far
    → said_after (said_on form fields) so_far ≡ Some after → length after ≡ size
fields_len size page form fields so_far after says sized applies is =
    let read : said_on form fields ≡ says.0 = ap (λ (f : EntryForm). said_on f fields) (sym says.2) ∙ ap (said_on (form_of says.0)) says.3 ∙ read_again size says.0 says.1 in
    said_len size page (said_on form fields) so_far after (subst (IsSaid size) (sym read) says.1) sized applies is
