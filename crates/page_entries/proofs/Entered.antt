-- An entry by its form, and whether it applies to a page.
use Rattle.std.proofs.Common.{◌≡◌, ℕ, List, length, Option, Some, None, refl, sym, ap, subst, ◌∙◌}
use Rattle.ex_base.specs.Area.{catalog_no}
use Rattle.ex_base.specs.Fields.{number_at}
use Rattle.slotted_pages.specs.FilePage.{file_page}
use Rattle.object_files.specs.Catalog.{catalog_page}
use Rattle.page_entries.specs.declared.form.EntryForm.{EntryForm}
use Rattle.page_entries.specs.declared.form.EntryForm.TheVariants.{Image, SlotChanges, FileChanges}
use Rattle.page_entries.specs.Said.{said_on, changes_read}
use Rattle.page_entries.specs.Applying.{page_after_slots, SlotsApply}
use Rattle.page_entries.specs.FilesAfter.{FilesReadApply, catalog_after_read}
use Rattle.page_entries.specs.After.{Applies, said_after}

-- an entry of a form with these fields, for a page with a number that is so far this one
abbrev pub EntryApplies : ℕ → EntryForm → List ℕ → Option (List ℕ) → Type 0
EntryApplies page form fields so_far = Applies page (said_on form fields) so_far

abbrev pub entered : EntryForm → List ℕ → Option (List ℕ) → Option (List ℕ)
entered form fields so_far = said_after (said_on form fields) so_far

-- of the form that it has, to the page that there is
pub as_given : (page : ℕ) (form given : EntryForm) (fields : List ℕ) (so_far is : Option (List ℕ)) → form ≡ given → so_far ≡ is → EntryApplies page given fields is → EntryApplies page form fields so_far
as_given page form given fields so_far is f o h = subst (λ (x : EntryForm). EntryApplies page x fields so_far) (sym f) (subst (λ (s : Option (List ℕ)). EntryApplies page given fields s) (sym o) h)

pub as_found : (page : ℕ) (form given : EntryForm) (fields : List ℕ) (so_far is : Option (List ℕ)) → form ≡ given → so_far ≡ is → EntryApplies page form fields so_far → EntryApplies page given fields is
as_found page form given fields so_far is f o h = as_given page given form fields is so_far (sym f) (sym o) h

pub entered_as : (form given : EntryForm) (fields : List ℕ) (so_far is : Option (List ℕ)) → form ≡ given → so_far ≡ is → entered form fields so_far ≡ entered given fields is
entered_as form given fields so_far is f o = ap (λ (x : EntryForm). entered x fields so_far) f ∙ ap (entered given fields) o

-- ---- an image

pub image_applies : (page : ℕ) (form : EntryForm) (fields : List ℕ) (so_far : Option (List ℕ)) → form ≡ Image → EntryApplies page form fields so_far
unfolding said_on
image_applies page form fields so_far f = as_given page form Image fields so_far so_far f refl tt

pub image_entered : (form : EntryForm) (fields image : List ℕ) (so_far : Option (List ℕ)) → form ≡ Image → image ≡ fields → entered form fields so_far ≡ Some image
unfolding said_on
image_entered form fields image so_far f is = entered_as form Image fields so_far so_far f refl ∙ ap (λ (t : List ℕ). Some t) (sym is)

-- ---- changes of slots

pub no_slots_page : (page : ℕ) (form : EntryForm) (fields : List ℕ) (so_far : Option (List ℕ)) → form ≡ SlotChanges → so_far ≡ None → EntryApplies page form fields so_far → ⊥
unfolding said_on
no_slots_page page form fields so_far f o h = as_found page form SlotChanges fields so_far None f o h

pub slots_apply : (page : ℕ) (form : EntryForm) (fields old : List ℕ) (so_far : Option (List ℕ)) → form ≡ SlotChanges → so_far ≡ Some old → SlotsApply old (changes_read fields (number_at 2 fields 4) 6) → EntryApplies page form fields so_far
unfolding said_on
slots_apply page form fields old so_far f o h = as_given page form SlotChanges fields so_far (Some old) f o h

pub slots_applied : (page : ℕ) (form : EntryForm) (fields old : List ℕ) (so_far : Option (List ℕ)) → form ≡ SlotChanges → so_far ≡ Some old → EntryApplies page form fields so_far → SlotsApply old (changes_read fields (number_at 2 fields 4) 6)
unfolding said_on
slots_applied page form fields old so_far f o h = as_found page form SlotChanges fields so_far (Some old) f o h

pub slots_entered : (form : EntryForm) (fields old image : List ℕ) (so_far : Option (List ℕ)) → form ≡ SlotChanges → so_far ≡ Some old → image ≡ file_page (length old) (page_after_slots (changes_read fields (number_at 2 fields 4) 6) old) → entered form fields so_far ≡ Some image
unfolding said_on
slots_entered form fields old image so_far f o is = entered_as form SlotChanges fields so_far (Some old) f o ∙ ap (λ (t : List ℕ). Some t) (sym is)

-- ---- changes of files

pub no_files_page : (page : ℕ) (form : EntryForm) (fields : List ℕ) (so_far : Option (List ℕ)) → form ≡ FileChanges → so_far ≡ None → EntryApplies page form fields so_far → ⊥
unfolding said_on
no_files_page page form fields so_far f o h = as_found page form FileChanges fields so_far None f o h

pub files_apply : (page : ℕ) (form : EntryForm) (fields old : List ℕ) (so_far : Option (List ℕ)) → form ≡ FileChanges → so_far ≡ Some old → page ≡ catalog_no → FilesReadApply old fields → EntryApplies page form fields so_far
unfolding said_on
files_apply page form fields old so_far f o is h = as_given page form FileChanges fields so_far (Some old) f o (is, h)

pub files_applied : (page : ℕ) (form : EntryForm) (fields old : List ℕ) (so_far : Option (List ℕ)) → form ≡ FileChanges → so_far ≡ Some old → EntryApplies page form fields so_far → (page ≡ catalog_no) × FilesReadApply old fields
unfolding said_on
files_applied page form fields old so_far f o h = as_found page form FileChanges fields so_far (Some old) f o h

pub files_entered : (form : EntryForm) (fields old image : List ℕ) (so_far : Option (List ℕ)) → form ≡ FileChanges → so_far ≡ Some old → image ≡ catalog_page (length old) (catalog_after_read old fields) → entered form fields so_far ≡ Some image
unfolding said_on
files_entered form fields old image so_far f o is = entered_as form FileChanges fields so_far (Some old) f o ∙ ap (λ (t : List ℕ). Some t) (sym is)
