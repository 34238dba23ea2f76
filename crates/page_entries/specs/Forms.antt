-- The numbers of the forms.
use Rattle.std.specs.Prelude.{ℕ}
use Rattle.page_entries.specs.declared.form.EntryForm.{EntryForm}
use Rattle.page_entries.specs.declared.form.EntryForm.TheVariants.{Image, SlotChanges, FileChanges}

-- the number that stands for a form in the log
abbrev pub form_number : EntryForm → ℕ
form_number Image = 1
form_number SlotChanges = 2
form_number FileChanges = 3
