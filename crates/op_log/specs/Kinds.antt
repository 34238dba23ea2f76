-- The kinds of records, and what each means for the entries.
use Rattle.std.specs.Prelude.{◌≡◌, ℕ, List, [], ◌∷◌}
use Rattle.op_log.specs.declared.kind.RecordKind.{RecordKind}
use Rattle.op_log.specs.declared.kind.RecordKind.TheVariants.{Images, Forms}
use Rattle.page_entries.specs.declared.form.EntryForm.{EntryForm}
use Rattle.page_entries.specs.declared.form.EntryForm.TheVariants.{Image}
use Rattle.page_entries.specs.Forms.{form_number}

-- the number that stands for a kind in the log
abbrev pub number_of_kind : RecordKind → ℕ
number_of_kind Images = 1
number_of_kind Forms = 2

-- an entry of a record of a kind may have this form
abbrev pub HasForm : RecordKind → EntryForm → Type 0
HasForm Images form = form ≡ Image
HasForm Forms form = Unit {0}

-- what stands for its form before its fields
abbrev pub form_bytes : RecordKind → EntryForm → List ℕ
form_bytes Images form = []
form_bytes Forms form = form_number form ∷ []

-- the bytes that a form takes
abbrev pub form_len : RecordKind → ℕ
form_len Images = 0
form_len Forms = 1
