-- Why a command is refused, as a session tells it from its catalog and its counts.
use Rattle.std.specs.Prelude.{ℕ, ◌+◌, List, [], ◌∷◌, length, Bool, false, ◌||◌, nat_le, nat_lt, Option, Some, None, is_some, is_none, find}
use Rattle.ex_base.specs.declared.names.Area.{Area}
use Rattle.ex_base.specs.declared.names.Area.TheVariants.{Page}
use Rattle.ex_base.specs.Sizes.{files_most}
use Rattle.object_files.specs.Catalog.{Catalog, FileEntry}
use Rattle.object_files.specs.Edits.{has_name}
use Rattle.table_model.specs.declared.reply.Refusal.{Refusal}
use Rattle.table_model.specs.declared.reply.Refusal.TheVariants as refusal
use Rattle.table_model.specs.Machines.{updates_most, touched_most}
use Rattle.table_model.specs.Refusals.{when, first}
use Rattle.session_core.specs.Sessions.{SessionState}
use Rattle.session_core.specs.Counts.{free_in}

-- the update may touch n pages more
abbrev pub long_txn : SessionState → ℕ → Option Refusal
long_txn s n = when (nat_le updates_most (length s.notes) || nat_lt touched_most (length s.meta.working + n)) (refusal.LongTxn (length s.notes) (length s.meta.working))

-- the update may take n units of an area
abbrev pub full_in : SessionState → Area → ℕ → Option Refusal
full_in s area n = when (nat_lt (free_in s area) n) (refusal.Full area n (free_in s area))

-- the logged pages that a line on files may touch, and the pages that `file` may take
abbrev pub file_charge : ℕ
file_charge = 2

abbrev pub file_need : ℕ
file_need = 2

-- the file with a name
abbrev pub entry_named : Catalog → List ℕ → Option FileEntry
entry_named c name = find (has_name name) c.entries

-- the file has pages, and so objects
abbrev pub has_pages : Option FileEntry → Bool
has_pages None = false
has_pages (Some e) = is_some e.root

-- of `file`, in an open transaction
abbrev pub file_refusal : SessionState → Catalog → List ℕ → Option Refusal
file_refusal s c name =
    first (when (is_some (entry_named c name)) refusal.FileExists ∷ when (nat_le (files_most s.geometry) (length c.entries)) refusal.FilesFull ∷ long_txn s file_charge ∷ full_in s Page file_need ∷ [])

-- of `unfile`, in an open transaction
abbrev pub unfile_refusal : SessionState → Catalog → List ℕ → Option Refusal
unfile_refusal s c name = first (when (is_none (entry_named c name)) refusal.NoFile ∷ when (has_pages (entry_named c name)) refusal.NotEmpty ∷ long_txn s file_charge ∷ [])
