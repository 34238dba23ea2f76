-- Why a command is refused. Each refusal is a test; a command has its list, in order of the refusals'
-- numbers, and is answered by the first that applies.
use Rattle.std.specs.Prelude.{ℕ, ◌+◌, ◌-◌, ◌^◌, List, [], ◌∷◌, ◌++◌, length, Bool, true, false, not, ◌||◌, ◌==◌, nat_le, nat_lt, if◌then◌else◌, Option, Some, None, is_some, is_none}
use Rattle.std.specs.Option.{option_or}
use Rattle.ex_base.specs.Sizes.{files_most, object_most}
use Rattle.ex_base.specs.declared.names.Area.{Area}
use Rattle.ex_base.specs.declared.names.Area.TheVariants.{Page, Segment}
use Rattle.table_model.specs.declared.machine.Machine.{Machine}
use Rattle.table_model.specs.declared.machine.Pick.{Pick}
use Rattle.table_model.specs.declared.table.TableFile.{TableFile}
use Rattle.version_lists.specs.declared.version.Version.{Version}
use Rattle.version_lists.specs.Versions.{derived_from, unique_of}
use Rattle.table_model.specs.declared.reply.Refusal.{Refusal}
use Rattle.table_model.specs.declared.reply.Refusal.TheVariants as refusal
use Rattle.table_model.specs.Tables.{file_at, is_current, versions_of}
use Rattle.table_model.specs.Requests.{Request, Reference, given_count}
use Rattle.table_model.specs.Requests as request
use Rattle.table_model.specs.Machines.{shown, oid_of, version_of, size_of, scan_at, has_group, is_taken, is_taken_if, updates_most, touched_most, scans_most, groups_most}
use Rattle.table_model.specs.Needs.{need, charge, is_update, free}

abbrev pub when : Bool → Refusal → Option Refusal
when b r = if b then Some r else None

-- ---- each refusal

abbrev pub no_txn : Machine → Option Refusal
no_txn m = when (is_none m.working) refusal.NoTxn

abbrev pub txn_open : Machine → Option Refusal
txn_open m = when (is_some m.working) refusal.TxnOpen

abbrev pub no_name : Machine → Reference → Option Refusal
no_name m x = when (is_none (oid_of m x)) refusal.NoName

abbrev pub name_taken : Machine → List ℕ → Option Refusal
name_taken m name = when (is_taken m name) refusal.NameTaken

-- the same of a name that may be missing
abbrev pub name_taken_if : Machine → Option (List ℕ) → Option Refusal
name_taken_if m bind = when (is_taken_if m bind) refusal.NameTaken

abbrev pub no_file : Machine → List ℕ → Option Refusal
no_file m name = when (is_none (file_at (shown m) name)) refusal.NoFile

abbrev pub file_exists : Machine → List ℕ → Option Refusal
file_exists m name = when (is_some (file_at (shown m) name)) refusal.FileExists

abbrev pub files_full : Machine → Option Refusal
files_full m = when (nat_le (files_most m.geometry) (length (shown m).files)) refusal.FilesFull

abbrev pub no_object : Machine → Reference → Option Refusal
no_object m x = when (is_none (version_of m x)) refusal.NoObject

abbrev pub frozen_if : Option Version → Bool
frozen_if None = false
frozen_if (Some v) = v.frozen

abbrev pub frozen : Machine → Reference → Option Refusal
frozen m x = when (frozen_if (version_of m x)) refusal.Frozen

abbrev pub current_if : Option Version → Bool
current_if None = false
current_if (Some v) = is_current v

abbrev pub current : Machine → Reference → Option Refusal
current m x = when (current_if (version_of m x)) refusal.Current

abbrev pub has_objects : Option TableFile → Bool
has_objects None = false
has_objects (Some f) = nat_lt 0 (length f.objects)

abbrev pub not_empty : Machine → List ℕ → Option Refusal
not_empty m name = when (has_objects (file_at (shown m) name)) refusal.NotEmpty

-- at most one version is derived from the one with this number, if there is a number
abbrev pub has_one : List Version → Option ℕ → Bool
has_one vs None = false
has_one vs (Some number) = nat_le (length (derived_from number vs)) 1

abbrev pub is_only_one : List Version → Option Version → Bool
is_only_one vs None = false
is_only_one vs (Some v) = has_one vs v.older

-- The version has an older one from which no other is derived.
abbrev pub has_versions : Machine → Reference → Option Refusal
has_versions m x = when (is_only_one (versions_of (shown m)) (version_of m x)) refusal.HasVersions

abbrev pub branches_if : List Version → Option Version → ℕ
branches_if vs None = 0
branches_if vs (Some v) = length (derived_from (unique_of v) vs)

-- how many versions are derived from this one
abbrev pub branches_of : Machine → Reference → ℕ
branches_of m x = branches_if (versions_of (shown m)) (version_of m x)

-- Two or more are.
abbrev pub branches : Machine → Reference → Option Refusal
branches m x = when (nat_le 2 (branches_of m x)) (refusal.Branches (branches_of m x))

abbrev pub no_scan : Machine → List ℕ → Option Refusal
no_scan m name = when (is_none (scan_at m name)) refusal.NoScan

abbrev pub lacks_group : Machine → Option (List ℕ) → Bool
lacks_group m None = false
lacks_group m (Some name) = not (has_group m name)

abbrev pub no_group : Machine → Option (List ℕ) → Option Refusal
no_group m group = when (lacks_group m group) refusal.NoGroup

-- the command names bytes up to the position end
abbrev pub range : Machine → Reference → ℕ → Option Refusal
range m x end = when (nat_lt (size_of m x) end) refusal.Range

-- the object would have n bytes more
abbrev pub too_large : Machine → Reference → ℕ → Option Refusal
too_large m x n = when (nat_lt object_most (size_of m x + n)) refusal.TooLarge

abbrev pub too_many_scans : Machine → Option Refusal
too_many_scans m = when (nat_le scans_most (length m.scans)) (refusal.TooMany true)

abbrev pub too_many_groups : Machine → Option Refusal
too_many_groups m = when (nat_le groups_most (length m.groups)) (refusal.TooMany false)

-- the number is the last of its kind
abbrev pub ids_spent : ℕ → Option Refusal
ids_spent number = when (number == 2 ^ 64 - 1) refusal.IdsSpent

-- the update may touch n pages more
abbrev pub long_txn : Machine → ℕ → Option Refusal
long_txn m n = when (nat_le updates_most (length m.notes) || nat_lt touched_most (m.touched + n)) (refusal.LongTxn (length m.notes) m.touched)

-- the update may take n units of an area, of which so many are free
abbrev pub full_of : Area → ℕ → ℕ → Option Refusal
full_of area n left = when (nat_lt left n) (refusal.Full area n left)

abbrev pub full_in : Machine → ℕ → Area → Option Refusal
full_in m n area = full_of area n (free m area)

-- the first that applies
abbrev pub first : List (Option Refusal) → Option Refusal
first [] = None
first (r ∷ rest) = option_or r (first rest)

-- the page area is asked first
abbrev pub full : Machine → ℕ → ℕ → Option Refusal
full m pages segs = first (full_in m pages Page ∷ full_in m segs Segment ∷ [])

-- room for an update
abbrev pub limits : Machine → Request → Pick → List (Option Refusal)
limits m r q = long_txn m (charge r) ∷ full m (need m.geometry r q Page) (need m.geometry r q Segment) ∷ []

-- ---- those of each command, in order of their numbers

abbrev pub tests : Machine → Request → List (Option Refusal)
tests m request.Begin = txn_open m ∷ ids_spent m.committed.last ∷ []
tests m request.Commit = no_txn m ∷ []
tests m request.Abort = no_txn m ∷ []
tests m request.Checkpoint = txn_open m ∷ []
tests m request.Log = []
tests m request.Files = []
tests m request.Space = []
tests m (request.File name) = file_exists m name ∷ files_full m ∷ []
tests m (request.Unfile name) = no_file m name ∷ not_empty m name ∷ []
tests m (request.ListFile name) = no_file m name ∷ []
tests m (request.Create file bind) = name_taken_if m bind ∷ no_file m file ∷ ids_spent (shown m).next_unique ∷ []
tests m (request.Destroy x) = no_name m x ∷ no_object m x ∷ frozen m x ∷ has_versions m x ∷ []
tests m (request.Size x) = no_name m x ∷ no_object m x ∷ []
tests m (request.Stat x) = no_name m x ∷ no_object m x ∷ []
tests m (request.Digest x) = no_name m x ∷ no_object m x ∷ []
tests m (request.Versions x) = no_name m x ∷ no_object m x ∷ []
tests m (request.DropVersion x) = no_name m x ∷ no_object m x ∷ current m x ∷ []
tests m (request.Read x pos len) = no_name m x ∷ no_object m x ∷ range m x (pos + len) ∷ []
tests m (request.Insert x pos given) = no_name m x ∷ no_object m x ∷ frozen m x ∷ range m x pos ∷ too_large m x (given_count given) ∷ []
tests m (request.Append x given) = no_name m x ∷ no_object m x ∷ frozen m x ∷ too_large m x (given_count given) ∷ []
tests m (request.Replace x pos given) = no_name m x ∷ no_object m x ∷ frozen m x ∷ range m x (pos + given_count given) ∷ []
tests m (request.Delete x pos len) = no_name m x ∷ no_object m x ∷ frozen m x ∷ range m x (pos + len) ∷ []
tests m (request.Freeze x bind) = no_name m x ∷ name_taken_if m bind ∷ no_object m x ∷ frozen m x ∷ ids_spent (shown m).next_unique ∷ []
tests m (request.Derive x bind) = no_name m x ∷ name_taken_if m bind ∷ no_object m x ∷ current m x ∷ ids_spent (shown m).next_unique ∷ []
tests m (request.Group name frames mru) = name_taken m name ∷ too_many_groups m ∷ []
tests m (request.Scan x name group) = no_name m x ∷ name_taken m name ∷ no_object m x ∷ no_group m group ∷ too_many_scans m ∷ []
tests m (request.Next name len) = no_scan m name ∷ []
tests m (request.Close name) = no_scan m name ∷ []

-- what is asked of some behind their room
abbrev pub last_tests : Machine → Request → List (Option Refusal)
last_tests m (request.DropVersion x) = branches m x ∷ []
last_tests m _ = []

-- an update asks for a transaction first, and for room behind its own tests
abbrev pub refusals : Machine → Request → Pick → List (Option Refusal)
refusals m r q = if is_update r then no_txn m ∷ (tests m r ++ limits m r q ++ last_tests m r) else tests m r

abbrev pub refusal_of : Machine → Request → Pick → Option Refusal
refusal_of m r q = first (refusals m r q)
