-- The groups of frames that a session made, beside the frames themselves.
use Rattle.std.specs.Prelude.{◌≡◌, ◌+◌, ℕ, Bool, true, false, List, [], ◌∷◌, map, bytes_eq, position, option_map, Option, Some, if◌then◌else◌}
use Rattle.buffer_groups.specs.declared.policy.Policy.{Policy}
use Rattle.buffer_groups.specs.declared.policy.Policy.TheVariants.{Lru, Mru}
use Rattle.buffer_groups.specs.Frames.{Frames}
use Rattle.buffer_groups.specs.Groups.{kind_of}
use Rattle.table_model.specs.declared.machine.GroupRow.{GroupRow}
use Rattle.table_model.specs.Machines.{main}

abbrev pub policy_of : Bool → Policy
policy_of true = Mru
policy_of false = Lru

-- what the group of a row is made with
abbrev pub kind_of_row : GroupRow → ℕ × Policy
kind_of_row row = (row.frames, policy_of row.mru)

-- what `main` is made with: 64 frames, of which the one gives way that was used the longest time ago
abbrev pub main_kind : ℕ × Policy
main_kind = (64, Lru)

-- The groups are `main` and those of the rows, each as its row says.
abbrev pub AreGroupsOf : List GroupRow → List Frames → Type 0
AreGroupsOf rows groups = map kind_of groups ≡ main_kind ∷ map kind_of_row rows

abbrev pub is_row_named : List ℕ → GroupRow → Bool
is_row_named name row = bytes_eq row.name name

-- the index of the group that has a name: `main` is the first of the groups, and those of the rows stand behind it in their order
abbrev pub group_index : List GroupRow → List ℕ → Option ℕ
group_index rows name = if bytes_eq main name then Some 0 else option_map (λ index. index + 1) (position (is_row_named name) rows)

-- the group of a row, with no page in it
abbrev pub empty_group : GroupRow → ℕ → Frames
empty_group row page_size = record { entries = []; cap = row.frames; page_size = page_size; policy = policy_of row.mru }
