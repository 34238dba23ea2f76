-- What is written home.
use Rattle.std.specs.Prelude.{◌*◌, ◌≤◌, ℕ, List, [], ◌∷◌, All, nat_eq, IsSome}
use Rattle.std.specs.Map.{lookup}
use Rattle.ex_base.specs.Bytes.{repl}
use Rattle.disk_model.specs.Changes.{InRange}
use Rattle.buffer_groups.specs.Frames.{Frames}
use Rattle.buffer_groups.specs.Groups.{forgotten_in_all}

-- the bytes of the homes of these pages
abbrev pub InHomes : ℕ → List (ℕ × List ℕ) → ℕ → Type 0
InHomes size rows i = (page : ℕ) × IsSome (lookup (nat_eq page) rows) × InRange (page * size) size i

-- the disk with each image at its home, the first one first
abbrev pub homes_written : ℕ → List (ℕ × List ℕ) → List ℕ → List ℕ
homes_written size [] disk = disk
homes_written size (row ∷ rows) disk = homes_written size rows (repl disk (row.0 * size) row.1)

-- the groups without the frames of these pages
abbrev pub homes_forgotten : List (ℕ × List ℕ) → List Frames → List Frames
homes_forgotten [] groups = groups
homes_forgotten (row ∷ rows) groups = homes_forgotten rows (forgotten_in_all row.0 groups)

-- Each frame is of this page or of a later one.
abbrev pub AreFrom : ℕ → List Frames → Type 0
AreFrom low groups = All (λ (f : Frames). All (λ (e : ℕ × List ℕ). low ≤ e.0) f.entries) groups
