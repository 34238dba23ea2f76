-- What a scan is to its callers, and which bytes it shows.
use Rattle.std.specs.Prelude.{ℕ, ◌+◌, ◌-◌, List, length, min, Option, Some, None}
use Rattle.ex_base.specs.declared.geometry.Geometry.{Geometry}
use Rattle.ex_base.specs.declared.names.Root.{Root}
use Rattle.trees.specs.Shown.{BytesShown}
use Rattle.trees.specs.Trees.{Units}

-- A scan: the root of the tree that it reads, or else the bytes that it holds itself, and how many bytes it has given.
pub record Position : Type 0 where
  pub root : Option Root
  pub small : List ℕ
  pub pos : ℕ

-- the number of all its bytes
abbrev pub size_of : Option Root → List ℕ → ℕ
size_of None small = length small
size_of (Some root) small = root.size

abbrev pub scan_size : Position → ℕ
scan_size scan = size_of scan.root scan.small

-- how many bytes it gives next, where so many are asked
abbrev pub next_len : ℕ → Position → ℕ
next_len n scan = min n (scan_size scan - scan.pos)

-- the scan so many bytes on
abbrev pub moved_by : ℕ → Position → Position
moved_by n scan = record scan { pos = scan.pos + n }

-- the scan shows these bytes, as they were when it was opened
abbrev pub Opened : Geometry → Units → Position → List ℕ → Type 0
Opened g units scan opened = BytesShown g units opened scan.small scan.root
