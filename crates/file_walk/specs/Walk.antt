-- What the files of a volume show, and how lists of pages follow the units in use.
use Rattle.std.specs.Prelude.{◌≡◌, ◌+◌, ℕ, true, List, map}
use Rattle.ex_base.specs.declared.ground.Ground as ground
use Rattle.ex_base.specs.declared.names.PageNo.{PageNo}
use Rattle.ex_base.specs.Area.{InPageArea}
use Rattle.ex_base.specs.Ports.{times}
use Rattle.page_alloc.specs.UnitSet.{UnitSet, used_at, refs_at, given_at}
use Rattle.file_index.specs.Changes.{count_of}
use Rattle.trees.specs.Trees.{Units}
use Rattle.ex_base.specs.Faults.{Rose}
use Rattle.session_views.specs.declared.opener.OpenFault.{OpenFault}
use Rattle.session_views.specs.declared.opener.OpenFault.TheVariants.{Disk}

-- The object tells these units: each page of the page area is its working image.
pub record Tells {S : Type 0} (g : ground.Ghosts S) (s : S) (units : Units) : Type 0 where
  pub tells : g.tells s
  pub same : (page : ℕ) → InPageArea (g.geometry s) page → units page ≡ g.image s page

abbrev pub page_numbers : List PageNo → List ℕ
page_numbers pages = map (λ (page : PageNo). page.0) pages

-- The pages by which a list grew are those that came into use, each once.
abbrev pub CountsUsed : UnitSet → UnitSet → List ℕ → List ℕ → Type 0
CountsUsed old new before after = (page : ℕ) → count_of (used_at new page) + times page before ≡ count_of (used_at old page) + times page after

-- Units came into use at most: no unit was given back, and no reference changed.
pub record KeepsUnits (old new : UnitSet) : Type 0 where
  pub geometry : new.geometry ≡ old.geometry
  pub used : (page : ℕ) → used_at old page ≡ true → used_at new page ≡ true
  pub refs : refs_at new ≡ refs_at old
  pub given : given_at new ≡ given_at old

-- The disk is named only where the count of faults rose.
abbrev pub IsCause : ℕ → ℕ → OpenFault → Type 0
IsCause before now Disk = Rose before now
IsCause before now fault = Unit {0}
