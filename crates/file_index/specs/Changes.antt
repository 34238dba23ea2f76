-- How a call on a part of the pages, as those of an index, changes what the port has.
use Rattle.std.specs.Prelude.{◌≡◌, ◌+◌, ℕ, Bool, true, List, if◌then◌else◌}
use Rattle.ex_base.specs.declared.ground.Ground as ground
use Rattle.ex_base.specs.declared.names.Area.TheVariants.{Segment}
use Rattle.ex_base.specs.Ports.{times}

-- 1 for a page that the working state has, 0 for another
abbrev pub count_of : Bool → ℕ
count_of held = if held then 1 else 0

-- A used unit that is no page of the part keeps its bytes, stays used, and is no page of it afterwards.
pub record StaysApart {S : Type 0} (g : ground.Ghosts S) (old new : S) (after : List ℕ) (page : ℕ) : Type 0 where
  pub unit : g.unit new page ≡ g.unit old page
  pub used : g.used new page ≡ true
  pub other : times page after ≡ 0

-- The pages of the part become others. Each page that was taken is one of the new ones, and the pages that were given back are just those that left:
-- what the working state has changes page by page as the lists do. Images and units that are none of the part stay.
pub record Changes {S : Type 0} (g : ground.Ghosts S) (old new : S) (before after : List ℕ) : Type 0 where
  pub counted : (page : ℕ) → count_of (g.held new page) + times page before ≡ count_of (g.held old page) + times page after
  pub images : (page : ℕ) → g.held old page ≡ true → times page before ≡ 0 → g.image new page ≡ g.image old page
  pub units : (page : ℕ) → g.used old page ≡ true → times page before ≡ 0 → StaysApart g old new after page
  pub refs : g.refs new ≡ g.refs old
  pub leaves : g.free new Segment ≡ g.free old Segment
  pub leads : g.leads old new
