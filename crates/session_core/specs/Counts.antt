-- The units of a session that are in use, and those that are not.
use Rattle.std.specs.Prelude.{ℕ, ◌-◌}
use Rattle.ex_base.specs.declared.names.Area.{Area}
use Rattle.ex_base.specs.Sizes.{units}
use Rattle.page_alloc.specs.UnitSet.{free_count, used_at}
use Rattle.session_core.specs.Sessions.{SessionState}

-- the units of an area that are not in use
abbrev pub free_in : SessionState → Area → ℕ
free_in s area = free_count s.units.geometry (used_at s.units) area

-- those that are
abbrev pub used_of : SessionState → Area → ℕ
used_of s area = units s.geometry area - free_in s area
