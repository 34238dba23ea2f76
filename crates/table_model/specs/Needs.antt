-- The units and logged pages that a command may take at most.
use Rattle.std.specs.Prelude.{ℕ, ◌-◌, ◌==◌, nat_lt, ◌||◌, Bool, if◌then◌else◌}
use Rattle.ex_base.specs.Needs.{growth_need, replace_need, delete_need}
use Rattle.ex_base.specs.Sizes.{units}
use Rattle.ex_base.specs.declared.geometry.Geometry.{Geometry}
use Rattle.ex_base.specs.declared.names.Area.{Area}
use Rattle.ex_base.specs.declared.names.Area.TheVariants.{Page, Segment}
use Rattle.table_model.specs.declared.machine.Machine.{Machine}
use Rattle.table_model.specs.declared.machine.Pick.{Pick}
use Rattle.table_model.specs.Requests as request
use Rattle.table_model.specs.Requests.{Request, given_count}

-- so many pages and no segment unit
abbrev pub pages_need : ℕ → Area → ℕ
pages_need n Page = n
pages_need n Segment = 0

-- an edit of no bytes needs nothing, nor does a small object that stays small
abbrev pub edit_need : ℕ → Pick → ℕ → ℕ
edit_need n q most = if n == 0 || q.small then 0 else most

abbrev pub need : Geometry → Request → Pick → Area → ℕ
need g (request.Insert x pos given) q area = edit_need (given_count given) q (growth_need g (given_count given) q.height area)
need g (request.Append x given) q area = edit_need (given_count given) q (growth_need g (given_count given) q.height area)
need g (request.Replace x pos given) q area = edit_need (given_count given) q (replace_need g (given_count given) q.height area)
need g (request.Delete x pos len) q area = edit_need len q (delete_need q.height area)
need g (request.Create file bind) q area = pages_need 16 area
need g (request.Freeze x bind) q area = pages_need 16 area
need g (request.Derive x bind) q area = pages_need 16 area
need g (request.File name) q area = pages_need 2 area
need g _ q area = 0

-- the logged pages that an update may touch
abbrev pub charge : Request → ℕ
charge (request.Insert x pos given) = 1
charge (request.Append x given) = 1
charge (request.Replace x pos given) = 1
charge (request.Delete x pos len) = 1
charge (request.Create file bind) = 16
charge (request.Freeze x bind) = 16
charge (request.Derive x bind) = 16
charge (request.File name) = 2
charge (request.Unfile name) = 2
charge (request.Destroy x) = 16
charge (request.DropVersion x) = 16
charge _ = 0

-- an update changes the working table, and leaves a note for the log
abbrev pub is_update : Request → Bool
is_update r = nat_lt 0 (charge r)

abbrev pub used : Machine → Area → ℕ
used m Page = m.pages_used
used m Segment = m.segs_used

-- the units of an area that are not in use
abbrev pub free : Machine → Area → ℕ
free m area = units m.geometry area - used m area
