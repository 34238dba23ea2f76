-- Whether a volume may decide so, as a test that computes.
use Rattle.std.specs.Prelude.{◌+◌, Bool, true, not, ◌&&◌, ◌||◌, ◌==◌, nat_le}
use Rattle.std.specs.List.{list_any}
use Rattle.ex_base.specs.declared.names.Place.{Place}
use Rattle.ex_base.specs.declared.names.Area.TheVariants.{Page, Segment}
use Rattle.version_lists.specs.declared.version.Version.{Version}
use Rattle.table_model.specs.declared.machine.Machine.{Machine}
use Rattle.table_model.specs.declared.machine.Pick.{Pick}
use Rattle.table_model.specs.Tables.{versions_of}
use Rattle.table_model.specs.Requests.{Request}
use Rattle.table_model.specs.Requests as request
use Rattle.table_model.specs.Machines.{shown}
use Rattle.table_model.specs.Needs.{need, charge, is_update}

-- the version lies in the place
abbrev pub lies_at : Place → Version → Bool
lies_at place v = (v.oid.page.0 == place.page.0) && (v.oid.slot == place.slot)

-- no version of the shown table does
abbrev pub is_vacant : Machine → Pick → Bool
is_vacant m q = not (list_any (lies_at q.place) (versions_of (shown m)))

-- no unit is taken
abbrev pub takes_none : Machine → Pick → Bool
takes_none m q = nat_le q.pages m.pages_used && nat_le q.segs m.segs_used

-- what is asked of some commands
abbrev pub asks : Machine → Request → Pick → Bool
asks m request.Commit q = takes_none m q
asks m request.Abort q = takes_none m q
asks m (request.Close name) q = takes_none m q
asks m (request.Create file bind) q = is_vacant m q
asks m (request.Freeze x bind) q = is_vacant m q
asks m (request.Derive x bind) q = is_vacant m q
asks m _ q = true

-- what the command takes is within its need, what it touches within its charge
abbrev pub within_need : Machine → Request → Pick → Bool
within_need m r q =
    nat_le q.pages (m.pages_used + need m.geometry r q Page) && nat_le q.segs (m.segs_used + need m.geometry r q Segment)
    && nat_le q.touched (m.touched + charge r)

abbrev pub is_allowed : Machine → Request → Pick → Bool
is_allowed m r q = asks m r q && (not (is_update r) || within_need m r q)
