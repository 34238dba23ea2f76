-- What the machine of a view that shows has under a name is what the session has.
use Rattle.std.proofs.Common.{◌≡◌, ◌∙◌, ℕ, Bool, ◌||◌, List, Some, None, is_some, sym, ap}
use Rattle.std.specs.Prelude.{bytes_eq}
use Rattle.std.specs.List.{list_any}
use Rattle.bound_names.specs.Bindings.{is_bound}
use Rattle.open_scans.specs.GroupRows.{group_index, is_row_named}
use Rattle.open_scans.specs.OpenScans.{is_named, scan_index}
use Rattle.open_scans.proofs.Beside.{HasScan, any_named, is_scan_named, none_found, scan_found}
use Rattle.open_scans.proofs.Grouped.{some_group}
use Rattle.session_views.specs.View.{View}
use Rattle.table_model.specs.declared.machine.BoundName.{BoundName}
use Rattle.table_model.specs.declared.machine.GroupRow.{GroupRow}
use Rattle.table_model.specs.Machines.{has_group, is_taken, main, scan_at}
use Rattle.volume_model.specs.Homes.{home}
use Rattle.volume_model.specs.Shown.{Shows}
use Rattle.session_core.specs.Meant.{held_view}
use Rattle.session_core.specs.ScanRows.{takes_name}
use Rattle.session_core.specs.Sessions.{SessionState}

module _ {may_leave : List ℕ → Type 0} (v : View SessionState) (shows : Shows may_leave (held_view v)) (name : List ℕ) where
  pub group_as : has_group v.machine name ≡ is_some (group_index v.session.group_rows name)
  group_as =
      ap (λ (rows : List GroupRow). bytes_eq main name || list_any (is_row_named name) rows) shows.shared.group_rows ∙ sym (some_group v.session.group_rows name)

  scans_are : list_any (is_scan_named name) v.machine.scans ≡ list_any (is_named name) v.session.scans
  scans_are = any_named shows.decoded.geometry (home shows.decoded.geometry v.disk) name v.machine.scans v.session.scans shows.scans

  pub taken_as : is_taken v.machine name ≡ takes_name v.session name
  taken_as =
      ap (λ (names : List BoundName). is_bound names name || list_any (is_scan_named name) v.machine.scans || has_group v.machine name) shows.shared.names
      ∙ ap (λ (b : Bool). is_bound v.session.names name || b || has_group v.machine name) scans_are
      ∙ ap (λ (b : Bool). is_bound v.session.names name || list_any (is_named name) v.session.scans || b) group_as

  pub no_scan_as : scan_index v.session.scans name ≡ None → scan_at v.machine name ≡ None
  no_scan_as none = none_found shows.decoded.geometry (home shows.decoded.geometry v.disk) name v.machine.scans v.session.scans shows.scans none

  pub scan_as : (index : ℕ) → scan_index v.session.scans name ≡ Some index → HasScan v.machine.scans name index
  scan_as index is = scan_found shows.decoded.geometry (home shows.decoded.geometry v.disk) name v.machine.scans v.session.scans shows.scans index is
