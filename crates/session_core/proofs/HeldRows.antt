-- What holds of every session holds where its scans are others and where it has a group more.
use Rattle.std.proofs.Common.{◌≡◌, ℕ, ◌+◌, ◌<◌, ◌≤◌, List, [], ◌∷◌, ◌++◌, length, All, Some, Result, Ok, Err, refl, sym, subst, arith, length-append, ◌^◌}
use Rattle.std.specs.Prelude.{IfSome, OnErr, OnOk, slice_get, slice_set}
use Rattle.std.proofs.lemmas.List.{length-set}
use Rattle.std.proofs.lemmas.List.Elements.{All-get_or, All-nil, All-push, All-set, All-weaker}
use Rattle.std.proofs.lemmas.Option.{get_or_from_slice_get, slice_get_within}
use Rattle.ex_base.specs.declared.geometry.Geometry.{Geometry}
use Rattle.ex_base.specs.Area.{catalog_no}
use Rattle.ex_base.specs.Sizes.{volume_bytes}
use Rattle.buffer_groups.specs.Frames.{Frames}
use Rattle.disk_model.specs.Outside.{Outside}
use Rattle.open_scans.specs.GroupRows.{empty_group}
use Rattle.open_scans.specs.OpenScans.{AtRow, IsOpenScan, OpenRow, row_after}
use Rattle.open_scans.proofs.Grouped.{groups_count, groups_more}
use Rattle.open_scans.proofs.Rows.{row_there}
use Rattle.table_model.specs.declared.machine.GroupRow.{GroupRow}
use Rattle.table_model.specs.Machines.{groups_most, scans_most}
use Rattle.trees.specs.Roots.{IsRootFor}
use Rattle.volume_port.specs.Reading.{CanRead}
use Rattle.session_core.specs.ScanRows.{grouped, with_scans}
use Rattle.session_core.specs.Sessions.{IsSession, SessionState}
use Rattle.session_core.proofs.Finding.{LeavesFrames, read_session}

-- ---- other scans

-- these may be the scans of a session
pub record AreOpen (s : SessionState) (scans : List OpenRow) : Type 0 where
  pub each : All (IsOpenScan s.geometry (length s.group_rows)) scans
  pub few : length scans ≤ scans_most

pub scans_session : (s : SessionState) (scans : List OpenRow) → AreOpen s scans → IsSession s → IsSession (with_scans s scans)
scans_session s scans are is = record {
  log = is.log;
  meta = is.meta;
  units = is.units;
  pages = is.pages;
  in_use = is.in_use;
  sizes = is.sizes;
  groups = is.groups;
  few_groups = is.few_groups;
  scans = are.each;
  few_scans = are.few;
  logged = is.logged;
  behind = is.behind;
  few_notes = is.few_notes;
  notes = is.notes;
  few_gained = is.few_gained;
  few_lost = is.few_lost;
  few_pages = is.few_pages;
  in_order = is.in_order;
  work = is.work;
  up = is.up;
  idle = is.idle;
}

pub at_place : {A : Type 0} (P : A → Type 0) (xs : List A) (index : ℕ) (x : A) → slice_get xs index ≡ Some x → All P xs → P x
at_place P xs index x at all = subst P (get_or_from_slice_get xs index x x at) (All-get_or P xs index x (slice_get_within xs index x at) all)

open_after : (g : Geometry) (groups : ℕ) (row : OpenRow) (n : ℕ) → IsOpenScan g groups row → IsOpenScan g groups (row_after n row)
open_after g groups row n is = record { root = is.root; inside = omega (arith, is.inside); group = is.group }

-- a scan moved on
pub moved_open : (s : SessionState) (index n : ℕ) (row : OpenRow) → IsSession s → slice_get s.scans index ≡ Some row → AreOpen s (slice_set s.scans index (row_after n row))
moved_open s index n row is at =
    let P : OpenRow → Type 0 = IsOpenScan s.geometry (length s.group_rows) in
    record {
      each = All-set P s.scans index (row_after n row) (open_after s.geometry (length s.group_rows) row n (at_place P s.scans index row at is.scans)) is.scans;
      few = omega (arith, length-set s.scans index (row_after n row), is.few_scans);
    }

-- the scans after the next bytes of one were read, or were not
pub read_open : {T E : Type 0} (s : SessionState) (index n : ℕ) (scans : List OpenRow) (result : Result T E) → IsSession s → index < length s.scans
    → OnOk result (AtRow s.scans index (λ row. scans ≡ slice_set s.scans index (row_after n row))) → OnErr result (scans ≡ s.scans) → AreOpen s scans
read_open s index n scans (Ok x) is lt moved stays =
    let has = row_there s.scans index lt in
    subst (AreOpen s) (sym (moved has.row has.at)) (moved_open s index n has.row is has.at)
read_open s index n scans (Err e) is lt moved stays = subst (AreOpen s) (sym stays) (record { each = is.scans; few = is.few_scans })

-- and the session then
pub read_on_session : {a b : Outside} (s : SessionState) (scans : List OpenRow) (groups : List Frames) → AreOpen s scans → LeavesFrames a b s.groups groups → IsSession s → IsSession (record s { scans = scans; groups = groups })
read_on_session s scans groups are left is = read_session (with_scans s scans) groups left (scans_session s scans are is)

-- ---- the group that a scan reads through

can_read : (s : SessionState) (size index : ℕ) (row : OpenRow) → IsSession s → volume_bytes s.geometry ≤ size → slice_get s.scans index ≡ Some row → CanRead s.geometry size s.groups row.group s.meta
can_read s size index row is large at =
    let own = at_place (IsOpenScan s.geometry (length s.group_rows)) s.scans index row at is.scans in
    record { group = omega (arith, own.group, groups_count s.group_rows s.groups is.groups); disk = large; frames = is.sizes; behind = is.behind; overlay = is.meta }

-- a port for reading may be made for the scan at an index, with its group
pub can_read_on : (s now : SessionState) (size index group : ℕ) → s ≡ now → IsSession s → index < length now.scans → volume_bytes now.geometry ≤ size → AtRow s.scans index (λ row. group ≡ row.group) → CanRead s.geometry size s.groups group s.meta
can_read_on s now size index group seen is there large from =
    let has = row_there s.scans index (subst (λ (t : SessionState). index < length t.scans) (sym seen) there) in
    subst (λ (k : ℕ). CanRead s.geometry size s.groups k s.meta) (sym (from has.row has.at))
    (can_read s size index has.row is (subst (λ (t : SessionState). volume_bytes t.geometry ≤ size) (sym seen) large) has.at)

-- its root is one that a tree may have
pub root_read : (s : SessionState) (index : ℕ) → IsSession s → AtRow s.scans index (λ row. IfSome row.scan.root (IsRootFor s.geometry))
root_read s index is = λ row at. (at_place (IsOpenScan s.geometry (length s.group_rows)) s.scans index row at is.scans).root

-- ---- a group more

pub grouped_session : (s : SessionState) (row : GroupRow) → length s.group_rows < groups_most → IsSession s → IsSession (grouped s row)
grouped_session s row few is =
    let group = empty_group row s.geometry.page_size in
    let more : length (s.group_rows ++ row ∷ []) ≡ length s.group_rows + 1 = length-append s.group_rows (row ∷ []) in
    record {
      log = is.log;
      meta = is.meta;
      units = is.units;
      pages = is.pages;
      in_use = is.in_use;
      sizes = All-push (λ (f : Frames). f.page_size ≡ s.geometry.page_size) s.groups group is.sizes refl;
      groups = groups_more s.group_rows s.groups row s.geometry.page_size is.groups;
      few_groups = omega (arith, more, few);
      scans =
          All-weaker (IsOpenScan s.geometry (length s.group_rows)) (IsOpenScan s.geometry (length (s.group_rows ++ row ∷ [])))
          (λ scan own. record { root = own.root; inside = own.inside; group = omega (arith, own.group, more) }) s.scans is.scans;
      few_scans = is.few_scans;
      logged = is.logged;
      behind = All-push (λ (f : Frames). All (λ (e : ℕ × List ℕ). catalog_no ≤ e.0) f.entries) s.groups group is.behind (All-nil (λ (e : ℕ × List ℕ). catalog_no ≤ e.0));
      few_notes = is.few_notes;
      notes = is.notes;
      few_gained = is.few_gained;
      few_lost = is.few_lost;
      few_pages = is.few_pages;
      in_order = is.in_order;
      work = is.work;
      up = is.up;
      idle = is.idle;
    }

-- the groups can be counted
pub room_more : (s now : SessionState) → s ≡ now → IsSession s → length now.group_rows < groups_most → length s.groups + 1 < 2 ^ 32
room_more s now seen is few = (let here = subst (λ (t : SessionState). length t.group_rows < groups_most) (sym seen) few in omega (arith, here, groups_count s.group_rows s.groups is.groups))

-- where memory was wanted, nothing changed
pub grouped_or : {T E : Type 0} (s : SessionState) (row : GroupRow) (rows : List GroupRow) (groups : List Frames) (result : Result T E) → length s.group_rows < groups_most → IsSession s
    → OnOk result (rows ≡ s.group_rows ++ row ∷ []) → OnOk result (groups ≡ s.groups ++ empty_group row s.geometry.page_size ∷ []) → OnErr result (rows ≡ s.group_rows) → OnErr result (groups ≡ s.groups)
    → IsSession (record s { groups = groups; group_rows = rows })
grouped_or s row rows groups (Ok x) few is rows_are groups_are rows_stay groups_stay =
    subst (λ (l : List GroupRow). IsSession (record s { groups = groups; group_rows = l })) (sym rows_are)
    (subst (λ (f : List Frames). IsSession (record s { groups = f; group_rows = s.group_rows ++ row ∷ [] })) (sym groups_are) (grouped_session s row few is))
grouped_or s row rows groups (Err e) few is rows_are groups_are rows_stay groups_stay =
    subst (λ (l : List GroupRow). IsSession (record s { groups = groups; group_rows = l })) (sym rows_stay)
    (subst (λ (f : List Frames). IsSession (record s { groups = f; group_rows = s.group_rows })) (sym groups_stay) is)
