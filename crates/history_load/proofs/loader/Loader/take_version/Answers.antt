use Rattle.std.proofs.Common.{◌≡◌, ◌≤◌, ℕ, List, [], ◌∷◌, ◌++◌, length, map, refl, sym, ap, subst, ◌∙◌, arith, Err}
use Rattle.disk_model.specs.Changes.{ChangesWithin, changes_trans, changes_refl}
use Rattle.ex_base.specs.declared.geometry.Geometry.{Geometry}
use Rattle.ex_base.specs.Order.{Rising}
use Rattle.ex_base.proofs.Results.{if_err_handed}
use Rattle.history_items.specs.Reads.{version_len, version_of, version_read}
use Rattle.history_links.specs.Linked.{number_in as placed_number}
use Rattle.history_model.specs.History.{HistoryVersion}
use Rattle.history_model.specs.Items.{IsVersionItem}
use Rattle.history_reads.specs.declared.progress.Progress.{Progress}
use Rattle.history_reads.specs.Reads.{HasItem}
use Rattle.history_writes.specs.Places.{InPagesFrom, IsBehindCatalog}
use Rattle.history_load.specs.AtHand.{HasFile, HasRoomForRecord}
use Rattle.history_load.specs.Faults.{WhereBad, LoadCause, fault_of_read}
use Rattle.history_load.specs.Loading.{NoneIsLaid, RefusesItem}
use Rattle.history_load.proofs.Causes.{where_as, cause_since, where_none, read_bad, read_cause}
use Rattle.history_load.proofs.Closing.{behind_catalog}
use Rattle.history_load.proofs.Facts.{version_is}
use Rattle.history_load.proofs.VersionsTaken.{few_versions, file_kept, file_missing, put_has_open, put_refuses, room_for_record, version_fits, version_loads, version_long, version_put, version_taken}
use Rattle.ex_base.specs.Sizes.{volume_bytes}
use Rattle.ex_base.proofs.Handed.{not_given}
use Rattle.history_load.proofs.loader.Loader.take_version.Goals as goal

pub read_version-version-requires-clause-head : goal.read_version-version-requires-clause-head
read_version-version-requires-clause-head g c =
    let was = c.requires.is in
    let long = version_long c.args.self.now.progress.geometry was.joined c.args.self.now.progress c.args.self.now.gathered.held was.item c.requires.turn in
    omega (arith, long.0, ap length c.as_slice-2.ensures)

pub read_version-version-requires-clause-whole : goal.read_version-version-requires-clause-whole
read_version-version-requires-clause-whole g c =
    let was = c.requires.is in
    let long = version_long c.args.self.now.progress.geometry was.joined c.args.self.now.progress c.args.self.now.gathered.held was.item c.requires.turn in
    subst (λ (bytes : List ℕ). version_len bytes ≤ length bytes) (sym c.as_slice-2.ensures) (omega (arith, long.1))

pub put_version-requires-clause-file : goal.put_version-requires-clause-file
put_version-requires-clause-file g c =
    let was = c.requires.is in
    let has = subst (λ (held : List ℕ). HasItem c.args.self.now.progress.geometry was.joined c.args.self.now.progress held) (sym c.as_slice.ensures) was.item in
    let is = version_is c.args.self.now.progress.geometry was.joined c.args.self.now.progress c.accept.new.self c.args.self.now.gathered.held was.item (c.in_ok-accept.ensures.read c.args.self.now.progress.geometry was.joined has) c.requires.turn in
    subst (λ (h : Geometry). HasFile h c.args.self.now.files) (sym c.accept.ensures.stream.0) (file_missing c.args.self.now.progress.geometry c.args.self.now c.accept.new.self.missing c.args.self.now.progress.missing is.missing was.of.file).0

pub put_version-requires-clause-there : goal.put_version-requires-clause-there
put_version-requires-clause-there g c =
    let was = c.requires.is in
    let has = subst (λ (held : List ℕ). HasItem c.args.self.now.progress.geometry was.joined c.args.self.now.progress held) (sym c.as_slice.ensures) was.item in
    let is = version_is c.args.self.now.progress.geometry was.joined c.args.self.now.progress c.accept.new.self c.args.self.now.gathered.held was.item (c.in_ok-accept.ensures.read c.args.self.now.progress.geometry was.joined has) c.requires.turn in
    subst (λ (h : Geometry). HasRoomForRecord h c.args.self.now.files) (sym c.accept.ensures.stream.0) (room_for_record c.args.self.now.progress.geometry c.args.self.now was.item.front c.accept.new.self.missing is.missing was.of)

pub put_version-requires-clause-few : goal.put_version-requires-clause-few
put_version-requires-clause-few g c = few_versions c.args.self.now.progress.geometry c.args.self.now c.requires.is.joined c.requires.is.item c.requires.is.of

pub put_version-requires-clause-version : goal.put_version-requires-clause-version
put_version-requires-clause-version g c =
    let was = c.requires.is in
    let has = subst (λ (held : List ℕ). HasItem c.args.self.now.progress.geometry was.joined c.args.self.now.progress held) (sym c.as_slice.ensures) was.item in
    let is = version_is c.args.self.now.progress.geometry was.joined c.args.self.now.progress c.accept.new.self c.args.self.now.gathered.held was.item (c.in_ok-accept.ensures.read c.args.self.now.progress.geometry was.joined has) c.requires.turn in
    let version : version_read c.args.self.now.gathered.held ≡ version_of c.read_version-version.result = sym (c.read_version-version.ensures ∙ ap (λ (b : List ℕ). version_read b) c.as_slice-2.ensures) in
    subst (λ (h : Geometry). IsVersionItem h h.segs h.pages (version_of c.read_version-version.result)) (sym c.accept.ensures.stream.0)
    (subst (λ (v : HistoryVersion). IsVersionItem c.args.self.now.progress.geometry c.args.self.now.progress.geometry.segs c.args.self.now.progress.geometry.pages v) version
    (version_fits c.args.self.now.progress.geometry c.args.self.now was.joined was.item (version_read c.args.self.now.gathered.held) was.of is.is))

pub put_version-requires-clause-rising : goal.put_version-requires-clause-rising
put_version-requires-clause-rising g c =
    let was = c.requires.is in
    let has = subst (λ (held : List ℕ). HasItem c.args.self.now.progress.geometry was.joined c.args.self.now.progress held) (sym c.as_slice.ensures) was.item in
    let is = version_is c.args.self.now.progress.geometry was.joined c.args.self.now.progress c.accept.new.self c.args.self.now.gathered.held was.item (c.in_ok-accept.ensures.read c.args.self.now.progress.geometry was.joined has) c.requires.turn in
    let file = file_missing c.args.self.now.progress.geometry c.args.self.now c.accept.new.self.missing c.args.self.now.progress.missing is.missing was.of.file in
    let version : version_read c.args.self.now.gathered.held ≡ version_of c.read_version-version.result = sym (c.read_version-version.ensures ∙ ap (λ (b : List ℕ). version_read b) c.as_slice-2.ensures) in
    subst Rising (is.numbers ∙ ap (λ (ns : List ℕ). ns ++ (version_read c.args.self.now.gathered.held).unique ∷ []) (sym (file.2 ∙ is.were))
    ∙ ap (λ (v : HistoryVersion). map placed_number c.args.self.now.files.versions.items ++ v.unique ∷ []) version) c.accept.new.self.in_order

pub returns-in_err-put_version-clause-changes : goal.returns-in_err-put_version-clause-changes
returns-in_err-put_version-clause-changes g c =
    behind_catalog c.args.self.now.progress.geometry c.args.self.now.files.next (g.D.World.outside c.args.disk.now) (g.D.World.outside c.put_version.new.disk) (omega (arith, c.requires.is.of.behind))
    (subst (λ (h : Geometry). ChangesWithin (InPagesFrom h c.args.self.now.files.next) (g.D.World.outside c.args.disk.now) (g.D.World.outside c.put_version.new.disk)) c.accept.ensures.stream.0 c.put_version.ensures.changes)

pub end_if_whole-requires-clause-open : goal.end_if_whole-requires-clause-open
end_if_whole-requires-clause-open g c =
    put_has_open c.args.self.now.progress.geometry c.accept.new.self.geometry (g.D.World.outside c.args.disk.now) (g.D.World.outside c.put_version.new.disk) c.args.self.now _ c.accept.ensures.stream.0
    (version_put c.args.self.now.progress.geometry c.accept.new.self.geometry (g.D.World.outside c.args.disk.now) (g.D.World.outside c.put_version.new.disk) c.args.self.now _ c.accept.new.self (version_of c.read_version-version.result) c.accept.ensures.stream.0 (c.read_version-version.ensures ∙ ap (λ (b : List ℕ). version_read b) c.as_slice-2.ensures) (record { geometry = refl; head = refl; leaves = refl; nodes = refl; files = refl; missing = refl; lengths = refl; name = refl; needs = refl; numbers = refl })
    (λ h joined has. c.in_ok-accept.ensures.read h joined (subst (λ (bytes : List ℕ). HasItem h joined c.args.self.now.progress bytes) (sym c.as_slice.ensures) has)) c.requires.turn refl c.in_ok-put_version.ensures.file c.in_ok-put_version.ensures.put c.in_ok-put_version.ensures.counts c.in_ok-put_version.ensures.fills c.put_version.ensures.changes c.accept.ensures.stream)
    c.requires.is

pub returns-in_err-end_if_whole-clause-refused : goal.returns-in_err-end_if_whole-clause-refused
returns-in_err-end_if_whole-clause-refused g c =
    if_err_handed c.from_residual-in_err-end_if_whole.result (WhereBad (RefusesItem c.args.self.now.progress.geometry (g.D.World.outside c.args.disk.now) c.args.self.now)) c.in_err-end_if_whole.field-0.0 c.from_residual-in_err-end_if_whole.ensures.1
    (where_as (NoneIsLaid c.accept.new.self.geometry (g.D.World.outside c.put_version.new.disk) _) (RefusesItem c.args.self.now.progress.geometry (g.D.World.outside c.args.disk.now) c.args.self.now) c.in_err-end_if_whole.field-0.0
    (put_refuses c.args.self.now.progress.geometry c.accept.new.self.geometry (g.D.World.outside c.args.disk.now) (g.D.World.outside c.put_version.new.disk) c.args.self.now _ c.accept.ensures.stream.0
    (version_put c.args.self.now.progress.geometry c.accept.new.self.geometry (g.D.World.outside c.args.disk.now) (g.D.World.outside c.put_version.new.disk) c.args.self.now _ c.accept.new.self (version_of c.read_version-version.result) c.accept.ensures.stream.0 (c.read_version-version.ensures ∙ ap (λ (b : List ℕ). version_read b) c.as_slice-2.ensures) (record { geometry = refl; head = refl; leaves = refl; nodes = refl; files = refl; missing = refl; lengths = refl; name = refl; needs = refl; numbers = refl })
    (λ h joined has. c.in_ok-accept.ensures.read h joined (subst (λ (bytes : List ℕ). HasItem h joined c.args.self.now.progress bytes) (sym c.as_slice.ensures) has)) c.requires.turn refl c.in_ok-put_version.ensures.file c.in_ok-put_version.ensures.put c.in_ok-put_version.ensures.counts c.in_ok-put_version.ensures.fills c.put_version.ensures.changes c.accept.ensures.stream)
    c.requires.is (g.D.World.is_world c.args.disk.now) c.requires.room)
    c.in_err-end_if_whole.ensures.refused)

pub returns-in_err-end_if_whole-clause-stream : goal.returns-in_err-end_if_whole-clause-stream
returns-in_err-end_if_whole-clause-stream g c = (
  ap (λ (p : Progress). p.geometry) c.end_if_whole.ensures.only.progress ∙ c.accept.ensures.stream.0,
  ap (λ (p : Progress). p.head) c.end_if_whole.ensures.only.progress ∙ c.accept.ensures.stream.1,
)

pub returns-in_err-end_if_whole-clause-changes : goal.returns-in_err-end_if_whole-clause-changes
returns-in_err-end_if_whole-clause-changes g c =
    changes_trans
    (behind_catalog c.args.self.now.progress.geometry c.args.self.now.files.next (g.D.World.outside c.args.disk.now) (g.D.World.outside c.put_version.new.disk) (omega (arith, c.requires.is.of.behind))
    (subst (λ (h : Geometry). ChangesWithin (InPagesFrom h c.args.self.now.files.next) (g.D.World.outside c.args.disk.now) (g.D.World.outside c.put_version.new.disk)) c.accept.ensures.stream.0 c.put_version.ensures.changes))
    (behind_catalog c.args.self.now.progress.geometry c.put_version.new.self.next (g.D.World.outside c.put_version.new.disk) (g.D.World.outside c.end_if_whole.new.disk) (omega (arith, c.requires.is.of.behind, c.in_ok-put_version.ensures.counts.next))
    (subst (λ (h : Geometry). ChangesWithin (InPagesFrom h c.put_version.new.self.next) (g.D.World.outside c.put_version.new.disk) (g.D.World.outside c.end_if_whole.new.disk)) c.accept.ensures.stream.0 c.end_if_whole.ensures.changes))

pub returns-clause-took : goal.returns-clause-took
returns-clause-took g c = record {
  loads = version_loads c.args.self.now.progress.geometry (g.D.World.outside c.args.disk.now) (g.D.World.outside c.put_version.new.disk) (g.D.World.outside c.end_if_whole.new.disk) c.args.self.now _ c.end_if_whole.new.self c.clear.new.self c.requires.is
      (version_put c.args.self.now.progress.geometry c.accept.new.self.geometry (g.D.World.outside c.args.disk.now) (g.D.World.outside c.put_version.new.disk) c.args.self.now _ c.accept.new.self (version_of c.read_version-version.result) c.accept.ensures.stream.0 (c.read_version-version.ensures ∙ ap (λ (b : List ℕ). version_read b) c.as_slice-2.ensures) (record { geometry = refl; head = refl; leaves = refl; nodes = refl; files = refl; missing = refl; lengths = refl; name = refl; needs = refl; numbers = refl })
      (λ h joined has. c.in_ok-accept.ensures.read h joined (subst (λ (bytes : List ℕ). HasItem h joined c.args.self.now.progress bytes) (sym c.as_slice.ensures) has)) c.requires.turn refl c.in_ok-put_version.ensures.file c.in_ok-put_version.ensures.put c.in_ok-put_version.ensures.counts c.in_ok-put_version.ensures.fills c.put_version.ensures.changes c.accept.ensures.stream)
      (file_kept c.args.self.now.progress.geometry c.accept.new.self.geometry (g.D.World.outside c.put_version.new.disk) (g.D.World.outside c.end_if_whole.new.disk) _ c.end_if_whole.new.self c.accept.ensures.stream.0 c.in_ok-end_if_whole.ensures.keeps c.in_ok-end_if_whole.ensures.stands c.end_if_whole.ensures.only c.in_ok-end_if_whole.ensures.count c.end_if_whole.ensures.changes)
      c.clear.ensures.held (g.D.World.is_world c.args.disk.now) (g.D.World.is_world c.put_version.new.disk) c.requires.room;
  is = version_taken c.args.self.now.progress.geometry (g.D.World.outside c.args.disk.now) (g.D.World.outside c.put_version.new.disk) (g.D.World.outside c.end_if_whole.new.disk) c.args.self.now _ c.end_if_whole.new.self c.clear.new.self c.requires.is
      (version_put c.args.self.now.progress.geometry c.accept.new.self.geometry (g.D.World.outside c.args.disk.now) (g.D.World.outside c.put_version.new.disk) c.args.self.now _ c.accept.new.self (version_of c.read_version-version.result) c.accept.ensures.stream.0 (c.read_version-version.ensures ∙ ap (λ (b : List ℕ). version_read b) c.as_slice-2.ensures) (record { geometry = refl; head = refl; leaves = refl; nodes = refl; files = refl; missing = refl; lengths = refl; name = refl; needs = refl; numbers = refl })
      (λ h joined has. c.in_ok-accept.ensures.read h joined (subst (λ (bytes : List ℕ). HasItem h joined c.args.self.now.progress bytes) (sym c.as_slice.ensures) has)) c.requires.turn refl c.in_ok-put_version.ensures.file c.in_ok-put_version.ensures.put c.in_ok-put_version.ensures.counts c.in_ok-put_version.ensures.fills c.put_version.ensures.changes c.accept.ensures.stream)
      (file_kept c.args.self.now.progress.geometry c.accept.new.self.geometry (g.D.World.outside c.put_version.new.disk) (g.D.World.outside c.end_if_whole.new.disk) _ c.end_if_whole.new.self c.accept.ensures.stream.0 c.in_ok-end_if_whole.ensures.keeps c.in_ok-end_if_whole.ensures.stands c.end_if_whole.ensures.only c.in_ok-end_if_whole.ensures.count c.end_if_whole.ensures.changes)
      c.clear.ensures.held c.clear.ensures.room;
  stream = (
    ap (λ (p : Progress). p.geometry) c.end_if_whole.ensures.only.progress ∙ c.accept.ensures.stream.0,
    ap (λ (p : Progress). p.head) c.end_if_whole.ensures.only.progress ∙ c.accept.ensures.stream.1,
  );
}

pub returns-clause-stream : goal.returns-clause-stream
returns-clause-stream g c = (
  ap (λ (p : Progress). p.geometry) c.end_if_whole.ensures.only.progress ∙ c.accept.ensures.stream.0,
  ap (λ (p : Progress). p.head) c.end_if_whole.ensures.only.progress ∙ c.accept.ensures.stream.1,
)

pub returns-clause-changes : goal.returns-clause-changes
returns-clause-changes g c =
    changes_trans
    (behind_catalog c.args.self.now.progress.geometry c.args.self.now.files.next (g.D.World.outside c.args.disk.now) (g.D.World.outside c.put_version.new.disk) (omega (arith, c.requires.is.of.behind))
    (subst (λ (h : Geometry). ChangesWithin (InPagesFrom h c.args.self.now.files.next) (g.D.World.outside c.args.disk.now) (g.D.World.outside c.put_version.new.disk)) c.accept.ensures.stream.0 c.put_version.ensures.changes))
    (behind_catalog c.args.self.now.progress.geometry c.put_version.new.self.next (g.D.World.outside c.put_version.new.disk) (g.D.World.outside c.end_if_whole.new.disk) (omega (arith, c.requires.is.of.behind, c.in_ok-put_version.ensures.counts.next))
    (subst (λ (h : Geometry). ChangesWithin (InPagesFrom h c.put_version.new.self.next) (g.D.World.outside c.put_version.new.disk) (g.D.World.outside c.end_if_whole.new.disk)) c.accept.ensures.stream.0 c.end_if_whole.ensures.changes))

-- ---- what else is promised

pub returns-in_err-accept-clause-took : goal.returns-in_err-accept-clause-took
returns-in_err-accept-clause-took g c = not_given c.from_residual.result _ (fault_of_read c.in_err-accept.field-0.0) c.from_residual.ensures.1

pub returns-in_err-accept-clause-refused : goal.returns-in_err-accept-clause-refused
returns-in_err-accept-clause-refused g c = read_bad c.from_residual.result c.in_err-accept.field-0.0 (RefusesItem c.args.self.now.progress.geometry (g.D.World.outside c.args.disk.now) c.args.self.now) c.from_residual.ensures.1
    (λ refused image joined honest holds before.
    c.accept.ensures.refused (c.in_err-accept.was ∙ ap Err refused) c.args.self.now.progress.geometry joined (subst (λ (held : List ℕ). HasItem c.args.self.now.progress.geometry joined c.args.self.now.progress held) (sym c.as_slice.ensures) before.item))

pub returns-in_err-accept-clause-stream : goal.returns-in_err-accept-clause-stream
returns-in_err-accept-clause-stream g c = c.accept.ensures.stream

pub returns-in_err-accept-clause-changes : goal.returns-in_err-accept-clause-changes
returns-in_err-accept-clause-changes g c = changes_refl (IsBehindCatalog c.args.self.now.progress.geometry) (g.D.World.outside c.args.disk.now)

pub returns-in_err-accept-clause-cause : goal.returns-in_err-accept-clause-cause
returns-in_err-accept-clause-cause g c = if_err_handed c.from_residual.result (LoadCause (g.D.World.outside c.args.disk.now) (g.D.World.outside c.args.disk.now)) (fault_of_read c.in_err-accept.field-0.0) c.from_residual.ensures.1 (read_cause (g.D.World.outside c.args.disk.now) (g.D.World.outside c.args.disk.now) c.in_err-accept.field-0.0)

pub returns-in_err-put_version-clause-took : goal.returns-in_err-put_version-clause-took
returns-in_err-put_version-clause-took g c = not_given c.from_residual-in_err-put_version.result _ c.in_err-put_version.field-0.0 c.from_residual-in_err-put_version.ensures.1

pub returns-in_err-put_version-clause-refused : goal.returns-in_err-put_version-clause-refused
returns-in_err-put_version-clause-refused g c = if_err_handed c.from_residual-in_err-put_version.result (WhereBad (RefusesItem c.args.self.now.progress.geometry (g.D.World.outside c.args.disk.now) c.args.self.now)) c.in_err-put_version.field-0.0 c.from_residual-in_err-put_version.ensures.1 (where_none (RefusesItem c.args.self.now.progress.geometry (g.D.World.outside c.args.disk.now) c.args.self.now) c.in_err-put_version.field-0.0 c.in_err-put_version.ensures.no_fault)

pub returns-in_err-put_version-clause-stream : goal.returns-in_err-put_version-clause-stream
returns-in_err-put_version-clause-stream g c = c.accept.ensures.stream

pub returns-in_err-put_version-clause-cause : goal.returns-in_err-put_version-clause-cause
returns-in_err-put_version-clause-cause g c = if_err_handed c.from_residual-in_err-put_version.result (LoadCause (g.D.World.outside c.args.disk.now) (g.D.World.outside c.put_version.new.disk)) c.in_err-put_version.field-0.0 c.from_residual-in_err-put_version.ensures.1 c.in_err-put_version.ensures.cause

pub returns-in_err-end_if_whole-clause-took : goal.returns-in_err-end_if_whole-clause-took
returns-in_err-end_if_whole-clause-took g c = not_given c.from_residual-in_err-end_if_whole.result _ c.in_err-end_if_whole.field-0.0 c.from_residual-in_err-end_if_whole.ensures.1

pub returns-in_err-end_if_whole-clause-cause : goal.returns-in_err-end_if_whole-clause-cause
returns-in_err-end_if_whole-clause-cause g c = if_err_handed c.from_residual-in_err-end_if_whole.result (LoadCause (g.D.World.outside c.args.disk.now) (g.D.World.outside c.end_if_whole.new.disk)) c.in_err-end_if_whole.field-0.0 c.from_residual-in_err-end_if_whole.ensures.1 (cause_since (g.D.World.outside c.args.disk.now) (g.D.World.outside c.put_version.new.disk) (g.D.World.outside c.end_if_whole.new.disk) c.in_err-end_if_whole.field-0.0 c.put_version.ensures.changes.only.goes.disk_faults c.put_version.ensures.changes.only.goes.read_faults c.in_err-end_if_whole.ensures.cause)

pub put_version-requires-clause-room : goal.put_version-requires-clause-room
put_version-requires-clause-room g c = subst (λ (k : Geometry). volume_bytes k ≤ (g.D.World.outside c.args.disk.now).size) (sym c.accept.ensures.stream.0) c.requires.room

pub returns-clause-refused : goal.returns-clause-refused
returns-clause-refused g c = tt

pub returns-clause-cause : goal.returns-clause-cause
returns-clause-cause g c = tt
