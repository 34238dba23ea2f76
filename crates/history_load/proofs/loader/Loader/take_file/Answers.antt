use Rattle.std.proofs.Common.{◌≤◌, ◌+◌, ℕ, Err, List, length, map, refl, sym, ap, subst, ◌∙◌, arith}
use Rattle.std.specs.Prelude.{Contains, slice_index}
use Rattle.disk_model.specs.Changes.{ChangesWithin, changes_refl}
use Rattle.ex_base.specs.declared.geometry.Geometry.{Geometry}
use Rattle.ex_base.specs.Sizes.{volume_bytes}
use Rattle.ex_base.proofs.Results.{if_err_handed}
use Rattle.object_files.specs.Catalog.{IsName, name_of}
use Rattle.object_files.specs.Edits.{entries_on}
use Rattle.history_reads.specs.Reads.{HasItem}
use Rattle.history_reads.specs.declared.progress.Progress.{Progress}
use Rattle.history_reads.proofs.Items.{front_read}
use Rattle.history_writes.specs.Places.{InPagesFrom, IsBehindCatalog}
use Rattle.history_load.specs.AtHand.{IsReady}
use Rattle.history_load.specs.Faults.{WhereBad, LoadCause, fault_of_read}
use Rattle.history_load.specs.Loading.{RefusesItem}
use Rattle.history_load.proofs.Causes.{read_bad, read_cause}
use Rattle.history_load.proofs.Closing.{behind_catalog}
use Rattle.history_load.proofs.Facts.{file_is}
use Rattle.history_load.proofs.FileHeads.{head_long, head_open, head_refused, head_took, name_unused, ready_for_file, room_for_entry}
use Rattle.history_load.proofs.Names.{name_is}
use Rattle.ex_base.proofs.Handed.{not_given}
use Rattle.history_load.proofs.loader.Loader.take_file.Goals as goal

pub read_file_head-requires-clause-some : goal.read_file_head-requires-clause-some
read_file_head-requires-clause-some g c =
    let long = head_long c.args.self.now.progress.geometry c.requires.is.joined c.args.self.now.progress c.args.self.now.gathered.held c.requires.is.item c.requires.turn in
    omega (arith, long.0, ap (λ (b : List ℕ). length b) c.as_slice-2.ensures)

pub read_file_head-requires-clause-whole : goal.read_file_head-requires-clause-whole
read_file_head-requires-clause-whole g c =
    let long = head_long c.args.self.now.progress.geometry c.requires.is.joined c.args.self.now.progress c.args.self.now.gathered.held c.requires.is.item c.requires.turn in
    subst (λ (b : List ℕ). 5 + slice_index b 0 ≤ length b) (sym c.as_slice-2.ensures) (omega (arith, long.1))

pub begin_file-requires-clause-ready : goal.begin_file-requires-clause-ready
begin_file-requires-clause-ready g c =
    let was = c.requires.is in
    let has = subst (λ (held : List ℕ). HasItem c.args.self.now.progress.geometry was.joined c.args.self.now.progress held) (sym c.as_slice.ensures) was.item in
    let is = file_is c.args.self.now.progress.geometry was.joined c.args.self.now.progress c.accept.new.self c.args.self.now.gathered.held was.item (c.in_ok-accept.ensures.read c.args.self.now.progress.geometry was.joined has) c.requires.turn in
    subst (λ (k : Geometry). IsReady k c.args.self.now.files) (sym c.accept.ensures.stream.0) (ready_for_file c.args.self.now.progress.geometry c.args.self.now was.item.front _ c.accept.new.self was.of is)

pub begin_file-requires-clause-name : goal.begin_file-requires-clause-name
begin_file-requires-clause-name g c =
    let was = c.requires.is in
    let has = subst (λ (held : List ℕ). HasItem c.args.self.now.progress.geometry was.joined c.args.self.now.progress held) (sym c.as_slice.ensures) was.item in
    let is = file_is c.args.self.now.progress.geometry was.joined c.args.self.now.progress c.accept.new.self c.args.self.now.gathered.held was.item (c.in_ok-accept.ensures.read c.args.self.now.progress.geometry was.joined has) c.requires.turn in
    subst (λ (n : List ℕ). IsName n) (sym (c.read_file_head.ensures.name ∙ ap (λ (b : List ℕ). (front_read b).name) c.as_slice-2.ensures)) (name_is (front_read c.args.self.now.gathered.held).name is.is.0)

pub begin_file-requires-clause-unused : goal.begin_file-requires-clause-unused
begin_file-requires-clause-unused g c = λ found.
    let was = c.requires.is in
    let has = subst (λ (held : List ℕ). HasItem c.args.self.now.progress.geometry was.joined c.args.self.now.progress held) (sym c.as_slice.ensures) was.item in
    let is = file_is c.args.self.now.progress.geometry was.joined c.args.self.now.progress c.accept.new.self c.args.self.now.gathered.held was.item (c.in_ok-accept.ensures.read c.args.self.now.progress.geometry was.joined has) c.requires.turn in
    name_unused c.args.self.now.progress.geometry c.args.self.now was.item.front _ c.accept.new.self was.of is
    (subst (λ (n : List ℕ). Contains (map name_of (entries_on c.args.self.now.files.catalog.items)) n) (c.read_file_head.ensures.name ∙ ap (λ (b : List ℕ). (front_read b).name) c.as_slice-2.ensures) found)

pub begin_file-requires-clause-room : goal.begin_file-requires-clause-room
begin_file-requires-clause-room g c =
    let was = c.requires.is in
    let has = subst (λ (held : List ℕ). HasItem c.args.self.now.progress.geometry was.joined c.args.self.now.progress held) (sym c.as_slice.ensures) was.item in
    let is = file_is c.args.self.now.progress.geometry was.joined c.args.self.now.progress c.accept.new.self c.args.self.now.gathered.held was.item (c.in_ok-accept.ensures.read c.args.self.now.progress.geometry was.joined has) c.requires.turn in
    room_for_entry c.args.self.now.progress.geometry c.args.self.now was.joined was.item _ c.accept.new.self was.of is

pub end_if_whole-requires-clause-room : goal.end_if_whole-requires-clause-room
end_if_whole-requires-clause-room g c = subst (λ (k : Geometry). volume_bytes k ≤ (g.D.World.outside c.args.disk.now).size) (sym c.accept.ensures.stream.0) c.requires.room

pub end_if_whole-requires-clause-open : goal.end_if_whole-requires-clause-open
end_if_whole-requires-clause-open g c =
    head_open c.args.self.now _ c.accept.new.self c.as_slice.result.now c.read_file_head.result.name.now (record {
      held_is = c.as_slice.ensures;
      reads = c.in_ok-accept.ensures.read;
      turn = c.requires.turn;
      stream = c.accept.ensures.stream;
      same = record { geometry = refl; head = refl; leaves = refl; nodes = refl; files = refl; missing = refl; lengths = refl; name = refl; needs = refl; numbers = refl };
      room = refl;
      name_is = (c.read_file_head.ensures.name ∙ ap (λ (b : List ℕ). (front_read b).name) c.as_slice-2.ensures);
      begins = c.begin_file.ensures.begins;
      file = c.begin_file.ensures.ready;
    }) c.requires.is

pub returns-in_err-accept-clause-refused : goal.returns-in_err-accept-clause-refused
returns-in_err-accept-clause-refused g c =
    read_bad c.from_residual.result c.in_err-accept.field-0.0 (RefusesItem c.args.self.now.progress.geometry (g.D.World.outside c.args.disk.now) c.args.self.now) c.from_residual.ensures.1
    (λ refused image joined honest holds before.
    c.accept.ensures.refused (c.in_err-accept.was ∙ ap Err refused) c.args.self.now.progress.geometry joined (subst (λ (held : List ℕ). HasItem c.args.self.now.progress.geometry joined c.args.self.now.progress held) (sym c.as_slice.ensures) before.item))

pub returns-in_err-end_if_whole-clause-refused : goal.returns-in_err-end_if_whole-clause-refused
returns-in_err-end_if_whole-clause-refused g c =
    if_err_handed c.from_residual-in_err-end_if_whole.result (WhereBad (RefusesItem c.args.self.now.progress.geometry (g.D.World.outside c.args.disk.now) c.args.self.now)) c.in_err-end_if_whole.field-0.0 c.from_residual-in_err-end_if_whole.ensures.1
    (head_refused (g.D.World.outside c.args.disk.now) c.args.self.now c.accept.new.self c.as_slice.result.now c.read_file_head.result.name.now c.in_err-end_if_whole.field-0.0 c.end_if_whole.ensures.only (record {
      held_is = c.as_slice.ensures;
      reads = c.in_ok-accept.ensures.read;
      turn = c.requires.turn;
      stream = c.accept.ensures.stream;
      same = record { geometry = refl; head = refl; leaves = refl; nodes = refl; files = refl; missing = refl; lengths = refl; name = refl; needs = refl; numbers = refl };
      room = refl;
      name_is = (c.read_file_head.ensures.name ∙ ap (λ (b : List ℕ). (front_read b).name) c.as_slice-2.ensures);
      begins = c.begin_file.ensures.begins;
      file = c.begin_file.ensures.ready;
    }) c.requires.is c.in_err-end_if_whole.ensures.refused)

pub returns-in_err-end_if_whole-clause-stream : goal.returns-in_err-end_if_whole-clause-stream
returns-in_err-end_if_whole-clause-stream g c =
    (ap (λ (p : Progress). p.geometry) c.end_if_whole.ensures.only.progress ∙ c.accept.ensures.stream.0, ap (λ (p : Progress). p.head) c.end_if_whole.ensures.only.progress ∙ c.accept.ensures.stream.1)

pub returns-in_err-end_if_whole-clause-changes : goal.returns-in_err-end_if_whole-clause-changes
returns-in_err-end_if_whole-clause-changes g c =
    behind_catalog c.args.self.now.progress.geometry c.args.self.now.files.next (g.D.World.outside c.args.disk.now) (g.D.World.outside c.end_if_whole.new.disk) (omega (arith, c.requires.is.of.behind))
    (subst (λ (n : ℕ). ChangesWithin (InPagesFrom c.args.self.now.progress.geometry n) (g.D.World.outside c.args.disk.now) (g.D.World.outside c.end_if_whole.new.disk)) c.begin_file.ensures.begins.next
    (subst (λ (k : Geometry). ChangesWithin (InPagesFrom k c.begin_file.new.self.next) (g.D.World.outside c.args.disk.now) (g.D.World.outside c.end_if_whole.new.disk)) c.accept.ensures.stream.0 c.end_if_whole.ensures.changes))

pub returns-clause-took : goal.returns-clause-took
returns-clause-took g c =
    head_took (g.D.World.outside c.args.disk.now) (g.D.World.outside c.end_if_whole.new.disk) c.args.self.now c.accept.new.self c.as_slice.result.now c.read_file_head.result.name.now c.clear.new.self c.end_if_whole.ensures.only (record {
      held_is = c.as_slice.ensures;
      reads = c.in_ok-accept.ensures.read;
      turn = c.requires.turn;
      stream = c.accept.ensures.stream;
      same = record { geometry = refl; head = refl; leaves = refl; nodes = refl; files = refl; missing = refl; lengths = refl; name = refl; needs = refl; numbers = refl };
      room = refl;
      name_is = (c.read_file_head.ensures.name ∙ ap (λ (b : List ℕ). (front_read b).name) c.as_slice-2.ensures);
      begins = c.begin_file.ensures.begins;
      file = c.begin_file.ensures.ready;
    }) c.requires.is
    (record { keeps = c.in_ok-end_if_whole.ensures.keeps; stands = c.in_ok-end_if_whole.ensures.stands; only = c.end_if_whole.ensures.only; count = c.in_ok-end_if_whole.ensures.count; changes = c.end_if_whole.ensures.changes })
    c.clear.ensures.held c.clear.ensures.room (g.D.World.is_world c.args.disk.now) c.requires.room

pub returns-clause-stream : goal.returns-clause-stream
returns-clause-stream g c =
    (ap (λ (p : Progress). p.geometry) c.end_if_whole.ensures.only.progress ∙ c.accept.ensures.stream.0, ap (λ (p : Progress). p.head) c.end_if_whole.ensures.only.progress ∙ c.accept.ensures.stream.1)

pub returns-clause-changes : goal.returns-clause-changes
returns-clause-changes g c =
    behind_catalog c.args.self.now.progress.geometry c.args.self.now.files.next (g.D.World.outside c.args.disk.now) (g.D.World.outside c.end_if_whole.new.disk) (omega (arith, c.requires.is.of.behind))
    (subst (λ (n : ℕ). ChangesWithin (InPagesFrom c.args.self.now.progress.geometry n) (g.D.World.outside c.args.disk.now) (g.D.World.outside c.end_if_whole.new.disk)) c.begin_file.ensures.begins.next
    (subst (λ (k : Geometry). ChangesWithin (InPagesFrom k c.begin_file.new.self.next) (g.D.World.outside c.args.disk.now) (g.D.World.outside c.end_if_whole.new.disk)) c.accept.ensures.stream.0 c.end_if_whole.ensures.changes))

-- ---- what else is promised

pub returns-in_err-accept-clause-took : goal.returns-in_err-accept-clause-took
returns-in_err-accept-clause-took g c = not_given c.from_residual.result _ (fault_of_read c.in_err-accept.field-0.0) c.from_residual.ensures.1

pub returns-in_err-accept-clause-stream : goal.returns-in_err-accept-clause-stream
returns-in_err-accept-clause-stream g c = c.accept.ensures.stream

pub returns-in_err-accept-clause-changes : goal.returns-in_err-accept-clause-changes
returns-in_err-accept-clause-changes g c = changes_refl (IsBehindCatalog c.args.self.now.progress.geometry) (g.D.World.outside c.args.disk.now)

pub returns-in_err-accept-clause-cause : goal.returns-in_err-accept-clause-cause
returns-in_err-accept-clause-cause g c = if_err_handed c.from_residual.result (LoadCause (g.D.World.outside c.args.disk.now) (g.D.World.outside c.args.disk.now)) (fault_of_read c.in_err-accept.field-0.0) c.from_residual.ensures.1 (read_cause (g.D.World.outside c.args.disk.now) (g.D.World.outside c.args.disk.now) c.in_err-accept.field-0.0)

pub returns-in_err-end_if_whole-clause-took : goal.returns-in_err-end_if_whole-clause-took
returns-in_err-end_if_whole-clause-took g c = not_given c.from_residual-in_err-end_if_whole.result _ c.in_err-end_if_whole.field-0.0 c.from_residual-in_err-end_if_whole.ensures.1

pub returns-in_err-end_if_whole-clause-cause : goal.returns-in_err-end_if_whole-clause-cause
returns-in_err-end_if_whole-clause-cause g c = if_err_handed c.from_residual-in_err-end_if_whole.result (LoadCause (g.D.World.outside c.args.disk.now) (g.D.World.outside c.end_if_whole.new.disk)) c.in_err-end_if_whole.field-0.0 c.from_residual-in_err-end_if_whole.ensures.1 c.in_err-end_if_whole.ensures.cause

pub returns-clause-refused : goal.returns-clause-refused
returns-clause-refused g c = tt

pub returns-clause-cause : goal.returns-clause-cause
returns-clause-cause g c = tt
