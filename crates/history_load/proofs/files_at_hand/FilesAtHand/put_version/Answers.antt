use Rattle.std.proofs.Common.{◌≡◌, ℕ, List, [], ◌∷◌, length, map, take, sym, ap, subst, ◌∙◌, arith}
use Rattle.std.proofs.lemmas.List.{length-take-le, map-append, with_items_is}
use Rattle.object_records.specs.Reads.{content_of}
use Rattle.object_records.specs.Record.{BodyOf}
use Rattle.slotted_pages.specs.Edits.{slots_of}
use Rattle.history_items.specs.Reads.{version_of}
use Rattle.history_model.specs.FilePages.{record_size}
use Rattle.history_writes.specs.Laid.{IsLastPlace, LaysRecord}
use Rattle.history_writes.specs.declared.file_pages.FilePages.{FilePages}
use Rattle.history_writes.specs.Records.{unlinked}
use Rattle.history_load.proofs.Filling.{fills_as}
use Rattle.history_load.proofs.Putting.{puts, record_fits}
use Rattle.ex_base.proofs.Results.{if_err_handed}
use Rattle.disk_model.specs.Changes.{ChangesWithin}
use Rattle.history_writes.specs.Places.{InPagesFrom}
use Rattle.history_load.specs.Faults.{IsOfStream, LoadCause}
use Rattle.history_load.specs.declared.faults.LoadFault.TheVariants.{Disk, Memory}
use Rattle.ex_base.proofs.Handed.{not_given}
use Rattle.history_links.specs.declared.PlacedVersion.{PlacedVersion}
use Rattle.history_links.specs.Linked.{number_in as placed_number}
use Rattle.history_load.specs.AtHand.{placed_version}
use Rattle.history_load.proofs.files_at_hand.FilesAtHand.put_version.Goals as goal

pub returns-clause-put : goal.returns-clause-put
returns-clause-put g c =
    let long : length c.write_record-len.new.out ≡ c.args.self.now.desk.record.len = omega (arith, c.write_record-len.auto.out, c.deref_mut.ensures.len) in
    let made : c.deref.result.now ≡ c.write_record-len.new.out = c.deref.ensures.value ∙ with_items_is c.args.self.now.desk.record c.write_record-len.new.out long in
    let is : BodyOf (take c.write_record-len.result c.deref.result.now) (unlinked c.args.geometry.now (version_of c.args.version.now)) =
    subst (λ (b : List ℕ). BodyOf (take c.write_record-len.result b) (unlinked c.args.geometry.now (version_of c.args.version.now))) (sym made) c.write_record-len.ensures.record in
    let pages : c.keep_place.new.self.pages ≡ c.add.new.self = c.keep_place.ensures.only.pages in
    puts c.args.geometry.now (g.D.World.outside c.args.disk.now) (g.D.World.outside c.add.new.disk) c.args.self.now _ (version_of c.args.version.now) (take c.write_record-len.result c.deref.result.now) c.in_ok-place.place is.fits is.spelled
    (subst (λ (p : FilePages). LaysRecord c.args.geometry.now (g.D.World.outside c.args.disk.now) (g.D.World.outside c.add.new.disk) c.args.self.now.pages p (unlinked c.args.geometry.now (version_of c.args.version.now))) (sym pages) (c.in_ok-place.ensures.lays (unlinked c.args.geometry.now (version_of c.args.version.now)) is))
    (subst (λ (p : FilePages). IsLastPlace p c.in_ok-place.place) (sym pages) c.in_ok-place.ensures.place)
    (ap (λ (p : FilePages). p.first) pages ∙ c.add.ensures.file.first)
    (ap (λ (p : FilePages). p.written) pages ∙ c.in_ok-place.ensures.written)
    (ap (λ (p : FilePages). slots_of p.page.items) pages ∙ c.in_ok-place.ensures.slots)
    c.in_ok-keep_place.ensures.kept

pub returns-clause-fills : goal.returns-clause-fills
returns-clause-fills g c = λ needs was.
    let long : length c.write_record-len.new.out ≡ c.args.self.now.desk.record.len = omega (arith, c.write_record-len.auto.out, c.deref_mut.ensures.len) in
    let made : c.deref.result.now ≡ c.write_record-len.new.out = c.deref.ensures.value ∙ with_items_is c.args.self.now.desk.record c.write_record-len.new.out long in
    let fits = record_fits c.args.geometry.now c.args.geometry.now.segs c.args.geometry.now.pages (content_of c.args.version.now.content) c.requires.version.content in
    let size : length c.deref.result.now ≡ c.args.geometry.now.page_size = omega (arith, ap (λ (b : List ℕ). length b) made, c.write_record-len.auto.out, ap (λ (b : List ℕ). length b) c.deref_mut.ensures.value, c.requires.file.last.ready.desk.body) in
    let count : length (take c.write_record-len.result c.deref.result.now) ≡ record_size (content_of c.args.version.now.content) =
    length-take-le c.write_record-len.result c.deref.result.now (omega (arith, c.write_record-len.ensures.len, fits, size)) ∙ c.write_record-len.ensures.len in
    let pages : c.keep_place.new.self.pages ≡ c.add.new.self = c.keep_place.ensures.only.pages in
    fills_as c.args.geometry.now c.args.self.now _ (record_size (content_of c.args.version.now.content)) (take c.write_record-len.result c.deref.result.now) needs count fits c.requires.file.last.ready.page_size c.requires.file.page.dense
    (ap (λ (p : FilePages). p.written) pages ∙ c.in_ok-place.ensures.written)
    (ap (λ (p : FilePages). slots_of p.page.items) pages ∙ c.in_ok-place.ensures.slots) was

-- ---- what else is promised

pub returns-in_err-place-clause-put : goal.returns-in_err-place-clause-put
returns-in_err-place-clause-put g c = not_given c.from_residual.result _ Disk c.from_residual.ensures.1

pub returns-in_err-place-clause-counts : goal.returns-in_err-place-clause-counts
returns-in_err-place-clause-counts g c = not_given c.from_residual.result _ Disk c.from_residual.ensures.1

pub returns-in_err-place-clause-fills : goal.returns-in_err-place-clause-fills
returns-in_err-place-clause-fills g c = not_given c.from_residual.result _ Disk c.from_residual.ensures.1

pub returns-in_err-place-clause-file : goal.returns-in_err-place-clause-file
returns-in_err-place-clause-file g c = not_given c.from_residual.result _ Disk c.from_residual.ensures.1

pub returns-in_err-place-clause-changes : goal.returns-in_err-place-clause-changes
returns-in_err-place-clause-changes g c = subst (λ (n : ℕ). ChangesWithin (InPagesFrom c.args.geometry.now n) (g.D.World.outside c.args.disk.now) (g.D.World.outside c.add.new.disk)) c.requires.file.last.first c.add.ensures.changes

pub returns-in_err-place-clause-no_fault : goal.returns-in_err-place-clause-no_fault
returns-in_err-place-clause-no_fault g c = if_err_handed c.from_residual.result (λ fault. IsOfStream fault → ⊥) Disk c.from_residual.ensures.1 (λ of. of)

pub returns-in_err-place-clause-cause : goal.returns-in_err-place-clause-cause
returns-in_err-place-clause-cause g c = if_err_handed c.from_residual.result (LoadCause (g.D.World.outside c.args.disk.now) (g.D.World.outside c.add.new.disk)) Disk c.from_residual.ensures.1 c.in_err-place.ensures.cause

pub returns-in_err-keep_place-clause-put : goal.returns-in_err-keep_place-clause-put
returns-in_err-keep_place-clause-put g c = not_given c.from_residual-in_err-keep_place.result _ Memory c.from_residual-in_err-keep_place.ensures.1

pub returns-in_err-keep_place-clause-counts : goal.returns-in_err-keep_place-clause-counts
returns-in_err-keep_place-clause-counts g c = not_given c.from_residual-in_err-keep_place.result _ Memory c.from_residual-in_err-keep_place.ensures.1

pub returns-in_err-keep_place-clause-fills : goal.returns-in_err-keep_place-clause-fills
returns-in_err-keep_place-clause-fills g c = not_given c.from_residual-in_err-keep_place.result _ Memory c.from_residual-in_err-keep_place.ensures.1

pub returns-in_err-keep_place-clause-file : goal.returns-in_err-keep_place-clause-file
returns-in_err-keep_place-clause-file g c = not_given c.from_residual-in_err-keep_place.result _ Memory c.from_residual-in_err-keep_place.ensures.1

pub returns-in_err-keep_place-clause-changes : goal.returns-in_err-keep_place-clause-changes
returns-in_err-keep_place-clause-changes g c = subst (λ (n : ℕ). ChangesWithin (InPagesFrom c.args.geometry.now n) (g.D.World.outside c.args.disk.now) (g.D.World.outside c.add.new.disk)) c.requires.file.last.first c.add.ensures.changes

pub returns-in_err-keep_place-clause-no_fault : goal.returns-in_err-keep_place-clause-no_fault
returns-in_err-keep_place-clause-no_fault g c = if_err_handed c.from_residual-in_err-keep_place.result (λ fault. IsOfStream fault → ⊥) Memory c.from_residual-in_err-keep_place.ensures.1 (λ of. of)

pub returns-in_err-keep_place-clause-cause : goal.returns-in_err-keep_place-clause-cause
returns-in_err-keep_place-clause-cause g c = if_err_handed c.from_residual-in_err-keep_place.result (LoadCause (g.D.World.outside c.args.disk.now) (g.D.World.outside c.add.new.disk)) Memory c.from_residual-in_err-keep_place.ensures.1 tt

pub returns-clause-changes : goal.returns-clause-changes
returns-clause-changes g c = subst (λ (n : ℕ). ChangesWithin (InPagesFrom c.args.geometry.now n) (g.D.World.outside c.args.disk.now) (g.D.World.outside c.add.new.disk)) c.requires.file.last.first c.add.ensures.changes

pub returns-clause-no_fault : goal.returns-clause-no_fault
returns-clause-no_fault g c = tt

pub returns-clause-cause : goal.returns-clause-cause
returns-clause-cause g c = tt

pub add-requires-clause-room : goal.add-requires-clause-room
add-requires-clause-room g c = c.requires.room

pub add-requires-clause-size : goal.add-requires-clause-size
add-requires-clause-size g c = c.requires.file.last.ready.page_size

pub add-requires-clause-behind : goal.add-requires-clause-behind
add-requires-clause-behind g c = omega (arith, c.requires.file.last.ready.behind, c.requires.file.last.first)

pub add-requires-clause-there : goal.add-requires-clause-there
add-requires-clause-there g c = c.requires.there

pub add-requires-clause-page : goal.add-requires-clause-page
add-requires-clause-page g c = c.requires.file.page

pub write_record-len-requires-clause-version : goal.write_record-len-requires-clause-version
write_record-len-requires-clause-version g c = c.requires.version

pub write_record-len-requires-clause-room : goal.write_record-len-requires-clause-room
write_record-len-requires-clause-room g c = omega (arith, ap (λ (b : List ℕ). length b) c.deref_mut.ensures.value, c.requires.file.last.ready.desk.body)

pub returns-clause-counts : goal.returns-clause-counts
returns-clause-counts g c = record {
  catalog = c.keep_place.ensures.only.catalog;
  file_no = ap (λ (p : FilePages). p.file_no) c.keep_place.ensures.only.pages ∙ c.add.ensures.file.file_no;
  next = c.keep_place.ensures.only.next;
  count = omega (arith, c.keep_place.ensures.only.count);
  numbers = ap (λ (vs : List PlacedVersion). map placed_number vs) c.in_ok-keep_place.ensures.kept ∙ map-append placed_number c.args.self.now.versions.items (placed_version (version_of c.args.version.now) c.in_ok-place.place ∷ []);
}
