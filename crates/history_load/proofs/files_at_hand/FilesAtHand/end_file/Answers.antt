use Rattle.std.proofs.Common.{◌≡◌, ◌≤◌, ◌+◌, ◌∙◌, ℕ, sym, subst, ap, arith}
use Rattle.std.specs.Prelude.{Contains}
use Rattle.object_files.specs.Edits.{numbers_on}
use Rattle.disk_model.specs.Changes.{ChangesWithin, changes_trans}
use Rattle.disk_model.specs.Runs.{honest_on}
use Rattle.ex_base.specs.Area.{area_end}
use Rattle.ex_base.specs.Sizes.{volume_bytes}
use Rattle.ex_base.proofs.Results.{if_err_handed}
use Rattle.history_writes.specs.declared.file_pages.FilePages.{FilePages}
use Rattle.history_writes.specs.Places.{InPagesFrom}
use Rattle.history_load.specs.AtHand.{CantEnd, CantLink, pages_filled}
use Rattle.history_load.specs.Faults.{WhereBad, LoadCause}
use Rattle.history_load.proofs.Causes.{where_as, where_none, cause_since}
use Rattle.history_load.proofs.FileEnds.{cant_end, ends_empty, ends_file, pages_from, with_pages}
use Rattle.history_load.specs.declared.faults.LoadFault.TheVariants.{Disk}
use Rattle.ex_base.proofs.Handed.{not_given}
use Rattle.history_load.proofs.files_at_hand.FilesAtHand.end_file.Goals as goal

pub returns-then-self-eq0-clause-ends : goal.returns-then-self-eq0-clause-ends
returns-then-self-eq0-clause-ends g c = ends_empty c.args.geometry.now (g.D.World.outside c.args.disk.now) (g.D.World.outside c.close.new.disk) c.args.self.now c.close.new.self c.in_ok-close.ensures.closes c.close.ensures.file c.if-self-eq0.true

pub returns-in_err-link_file-clause-bad : goal.returns-in_err-link_file-clause-bad
returns-in_err-link_file-clause-bad g c =
    if_err_handed c.from_residual-in_err-link_file.result (WhereBad (CantEnd c.args.geometry.now (g.D.World.outside c.args.disk.now) c.args.self.now)) c.in_err-link_file.field-0.0 c.from_residual-in_err-link_file.ensures.1
    (where_as (CantLink c.args.geometry.now (g.D.World.outside c.close.new.disk) (with_pages c.args.self.now c.close.new.self)) (CantEnd c.args.geometry.now (g.D.World.outside c.args.disk.now) c.args.self.now) c.in_err-link_file.field-0.0
    (λ cant. cant_end c.args.geometry.now (g.D.World.outside c.args.disk.now) (g.D.World.outside c.close.new.disk) c.args.self.now c.close.new.self c.in_ok-close.ensures.closes c.close.ensures.file cant) c.in_err-link_file.ensures.bad)

pub returns-in_err-index_file-clause-bad : goal.returns-in_err-index_file-clause-bad
returns-in_err-index_file-clause-bad g c =
    if_err_handed c.from_residual-in_err-index_file.result (WhereBad (CantEnd c.args.geometry.now (g.D.World.outside c.args.disk.now) c.args.self.now)) c.in_err-index_file.field-0.0 c.from_residual-in_err-index_file.ensures.1
    (where_none (CantEnd c.args.geometry.now (g.D.World.outside c.args.disk.now) c.args.self.now) c.in_err-index_file.field-0.0 c.in_err-index_file.ensures.no_fault)

pub returns-in_err-link_file-clause-changes : goal.returns-in_err-link_file-clause-changes
returns-in_err-link_file-clause-changes g c =
    changes_trans
    (subst (λ (n : ℕ). ChangesWithin (InPagesFrom c.args.geometry.now n) (g.D.World.outside c.args.disk.now) (g.D.World.outside c.close.new.disk)) c.requires.file.last.first c.close.ensures.changes)
    c.link_file.ensures.changes

pub returns-in_err-index_file-clause-changes : goal.returns-in_err-index_file-clause-changes
returns-in_err-index_file-clause-changes g c =
    let same = c.link_file.ensures.only in
    let first : c.link_file.new.self.pages.first ≡ c.close.new.self.first = ap (λ (p : FilePages). p.first) same.pages in
    changes_trans
    (changes_trans
    (subst (λ (n : ℕ). ChangesWithin (InPagesFrom c.args.geometry.now n) (g.D.World.outside c.args.disk.now) (g.D.World.outside c.close.new.disk)) c.requires.file.last.first c.close.ensures.changes)
    c.link_file.ensures.changes)
    (pages_from c.args.geometry.now (g.D.World.outside c.link_file.new.disk) (g.D.World.outside c.index_file.new.disk) c.args.self.now.next (c.link_file.new.self.pages.first + c.link_file.new.self.pages.written)
    (omega (arith, first, c.close.ensures.file.first, c.requires.file.last.first)) c.index_file.ensures.changes)

pub returns-clause-changes : goal.returns-clause-changes
returns-clause-changes g c =
    let same = c.link_file.ensures.only in
    let first : c.link_file.new.self.pages.first ≡ c.close.new.self.first = ap (λ (p : FilePages). p.first) same.pages in
    changes_trans
    (changes_trans
    (subst (λ (n : ℕ). ChangesWithin (InPagesFrom c.args.geometry.now n) (g.D.World.outside c.args.disk.now) (g.D.World.outside c.close.new.disk)) c.requires.file.last.first c.close.ensures.changes)
    c.link_file.ensures.changes)
    (pages_from c.args.geometry.now (g.D.World.outside c.link_file.new.disk) (g.D.World.outside c.index_file.new.disk) c.args.self.now.next (c.link_file.new.self.pages.first + c.link_file.new.self.pages.written)
    (omega (arith, first, c.close.ensures.file.first, c.requires.file.last.first)) c.index_file.ensures.changes)

pub returns-clause-ends : goal.returns-clause-ends
returns-clause-ends g c =
    let large : volume_bytes c.args.geometry.now ≤ (g.D.World.outside c.link_file.new.disk).size = omega (arith, c.requires.room, c.close.ensures.changes.only.goes.size, c.link_file.ensures.changes.only.goes.size) in
    let written : c.close.new.self.written ≡ pages_filled c.args.self.now = c.in_ok-close.ensures.written in
    let there : c.close.new.self.first + c.close.new.self.written ≤ area_end c.args.geometry.now = omega (arith, c.requires.there, written, c.close.ensures.file.first) in
    ends_file c.args.geometry.now (g.D.World.outside c.args.disk.now) (g.D.World.outside c.close.new.disk) (g.D.World.outside c.link_file.new.disk) (g.D.World.outside c.index_file.new.disk) c.args.self.now c.link_file.new.self c.index_file.new.self c.close.new.self
    (g.D.World.is_world c.link_file.new.disk) large (λ honest. honest_on c.link_file.ensures.changes.only.goes (honest_on c.close.ensures.changes.only.goes honest)) c.in_ok-close.ensures.closes c.close.ensures.file c.requires.file.last.first
    (omega (arith, c.requires.file.last.ready.behind, c.requires.file.last.first, c.close.ensures.file.first)) there c.in_ok-link_file.ensures.linked c.link_file.ensures.only c.in_ok-index_file.ensures.indexes c.index_file.ensures.changes
    c.requires.file.last.places c.requires.file.last.ready.catalog.fits.numbers

-- ---- what else is promised

pub returns-in_err-close-clause-ends : goal.returns-in_err-close-clause-ends
returns-in_err-close-clause-ends g c = not_given c.from_residual.result _ Disk c.from_residual.ensures.1

pub returns-in_err-close-clause-within : goal.returns-in_err-close-clause-within
returns-in_err-close-clause-within g c = not_given c.from_residual.result _ Disk c.from_residual.ensures.1

pub returns-in_err-close-clause-ready : goal.returns-in_err-close-clause-ready
returns-in_err-close-clause-ready g c = not_given c.from_residual.result _ Disk c.from_residual.ensures.1

pub returns-in_err-close-clause-bad : goal.returns-in_err-close-clause-bad
returns-in_err-close-clause-bad g c = if_err_handed c.from_residual.result (WhereBad (CantEnd c.args.geometry.now (g.D.World.outside c.args.disk.now) c.args.self.now)) Disk c.from_residual.ensures.1 tt

pub returns-in_err-close-clause-changes : goal.returns-in_err-close-clause-changes
returns-in_err-close-clause-changes g c = subst (λ (n : ℕ). ChangesWithin (InPagesFrom c.args.geometry.now n) (g.D.World.outside c.args.disk.now) (g.D.World.outside c.close.new.disk)) c.requires.file.last.first c.close.ensures.changes

pub returns-in_err-close-clause-cause : goal.returns-in_err-close-clause-cause
returns-in_err-close-clause-cause g c = if_err_handed c.from_residual.result (LoadCause (g.D.World.outside c.args.disk.now) (g.D.World.outside c.close.new.disk)) Disk c.from_residual.ensures.1 c.in_err-close.ensures.cause

pub returns-then-self-eq0-clause-bad : goal.returns-then-self-eq0-clause-bad
returns-then-self-eq0-clause-bad g c = tt

pub returns-then-self-eq0-clause-changes : goal.returns-then-self-eq0-clause-changes
returns-then-self-eq0-clause-changes g c = subst (λ (n : ℕ). ChangesWithin (InPagesFrom c.args.geometry.now n) (g.D.World.outside c.args.disk.now) (g.D.World.outside c.close.new.disk)) c.requires.file.last.first c.close.ensures.changes

pub returns-then-self-eq0-clause-cause : goal.returns-then-self-eq0-clause-cause
returns-then-self-eq0-clause-cause g c = tt

pub returns-in_err-link_file-clause-ends : goal.returns-in_err-link_file-clause-ends
returns-in_err-link_file-clause-ends g c = not_given c.from_residual-in_err-link_file.result _ c.in_err-link_file.field-0.0 c.from_residual-in_err-link_file.ensures.1

pub returns-in_err-link_file-clause-within : goal.returns-in_err-link_file-clause-within
returns-in_err-link_file-clause-within g c = not_given c.from_residual-in_err-link_file.result _ c.in_err-link_file.field-0.0 c.from_residual-in_err-link_file.ensures.1

pub returns-in_err-link_file-clause-ready : goal.returns-in_err-link_file-clause-ready
returns-in_err-link_file-clause-ready g c = not_given c.from_residual-in_err-link_file.result _ c.in_err-link_file.field-0.0 c.from_residual-in_err-link_file.ensures.1

pub returns-in_err-link_file-clause-cause : goal.returns-in_err-link_file-clause-cause
returns-in_err-link_file-clause-cause g c = if_err_handed c.from_residual-in_err-link_file.result (LoadCause (g.D.World.outside c.args.disk.now) (g.D.World.outside c.link_file.new.disk)) c.in_err-link_file.field-0.0 c.from_residual-in_err-link_file.ensures.1 (cause_since (g.D.World.outside c.args.disk.now) (g.D.World.outside c.close.new.disk) (g.D.World.outside c.link_file.new.disk) c.in_err-link_file.field-0.0 c.close.ensures.changes.only.goes.disk_faults c.close.ensures.changes.only.goes.read_faults c.in_err-link_file.ensures.cause)

pub returns-in_err-index_file-clause-ends : goal.returns-in_err-index_file-clause-ends
returns-in_err-index_file-clause-ends g c = not_given c.from_residual-in_err-index_file.result _ c.in_err-index_file.field-0.0 c.from_residual-in_err-index_file.ensures.1

pub returns-in_err-index_file-clause-within : goal.returns-in_err-index_file-clause-within
returns-in_err-index_file-clause-within g c = not_given c.from_residual-in_err-index_file.result _ c.in_err-index_file.field-0.0 c.from_residual-in_err-index_file.ensures.1

pub returns-in_err-index_file-clause-ready : goal.returns-in_err-index_file-clause-ready
returns-in_err-index_file-clause-ready g c = not_given c.from_residual-in_err-index_file.result _ c.in_err-index_file.field-0.0 c.from_residual-in_err-index_file.ensures.1

pub returns-in_err-index_file-clause-cause : goal.returns-in_err-index_file-clause-cause
returns-in_err-index_file-clause-cause g c = if_err_handed c.from_residual-in_err-index_file.result (LoadCause (g.D.World.outside c.args.disk.now) (g.D.World.outside c.index_file.new.disk)) c.in_err-index_file.field-0.0 c.from_residual-in_err-index_file.ensures.1 (cause_since (g.D.World.outside c.args.disk.now) (g.D.World.outside c.close.new.disk) (g.D.World.outside c.index_file.new.disk) c.in_err-index_file.field-0.0 c.close.ensures.changes.only.goes.disk_faults c.close.ensures.changes.only.goes.read_faults (cause_since (g.D.World.outside c.close.new.disk) (g.D.World.outside c.link_file.new.disk) (g.D.World.outside c.index_file.new.disk) c.in_err-index_file.field-0.0 c.link_file.ensures.changes.only.goes.disk_faults c.link_file.ensures.changes.only.goes.read_faults c.in_err-index_file.ensures.cause))

pub returns-clause-bad : goal.returns-clause-bad
returns-clause-bad g c = tt

pub returns-clause-ready : goal.returns-clause-ready
returns-clause-ready g c = c.in_ok-index_file.ensures.ready

pub returns-clause-cause : goal.returns-clause-cause
returns-clause-cause g c = tt

pub close-requires-clause-room : goal.close-requires-clause-room
close-requires-clause-room g c = c.requires.room

pub close-requires-clause-size : goal.close-requires-clause-size
close-requires-clause-size g c = c.requires.file.last.ready.page_size

pub close-requires-clause-behind : goal.close-requires-clause-behind
close-requires-clause-behind g c = omega (arith, c.requires.file.last.ready.behind, c.requires.file.last.first)

pub close-requires-clause-page : goal.close-requires-clause-page
close-requires-clause-page g c = c.requires.file.page

pub link_file-requires-clause-room : goal.link_file-requires-clause-room
link_file-requires-clause-room g c = omega (arith, c.requires.room, c.close.ensures.changes.only.goes.size)

pub index_file-requires-clause-room : goal.index_file-requires-clause-room
index_file-requires-clause-room g c = omega (arith, c.requires.room, c.close.ensures.changes.only.goes.size, c.link_file.ensures.changes.only.goes.size)

pub link_file-requires-clause-file : goal.link_file-requires-clause-file
link_file-requires-clause-file g c =
    let last = c.requires.file.last in
    let same = c.close.ensures.file in
    record {
      ready = record { catalog = last.ready.catalog; catalog_size = last.ready.catalog_size; page_size = same.size ∙ last.ready.page_size; behind = last.ready.behind; desk = last.ready.desk };
      number = subst (λ (n : ℕ). Contains (numbers_on c.args.self.now.catalog.items) n) (sym same.file_no) last.number;
      first = same.first ∙ last.first;
      rising = last.rising;
      places = last.places;
    }
