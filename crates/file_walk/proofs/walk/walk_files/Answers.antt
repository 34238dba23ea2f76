use Rattle.std.proofs.Common.{◌≡◌, ℕ, Bool, List, [], sym, ap, subst, ◌∙◌}
use Rattle.std.specs.List.{AllZip, flat_map, AllByRecursion}
use Rattle.ex_base.specs.Area.{catalog_no, InPageArea}
use Rattle.ex_base.proofs.Options.{at_none, at_some}
use Rattle.session_views.specs.declared.part.Part.TheVariants.{File, Page, Body}
use Rattle.session_views.specs.declared.opener.OpenFault.TheVariants.{Disk}
use Rattle.file_walk.specs.declared.Found.{Found}
use Rattle.file_walk.specs.declared.indexes.FilePages.{FilePages}
use Rattle.file_walk.specs.Indexes.{walked_pages}
use Rattle.file_walk.specs.Parts.{IsBadFiles}
use Rattle.file_walk.specs.Records.{AddsFiles, AreFilePages, HasRootFields, IsGoodFile, files_rows}
use Rattle.file_walk.specs.Walk.{IsCause, page_numbers}
use Rattle.file_walk.proofs.Lists.{on_some}
use Rattle.file_walk.proofs.Parts.{bad_file, bad_page, bad_body, has_walked, used_are}
use Rattle.file_walk.proofs.Walking.{pages_inside}
use Rattle.file_walk.proofs.Units.{tells_on, cause_on}
use Rattle.file_walk.proofs.walk.walk_files.Goals as goal

pub walk_indexes-requires-clause-catalog : goal.walk_indexes-requires-clause-catalog
walk_indexes-requires-clause-catalog g c = ap (λ (f : ℕ → Bool). f catalog_no) c.requires.fresh

pub returns-in-Ok-None-clause-bad : goal.returns-in-Ok-None-clause-bad
returns-in-Ok-None-clause-bad g c = λ part is images told.
    let same : File ≡ part = cc in
    subst (IsBadFiles (g.P.Ground.geometry c.args.pages.now) images c.args.catalog.now.entries) same
    (bad_file (g.P.Ground.geometry c.args.pages.now) images c.args.units.now c.args.catalog.now.entries c.requires.fresh (at_none c.in-Ok-None.field-0 _ c.in-Ok-None.field-0-is c.in-Ok-None.ensures.bad images told))

pub returns-in-Err-clause-disk : goal.returns-in-Err-clause-disk
returns-in-Err-clause-disk g c = λ is.
    let same : c.open_fault.result ≡ Disk = cc in
    subst (IsCause (g.P.Ground.faults c.args.pages.now) (g.P.Ground.faults c.walk_indexes.new.pages)) same (c.open_fault.ensures.cause (g.P.Ground.faults c.args.pages.now) (g.P.Ground.faults c.walk_indexes.new.pages) c.in-Err.ensures.cause)

pub returns-in-Ok-None-read_files-clause-bad : goal.returns-in-Ok-None-read_files-clause-bad
returns-in-Ok-None-read_files-clause-bad g c = λ part is images told.
    let same : Page ≡ part = cc in
    subst (IsBadFiles (g.P.Ground.geometry c.args.pages.now) images c.args.catalog.now.entries) same
    (bad_page (g.P.Ground.geometry c.args.pages.now) images c.args.units.now c.walk_indexes.new.units c.args.catalog.now.entries c.in-Ok-Some.files.items
    (at_some c.in-Ok-Some.field-0 c.in-Ok-Some.files _ c.in-Ok-Some.field-0-is c.in-Ok-Some.ensures.walked images told)
    (at_some c.in-Ok-Some.field-0 c.in-Ok-Some.files _ c.in-Ok-Some.field-0-is c.in-Ok-Some.ensures.used)
    (λ pages. at_none c.in-Ok-None-read_files.field-0 _ c.in-Ok-None-read_files.field-0-is c.in-Ok-None-read_files.ensures.none images (tells_on g.P.Ground c.args.pages.now c.walk_indexes.new.pages images c.walk_indexes.ensures.kept told)
    (subst (AllZip (AreFilePages images) c.args.catalog.now.entries) (sym c.deref.ensures.value) pages)))

pub returns-in-Err-read_files-clause-disk : goal.returns-in-Err-read_files-clause-disk
returns-in-Err-read_files-clause-disk g c = λ is.
    let same : c.open_fault-in-Err-read_files.result ≡ Disk = cc in
    subst (IsCause (g.P.Ground.faults c.args.pages.now) (g.P.Ground.faults c.read_files.new.pages)) same
    (c.open_fault-in-Err-read_files.ensures.cause (g.P.Ground.faults c.args.pages.now) (g.P.Ground.faults c.read_files.new.pages)
    (cause_on g.P.Ground c.args.pages.now c.walk_indexes.new.pages (g.P.Ground.faults c.read_files.new.pages) c.in-Err-read_files.fault c.walk_indexes.ensures.kept c.in-Err-read_files.ensures.cause))

pub returns-then-not-good-clause-bad : goal.returns-then-not-good-clause-bad
returns-then-not-good-clause-bad g c = λ part is images told.
    let same : Body ≡ part = cc in
    let mid = tells_on g.P.Ground c.args.pages.now c.walk_indexes.new.pages images c.walk_indexes.ensures.kept told in
    subst (IsBadFiles (g.P.Ground.geometry c.args.pages.now) images c.args.catalog.now.entries) same
    (bad_body (g.P.Ground.geometry c.args.pages.now) images c.args.units.now c.walk_indexes.new.units c.args.catalog.now.entries c.in-Ok-Some.files.items
    (at_some c.in-Ok-Some.field-0 c.in-Ok-Some.files _ c.in-Ok-Some.field-0-is c.in-Ok-Some.ensures.walked images told)
    (at_some c.in-Ok-Some.field-0 c.in-Ok-Some.files _ c.in-Ok-Some.field-0-is c.in-Ok-Some.ensures.used)
    (subst (AllZip (AreFilePages images) c.args.catalog.now.entries) c.deref.ensures.value (on_some c.in-Ok-Some-read_files.field-0 c.in-Ok-Some-read_files.good _ c.in-Ok-Some-read_files.field-0-is c.in-Ok-Some-read_files.ensures.of_files images mid))
    (λ rows. at_some c.in-Ok-Some-read_files.field-0 c.in-Ok-Some-read_files.good _ c.in-Ok-Some-read_files.field-0-is c.in-Ok-Some-read_files.ensures.bad c.if-not-good.true images mid
    (subst (λ (fs : List FilePages). AllByRecursion IsGoodFile (files_rows images fs)) (sym c.deref.ensures.value) rows)))

pub returns-in-Ok-clause-walked : goal.returns-in-Ok-clause-walked
returns-in-Ok-clause-walked g c = λ images told.
    let mid = tells_on g.P.Ground c.args.pages.now c.walk_indexes.new.pages images c.walk_indexes.ensures.kept told in
    let rows = at_some c.in-Ok-Some-read_files.field-0 c.in-Ok-Some-read_files.good _ c.in-Ok-Some-read_files.field-0-is c.in-Ok-Some-read_files.ensures.good c.if-not-good.false images mid in
    has_walked (g.P.Ground.geometry c.args.pages.now) images c.args.units.now c.walk_indexes.new.units c.args.catalog.now.entries c.in-Ok-Some.files.items (record { pages = c.in-Ok.pages; records = c.read_files.new.found })
    (at_some c.in-Ok-Some.field-0 c.in-Ok-Some.files _ c.in-Ok-Some.field-0-is c.in-Ok-Some.ensures.walked images told)
    (at_some c.in-Ok-Some.field-0 c.in-Ok-Some.files _ c.in-Ok-Some.field-0-is c.in-Ok-Some.ensures.used)
    (subst (AllZip (AreFilePages images) c.args.catalog.now.entries) c.deref.ensures.value (on_some c.in-Ok-Some-read_files.field-0 c.in-Ok-Some-read_files.good _ c.in-Ok-Some-read_files.field-0-is c.in-Ok-Some-read_files.ensures.of_files images mid))
    (subst (λ (fs : List FilePages). AddsFiles [] c.read_files.new.found.items (files_rows images fs)) c.deref.ensures.value
    (subst (λ (old : List Found). AddsFiles old c.read_files.new.found.items (files_rows images c.deref.result.now)) c.new-records.ensures.items rows))
    (c.in-Ok.ensures ∙ ap (flat_map walked_pages) c.deref-2.ensures.value)

pub returns-in-Ok-clause-used : goal.returns-in-Ok-clause-used
returns-in-Ok-clause-used g c =
    used_are c.args.units.now c.walk_indexes.new.units (flat_map walked_pages c.in-Ok-Some.files.items) (page_numbers c.in-Ok.pages.items)
    (at_some c.in-Ok-Some.field-0 c.in-Ok-Some.files _ c.in-Ok-Some.field-0-is c.in-Ok-Some.ensures.used) (c.in-Ok.ensures ∙ ap (flat_map walked_pages) c.deref-2.ensures.value)

pub returns-in-Ok-clause-roots : goal.returns-in-Ok-clause-roots
returns-in-Ok-clause-roots g c =
    at_some c.in-Ok-Some-read_files.field-0 c.in-Ok-Some-read_files.good _ c.in-Ok-Some-read_files.field-0-is c.in-Ok-Some-read_files.ensures.roots c.if-not-good.false (subst (AllByRecursion HasRootFields) (sym c.new-records.ensures.items) tt)

pub returns-in-Ok-clause-area : goal.returns-in-Ok-clause-area
returns-in-Ok-clause-area g c =
    subst (AllByRecursion (InPageArea (g.P.Ground.geometry c.args.pages.now))) (sym (c.in-Ok.ensures ∙ ap (flat_map walked_pages) c.deref-2.ensures.value))
    (pages_inside (g.P.Ground.geometry c.args.pages.now) c.in-Ok-Some.files.items (at_some c.in-Ok-Some.field-0 c.in-Ok-Some.files _ c.in-Ok-Some.field-0-is c.in-Ok-Some.ensures.area))
