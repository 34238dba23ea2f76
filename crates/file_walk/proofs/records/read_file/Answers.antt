use Rattle.std.proofs.Common.{true≢false, ◌+◌, List, drop, sym, subst}
use Rattle.std.proofs.lemmas.List.{drop_all, drop_more}
use Rattle.std.specs.Prelude.{slice_index_or}
use Rattle.std.specs.List.{AllByRecursion}
use Rattle.ex_base.specs.declared.names.PageNo.{PageNo}
use Rattle.ex_base.specs.Area.{InPageArea}
use Rattle.ex_base.specs.Order.{Rising}
use Rattle.object_files.specs.Reads.{entry_of}
use Rattle.file_walk.specs.declared.records.Standing.{Standing}
use Rattle.file_walk.specs.Walk.{page_numbers}
use Rattle.file_walk.specs.Records.{IsPageOf, IsGoodRow, AddsRows, rows_among}
use Rattle.file_walk.proofs.Lists.{on_some}
use Rattle.file_walk.proofs.Order.{StandsTo, stands_none, stands_step}
use Rattle.file_walk.proofs.Reading.{PagesTo, pages_start, pages_good, pages_bad}
use Rattle.file_walk.proofs.Rows.{rows_end}
use Rattle.ex_base.proofs.Keeping.{keeps_on, keeps_refl}
use Rattle.ex_base.proofs.Options.{at_none, at_some}
use Rattle.file_walk.proofs.Units.{tells_on}
use Rattle.file_walk.proofs.records.read_file.Goals as goal

pub returns-in-Ok-None-clause-none : goal.returns-in-Ok-None-clause-none
returns-in-Ok-None-clause-none g c = λ images told all.
    let to = subst (λ (t : List PageNo). PagesTo images (entry_of c.args.entry.now) c.loop-page.good c.args.records.now.items c.loop-page.records.items (page_numbers c.deref-page-items.result.now) (page_numbers t))
    (drop_more c.deref-page-items.result.now c.loop-page.page-index (record { 0 = 0 }) c.loop-page-test.true) (c.loop-page.invariant.told images told) in
    at_none c.in-Ok-None.field-0 _ c.in-Ok-None.field-0-is c.in-Ok-None.ensures.none images (tells_on g.P.Ground c.args.pages.now c.loop-page.pages images c.loop-page.invariant.kept told)
    (to.rest (subst (λ (t : List PageNo). AllByRecursion (IsPageOf images (entry_of c.args.entry.now)) (page_numbers t)) (sym c.deref-page-items.ensures.value) all)).0

pub loop-page-preserved-then-page_good : goal.loop-page-preserved-then-page_good
loop-page-preserved-then-page_good g c = record {
  kept = keeps_on g.P.Ground c.args.pages.now c.loop-page.pages c.read_page.new.pages c.loop-page.invariant.kept c.read_page.ensures.kept;
  area = (subst (λ (t : List PageNo). AllByRecursion (InPageArea (g.P.Ground.geometry c.args.pages.now)) (page_numbers t)) (drop_more c.deref-page-items.result.now c.loop-page.page-index (record { 0 = 0 }) c.loop-page-test.true) c.loop-page.invariant.area).1;
  roots = λ is rooted. at_some c.in-Ok-Some.field-0 c.in-Ok-Some.page_good _ c.in-Ok-Some.field-0-is c.in-Ok-Some.ensures.roots c.if-page_good.true (c.loop-page.invariant.roots is rooted);
  order = λ is rising empty.
      stands_step c.loop-page.records.items c.read_page.new.records.items (slice_index_or c.deref-page-items.result.now c.loop-page.page-index (record { 0 = 0 })).0 (page_numbers (drop (c.loop-page.page-index + 1) c.deref-page-items.result.now))
      (subst (λ (t : List PageNo). StandsTo c.loop-page.records.items (page_numbers t)) (drop_more c.deref-page-items.result.now c.loop-page.page-index (record { 0 = 0 }) c.loop-page-test.true) (c.loop-page.invariant.order is rising empty))
      (at_some c.in-Ok-Some.field-0 c.in-Ok-Some.page_good _ c.in-Ok-Some.field-0-is c.in-Ok-Some.ensures.order c.if-page_good.true);
  told = λ images told.
      let mid = tells_on g.P.Ground c.args.pages.now c.loop-page.pages images c.loop-page.invariant.kept told in
      pages_good images (entry_of c.args.entry.now) c.args.records.now.items (page_numbers c.deref-page-items.result.now) c.loop-page.good c.loop-page.records.items c.read_page.new.records.items
      (slice_index_or c.deref-page-items.result.now c.loop-page.page-index (record { 0 = 0 })).0 (page_numbers (drop (c.loop-page.page-index + 1) c.deref-page-items.result.now))
      (subst (λ (t : List PageNo). PagesTo images (entry_of c.args.entry.now) c.loop-page.good c.args.records.now.items c.loop-page.records.items (page_numbers c.deref-page-items.result.now) (page_numbers t))
      (drop_more c.deref-page-items.result.now c.loop-page.page-index (record { 0 = 0 }) c.loop-page-test.true) (c.loop-page.invariant.told images told))
      (on_some c.in-Ok-Some.field-0 c.in-Ok-Some.page_good _ c.in-Ok-Some.field-0-is c.in-Ok-Some.ensures.of_file images mid)
      (at_some c.in-Ok-Some.field-0 c.in-Ok-Some.page_good _ c.in-Ok-Some.field-0-is c.in-Ok-Some.ensures.good c.if-page_good.true images mid);
}

pub loop-page-preserved : goal.loop-page-preserved
loop-page-preserved g c = record {
  kept = keeps_on g.P.Ground c.args.pages.now c.loop-page.pages c.read_page.new.pages c.loop-page.invariant.kept c.read_page.ensures.kept;
  area = (subst (λ (t : List PageNo). AllByRecursion (InPageArea (g.P.Ground.geometry c.args.pages.now)) (page_numbers t)) (drop_more c.deref-page-items.result.now c.loop-page.page-index (record { 0 = 0 }) c.loop-page-test.true) c.loop-page.invariant.area).1;
  roots = λ is rooted. absurd (true≢false (sym is));
  order = λ is. absurd (true≢false (sym is));
  told = λ images told.
      let mid = tells_on g.P.Ground c.args.pages.now c.loop-page.pages images c.loop-page.invariant.kept told in
      pages_bad images (entry_of c.args.entry.now) c.args.records.now.items (page_numbers c.deref-page-items.result.now) c.loop-page.good c.loop-page.records.items c.read_page.new.records.items
      (slice_index_or c.deref-page-items.result.now c.loop-page.page-index (record { 0 = 0 })).0 (page_numbers (drop (c.loop-page.page-index + 1) c.deref-page-items.result.now))
      (subst (λ (t : List PageNo). PagesTo images (entry_of c.args.entry.now) c.loop-page.good c.args.records.now.items c.loop-page.records.items (page_numbers c.deref-page-items.result.now) (page_numbers t))
      (drop_more c.deref-page-items.result.now c.loop-page.page-index (record { 0 = 0 }) c.loop-page-test.true) (c.loop-page.invariant.told images told))
      (on_some c.in-Ok-Some.field-0 c.in-Ok-Some.page_good _ c.in-Ok-Some.field-0-is c.in-Ok-Some.ensures.of_file images mid)
      (at_some c.in-Ok-Some.field-0 c.in-Ok-Some.page_good _ c.in-Ok-Some.field-0-is c.in-Ok-Some.ensures.bad c.if-page_good.false images mid);
}

pub returns-clause-of_file : goal.returns-clause-of_file
returns-clause-of_file g c = λ images told.
    let to = subst (λ (t : List PageNo). PagesTo images (entry_of c.args.entry.now) c.loop-page.good c.args.records.now.items c.loop-page.records.items (page_numbers c.deref-page-items.result.now) (page_numbers t))
    (drop_all c.loop-page.page-index c.deref-page-items.result.now c.loop-page-test.false) (c.loop-page.invariant.told images told) in
    subst (λ (t : List PageNo). AllByRecursion (IsPageOf images (entry_of c.args.entry.now)) (page_numbers t)) c.deref-page-items.ensures.value (to.each tt)

pub returns-clause-good : goal.returns-clause-good
returns-clause-good g c = λ is images told.
    let to = subst (λ (t : List PageNo). PagesTo images (entry_of c.args.entry.now) c.loop-page.good c.args.records.now.items c.loop-page.records.items (page_numbers c.deref-page-items.result.now) (page_numbers t))
    (drop_all c.loop-page.page-index c.deref-page-items.result.now c.loop-page-test.false) (c.loop-page.invariant.told images told) in
    subst (λ (t : List PageNo). AddsRows c.args.records.now.items c.loop-page.records.items (rows_among images (page_numbers t))) c.deref-page-items.ensures.value
    (rows_end c.args.records.now.items c.loop-page.records.items (rows_among images (page_numbers c.deref-page-items.result.now)) (to.gathered.yes is))

pub returns-clause-bad : goal.returns-clause-bad
returns-clause-bad g c = λ isnt images told good.
    (c.loop-page.invariant.told images told).gathered.no isnt (subst (λ (t : List PageNo). AllByRecursion IsGoodRow (rows_among images (page_numbers t))) (sym c.deref-page-items.ensures.value) good)

pub returns-clause-roots : goal.returns-clause-roots
returns-clause-roots g c = c.loop-page.invariant.roots

pub returns-clause-order : goal.returns-clause-order
returns-clause-order g c = λ is rising empty.
    (c.loop-page.invariant.order is (subst (λ (t : List PageNo). Rising (page_numbers t)) (sym c.deref-page-items.ensures.value) rising) empty).stand.order

pub loop-page-init : goal.loop-page-init
loop-page-init g c = record {
  kept = keeps_refl g.P.Ground c.args.pages.now;
  area = subst (λ (t : List PageNo). AllByRecursion (InPageArea (g.P.Ground.geometry c.args.pages.now)) (page_numbers t)) (sym c.deref-page-items.ensures.value) c.requires.area.0;
  roots = λ is rooted. rooted;
  order = λ is rising empty. subst (λ (t : List Standing). StandsTo t (page_numbers c.deref-page-items.result.now)) (sym empty) (stands_none (page_numbers c.deref-page-items.result.now) rising);
  told = λ images told. pages_start images (entry_of c.args.entry.now) c.args.records.now.items (page_numbers c.deref-page-items.result.now);
}
