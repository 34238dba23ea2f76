use Rattle.std.proofs.Common.{◌+◌, [], ◌∷◌, List, length, drop, sym, ap, subst, ◌∙◌, arith, length-append}
use Rattle.std.proofs.lemmas.List.{drop_all}
use Rattle.std.specs.List.{flat_map, AllByRecursion}
use Rattle.ex_base.specs.declared.geometry.Geometry.{Geometry}
use Rattle.ex_base.proofs.Rows.{each-append}
use Rattle.page_alloc.specs.UnitSet.{used_at}
use Rattle.object_files.specs.Catalog.{FileEntry}
use Rattle.object_files.specs.Reads.{entry_of}
use Rattle.file_walk.specs.Indexes.{HasRisingPages, IsWalked, IsInArea, AreFreeIndexes, walked_pages}
use Rattle.file_walk.proofs.Lists.{drop_get}
use Rattle.ex_base.proofs.Keeping.{keeps_on, same_geometry}
use Rattle.ex_base.proofs.Options.{at_none, at_some}
use Rattle.file_walk.proofs.Units.{units_on, tells_on}
use Rattle.file_walk.proofs.Walking.{IndexesTo, indexes_step, indexes_end, indexes_fail, counted_on, pages_push}
use Rattle.file_walk.proofs.indexes.walk_indexes.Goals as goal

pub returns-in-Ok-None-clause-bad : goal.returns-in-Ok-None-clause-bad
returns-in-Ok-None-clause-bad g c = λ images told free.
    let geo = same_geometry g.P.Ground c.args.pages.now c.loop-at.pages c.loop-at.invariant.kept in
    indexes_fail (g.P.Ground.geometry c.args.pages.now) images c.args.catalog.now.entries c.args.units.now c.loop-at.units (entry_of c.entry-entry.result) (drop (c.loop-at.at + 1) c.args.catalog.now.entries) c.loop-at.files.items
    (subst (λ (left : List FileEntry). IndexesTo (g.P.Ground.geometry c.args.pages.now) images c.args.catalog.now.entries left c.loop-at.files.items) (drop_get c.args.catalog.now.entries c.loop-at.at (entry_of c.entry-entry.result) c.entry-entry.ensures) (c.loop-at.invariant.told images told))
    c.loop-at.invariant.counted
    (λ one. at_none c.in-Ok-None.field-0 _ c.in-Ok-None.field-0-is c.in-Ok-None.ensures.bad images (tells_on g.P.Ground c.args.pages.now c.loop-at.pages images c.loop-at.invariant.kept told)
    (subst (λ (y : Geometry). AreFreeIndexes y images (used_at c.loop-at.units) (entry_of c.entry-entry.result ∷ [])) (sym geo) one)) free

pub loop-at-preserved : goal.loop-at-preserved
loop-at-preserved g c =
    let geo = same_geometry g.P.Ground c.args.pages.now c.loop-at.pages c.loop-at.invariant.kept in
    record {
      kept = keeps_on g.P.Ground c.args.pages.now c.loop-at.pages c.walk_index.new.pages c.loop-at.invariant.kept c.walk_index.ensures.kept;
      units = units_on c.args.units.now c.loop-at.units c.walk_index.new.units c.loop-at.invariant.units c.walk_index.ensures.units;
      counted = counted_on c.args.units.now c.loop-at.units c.walk_index.new.units (flat_map walked_pages c.loop-at.files.items) (walked_pages c.in-Ok-Some.file) (flat_map walked_pages c.put.new.items.items) c.loop-at.invariant.counted
          (at_some c.in-Ok-Some.field-0 c.in-Ok-Some.file _ c.in-Ok-Some.field-0-is c.in-Ok-Some.ensures.used)
          (ap (flat_map walked_pages) c.in_ok-put.ensures ∙ pages_push c.loop-at.files.items c.in-Ok-Some.file);
      area = subst (AllByRecursion (IsInArea (g.P.Ground.geometry c.args.pages.now))) (sym c.in_ok-put.ensures)
          (each-append (IsInArea (g.P.Ground.geometry c.args.pages.now)) c.loop-at.files.items (c.in-Ok-Some.file ∷ []) c.loop-at.invariant.area
          (subst (λ (y : Geometry). IsInArea y c.in-Ok-Some.file) geo (at_some c.in-Ok-Some.field-0 c.in-Ok-Some.file _ c.in-Ok-Some.field-0-is c.in-Ok-Some.ensures.area), tt));
      rising = subst (AllByRecursion HasRisingPages) (sym c.in_ok-put.ensures)
          (each-append HasRisingPages c.loop-at.files.items (c.in-Ok-Some.file ∷ []) c.loop-at.invariant.rising
          (at_some c.in-Ok-Some.field-0 c.in-Ok-Some.file _ c.in-Ok-Some.field-0-is c.in-Ok-Some.ensures.rising, tt));
      len = omega (arith, ap length c.in_ok-put.ensures, length-append c.loop-at.files.items (c.in-Ok-Some.file ∷ []), c.loop-at.invariant.len);
      told = λ images told.
          subst (IndexesTo (g.P.Ground.geometry c.args.pages.now) images c.args.catalog.now.entries (drop (c.loop-at.at + 1) c.args.catalog.now.entries)) (sym c.in_ok-put.ensures)
          (indexes_step (g.P.Ground.geometry c.args.pages.now) images c.args.catalog.now.entries (entry_of c.entry-entry.result) (drop (c.loop-at.at + 1) c.args.catalog.now.entries) c.loop-at.files.items c.in-Ok-Some.file
          (subst (λ (left : List FileEntry). IndexesTo (g.P.Ground.geometry c.args.pages.now) images c.args.catalog.now.entries left c.loop-at.files.items) (drop_get c.args.catalog.now.entries c.loop-at.at (entry_of c.entry-entry.result) c.entry-entry.ensures) (c.loop-at.invariant.told images told))
          (subst (λ (y : Geometry). IsWalked y images (entry_of c.entry-entry.result) c.in-Ok-Some.file) geo
          (at_some c.in-Ok-Some.field-0 c.in-Ok-Some.file _ c.in-Ok-Some.field-0-is c.in-Ok-Some.ensures.walked images (tells_on g.P.Ground c.args.pages.now c.loop-at.pages images c.loop-at.invariant.kept told))));
    }

pub returns-clause-walked : goal.returns-clause-walked
returns-clause-walked g c = λ images told.
    indexes_end (g.P.Ground.geometry c.args.pages.now) images c.args.catalog.now.entries c.loop-at.files.items
    (subst (λ (left : List FileEntry). IndexesTo (g.P.Ground.geometry c.args.pages.now) images c.args.catalog.now.entries left c.loop-at.files.items)
    (drop_all c.loop-at.at c.args.catalog.now.entries (omega (arith, c.loop-at-test.false, c.len-at-end.ensures))) (c.loop-at.invariant.told images told))
