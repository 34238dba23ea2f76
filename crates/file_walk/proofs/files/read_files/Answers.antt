use Rattle.std.proofs.Common.{true≢false, sym, ◌+◌, ◌<◌, [], ◌∷◌, length, drop, subst, arith}
use Rattle.std.proofs.lemmas.List.{drop_all}
use Rattle.std.specs.List.{AllByRecursion}
use Rattle.object_files.specs.Reads.{entry_of}
use Rattle.file_walk.specs.Indexes.{HasRisingPages, IsInArea}
use Rattle.file_walk.proofs.Lists.{on_some, drop_get}
use Rattle.file_walk.proofs.Reading.{files_as, files_good, files_bad, files_end}
use Rattle.ex_base.proofs.Keeping.{keeps_on}
use Rattle.ex_base.proofs.Options.{at_none, at_some}
use Rattle.ex_base.proofs.Lists.{drop_item}
use Rattle.file_walk.proofs.Units.{tells_on}
use Rattle.file_walk.proofs.files.read_files.Goals as goal

pub returns-in-Ok-None-clause-none : goal.returns-in-Ok-None-clause-none
returns-in-Ok-None-clause-none g c = λ images told all.
    let lt : c.loop-at.at < length c.args.files.now = omega (arith, c.loop-at-test.true, c.len-at-end.ensures, c.requires.len) in
    let to = files_as images c.loop-at.good c.args.found.now.items c.loop-at.found.items c.args.catalog.now.entries _ (entry_of c.entry-entry.result ∷ drop (c.loop-at.at + 1) c.args.catalog.now.entries) c.args.files.now _ (c.index-files-at.result ∷ drop (c.loop-at.at + 1) c.args.files.now)
    (drop_get c.args.catalog.now.entries c.loop-at.at (entry_of c.entry-entry.result) c.entry-entry.ensures) (drop_item c.args.files.now c.loop-at.at c.index-files-at.result lt c.index-files-at.is) (c.loop-at.invariant.told images told) in
    at_none c.in-Ok-None.field-0 _ c.in-Ok-None.field-0-is c.in-Ok-None.ensures.none images (tells_on g.P.Ground c.args.pages.now c.loop-at.pages images c.loop-at.invariant.kept told) (to.rest all).0

pub loop-at-preserved-then-file_good : goal.loop-at-preserved-then-file_good
loop-at-preserved-then-file_good g c =
    let lt : c.loop-at.at < length c.args.files.now = omega (arith, c.loop-at-test.true, c.len-at-end.ensures, c.requires.len) in
    record {
      kept = keeps_on g.P.Ground c.args.pages.now c.loop-at.pages c.add_file.new.pages c.loop-at.invariant.kept c.add_file.ensures.kept;
      area = (subst (AllByRecursion (IsInArea (g.P.Ground.geometry c.args.pages.now))) (drop_item c.args.files.now c.loop-at.at c.index-files-at.result lt c.index-files-at.is) c.loop-at.invariant.area).1;
      rising = (subst (AllByRecursion HasRisingPages) (drop_item c.args.files.now c.loop-at.at c.index-files-at.result lt c.index-files-at.is) c.loop-at.invariant.rising).1;
      roots = λ is rooted. at_some c.in-Ok-Some.field-0 c.in-Ok-Some.file_good _ c.in-Ok-Some.field-0-is c.in-Ok-Some.ensures.roots c.if-file_good.true (c.loop-at.invariant.roots is rooted);
      told = λ images told.
          let mid = tells_on g.P.Ground c.args.pages.now c.loop-at.pages images c.loop-at.invariant.kept told in
          files_good images c.args.found.now.items c.args.catalog.now.entries c.args.files.now c.loop-at.good c.loop-at.found.items c.add_file.new.found.items (entry_of c.entry-entry.result) (drop (c.loop-at.at + 1) c.args.catalog.now.entries) c.index-files-at.result (drop (c.loop-at.at + 1) c.args.files.now)
          (files_as images c.loop-at.good c.args.found.now.items c.loop-at.found.items c.args.catalog.now.entries _ (entry_of c.entry-entry.result ∷ drop (c.loop-at.at + 1) c.args.catalog.now.entries) c.args.files.now _ (c.index-files-at.result ∷ drop (c.loop-at.at + 1) c.args.files.now)
          (drop_get c.args.catalog.now.entries c.loop-at.at (entry_of c.entry-entry.result) c.entry-entry.ensures) (drop_item c.args.files.now c.loop-at.at c.index-files-at.result lt c.index-files-at.is) (c.loop-at.invariant.told images told))
          (on_some c.in-Ok-Some.field-0 c.in-Ok-Some.file_good _ c.in-Ok-Some.field-0-is c.in-Ok-Some.ensures.of_file images mid)
          (at_some c.in-Ok-Some.field-0 c.in-Ok-Some.file_good _ c.in-Ok-Some.field-0-is c.in-Ok-Some.ensures.good c.if-file_good.true images mid);
    }

pub loop-at-preserved : goal.loop-at-preserved
loop-at-preserved g c =
    let lt : c.loop-at.at < length c.args.files.now = omega (arith, c.loop-at-test.true, c.len-at-end.ensures, c.requires.len) in
    record {
      kept = keeps_on g.P.Ground c.args.pages.now c.loop-at.pages c.add_file.new.pages c.loop-at.invariant.kept c.add_file.ensures.kept;
      area = (subst (AllByRecursion (IsInArea (g.P.Ground.geometry c.args.pages.now))) (drop_item c.args.files.now c.loop-at.at c.index-files-at.result lt c.index-files-at.is) c.loop-at.invariant.area).1;
      rising = (subst (AllByRecursion HasRisingPages) (drop_item c.args.files.now c.loop-at.at c.index-files-at.result lt c.index-files-at.is) c.loop-at.invariant.rising).1;
      roots = λ is rooted. absurd (true≢false (sym is));
      told = λ images told.
          let mid = tells_on g.P.Ground c.args.pages.now c.loop-at.pages images c.loop-at.invariant.kept told in
          files_bad images c.args.found.now.items c.args.catalog.now.entries c.args.files.now c.loop-at.good c.loop-at.found.items c.add_file.new.found.items (entry_of c.entry-entry.result) (drop (c.loop-at.at + 1) c.args.catalog.now.entries) c.index-files-at.result (drop (c.loop-at.at + 1) c.args.files.now)
          (files_as images c.loop-at.good c.args.found.now.items c.loop-at.found.items c.args.catalog.now.entries _ (entry_of c.entry-entry.result ∷ drop (c.loop-at.at + 1) c.args.catalog.now.entries) c.args.files.now _ (c.index-files-at.result ∷ drop (c.loop-at.at + 1) c.args.files.now)
          (drop_get c.args.catalog.now.entries c.loop-at.at (entry_of c.entry-entry.result) c.entry-entry.ensures) (drop_item c.args.files.now c.loop-at.at c.index-files-at.result lt c.index-files-at.is) (c.loop-at.invariant.told images told))
          (on_some c.in-Ok-Some.field-0 c.in-Ok-Some.file_good _ c.in-Ok-Some.field-0-is c.in-Ok-Some.ensures.of_file images mid)
          (at_some c.in-Ok-Some.field-0 c.in-Ok-Some.file_good _ c.in-Ok-Some.field-0-is c.in-Ok-Some.ensures.bad c.if-file_good.false images mid);
    }

pub returns-clause-of_files : goal.returns-clause-of_files
returns-clause-of_files g c = λ images told.
    let to = files_as images c.loop-at.good c.args.found.now.items c.loop-at.found.items c.args.catalog.now.entries _ [] c.args.files.now _ [] (drop_all c.loop-at.at c.args.catalog.now.entries (omega (arith, c.loop-at-test.false, c.len-at-end.ensures)))
    (drop_all c.loop-at.at c.args.files.now (omega (arith, c.loop-at-test.false, c.len-at-end.ensures, c.requires.len))) (c.loop-at.invariant.told images told) in
    to.each tt

pub returns-clause-good : goal.returns-clause-good
returns-clause-good g c = λ is images told.
    let to = files_as images c.loop-at.good c.args.found.now.items c.loop-at.found.items c.args.catalog.now.entries _ [] c.args.files.now _ [] (drop_all c.loop-at.at c.args.catalog.now.entries (omega (arith, c.loop-at-test.false, c.len-at-end.ensures)))
    (drop_all c.loop-at.at c.args.files.now (omega (arith, c.loop-at-test.false, c.len-at-end.ensures, c.requires.len))) (c.loop-at.invariant.told images told) in
    files_end images c.args.found.now.items c.args.catalog.now.entries c.args.files.now c.loop-at.good c.loop-at.found.items [] to is

pub returns-clause-bad : goal.returns-clause-bad
returns-clause-bad g c = λ isnt images told good. (c.loop-at.invariant.told images told).no isnt good

pub returns-clause-roots : goal.returns-clause-roots
returns-clause-roots g c = c.loop-at.invariant.roots
