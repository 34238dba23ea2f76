use Rattle.std.proofs.Common.{◌∙◌, ℕ, List, refl, sym, ap, subst, arith}
use Rattle.std.proofs.lemmas.List.{drop_all, drop_more}
use Rattle.std.specs.Prelude.{slice_index_or}
use Rattle.ex_base.specs.declared.geometry.Geometry.{Geometry}
use Rattle.ex_base.specs.Area.{catalog_no}
use Rattle.page_alloc.specs.UnitSet.{used_at}
use Rattle.file_index.specs.IndexPage.{entries_on}
use Rattle.file_index.specs.Index.{IsNamed}
use Rattle.file_walk.specs.Indexes.{AddsIndex, AddsPages, IsFreeIndex}
use Rattle.file_walk.proofs.Lists.{on_some}
use Rattle.ex_base.proofs.Keeping.{keeps_on, same_geometry}
use Rattle.ex_base.proofs.Options.{at_none, at_some}
use Rattle.file_walk.proofs.Units.{units_on, tells_on, cause_on}
use Rattle.file_walk.proofs.Walking.{adds_number, adds_index_page, adds_on, not_named, walk_starts, walk_steps, walk_ends, walk_fails, WalkedTo, child_of}
use Rattle.file_walk.proofs.indexes.+walk_under.Goals as goal

pub returns-then-named-eq0-clause-pages : goal.returns-then-named-eq0-clause-pages
returns-then-named-eq0-clause-pages g t c = λ is.
    adds_number (g.P.Ground.geometry c.args.pages.now) c.args.units.now c.claim.new.units c.args.walked.now _ c.args.named.page (c.if-not-claim.ensures.claimed refl) (c.if-not-claim.ensures.area refl).0 c.in_ok-put.ensures refl

pub returns-in_default-clause-bad : goal.returns-in_default-clause-bad
returns-in_default-clause-bad g t c = λ e images told free.
    not_named (g.P.Ground.geometry c.args.pages.now) images (used_at c.args.units.now) c.args.named c.if-named-eq0.false (λ here.
    at_none c.in_ok-entries.field-0 _ c.in_default.is c.in_ok-entries.ensures.none told.tells
    (subst (λ (page : List ℕ). IsNamed (g.P.Ground.geometry c.args.pages.now).page_size page c.args.named.level c.args.named.file_no c.args.named.least) (told.same c.args.named.page.0 (c.if-not-claim.ensures.area refl).0) here)) free

pub loop-entry-init : goal.loop-entry-init
loop-entry-init g t c = record {
  kept = c.entries_at.ensures.kept;
  units = c.claim.ensures.units;
  pages = adds_index_page (g.P.Ground.geometry c.args.pages.now) c.args.units.now c.claim.new.units c.args.walked.now _ c.args.named.page (c.if-not-claim.ensures.claimed refl) (c.if-not-claim.ensures.area refl).0 refl c.in_ok-put-2.ensures;
  told = λ images told.
      let same = told.same c.args.named.page.0 (c.if-not-claim.ensures.area refl).0 in
      walk_starts (g.P.Ground.geometry c.args.pages.now) images c.args.named c.args.walked.now _ c.deref-entry-items.result.now c.if-named-eq0.false
      (subst (λ (page : List ℕ). IsNamed (g.P.Ground.geometry c.args.pages.now).page_size page c.args.named.level c.args.named.file_no c.args.named.least) (sym same) (on_some c.in_ok-entries.field-0 c.in-Some.entries _ c.in-Some.is c.in_ok-entries.ensures.some told.tells))
      (c.deref-entry-items.ensures.value ∙ at_some c.in_ok-entries.field-0 c.in-Some.entries _ c.in-Some.is c.in_ok-entries.ensures.entries told.tells ∙ ap entries_on (sym same))
      refl c.in_ok-put-2.ensures;
}

pub walk_under-requires : goal.walk_under-requires
walk_under-requires g t c = λ κs le. (
  omega (arith, c.decreases),
  (
    le,
    (
      g.P.Ground.leads_ready c.args.pages.now c.loop-entry.pages c.loop-entry.invariant.kept.leads c.requires.ready,
      (
        c.loop-entry.invariant.units.geometry ∙ c.requires.geometry ∙ sym (same_geometry g.P.Ground c.args.pages.now c.loop-entry.pages c.loop-entry.invariant.kept),
        c.loop-entry.invariant.units.used catalog_no c.requires.catalog,
      ),
    ),
  ),
)

pub returns-in-Err-clause-units : goal.returns-in-Err-clause-units
returns-in-Err-clause-units g t c = units_on c.args.units.now c.loop-entry.units c.walk_under.new.units c.loop-entry.invariant.units c.walk_under.ensures.units

pub returns-in-Err-clause-kept : goal.returns-in-Err-clause-kept
returns-in-Err-clause-kept g t c = keeps_on g.P.Ground c.args.pages.now c.loop-entry.pages c.walk_under.new.pages c.loop-entry.invariant.kept c.walk_under.ensures.kept

pub returns-in-Err-clause-cause : goal.returns-in-Err-clause-cause
returns-in-Err-clause-cause g t c = cause_on g.P.Ground c.args.pages.now c.loop-entry.pages (g.P.Ground.faults c.walk_under.new.pages) c.in-Err.fault c.loop-entry.invariant.kept c.in-Err.ensures.cause

pub returns-then-not-whole-clause-bad : goal.returns-then-not-whole-clause-bad
returns-then-not-whole-clause-bad g t c = λ e images told free.
    let geo = same_geometry g.P.Ground c.args.pages.now c.loop-entry.pages c.loop-entry.invariant.kept in
    walk_fails (g.P.Ground.geometry c.args.pages.now) images c.args.named c.args.walked.now c.args.units.now c.loop-entry.units c.loop-entry.walked _ _ c.if-named-eq0.false
    (subst (WalkedTo (g.P.Ground.geometry c.args.pages.now) images c.args.named c.args.walked.now c.loop-entry.walked) (drop_more c.deref-entry-items.result.now c.loop-entry.entry-index (record { key = 0; page = record { 0 = 0 } }) c.loop-entry-test.true) (c.loop-entry.invariant.told images told))
    c.loop-entry.invariant.pages
    (λ child. c.in-Ok.ensures.bad c.if-not-whole.true images (tells_on g.P.Ground c.args.pages.now c.loop-entry.pages images c.loop-entry.invariant.kept told)
    (subst (λ (y : Geometry). IsFreeIndex y images (used_at c.loop-entry.units) (child_of c.args.named (slice_index_or c.deref-entry-items.result.now c.loop-entry.entry-index (record { key = 0; page = record { 0 = 0 } })))) (sym geo) child)) free

pub returns-then-not-whole-clause-units : goal.returns-then-not-whole-clause-units
returns-then-not-whole-clause-units g t c = units_on c.args.units.now c.loop-entry.units c.walk_under.new.units c.loop-entry.invariant.units c.walk_under.ensures.units

pub returns-then-not-whole-clause-kept : goal.returns-then-not-whole-clause-kept
returns-then-not-whole-clause-kept g t c = keeps_on g.P.Ground c.args.pages.now c.loop-entry.pages c.walk_under.new.pages c.loop-entry.invariant.kept c.walk_under.ensures.kept

pub loop-entry-preserved : goal.loop-entry-preserved
loop-entry-preserved g t c =
    let geo = same_geometry g.P.Ground c.args.pages.now c.loop-entry.pages c.loop-entry.invariant.kept in
    record {
      kept = keeps_on g.P.Ground c.args.pages.now c.loop-entry.pages c.walk_under.new.pages c.loop-entry.invariant.kept c.walk_under.ensures.kept;
      units = units_on c.args.units.now c.loop-entry.units c.walk_under.new.units c.loop-entry.invariant.units c.walk_under.ensures.units;
      pages = adds_on (g.P.Ground.geometry c.args.pages.now) c.args.units.now c.loop-entry.units c.walk_under.new.units c.args.walked.now c.loop-entry.walked c.walk_under.new.walked c.loop-entry.invariant.pages
          (subst (λ (y : Geometry). AddsPages y c.loop-entry.units c.walk_under.new.units c.loop-entry.walked c.walk_under.new.walked) geo (c.in-Ok.ensures.pages c.if-not-whole.false));
      told = λ images told.
          walk_steps (g.P.Ground.geometry c.args.pages.now) images c.args.named c.args.walked.now c.loop-entry.walked c.walk_under.new.walked _ _
          (subst (WalkedTo (g.P.Ground.geometry c.args.pages.now) images c.args.named c.args.walked.now c.loop-entry.walked) (drop_more c.deref-entry-items.result.now c.loop-entry.entry-index (record { key = 0; page = record { 0 = 0 } }) c.loop-entry-test.true) (c.loop-entry.invariant.told images told))
          (subst (λ (y : Geometry). AddsIndex y images (child_of c.args.named (slice_index_or c.deref-entry-items.result.now c.loop-entry.entry-index (record { key = 0; page = record { 0 = 0 } }))) c.loop-entry.walked c.walk_under.new.walked) geo (c.in-Ok.ensures.added c.if-not-whole.false images (tells_on g.P.Ground c.args.pages.now c.loop-entry.pages images c.loop-entry.invariant.kept told)));
    }

pub returns-clause-added : goal.returns-clause-added
returns-clause-added g t c = λ e images told.
    walk_ends (g.P.Ground.geometry c.args.pages.now) images c.args.named c.args.walked.now c.loop-entry.walked c.if-named-eq0.false (c.if-not-claim.ensures.area refl)
    (subst (WalkedTo (g.P.Ground.geometry c.args.pages.now) images c.args.named c.args.walked.now c.loop-entry.walked) (drop_all c.loop-entry.entry-index c.deref-entry-items.result.now c.loop-entry-test.false) (c.loop-entry.invariant.told images told))

pub returns-clause-pages : goal.returns-clause-pages
returns-clause-pages g t c = λ e. c.loop-entry.invariant.pages

pub returns-clause-units : goal.returns-clause-units
returns-clause-units g t c = c.loop-entry.invariant.units

pub returns-clause-kept : goal.returns-clause-kept
returns-clause-kept g t c = c.loop-entry.invariant.kept
