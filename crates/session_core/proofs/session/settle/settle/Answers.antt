use Rattle.std.proofs.Common.{◌≡◌, ◌∙◌, true, false, sym, ap, subst, arith, ◌<◌, ℕ}
use Rattle.std.specs.Option.{option_copied}
use Rattle.meta_pages.specs.Overlays.{IsWorkingRow}
use Rattle.page_alloc.specs.UnitSet.{UnitSet, used_at}
use Rattle.volume_model.specs.Shown.{WorkingRow}
use Rattle.session_core.specs.Sessions.{OnlyGives, is_kept}
use Rattle.session_core.proofs.Settling.{settled_next, copied_some, at_row, row_area}
use Rattle.session_core.proofs.session.settle.settle.Goals.{in-Some, in_default}
use Rattle.ex_base.specs.declared.geometry.Geometry.{Geometry}
use Rattle.ex_base.specs.Area.{InPageArea}
use Rattle.session_core.proofs.session.settle.settle.Goals as goal

pub loop-index-preserved : goal.loop-index-preserved
loop-index-preserved c =
    let meta = c.args.meta.now in
    let rows = c.touched-index-end.ensures.rows in
    let done = c.loop-index.invariant in
    elim c.match-touched_at.branch [
      | in-Some w ↦
          let row : WorkingRow = (w.in-Some.page.0, option_copied w.in-Some.image) in
          let inside = at_row (IsWorkingRow meta.geometry) meta.working c.loop-index.index row rows.working_pages w.in-Some.ensures in
          settled_next meta.working c.loop-index.index row c.args.kept.now c.loop-index.kept c.match-touched_at.kept c.args.units.now c.loop-index.units c.match-touched_at.units
          w.is_some.result rows.working_rising w.in-Some.ensures
          (omega (arith, inside.0.1, done.kept_len, c.requires.flags))
          (w.is_some.ensures ∙ copied_some w.in-Some.image) done (w.kept-is ∙ w.settle_page.ensures.kept)
          (subst (λ (u : UnitSet). OnlyGives (λ unit. (unit ≡ row.0) × (w.is_some.result ≡ false) × (is_kept c.loop-index.kept unit ≡ true) → ⊥) c.loop-index.units u) (sym w.units-is) w.settle_page.ensures.units)
          (λ none left unnamed. ap (λ (u : UnitSet). used_at u row.0) w.units-is ∙ w.settle_page.ensures.freed none left unnamed)
      | in_default w ↦ absurd (omega (arith, w.in_default.ensures, c.loop-index-test.true, c.touched-index-end.ensures.value))
    ]

pub settle_page-requires-clause-area : goal.settle_page-requires-clause-area
settle_page-requires-clause-area c =
    subst (λ (h : Geometry). InPageArea h c.in-Some.page.0) (sym (c.loop-index.invariant.units.geometry ∙ c.requires.geometry))
    (row_area c.args.meta.now c.touched-index-end.ensures.rows c.loop-index.index c.in-Some.page.0 _ c.in-Some.ensures)

pub settle_page-requires-clause-flag : goal.settle_page-requires-clause-flag
settle_page-requires-clause-flag c = subst (λ (n : ℕ). c.in-Some.page.0 < n) (sym (c.loop-index.invariant.kept_len ∙ c.requires.flags)) (row_area c.args.meta.now c.touched-index-end.ensures.rows c.loop-index.index c.in-Some.page.0 _ c.in-Some.ensures).1
