use Rattle.std.proofs.Common.{◌≡◌, ◌∙◌, false, sym, ap, subst, arith, ◌<◌, ℕ}
use Rattle.std.specs.Option.{option_copied}
use Rattle.page_alloc.specs.UnitSet.{UnitSet, used_at}
use Rattle.volume_model.specs.Shown.{WorkingRow}
use Rattle.session_core.specs.Sessions.{OnlyGives}
use Rattle.session_core.proofs.Settling.{copied_some, row_area}
use Rattle.session_core.proofs.Sweeping.{swept_next}
use Rattle.session_core.proofs.session.settle.sweep.Goals.{in-Some, in_default}
use Rattle.ex_base.specs.declared.geometry.Geometry.{Geometry}
use Rattle.ex_base.specs.Area.{InPageArea}
use Rattle.session_core.proofs.session.settle.sweep.Goals as goal

pub loop-index-preserved : goal.loop-index-preserved
loop-index-preserved c =
    let meta = c.args.meta.now in
    let rows = c.touched-index-end.ensures.rows in
    elim c.match-touched_at.branch [
      | in-Some w ↦
          let row : WorkingRow = (w.in-Some.page.0, option_copied w.in-Some.image) in
          swept_next meta.working c.loop-index.index row c.args.kept.now c.args.units.now c.loop-index.units c.match-touched_at.units
          w.is_some.result w.get-flag.result rows.working_rising w.in-Some.ensures (w.is_some.ensures ∙ copied_some w.in-Some.image) (w.get-flag.ensures false)
          c.loop-index.invariant
          (subst (λ (u : UnitSet). OnlyGives (λ unit. (unit ≡ row.0) × (w.is_some.result ≡ false) × (w.get-flag.result ≡ false) → ⊥) c.loop-index.units u) (sym w.units-is) w.sweep_page.ensures.units)
          (λ none off unnamed. ap (λ (u : UnitSet). used_at u row.0) w.units-is ∙ w.sweep_page.ensures.freed none off unnamed)
      | in_default w ↦ absurd (omega (arith, w.in_default.ensures, c.loop-index-test.true, c.touched-index-end.ensures.value))
    ]

pub sweep_page-requires : goal.sweep_page-requires
sweep_page-requires c =
    subst (λ (h : Geometry). InPageArea h c.in-Some.page.0) (sym (c.loop-index.invariant.units.geometry ∙ c.requires.geometry))
    (row_area c.args.meta.now c.touched-index-end.ensures.rows c.loop-index.index c.in-Some.page.0 _ c.in-Some.ensures)

pub get-flag-requires : goal.get-flag-requires
get-flag-requires c = subst (λ (n : ℕ). c.in-Some.page.0 < n) (sym (c.requires.flags)) (row_area c.args.meta.now c.touched-index-end.ensures.rows c.loop-index.index c.in-Some.page.0 _ c.in-Some.ensures).1
