use Rattle.std.proofs.Common.{ℕ, arith, inl, inr, ◌≡◌, ◌-◌, ◌≤◌, ◌↔◌, ap}
use Rattle.std.proofs.Math.Dec.{ltb}
use Rattle.std.proofs.lemmas.Bool.{cases_Bool, ltb-true, ltb-false}
use Rattle.trees.proofs.LeafRises.{fit_more, excess}
use Rattle.trees.proofs.wide.wide_leaves_fit.Goals as goal

pub loop-i-preserved : goal.loop-i-preserved
loop-i-preserved c =
    let over : ℕ = c.from.result - c.from-least.result in
    let left : ℕ = excess c.loop-i.before c.from-least.result c.get_u64-count.result in
    let more : (c.from-unfit.result ≤ 1) × ((c.from-unfit.result ≡ 0) ↔ (left ≤ over)) = elim (cases_Bool (ltb over left)) [
      | inl above ↦ let one : c.from-unfit.result ≡ 1 = rw above at c.from-unfit.ensures in (omega (arith, one), (λ none. absurd (omega (arith, one, none)), λ le. absurd (omega (arith, le, ltb-true over left above))))
      | inr within ↦ let none : c.from-unfit.result ≡ 0 = rw within at c.from-unfit.ensures in (omega (arith, none), (λ is. ltb-false over left within, λ le. none))
    ] in
    fit_more c.args.full c.args.n c.loop-i.i c.loop-i.before c.from-least.result over c.get_u64-count.result c.loop-i.unfit c.from-unfit.result c.args.bytes.now c.requires.some c.ranges.full.fits c.requires.few c.loop-i-test.true c.from-least.ensures (ap (λ k. k - c.from-least.result) c.from.ensures) c.get_u64-count.ensures (omega (arith, c.get_u64-count.type_inv)) more.0 more.1 c.loop-i.invariant
