use Rattle.std.proofs.Common.{ℕ, ◌+◌, ◌-◌, ◌*◌, ◌≡◌, refl, sym, subst, arith}
use Rattle.file_index.specs.Index.{Rises}
use Rattle.file_index.proofs.Picking.{rises_of, rising_of}
use Rattle.page_entries.specs.Said.{numbers_read}
use Rattle.page_entries.proofs.Numbers.{rise_here, rise_back}
use Rattle.page_entries.proofs.file_grammar.numbers_rise.Goals as goal

pub returns-then-number-least : goal.returns-then-number-least
returns-then-number-least c = (
  λ yes. absurd cc,
  λ rising. let here = rise_here c.args.fields.now c.args.n c.loop-i.i c.loop-i.least c.loop-i-test.true (c.loop-i.invariant.0 (rises_of (numbers_read c.args.fields.now c.args.n 18) rising)) in absurd (omega (arith, here.0, c.get_u32-number.ensures, c.if-number-least.true)),
)

pub loop-i-preserved : goal.loop-i-preserved
loop-i-preserved c = (
  λ all. let here = rise_here c.args.fields.now c.args.n c.loop-i.i c.loop-i.least c.loop-i-test.true (c.loop-i.invariant.0 all) in
      subst (λ (k : ℕ). Rises (k + 1) (numbers_read c.args.fields.now (c.args.n - (c.loop-i.i + 1)) (18 + 4 * (c.loop-i.i + 1)))) (sym c.get_u32-number.ensures) here.1,
  λ left. c.loop-i.invariant.1 (rise_back c.args.fields.now c.args.n c.loop-i.i c.loop-i.least c.loop-i-test.true (omega (arith, c.get_u32-number.ensures, c.if-number-least.false))
      (subst (λ (k : ℕ). Rises (k + 1) (numbers_read c.args.fields.now (c.args.n - (c.loop-i.i + 1)) (18 + 4 * (c.loop-i.i + 1)))) c.get_u32-number.ensures left)),
)

pub returns : goal.returns
returns c =
    let none : c.args.n - c.loop-i.i ≡ 0 = omega (arith, c.loop-i-test.false) in
    (λ yes. rising_of 0 (numbers_read c.args.fields.now c.args.n 18) (c.loop-i.invariant.1 (subst (λ (k : ℕ). Rises c.loop-i.least (numbers_read c.args.fields.now k (18 + 4 * c.loop-i.i))) (sym none) tt)), λ rising. refl)
