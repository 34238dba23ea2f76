use Rattle.std.proofs.Common.{refl, sym, ◌∙◌, arith}
use Rattle.page_entries.proofs.Numbers.{number_in, number_not_in}
use Rattle.page_entries.proofs.file_grammar.is_removed.Goals as goal

pub returns-then-get_u32-number : goal.returns-then-get_u32-number
returns-then-get_u32-number c = (λ yes. number_in c.args.fields.now c.args.n c.loop-i.i c.args.number c.loop-i-test.true (sym c.get_u32.ensures ∙ c.if-get_u32-number.true), λ here. refl)

pub returns : goal.returns
returns c = (λ yes. absurd cc, λ here. absurd (number_not_in c.args.fields.now c.args.n c.args.number (λ k lt. c.loop-i.invariant k (omega (arith, c.loop-i-test.false))) here))
