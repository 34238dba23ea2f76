use Rattle.std.proofs.Common.{◌≡◌, ◌<◌, ℕ, ◌-◌, ◌+◌, ◌∙◌, sym, ap, subst, arith, rules}
use Rattle.ex_base.specs.Fields.{number_at}
use Rattle.page_entries.specs.Fronts.{ChangesAt, changes_end}
use Rattle.page_entries.proofs.Changes.{no_slots, here_from, says_slots, step_here, step_back, step_end}
use Rattle.page_entries.proofs.grammar.changes_len.Goals as goal
use Rattle.page_entries.proofs.grammar.changes_len.Goals.{then-bytes-lt-CHANGE_HEAD-via-then-bytes-lt-CHANGE_HEAD, then-bytes-lt-CHANGE_HEAD-via-else-bytes-lt-CHANGE_HEAD+then-not-is_zero}

pub returns-then-bytes-lt-CHANGE_HEAD : goal.returns-then-bytes-lt-CHANGE_HEAD
returns-then-bytes-lt-CHANGE_HEAD c = no_slots c.args.size c.args.bytes.now (λ cs rest fits g. elim c.then-bytes-lt-CHANGE_HEAD.branch [
  | then-bytes-lt-CHANGE_HEAD-via-then-bytes-lt-CHANGE_HEAD w ↦ absurd (omega (arith, w.if-bytes-lt-CHANGE_HEAD.true, g.long))
  | then-bytes-lt-CHANGE_HEAD-via-else-bytes-lt-CHANGE_HEAD+then-not-is_zero w ↦ let yes = w.is_zero.ensures.1 g.zero_bytes in let not = w.if-not-is_zero.true in cc
])

pub returns-in-None : goal.returns-in-None
returns-in-None c = no_slots c.args.size c.args.bytes.now (λ cs rest fits g.
    c.in-None.ensures (step_here c.args.bytes.now (number_at 2 c.args.bytes.now 4) c.loop-i.i c.loop-i.least c.loop-i.at (omega (arith, c.loop-i-test.true, c.get_u16-i-end.ensures)) (c.loop-i.invariant.here.0 (here_from c.args.bytes.now rest cs g))).0)

pub loop-i-preserved : goal.loop-i-preserved
loop-i-preserved c =
    let lt : c.loop-i.i < number_at 2 c.args.bytes.now 4 = omega (arith, c.loop-i-test.true, c.get_u16-i-end.ensures) in
    record {
      here = (
        λ h. let step = step_here c.args.bytes.now (number_at 2 c.args.bytes.now 4) c.loop-i.i c.loop-i.least c.loop-i.at lt (c.loop-i.invariant.here.0 h) in
            rw (c.get_u16.ensures, c.in-Some.ensures.1) step.1,
        λ h. c.loop-i.invariant.here.1 (step_back c.args.bytes.now (number_at 2 c.args.bytes.now 4) c.loop-i.i c.loop-i.least c.loop-i.at lt c.in-Some.ensures.0 (rw (← c.get_u16.ensures, ← c.in-Some.ensures.1) h)),
      );
      ends = c.loop-i.invariant.ends ∙ step_end c.args.bytes.now (number_at 2 c.args.bytes.now 4) c.loop-i.i c.loop-i.at lt ∙ ap (changes_end c.args.bytes.now (number_at 2 c.args.bytes.now 4 - (c.loop-i.i + 1))) (sym c.in-Some.ensures.1);
      inside = c.in-Some.ensures.2;
    }

pub returns : goal.returns
returns c =
    let none : number_at 2 c.args.bytes.now 4 - c.loop-i.i ≡ 0 = omega (arith, c.loop-i-test.false, c.get_u16-i-end.ensures) in
    let ends : c.loop-i.at ≡ changes_end c.args.bytes.now (number_at 2 c.args.bytes.now 4) 6 = sym (c.loop-i.invariant.ends ∙ ap (λ (k : ℕ). changes_end c.args.bytes.now k c.loop-i.at) none) in
    says_slots c.args.size c.args.bytes.now c.loop-i.at (λ i. omega (arith, c.type_inv.bytes i)) (omega (arith, c.if-bytes-lt-CHANGE_HEAD.false)) (c.is_zero.ensures.0 (search rules)) ends
    (c.loop-i.invariant.here.1 (subst (λ (k : ℕ). ChangesAt c.args.bytes.now c.loop-i.least k c.loop-i.at) (sym none) tt))
