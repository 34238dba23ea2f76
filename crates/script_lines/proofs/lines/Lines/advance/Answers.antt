use Rattle.std.proofs.Common.{rules}
use Rattle.script_lines.specs.Reader.{counted}
use Rattle.script_lines.proofs.Takings.{cut_clear, takes_uncut}
use Rattle.script_lines.proofs.lines.Lines.advance.Goals as goal

pub returns-in_err-self-clause-too_much : goal.returns-in_err-self-clause-too_much
returns-in_err-self-clause-too_much g c = λ same.
    let clear = c.in_err-self.ensures.clear (search rules) in
    record { each = λ script r. cut_clear (counted c.args.self.now) script (clear.each script r) }

pub returns-clause-not_cut : goal.returns-clause-not_cut
returns-clause-not_cut g c =
    let old = c.args.self.now in
    let new = c.next.new.self in
    record {
      each = λ script r. let takes = c.in_ok-self.ensures.takes.each script r in takes_uncut (counted old) script _ new.allowed takes.0 takes.2;
    }
