use Rattle.std.proofs.Common.{Option, refl, sym, subst}
use Rattle.script_lines.specs.Lines.{Line}
use Rattle.script_lines.specs.Remains.{Moves}
use Rattle.script_lines.specs.Taking.{Takes}
use Rattle.script_lines.specs.Reader.{ahead, counted}
use Rattle.script_lines.proofs.lines.Lines.next_line.Goals as goal

pub returns : goal.returns
returns g c =
    let old = c.args.self.now in
    let new = c.advance.new.self in
    let ok = c.in_ok-advance.ensures in
    let P : Option Line → Type 0 = λ line. Moves (ahead old) (g.S.World.outside c.args.source.now).left (ahead new) (g.S.World.outside c.advance.new.source).left
    (λ script rest. Takes (counted old) script line (counted new) rest) in (
      (refl, (λ lines. tt), (subst P (sym c.line.ensures) ok.takes, c.advance.ensures.drawn)),
      record { takes = tt; only = ok.only; read = λ bad. cc; too_much = λ bad. cc; not_cut = ok.not_cut },
    )
