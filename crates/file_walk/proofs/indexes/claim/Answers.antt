use Rattle.std.proofs.Common.{sym, ◌∙◌}
use Rattle.file_walk.proofs.Units.{claimed, adopted}
use Rattle.file_walk.proofs.indexes.claim.Goals as goal

pub returns-clause-claimed : goal.returns-clause-claimed
returns-clause-claimed g c = λ is. claimed c.args.units.now c.adopt.new.self c.args.page.0 (sym c.is_used.ensures ∙ c.if-is_used.false) c.adopt.ensures.used

pub returns-clause-units : goal.returns-clause-units
returns-clause-units g c = adopted c.args.units.now c.adopt.new.self c.args.page.0 c.adopt.ensures.geometry c.adopt.ensures.used c.adopt.ensures.refs c.adopt.ensures.given
