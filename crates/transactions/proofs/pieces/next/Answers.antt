use Rattle.std.proofs.Common.{◌∙◌, ℕ, Option, subst, sym, refl}
use Rattle.transactions.proofs.ScanLines.{next_line, next_refused, next_stopped, fills_own}
use Rattle.std.specs.Prelude.{IfSome}
use Rattle.open_scans.specs.OpenScans.{AtRow, HasSoundRest, position_of}
use Rattle.session_core.specs.Damage.{units_on}
use Rattle.transactions.proofs.pieces.next.Goals as goal

pub returns-in-None-clause-line : goal.returns-in-None-clause-line
returns-in-None-clause-line g c = next_refused c.args.name.now c.args.len c.scan_index.ensures.session (sym c.in-None.ensures.value)

pub returns-in-Ok-clause-line : goal.returns-in-Ok-clause-line
returns-in-Ok-clause-line g c = next_line c.args.name.now c.args.len c.in-Some.index c.scan_index.ensures.session (sym c.in-Some.ensures.value) c.requires.form c.of.result (record {
  only = c.next_piece.ensures.only;
  moved = c.in-Ok.ensures.moved;
  bytes = λ before same now row at. c.of.ensures ∙ c.in-Ok.ensures.bytes before same now row at;
})

pub returns-in-Err-clause-line : goal.returns-in-Err-clause-line
returns-in-Err-clause-line g c = next_stopped c.args.name.now c.args.len c.in-Some.index c.scan_index.ensures.session (sym c.in-Some.ensures.value) c.requires.form c.in-Err.stop c.next_piece.ensures.only c.in-Err.ensures.stays c.in-Err.ensures.stops c.in-Err.ensures.sound

pub returns-in-Ok-clause-way : goal.returns-in-Ok-clause-way
returns-in-Ok-clause-way g c = λ tells. record {
  way = λ oid none inside. absurd none;
  read = subst (λ (index : Option ℕ). IfSome index (λ index. AtRow c.args.session.now.scans index (λ row. HasSoundRest c.args.session.now.geometry (units_on (g.H.World.outside c.args.host.now) c.args.session.now) c.args.len (position_of row.scan))))
      c.in-Some.ensures.value (c.in-Ok.ensures.way tells);
}

pub returns-in-None-clause-way : goal.returns-in-None-clause-way
returns-in-None-clause-way g c = λ tells. record { way = λ oid none inside. absurd none; read = tt }

pub returns-in-None-clause-others : goal.returns-in-None-clause-others
returns-in-None-clause-others g c index at row here other apart = refl

pub returns-in-Ok-clause-others : goal.returns-in-Ok-clause-others
returns-in-Ok-clause-others g c = fills_own c.args.session.now c.next_piece.new.self c.args.name.now c.in-Some.index (sym c.in-Some.ensures.value) c.next_piece.ensures.others

pub returns-in-Err-clause-others : goal.returns-in-Err-clause-others
returns-in-Err-clause-others g c = fills_own c.args.session.now c.next_piece.new.self c.args.name.now c.in-Some.index (sym c.in-Some.ensures.value) c.next_piece.ensures.others
