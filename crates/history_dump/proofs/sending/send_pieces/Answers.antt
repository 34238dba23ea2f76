use Rattle.std.proofs.Common.{◌≡◌, ◌+◌, ◌-◌, ℕ, Err, length, take, refl, sym, subst, ap, ◌∙◌, arith}
use Rattle.std.proofs.lemmas.List.{length-take}
use Rattle.history_model.specs.Stream.{stream_of}
use Rattle.history_dump.specs.Sending.{IsSending, TellsDamage, dump_fault}
use Rattle.history_dump.specs.declared.fault.DumpFault.{DumpFault}
use Rattle.history_dump.proofs.OutsidesSent.{sends_none, sends_read, sends_sent}
use Rattle.history_dump.proofs.Faults.{damage_told}
use Rattle.history_dump.proofs.Pieces.{HasSent, filled, pieces_end, rest_on, room_on, same_stream, sending_on, sent_all, sent_few, sent_more, sent_none, sent_part}
use Rattle.history_dump.proofs.Results.{err_same, never_ok}
use Rattle.history_dump.proofs.PortShown.{read_sent, rest_sent}
use Rattle.history_dump.proofs.sending.send_pieces.Goals as goal

pub pieces-init : goal.pieces-init
pieces-init g c = record {
  sends = sends_none (g.H.World.outside c.args.host.now) (g.H.World.is_world c.args.host.now);
  rest = refl;
  same = refl;
  ready = c.requires.ready;
  room = c.requires.room;
  long = c.requires.long;
  rests = λ d disk rests. rests;
  given = λ d disk h rests is. sent_none (g.H.World.outside c.args.host.now) c.args.volume.now d.volume h c.args.dumper.now is;
}

pub returns-in-Err-clause-front : goal.returns-in-Err-clause-front
returns-in-Err-clause-front g c = λ d disk h rests is was has.
    let a = g.H.World.outside c.args.host.now in
    let b = g.H.World.outside c.pieces.host in
    let i = c.args.volume.now in
    let n = c.pieces.volume in
    let inv = c.pieces.invariant in
    let so_far = inv.given d disk h rests is in
    sent_few a i d.volume h b (g.H.World.outside c.fill_piece.new.disk) c.pieces.dumper c.pieces.left so_far
    (λ all.
    let here = sending_on a b i n inv.rest inv.sends.disk d.volume h c.pieces.dumper so_far.at so_far.sending in
    let end = subst (λ (k : ℕ). IsSending b n d.volume h c.pieces.dumper k) (all ∙ sym (ap length (same_stream i n h inv.rest))) here in
    absurd (never_ok c.in-Err.fault 0 (c.in-Err.ensures.at_end d disk h (inv.rests d disk rests) end)))
    (let only = c.fill_piece.ensures.keeps.only in only.nothing.only.sent) was has

pub returns-in-Err-clause-sound : goal.returns-in-Err-clause-sound
returns-in-Err-clause-sound g c = λ damage d disk h rests is.
    let a = g.H.World.outside c.args.host.now in
    let b = g.H.World.outside c.pieces.host in
    let inv = c.pieces.invariant in
    let so_far = inv.given d disk h rests is in
    let here = sending_on a b c.args.volume.now c.pieces.volume inv.rest inv.sends.disk d.volume h c.pieces.dumper so_far.at so_far.sending in
    c.in-Err.ensures.sound (damage_told c.in-Err.fault (subst (λ (f : DumpFault). TellsDamage f) c.told_of.ensures damage)) d disk h so_far.at (inv.rests d disk rests) here

pub returns-in-Err-clause-rests : goal.returns-in-Err-clause-rests
returns-in-Err-clause-rests g c = λ d disk rests. c.fill_piece.ensures.keeps.rests d disk (c.pieces.invariant.rests d disk rests)

pub returns-then-len-eq0-clause-only : goal.returns-then-len-eq0-clause-only
returns-then-len-eq0-clause-only g c = sends_read c.pieces.invariant.sends c.fill_piece.ensures.keeps.only

pub returns-then-len-eq0-clause-whole : goal.returns-then-len-eq0-clause-whole
returns-then-len-eq0-clause-whole g c = λ d disk h rests is short was has.
    let a = g.H.World.outside c.args.host.now in
    let b = g.H.World.outside c.pieces.host in
    let i = c.args.volume.now in
    let n = c.pieces.volume in
    let inv = c.pieces.invariant in
    let so_far = inv.given d disk h rests is in
    let here = sending_on a b i n inv.rest inv.sends.disk d.volume h c.pieces.dumper so_far.at so_far.sending in
    let made = filled a b i n inv.rest inv.sends.disk d.volume h c.fill_piece.new.dumper so_far.at c.in-Ok.len (length c.pieces.piece) c.fill_piece.new.piece (c.in-Ok.ensures.given d disk h so_far.at (inv.rests d disk rests) here) in
    let all : so_far.at ≡ length (stream_of i.geometry h) = omega (arith, made.2, so_far.sending.inside, inv.long, c.if-len-eq0.true) in
    (let only = c.fill_piece.ensures.keeps.only in only.nothing.only.sent) ∙ sent_all a i d.volume h b c.pieces.dumper c.pieces.left so_far all was has

pub returns-then-len-eq0-clause-rests : goal.returns-then-len-eq0-clause-rests
returns-then-len-eq0-clause-rests g c = λ d disk rests. c.fill_piece.ensures.keeps.rests d disk (c.pieces.invariant.rests d disk rests)

pub slice_bounds-send_all-end : goal.slice_bounds-send_all-end
slice_bounds-send_all-end g c = omega (arith, c.in-Ok.ensures.few, c.fill_piece.auto.piece)

pub slice_bounds-send_all-end-in-pieces : goal.slice_bounds-send_all-end-in-pieces
slice_bounds-send_all-end-in-pieces g c = omega (arith, length-take c.in-Ok.len c.fill_piece.new.piece, c.in-Ok.ensures.few, c.fill_piece.auto.piece)

pub pieces-preserved : goal.pieces-preserved
pieces-preserved g c =
    let a = g.H.World.outside c.args.host.now in
    let b = g.H.World.outside c.pieces.host in
    let o = g.H.World.outside c.fill_piece.new.disk in
    let w = g.H.World.outside c.send_all.new.sink in
    let i = c.args.volume.now in
    let n = c.pieces.volume in
    let m = c.fill_piece.new.volume in
    let inv = c.pieces.invariant in
    let keeps = c.fill_piece.ensures.keeps in
    record {
      sends = sends_sent (sends_read inv.sends keeps.only) c.send_all.ensures.only;
      rest = rest_on i n m inv.rest keeps.rest;
      same = c.send_all.ensures.only.disk_faults ∙ c.in-Ok.ensures.told (λ is. cc) ∙ inv.same;
      ready = read_sent o w m c.send_all.ensures.only keeps.ready;
      room = omega (arith, room_on n m _ keeps.rest inv.room, c.fill_piece.ensures.room);
      long = omega (arith, c.fill_piece.auto.piece, inv.long);
      rests = λ d disk rests. rest_sent o w m d disk c.send_all.ensures.only (keeps.rests d disk (inv.rests d disk rests));
      given = λ d disk h rests is.
          let so_far = inv.given d disk h rests is in
          let here = sending_on a b i n inv.rest inv.sends.disk d.volume h c.pieces.dumper so_far.at so_far.sending in
          let made = filled a b i n inv.rest inv.sends.disk d.volume h c.fill_piece.new.dumper so_far.at c.in-Ok.len (length c.pieces.piece) c.fill_piece.new.piece (c.in-Ok.ensures.given d disk h so_far.at (inv.rests d disk rests) here) in
          let earlier : HasSent a i b d.volume h c.pieces.dumper (c.pieces.left - 1 + 1) = subst (λ (k : ℕ). HasSent a i b d.volume h c.pieces.dumper k) (omega (arith, c.pieces-test.true)) so_far in
          let moved : IsSending a i d.volume h c.fill_piece.new.dumper (earlier.at + c.in-Ok.len) = made.1 in
          sent_more a i d.volume h b w c.pieces.dumper c.fill_piece.new.dumper (c.pieces.left - 1) c.in-Ok.len (take c.in-Ok.len c.fill_piece.new.piece) earlier moved (omega (arith, c.if-len-eq0.false)) made.0
          (λ was has. c.in-Ok-send_all.ensures.sent was (keeps.only.nothing.only.sent ∙ has));
    }

pub returns-in-Err-send_all-clause-only : goal.returns-in-Err-send_all-clause-only
returns-in-Err-send_all-clause-only g c = sends_sent (sends_read c.pieces.invariant.sends c.fill_piece.ensures.keeps.only) c.send_all.ensures.only

pub returns-in-Err-send_all-clause-front : goal.returns-in-Err-send_all-clause-front
returns-in-Err-send_all-clause-front g c = λ d disk h rests is was has.
    let a = g.H.World.outside c.args.host.now in
    let b = g.H.World.outside c.pieces.host in
    let w = g.H.World.outside c.send_all.new.sink in
    let i = c.args.volume.now in
    let n = c.pieces.volume in
    let inv = c.pieces.invariant in
    let keeps = c.fill_piece.ensures.keeps in
    let so_far = inv.given d disk h rests is in
    let here = sending_on a b i n inv.rest inv.sends.disk d.volume h c.pieces.dumper so_far.at so_far.sending in
    let made = filled a b i n inv.rest inv.sends.disk d.volume h c.fill_piece.new.dumper so_far.at c.in-Ok.len (length c.pieces.piece) c.fill_piece.new.piece (c.in-Ok.ensures.given d disk h so_far.at (inv.rests d disk rests) here) in
    sent_part a i d.volume h b w c.pieces.dumper c.pieces.left c.in-Ok.len (take c.in-Ok.len c.fill_piece.new.piece) so_far made.0
    (omega (arith, length-take c.in-Ok.len c.fill_piece.new.piece, c.in-Ok.ensures.few, c.fill_piece.auto.piece))
    (λ was has. c.in-Err-send_all.ensures.failed was (keeps.only.nothing.only.sent ∙ has)) was has

pub returns-in-Err-send_all-clause-rests : goal.returns-in-Err-send_all-clause-rests
returns-in-Err-send_all-clause-rests g c = λ d disk rests.
    rest_sent (g.H.World.outside c.fill_piece.new.disk) (g.H.World.outside c.send_all.new.sink) c.fill_piece.new.volume d disk c.send_all.ensures.only
    (c.fill_piece.ensures.keeps.rests d disk (c.pieces.invariant.rests d disk rests))

pub returns-clause-whole : goal.returns-clause-whole
returns-clause-whole g c = λ d disk h rests is short was has.
    absurd (pieces_end (g.H.World.outside c.args.host.now) c.args.volume.now (g.H.World.outside c.pieces.host) d.volume h c.pieces.dumper c.pieces.left (c.pieces.invariant.given d disk h rests is) (omega (arith, c.pieces-test.false)) short)

pub fill_piece-requires-clause-ready : goal.fill_piece-requires-clause-ready
fill_piece-requires-clause-ready g c = c.pieces.invariant.ready

pub fill_piece-requires-clause-room : goal.fill_piece-requires-clause-room
fill_piece-requires-clause-room g c = c.pieces.invariant.room

pub returns-in-Err-clause-only : goal.returns-in-Err-clause-only
returns-in-Err-clause-only g c = sends_read c.pieces.invariant.sends c.fill_piece.ensures.keeps.only

pub returns-in-Err-clause-whole : goal.returns-in-Err-clause-whole
returns-in-Err-clause-whole g c = tt

pub returns-then-len-eq0-clause-front : goal.returns-then-len-eq0-clause-front
returns-then-len-eq0-clause-front g c = tt

pub returns-then-len-eq0-clause-cause : goal.returns-then-len-eq0-clause-cause
returns-then-len-eq0-clause-cause g c = tt

pub returns-then-len-eq0-clause-sound : goal.returns-then-len-eq0-clause-sound
returns-then-len-eq0-clause-sound g c = tt

pub returns-in-Err-send_all-clause-whole : goal.returns-in-Err-send_all-clause-whole
returns-in-Err-send_all-clause-whole g c = tt

pub returns-in-Err-send_all-clause-sound : goal.returns-in-Err-send_all-clause-sound
returns-in-Err-send_all-clause-sound g c = λ damage. absurd damage

pub returns-clause-only : goal.returns-clause-only
returns-clause-only g c = c.pieces.invariant.sends

pub returns-clause-rest : goal.returns-clause-rest
returns-clause-rest g c = c.pieces.invariant.rest

pub returns-clause-rests : goal.returns-clause-rests
returns-clause-rests g c = c.pieces.invariant.rests

pub returns-clause-front : goal.returns-clause-front
returns-clause-front g c = tt

pub returns-clause-cause : goal.returns-clause-cause
returns-clause-cause g c = tt

pub returns-clause-sound : goal.returns-clause-sound
returns-clause-sound g c = tt

pub returns-in-Err-send_all-clause-rest : goal.returns-in-Err-send_all-clause-rest
returns-in-Err-send_all-clause-rest g c = rest_on c.args.volume.now c.pieces.volume c.fill_piece.new.volume c.pieces.invariant.rest c.fill_piece.ensures.keeps.rest

pub returns-in-Err-clause-rest : goal.returns-in-Err-clause-rest
returns-in-Err-clause-rest g c = rest_on c.args.volume.now c.pieces.volume c.fill_piece.new.volume c.pieces.invariant.rest c.fill_piece.ensures.keeps.rest

pub returns-then-len-eq0-clause-rest : goal.returns-then-len-eq0-clause-rest
returns-then-len-eq0-clause-rest g c = rest_on c.args.volume.now c.pieces.volume c.fill_piece.new.volume c.pieces.invariant.rest c.fill_piece.ensures.keeps.rest

-- ---- a fault of the disk is told

pub returns-in-Err-clause-told : goal.returns-in-Err-clause-told
returns-in-Err-clause-told g c other =
    c.in-Err.ensures.told (λ is. other (ap (λ f. Err f) (c.told_of.ensures ∙ ap dump_fault (err_same is)))) ∙ c.pieces.invariant.same

pub returns-then-len-eq0-clause-told : goal.returns-then-len-eq0-clause-told
returns-then-len-eq0-clause-told g c other = c.in-Ok.ensures.told (λ is. cc) ∙ c.pieces.invariant.same

pub returns-in-Err-send_all-clause-told : goal.returns-in-Err-send_all-clause-told
returns-in-Err-send_all-clause-told g c other = c.send_all.ensures.only.disk_faults ∙ c.in-Ok.ensures.told (λ is. cc) ∙ c.pieces.invariant.same

pub returns-clause-told : goal.returns-clause-told
returns-clause-told g c other = c.pieces.invariant.same
