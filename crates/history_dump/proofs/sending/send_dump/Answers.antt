use Rattle.history_dump.specs.declared.fault.DumpFault.{DumpFault}
use Rattle.history_dump.proofs.Faults.{damage_told, cause_later}
use Rattle.std.proofs.Common.{vec_len, ◌≡◌, ℕ, List, ◌++◌, length, take, Err, Some, inr, ap, ◌∙◌, arith, inl, subst}
use Rattle.std.proofs.lemmas.Result.{IfErr-weaker}
use Rattle.volume_model.specs.Volume.{table_of, units_of}
use Rattle.history_model.specs.Stream.{stream_of}
use Rattle.history_dump.specs.Sending.{SendsFront, SendsWhole, TellsDamage, dump_fault}
use Rattle.history_dump.proofs.OutsidesSent.{sends_none, sends_read, sends_trans}
use Rattle.history_dump.proofs.Pieces.{same_stream, sending_on, rest_on, room_on}
use Rattle.history_dump.proofs.Results.{err_same, match_of}
use Rattle.history_dump.proofs.Streaming.{stream_short, streams}
use Rattle.history_dump.proofs.sending.send_dump.Goals as goal

pub returns-in-Err-piece_room-clause-only : goal.returns-in-Err-piece_room-clause-only
returns-in-Err-piece_room-clause-only g c =
    sends_read (sends_none (g.H.World.outside c.args.host.now) (g.H.World.is_world c.args.host.now)) c.plan_stream.ensures.keeps.only

pub returns-clause-only : goal.returns-clause-only
returns-clause-only g c =
    sends_trans (sends_read (sends_none (g.H.World.outside c.args.host.now) (g.H.World.is_world c.args.host.now)) c.plan_stream.ensures.keeps.only) c.send_pieces.ensures.only

pub returns-clause-sent : goal.returns-clause-sent
returns-clause-sent g c = λ d disk was rests has.
    let a = g.H.World.outside c.args.host.now in
    let b = g.H.World.outside c.plan_stream.new.disk in
    let w = g.H.World.outside c.send_pieces.new.host in
    let i = c.args.volume.now in
    let n = c.plan_stream.new.volume in
    let keeps = c.plan_stream.ensures.keeps in
    let plan = c.in-Ok.ensures.plans d disk rests in
    let h = plan.0 in
    let here = sending_on a b i n keeps.rest keeps.only.nothing.disk d.volume h c.in-Ok.dumper 0 plan.1 in
    let same = same_stream i n h keeps.rest in
    let there = keeps.rests d disk rests in
    let sent : b.sent ≡ Some was = keeps.only.nothing.only.sent ∙ has in
    let short = stream_short a i d disk rests h plan.1.on in
    match_of c.send_pieces.result _ _ (SendsWhole disk (table_of (units_of d disk) d.volume) was w) (SendsFront disk (table_of (units_of d disk) d.volume) was w) c.send_pieces.ensures.whole c.send_pieces.ensures.front
    (λ whole. record {
      stream = stream_of i.geometry h;
      streams = streams a i d disk rests h plan.1.on;
      sent = whole d disk h there here (omega (arith, short, ap length same)) was sent ∙ ap (λ (s : List ℕ). Some (was ++ s)) same;
    })
    (λ front.
    let few = front d disk h there here was sent in
    inr (record {
      stream = stream_of i.geometry h;
      streams = streams a i d disk rests h plan.1.on;
      count = few.0;
      short = omega (arith, few.1, ap length same);
      sent = few.2 ∙ ap (λ (s : List ℕ). Some (was ++ take few.0 s)) same;
    }))

pub returns-clause-sound : goal.returns-clause-sound
returns-clause-sound g c = IfErr-weaker c.send_pieces.result _ _
    (λ fault never damage d disk rests.
    let keeps = c.plan_stream.ensures.keeps in
    let plan = c.in-Ok.ensures.plans d disk rests in
    never damage d disk plan.0 (keeps.rests d disk rests)
    (sending_on (g.H.World.outside c.args.host.now) (g.H.World.outside c.plan_stream.new.disk) c.args.volume.now c.plan_stream.new.volume keeps.rest keeps.only.nothing.disk d.volume plan.0 c.in-Ok.dumper 0 plan.1))
    c.send_pieces.ensures.sound

pub returns-clause-rests : goal.returns-clause-rests
returns-clause-rests g c = λ d disk rests. c.send_pieces.ensures.rests d disk (c.plan_stream.ensures.keeps.rests d disk rests)

pub returns-in-Err-clause-only : goal.returns-in-Err-clause-only
returns-in-Err-clause-only g c = sends_read (sends_none (g.H.World.outside c.args.host.now) (g.H.World.is_world c.args.host.now)) c.plan_stream.ensures.keeps.only

pub returns-in-Err-clause-rest : goal.returns-in-Err-clause-rest
returns-in-Err-clause-rest g c = c.plan_stream.ensures.keeps.rest

pub returns-in-Err-clause-rests : goal.returns-in-Err-clause-rests
returns-in-Err-clause-rests g c = λ d disk rests. c.plan_stream.ensures.keeps.rests d disk rests

pub returns-in-Err-clause-sent : goal.returns-in-Err-clause-sent
returns-in-Err-clause-sent g c = λ d disk was rests has. inl (c.plan_stream.ensures.keeps.only.nothing.only.sent ∙ has)

pub returns-in-Err-piece_room-clause-rest : goal.returns-in-Err-piece_room-clause-rest
returns-in-Err-piece_room-clause-rest g c = c.plan_stream.ensures.keeps.rest

pub returns-in-Err-piece_room-clause-rests : goal.returns-in-Err-piece_room-clause-rests
returns-in-Err-piece_room-clause-rests g c = λ d disk rests. c.plan_stream.ensures.keeps.rests d disk rests

pub returns-in-Err-piece_room-clause-sent : goal.returns-in-Err-piece_room-clause-sent
returns-in-Err-piece_room-clause-sent g c = λ d disk was rests has. inl (c.plan_stream.ensures.keeps.only.nothing.only.sent ∙ has)

pub plan_stream-requires : goal.plan_stream-requires
plan_stream-requires g c = c.requires

pub returns-in-Err-piece_room-clause-sound : goal.returns-in-Err-piece_room-clause-sound
returns-in-Err-piece_room-clause-sound g c = λ damage. absurd damage

pub returns-in-Err-piece_room-clause-cause : goal.returns-in-Err-piece_room-clause-cause
returns-in-Err-piece_room-clause-cause g c = tt

pub returns-clause-cause : goal.returns-clause-cause
returns-clause-cause g c = IfErr-weaker c.send_pieces.result _ _
    (λ fault cause. cause_later (g.H.World.outside c.args.host.now) (g.H.World.outside c.plan_stream.new.disk) (g.H.World.outside c.send_pieces.new.host) fault c.plan_stream.ensures.keeps.only.nothing.only.goes cause)
    c.send_pieces.ensures.cause

pub returns-clause-rest : goal.returns-clause-rest
returns-clause-rest g c = rest_on c.args.volume.now c.plan_stream.new.volume c.send_pieces.new.volume c.plan_stream.ensures.keeps.rest c.send_pieces.ensures.rest

pub returns-in-Err-clause-sound : goal.returns-in-Err-clause-sound
returns-in-Err-clause-sound g c = λ damage d disk rests. c.in-Err.ensures.sound (damage_told c.in-Err.fault (subst (λ (f : DumpFault). TellsDamage f) c.told_of.ensures damage)) d disk rests

pub send_pieces-requires-clause-room : goal.send_pieces-requires-clause-room
send_pieces-requires-clause-room g c = omega (arith, room_on c.args.volume.now c.plan_stream.new.volume (vec_len c.in-Ok.dumper.room) c.plan_stream.ensures.keeps.rest c.in-Ok.ensures.room)

pub returns-in-Err-clause-told : goal.returns-in-Err-clause-told
returns-in-Err-clause-told g c other = c.in-Err.ensures.told (λ is. other (ap (λ f. Err f) (c.told_of.ensures ∙ ap dump_fault (err_same is))))

pub returns-in-Err-piece_room-clause-told : goal.returns-in-Err-piece_room-clause-told
returns-in-Err-piece_room-clause-told g c other = c.in-Ok.ensures.told (λ is. cc)

pub returns-clause-told : goal.returns-clause-told
returns-clause-told g c other = c.send_pieces.ensures.told other ∙ c.in-Ok.ensures.told (λ is. cc)
