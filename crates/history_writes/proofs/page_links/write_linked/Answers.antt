use Rattle.std.proofs.Common.{◌≡◌, ℕ, List, length, drop, take, sym, subst, arith}
use Rattle.std.proofs.lemmas.List.{length-take-le, take_at}
use Rattle.object_records.specs.Record.{BodyOf}
use Rattle.object_records.specs.Reads.{content_of}
use Rattle.history_writes.proofs.Linking.{body_long, may_still, made, read_is, relinked_fits, relinked_is}
use Rattle.history_writes.proofs.page_links.write_linked.Goals as goal

pub returns-in_default-head_with-clause-none : goal.returns-in_default-head_with-clause-none
returns-in_default-head_with-clause-none c = λ r is may.
    c.in_default-head_with.ensures.none (may_still c.args.body.now c.in-Some.view r c.head.result c.args.links.now c.in-Some.ensures.found c.head.ensures is may)

pub write_record-requires-clause-fits : goal.write_record-requires-clause-fits
write_record-requires-clause-fits c =
    relinked_fits c.args.body.now c.in-Some.view c.head.result c.in-Some-head_with.head _ c.args.links.now
    (record { is = c.in-Some.ensures.found; was_is = c.head.ensures; head_is = c.in-Some-head_with.ensures.linked; content_is = c.payload.ensures }) c.in-Some-head_with.ensures.fits c.requires.fields

pub write_record-requires-clause-room : goal.write_record-requires-clause-room
write_record-requires-clause-room c =
    omega (arith, length-take-le (length c.args.body.now) c.args.out.now c.requires.room, body_long c.args.body.now c.in-Some.view _ c.in-Some.ensures.found c.payload.ensures)

pub returns-clause-is : goal.returns-clause-is
returns-clause-is c = read_is c.args.body.now c.in-Some.view c.in-Some.ensures.found

pub returns-clause-linked : goal.returns-clause-linked
returns-clause-linked c =
    let long : length c.write_record.new.out ≡ length c.args.body.now = omega (arith, c.write_record.auto.out, length-take-le (length c.args.body.now) c.args.out.now c.requires.room) in
    let same = relinked_is c.args.body.now c.in-Some.view c.head.result c.in-Some-head_with.head _ c.args.links.now
    (record { is = c.in-Some.ensures.found; was_is = c.head.ensures; head_is = c.in-Some-head_with.ensures.linked; content_is = c.payload.ensures }) in
    let front = take_at c.write_record.new.out (drop (length c.args.body.now) c.args.out.now) (length c.args.body.now) long in
    subst (BodyOf (take (length c.args.body.now) _)) same (subst (λ (b : List ℕ). BodyOf b (made c.in-Some-head_with.head (content_of c.payload.result))) (sym front) c.write_record.ensures)
