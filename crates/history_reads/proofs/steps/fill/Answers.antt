use Rattle.std.proofs.Common.{◌≡◌, ◌<◌, ◌≤◌, length, Some, None, sym, ap, ◌∙◌, arith}
use Rattle.ex_base.specs.Bytes.{IsBytes}
use Rattle.history_reads.specs.declared.steps.Filled.TheVariants.{More, Whole, Refused}
use Rattle.history_reads.specs.Reads.{need_now}
use Rattle.history_reads.proofs.Filling.{asked_more, took}
use Rattle.history_reads.proofs.Reading.{fill_read}
use Rattle.history_reads.proofs.steps.fill.Goals as goal

pub fill-taken-requires-clause-room : goal.fill-taken-requires-clause-room
fill-taken-requires-clause-room c = omega (arith, c.in-Some.ensures.few, c.requires.room)

pub returns-in-None-clause-read : goal.returns-in-None-clause-read
returns-in-None-clause-read c =
    let p = c.args.progress.now in
    let bytes : IsBytes c.args.piece.now = λ i. omega (arith, c.type_inv.piece i) in
    let asked : need_now p c.args.gathered.now.held ≡ Some c.in-Some.need = ap (need_now p) (sym c.as_slice.ensures) ∙ sym c.in-Some.ensures.need in
    let more : length c.args.gathered.now.held < c.in-Some.need = asked_more p c.args.gathered.now.held c.in-Some.need c.requires.asking asked in
    let t = took p c.args.gathered.now.held c.fill-taken.new.self.held c.args.piece.now c.in-Some.need c.fill-taken.result asked more c.fill-taken.ensures.taken c.fill-taken.ensures.held in
    let none : need_now p c.fill-taken.new.self.held ≡ None = ap (need_now p) (sym c.as_slice-2.ensures) ∙ sym c.in-None.ensures.need in
    fill_read p c.args.gathered.now.held c.fill-taken.new.self.held c.args.piece.now Refused bytes (c.fill-taken.result, t, none)

pub returns-then-need-as_slice-clause-read : goal.returns-then-need-as_slice-clause-read
returns-then-need-as_slice-clause-read c =
    let p = c.args.progress.now in
    let bytes : IsBytes c.args.piece.now = λ i. omega (arith, c.type_inv.piece i) in
    let asked : need_now p c.args.gathered.now.held ≡ Some c.in-Some.need = ap (need_now p) (sym c.as_slice.ensures) ∙ sym c.in-Some.ensures.need in
    let more : length c.args.gathered.now.held < c.in-Some.need = asked_more p c.args.gathered.now.held c.in-Some.need c.requires.asking asked in
    let t = took p c.args.gathered.now.held c.fill-taken.new.self.held c.args.piece.now c.in-Some.need c.fill-taken.result asked more c.fill-taken.ensures.taken c.fill-taken.ensures.held in
    let whole : need_now p c.fill-taken.new.self.held ≡ Some (length c.fill-taken.new.self.held) = ap (need_now p) (sym c.as_slice-2.ensures) ∙ sym c.in-Some-need.ensures.need ∙ ap Some (c.if-need-as_slice.true ∙ ap length c.as_slice-in-Some-need.ensures) in
    fill_read p c.args.gathered.now.held c.fill-taken.new.self.held c.args.piece.now (Whole c.fill-taken.result) bytes (t, whole)

pub returns-else-need-as_slice-clause-filled : goal.returns-else-need-as_slice-clause-filled
returns-else-need-as_slice-clause-filled c =
    let p = c.args.progress.now in
    let asked : need_now p c.args.gathered.now.held ≡ Some c.in-Some.need = ap (need_now p) (sym c.as_slice.ensures) ∙ sym c.in-Some.ensures.need in
    let more : length c.args.gathered.now.held < c.in-Some.need = asked_more p c.args.gathered.now.held c.in-Some.need c.requires.asking asked in
    let t = took p c.args.gathered.now.held c.fill-taken.new.self.held c.args.piece.now c.in-Some.need c.fill-taken.result asked more c.fill-taken.ensures.taken c.fill-taken.ensures.held in
    let ahead : length c.as_slice-2.result.now ≤ c.in-Some-need.need = c.in-Some-need.ensures.ahead in
    let need : need_now p c.fill-taken.new.self.held ≡ Some c.in-Some-need.need = ap (need_now p) (sym c.as_slice-2.ensures) ∙ sym c.in-Some-need.ensures.need in
    let first = ap length c.as_slice-2.ensures in
    let second = ap length c.as_slice-in-Some-need.ensures in
    let other = c.if-need-as_slice.false in
    (t, (c.in-Some-need.need, need, omega (arith, ahead, first, second)))

pub returns-else-need-as_slice-clause-read : goal.returns-else-need-as_slice-clause-read
returns-else-need-as_slice-clause-read c =
    let bytes : IsBytes c.args.piece.now = λ i. omega (arith, c.type_inv.piece i) in
    fill_read c.args.progress.now c.args.gathered.now.held c.fill-taken.new.self.held c.args.piece.now (More c.fill-taken.result) bytes (returns-else-need-as_slice-clause-filled c)
