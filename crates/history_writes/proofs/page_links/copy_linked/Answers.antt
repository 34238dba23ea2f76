use Rattle.std.proofs.Common.{ℕ, [], refl, sym, subst, ◌∙◌, arith}
use Rattle.slotted_pages.specs.FilePage.{SlotsOf}
use Rattle.history_writes.proofs.Linking.{all_counted, all_laid, body_short, copied_more, never_vacant, never_without, none_copied, room_left}
use Rattle.history_writes.proofs.page_links.copy_linked.Goals as goal

pub loop-slot-init : goal.loop-slot-init
loop-slot-init c =
    none_copied c.args.from.now c.args.links.now c.empty_page.new.image c.in-Some.view.page c.in-Some.ensures.found.1
    (subst (λ (k : ℕ). SlotsOf c.empty_page.new.image (record { file_no = k; slots = [] })) c.file_no.ensures c.empty_page.ensures) (omega (arith, c.empty_page.auto.image, c.requires.size))

pub returns-in_default-body-clause-none : goal.returns-in_default-body-clause-none
returns-in_default-body-clause-none c = λ file_no records at are may.
    never_vacant c.args.from.now c.in-Some.view.page c.loop-slot.slot file_no records c.in-Some.ensures.found.1 (omega (arith, c.loop-slot-test.true, c.slots-slot-end.ensures)) c.in_default-body.ensures at

pub returns-in_default-get-clause-none : goal.returns-in_default-get-clause-none
returns-in_default-get-clause-none c = λ file_no records at are may.
    never_without c.args.from.now c.args.links.now c.in-Some.view.page c.loop-slot.slot file_no records c.in-Some.ensures.found.1 (omega (arith, c.loop-slot-test.true, c.slots-slot-end.ensures)) c.in_default-get.ensures.lookup.3 at may

pub lay_linked-requires-clause-room : goal.lay_linked-requires-clause-room
lay_linked-requires-clause-room c =
    omega (arith, c.loop-slot.auto.out, c.requires.room, body_short c.args.from.now c.in-Some.view.page c.loop-slot.slot c.in-Some-body.body.now c.in-Some.ensures.found.1 (sym c.in-Some-body.ensures))

pub returns-then-not-lay_linked-clause-none : goal.returns-then-not-lay_linked-clause-none
returns-then-not-lay_linked-clause-none c =
    room_left c.args.from.now c.args.links.now c.in-Some.view.page c.loop-slot.slot c.in-Some-body.body.now c.in-Some-get.one.now c.in-Some-get.one.now c.loop-slot.into
    (record { is = c.in-Some.ensures.found.1; there = sym c.in-Some-body.ensures; within = c.in-Some-get.ensures.lookup.3.0; one_is = c.in-Some-get.ensures.lookup.1 }) c.loop-slot.invariant (c.if-not-lay_linked.ensures.no_room refl)

pub loop-slot-preserved : goal.loop-slot-preserved
loop-slot-preserved c =
    copied_more c.args.from.now c.args.links.now c.in-Some.view.page c.loop-slot.slot c.in-Some-body.body.now c.in-Some-get.one.now c.in-Some-get.one.now c.loop-slot.into c.lay_linked.new.into
    (record { is = c.in-Some.ensures.found.1; there = sym c.in-Some-body.ensures; within = c.in-Some-get.ensures.lookup.3.0; one_is = c.in-Some-get.ensures.lookup.1 }) c.loop-slot.invariant c.lay_linked.ensures.page c.lay_linked.auto.into
    (c.if-not-lay_linked.ensures.laid refl)

pub returns-clause-counts : goal.returns-clause-counts
returns-clause-counts c = λ file_no records at.
    c.slots.ensures ∙ all_counted c.args.from.now c.in-Some.view.page file_no records c.in-Some.ensures.found.1 at

pub returns-clause-copied : goal.returns-clause-copied
returns-clause-copied c = λ file_no records at are.
    all_laid c.args.from.now c.args.links.now c.in-Some.view.page c.loop-slot.slot c.loop-slot.into file_no records c.in-Some.ensures.found.1 (omega (arith, c.loop-slot-test.false, c.slots-slot-end.ensures)) c.loop-slot.invariant at are
