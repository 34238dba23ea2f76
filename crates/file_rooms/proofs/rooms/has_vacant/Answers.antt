use Rattle.std.proofs.Common.{sym, arith, Bor, List, ℕ}
use Rattle.std.proofs.lemmas.Bool.{lt-ltb}
use Rattle.std.specs.Prelude.{slice_index_or, length, None}
use Rattle.slotted_pages.specs.Edits.{vacant_at}
use Rattle.file_rooms.proofs.Vacant.{none_of, some_of, vacant_low, vacant_next}
use Rattle.file_rooms.proofs.rooms.has_vacant.Goals as goal

pub returns-then-is_none : goal.returns-then-is_none
returns-then-is_none c =
    let slots = c.args.view.now.page.slots in
    let none = none_of c.body.result (λ body. body.now) (slice_index_or slots c.slots.slot None) c.is_none.result c.is_none.ensures c.if-is_none.true c.body.ensures in
    sym (lt-ltb (vacant_at slots) (length slots) (omega (arith, c.slots.invariant, c.slots-test.true, vacant_low slots c.slots.slot none (omega (arith, c.slots.invariant, c.slots-test.true)))))

pub slots-preserved : goal.slots-preserved
slots-preserved c =
    let slots = c.args.view.now.page.slots in
    let some = some_of c.body.result (λ body. body.now) (slice_index_or slots c.slots.slot None) c.is_none.result c.is_none.ensures c.if-is_none.false c.body.ensures in
    (c.slots.invariant.0, vacant_next slots c.slots.slot some.0 some.1 c.slots.invariant.1)
