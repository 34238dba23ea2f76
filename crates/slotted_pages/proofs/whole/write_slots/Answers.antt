use Rattle.std.proofs.Common.{List, ℕ, [], length, ap, ◌∙◌, subst, sym}
use Rattle.ex_base.specs.Bytes.{written}
use Rattle.ex_base.specs.Fields.{two_bytes}
use Rattle.std.proofs.lemmas.List.{length-map}
use Rattle.slotted_pages.specs.FilePage.{file_page}
use Rattle.slotted_pages.specs.Whole.{held, slots_held, filled_page}
use Rattle.slotted_pages.proofs.WholeLaws.{filled_none, filled_all}
use Rattle.slotted_pages.proofs.whole.write_slots.Goals as goal

pub write_bodies-requires-clause-empty : goal.write_bodies-requires-clause-empty
write_bodies-requires-clause-empty c =
    c.put_u16.ensures ∙ filled_none c.empty_page.new.image c.args.file_no (length c.args.slots.now) c.empty_page.ensures
    ∙ ap (λ (k : ℕ). filled_page k c.args.file_no (length c.args.slots.now) []) (sym c.put_u16.auto.bytes)

pub returns-clause-written : goal.returns-clause-written
returns-clause-written c = λ t.
    c.write_bodies.ensures
    ∙ ap (λ (k : ℕ). filled_page k c.args.file_no (length c.args.slots.now) (slots_held c.args.slots.now)) (c.put_u16.auto.bytes ∙ c.empty_page.auto.image)
    ∙ ap (λ (k : ℕ). filled_page (length c.args.image.now) c.args.file_no k (slots_held c.args.slots.now)) (sym (length-map c.args.slots.now held))
    ∙ filled_all (length c.args.image.now) c.args.file_no (slots_held c.args.slots.now)
