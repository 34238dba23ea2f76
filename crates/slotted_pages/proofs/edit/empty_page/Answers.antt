use Rattle.std.proofs.Common.{List, ℕ, length, [], sym, ap, subst, ◌∙◌, arith}
use Rattle.std.specs.Prelude.{slice_set}
use Rattle.ex_base.specs.Bytes.{written}
use Rattle.ex_base.specs.Fields.{four_bytes}
use Rattle.slotted_pages.specs.FilePage.{SlotsOf}
use Rattle.slotted_pages.proofs.EditLaws.{emptied}
use Rattle.slotted_pages.proofs.edit.empty_page.Goals as goal

pub returns : goal.returns
returns c =
    subst (λ (x : List ℕ). SlotsOf x (record { file_no = c.args.file_no; slots = [] }))
    (sym (c.put_u32.ensures ∙ ap (λ (t : List ℕ). written (slice_set t 0 3) 8 (four_bytes c.args.file_no)) (c.fill.ensures.after (λ y e. e))))
    (emptied (length c.args.image.now) c.args.file_no c.requires.head c.requires.size (omega arith))
