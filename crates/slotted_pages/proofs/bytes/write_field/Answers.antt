use Rattle.std.proofs.Common.{◌≡◌, List, ℕ, ◌+◌, ◌-◌, ◌*◌, ◌++◌, length, ap, ◌∙◌, arith}
use Rattle.ex_base.specs.Bytes.{written}
use Rattle.ex_base.specs.Fields.{two_bytes}
use Rattle.ex_base.proofs.FieldLaws.{two_is}
use Rattle.ex_base.proofs.Writing.{written_twice}
use Rattle.slotted_pages.specs.Edits.{begin_read}
use Rattle.slotted_pages.proofs.BytesLaws.{begin_none, begin_some}
use Rattle.slotted_pages.proofs.bytes.write_field.Goals as goal
use Rattle.slotted_pages.proofs.bytes.write_field.Goals.{then-len-eq0, else-len-eq0}

pub returns : goal.returns
returns c =
    let offset : c.if-len-eq0.offset ≡ begin_read c.args.at c.args.len = elim c.if-len-eq0.branch [ then-len-eq0 w ↦ w.offset-is ∙ begin_none c.args.at c.args.len (omega arith) | else-len-eq0 w ↦ w.offset-is ∙ begin_some c.args.at c.args.len w.if-len-eq0.false ] in
    let field : ℕ = length c.args.image.now - 4 * (c.args.slot + 1) in
    c.put_u16-2.ensures ∙ ap (λ (t : List ℕ). written t (length c.args.image.now - 4 * (c.args.slot + 1) + 2) (two_bytes c.args.len)) c.put_u16.ensures
    ∙ written_twice c.args.image.now (two_bytes c.if-len-eq0.offset) (two_bytes c.args.len) (length c.args.image.now - 4 * (c.args.slot + 1)) (length c.args.image.now - 4 * (c.args.slot + 1) + 2) (omega (arith, two_is.len c.if-len-eq0.offset)) (omega (arith, two_is.len c.if-len-eq0.offset, two_is.len c.args.len, c.requires.room))
    ∙ ap (λ (k : ℕ). written c.args.image.now (length c.args.image.now - 4 * (c.args.slot + 1)) (two_bytes k ++ two_bytes c.args.len)) offset
