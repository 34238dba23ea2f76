use Rattle.std.proofs.Common.{List, ℕ, [], ◌∷◌, length, refl, ap, ◌∙◌, arith}
use Rattle.ex_base.specs.Bytes.{written}
use Rattle.ex_base.specs.Fields.{two_bytes}
use Rattle.ex_base.proofs.FieldLaws.{two_is}
use Rattle.ex_base.proofs.Writing.{written_twice}
use Rattle.history_items.proofs.versions.write_small.Goals as goal

pub returns : goal.returns
returns c =
    let out = c.args.out.now in
    let bytes = c.args.bytes.now in
    let len = two_is.len (length bytes) in
    let two = c.put_u16.ensures ∙ ap (λ (t : List ℕ). written t 18 (two_bytes (length bytes))) c.put_u8.ensures ∙ written_twice out (1 ∷ []) (two_bytes (length bytes)) 17 18 refl (omega (arith, len, c.requires.room)) in
    c.put_bytes.ensures ∙ ap (λ (t : List ℕ). written t 20 bytes) two ∙ written_twice out (1 ∷ two_bytes (length bytes)) bytes 17 20 (omega (arith, len)) (omega (arith, len, c.requires.room))
