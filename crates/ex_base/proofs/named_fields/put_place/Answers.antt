use Rattle.std.proofs.Common.{List, ℕ, ◌+◌, Option, sym, ap, ◌∙◌, arith}
use Rattle.ex_base.specs.declared.names.Place.{Place}
use Rattle.ex_base.specs.Fields.{place_field, four_bytes, two_bytes}
use Rattle.ex_base.specs.Bytes.{written}
use Rattle.ex_base.proofs.FieldLaws.{four_is, two_is}
use Rattle.ex_base.proofs.Writing.{written_twice}
use Rattle.ex_base.proofs.named_fields.put_place.Goals as goal

pub returns-in-Some : goal.returns-in-Some
returns-in-Some c =
    c.put_u16.ensures ∙ ap (λ (t : List ℕ). written t (c.args.at + 4) (two_bytes c.in-Some.place.slot)) c.put_u32.ensures
    ∙ written_twice c.args.bytes.now (four_bytes c.in-Some.place.page.0) (two_bytes c.in-Some.place.slot) c.args.at (c.args.at + 4) (omega (arith, four_is.len c.in-Some.place.page.0)) (omega (arith, four_is.len c.in-Some.place.page.0, two_is.len c.in-Some.place.slot, c.requires))
    ∙ ap (λ (place : Option Place). written c.args.bytes.now c.args.at (place_field place)) (sym c.in-Some.is)
