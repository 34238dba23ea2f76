use Rattle.std.proofs.Common.{◌≡◌, ◌≤◌, ◌∙◌, length, ap, arith, Result, Ok, Err, OnOk}
use Rattle.std.specs.Prelude.{IsOk, decimal}
use Rattle.clients.specs.Numbers.{short_number}
use Rattle.clients.proofs.schedule.numbered.Goals as goal

at_ok : {T E : Type 0} (r : Result T E) (Q : Type 0) → IsOk r → OnOk r Q → Q
at_ok (Ok x) Q is h = h
at_ok (Err e) Q is h = absurd (cc)

pub push-requires : goal.push-requires
push-requires c =
    let few : length (decimal c.args.client) ≤ 2 = short_number c.args.client c.requires in
    let digits : length c.as_bytes.result.now ≡ length (decimal c.args.client) = ap length (c.as_bytes.ensures.value ∙ c.format.ensures.text) in
    let none = ap length c.new-front.ensures in
    let room = c.try_extend_from_slice.ensures.variant.1 (omega (arith, few, digits, none)) in
    let len = at_ok c.try_extend_from_slice.result _ room c.try_extend_from_slice.ensures.len in
    (omega arith, omega (arith, few, digits, none, len))
