use Rattle.std.proofs.Common.{◌≡◌, ℕ, ◌-◌, ◌++◌, length, drop, ap, ◌∙◌, arith}
use Rattle.std.proofs.lemmas.List.{length-drop}
use Rattle.ex_base.specs.Fields.{four_bytes}
use Rattle.ex_base.proofs.FieldLaws.{four_is}
use Rattle.history_items.proofs.WrittenItems.{put_first}
use Rattle.history_items.proofs.leaves.write_leaf_len.Goals as goal

pub returns : goal.returns
returns c =
    let was = c.args.out.now in
    let put = put_first was c.put_u32.new.bytes (four_bytes (length was - 4)) 4 c.put_u32.ensures (four_is.len (length was - 4)) in
    let len : length was - 4 ≡ length (drop 4 was) = omega (arith, length-drop 4 was) in
    put.is ∙ ap (λ (n : ℕ). four_bytes n ++ drop 4 was) len
