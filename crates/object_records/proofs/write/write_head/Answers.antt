use Rattle.std.proofs.Common.{List, ℕ, ap, ◌∙◌, arith}
use Rattle.std.specs.Prelude.{slice_set}
use Rattle.ex_base.specs.Bytes.{written}
use Rattle.ex_base.specs.Fields.{eight_bytes, place_field}
use Rattle.object_records.specs.Record.{state_byte}
use Rattle.object_records.proofs.WriteLaws.{head_written}
use Rattle.object_records.proofs.write.write_head.Goals as goal

pub returns : goal.returns
returns c =
    c.put_place-2.ensures ∙ ap (λ (t : List ℕ). written t 16 (place_field c.args.head.now.newer)) c.put_place.ensures
    ∙ ap (λ (t : List ℕ). written (written t 10 (place_field c.args.head.now.older)) 16 (place_field c.args.head.now.newer)) c.put_u64.ensures
    ∙ ap (λ (b : ℕ). written (written (written (slice_set (slice_set c.args.out.now 0 c.args.form) 1 b) 2 (eight_bytes c.args.head.now.unique)) 10 (place_field c.args.head.now.older)) 16 (place_field c.args.head.now.newer)) c.state_code.ensures
    ∙ head_written c.args.out.now c.args.form (state_byte c.args.head.now.state) c.args.head.now.unique c.args.head.now.older c.args.head.now.newer (omega (arith, c.requires))
