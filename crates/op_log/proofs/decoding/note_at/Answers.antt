use Rattle.std.proofs.Common.{◌≡◌, ◌+◌, ◌∙◌, ℕ, [], ◌∷◌, slice_index, ap, sym, arith, rules}
use Rattle.ex_base.specs.Bytes.{IsBytes, part_reads}
use Rattle.op_log.specs.Gates.{part_one}
use Rattle.op_log.specs.Records.{note_bytes}
use Rattle.op_log.proofs.Reading.{run, got}
use Rattle.op_log.proofs.decoding.note_at.Goals as goal

pub returns-in_default : goal.returns-in_default
returns-in_default c note is =
    let b = c.args.bytes.now in
    let place : c.args.at + 0 ≡ c.args.at = omega arith in
    c.in_default.ensures note.kind (sym (part_reads b (note_bytes note) c.args.at 31 0 (sym is) (omega arith)) ∙ ap (λ (i : ℕ). slice_index b i) place)

pub returns : goal.returns
returns c =
    let b = c.args.bytes.now in
    let at = c.args.at in
    let bytes : IsBytes b = λ i. omega (arith, c.type_inv.bytes i) in
    let kind = part_one b at (omega arith) ∙ ap (λ (n : ℕ). n ∷ []) (sym c.in-Some.ensures) in
    let one = run b at 1 4 _ _ kind (got b (at + 1) 4 _ (omega arith) bytes c.get_u32.ensures) in
    let two = run b at 5 2 _ _ one (got b (at + 5) 2 _ (omega arith) bytes c.get_u16.ensures) in
    let three = run b at 7 8 _ _ two (got b (at + 7) 8 _ (omega arith) bytes c.get_u64.ensures) in
    let four = run b at 15 8 _ _ three (got b (at + 15) 8 _ (omega arith) bytes c.get_u64-2.ensures) in (
      sym (run b at 23 8 _ _ four (got b (at + 23) 8 _ (omega arith) bytes c.get_u64-3.ensures)),
      search rules,
    )
