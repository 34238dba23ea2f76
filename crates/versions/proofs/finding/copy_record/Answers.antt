use Rattle.std.proofs.Common.{◌≡◌, ◌+◌, ◌-◌, ℕ, List, length, ap, ◌∙◌, arith}
use Rattle.std.specs.Prelude.{take, drop}
use Rattle.ex_base.specs.Bytes.{bytes_at}
use Rattle.versions.proofs.Records.{small_there, not_small}
use Rattle.versions.proofs.finding.copy_record.Goals.{then-out-bytes-via-then-out-bytes, then-out-bytes-via-else-out-bytes+then-pos-bytes}
use Rattle.versions.proofs.finding.copy_record.Goals as goal

pub returns-in_default-payload-clause-sound : goal.returns-in_default-payload-clause-sound
returns-in_default-payload-clause-sound c = λ head bytes small range. not_small c.args.body.now bytes c.in-Some.view head c.in_default-payload.field-0 c.in-Some.ensures.found c.in_default-payload.ensures small

pub returns-then-out-bytes-clause-sound : goal.returns-then-out-bytes-clause-sound
returns-then-out-bytes-clause-sound c = λ head bytes small range.
    let long = ap length (small_there c.args.body.now c.in-Small.bytes.now bytes c.in-Some.view head c.in-Some.ensures.found c.in-Small.ensures small) in
    elim c.then-out-bytes.branch [
      | then-out-bytes-via-then-out-bytes w ↦ absurd (omega (arith, long, range, w.if-out-bytes.true))
      | then-out-bytes-via-else-out-bytes+then-pos-bytes w ↦ absurd (omega (arith, long, range, w.if-out-bytes.false, w.if-pos-bytes.true))
    ]

pub returns-clause-bytes : goal.returns-clause-bytes
returns-clause-bytes c = λ head bytes small.
    let same = small_there c.args.body.now c.in-Small.bytes.now bytes c.in-Some.view head c.in-Some.ensures.found c.in-Small.ensures small in
    let k : c.args.pos + length c.args.out.now - c.args.pos ≡ length c.args.out.now = omega arith in (
      omega (arith, ap length same, c.if-out-bytes.false, c.if-pos-bytes.false),
      c.copy_from_slice.ensures.after ∙ ap (λ (n : ℕ). take n (drop c.args.pos c.in-Small.bytes.now)) k ∙ ap (λ (b : List ℕ). bytes_at b c.args.pos (length c.args.out.now)) same,
    )
