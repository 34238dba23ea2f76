use Rattle.std.proofs.lemmas.Bool.{false≢true}
use Rattle.std.proofs.Common.{◌≡◌, ◌+◌, ◌-◌, ℕ, List, true, false, length, sym, ap, ◌∙◌, arith}
use Rattle.std.specs.Prelude.{take, drop}
use Rattle.ex_base.specs.Bytes.{bytes_at}
use Rattle.object_records.specs.Reads.{content_of}
use Rattle.versions.proofs.Records.{one_small}
use Rattle.versions.proofs.finding.copy_inside.Goals as goal

pub returns-then-not-is_inside-clause-bytes : goal.returns-then-not-is_inside-clause-bytes
returns-then-not-is_inside-clause-bytes c = λ bytes is range.
    let same = one_small c.in-Small.bytes.now bytes (ap content_of (sym c.in-Small.is) ∙ is) in
    let yes : c.is_inside.result ≡ true = c.is_inside.ensures.1 (omega (arith, range, ap length same)) in
    let isnt : c.is_inside.result ≡ false = c.if-not-is_inside.true in
    absurd (false≢true (sym isnt ∙ yes))

pub returns-clause-bytes : goal.returns-clause-bytes
returns-clause-bytes c = λ bytes is range.
    let same = one_small c.in-Small.bytes.now bytes (ap content_of (sym c.in-Small.is) ∙ is) in
    let k : c.args.pos + length c.args.out.now - c.args.pos ≡ length c.args.out.now = omega arith in
    c.copy_from_slice.ensures.after ∙ ap (λ (n : ℕ). take n (drop c.args.pos c.in-Small.bytes.now)) k ∙ ap (λ (b : List ℕ). bytes_at b c.args.pos (length c.args.out.now)) same
