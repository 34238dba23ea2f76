use Rattle.std.proofs.Common.{◌<◌, arith, rules}
use Rattle.ex_base.specs.Fields.{number_at}
use Rattle.object_records.proofs.RecordLaws.{large_is}
use Rattle.object_records.proofs.reads.is_large.Goals as goal

pub returns-then-height : goal.returns-then-height
returns-then-height c =
    let some : 0 < number_at 8 c.args.body.now 24 = omega (arith, c.get_u64-size.ensures) in
    (λ t. large_is c.args.body.now (λ i. omega (arith, c.type_inv.body i)) (search rules) (search rules) (omega (arith, c.get_u16-height.ensures)) some (search rules), λ reads. search (rules, reads.root.named))
