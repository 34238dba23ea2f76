use Rattle.std.proofs.Common.{◌<◌, length, refl, arith}
use Rattle.std.proofs.lemmas.Bool.{both_ways}
use Rattle.record_links.proofs.Counting.{newer_tested, newer_more}
use Rattle.record_links.proofs.derived.are_newer.Goals as goal

pub returns-then-not-is_newer : goal.returns-then-not-is_newer
returns-then-not-is_newer c = (
  λ e. absurd cc,
  λ all. absurd (
      let below : c.walk.at < length c.args.records.now = omega (arith, c.walk-test.true) in
      both_ways _ c.if-not-is_newer.true ((newer_tested c.args.records.now c.args.derived.now c.walk.at _ _ c.is_newer.result c.requires below c.is_newer.ensures).1 (all c.walk.at below))),
)

pub walk-preserved : goal.walk-preserved
walk-preserved c =
    let below : c.walk.at < length c.args.records.now = omega (arith, c.walk-test.true) in
    newer_more c.args.records.now c.walk.at c.walk.invariant ((newer_tested c.args.records.now c.args.derived.now c.walk.at _ _ c.is_newer.result c.requires below c.is_newer.ensures).0 c.if-not-is_newer.false)

pub returns : goal.returns
returns c = (λ e k l. c.walk.invariant k (omega (arith, c.walk-test.false, l)), λ all. refl)
