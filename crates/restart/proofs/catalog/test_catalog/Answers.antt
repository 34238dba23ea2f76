use Rattle.std.proofs.Common.{true≢false, sym, ap, subst, ◌∙◌}
use Rattle.object_files.specs.Catalog.{Catalog}
use Rattle.volume_model.proofs.OneReading.{one_catalog}
use Rattle.restart.specs.Opening.{LastIs}
use Rattle.restart.proofs.catalog.test_catalog.Goals as goal

pub returns-then-not-is_last-clause-none : goal.returns-then-not-is_last-clause-none
returns-then-not-is_last-clause-none c other here =
    let same = one_catalog c.args.page.now other c.in_ok-catalog.catalog here.spelled c.in_ok-catalog.ensures.found in
    let number = subst (LastIs c.args.last) (ap (λ (k : Catalog). k.last) same ∙ sym c.last_txn.ensures) here.number in
    true≢false (sym (c.is_last.ensures.1 number) ∙ c.if-not-is_last.true)
