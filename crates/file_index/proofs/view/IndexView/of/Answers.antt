use Rattle.std.proofs.Common.{◌≡◌, true, sym, ◌∙◌, true≢false, rules, arith}
use Rattle.file_index.proofs.PageLaws.{spelled_reads, reads_spelled, viewed}
use Rattle.file_index.proofs.view.IndexView.of.Goals as goal

pub returns-then-not-is_index_page-clause-none : goal.returns-then-not-is_index_page-clause-none
returns-then-not-is_index_page-clause-none c = λ level file_no entries h.
    let test : c.is_index_page.result ≡ true = c.is_index_page.ensures.1 (spelled_reads c.args.page.now level file_no entries h).reads in
    absurd (true≢false (sym test ∙ c.if-not-is_index_page.true))

pub invariant_of-result : goal.invariant_of-result
invariant_of-result c = viewed c.args.page.now (c.is_index_page.ensures.0 (search rules))

pub returns-clause-found : goal.returns-clause-found
returns-clause-found c = reads_spelled c.args.page.now (λ i. omega (arith, c.type_inv.page i)) (c.is_index_page.ensures.0 (search rules))
