use Rattle.std.proofs.Common.{◌≡◌, length, sym, ap, ◌∙◌, arith}
use Rattle.std.proofs.lemmas.Bool.{eq-eqb, eqb-true, false≢true}
use Rattle.object_files.specs.Catalog.{Catalog}
use Rattle.volume_model.proofs.OneReading.{one_catalog}
use Rattle.history_load.proofs.EmptyCatalogs.{is_fresh}
use Rattle.history_load.proofs.emptiness.is_first_catalog.Goals as goal

pub returns-then-len-ne0 : goal.returns-then-len-ne0
returns-then-len-ne0 c catalog spelled =
    let one = one_catalog c.args.page.now c.in-Some.catalog catalog c.in-Some.ensures.found spelled in
    (λ yes. absurd (false≢true yes), λ fresh. absurd (omega (arith, c.if-len-ne0.true, c.len.ensures, ap (λ (x : Catalog). length x.entries) (one ∙ fresh))))

pub returns-then-next_unique-ne1 : goal.returns-then-next_unique-ne1
returns-then-next_unique-ne1 c catalog spelled =
    let one = one_catalog c.args.page.now c.in-Some.catalog catalog c.in-Some.ensures.found spelled in
    (λ yes. absurd (false≢true yes), λ fresh. absurd (omega (arith, c.if-next_unique-ne1.true, c.next_unique.ensures, ap (λ (x : Catalog). x.next_unique) (one ∙ fresh))))

pub returns : goal.returns
returns c catalog spelled =
    let one = one_catalog c.args.page.now c.in-Some.catalog catalog c.in-Some.ensures.found spelled in
    let none : length c.in-Some.catalog.entries ≡ 0 = omega (arith, c.if-len-ne0.false, c.len.ensures) in
    let next : c.in-Some.catalog.next_unique ≡ 1 = omega (arith, c.if-next_unique-ne1.false, c.next_unique.ensures) in
    (λ yes. sym one ∙ is_fresh c.in-Some.catalog none next (sym c.last_txn.ensures ∙ eqb-true c.last_txn.result 0 yes), λ fresh. eq-eqb c.last_txn.result 0 (c.last_txn.ensures ∙ ap (λ (x : Catalog). x.last) (one ∙ fresh)))
