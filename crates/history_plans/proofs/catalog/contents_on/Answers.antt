use Rattle.std.proofs.Common.{◌≡◌, map, ap, sym, ◌∙◌}
use Rattle.object_files.specs.Catalog.{Catalog, number_of}
use Rattle.object_files.specs.Reads.{catalog_on}
use Rattle.object_files.proofs.CatalogLaws.{catalog_read}
use Rattle.history_plans.proofs.catalog.contents_on.Goals as goal

pub returns-clause-found : goal.returns-clause-found
returns-clause-found c =
    let same : c.in-Some.catalog ≡ catalog_on c.args.page.now = sym (catalog_read c.args.page.now c.in-Some.catalog c.in-Some.ensures.found) in
    record {
      next_unique = c.next_unique.ensures ∙ ap (λ (k : Catalog). k.next_unique) same;
      last = c.last_txn.ensures ∙ ap (λ (k : Catalog). k.last) same;
      files = c.in_ok-files.ensures ∙ ap (λ (k : Catalog). map number_of k.entries) same;
    }
