use Rattle.std.proofs.Common.{sym, ap, ◌∙◌}
use Rattle.object_files.specs.Catalog.{Catalog}
use Rattle.object_files.proofs.CatalogLaws.{catalog_read}
use Rattle.file_bodies.proofs.Entries.{is_catalog}
use Rattle.session_core.proofs.updates.creating.last_on.Goals as goal

pub returns-in-Some-clause-catalog : goal.returns-in-Some-clause-catalog
returns-in-Some-clause-catalog c = is_catalog c.args.page.now c.in-Some.view c.in-Some.ensures.found

pub returns-in-Some-clause-last : goal.returns-in-Some-clause-last
returns-in-Some-clause-last c = c.last_txn.ensures ∙ ap (λ (k : Catalog). k.last) (sym (catalog_read c.args.page.now c.in-Some.view c.in-Some.ensures.found))
