use Rattle.std.proofs.Common.{sym, subst}
use Rattle.object_files.specs.Catalog.{Catalog, CatalogOf}
use Rattle.object_files.proofs.CatalogLaws.{catalog_read}
use Rattle.session_core.proofs.session.catalog.is_catalog.Goals as goal

pub returns-in-Some-clause-yes : goal.returns-in-Some-clause-yes
returns-in-Some-clause-yes c = λ _. subst (λ (k : Catalog). CatalogOf c.args.page.now k) (sym (catalog_read c.args.page.now c.in-Some.field-0 c.in-Some.ensures.found)) c.in-Some.ensures.found
