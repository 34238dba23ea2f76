use Rattle.std.proofs.Common.{sym, ap, subst}
use Rattle.object_files.specs.Catalog.{Catalog, CatalogOf, fresh_catalog}
use Rattle.object_files.proofs.CatalogLaws.{catalog_read}
use Rattle.history_load.proofs.loader.no_files.Goals as goal

pub returns-clause-ready : goal.returns-clause-ready
returns-clause-ready c =
    record {
      catalog = subst (λ (k : Catalog). CatalogOf c.in_ok-new_catalog.field-0.items k) (sym (catalog_read c.in_ok-new_catalog.field-0.items fresh_catalog c.in_ok-new_catalog.ensures.none)) c.in_ok-new_catalog.ensures.none;
      catalog_size = c.in_ok-new_catalog.ensures.size;
      page_size = c.in_ok-new_page.ensures;
      behind = c.requires;
      desk = c.in_ok-new_desk.ensures;
    }

pub returns-clause-none : goal.returns-clause-none
returns-clause-none c = ap (λ (k : Catalog). k.entries) (catalog_read c.in_ok-new_catalog.field-0.items fresh_catalog c.in_ok-new_catalog.ensures.none)
