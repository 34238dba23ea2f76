use Rattle.object_files.proofs.CatalogLaws.{catalog_read}
use Rattle.object_files.proofs.catalog_of_a_page.Goals as goal

pub returns : goal.returns
returns c = catalog_read
