use Rattle.object_files.proofs.CatalogLaws.{spelled_reads}
use Rattle.object_files.specs.Reads.{catalog_on}
use Rattle.object_files.proofs.view.CatalogView.known.Goals as goal

pub invariant_of-result : goal.invariant_of-result
invariant_of-result c = spelled_reads c.args.page.now (catalog_on c.args.page.now) c.requires
