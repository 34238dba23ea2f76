-- What stands on a page, or in a body, is one thing alone.
use Rattle.std.proofs.Common.{◌≡◌, ℕ, List, sym, ◌∙◌}
use Rattle.slotted_pages.specs.FilePage.{FilePage, SlotsOf}
use Rattle.slotted_pages.proofs.PageLaws.{page_read_is}
use Rattle.object_records.specs.Record.{Record, BodyOf}
use Rattle.object_records.proofs.RecordLaws.{record_read}
use Rattle.object_files.specs.Catalog.{Catalog, CatalogOf}
use Rattle.object_files.proofs.CatalogLaws.{catalog_read}

pub one_page : (page : List ℕ) (a b : FilePage) → SlotsOf page a → SlotsOf page b → a ≡ b
one_page page a b p q = sym (page_read_is page a p) ∙ page_read_is page b q

pub one_record : (bytes : List ℕ) (a b : Record) → BodyOf bytes a → BodyOf bytes b → a ≡ b
one_record bytes a b p q = sym (record_read bytes a p) ∙ record_read bytes b q

pub one_catalog : (page : List ℕ) (a b : Catalog) → CatalogOf page a → CatalogOf page b → a ≡ b
one_catalog page a b p q = sym (catalog_read page a p) ∙ catalog_read page b q
