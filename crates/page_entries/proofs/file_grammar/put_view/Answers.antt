use Rattle.std.proofs.Common.{◌≡◌, ℕ, List, ◌+◌, ◌*◌, length, arith}
use Rattle.object_files.specs.Catalog.{Catalog, CatalogOf, FileEntry}
use Rattle.ex_base.specs.Fields.{number_at}
use Rattle.ex_base.proofs.Options.{if_some_both}
use Rattle.page_entries.specs.Said.{put_catalog}
use Rattle.page_entries.specs.Fronts.{ArePut}
use Rattle.page_entries.proofs.Files.{put_page, put_written, put_found, put_none, if_none_as}
use Rattle.page_entries.proofs.file_grammar.put_view.Goals as goal

pub returns-clause-found : goal.returns-clause-found
returns-clause-found c =
    let size : ℕ = length c.args.page.now in
    let page : c.write_catalog.new.image ≡ put_page c.args.fields.now (length c.args.page.now) =
    put_written c.write_catalog.new.image c.args.fields.now (length c.args.page.now) c.count_of_put.result c.get_u64.result c.get_u64-2.result (18 + 4 * c.get_u16.result + 2) (omega (arith, c.get_u16.ensures)) c.count_of_put.ensures.value c.get_u64.ensures c.get_u64-2.ensures c.requires.entries c.write_catalog.ensures in
    if_some_both c.of.result (λ (x : Catalog). CatalogOf c.write_catalog.new.image x) (λ (x : Catalog). ArePut (length c.args.page.now) c.args.fields.now x.entries)
    (λ x h. (put_found c.write_catalog.new.image c.args.fields.now (length c.args.page.now) x (λ i. omega (arith, c.type_inv.fields i)) c.write_catalog.auto.image page c.requires.entries h).0) c.of.ensures.found

pub returns-clause-numbers : goal.returns-clause-numbers
returns-clause-numbers c =
    let page : c.write_catalog.new.image ≡ put_page c.args.fields.now (length c.args.page.now) =
    put_written c.write_catalog.new.image c.args.fields.now (length c.args.page.now) c.count_of_put.result c.get_u64.result c.get_u64-2.result (18 + 4 * c.get_u16.result + 2) (omega (arith, c.get_u16.ensures)) c.count_of_put.ensures.value c.get_u64.ensures c.get_u64-2.ensures c.requires.entries c.write_catalog.ensures in
    if_some_both c.of.result (λ (x : Catalog). CatalogOf c.write_catalog.new.image x) (λ (x : Catalog). x ≡ put_catalog (number_at 8 c.args.fields.now 0) (number_at 8 c.args.fields.now 8) x.entries)
    (λ x h. (put_found c.write_catalog.new.image c.args.fields.now (length c.args.page.now) x (λ i. omega (arith, c.type_inv.fields i)) c.write_catalog.auto.image page c.requires.entries h).1) c.of.ensures.found

pub returns-clause-none : goal.returns-clause-none
returns-clause-none c =
    let page : c.write_catalog.new.image ≡ put_page c.args.fields.now (length c.args.page.now) =
    put_written c.write_catalog.new.image c.args.fields.now (length c.args.page.now) c.count_of_put.result c.get_u64.result c.get_u64-2.result (18 + 4 * c.get_u16.result + 2) (omega (arith, c.get_u16.ensures)) c.count_of_put.ensures.value c.get_u64.ensures c.get_u64-2.ensures c.requires.entries c.write_catalog.ensures in
    if_none_as c.of.result ((x : Catalog) → CatalogOf c.write_catalog.new.image x → ⊥) ((put : List FileEntry) → ArePut (length c.args.page.now) c.args.fields.now put → ⊥)
    (λ none put h. none (put_catalog (number_at 8 c.args.fields.now 0) (number_at 8 c.args.fields.now 8) put) (put_none c.write_catalog.new.image c.args.fields.now (length c.args.page.now) put c.write_catalog.auto.image page h)) c.of.ensures.none
