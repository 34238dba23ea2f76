use Rattle.transactions.proofs.LaterSessions.{memory_stop}
use Rattle.object_files.specs.Reads.{catalog_on}
use Rattle.object_files.specs.Catalog.{CatalogOf}
use Rattle.transactions.proofs.LaterSessions.{few_notes, few_touched}
use Rattle.std.proofs.Common.{◌-◌, map}
use Rattle.std.specs.Prelude.{Contains}
use Rattle.object_files.specs.Catalog.{name_of}
use Rattle.object_files.specs.Edits.{IsCatalogPage}
use Rattle.std.proofs.Common.{◌∙◌, sym, subst, List, ℕ}
use Rattle.object_files.specs.Catalog.{Catalog}
use Rattle.table_model.specs.Requests as request
use Rattle.transactions.proofs.Accepted.{file_told, file_no}
use Rattle.session_core.proofs.Accepted.{no_open_txn}
use Rattle.transactions.proofs.Files.{name_is, name_unused, edited_page}
use Rattle.session_core.proofs.Refusing.{closed_refused}
use Rattle.session_core.proofs.Sessions.{viewed}
use Rattle.transactions.proofs.updates.file.Goals as goal
use Rattle.ex_base.proofs.Results.{if_no_error}

pub returns-then-not-is_open : goal.returns-then-not-is_open
returns-then-not-is_open g c =
    no_open_txn c.args.session.now (request.File c.args.name.now) c.is_open.ensures.session (sym c.is_open.ensures.value ∙ c.if-not-is_open.true)
    (λ m q closed. closed_refused m _ closed)

pub returns-in-Some : goal.returns-in-Some
returns-in-Some g c =
    file_no c.args.session.now c.catalog.new.self c.in_ok-page.page.items c.args.name.now c.in-Some.why c.view_of.result c.is_open.ensures.session c.catalog.ensures.frames
    (sym c.is_open.ensures.value ∙ c.if-not-is_open.false) (record { catalog = c.in_ok-page.ensures.catalog; read = c.in_ok-page.ensures.read })
    (viewed c.view_of.result c.deref.result.now c.in_ok-page.page.items c.view_of.ensures c.deref.ensures.value) c.in-Some.ensures

pub put_file-file_no-requires-clause-name : goal.put_file-file_no-requires-clause-name
put_file-file_no-requires-clause-name g c = name_is c.args.name.now c.requires.name

pub put_file-file_no-requires-clause-unused : goal.put_file-file_no-requires-clause-unused
put_file-file_no-requires-clause-unused g c =
    subst (λ (v : Catalog). Contains (map name_of v.entries) c.args.name.now → ⊥) (viewed c.view_of.result c.deref.result.now c.in_ok-page.page.items c.view_of.ensures c.deref.ensures.value)
    (name_unused c.catalog.new.self c.view_of.result c.args.name.now c.in_default.ensures)

pub update_catalog-requires-clause-catalog : goal.update_catalog-requires-clause-catalog
update_catalog-requires-clause-catalog g c =
    subst (λ (b : List ℕ). IsCatalogPage b) (sym c.deref-2.ensures.value) (edited_page c.in_ok-page.page.items c.put_file-file_no.new.page.items _ c.put_file-file_no.ensures.added)

pub returns-in-Ok : goal.returns-in-Ok
returns-in-Ok g c =
    file_told c.put_file-file_no.result (viewed c.view_of.result c.deref.result.now c.in_ok-page.page.items c.view_of.ensures c.deref.ensures.value) c.in_default.ensures c.deref-2.ensures.value c.in-Ok.ensures
    (if_no_error c.update_catalog.result (sym c.if-is_err.ensures.value) c.update_catalog.ensures.done) c.put_file-file_no.ensures.added
    c.is_open.ensures.session c.catalog.ensures.frames (sym c.is_open.ensures.value ∙ c.if-not-is_open.false)
    (record { catalog = c.in_ok-page.ensures.catalog; read = c.in_ok-page.ensures.read }) c.requires.name

pub view_of-requires : goal.view_of-requires
view_of-requires g c = subst (λ (b : List ℕ). CatalogOf b (catalog_on b)) (sym c.deref.ensures.value) c.in_ok-page.ensures.catalog

pub returns : goal.returns
returns g c = memory_stop c.catalog.ensures.frames _ _ c.update_catalog.ensures.geometry c.update_catalog.ensures.log c.update_catalog.ensures.down c.update_catalog.ensures.scans

pub returns-then-is_err : goal.returns-then-is_err
returns-then-is_err g c = memory_stop c.catalog.ensures.frames _ _ c.update_catalog.ensures.geometry c.update_catalog.ensures.log c.update_catalog.ensures.down c.update_catalog.ensures.scans
