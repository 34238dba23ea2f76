use Rattle.transactions.proofs.LaterSessions.{memory_stop}
use Rattle.object_files.specs.Reads.{catalog_on}
use Rattle.object_files.specs.Catalog.{CatalogOf}
use Rattle.std.proofs.Common.{◌∙◌, ap, map, refl, sym, subst, ℕ, List}
use Rattle.object_files.specs.Catalog.{Catalog, name_of}
use Rattle.transactions.proofs.Accepted.{files_quietly}
use Rattle.session_core.proofs.Sessions.{viewed}
use Rattle.transactions.proofs.tell.files.Goals as goal

pub returns-in-Ok : goal.returns-in-Ok
returns-in-Ok g c =
    files_quietly c.args.session.now c.catalog.new.self c.in_ok-page.page.items c.in-Ok.names c.catalog.ensures.session c.catalog.ensures.frames (record { catalog = c.in_ok-page.ensures.catalog; read = c.in_ok-page.ensures.read })
    (c.in-Ok.ensures ∙ ap (λ (v : Catalog). map name_of v.entries) (viewed c.view_of.result c.deref.result.now c.in_ok-page.page.items c.view_of.ensures c.deref.ensures.value))

pub view_of-requires : goal.view_of-requires
view_of-requires g c = subst (λ (b : List ℕ). CatalogOf b (catalog_on b)) (sym c.deref.ensures.value) c.in_ok-page.ensures.catalog

pub returns : goal.returns
returns g c = memory_stop c.catalog.ensures.frames _ _ refl refl refl refl
