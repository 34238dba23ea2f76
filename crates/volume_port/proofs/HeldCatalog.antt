-- The catalog's bytes, as the pages that a session holds give them, are the catalog that its view shows.
use Rattle.std.proofs.Common.{◌≡◌, ◌∙◌, ℕ, List, Option, Some, None, nat_eq, refl, sym, ap, subst}
use Rattle.std.specs.Prelude.{unwrap_or}
use Rattle.std.specs.Map.{lookup}
use Rattle.ex_base.specs.declared.geometry.Geometry.{Geometry}
use Rattle.ex_base.specs.Area.{catalog_no, page_at, leaf_at}
use Rattle.meta_pages.specs.Overlays.{over}
use Rattle.object_files.specs.Catalog.{CatalogOf}
use Rattle.op_log.specs.AfterLog.{logged, after_log}
use Rattle.session_views.specs.View.{View}
use Rattle.volume_model.specs.Shown.{Held, Shows, OverlayShown, laid_over, laid_over_page, working_units}
use Rattle.volume_model.specs.Volume.{Decoded}
use Rattle.volume_model.proofs.Showing.{page_unit, session_geometry, shows_catalog}

pub laid_over_log : (row : Option (Option (List ℕ))) (image : Option (List ℕ)) (home : List ℕ) → laid_over_page (unwrap_or image home) home row ≡ unwrap_or (over row image) home
laid_over_log None image home = refl
laid_over_log (Some None) image home = refl
laid_over_log (Some (Some bytes)) image home = refl

-- the bytes of the catalog, as the pages that the session holds give them
abbrev pub held_catalog : Held → List ℕ → List ℕ
held_catalog s disk = unwrap_or (over (lookup (nat_eq catalog_no) s.working_pages) (lookup (nat_eq catalog_no) s.overlay)) (page_at s.geometry disk catalog_no)

pub working_catalog : (d : Decoded) (v : View Held) → OverlayShown d v → v.session.geometry ≡ d.geometry → working_units d v.disk v.session.working_pages catalog_no ≡ held_catalog v.session v.disk
working_catalog d v overlay same =
    let rows = v.session.working_pages in
    let home = page_at d.geometry v.disk catalog_no in
    page_unit d.geometry (laid_over d.geometry v.disk (after_log d.geometry d.records v.disk) rows) (leaf_at d.geometry v.disk catalog_no)
    ∙ laid_over_log (lookup (nat_eq catalog_no) rows) (logged d.records catalog_no) home
    ∙ ap (λ (image : Option (List ℕ)). unwrap_or (over (lookup (nat_eq catalog_no) rows) image) home) (sym (overlay.just catalog_no))
    ∙ ap (λ (g : Geometry). unwrap_or (over (lookup (nat_eq catalog_no) rows) (lookup (nat_eq catalog_no) v.session.overlay)) (page_at g v.disk catalog_no)) (sym same)

-- The bytes of the catalog, as the session reads them, are the catalog that the view shows.
pub reads_catalog : {may_leave : List ℕ → Type 0} {v : View Held} (shows : Shows may_leave v) → CatalogOf (held_catalog v.session v.disk) shows.working.catalog
reads_catalog {may_leave} {v} shows =
    subst (λ (bytes : List ℕ). CatalogOf bytes shows.working.catalog) (working_catalog shows.decoded v shows.overlay (session_geometry shows)) (shows_catalog shows).catalog
