use Rattle.std.proofs.Common.{◌≡◌, ◌∙◌, ℕ, List, length, sym, ap, subst, arith}
use Rattle.std.proofs.lemmas.List.{with_items_is}
use Rattle.object_files.specs.Catalog.{CatalogOf, fresh_catalog}
use Rattle.history_load.proofs.loader.new_catalog.Goals as goal

pub returns-clause-size : goal.returns-clause-size
returns-clause-size c =
    let long : length c.empty_catalog.new.image ≡ c.in_ok-catalog.catalog.len = omega (arith, c.empty_catalog.auto.image, c.deref_mut.ensures.len) in
    let made = with_items_is c.in_ok-catalog.catalog c.empty_catalog.new.image long in
    ap length made ∙ omega (arith, c.empty_catalog.auto.image, ap length c.deref_mut.ensures.value, c.in_ok-catalog.ensures)

pub returns-clause-none : goal.returns-clause-none
returns-clause-none c =
    let long : length c.empty_catalog.new.image ≡ c.in_ok-catalog.catalog.len = omega (arith, c.empty_catalog.auto.image, c.deref_mut.ensures.len) in
    let made = with_items_is c.in_ok-catalog.catalog c.empty_catalog.new.image long in
    subst (λ (b : List ℕ). CatalogOf b fresh_catalog) (sym made) c.empty_catalog.ensures
