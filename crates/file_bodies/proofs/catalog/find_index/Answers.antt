use Rattle.std.proofs.Common.{ℕ, List, sym, subst, ap, ◌∙◌}
use Rattle.object_files.specs.Edits.{IsCatalogPage, entries_on}
use Rattle.file_bodies.specs.Files.{index_in}
use Rattle.file_bodies.proofs.Entries.{is_catalog, entries_are, usable_if}
use Rattle.ex_base.proofs.Results.{if_err_handed}
use Rattle.file_bodies.proofs.catalog.find_index.Goals as goal

pub returns-in-Some-clause-found : goal.returns-in-Some-clause-found
returns-in-Some-clause-found g c = λ told.
    c.index_with.ensures ∙ ap (index_in c.args.file_no) (sym (entries_are c.in_ok-page.page.now c.in-Some.view c.in-Some.ensures.found))
    ∙ ap (λ (p : List ℕ). index_in c.args.file_no (entries_on p)) (c.in_ok-page.ensures.bytes told)

pub returns-in-Some-clause-usable : goal.returns-in-Some-clause-usable
returns-in-Some-clause-usable g c = usable_if c.args.file_no c.in-Some.view.entries c.index_with.result c.index_with.ensures c.in-Some.ensures.found.fits.entries

pub returns-in-None-clause-cause : goal.returns-in-None-clause-cause
returns-in-None-clause-cause g c = c.no_catalog.ensures.cause _ _

pub returns-in-Some-clause-whole : goal.returns-in-Some-clause-whole
returns-in-Some-clause-whole g c = λ told. subst (λ (t : List ℕ). IsCatalogPage t) (c.in_ok-page.ensures.bytes told) (is_catalog c.in_ok-page.page.now c.in-Some.view c.in-Some.ensures.found)

pub returns-in_err-page-clause-sound : goal.returns-in_err-page-clause-sound
returns-in_err-page-clause-sound g c =
    if_err_handed c.from_residual.result _ c.in_err-page.field-0.0 c.from_residual.ensures.1 (λ damage told whole. c.in_err-page.ensures.no_damage damage)

pub returns-in-Some-clause-kept : goal.returns-in-Some-clause-kept
returns-in-Some-clause-kept g c = c.get.follows.holds-at-none.0

pub returns-in-None-clause-kept : goal.returns-in-None-clause-kept
returns-in-None-clause-kept g c = c.get.follows.holds-at-none.0

pub returns-in_err-page-clause-kept : goal.returns-in_err-page-clause-kept
returns-in_err-page-clause-kept g c = c.get.follows.holds-at-none.0
