use Rattle.std.proofs.Common.{List, ℕ, subst, sym, arith}
use Rattle.object_files.specs.Catalog.{CatalogOf}
use Rattle.object_files.specs.Reads.{catalog_on}
use Rattle.history_plans.specs.Files.{IsContentsOf}
use Rattle.history_plans.proofs.Results.{none_given}
use Rattle.history_plans.proofs.catalog.read_contents.Goals as goal

pub get-requires-clause-ready : goal.get-requires-clause-ready
get-requires-clause-ready g c = c.requires

pub returns-in-Err-clause-found : goal.returns-in-Err-clause-found
returns-in-Err-clause-found g c = tt

pub returns-in-Err-clause-sound : goal.returns-in-Err-clause-sound
returns-in-Err-clause-sound g c = λ damage. absurd (c.in-Err.ensures.no_damage damage)

pub returns-in-Ok-Some-clause-sound : goal.returns-in-Ok-Some-clause-sound
returns-in-Ok-Some-clause-sound g c = tt

pub returns-in-Ok-Some-clause-cause : goal.returns-in-Ok-Some-clause-cause
returns-in-Ok-Some-clause-cause g c = tt

pub returns-in-Ok-None-clause-found : goal.returns-in-Ok-None-clause-found
returns-in-Ok-None-clause-found g c = tt

pub returns-in-Err-contents_on-clause-found : goal.returns-in-Err-contents_on-clause-found
returns-in-Err-contents_on-clause-found g c = tt

pub returns-in-Err-contents_on-clause-sound : goal.returns-in-Err-contents_on-clause-sound
returns-in-Err-contents_on-clause-sound g c = λ damage. absurd damage

pub returns-in-Err-contents_on-clause-cause : goal.returns-in-Err-contents_on-clause-cause
returns-in-Err-contents_on-clause-cause g c = tt

pub returns-in-Ok-None-clause-sound : goal.returns-in-Ok-None-clause-sound
returns-in-Ok-None-clause-sound g c = λ damage told catalog spelled.
    none_given _ c.in-Ok-None.field-0 c.in-Ok-None.field-0-is c.in-Ok-None.ensures.none catalog (subst (λ (bytes : List ℕ). CatalogOf bytes catalog) (sym (c.in-Ok.ensures.bytes told)) spelled)

pub returns-in-Err-clause-kept : goal.returns-in-Err-clause-kept
returns-in-Err-clause-kept g c = c.get.follows.holds-at-none.0

pub returns-in-Ok-Some-clause-kept : goal.returns-in-Ok-Some-clause-kept
returns-in-Ok-Some-clause-kept g c = c.get.follows.holds-at-none.0

pub returns-in-Ok-None-clause-kept : goal.returns-in-Ok-None-clause-kept
returns-in-Ok-None-clause-kept g c = c.get.follows.holds-at-none.0

pub returns-in-Err-contents_on-clause-kept : goal.returns-in-Err-contents_on-clause-kept
returns-in-Err-contents_on-clause-kept g c = c.get.follows.holds-at-none.0

pub get-requires-clause-page : goal.get-requires-clause-page
get-requires-clause-page g c = let some = (g.V.Ground.geometry c.args.volume.now).some_pages in (omega arith, omega (arith, some))

pub returns-in-Ok-Some-clause-found : goal.returns-in-Ok-Some-clause-found
returns-in-Ok-Some-clause-found g c = λ told. subst (λ (bytes : List ℕ). IsContentsOf (catalog_on bytes) c.in-Ok-Some.contents) (c.in-Ok.ensures.bytes told) (rw c.in-Ok-Some.field-0-is at c.in-Ok-Some.ensures.found)
