use Rattle.std.proofs.lemmas.Result.{IfErr-weaker, IfOk-weaker}
use Rattle.object_files.specs.Catalog.{CatalogOf}
use Rattle.ex_base.proofs.Handed.{no_value}
use Rattle.ex_base.proofs.Results.{if_err_handed}
use Rattle.std.proofs.Common.{arith, ℕ, List, subst, sym}
use Rattle.history_dump.proofs.file.number_at.Goals as goal

pub returns-clause-cause : goal.returns-clause-cause
returns-clause-cause g c = c.number_on.ensures.cause _ _

pub get-requires-clause-ready : goal.get-requires-clause-ready
get-requires-clause-ready g c = c.requires

pub returns-in_err-page-clause-number : goal.returns-in_err-page-clause-number
returns-in_err-page-clause-number g c = no_value c.from_residual.result _ c.in_err-page.field-0.0 c.from_residual.ensures.1

pub returns-in_err-page-clause-sound : goal.returns-in_err-page-clause-sound
returns-in_err-page-clause-sound g c = if_err_handed c.from_residual.result _ c.in_err-page.field-0.0 c.from_residual.ensures.1 (λ damage told catalog entry spelled is. c.in_err-page.ensures.no_damage damage)

pub returns-in_err-page-clause-kept : goal.returns-in_err-page-clause-kept
returns-in_err-page-clause-kept g c = c.get.follows.holds-at-none.0

pub returns-clause-kept : goal.returns-clause-kept
returns-clause-kept g c = c.get.follows.holds-at-none.0

pub get-requires-clause-page : goal.get-requires-clause-page
get-requires-clause-page g c = let some = (g.V.Ground.geometry c.args.volume.now).some_pages in (omega arith, omega (arith, some))

pub returns-clause-sound : goal.returns-clause-sound
returns-clause-sound g c = IfErr-weaker c.number_on.result _ _ (λ fault never damage told catalog entry spelled is. never catalog entry (subst (λ (t : List ℕ). CatalogOf t catalog) (sym (c.in_ok-page.ensures.bytes told)) spelled) is) c.number_on.ensures.sound

pub returns-clause-number : goal.returns-clause-number
returns-clause-number g c = IfOk-weaker c.number_on.result _ _ (λ number read told catalog entry spelled is. read catalog entry (subst (λ (t : List ℕ). CatalogOf t catalog) (sym (c.in_ok-page.ensures.bytes told)) spelled) is) c.number_on.ensures.number
