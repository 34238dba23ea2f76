use Rattle.std.proofs.lemmas.Result.{IfErr-weaker}
use Rattle.object_files.specs.Catalog.{CatalogOf}
use Rattle.ex_base.proofs.Handed.{no_value}
use Rattle.ex_base.proofs.Results.{if_err_handed}
use Rattle.std.proofs.Common.{arith, ℕ, List, subst, sym}
use Rattle.history_dump.proofs.file.put_head.Goals as goal

pub returns-clause-cause : goal.returns-clause-cause
returns-clause-cause g c = c.put_entry.ensures.cause _ _

pub get-requires-clause-ready : goal.get-requires-clause-ready
get-requires-clause-ready g c = c.requires.ready

pub returns-in_err-page-clause-item : goal.returns-in_err-page-clause-item
returns-in_err-page-clause-item g c = no_value c.from_residual.result _ c.in_err-page.field-0.0 c.from_residual.ensures.1

pub returns-in_err-page-clause-some : goal.returns-in_err-page-clause-some
returns-in_err-page-clause-some g c = no_value c.from_residual.result _ c.in_err-page.field-0.0 c.from_residual.ensures.1

pub returns-in_err-page-clause-inside : goal.returns-in_err-page-clause-inside
returns-in_err-page-clause-inside g c = no_value c.from_residual.result _ c.in_err-page.field-0.0 c.from_residual.ensures.1

pub returns-in_err-page-clause-sound : goal.returns-in_err-page-clause-sound
returns-in_err-page-clause-sound g c = if_err_handed c.from_residual.result _ c.in_err-page.field-0.0 c.from_residual.ensures.1 (λ damage told catalog entry spelled is. c.in_err-page.ensures.no_damage damage)

pub returns-clause-some : goal.returns-clause-some
returns-clause-some g c = c.put_entry.ensures.some

pub returns-clause-inside : goal.returns-clause-inside
returns-clause-inside g c = c.put_entry.ensures.inside

pub returns-in_err-page-clause-kept : goal.returns-in_err-page-clause-kept
returns-in_err-page-clause-kept g c = c.get.follows.holds-at-none.0

pub returns-clause-kept : goal.returns-clause-kept
returns-clause-kept g c = c.get.follows.holds-at-none.0

pub get-requires-clause-page : goal.get-requires-clause-page
get-requires-clause-page g c = let some = (g.V.Ground.geometry c.args.volume.now).some_pages in (omega arith, omega (arith, some))

pub put_entry-requires : goal.put_entry-requires
put_entry-requires g c = record { room = c.requires.room }

pub returns-clause-sound : goal.returns-clause-sound
returns-clause-sound g c = IfErr-weaker c.put_entry.result _ _ (λ fault never damage told catalog entry spelled is. never catalog entry (subst (λ (t : List ℕ). CatalogOf t catalog) (sym (c.in_ok-page.ensures.bytes told)) spelled) is) c.put_entry.ensures.sound
