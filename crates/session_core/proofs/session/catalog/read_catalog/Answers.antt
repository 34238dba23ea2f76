use Rattle.std.proofs.Common.{subst}
use Rattle.object_files.specs.Edits.{IsCatalogPage}
use Rattle.session_core.proofs.Reading.{at_catalog}
use Rattle.session_core.proofs.session.catalog.read_catalog.Goals as goal

pub returns-in-Err-clause-behind : goal.returns-in-Err-clause-behind
returns-in-Err-clause-behind g c = λ behind. c.copy_of.ensures.behind at_catalog behind

pub returns-then-not-is_catalog-clause-behind : goal.returns-then-not-is_catalog-clause-behind
returns-then-not-is_catalog-clause-behind g c = λ behind. c.copy_of.ensures.behind at_catalog behind

pub returns-clause-behind : goal.returns-clause-behind
returns-clause-behind g c = λ behind. c.copy_of.ensures.behind at_catalog behind

pub returns-clause-catalog : goal.returns-clause-catalog
returns-clause-catalog g c = subst IsCatalogPage c.deref.ensures.value (c.is_catalog.ensures.yes c.if-not-is_catalog.false)
