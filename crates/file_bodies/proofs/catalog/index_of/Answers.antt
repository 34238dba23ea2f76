use Rattle.std.proofs.Common.{sym, ◌∙◌}
use Rattle.ex_base.proofs.Options.{at_some}
use Rattle.file_bodies.proofs.catalog.index_of.Goals as goal

pub returns-in-Ok-None-clause-cause : goal.returns-in-Ok-None-clause-cause
returns-in-Ok-None-clause-cause g c = c.no_catalog.ensures.cause _ _

pub returns-in-Ok-Some-clause-lists : goal.returns-in-Ok-Some-clause-lists
returns-in-Ok-Some-clause-lists g c =
    λ told. record { whole = c.in-Ok-Some.ensures.whole told; entry = sym (c.in-Ok-Some.ensures.found told) ∙ c.in-Ok-Some.field-0-is }

pub returns-in-Ok-Some-clause-usable : goal.returns-in-Ok-Some-clause-usable
returns-in-Ok-Some-clause-usable g c = at_some c.in-Ok-Some.field-0 c.in-Ok-Some.index _ c.in-Ok-Some.field-0-is c.in-Ok-Some.ensures.usable

pub returns-in-Ok-Some-clause-kept : goal.returns-in-Ok-Some-clause-kept
returns-in-Ok-Some-clause-kept g c = c.find_index.ensures.kept
