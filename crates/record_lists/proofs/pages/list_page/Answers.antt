use Rattle.record_lists.proofs.pages.list_page.Goals as goal

pub returns-then-not-in_area-clause-cause : goal.returns-then-not-in_area-clause-cause
returns-then-not-in_area-clause-cause g c = c.no_page.ensures.cause _ _

pub returns-in-Ok-clause-cause : goal.returns-in-Ok-clause-cause
returns-in-Ok-clause-cause g c = c.list_bodies.ensures.cause _ _

pub returns-in-Err-clause-cause : goal.returns-in-Err-clause-cause
returns-in-Err-clause-cause g c = c.in-Err.ensures.cause _ _
