use Rattle.record_lists.proofs.indexes.entries_at.Goals as goal

pub returns-then-not-in_area-clause-cause : goal.returns-then-not-in_area-clause-cause
returns-then-not-in_area-clause-cause g c = c.no_index.ensures.cause _ _

pub returns-in-Err-clause-cause : goal.returns-in-Err-clause-cause
returns-in-Err-clause-cause g c = c.in-Err.ensures.damage _ _
