use Rattle.file_index.proofs.Chains.{same_gives}
use Rattle.file_index.proofs.removing.write_child.Goals as goal

pub returns-in-Err-replace_one-clause-cause : goal.returns-in-Err-replace_one-clause-cause
returns-in-Err-replace_one-clause-cause g c = c.in-Err-replace_one.ensures.cause _ _

pub returns-in-Err-clause-written : goal.returns-in-Err-clause-written
returns-in-Err-clause-written g c = tt

pub returns-in-Err-clause-changes : goal.returns-in-Err-clause-changes
returns-in-Err-clause-changes g c = tt

pub returns-in-Err-clause-items : goal.returns-in-Err-clause-items
returns-in-Err-clause-items g c = tt

pub returns-in-Err-clause-same : goal.returns-in-Err-clause-same
returns-in-Err-clause-same g c = tt

pub returns-in-Err-clause-free : goal.returns-in-Err-clause-free
returns-in-Err-clause-free g c = tt

pub returns-in-Err-clause-gives : goal.returns-in-Err-clause-gives
returns-in-Err-clause-gives g c = tt

pub returns-in-Err-clause-catalog : goal.returns-in-Err-clause-catalog
returns-in-Err-clause-catalog g c = tt

pub returns-in-Err-clause-touches : goal.returns-in-Err-clause-touches
returns-in-Err-clause-touches g c = tt

pub returns-in-Err-replace_one-clause-written : goal.returns-in-Err-replace_one-clause-written
returns-in-Err-replace_one-clause-written g c = tt

pub returns-in-Err-replace_one-clause-changes : goal.returns-in-Err-replace_one-clause-changes
returns-in-Err-replace_one-clause-changes g c = tt

pub returns-in-Err-replace_one-clause-items : goal.returns-in-Err-replace_one-clause-items
returns-in-Err-replace_one-clause-items g c = tt

pub returns-in-Err-replace_one-clause-same : goal.returns-in-Err-replace_one-clause-same
returns-in-Err-replace_one-clause-same g c = tt

pub returns-in-Err-replace_one-clause-free : goal.returns-in-Err-replace_one-clause-free
returns-in-Err-replace_one-clause-free g c = tt

pub returns-in-Err-replace_one-clause-gives : goal.returns-in-Err-replace_one-clause-gives
returns-in-Err-replace_one-clause-gives g c = tt

pub returns-in-Err-replace_one-clause-catalog : goal.returns-in-Err-replace_one-clause-catalog
returns-in-Err-replace_one-clause-catalog g c = tt

pub returns-in-Err-replace_one-clause-touches : goal.returns-in-Err-replace_one-clause-touches
returns-in-Err-replace_one-clause-touches g c = tt

pub returns-in-Ok-replace_one-clause-no_damage : goal.returns-in-Ok-replace_one-clause-no_damage
returns-in-Ok-replace_one-clause-no_damage g c = tt

pub returns-in-Ok-replace_one-clause-cause : goal.returns-in-Ok-replace_one-clause-cause
returns-in-Ok-replace_one-clause-cause g c = tt

pub returns-in-Ok-replace_one-clause-leads : goal.returns-in-Ok-replace_one-clause-leads
returns-in-Ok-replace_one-clause-leads g c = c.put_index.ensures.leads

pub returns-in-Ok-replace_one-clause-touches : goal.returns-in-Ok-replace_one-clause-touches
returns-in-Ok-replace_one-clause-touches g c = c.put_index.ensures.touches

pub returns-in-Err-replace_one-clause-leads : goal.returns-in-Err-replace_one-clause-leads
returns-in-Err-replace_one-clause-leads g c = c.put_index.ensures.leads

pub returns-in-Err-clause-leads : goal.returns-in-Err-clause-leads
returns-in-Err-clause-leads g c = c.put_index.ensures.leads

pub returns-in-Err-clause-no_damage : goal.returns-in-Err-clause-no_damage
returns-in-Err-clause-no_damage g c = c.in-Err.ensures.no_damage

pub returns-in-Err-clause-cause : goal.returns-in-Err-clause-cause
returns-in-Err-clause-cause g c = c.in-Err.ensures.cause

pub returns-in-Err-replace_one-clause-no_damage : goal.returns-in-Err-replace_one-clause-no_damage
returns-in-Err-replace_one-clause-no_damage g c = c.in-Err-replace_one.ensures.no_damage

pub replace_one-requires : goal.replace_one-requires
replace_one-requires g c = c.requires.at

pub put_index-requires-clause-some : goal.put_index-requires-clause-some
put_index-requires-clause-some g c = c.requires.some

pub put_index-requires-clause-buffer : goal.put_index-requires-clause-buffer
put_index-requires-clause-buffer g c = c.requires.buffer

pub put_index-requires-clause-level : goal.put_index-requires-clause-level
put_index-requires-clause-level g c = c.requires.level

pub put_index-requires-clause-room : goal.put_index-requires-clause-room
put_index-requires-clause-room g c = c.requires.room

pub put_index-requires-clause-held : goal.put_index-requires-clause-held
put_index-requires-clause-held g c = c.requires.held

pub put_index-requires-clause-ready : goal.put_index-requires-clause-ready
put_index-requires-clause-ready g c = c.requires.ready

pub returns-in-Ok-replace_one-clause-written : goal.returns-in-Ok-replace_one-clause-written
returns-in-Ok-replace_one-clause-written g c = c.in-Ok.ensures.written

pub returns-in-Ok-replace_one-clause-changes : goal.returns-in-Ok-replace_one-clause-changes
returns-in-Ok-replace_one-clause-changes g c = c.in-Ok.ensures.changes

pub returns-in-Ok-replace_one-clause-free : goal.returns-in-Ok-replace_one-clause-free
returns-in-Ok-replace_one-clause-free g c = c.in-Ok.ensures.free

pub returns-in-Ok-replace_one-clause-catalog : goal.returns-in-Ok-replace_one-clause-catalog
returns-in-Ok-replace_one-clause-catalog g c = c.in-Ok.ensures.catalog

pub returns-in-Ok-replace_one-clause-gives : goal.returns-in-Ok-replace_one-clause-gives
returns-in-Ok-replace_one-clause-gives g c = same_gives g.P.Ground _ _ c.in-Ok.ensures.held c.in-Ok.ensures.used
