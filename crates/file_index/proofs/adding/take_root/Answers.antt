use Rattle.file_index.proofs.adding.take_root.Goals as goal

pub returns-in-Err-clause-made : goal.returns-in-Err-clause-made
returns-in-Err-clause-made g c = tt

pub returns-in-Err-clause-level : goal.returns-in-Err-clause-level
returns-in-Err-clause-level g c = tt

pub returns-in-Err-clause-placed : goal.returns-in-Err-clause-placed
returns-in-Err-clause-placed g c = tt

pub returns-in-Err-clause-free : goal.returns-in-Err-clause-free
returns-in-Err-clause-free g c = tt

pub returns-in-Err-clause-takes : goal.returns-in-Err-clause-takes
returns-in-Err-clause-takes g c = tt

pub returns-in-Err-clause-catalog : goal.returns-in-Err-clause-catalog
returns-in-Err-clause-catalog g c = tt

pub returns-in-Err-clause-touches : goal.returns-in-Err-clause-touches
returns-in-Err-clause-touches g c = tt

pub returns-in-Ok-clause-no_damage : goal.returns-in-Ok-clause-no_damage
returns-in-Ok-clause-no_damage g c = tt

pub returns-in-Ok-clause-cause : goal.returns-in-Ok-clause-cause
returns-in-Ok-clause-cause g c = tt

pub returns-in-Err-clause-no_damage : goal.returns-in-Err-clause-no_damage
returns-in-Err-clause-no_damage g c = c.in-Err.ensures.no_damage

pub returns-in-Err-clause-cause : goal.returns-in-Err-clause-cause
returns-in-Err-clause-cause g c = c.in-Err.ensures.cause

pub returns-in-Err-clause-leads : goal.returns-in-Err-clause-leads
returns-in-Err-clause-leads g c = c.take_index.ensures.leads

pub returns-in-Ok-clause-leads : goal.returns-in-Ok-clause-leads
returns-in-Ok-clause-leads g c = c.take_index.ensures.leads

pub returns-in-Ok-clause-touches : goal.returns-in-Ok-clause-touches
returns-in-Ok-clause-touches g c = c.take_index.ensures.touches

pub returns-in-Ok-clause-catalog : goal.returns-in-Ok-clause-catalog
returns-in-Ok-clause-catalog g c = c.in-Ok.ensures.catalog

pub returns-in-Ok-clause-takes : goal.returns-in-Ok-clause-takes
returns-in-Ok-clause-takes g c = c.in-Ok.ensures.takes

pub returns-in-Ok-clause-free : goal.returns-in-Ok-clause-free
returns-in-Ok-clause-free g c = c.in-Ok.ensures.free

pub returns-in-Ok-clause-placed : goal.returns-in-Ok-clause-placed
returns-in-Ok-clause-placed g c = c.in-Ok.ensures.area

pub take_index-requires-clause-buffer : goal.take_index-requires-clause-buffer
take_index-requires-clause-buffer g c = c.requires.buffer

pub take_index-requires-clause-level : goal.take_index-requires-clause-level
take_index-requires-clause-level g c = c.requires.level

pub take_index-requires-clause-free : goal.take_index-requires-clause-free
take_index-requires-clause-free g c = c.requires.free

pub take_index-requires-clause-ready : goal.take_index-requires-clause-ready
take_index-requires-clause-ready g c = c.requires.ready
