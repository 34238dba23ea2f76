use Rattle.history_plans.proofs.files.walk_record.Goals as goal

pub walk_root-requires : goal.walk_root-requires
walk_root-requires g c = c.requires

pub returns-in-Some-clause-kept : goal.returns-in-Some-clause-kept
returns-in-Some-clause-kept g c = c.walk_root.ensures.kept

pub returns-in-Some-clause-cause : goal.returns-in-Some-clause-cause
returns-in-Some-clause-cause g c = c.walk_root.ensures.cause

pub returns-in-None-clause-sound : goal.returns-in-None-clause-sound
returns-in-None-clause-sound g c = tt

pub returns-in-None-clause-cause : goal.returns-in-None-clause-cause
returns-in-None-clause-cause g c = tt
