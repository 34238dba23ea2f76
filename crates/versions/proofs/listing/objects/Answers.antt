use Rattle.std.proofs.Common.{rules, List, subst}
use Rattle.std.proofs.lemmas.List.Sorted.{answers_always}
use Rattle.ex_base.specs.declared.names.Oid.{Oid}
use Rattle.std.specs.Prelude.{IsPermutation}
use Rattle.versions.proofs.listing.objects.Goals as goal

pub returns-in-Ok-clause-ordered : goal.returns-in-Ok-clause-ordered
returns-in-Ok-clause-ordered g c = c.sort_unstable_by_key.ensures.sorted (λ (oid : Oid). oid.unique) (answers_always _ _ _ (λ f a r h k. search rules))

pub returns-in-Ok-clause-oids : goal.returns-in-Ok-clause-oids
returns-in-Ok-clause-oids g c = λ told index file same.
    subst (λ (t : List Oid). IsPermutation t c.sort_unstable_by_key.new.self.items) (c.in-Ok.ensures.oids told index file same) c.sort_unstable_by_key.ensures.permutation

pub returns-in-Ok-clause-walk : goal.returns-in-Ok-clause-walk
returns-in-Ok-clause-walk g c = c.in-Ok.ensures.walk

pub returns-in-Ok-clause-kept : goal.returns-in-Ok-clause-kept
returns-in-Ok-clause-kept g c = c.list_file.ensures.kept

pub returns-in-Ok-clause-sound : goal.returns-in-Ok-clause-sound
returns-in-Ok-clause-sound g c = tt

pub returns-in-Ok-clause-fault : goal.returns-in-Ok-clause-fault
returns-in-Ok-clause-fault g c = tt

pub returns-in-Ok-clause-cause : goal.returns-in-Ok-clause-cause
returns-in-Ok-clause-cause g c = tt

pub returns-in-Err-clause-sound : goal.returns-in-Err-clause-sound
returns-in-Err-clause-sound g c = c.in-Err.ensures.sound

pub returns-in-Err-clause-fault : goal.returns-in-Err-clause-fault
returns-in-Err-clause-fault g c = c.in-Err.ensures.fault

pub returns-in-Err-clause-cause : goal.returns-in-Err-clause-cause
returns-in-Err-clause-cause g c = c.in-Err.ensures.cause

pub returns-in-Err-clause-kept : goal.returns-in-Err-clause-kept
returns-in-Err-clause-kept g c = c.list_file.ensures.kept

pub returns-in-Err-clause-oids : goal.returns-in-Err-clause-oids
returns-in-Err-clause-oids g c = tt

pub returns-in-Err-clause-walk : goal.returns-in-Err-clause-walk
returns-in-Err-clause-walk g c = tt

pub returns-in-Err-clause-ordered : goal.returns-in-Err-clause-ordered
returns-in-Err-clause-ordered g c = tt
