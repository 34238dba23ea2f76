use Rattle.std.proofs.Common.{◌++◌, ℕ, List, subst}
use Rattle.sha2.specs.Hashers.{Holds256}
use Rattle.versions.proofs.digesting.feed.Goals as goal

pub returns-in-Ok-clause-fed : goal.returns-in-Ok-clause-fed
returns-in-Ok-clause-fed g c = λ told index head content bytes has.
    let read = c.in-Ok.ensures.bytes told index head content bytes has in
    (read.0, λ message holds. subst (λ (piece : List ℕ). Holds256 c.update.new.self (message ++ piece)) read.1 (c.update.ensures message holds))

pub returns-in-Err-clause-sound : goal.returns-in-Err-clause-sound
returns-in-Err-clause-sound g c = c.in-Err.ensures.sound

pub returns-in-Err-clause-fault : goal.returns-in-Err-clause-fault
returns-in-Err-clause-fault g c = c.in-Err.ensures.fault

pub returns-in-Err-clause-cause : goal.returns-in-Err-clause-cause
returns-in-Err-clause-cause g c = c.in-Err.ensures.cause

pub returns-in-Ok-clause-reads : goal.returns-in-Ok-clause-reads
returns-in-Ok-clause-reads g c = c.in-Ok.ensures.reads
