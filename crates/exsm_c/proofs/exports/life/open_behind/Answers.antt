use Rattle.exsm_c.proofs.Opening.{bad_part, fault_memory, fault_not_done, never_bad, only_memory, opened_on}
use Rattle.exsm_c.proofs.exports.life.open_behind.Goals as goal

pub returns-in-Ok-clause-opened : goal.returns-in-Ok-clause-opened
returns-in-Ok-clause-opened c done =
    opened_on c.args.file.bytes c.args.asked.items c.args.image.now c.requires.lent.0 c.in-Ok.volume _ _ c.in-Ok.ensures.lent c.in-Ok.ensures.opens (c.keep_volume.ensures.kept done)

pub returns-in-Ok-clause-bad : goal.returns-in-Ok-clause-bad
returns-in-Ok-clause-bad c bad = absurd (never_bad c.keep_volume.result c.keep_volume.ensures.codes bad)

pub returns-in-Ok-clause-memory : goal.returns-in-Ok-clause-memory
returns-in-Ok-clause-memory c not_done good = only_memory c.keep_volume.result c.keep_volume.ensures.codes not_done

pub returns-in-Err-clause-opened : goal.returns-in-Err-clause-opened
returns-in-Err-clause-opened c done = absurd (fault_not_done c.in-Err.fault c.tell_fault.result c.tell_fault.ensures.code done)

pub returns-in-Err-clause-bad : goal.returns-in-Err-clause-bad
returns-in-Err-clause-bad c bad =
    bad_part c.args.file.bytes c.args.asked.items c.args.image.now c.requires.lent.0 c.in-Err.fault c.tell_fault.result c.tell_fault.new.part c.in-Err.ensures.opens c.tell_fault.ensures.code c.tell_fault.ensures.bad bad

pub returns-in-Err-clause-memory : goal.returns-in-Err-clause-memory
returns-in-Err-clause-memory c not_done good = fault_memory c.in-Err.fault c.tell_fault.result c.tell_fault.ensures.code good
