use Rattle.exsm_c.proofs.exports.lists.tell_oid.Goals as goal

pub returns-then-i-len-clause-told : goal.returns-then-i-len-clause-told
returns-then-i-len-clause-told c done = record { oid = _; is = c.at.ensures; told = c.of.ensures }
