use Rattle.std.proofs.Common.{arith, length, refl}
use Rattle.std.proofs.lemmas.Option.{slice_get_read}
use Rattle.exsm_c.proofs.told.tell_call.Goals as goal

pub returns-then-i-asked-clause-told : goal.returns-then-i-asked-clause-told
returns-then-i-asked-clause-told c done = record {
  one = c.index-asked-i.result;
  is = slice_get_read c.args.asked.now (length c.args.asked.now) c.args.i c.index-asked-i.result refl (omega (arith, c.if-i-asked.true)) c.index-asked-i.is;
  told = c.told_call.ensures.call;
  bytes = c.told_call.ensures.bytes;
}
