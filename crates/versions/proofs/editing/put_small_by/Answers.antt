use Rattle.versions.proofs.Puts.{small_fits}
use Rattle.versions.proofs.editing.put_small_by.Goals as goal
use Rattle.ex_base.proofs.Results.{if_ok_both}

pub write_small-requires-clause-fits : goal.write_small-requires-clause-fits
write_small-requires-clause-fits g c = small_fits c.args.head.now c.args.bytes.now c.requires.head c.requires.short

pub returns-clause-put : goal.returns-clause-put
returns-clause-put g c = if_ok_both c.change_body.result _ _ _ (λ done changed put t told index was has. record {
  body = c.write_small.new.out;
  spelled = c.write_small.ensures;
  edit = changed t told index was has;
  image = (put t).0;
  put = (put t).1;
  leads = c.change_body.ensures.leads;
}) c.change_body.ensures.changed c.change_body.ensures.put

pub returns-clause-kept : goal.returns-clause-kept
returns-clause-kept g c = c.change_body.ensures.kept

pub returns-clause-free : goal.returns-clause-free
returns-clause-free g c = c.change_body.ensures.free

pub returns-clause-sound : goal.returns-clause-sound
returns-clause-sound g c = c.change_body.ensures.sound

pub returns-clause-fault : goal.returns-clause-fault
returns-clause-fault g c = c.change_body.ensures.fault

pub returns-clause-touches : goal.returns-clause-touches
returns-clause-touches g c = c.change_body.ensures.touches

pub returns-clause-leads : goal.returns-clause-leads
returns-clause-leads g c = c.change_body.ensures.leads

pub returns-clause-cause : goal.returns-clause-cause
returns-clause-cause g c = c.change_body.ensures.cause
