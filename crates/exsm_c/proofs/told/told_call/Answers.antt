use Rattle.std.proofs.Common.{subst, sym}
use Rattle.lent_host.specs.declared.host.Asked.{Asked}
use Rattle.exsm_c.specs.Told.{BeginsWith, bytes_to_write}
use Rattle.exsm_c.proofs.Fronts.{begins_none}
use Rattle.exsm_c.proofs.told.told_call.Goals as goal

pub returns-in-Sync-clause-bytes : goal.returns-in-Sync-clause-bytes
returns-in-Sync-clause-bytes c = subst (λ (asked : Asked). BeginsWith c.args.out.now (bytes_to_write asked)) (sym c.in-Sync.is) (begins_none c.args.out.now)
