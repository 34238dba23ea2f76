use Rattle.std.proofs.Common.{sym, subst}
use Rattle.exsm_c.specs.Owned.{IsOpen}
use Rattle.exsm_c.specs.declared.handle.Handle.{Handle}
use Rattle.exsm_c.proofs.handle.take.Goals as goal

pub unseal-requires : goal.unseal-requires
unseal-requires c = subst (λ (h : Handle). IsOpen h.value) (sym c.replace.ensures.value) c.requires
