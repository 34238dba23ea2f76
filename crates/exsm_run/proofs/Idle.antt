-- A host that was not called.
use Rattle.std.proofs.Common.{◌≡◌, OnOk, Result, Ok, Err, sym, subst}
use Rattle.disk_model.specs.Calls.{MakesCalls}
use Rattle.disk_model.specs.Outside.{Outside}
use Rattle.disk_model.specs.Runs.{no_calls}

pub calls_nothing : {H : Type 0} (outside : H → Outside) {old new : H} → new ≡ old → MakesCalls 0 (outside old) (outside new)
calls_nothing {H} outside {old} same = subst (λ (h : H). MakesCalls 0 (outside old) (outside h)) (sym same) (no_calls (outside old))

-- What follows from a reply's promise is so of the reply.
pub if_replied : {T E P Q : Type 0} (r : Result T E) → (P → Q) → OnOk r P → OnOk r Q
if_replied (Ok x) then given = then given
if_replied (Err e) then given = tt
