-- The state of a version, by whether it is frozen.
use Rattle.std.proofs.Common.{◌≡◌, true, false, refl}
use Rattle.object_records.specs.declared.State.{State}
use Rattle.object_records.specs.declared.State.TheVariants.{Current, Frozen}
use Rattle.volume_model.specs.Volume.{is_frozen}

pub is_current : (state : State) → is_frozen state ≡ false → state ≡ Current
is_current Current is = refl
is_current Frozen is = absurd cc

pub is_frozen_state : (state : State) → is_frozen state ≡ true → state ≡ Frozen
is_frozen_state Current is = absurd cc
is_frozen_state Frozen is = refl
