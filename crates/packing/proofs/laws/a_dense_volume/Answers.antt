use Rattle.packing.proofs.LowUnits.{free_or_used, is_dense}
use Rattle.packing.proofs.laws.a_dense_volume.Goals as goal

pub returns-clause-dense : goal.returns-clause-dense
returns-clause-dense c = λ d disk used held dense parts knows count none. is_dense d disk used held dense parts knows count none

pub returns-clause-room : goal.returns-clause-room
returns-clause-room c = λ g used dense. free_or_used g used dense
