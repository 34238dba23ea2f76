use Rattle.std.proofs.Common.{List, map, ap}
use Rattle.buffer_groups.specs.Frames.{Frames}
use Rattle.buffer_groups.specs.Groups.{kind_of}
use Rattle.exsm_run.proofs.session.VolumeSession.on.Goals as goal

pub make-requires-clause-groups : goal.make-requires-clause-groups
make-requires-clause-groups c = ap (λ (groups : List Frames). map kind_of groups) c.requires.opened.fresh.groups

pub make-requires-clause-in_use : goal.make-requires-clause-in_use
make-requires-clause-in_use c = c.requires.opened.fresh.reached.in_use
