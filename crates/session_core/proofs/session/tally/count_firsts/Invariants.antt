use Rattle.std.proofs.Common.{◌≡◌, take}
use Rattle.std.specs.List.{count_by}
use Rattle.session_core.specs.Tallies.{is_first}
use Rattle.session_core.proofs.session.tally.count_firsts.Given as goal

abbrev pub invariant-members : goal.invariant-members
invariant-members l = l.firsts ≡ count_by is_first (take l.member-index l.members)
