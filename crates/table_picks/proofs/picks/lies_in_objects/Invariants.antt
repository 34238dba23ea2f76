use Rattle.std.proofs.Common.{◌≡◌, drop}
use Rattle.std.specs.Prelude.{flat_map}
use Rattle.std.specs.List.{list_any}
use Rattle.table_picks.specs.Picks.{lies_at}
use Rattle.table_picks.proofs.picks.lies_in_objects.Given as goal

abbrev pub invariant-loop-object : goal.invariant-loop-object
invariant-loop-object l = list_any (lies_at l.place) (flat_map (λ o. o.versions) (drop l.object-index l.objects)) ≡ list_any (lies_at l.place) (flat_map (λ o. o.versions) l.objects)
