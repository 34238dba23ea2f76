use Rattle.volume_edits.proofs.Staying.{stays_shown, stays_whole, table_stays, reach_same}
use Rattle.volume_edits.proofs.a_volume_that_stays.Goals as goal

pub returns : goal.returns
returns g c = record {
  shown = λ old new records v vol keeps. stays_shown g.P.Ground old new records v vol keeps;
  whole = λ old new records v vol keeps used. stays_whole g.P.Ground old new records v vol.shows keeps used;
  table = λ old new records v vol keeps. table_stays g.P.Ground old new records v vol keeps;
  reach = λ old new records v vol keeps. reach_same g.P.Ground old new records v vol keeps;
}
