use Rattle.volume_edits.proofs.Staying.{stays_whole, given_reach, given_used}
use Rattle.volume_edits.proofs.a_volume_without_a_unit.Goals as goal

pub returns : goal.returns
returns g c = record {
  reach = λ old new v unit gives lacks apart. given_reach g.P.Ground old new v unit gives lacks apart;
  whole = λ old new records v unit vol gives lacks apart. stays_whole g.P.Ground old new records v vol.shows (given_reach g.P.Ground old new v unit gives lacks apart) (given_used g.P.Ground old new v unit records gives lacks vol);
}
