use Rattle.std.proofs.Common.{◌∙◌, ap, ℕ, Bool}
use Rattle.volume_edits.proofs.Staying.{stays_whole, kept_reach}
use Rattle.volume_edits.proofs.a_kept_volume.Goals as goal

pub returns : goal.returns
returns g c = record {
  reach = λ old new v keeps apart. kept_reach g.P.Ground old new v keeps apart;
  whole = λ old new records v vol keeps. stays_whole g.P.Ground old new records v vol.shows (kept_reach g.P.Ground old new v keeps vol.shows.apart) (λ u c. ap (λ (f : ℕ → Bool). f u) keeps.used ∙ vol.used u c);
}
