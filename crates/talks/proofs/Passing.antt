-- The lines so far, whatever the session showed at first.
use Rattle.std.proofs.Common.{◌≡◌, ℕ, List}
use Rattle.disk_model.specs.Outside.{Outside}
use Rattle.session_views.specs.View.{View, Meaning}
use Rattle.engines.specs.Keeping.{Conduct}
use Rattle.talks.specs.Talking.{Exchange, Talking}
use Rattle.talks.specs.Transcript.{Opens, Reached}

pub record SoFar {S H T : Type 0} (M : Meaning S) (C : Conduct S H) (K : Talking T) (entry now : Outside) (session after : S) (first talk : T) : Type 0 where
  pub had : List Exchange
  pub talked : K.Had first entry.left had talk now.left
  pub reached : (opening : View S) (was : List ℕ) → opening.session ≡ session → Opens M entry opening was → Reached M C K.acking opening was entry now after had
