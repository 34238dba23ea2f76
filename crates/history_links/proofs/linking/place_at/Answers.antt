use Rattle.std.proofs.Common.{ℕ, Option, subst}
use Rattle.history_links.specs.Found.{OlderIs}
use Rattle.history_links.proofs.Older.{no_place, place_of_older}
use Rattle.history_links.proofs.linking.place_at.Goals as goal

pub returns-in-None : goal.returns-in-None
returns-in-None c = λ v is. no_place c.args.versions.now v (subst (λ (o : Option ℕ). OlderIs c.args.versions.now v o) c.in-None.is is)

pub returns-in-Some : goal.returns-in-Some
returns-in-Some c = λ v is. place_of_older c.args.versions.now v c.in-Some.at c.requires.rising (subst (λ (o : Option ℕ). OlderIs c.args.versions.now v o) c.in-Some.is is)
