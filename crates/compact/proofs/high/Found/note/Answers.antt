use Rattle.std.proofs.Common.{[], ◌∷◌}
use Rattle.trees.proofs.Laid.{has_left}
use Rattle.compact.proofs.high.Found.note.Goals.{then-high+in_ok-push, else-high}
use Rattle.compact.proofs.high.Found.note.Goals as goal

pub returns-in-Ok-clause-grows : goal.returns-in-Ok-clause-grows
returns-in-Ok-clause-grows c = λ p has. elim c.if-high.branch [
  | then-high+in_ok-push w ↦ rw w.self-is (rw w.in_ok-push.ensures.items (has_left c.args.self.now.above.items (c.args.page.0 ∷ []) p has))
  | else-high w ↦ rw w.self-is has
]
