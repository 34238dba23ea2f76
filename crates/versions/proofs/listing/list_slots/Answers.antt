use Rattle.std.proofs.Common.{List, ℕ, sym, subst, ◌∙◌, inl, inr}
use Rattle.std.proofs.lemmas.Option.{same_Some}
use Rattle.object_records.specs.Record.{BodyOf}
use Rattle.versions.proofs.listing.list_slots.Goals as goal

pub returns-in-Err-clause-fault : goal.returns-in-Err-clause-fault
returns-in-Err-clause-fault c = elim c.in-Err.ensures.fault [
  | inl never ↦ inl never
  | inr lacks ↦ inr (c.loop-slot.slot, λ body stands is spelled. lacks.0 is (subst (λ (t : List ℕ). BodyOf t is) (same_Some _ _ (sym stands ∙ sym c.in-Some.ensures)) spelled), lacks.1)
]
