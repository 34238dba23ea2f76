-- Copies that are over no logged page.
use Rattle.std.proofs.Common.{◌≡◌, ℕ, false, List, ◌∷◌, Some, inl, inr}
use Rattle.std.specs.Prelude.{Contains}
use Rattle.std.specs.List.{AllByRecursion}
use Rattle.std.proofs.lemmas.Bool.{cases_Bool}
use Rattle.ex_base.specs.declared.ground.Ground as ground
use Rattle.ex_base.specs.Area.{catalog_no}
use Rattle.ex_base.specs.declared.names.PageNo.{PageNo}
use Rattle.ex_base.proofs.Each.{each_as}
use Rattle.compact.specs.Moved.{Copies}
use Rattle.op_log.specs.declared.record.LogRecord.{LogRecord}
use Rattle.trees.specs.Made.{Has}
use Rattle.trees.specs.Trees.{IsNamed, units_on}
use Rattle.volume_edits.specs.Ported.{ShowsVolume}
use Rattle.volume_model.specs.Volume.{Volume, file_pages}
use Rattle.packing.specs.Moving.{CopiesAreAway}

module _ {S : Type 0} (g : ground.Ghosts S) (s : S) (records : List LogRecord) (v : Volume) (shows : ShowsVolume g s records v) where
  not_held : (p : ℕ) → (Contains (catalog_no ∷ file_pages v) p → ⊥) → g.held s p ≡ false
  not_held p out = elim (cases_Bool (g.held s p)) [
    | inl is ↦ absurd (out ((shows.held p).0 is))
    | inr isnt ↦ isnt
  ]

  pub away : (moves : Copies) (units : List ℕ)
      → ((level page : ℕ) (copy : PageNo) → Has units page → moves page ≡ Some copy → IsNamed (g.geometry s) (g.unit s) level page
      → AllByRecursion (λ p. Contains (catalog_no ∷ file_pages v) p → ⊥) (units_on (g.unit s) level copy.0))
      → CopiesAreAway g s moves units
  away moves units own = λ level page copy inside sent named.
      each_as (λ p. Contains (catalog_no ∷ file_pages v) p → ⊥) (λ p. g.held s p ≡ false) (units_on (g.unit s) level copy.0) not_held (own level page copy inside sent named)
