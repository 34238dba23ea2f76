-- What an update took of the units that were free.
use Rattle.std.proofs.Common.{◌≡◌, ◌+◌, ◌≤◌, ℕ, List, length, ap, arith}
use Rattle.ex_base.specs.declared.ground.Ground as ground
use Rattle.ex_base.specs.declared.names.Area.{Area}
use Rattle.ex_base.specs.declared.names.Area.TheVariants.{Page, Segment}
use Rattle.ex_base.specs.declared.names.Oid.{Oid}
use Rattle.ex_base.specs.declared.names.Index.{Index}
use Rattle.object_records.specs.Record.{Content}
use Rattle.object_records.specs.declared.Head.{Head}
use Rattle.volume_edits.specs.TableUpdates.{Changes, TakesNeed, TakesWithin}
use Rattle.table_model.specs.Needs.{pages_need}
use Rattle.versions.specs.Needs.{edit_need}
use Rattle.versions.specs.Versions.{Change, HasVersion, StaysSmall, changed, place_of}

module _ {S : Type 0} (g : ground.Ghosts S) (old mid new : S) where
  -- pages alone, and at most seven, after nothing was taken
  pub pages_taken : g.free mid ≡ g.free old → g.free mid Page ≤ g.free new Page + 7 → g.free new Segment ≡ g.free mid Segment → TakesWithin g old new (pages_need 16)
  pages_taken none pages leaves Page = let same = ap (λ (f : Area → ℕ). f Page) none in omega (arith, pages, same)
  pages_taken none pages leaves Segment = let same = ap (λ (f : Area → ℕ). f Segment) none in omega (arith, leaves, same)

  -- none, and nothing is taken after it
  pub nothing_taken : g.free old Page ≤ g.free mid Page → g.free mid Segment ≡ g.free old Segment → g.free new ≡ g.free mid → TakesWithin g old new (λ area. 0)
  nothing_taken pages leaves none Page = let same = ap (λ (f : Area → ℕ). f Page) none in omega (arith, pages, same)
  nothing_taken pages leaves none Segment = let same = ap (λ (f : Area → ℕ). f Segment) none in omega (arith, leaves, same)

  -- what the change of a version may need, and nothing is taken after it
  pub change_taken : (oid : Oid) (change : Change)
      → (g.tells old → (index : Index) (head : Head) (content : Content) (bytes : List ℕ) → HasVersion g old index oid head content bytes → StaysSmall g old (place_of oid) content (length (changed change bytes)) → g.free mid ≡ g.free old)
      → (g.tells old → (index : Index) (head : Head) (content : Content) (bytes : List ℕ) → HasVersion g old index oid head content bytes → (area : Area) → g.free old area ≤ g.free mid area + edit_need (g.geometry old) change content area)
      → g.free new ≡ g.free mid → TakesNeed g old new (Changes oid change)
  change_taken oid change small most none = λ told index head content bytes has.
      record {
        most = λ area. let same = ap (λ (f : Area → ℕ). f area) none in let need = most told index head content bytes has area in omega (arith, need, same);
        small = λ stays area. let same = ap (λ (f : Area → ℕ). f area) none in let kept = ap (λ (f : Area → ℕ). f area) (small told index head content bytes has stays) in omega (arith, kept, same);
      }
