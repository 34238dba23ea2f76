-- The tree of a root, which may have none.
use Rattle.std.proofs.Common.{◌≡◌, ◌≤◌, ◌<◌, ℕ, List, [], ◌∷◌, Option, Some, None, refl, sym, ap, subst, ◌∙◌, arith, inl, inr}
use Rattle.std.specs.Prelude.{IsSome}
use Rattle.std.specs.List.{AllByRecursion}
use Rattle.std.proofs.lemmas.Bool.{false≢true}
use Rattle.std.proofs.lemmas.List.{append-nil}
use Rattle.ex_base.specs.declared.geometry.Geometry.{Geometry}
use Rattle.ex_base.specs.declared.names.PageNo.{PageNo}
use Rattle.ex_base.specs.declared.names.Root.{Root}
use Rattle.ex_base.specs.Sizes.{leaf_bytes, object_most}
use Rattle.ex_base.proofs.Counts.{none_or_some}
use Rattle.object_records.specs.Record.{IsRootField}
use Rattle.trees.specs.Rows.{row_units}
use Rattle.trees.specs.Shape.{IsBalanced}
use Rattle.trees.specs.Trees.{Units, IsNamed, RootNamed, RootSized, root_shape, root_shape_at, root_units, root_units_at}
use Rattle.trees.specs.declared.rows.Part.{Part}
use Rattle.volume_model.specs.Parts.{HasBalance}
use Rattle.node_walk.specs.Walk.{IsFull, root_least, root_row, row_here}
use Rattle.node_walk.proofs.Balance.{full_root, root_full}

module _ (g : Geometry) (u : Units) where
  -- ---- its units

  row_units_at : (height size : ℕ) (page : Option PageNo) → row_units u height (row_here size page) ≡ root_units_at u height page
  row_units_at height size None = refl
  row_units_at height size (Some page) = append-nil (root_units_at u height (Some page))

  pub root_row_units : (root : Root) → row_units u root.height (root_row root) ≡ root_units u root
  root_row_units root = row_units_at root.height root.size root.page

  -- ---- its nodes

  abbrev Named : ℕ → Part → Type 0
  Named height part = IsNamed g u height part.page.0

  named_at : (height size : ℕ) (page : Option PageNo) → AllByRecursion (Named height) (row_here size page) → RootNamed g u height page
  named_at height size None all = tt
  named_at height size (Some page) all = all.0

  at_named : (height size : ℕ) (page : Option PageNo) → RootNamed g u height page → AllByRecursion (Named height) (row_here size page)
  at_named height size None named = tt
  at_named height size (Some page) named = (named, tt)

  pub row_named : (root : Root) → AllByRecursion (Named root.height) (root_row root) → RootNamed g u root.height root.page
  row_named root all = named_at root.height root.size root.page all

  pub named_row : (root : Root) → RootNamed g u root.height root.page → AllByRecursion (Named root.height) (root_row root)
  named_row root named = at_named root.height root.size root.page named

  -- ---- its balance

  -- the balance of a root with this page
  record BalanceAt (height size : ℕ) (page : Option PageNo) : Type 0 where
    sized : RootSized g u height size page
    balanced : IsBalanced g.fan (leaf_bytes g) (root_shape_at u height size page)

  full_at : (height size : ℕ) (page : Option PageNo) → (page ≡ None → (size ≡ 0) × (height ≡ 0)) → RootNamed g u height page → AllByRecursion (IsFull g u root_least height) (row_here size page) → BalanceAt height size page
  full_at height size None none named full = record { sized = none refl; balanced = tt }
  full_at height size (Some page) none named full = let sound = full_root g u height (record { size = size; page = page }) named full.0 in record { sized = sound.0; balanced = sound.1 }

  at_full : (height size : ℕ) (page : Option PageNo) → BalanceAt height size page → AllByRecursion (IsFull g u root_least height) (row_here size page)
  at_full height size None balance = tt
  at_full height size (Some page) balance = (root_full g u height (record { size = size; page = page }) balance.sized balance.balanced, tt)

  pub no_page : (root : Root) → IsRootField root → root.page ≡ None → (root.size ≡ 0) × (root.height ≡ 0)
  no_page root field none =
      let size : root.size ≡ 0 = elim (none_or_some root.size) [
        | inl zero ↦ zero
        | inr some ↦ absurd (false≢true (subst (λ (page : Option PageNo). IsSome page) none (field.named (omega (arith, some)))))
      ] in
      (size, (field.empty size).0)

  pub full_balance : (root : Root) → IsRootField root → RootNamed g u root.height root.page → AllByRecursion (IsFull g u root_least root.height) (root_row root) → root.size ≤ object_most → HasBalance g u root
  full_balance root field named full limit =
      let is = full_at root.height root.size root.page (no_page root field) named full in
      record { sized = is.sized; balanced = is.balanced; limit = limit }

  pub balance_full : (root : Root) → HasBalance g u root → AllByRecursion (IsFull g u root_least root.height) (root_row root)
  balance_full root balance = at_full root.height root.size root.page (record { sized = balance.sized; balanced = balance.balanced })
