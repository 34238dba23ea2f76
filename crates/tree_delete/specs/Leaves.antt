-- Leaves that are written anew.
use Rattle.std.specs.Prelude.{◌≡◌, ◌⊎◌, ℕ, ◌+◌, ◌-◌, ◌*◌, ◌/◌, ◌≤◌, List, length}
use Rattle.std.specs.List.{AllByRecursion}
use Rattle.ex_base.specs.Even.{sum_of}
use Rattle.trees.specs.Rows.{AreHalfFull, row_size}
use Rattle.tree_delete.specs.declared.cut.Cut.{Cut}
use Rattle.tree_delete.specs.Cuts.{all_of, sides}

-- The same cut through the same row, of which one leaf more may be written anew: so that the bytes left of those are half a leaf or none, where leaves
-- are half full and some stay as they are.
pub record IsWider (full : ℕ) (cut wider : Cut) : Type 0 where
  pub row : all_of wider ≡ all_of cut
  pub start : row_size wider.left.items + wider.at ≡ row_size cut.left.items + cut.at
  pub less : wider.len ≡ cut.len
  pub inside : cut.at + cut.len ≤ row_size cut.run.items → wider.at + wider.len ≤ row_size wider.run.items
  pub run : length wider.run.items ≤ length cut.run.items + 1
  pub sides_are : (sides wider ≡ sides cut) ⊎ ((sides wider + 1 ≡ sides cut) × (1 ≤ row_size wider.run.items - wider.len))
  pub most : AllByRecursion (λ part. part.size ≤ full) (all_of cut) → length cut.run.items ≤ 2 → row_size wider.run.items - wider.len ≤ 2 * full
  pub half : AreHalfFull full (all_of cut) → 1 ≤ sides cut → (row_size wider.run.items - wider.len ≡ 0) ⊎ (full / 2 ≤ row_size wider.run.items - wider.len)

-- so many bytes over as few leaves as hold them, at most two
pub record AreEven (full total : ℕ) (lengths : List ℕ) : Type 0 where
  pub sum : sum_of (λ n. n) lengths ≡ total
  pub each : AllByRecursion (λ n. (1 ≤ n) × (n ≤ full)) lengths
  pub few : length lengths ≤ 2
  pub some : 1 ≤ total → 1 ≤ length lengths
  pub half : full / 2 ≤ total → AllByRecursion (λ n. (full / 2 ≤ n) × (n ≤ full)) lengths
  pub alone : (length lengths ≤ 1) ⊎ AllByRecursion (λ n. (full / 2 ≤ n) × (n ≤ full)) lengths
