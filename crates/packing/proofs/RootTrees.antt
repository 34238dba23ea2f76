-- The trees in the tree of a root, and free units among the lowest ones.
use Rattle.std.proofs.Common.{◌≡◌, ◌+◌, ◌≤◌, ℕ, zero, suc, Bool, true, false, Option, Some, None, refl, ap, subst, arith, inl, inr}
use Rattle.std.specs.List.{AllByRecursion}
use Rattle.std.specs.Prelude.{if◌then◌else◌}
use Rattle.std.proofs.lemmas.Bool.{cases_lt}
use Rattle.ex_base.specs.declared.geometry.Geometry.{Geometry}
use Rattle.ex_base.specs.declared.names.Area.TheVariants.{Segment}
use Rattle.ex_base.specs.declared.names.PageNo.{PageNo}
use Rattle.ex_base.specs.declared.names.Root.{Root}
use Rattle.ex_base.specs.Area.{unit_at}
use Rattle.page_alloc.specs.UnitSet.{free_below as free_units, free_count}
use Rattle.trees.specs.Made.{Has}
use Rattle.trees.specs.Trees.{IsNamed, RootNamed, Units, root_units, root_units_at, units_on}
use Rattle.compact.specs.High.{free_below, one_if_free}
use Rattle.compact.proofs.Levels.{same_level, sub_tree}

-- what holds of each unit of a root's tree holds of those of a tree in it
pub under_root : (g : Geometry) (units : Units) (P : ℕ → Type 0) (root : Root) → RootNamed g units root.height root.page → AllByRecursion P (root_units units root) → (level page : ℕ) → Has (root_units units root) page → IsNamed g units level page
    → AllByRecursion P (units_on units level page)
under_root g units P root named all level page has is = by root.page named all has
  where
    by : (top : Option PageNo) → RootNamed g units root.height top → AllByRecursion P (root_units_at units root.height top) → Has (root_units_at units root.height top) page → AllByRecursion P (units_on units level page)
    by None whole each inside = absurd inside
    by (Some top) whole each inside =
        let sub = sub_tree g units P root.height top.0 page whole each inside in
        subst (λ (l : ℕ). AllByRecursion P (units_on units l page)) (same_level g units sub.level level page sub.named is) sub.all

-- ---- free units

-- of the free units of the segment area the lowest ones are some
low_free : (g : Geometry) (used : ℕ → Bool) (n : ℕ) → free_below g used n ≡ free_units used (unit_at g Segment) n
unfolding free_units
low_free g used zero = refl
low_free g used (suc n) = by (used (unit_at g Segment n)) (low_free g used n)
  where
    by : (b : Bool) → free_below g used n ≡ free_units used (unit_at g Segment) n → one_if_free b + free_below g used n ≡ free_units used (unit_at g Segment) n + (if b then 0 else 1)
    by true rest = omega (arith, rest)
    by false rest = omega (arith, rest)

more_free : (used : ℕ → Bool) (at : ℕ → ℕ) (n : ℕ) → free_units used at n ≤ free_units used at (suc n)
unfolding free_units
more_free used at n = omega arith

low_of : (g : Geometry) (used : ℕ → Bool) (dense n : ℕ) → dense ≤ n → free_below g used dense ≤ free_units used (unit_at g Segment) n
low_of g used dense zero le =
    let none : dense ≡ 0 = omega (arith, le) in
    omega (arith, low_free g used dense, ap (free_units used (unit_at g Segment)) none)
low_of g used dense (suc n) le = elim (cases_lt n dense) [
  | inl above ↦
      let all : dense ≡ suc n = omega (arith, le, above) in
      omega (arith, low_free g used dense, ap (free_units used (unit_at g Segment)) all)
  | inr inside ↦ omega (arith, low_of g used dense n inside, more_free used (unit_at g Segment) n)
]

pub few_low : (g : Geometry) (used : ℕ → Bool) (dense : ℕ) → dense ≤ g.segs → free_below g used dense ≤ free_count g used Segment
few_low g used dense few = low_of g used dense g.segs few
