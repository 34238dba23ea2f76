-- Trees without a high unit have no high leaf, and copies are sound wherever their units are kept.
use Rattle.std.proofs.Common.{◌≡◌, ◌∙◌, ℕ, zero, suc, Bool, false, List, [], ◌∷◌, ◌++◌, Option, Some, None, refl, sym, ap, subst}
use Rattle.std.specs.Prelude.{if◌then◌else◌, map}
use Rattle.std.specs.List.{AllByRecursion, flat_map}
use Rattle.ex_base.specs.declared.geometry.Geometry.{Geometry}
use Rattle.ex_base.specs.declared.names.PageNo.{PageNo}
use Rattle.ex_base.specs.declared.names.Root.{Root}
use Rattle.ex_base.proofs.Each.{split_each}
use Rattle.trees.specs.declared.Pair.{Pair}
use Rattle.trees.specs.Names.{page_of_pair}
use Rattle.trees.specs.Node.{pairs_on}
use Rattle.trees.specs.Made.{AreUsed, Has}
use Rattle.trees.specs.Owners.{page_here}
use Rattle.trees.specs.Trees.{HasSize, Units, root_units, root_units_at, units_on}
use Rattle.trees.proofs.SameUnits.{Kept, bytes_same, named_same, shape_same, sized_same, units_same}
use Rattle.compact.specs.High.{high_leaves, is_high, low_leaves, root_high_leaves}
use Rattle.compact.specs.Moved.{AreLow, IsSoundPair}
use Rattle.compact.proofs.Levels.{high_same}
use Rattle.compact.proofs.Pairs.{kept_back}

-- ---- no high leaf

if_not : (b : Bool) (page : ℕ) → b ≡ false → (if b then page ∷ [] else []) ≡ []
if_not b page is = ap (λ (c : Bool). if c then page ∷ [] else []) is

none_high : (g : Geometry) (dense : ℕ) (units : Units) (l page : ℕ) → AreLow g dense (units_on units l page) → high_leaves g dense units l page ≡ []
none_high g dense units zero page low = if_not (is_high g dense page) page low.0
none_high g dense units (suc l) page low = under (λ p is. none_high g dense units l p is) (pairs_on (units page)) low.1
  where
    under : ((p : ℕ) → AreLow g dense (units_on units l p) → high_leaves g dense units l p ≡ []) → (pairs : List Pair) → AreLow g dense (flat_map (λ (pair : Pair). units_on units l pair.page.0) pairs)
        → flat_map (high_leaves g dense units l) (map page_of_pair pairs) ≡ []
    under each [] none = refl
    under each (pair ∷ pairs) both =
        let parted = split_each (λ p. is_high g dense p ≡ false) (units_on units l pair.page.0) (flat_map (λ (p : Pair). units_on units l p.page.0) pairs) both in
        ap (λ (us : List ℕ). us ++ flat_map (high_leaves g dense units l) (map page_of_pair pairs)) (each pair.page.0 parted.0) ∙ under each pairs parted.1

pub no_high_leaf : (g : Geometry) (dense : ℕ) (units : Units) (root : Root) → AreLow g dense (root_units units root) → root_high_leaves g dense units root ≡ []
no_high_leaf g dense units root low = by root.page low
  where
    by : (page : Option PageNo) → AreLow g dense (root_units_at units root.height page) → flat_map (high_leaves g dense units root.height) (page_here page) ≡ []
    by None none = refl
    by (Some page) all = ap (λ (us : List ℕ). us ++ []) (none_high g dense units root.height page.0 all)

-- ---- kept units

module _ (g : Geometry) (dense : ℕ) (old new : Units) where
  -- A pair is as sound over units that are the old ones in both trees, whichever are in use, where those of the copy are.
  pub sound_same : (in_use now_used : ℕ → Bool) (l page copy : ℕ) → Kept old new (units_on old l page) → Kept old new (units_on old l copy) → IsSoundPair g old in_use dense l page copy
      → AreUsed now_used (units_on new l copy) → IsSoundPair g new now_used dense l page copy
  sound_same in_use now_used l page copy kept kept_copy sound used =
      let units : units_on new l copy ≡ units_on old l copy = units_same old new l copy kept_copy in
      let home : Kept new old (units_on new l page) = kept_back old new l page kept in
      let same = high_same g dense old new l page kept in
      let sized : (n : ℕ) → HasSize g new l page n → HasSize g old l page n = λ n is. sized_same g new old l page n home is in
      record {
        named = named_same g old new l copy kept_copy sound.named;
        sized = λ n is. sized_same g old new l copy n kept_copy (sound.sized n (sized n is));
        bytes = λ n is. bytes_same old new l copy n kept_copy ∙ sound.bytes n (sized n is) ∙ sym (bytes_same old new l page n kept);
        shape = λ n is. shape_same old new l copy n kept_copy ∙ sound.shape n (sized n is) ∙ sym (shape_same old new l page n kept);
        used = used;
        low = subst (AreLow g dense) (sym units) sound.low;
        still = λ none. sound.still (sym same.high ∙ none);
        stay = subst (λ (us : List ℕ). AllByRecursion (Has us) (low_leaves g dense new l page)) (sym units)
            (subst (λ (ls : List ℕ). AllByRecursion (Has (units_on old l copy)) ls) (sym same.low) sound.stay);
      }
