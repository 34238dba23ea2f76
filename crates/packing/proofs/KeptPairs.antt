-- A unit and its copy stay a sound pair where their units are kept, and those of the copy are in use.
use Rattle.std.proofs.Common.{◌≡◌, ℕ, Bool, List, sym, subst, ◌∙◌}
use Rattle.std.specs.List.{AllByRecursion}
use Rattle.ex_base.specs.declared.geometry.Geometry.{Geometry}
use Rattle.trees.specs.Made.{AreUsed, Has}
use Rattle.trees.specs.Trees.{HasSize, Units, units_on}
use Rattle.trees.proofs.SameUnits.{Kept, bytes_same, named_same, shape_same, sized_same, units_same}
use Rattle.compact.specs.High.{low_leaves}
use Rattle.compact.specs.Moved.{AreLow, IsSoundPair}
use Rattle.compact.proofs.Levels.{high_same}
use Rattle.compact.proofs.Pairs.{kept_back}

pub pair_kept : (g : Geometry) (dense : ℕ) (u v : Units) (used now : ℕ → Bool) (l page copy : ℕ) → Kept u v (units_on u l page) → Kept u v (units_on u l copy) → AreUsed now (units_on v l copy)
    → IsSoundPair g u used dense l page copy → IsSoundPair g v now dense l page copy
pair_kept g dense u v used now l page copy from kept in_use s =
    let units : units_on v l copy ≡ units_on u l copy = units_same u v l copy kept in
    let high = high_same g dense u v l page from in
    let back = λ (n : ℕ) (h : HasSize g v l page n). sized_same g v u l page n (kept_back u v l page from) h in
    record {
      named = named_same g u v l copy kept s.named;
      sized = λ n h. sized_same g u v l copy n kept (s.sized n (back n h));
      bytes = λ n h. bytes_same u v l copy n kept ∙ s.bytes n (back n h) ∙ sym (bytes_same u v l page n from);
      shape = λ n h. shape_same u v l copy n kept ∙ s.shape n (back n h) ∙ sym (shape_same u v l page n from);
      used = in_use;
      low = subst (AreLow g dense) (sym units) s.low;
      still = λ none. s.still (sym high.high ∙ none);
      stay = subst (AllByRecursion (Has (units_on v l copy))) (sym high.low) (subst (λ (us : List ℕ). AllByRecursion (Has us) (low_leaves g dense u l page)) (sym units) s.stay);
    }
