-- The owners of units of pages that are kept.
use Rattle.std.proofs.Common.{◌≡◌, ℕ, suc, Bool, List, sym, ap, subst, arith}
use Rattle.std.specs.List.{AllByRecursion}
use Rattle.ex_base.specs.declared.geometry.Geometry.{Geometry}
use Rattle.ex_base.specs.Area.{InPageArea}
use Rattle.ex_base.specs.Ports.{times}
use Rattle.ex_base.proofs.Each.{each_as}
use Rattle.trees.specs.Owners.{IsInner, IsOwned, StandsAt, named_on}
use Rattle.trees.specs.Trees.{Units}
use Rattle.trees.proofs.Released.{each_kept, stands_kept}

module _ (g : Geometry) (units later : Units) (kept : (page : ℕ) → InPageArea g page → later page ≡ units page) where
  inner_kept : (page : ℕ) → IsInner g units page → IsInner g later page
  inner_kept page inner =
      let same : later page ≡ units page = kept page inner.stands.0 in
      let named : named_on later page ≡ named_on units page = ap (λ (bytes : List ℕ). named_on (λ _. bytes) 0) same in
      record {
        level = inner.level;
        stands = stands_kept g units later (suc inner.level) page (kept page) inner.stands;
        below = subst (AllByRecursion (StandsAt g later inner.level)) (sym named)
            (each_as (StandsAt g units inner.level) (StandsAt g later inner.level) (named_on units page) (λ unit at. stands_kept g units later inner.level unit (kept unit) at) inner.below);
      }

  pub owned_kept : (used : ℕ → Bool) (refs : ℕ → ℕ) (logged roots : List ℕ) → IsOwned g units used refs logged roots → IsOwned g later used refs logged roots
  owned_kept used refs logged roots is =
      let names = each_kept units later is.nodes (each_as (IsInner g units) (λ page. later page ≡ units page) is.nodes (λ page inner. kept page inner.stands.0) is.inner) in
      record {
        nodes = is.nodes;
        inner = each_as (IsInner g units) (IsInner g later) is.nodes inner_kept is.inner;
        once = is.once;
        owners = λ unit. omega (arith, is.owners unit, ap (times unit) names);
        listed = is.listed;
        owned = is.owned;
        in_use = is.in_use;
        apart = is.apart;
      }
