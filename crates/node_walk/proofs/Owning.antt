-- Trees that were counted own their units.
use Rattle.std.proofs.Common.{◌≡◌, ◌≤◌, ◌+◌, inl, inr, ℕ, Bool, true, List, length, min, refl, sym, ap, ◌∙◌, true≢false, arith}
use Rattle.std.proofs.lemmas.List.{length-map}
use Rattle.ex_base.specs.declared.geometry.Geometry.{Geometry}
use Rattle.ex_base.specs.Area.{InPageArea}
use Rattle.ex_base.specs.Ports.{times, refs_most}
use Rattle.ex_base.proofs.Counts.{none_or_some}
use Rattle.trees.specs.Owners.{IsOwned, all_named, root_pages}
use Rattle.trees.specs.Trees.{Units}
use Rattle.trees.proofs.FewOwners.{references_below_end}
use Rattle.volume_model.proofs.FewRoots.{fewer_pages}
use Rattle.volume_model.specs.OwnersMoved.{roots_most}
use Rattle.node_walk.specs.declared.ObjectRoot.{ObjectRoot}
use Rattle.node_walk.specs.Counts.{AreUsed, CountsTrees}
use Rattle.node_walk.specs.TreesNamed.{tree_in, trees_in}

module _ (g : Geometry) (u : Units) (names logged : List ℕ) (used after : ℕ → Bool) (refs later : ℕ → ℕ) (fresh : refs ≡ (λ _. 0)) (is_used : AreUsed used logged)
    (has_used : (unit : ℕ) → 1 ≤ later unit → after unit ≡ true) (h : CountsTrees g u names used refs after later) where
  -- the owners of a unit
  abbrev owners_of : ℕ → ℕ
  owners_of unit = times unit names + times unit (all_named u h.counts.nodes)

  counted_owners : (unit : ℕ) → later unit ≡ min (owners_of unit) refs_most
  counted_owners unit = omega (arith, h.counts.owners unit, ap (λ (f : ℕ → ℕ). f unit) fresh)

  used_unowned : (unit : ℕ) → used unit ≡ true → later unit ≡ 0
  used_unowned unit is = h.others unit is ∙ ap (λ (f : ℕ → ℕ). f unit) fresh

  owned_listed : (page : ℕ) → InPageArea g page → 1 ≤ later page → 1 ≤ times page h.counts.nodes
  owned_listed page area some = elim (h.counts.listed page area (has_used page some)) [
    | inl was ↦ absurd (omega (arith, some, used_unowned page was))
    | inr listed ↦ listed
  ]

  listed_owned : (page : ℕ) → 1 ≤ times page h.counts.nodes → 1 ≤ later page
  listed_owned page listed =
      let came = (h.counts.came page listed).0 in
      elim (h.counts.counted page came.1) [
        | inl was ↦ absurd (true≢false (sym was ∙ came.0))
        | inr some ↦ some
      ]

  used_counted : (unit : ℕ) → after unit ≡ true → 1 ≤ times unit logged + later unit
  used_counted unit is = elim (h.counts.counted unit is) [
    | inl was ↦ omega (arith, (is_used unit).0 was)
    | inr some ↦ omega (arith, some)
  ]

  counted_used : (unit : ℕ) → 1 ≤ times unit logged + later unit → after unit ≡ true
  counted_used unit some = elim (none_or_some (later unit)) [
    | inl none ↦ h.counts.still unit ((is_used unit).1 (omega (arith, some, none)))
    | inr counted ↦ has_used unit counted
  ]

  -- units are owned as their owners count, whether in the limit or not
  owned_by : (r : ℕ → ℕ) → ((unit : ℕ) → r unit ≡ owners_of unit) → IsOwned g u after r logged names
  owned_by r is = record {
    nodes = h.counts.nodes;
    inner = h.inner;
    once = h.counts.once;
    owners = is;
    listed = λ page area some. owned_listed page area (omega (arith, some, is page, counted_owners page));
    owned = λ page listed. omega (arith, listed_owned page listed, is page, counted_owners page);
    in_use = λ unit. (
      λ yes. omega (arith, used_counted unit yes, is unit, counted_owners unit),
      λ some. counted_used unit (omega (arith, some, is unit, counted_owners unit)),
    );
    apart = λ page has. omega (arith, used_unowned page ((is_used page).1 has), is page, counted_owners page);
  }

  -- so few are the owners that each is counted
  pub all_owned : length names ≤ roots_most → IsOwned g u after later logged names
  all_owned few = owned_by later (λ unit. omega (arith, counted_owners unit, references_below_end g u after owners_of logged names unit (owned_by owners_of (λ q. refl)) few))

pub few_trees : (roots : List ObjectRoot) → length roots ≤ roots_most → length (root_pages (trees_in roots)) ≤ roots_most
few_trees roots few = omega (arith, fewer_pages (trees_in roots), length-map roots tree_in, few)
