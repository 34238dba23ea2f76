-- How the roots that own trees turn in an update: one goes, and one comes.
use Rattle.std.proofs.Common.{◌≡◌, inl, inr, ℕ, ◌+◌, ◌≤◌, Bool, List, [], ◌∷◌, ◌++◌, Option, Some, None, refl, sym, ap, subst, arith}
use Rattle.std.specs.List.{AllByRecursion}
use Rattle.std.proofs.lemmas.List.Concat.{flat_map-append}
use Rattle.ex_base.specs.declared.geometry.Geometry.{Geometry}
use Rattle.ex_base.specs.declared.names.PageNo.{PageNo}
use Rattle.ex_base.specs.declared.names.Root.{Root}
use Rattle.ex_base.specs.Area.{catalog_no}
use Rattle.ex_base.specs.Ports.{times}
use Rattle.ex_base.proofs.Counts.{times-append}
use Rattle.trees.specs.Owners.{IsOwned, StandsAt, page_here, root_pages}
use Rattle.trees.specs.Trees.{RootNamed, Units}
use Rattle.trees.specs.Damage.{AvoidsCatalog, IsWhole}
use Rattle.trees.proofs.KeptRoots.{RootKept, spelled_root, units_of_root}
use Rattle.trees.proofs.Owned.{some_of}
use Rattle.trees.proofs.OwnedTrees.{root_kept}
use Rattle.volume_model.specs.Shown.{root_here}
use Rattle.volume_model.specs.OwnersShown.{OwnersShown, committed_roots, roots_held}
use Rattle.volume_model.specs.Volume.{Decoded, Volume, roots_in, stored_in}
use Rattle.volume_model.proofs.ExactView.{times_joined}
use Rattle.volume_model.proofs.OwnersAlike.{first_pages, roots_same}
use Rattle.volume_model.proofs.OwnersMade.{named_stands}

-- ---- whole trees

-- A whole tree of this root's height may have its root at its page.
pub root_stands : (g : Geometry) (units : Units) (root : Root) → IsWhole g units root → AllByRecursion (StandsAt g units root.height) (root_pages (root ∷ []))
root_stands g units root whole = by root.page whole.spells.named
  where
    by : (page : Option PageNo) → RootNamed g units root.height page → AllByRecursion (StandsAt g units root.height) (page_here page ++ [])
    by None named = tt
    by (Some page) named = (named_stands g units root.height page.0 named, tt)

module _ (g : Geometry) (units : Units) (used : ℕ → Bool) (refs : ℕ → ℕ) (logged roots : List ℕ) (is : IsOwned g units used refs logged roots)
    (later : Units) (same : (u : ℕ) → catalog_no ≤ u → 1 ≤ refs u → later u ≡ units u) where
  -- The tree of a root that is an owner is whole over other units, where what has an owner has the same bytes.
  pub whole_kept : (root : Root) → ((u : ℕ) → 1 ≤ times u (root_pages (root ∷ [])) → 1 ≤ refs u) → IsWhole g units root → IsWhole g later root
  whole_kept root own whole =
      let kept : RootKept units later root = root_kept g units used refs logged roots is units later (λ u behind some. refl) same root whole.spells.named (λ u has. own u (omega (arith, has, times-append u (page_here root.page) []))) in
      record {
        bytes = whole.bytes;
        spells = spelled_root g units later root whole.bytes kept whole.spells;
        avoids = subst AvoidsCatalog (sym (units_of_root units later root.height root.page kept)) whole.avoids;
      }

  pub all_whole : (rs : List Root) → ((u : ℕ) → 1 ≤ times u (root_pages rs) → 1 ≤ refs u) → AllByRecursion (IsWhole g units) rs → AllByRecursion (IsWhole g later) rs
  all_whole [] own whole = tt
  all_whole (root ∷ rs) own whole = (
    whole_kept root (λ u has. own u (omega (arith, has, first_pages u root rs))) whole.0,
    all_whole rs (λ u has. own u (omega (arith, has, first_pages u root rs))) whole.1,
  )

-- ---- roots in lists

pub pages_both : (u : ℕ) (xs ys : List Root) → times u (root_pages (xs ++ ys)) ≡ times u (root_pages xs) + times u (root_pages ys)
pages_both u xs ys =
    omega (arith, ap (times u) (flat_map-append (λ (root : Root). page_here root.page) xs ys), times-append u (root_pages xs) (root_pages ys))

-- one root taken out of the middle
pub pages_without : (u : ℕ) (front : List Root) (root : Root) (back : List Root)
    → times u (root_pages (front ++ (root ∷ back))) ≡ times u (root_pages (front ++ back)) + times u (root_pages (root ∷ []))
pages_without u front root back =
    omega (arith, pages_both u front (root ∷ back), first_pages u root back, pages_both u front back)

-- ---- an update

module _ (d : Decoded) (used : ℕ → Bool) (refs : ℕ → ℕ) (gained lost scans : List Root) (disk : List ℕ) (working : Volume) (owners : OwnersShown d used refs gained lost scans disk working) where
  pages_of : (u : ℕ) (more : List Root) → times u (root_pages (roots_held d more scans)) ≡ times u (root_pages (committed_roots d)) + times u (root_pages more) + times u (root_pages scans)
  pages_of u more = times_joined u (λ (root : Root). page_here root.page) (committed_roots d) more scans

  -- Each root of the working volume is an owner.
  pub working_own : (u : ℕ) → 1 ≤ times u (root_pages (roots_in (stored_in working))) → 1 ≤ refs u
  working_own u has = omega (arith, has, owners.turned u, owners.owned.owners u, pages_of u gained)

  pub gained_own : (u : ℕ) → 1 ≤ times u (root_pages gained) → 1 ≤ refs u
  gained_own u has = omega (arith, has, owners.owned.owners u, pages_of u gained)

  pub lost_own : (u : ℕ) → 1 ≤ times u (root_pages lost) → 1 ≤ refs u
  lost_own u has = omega (arith, has, owners.was_committed u, owners.owned.owners u, pages_of u gained)

  module _ (now : Volume) (gone come : Option Root)
      (turns : (u : ℕ) → times u (root_pages (roots_in (stored_in now))) + times u (root_pages (root_here gone)) ≡ times u (root_pages (roots_in (stored_in working))) + times u (root_pages (root_here come)))
      (there : (u : ℕ) → times u (root_pages (root_here gone)) ≤ times u (root_pages (roots_in (stored_in working)))) where
    -- ---- it was gained: it is given up at once

    module _ (others : List Root) (taken_out : (u : ℕ) → times u (root_pages others) + times u (root_pages (root_here gone)) ≡ times u (root_pages gained) + times u (root_pages (root_here come))) where
      pub released_turned : (u : ℕ) → times u (root_pages (roots_in (stored_in now))) + times u (root_pages lost) ≡ times u (root_pages (committed_roots d)) + times u (root_pages others)
      released_turned u = omega (arith, turns u, owners.turned u, taken_out u)

      -- With the root that came counted, the one that goes stands first.
      pub gone_first : (units : Units) (later : ℕ → Bool) (counts : ℕ → ℕ) (logged : List ℕ) → IsOwned d.geometry units later counts logged (root_pages (root_here come) ++ root_pages (roots_held d gained scans))
          → IsOwned d.geometry units later counts logged (root_pages (root_here gone) ++ root_pages (roots_held d others scans))
      gone_first units later counts logged is =
          roots_same d.geometry units later counts logged (root_pages (root_here come) ++ root_pages (roots_held d gained scans)) (root_pages (root_here gone) ++ root_pages (roots_held d others scans)) is
          (λ u. omega (
            arith,
            taken_out u,
            pages_of u gained,
            pages_of u others,
            times-append u (root_pages (root_here come)) (root_pages (roots_held d gained scans)),
            times-append u (root_pages (root_here gone)) (root_pages (roots_held d others scans)),
          ))

    -- ---- no gained root has its page: the committed one is lost

    module _ (others more : List Root) (pushed : (u : ℕ) → times u (root_pages others) ≡ times u (root_pages gained) + times u (root_pages (root_here come)))
        (left : (u : ℕ) → times u (root_pages more) ≡ times u (root_pages lost) + times u (root_pages (root_here gone)))
        (none : (u : ℕ) → 1 ≤ times u (root_pages (root_here gone)) → times u (root_pages gained) ≡ 0) where
      pub lost_turned : (u : ℕ) → times u (root_pages (roots_in (stored_in now))) + times u (root_pages more) ≡ times u (root_pages (committed_roots d)) + times u (root_pages others)
      lost_turned u = omega (arith, turns u, owners.turned u, pushed u, left u)

      pub lost_was_committed : (u : ℕ) → times u (root_pages more) ≤ times u (root_pages (committed_roots d))
      lost_was_committed u = elim (some_of (times u (root_pages (root_here gone)))) [
        | inl some ↦ omega (arith, left u, there u, owners.turned u, none u some)
        | inr no_page ↦ omega (arith, left u, no_page, owners.was_committed u)
      ]

      -- The root that came is one of the gained ones.
      pub come_gained : (units : Units) (later : ℕ → Bool) (counts : ℕ → ℕ) (logged : List ℕ) → IsOwned d.geometry units later counts logged (root_pages (root_here come) ++ root_pages (roots_held d gained scans))
          → IsOwned d.geometry units later counts logged (root_pages (roots_held d others scans))
      come_gained units later counts logged is =
          roots_same d.geometry units later counts logged (root_pages (root_here come) ++ root_pages (roots_held d gained scans)) (root_pages (roots_held d others scans)) is
          (λ u. omega (arith, pushed u, pages_of u gained, pages_of u others, times-append u (root_pages (root_here come)) (root_pages (roots_held d gained scans))))
