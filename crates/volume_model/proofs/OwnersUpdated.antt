-- What a session shows of the owners at the end of an update: the root that came is gained, and the one that went is given up at once where it was gained,
-- and is lost else.
use Rattle.std.proofs.Common.{◌≡◌, ℕ, ◌+◌, ◌≤◌, ◌<◌, suc, Bool, true, List, [], ◌∷◌, ◌++◌, length, get_or, sum_by, take, drop, Option, arith}
use Rattle.std.specs.List.{AllByRecursion, remove}
use Rattle.std.proofs.lemmas.List.Sorted.{IsPermutation-remove, sum_by-IsPermutation}
use Rattle.ex_base.specs.declared.names.Root.{Root}
use Rattle.ex_base.specs.Ports.{times}
use Rattle.ex_base.proofs.Counts.{times_flat}
use Rattle.ex_base.proofs.Rows.{each-append, each-drop, each-take}
use Rattle.trees.specs.Damage.{IsWhole}
use Rattle.trees.specs.Owners.{IsOwned, page_here, root_pages}
use Rattle.volume_model.specs.Shown.{root_here}
use Rattle.volume_model.specs.Homes.{home}
use Rattle.volume_model.specs.OwnersMoved.{PagesGo}
use Rattle.volume_model.specs.OwnersShown.{OwnersShown, logged_pages, roots_held}
use Rattle.volume_model.specs.Volume.{Decoded, Volume, file_pages, roots_in, stored_in}
use Rattle.volume_model.proofs.OwnersAlike.{first_pages}
use Rattle.volume_model.proofs.OwnersSwept.{swept}
use Rattle.volume_model.proofs.OwnersTurned.{all_whole, come_gained, gained_own, gone_first, lost_own, lost_turned, lost_was_committed, pages_both, released_turned, working_own}

-- ---- a root taken out of a list

pub pages_removed : (u : ℕ) (roots : List Root) (i : ℕ) (root : Root) → i < length roots → root ≡ get_or roots i root → times u (root_pages (remove roots i)) + times u (root_pages (root ∷ [])) ≡ times u (root_pages roots)
pages_removed u roots i root inside is =
    let same = sum_by-IsPermutation part roots (root ∷ remove roots i) (IsPermutation-remove roots i root inside is) in
    omega (arith, first_pages u root (remove roots i), counted (root ∷ remove roots i), counted roots, same)
  where
    part : Root → ℕ
    part r = times u (page_here r.page)

    counted : (rs : List Root) → times u (root_pages rs) ≡ sum_by part rs
    counted rs = times_flat u (λ (r : Root). page_here r.page) rs

pub each_removed : (P : Root → Type 0) (roots : List Root) (i : ℕ) → AllByRecursion P roots → AllByRecursion P (remove roots i)
each_removed P roots i all = each-append P (take i roots) (drop (suc i) roots) (each-take P i roots all) (each-drop P (suc i) roots all)

-- ---- an update

module _ (d : Decoded) (used : ℕ → Bool) (refs : ℕ → ℕ) (gained lost scans : List Root) (disk : List ℕ) (working : Volume) (owners : OwnersShown d used refs gained lost scans disk working)
    (now : Volume) (gone come : Option Root)
    (turns : (u : ℕ) → times u (root_pages (roots_in (stored_in now))) + times u (root_pages (root_here gone)) ≡ times u (root_pages (roots_in (stored_in working))) + times u (root_pages (root_here come)))
    (there : (u : ℕ) → times u (root_pages (root_here gone)) ≤ times u (root_pages (roots_in (stored_in working))))
    (later : List ℕ) (kept : (u : ℕ) → used u ≡ true → home d.geometry later u ≡ home d.geometry disk u) (came : AllByRecursion (IsWhole d.geometry (home d.geometry later)) (root_here come))
    (made_used : ℕ → Bool) (counts : ℕ → ℕ) (made : IsOwned d.geometry (home d.geometry later) made_used counts (logged_pages d working ++ file_pages now) (root_pages (root_here come) ++ root_pages (roots_held d gained scans))) where
  -- a tree whose root was an owner is whole still
  still_whole : (roots : List Root) → ((u : ℕ) → 1 ≤ times u (root_pages roots) → 1 ≤ refs u) → AllByRecursion (IsWhole d.geometry (home d.geometry disk)) roots → AllByRecursion (IsWhole d.geometry (home d.geometry later)) roots
  still_whole =
      all_whole d.geometry (home d.geometry disk) used refs (logged_pages d working) (root_pages (roots_held d gained scans)) owners.owned (home d.geometry later)
      (λ u behind some. kept u ((owners.owned.in_use u).1 (omega (arith, some))))

  -- The root that went was gained, by its page: the others are gained still, and an owner of its tree less leaves them.
  pub shown_released : (others : List Root) → ((u : ℕ) → times u (root_pages others) + times u (root_pages (root_here gone)) ≡ times u (root_pages gained)) → AllByRecursion (IsWhole d.geometry (home d.geometry disk)) others
      → (left : ℕ → Bool) (fewer : ℕ → ℕ)
      → (IsOwned d.geometry (home d.geometry later) made_used counts (logged_pages d working ++ file_pages now) (root_pages (root_here gone) ++ root_pages (roots_held d (others ++ root_here come) scans))
      → IsOwned d.geometry (home d.geometry later) left fewer (logged_pages d working ++ file_pages now) (root_pages (roots_held d (others ++ root_here come) scans)))
      → (rest : ℕ → Bool) → PagesGo left rest fewer (file_pages working) (logged_pages d now) → OwnersShown d rest fewer (others ++ root_here come) lost scans later now
  shown_released others taken_out whole left fewer released rest go =
      let all = others ++ root_here come in
      let turned : (u : ℕ) → times u (root_pages all) + times u (root_pages (root_here gone)) ≡ times u (root_pages gained) + times u (root_pages (root_here come)) =
      λ u. omega (arith, taken_out u, pages_both u others (root_here come)) in
      record {
        owned = swept d working now (home d.geometry later) left rest fewer (root_pages (roots_held d all scans))
            (released
            (gone_first d used refs gained lost scans disk working owners now gone come turns there all turned (home d.geometry later) made_used counts (logged_pages d working ++ file_pages now) made)) go;
        turned = released_turned d used refs gained lost scans disk working owners now gone come turns there all turned;
        was_committed = owners.was_committed;
        gained_whole = each-append (IsWhole d.geometry (home d.geometry later)) others (root_here come)
            (still_whole others (λ u has. gained_own d used refs gained lost scans disk working owners u (omega (arith, has, taken_out u))) whole) came;
        lost_whole = still_whole lost (lost_own d used refs gained lost scans disk working owners) owners.lost_whole;
      }

  -- No gained root has its page, or no root went: it is lost from now on.
  pub shown_lost : ((u : ℕ) → 1 ≤ times u (root_pages (root_here gone)) → times u (root_pages gained) ≡ 0) → AllByRecursion (IsWhole d.geometry (home d.geometry disk)) (root_here gone)
      → (rest : ℕ → Bool) → PagesGo made_used rest counts (file_pages working) (logged_pages d now) → OwnersShown d rest counts (gained ++ root_here come) (lost ++ root_here gone) scans later now
  shown_lost none went rest go =
      let all = gained ++ root_here come in
      let more = lost ++ root_here gone in
      let pushed : (u : ℕ) → times u (root_pages all) ≡ times u (root_pages gained) + times u (root_pages (root_here come)) = λ u. pages_both u gained (root_here come) in
      let left : (u : ℕ) → times u (root_pages more) ≡ times u (root_pages lost) + times u (root_pages (root_here gone)) = λ u. pages_both u lost (root_here gone) in
      record {
        owned = swept d working now (home d.geometry later) made_used rest counts (root_pages (roots_held d all scans))
            (come_gained d used refs gained lost scans disk working owners now gone come turns there all more pushed left none (home d.geometry later) made_used counts (logged_pages d working ++ file_pages now) made) go;
        turned = lost_turned d used refs gained lost scans disk working owners now gone come turns there all more pushed left none;
        was_committed = lost_was_committed d used refs gained lost scans disk working owners now gone come turns there all more pushed left none;
        gained_whole = each-append (IsWhole d.geometry (home d.geometry later)) gained (root_here come)
            (still_whole gained (gained_own d used refs gained lost scans disk working owners) owners.gained_whole) came;
        lost_whole = each-append (IsWhole d.geometry (home d.geometry later)) lost (root_here gone)
            (still_whole lost (lost_own d used refs gained lost scans disk working owners) owners.lost_whole)
            (still_whole (root_here gone) (λ u has. working_own d used refs gained lost scans disk working owners u (omega (arith, has, there u))) went);
      }
