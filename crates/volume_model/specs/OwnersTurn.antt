-- How the owners that a session shows turn in an update.
use Rattle.std.specs.Prelude.{◌≡◌, ℕ, ◌+◌, ◌≤◌, Bool, true, List, ◌++◌, Option}
use Rattle.std.specs.List.{AllByRecursion}
use Rattle.ex_base.specs.declared.names.Root.{Root}
use Rattle.ex_base.specs.Ports.{times}
use Rattle.trees.specs.Damage.{IsWhole}
use Rattle.trees.specs.Owners.{IsOwned, root_pages}
use Rattle.volume_model.specs.Homes.{home}
use Rattle.volume_model.specs.OwnersShown.{OwnersShown, logged_pages, roots_held}
use Rattle.volume_model.specs.Held.{root_here}
use Rattle.volume_model.specs.Volume.{Decoded, Volume, file_pages, roots_in, stored_in}

-- A session showed its owners. In the working volume one root went and one came, whose tree is whole; what was used has its bytes. The root that came is
-- counted, and the logged pages of before are in use beside those of the new volume.
pub record OwnersTurn (d : Decoded) (used : ℕ → Bool) (refs : ℕ → ℕ) (gained lost scans : List Root) (disk : List ℕ) (working now : Volume) (gone come : Option Root)
    (later : List ℕ) (made : ℕ → Bool) (counts : ℕ → ℕ) : Type 0 where
  pub shown : OwnersShown d used refs gained lost scans disk working
  pub turns : (u : ℕ) → times u (root_pages (roots_in (stored_in now))) + times u (root_pages (root_here gone)) ≡ times u (root_pages (roots_in (stored_in working))) + times u (root_pages (root_here come))
  pub there : (u : ℕ) → times u (root_pages (root_here gone)) ≤ times u (root_pages (roots_in (stored_in working)))
  pub kept : (u : ℕ) → used u ≡ true → home d.geometry later u ≡ home d.geometry disk u
  pub came : AllByRecursion (IsWhole d.geometry (home d.geometry later)) (root_here come)
  pub owned : IsOwned d.geometry (home d.geometry later) made counts (logged_pages d working ++ file_pages now) (root_pages (root_here come) ++ root_pages (roots_held d gained scans))
