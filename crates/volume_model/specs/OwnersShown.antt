-- Who owns the units of trees, as a session holds them.
use Rattle.std.specs.Prelude.{◌≡◌, ℕ, ◌+◌, ◌≤◌, Bool, List, ◌∷◌, ◌++◌}
use Rattle.std.specs.List.{AllByRecursion}
use Rattle.ex_base.specs.declared.names.Root.{Root}
use Rattle.ex_base.specs.Area.{catalog_no}
use Rattle.ex_base.specs.Ports.{times}
use Rattle.trees.specs.Damage.{IsWhole}
use Rattle.trees.specs.Owners.{IsOwned, root_pages}
use Rattle.session_views.specs.View.{View}
use Rattle.volume_model.specs.Homes.{home}
use Rattle.volume_model.specs.Held.{Held, roots_here}
use Rattle.volume_model.specs.Volume.{Volume, Decoded, file_pages, roots_in, stored_in}

-- the logged pages of the committed and of the working volume
abbrev pub logged_pages : Decoded → Volume → List ℕ
logged_pages d working = catalog_no ∷ file_pages d.volume ++ file_pages working

-- the roots of the large versions of the committed volume
abbrev pub committed_roots : Decoded → List Root
committed_roots d = roots_in (stored_in d.volume)

-- the roots that own a tree: those of the committed volume, those that the open transaction gained, and those of the open scans
abbrev pub roots_held : Decoded → List Root → List Root → List Root
roots_held d gained scans = committed_roots d ++ gained ++ scans

-- Each unit of a tree has as many references as owners. The working roots are the committed ones without those that the transaction lost and with
-- those that it gained. It loses committed ones alone. Each of these trees is whole.
pub record OwnersShown (d : Decoded) (used : ℕ → Bool) (refs : ℕ → ℕ) (gained lost scans : List Root) (disk : List ℕ) (working : Volume) : Type 0 where
  pub owned : IsOwned d.geometry (home d.geometry disk) used refs (logged_pages d working) (root_pages (roots_held d gained scans))
  pub turned : (page : ℕ) → times page (root_pages (roots_in (stored_in working))) + times page (root_pages lost)
      ≡ times page (root_pages (committed_roots d)) + times page (root_pages gained)
  pub was_committed : (page : ℕ) → times page (root_pages lost) ≤ times page (root_pages (committed_roots d))
  pub gained_whole : AllByRecursion (IsWhole d.geometry (home d.geometry disk)) gained
  pub lost_whole : AllByRecursion (IsWhole d.geometry (home d.geometry disk)) lost

-- Each unit behind the log that has an owner stands at home on the later disk as it did.
abbrev pub OwnedStay : Decoded → (ℕ → ℕ) → List ℕ → List ℕ → Type 0
OwnedStay d refs disk later = (unit : ℕ) → catalog_no ≤ unit → 1 ≤ refs unit → home d.geometry later unit ≡ home d.geometry disk unit

-- the owners of a view
abbrev pub OwnersOf : Decoded → View Held → Volume → Type 0
OwnersOf d v working = OwnersShown d v.session.used v.session.refs v.session.gained v.session.lost (roots_here v.session.scans) v.disk working
