-- What open scans reach, over a later disk on which units that have an owner stand at home as they did.
use Rattle.std.proofs.Common.{◌≡◌, ℕ, ◌≤◌, List, refl, arith}
use Rattle.std.specs.List.{AllZip, flat_map}
use Rattle.ex_base.specs.declared.names.Root.{Root}
use Rattle.ex_base.specs.Ports.{times}
use Rattle.ex_base.proofs.Each.{flat_same}
use Rattle.session_views.specs.View.{View}
use Rattle.trees.specs.Owners.{page_here, root_pages}
use Rattle.trees.specs.Trees.{root_units}
use Rattle.trees.proofs.KeptRoots.{RootKept, units_of_root}
use Rattle.trees.proofs.OwnedTrees.{roots_kept}
use Rattle.volume_model.specs.Homes.{home}
use Rattle.volume_model.specs.OwnersShown.{OwnedStay, OwnersOf, committed_roots, logged_pages, roots_held}
use Rattle.volume_model.specs.Shown.{Held, ScanShown, roots_here}
use Rattle.volume_model.specs.Volume.{Decoded, Volume}
use Rattle.volume_model.proofs.ExactView.{scans_named, times_joined}

-- The trees of scans that show their bytes have the same units.
pub scans_reach_same : (d : Decoded) (v : View Held) (working : Volume) → OwnersOf d v working → (later : List ℕ) → OwnedStay d v.session.refs v.disk later
    → AllZip (ScanShown d.geometry (home d.geometry v.disk)) v.machine.scans v.session.scans
    → flat_map (root_units (home d.geometry later)) (roots_here v.session.scans) ≡ flat_map (root_units (home d.geometry v.disk)) (roots_here v.session.scans)
scans_reach_same d v working owners later same shown =
    let g = d.geometry in
    let now = home g v.disk in
    let then = home g later in
    let scans = roots_here v.session.scans in
    let owned : (u : ℕ) → 1 ≤ times u (root_pages scans) → 1 ≤ v.session.refs u =
    λ u has. omega (arith, has, owners.owned.owners u, times_joined u (λ (root : Root). page_here root.page) (committed_roots d) v.session.gained scans) in
    flat_same (root_units now) (root_units then) (RootKept now then) scans (λ root kept. units_of_root now then root.height root.page kept)
    (roots_kept g now v.session.used v.session.refs (logged_pages d working) (root_pages (roots_held d v.session.gained scans)) owners.owned now then (λ u behind some. refl) same scans
    (scans_named g now v.machine.scans v.session.scans shown) owned)
