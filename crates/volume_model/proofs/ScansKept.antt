-- Open scans keep their bytes, since their roots own trees: over a later disk on which units that have an owner stand at home as they did, each scan shows what it did.
use Rattle.std.proofs.Common.{◌≡◌, ℕ, ◌+◌, ◌≤◌, Bool, true, List, [], ◌∷◌, Option, Some, None, refl, ap, ◌∙◌, arith}
use Rattle.std.specs.List.{AllZip}
use Rattle.std.proofs.lemmas.List.Concat.{flat_map-append}
use Rattle.ex_base.specs.declared.names.Root.{Root}
use Rattle.ex_base.specs.Ports.{times}
use Rattle.ex_base.proofs.Counts.{times-append}
use Rattle.session_views.specs.View.{View}
use Rattle.table_model.specs.declared.machine.ScanRow.{ScanRow}
use Rattle.trees.specs.Owners.{page_here, root_pages}
use Rattle.trees.specs.Shown.{BytesShown}
use Rattle.trees.proofs.OwnedTrees.{owned_apart, shown_kept}
use Rattle.volume_model.specs.Committed.{HomesStay}
use Rattle.volume_model.specs.Homes.{home}
use Rattle.volume_model.specs.OwnersShown.{OwnedStay, OwnersOf, OwnersShown, committed_roots, logged_pages, roots_held}
use Rattle.volume_model.specs.Shown.{Held, HeldScan, OverlayShown, ScanShown, root_here, roots_here}
use Rattle.volume_model.specs.Volume.{Volume, Decoded}
use Rattle.volume_model.proofs.ExactView.{log_apart, times_joined}

-- the pages of the roots of a scan and of those behind it
pub roots_more : (u : ℕ) (scan : HeldScan) (scans : List HeldScan) → times u (root_pages (roots_here (scan ∷ scans))) ≡ times u (root_pages (root_here scan.root)) + times u (root_pages (roots_here scans))
roots_more u scan scans =
    ap (times u) (flat_map-append (λ (root : Root). page_here root.page) (root_here scan.root) (roots_here scans)) ∙ times-append u (root_pages (root_here scan.root)) (root_pages (roots_here scans))

module _ (d : Decoded) (used : ℕ → Bool) (refs : ℕ → ℕ) (gained lost : List Root) (held : List HeldScan) (disk : List ℕ) (working : Volume) (owners : OwnersShown d used refs gained lost (roots_here held) disk working)
    (later : List ℕ) (same : OwnedStay d refs disk later) where
  -- Each root of a scan is an owner.
  scan_owned : (u : ℕ) → 1 ≤ times u (root_pages (roots_here held)) → 1 ≤ refs u
  scan_owned u has = omega (arith, has, owners.owned.owners u, times_joined u (λ (root : Root). page_here root.page) (committed_roots d) gained (roots_here held))

  bytes_kept : (bytes small : List ℕ) (root : Option Root) → ((u : ℕ) → 1 ≤ times u (root_pages (root_here root)) → 1 ≤ refs u)
      → BytesShown d.geometry (home d.geometry disk) bytes small root → BytesShown d.geometry (home d.geometry later) bytes small root
  bytes_kept bytes small None own shown = shown
  bytes_kept bytes small (Some root) own shown =
      shown_kept d.geometry (home d.geometry disk) used refs (logged_pages d working) (root_pages (roots_held d gained (roots_here held))) owners.owned (home d.geometry disk) (home d.geometry later)
      (λ u behind some. refl) same bytes small (Some root) own shown

  each_scan : (rows : List ScanRow) (scans : List HeldScan) → ((u : ℕ) → 1 ≤ times u (root_pages (roots_here scans)) → 1 ≤ refs u)
      → AllZip (ScanShown d.geometry (home d.geometry disk)) rows scans → AllZip (ScanShown d.geometry (home d.geometry later)) rows scans
  each_scan [] [] own shown = shown
  each_scan [] (scan ∷ scans) own shown = shown
  each_scan (row ∷ rows) [] own shown = shown
  each_scan (row ∷ rows) (scan ∷ scans) own shown = (
    record {
      name = shown.0.name;
      pos = shown.0.pos;
      bytes = bytes_kept row.bytes scan.small scan.root (λ u has. own u (omega (arith, has, roots_more u scan scans))) shown.0.bytes;
    },
    each_scan rows scans (λ u has. own u (omega (arith, has, roots_more u scan scans))) shown.1,
  )

  pub scans_kept : (rows : List ScanRow) → AllZip (ScanShown d.geometry (home d.geometry disk)) rows held → AllZip (ScanShown d.geometry (home d.geometry later)) rows held
  scans_kept rows shown = each_scan rows held scan_owned shown

-- So it is where used units keep their bytes, as in an update and where a tree is given up,
pub scans_used : (d : Decoded) (used : ℕ → Bool) (refs : ℕ → ℕ) (gained lost : List Root) (held : List HeldScan) (disk : List ℕ) (working : Volume) → OwnersShown d used refs gained lost (roots_here held) disk working
    → (later : List ℕ) → ((unit : ℕ) → used unit ≡ true → home d.geometry later unit ≡ home d.geometry disk unit)
    → (rows : List ScanRow) → AllZip (ScanShown d.geometry (home d.geometry disk)) rows held → AllZip (ScanShown d.geometry (home d.geometry later)) rows held
scans_used d used refs gained lost held disk working owners later kept =
    scans_kept d used refs gained lost held disk working owners later (λ u behind some. kept u ((owners.owned.in_use u).1 (omega (arith, some))))

-- and over a checkpoint and a commit.
pub owned_stay : (d : Decoded) (v : View Held) (working : Volume) → OwnersOf d v working → OverlayShown d v
    → (later : List ℕ) → HomesStay d v.disk later → OwnedStay d v.session.refs v.disk later
owned_stay d v working owners overlay later stays unit behind some =
    stays unit behind (log_apart d v working overlay unit
    (owned_apart d.geometry (home d.geometry v.disk) v.session.used v.session.refs (logged_pages d working) (root_pages (roots_held d v.session.gained (roots_here v.session.scans))) owners.owned unit some))

pub scans_shown : (d : Decoded) (v : View Held) (working : Volume) → OwnersOf d v working → (later : List ℕ) → OwnedStay d v.session.refs v.disk later
    → AllZip (ScanShown d.geometry (home d.geometry v.disk)) v.machine.scans v.session.scans → AllZip (ScanShown d.geometry (home d.geometry later)) v.machine.scans v.session.scans
scans_shown d v working owners later same = scans_kept d v.session.used v.session.refs v.session.gained v.session.lost v.session.scans v.disk working owners later same v.machine.scans
