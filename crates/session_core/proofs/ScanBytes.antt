-- What a port over a session that shows has of an open scan: the scan's bytes, and a tree that is whole.
use Rattle.std.proofs.Common.{◌≡◌, ◌∙◌, ℕ, ◌-◌, ◌≤◌, min, ltb, false, List, length, map, Option, Some, None, Result, Ok, Err, refl, sym, ap, subst, arith}
use Rattle.std.specs.Prelude.{IfOk, IfErr, slice_get}
use Rattle.std.specs.List.{AllByRecursion, AllZip}
use Rattle.std.proofs.lemmas.Bool.{cond-false, le-ltb}
use Rattle.ex_base.specs.declared.ground.Ground as ground
use Rattle.ex_base.specs.declared.geometry.Geometry.{Geometry}
use Rattle.ex_base.specs.declared.faults.PortFault.{PortFault}
use Rattle.ex_base.specs.declared.faults.PortFault.TheVariants.{Memory}
use Rattle.ex_base.specs.declared.names.Root.{Root}
use Rattle.ex_base.specs.Area.{area_end, leaf_at, page_at}
use Rattle.ex_base.specs.Bytes.{bytes_at}
use Rattle.ex_base.specs.Ports.{IsDamage}
use Rattle.ex_base.specs.Sizes.{leaf_bytes}
use Rattle.disk_model.specs.Outside.{Outside}
use Rattle.open_scans.specs.OpenScans.{OpenRow, AtRow, given_len, position_of, scan_of}
use Rattle.open_scans.proofs.Beside.{of_its_root, paired}
use Rattle.scans.specs.Scans.{Opened, scan_size}
use Rattle.op_log.specs.AfterLog.{after_log}
use Rattle.session_views.specs.View.{View, ShowsNow}
use Rattle.table_model.specs.declared.machine.ScanRow.{ScanRow}
use Rattle.tree_store.specs.Stored.{unit_bytes}
use Rattle.trees.specs.Damage.{IsWhole}
use Rattle.trees.specs.Shown.{BytesShown}
use Rattle.trees.specs.Trees.{Units}
use Rattle.trees.proofs.TreeLaws.{AreWhole}
use Rattle.versions.proofs.Roots.{root_length}
use Rattle.volume_model.specs.Homes.{home}
use Rattle.volume_model.specs.Shown.{ScanShown, roots_here}
use Rattle.volume_model.specs.Parts.{Decodes}
use Rattle.volume_model.specs.Volume.{Decoded}
use Rattle.volume_model.proofs.WholeUnits.{are_whole}
use Rattle.volume_model.proofs.OwnersScanned.{scans_whole}
use Rattle.session_core.specs.Finding.{IsPortOver}
use Rattle.session_core.specs.Meant.{meant, held_view}
use Rattle.session_core.specs.ScanRows.{AtScan, PortScans, bytes_next}
use Rattle.session_core.specs.Sessions.{SessionState}
use Rattle.volume_model.proofs.Showing.{session_geometry}
use Rattle.session_core.proofs.Finding.{shown_tells}
use Rattle.session_core.proofs.Homes.{home_is}

-- ---- how much is left of it

length_shown : (g : Geometry) (units : Units) → AreWhole g units → (bytes small : List ℕ) (root : Option Root) (pos : ℕ) → BytesShown g units bytes small root → length bytes ≡ scan_size (record { root = root; small = small; pos = pos })
length_shown g units whole bytes small None pos shown = ap length shown.0
length_shown g units whole bytes small (Some root) pos shown = root_length g units root bytes whole shown.0

pub same_len : (g : Geometry) (units : Units) → AreWhole g units → (m : ScanRow) (row : OpenRow) (n : ℕ) → ScanShown g units m row.scan → given_len n row ≡ min n (length m.bytes - m.pos)
same_len g units whole m row n shown =
    ap (λ (size : ℕ). min n (size - row.scan.pos)) (sym (length_shown g units whole m.bytes row.scan.small row.scan.root row.scan.pos shown.bytes))
    ∙ ap (λ (pos : ℕ). min n (length m.bytes - pos)) (sym shown.pos)

-- the units at home are whole
pub home_whole : (d : Decoded) (disk : List ℕ) → Decodes disk d → AreWhole d.geometry (home d.geometry disk)
home_whole d disk decodes page (j, lt, is) =
    let g = d.geometry in
    let leaf : ltb page (area_end g) ≡ false = le-ltb page (area_end g) (omega (arith, is)) in
    subst (λ (bytes : List ℕ). leaf_bytes g ≤ length bytes)
    (cond-false (ltb page (area_end g)) (after_log g d.records disk page) (leaf_at g disk page) leaf ∙ sym (cond-false (ltb page (area_end g)) (page_at g disk page) (leaf_at g disk page) leaf))
    (are_whole d disk decodes page (j, lt, is))

-- ---- what a port has of it

module _ {S : Type 0} (g : ground.Ghosts S) (s : S) (rows : List OpenRow) {before : View SessionState} (has : PortScans g s rows before) where
  -- what is given is what the machine's row says
  pub given_shown : {T E : Type 0} (items : T → List ℕ) → g.ready s → (result : Result T E) (index len : ℕ)
      → IfOk result (λ given. g.tells s → AtRow rows index (λ row. (opened : List ℕ) → Opened (g.geometry s) (g.unit s) (position_of row.scan) opened → items given ≡ bytes_at opened row.scan.pos (given_len len row)))
      → IfOk result (λ given. AtScan before.machine index (λ m. items given ≡ bytes_next len m))
  given_shown items ready (Err fault) index len told = tt
  given_shown items ready (Ok given) index len told = λ m at.
      let pair = paired (g.geometry s) (g.unit s) before.machine.scans rows m index has.scans at in
      told has.tells pair.row pair.at m.bytes pair.shown.bytes
      ∙ ap (λ (pos : ℕ). bytes_at m.bytes pos (given_len len pair.row)) (sym pair.shown.pos)
      ∙ ap (λ (n : ℕ). bytes_at m.bytes m.pos n) (same_len (g.geometry s) (g.unit s) (g.whole s ready has.tells) m pair.row len pair.shown)

  -- and no page of it is damaged
  pub sound_shown : {T : Type 0} (result : Result T PortFault) (index : ℕ)
      → IfErr result (λ fault. IsDamage fault → g.tells s → AtRow rows index (λ row. (root : Root) → row.scan.root ≡ Some root → IsWhole (g.geometry s) (g.unit s) root → ⊥))
      → AtRow rows index (λ row. row.scan.root ≡ None → IfErr result (λ fault. fault ≡ Memory))
      → IfErr result (λ fault. AtScan before.machine index (λ m. IsDamage fault → ⊥))
  sound_shown (Ok x) index sound small = tt
  sound_shown (Err fault) index sound small = λ m at damage.
      let pair = paired (g.geometry s) (g.unit s) before.machine.scans rows m index has.scans at in
      by damage pair.row pair.at pair.row.scan.root refl
    where
      by : IsDamage fault → (row : OpenRow) → slice_get rows index ≡ Some row → (root : Option Root) → row.scan.root ≡ root → ⊥
      by damage row at None is = subst IsDamage (small row at is) damage
      by damage row at (Some root) is = sound damage has.tells row at root is (of_its_root (IsWhole (g.geometry s) (g.unit s)) rows row index root has.whole at is)

-- A port over a session that shows has its scans.
module _ {S : Type 0} (g : ground.Ghosts S) (s : S) {w : Outside} {old : SessionState} (over : IsPortOver g s w old) (rows : List OpenRow) (are : old.scans ≡ rows)
    (before : View SessionState) (same : before.session ≡ old) (now : ShowsNow meant w before) where
  abbrev d : Decoded
  d = now.shows.decoded

  here : IsPortOver g s w before.session
  here = subst (IsPortOver g s w) (sym same) over

  geometry_is : g.geometry s ≡ d.geometry
  geometry_is = here.port.geometry ∙ session_geometry now.shows

  units_are : g.unit s ≡ home d.geometry before.disk
  units_are =
      here.port.unit ∙ ap (λ (o : Option (List ℕ)). unit_bytes before.session.geometry o) now.holds
      ∙ ap (λ (h : Geometry). unit_bytes h (Some before.disk)) (session_geometry now.shows) ∙ home_is d.geometry before.disk

  scans_are : before.session.scans ≡ rows
  scans_are = ap (λ (t : SessionState). t.scans) same ∙ are

  pub port_scans : PortScans g s rows before
  port_scans = record {
    tells = here.tells (shown_tells now here.is.sizes);
    scans =
        subst (λ (l : List OpenRow). AllZip (ScanShown (g.geometry s) (g.unit s)) before.machine.scans (map scan_of l)) scans_are
        (subst (λ (h : Geometry). AllZip (ScanShown h (g.unit s)) before.machine.scans (map scan_of before.session.scans)) (sym geometry_is)
        (subst (λ (units : Units). AllZip (ScanShown d.geometry units) before.machine.scans (map scan_of before.session.scans)) (sym units_are) now.shows.scans));
    whole =
        subst (λ (l : List OpenRow). AllByRecursion (IsWhole (g.geometry s) (g.unit s)) (roots_here (map scan_of l))) scans_are
        (subst (λ (h : Geometry). AllByRecursion (IsWhole h (g.unit s)) (roots_here (map scan_of before.session.scans))) (sym geometry_is)
        (subst (λ (units : Units). AllByRecursion (IsWhole d.geometry units) (roots_here (map scan_of before.session.scans))) (sym units_are)
        (scans_whole d (held_view before) now.shows.working now.shows.owners now.shows.scans)));
  }
