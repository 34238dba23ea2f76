-- A session that shows, once one of its scans was closed.
use Rattle.std.proofs.Common.{◌≡◌, ◌∙◌, ◌+◌, ◌<◌, ◌≤◌, ℕ, suc, List, [], ◌∷◌, map, length, take, drop, All, Option, Some, None, refl, sym, ap, subst, arith, inl, inr}
use Rattle.std.specs.Prelude.{slice_get}
use Rattle.std.specs.List.{AllByRecursion, AllZip, remove}
use Rattle.std.proofs.lemmas.List.Elements.{All-append, All-drop, All-take}
use Rattle.ex_base.specs.declared.faults.PortFault.{PortFault}
use Rattle.ex_base.specs.declared.geometry.Geometry.{Geometry}
use Rattle.ex_base.specs.declared.names.Area.TheVariants.{Page, Segment}
use Rattle.ex_base.specs.declared.names.Root.{Root}
use Rattle.ex_base.specs.Ports.{IsDamage, times}
use Rattle.ex_base.specs.Sizes.{volume_bytes}
use Rattle.ex_base.proofs.Members.{In, into_flat, of_each}
use Rattle.disk_model.specs.Outside.{Outside}
use Rattle.buffer_groups.specs.Frames.{Frames}
use Rattle.open_scans.specs.OpenScans.{AtRow, IsOpenScan, OpenRow, scan_of}
use Rattle.open_scans.proofs.Removed.{fewer_left, in_at, map_removed, roots_removed, row_at, zip_removed}
use Rattle.page_alloc.specs.UnitSet.{UnitSet, refs_at, used_at}
use Rattle.session_views.specs.declared.stop.Stop.{Stop}
use Rattle.session_views.specs.View.{View, ShowsNow}
use Rattle.table_model.specs.declared.machine.Machine.{Machine}
use Rattle.trees.specs.Damage.{IsWhole}
use Rattle.trees.specs.Owners.{IsOwned, root_pages}
use Rattle.volume_model.specs.Homes.{home}
use Rattle.volume_model.specs.OwnersShown.{OwnersShown, logged_pages, roots_held}
use Rattle.volume_model.specs.Shown.{HeldScan, ScanShown, root_here, roots_here, used_in}
use Rattle.volume_model.specs.Volume.{Decoded, Volume}
use Rattle.volume_model.proofs.OwnersScanned as scanned
use Rattle.volume_port.proofs.GivingUp.{gives_tells}
use Rattle.volume_port.specs.GivingUp.{GivesTrees, OwnRoots, ReleasesRoots, is_logged}
use Rattle.session_core.specs.Finding.{IfShown, IsOutside, stop_at}
use Rattle.session_core.specs.Meant.{held_view, meant}
use Rattle.session_core.specs.Opening.{ShowsThen, without_scan}
use Rattle.session_core.specs.Sessions.{IsSession, SessionState, held}
use Rattle.session_core.proofs.Ending.{scan_roots}
use Rattle.session_core.proofs.Finding.{stopped_outside}
use Rattle.session_core.proofs.HeldRows.{AreOpen, scans_session}
use Rattle.volume_port.proofs.Frames.{frames_shown}
use Rattle.session_core.proofs.OtherScans.{rescanned, scanning}
use Rattle.session_core.proofs.Quiet.{left_before, now_after, shows_frames}
use Rattle.session_core.proofs.Releasing.{GaveUp, StandFirst, fits_session, left_owned, own_roots, tells_now}
use Rattle.volume_model.proofs.Showing.{session_geometry}

-- ---- what the scan's tree owns

module _ {a : Outside} {before : View SessionState} (now : ShowsNow meant a before) (session : IsSession before.session) (index : ℕ) (row : OpenRow) (at : slice_get before.session.scans index ≡ Some row) where
  abbrev d : Decoded
  d = now.shows.decoded

  abbrev s : SessionState
  s = before.session

  abbrev volume : Volume
  volume = now.shows.working

  abbrev rest : List OpenRow
  rest = remove s.scans index

  -- the roots of the other scans
  abbrev others : List Root
  others = roots_here (map scan_of rest)

  without : (u : ℕ) → times u (root_pages others) + times u (root_pages (root_here row.scan.root)) ≡ times u (root_pages (scan_roots s))
  without u = roots_removed u s.scans index row at

  scan_in : In row.scan (map scan_of s.scans)
  scan_in = by s.scans (in_at s.scans index row at)
    where
      by : (rows : List OpenRow) → In row rows → In row.scan (map scan_of rows)
      by [] has = absurd has
      by (first ∷ rows) (inl same) = inl (ap scan_of same)
      by (first ∷ rows) (inr has) = inr (by rows has)

  -- its tree is whole
  whole : AllByRecursion (IsWhole d.geometry (home d.geometry before.disk)) (root_here row.scan.root)
  whole = by row.scan.root refl
    where
      all : AllByRecursion (IsWhole d.geometry (home d.geometry before.disk)) (scan_roots s)
      all = scanned.scans_whole d (held_view before) volume now.shows.owners now.shows.scans

      by : (root : Option Root) → row.scan.root ≡ root → AllByRecursion (IsWhole d.geometry (home d.geometry before.disk)) (root_here root)
      by None none = tt
      by (Some root) some = (
        of_each (IsWhole d.geometry (home d.geometry before.disk)) root (scan_roots s) all
            (into_flat (λ (scan : HeldScan). root_here scan.root) root row.scan (map scan_of s.scans) scan_in (subst (λ (o : Option Root). In root (root_here o)) (sym some) (inl refl))),
        tt,
      )

  stands : StandFirst now (root_here row.scan.root) (root_pages (roots_held d s.gained others))
  stands = record {
    whole = whole;
    owned = scanned.scan_first d (used_at s.units) (refs_at s.units) s.gained s.lost (scan_roots s) before.disk volume now.shows.owners row.scan.root others without;
  }

  pub own_closed : OwnRoots s.pages s.kept s.geometry a s.groups s.units (root_here row.scan.root)
  own_closed = own_roots now s.groups (root_here row.scan.root) (root_pages (roots_held d s.gained others)) (tells_now now session) stands

  -- ---- the view after it

  module _ {b : Outside} (new : SessionState) (gave : GaveUp a b s s.groups (root_here row.scan.root) new.units new.groups) (same : new ≡ record s { groups = new.groups; units = new.units; scans = rest })
      (room : volume_bytes s.geometry ≤ a.size) where
    owned : IsOwned d.geometry (home d.geometry before.disk) (used_at new.units) (refs_at new.units) (logged_pages d volume) (root_pages (roots_held d s.gained others))
    owned = left_owned now s.groups (root_here row.scan.root) (root_pages (roots_held d s.gained others)) new.units new.groups (tells_now now session) stands gave

    owners : OwnersShown d (used_at new.units) (refs_at new.units) s.gained s.lost others before.disk volume
    owners = scanned.closed d (used_at s.units) (refs_at s.units) s.gained s.lost (scan_roots s) before.disk volume now.shows.owners row.scan.root others without (used_at new.units) (refs_at new.units) owned

    shown_left : AllZip (ScanShown d.geometry (home d.geometry before.disk)) (remove before.machine.scans index) (map scan_of rest)
    shown_left =
        subst (AllZip (ScanShown d.geometry (home d.geometry before.disk)) (remove before.machine.scans index)) (sym (map_removed s.scans index))
        (zip_removed (ScanShown d.geometry (home d.geometry before.disk)) before.machine.scans (map scan_of s.scans) index now.shows.scans)

    abbrev after : Machine
    after = without_scan index new before.machine

    abbrev mid : View SessionState
    mid = record { machine = after; session = scanning s rest new.units; disk = before.disk }

    new_geometry : new.geometry ≡ d.geometry
    new_geometry = ap (λ (t : SessionState). t.geometry) same ∙ session_geometry now.shows

    -- The new session shows the machine without the scan.
    pub close_shows : ShowsThen before b new after
    close_shows rules =
        let first : ShowsNow meant a mid =
        rescanned now (remove before.machine.scans index) rest new.units (used_in new.geometry (used_at new.units) Page) (used_in new.geometry (used_at new.units) Segment) rules shown_left owners
        (ap (λ (g : Geometry). used_in g (used_at new.units) Page) new_geometry) (ap (λ (g : Geometry). used_in g (used_at new.units) Segment) new_geometry) in
        let fits = gave.gives.fits (fits_session s a.size session room) in
        let told = gives_tells gave.gives (tells_now now session).told in
        let g = first.shows.decoded.geometry in
        let frames = frames_shown g b.disk before.disk new.groups (gave.gives.only.nothing.disk ∙ now.holds)
        (subst (λ (h : Geometry). All (λ (f : Frames). f.page_size ≡ h.page_size) new.groups) (session_geometry first.shows) fits.frames) told.2 in
        now_after gave.gives.only first refl (shows_frames (held new) first.shows (left_before gave.gives.only first) (ap held same) frames)

-- ---- the session after it

-- Without a scan it is a session still.
pub close_session : (s : SessionState) (index : ℕ) → IsSession s → IsSession (record s { scans = remove s.scans index })
close_session s index is =
    let P : OpenRow → Type 0 = IsOpenScan s.geometry (length s.group_rows) in
    scans_session s (remove s.scans index) (record {
      each = All-append P (take index s.scans) (drop (suc index) s.scans) (All-take P index s.scans is.scans) (All-drop P (suc index) s.scans is.scans);
      few = omega (arith, fewer_left s.scans index, is.few_scans);
    }) is

-- ---- as the code comes to it

module _ (s : SessionState) (is : IsSession s) (index : ℕ) (there : index < length s.scans) (root : Option Root) (found : AtRow s.scans index (λ row. root ≡ row.scan.root)) where
  -- its row, in a view of the session
  row_in : (before : View SessionState) → before.session ≡ s → (row : OpenRow) × ((slice_get before.session.scans index ≡ Some row) × (root ≡ row.scan.root))
  row_in before same =
      let own = row_at s.scans index there in
      (own.0, (ap (λ (t : SessionState). slice_get t.scans index) same ∙ own.1, found own.0 own.1))

  pub close_sound : {a : Outside} (fault : PortFault) (why : Stop) → why ≡ stop_at fault → (IsDamage fault → OwnRoots s.pages s.kept s.geometry a s.groups s.units (root_here root) → ⊥) → IfShown a s (λ before. IsOutside why)
  close_sound {a} fault why told never =
      stopped_outside fault why told
      (λ before same now damage.
      let row = row_in before same in
      let own : OwnRoots before.session.pages before.session.kept before.session.geometry a before.session.groups before.session.units (root_here row.0.scan.root) = own_closed now (subst IsSession (sym same) is) index row.0 row.1.0 in
      never damage
      (subst (λ (r : Option Root). OwnRoots s.pages s.kept s.geometry a s.groups s.units (root_here r)) (sym row.1.1)
      (subst (λ (t : SessionState). OwnRoots t.pages t.kept t.geometry a t.groups t.units (root_here row.0.scan.root)) same own)))

  pub close_shown : {a b : Outside} (units : UnitSet) (groups : List Frames) (scans : List OpenRow) → GivesTrees (is_logged s.pages s.kept) s.geometry a b s.units units s.groups groups
      → ((unit : ℕ) → refs_at units unit ≤ refs_at s.units unit) → ReleasesRoots s.pages s.kept s.geometry a s.groups s.units units (root_here root) → scans ≡ remove s.scans index → volume_bytes s.geometry ≤ a.size
      → IfShown a s (λ before. ShowsThen before b (record s { groups = groups; units = units; scans = scans }) (without_scan index (record s { groups = groups; units = units; scans = scans }) before.machine))
  close_shown {a} {b} units groups scans gives refs released left room = λ before same now.
      let row = row_in before same in
      let new : SessionState = record s { groups = groups; units = units; scans = scans } in
      let gave : GaveUp a b s s.groups (root_here row.0.scan.root) units groups = record {
        gives = gives;
        refs = refs;
        released = subst (λ (r : Option Root). ReleasesRoots s.pages s.kept s.geometry a s.groups s.units units (root_here r)) row.1.1 released;
      } in
      close_shows now (subst IsSession (sym same) is) index row.0 row.1.0 new
      (subst (λ (t : SessionState). GaveUp a b t t.groups (root_here row.0.scan.root) units groups) (sym same) gave)
      (ap (λ (rows : List OpenRow). record s { groups = groups; units = units; scans = rows }) left ∙ ap (λ (t : SessionState). record t { groups = groups; units = units; scans = remove t.scans index }) (sym same))
      (subst (λ (t : SessionState). volume_bytes t.geometry ≤ a.size) (sym same) room)
