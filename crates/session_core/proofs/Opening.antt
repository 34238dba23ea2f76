-- A session that shows, once a scan of a version was opened.
use Rattle.std.proofs.Common.{◌≡◌, ◌∙◌, ◌≤◌, ◌<◌, ℕ, Bool, true, List, [], ◌∷◌, ◌++◌, map, length, take, Option, Some, None, refl, sym, ap, subst, arith}
use Rattle.std.specs.List.{AllZip}
use Rattle.std.specs.Prelude.{IfSome}
use Rattle.std.proofs.Math.Seq.{take-append_seam}
use Rattle.std.proofs.lemmas.List.{length-append, map-append}
use Rattle.std.proofs.lemmas.List.Elements.{All-append}
use Rattle.disk_model.specs.Outside.{Outside}
use Rattle.ex_base.specs.declared.geometry.Geometry.{Geometry}
use Rattle.ex_base.specs.declared.names.Area.TheVariants.{Page, Segment}
use Rattle.ex_base.specs.declared.names.Root.{Root}
use Rattle.ex_base.specs.Area.{IsUnit}
use Rattle.ex_base.specs.Bytes.{bytes_at}
use Rattle.ex_base.specs.Ports.{refs_most, times}
use Rattle.meta_pages.specs.Overlays.{AreRows}
use Rattle.open_scans.specs.OpenScans.{IsOpenScan, OpenRow, scan_of}
use Rattle.page_alloc.specs.UnitSet.{UnitSet, refs_at, used_at}
use Rattle.session_views.specs.View.{View, ShowsNow}
use Rattle.table_model.specs.declared.machine.ScanRow.{ScanRow}
use Rattle.table_model.specs.Machines.{scans_most}
use Rattle.tree_store.specs.Stored.{IsCounted}
use Rattle.trees.specs.Owners.{root_pages}
use Rattle.trees.specs.Roots.{IsRootFor}
use Rattle.trees.specs.Shown.{BytesShown}
use Rattle.volume_model.specs.Homes.{home}
use Rattle.volume_model.specs.OwnersShown.{OwnersShown, roots_held}
use Rattle.volume_model.specs.Shown.{ScanShown, root_here, roots_here, used_in}
use Rattle.volume_model.specs.Volume.{Decoded, Volume, roots_in, stored_in}
use Rattle.volume_model.proofs.FewRoots.{few_owners}
use Rattle.volume_model.proofs.OwnersScanned as scanned
use Rattle.volume_port.specs.GivingUp.{CountsRoot}
use Rattle.session_core.specs.declared.session.objects.Named.{Named}
use Rattle.session_core.specs.Finding.{IfShown, TellsVersion}
use Rattle.session_core.specs.Meant.{meant}
use Rattle.session_core.specs.Opening.{IfTold, ScanOpened, ShowsThen, first_row, with_scan}
use Rattle.session_core.specs.Sessions.{IsSession, SessionState}
use Rattle.session_core.specs.Steps.{OnlyFrames}
use Rattle.session_core.proofs.Ending.{few_scan_roots, scan_roots}
use Rattle.volume_port.proofs.Frames.{all_of_each}
use Rattle.session_core.proofs.OtherScans.{rescanned, scanning}
use Rattle.session_core.proofs.Quiet.{same_view}
use Rattle.session_core.proofs.Recorded.{root_there, shown_home, spelled_home}

-- ---- one more at the end

zip_last : {A B : Type 0} (R : A → B → Type 0) (xs : List A) (ys : List B) (x : A) (y : B) → AllZip R xs ys → R x y → AllZip R (xs ++ x ∷ []) (ys ++ y ∷ [])
zip_last R [] [] x y each here = (here, tt)
zip_last R [] (z ∷ ys) x y each here = absurd each
zip_last R (z ∷ xs) [] x y each here = absurd each
zip_last R (z ∷ xs) (u ∷ ys) x y each here = (each.0, zip_last R xs ys x y each.1 here)

-- the roots of the open scans, with one more
roots_last : (scans : List OpenRow) (row : OpenRow) → roots_here (map scan_of (scans ++ row ∷ [])) ≡ roots_here (map scan_of scans) ++ root_here row.scan.root
roots_last [] row = append_none (root_here row.scan.root)
  where
    append_none : (xs : List Root) → xs ++ [] ≡ xs
    append_none [] = refl
    append_none (x ∷ xs) = ap (λ (l : List Root). x ∷ l) (append_none xs)
roots_last (first ∷ scans) row = ap (λ (l : List Root). root_here first.scan.root ++ l) (roots_last scans row) ∙ behind (root_here first.scan.root)
  where
    behind : (xs : List Root) → xs ++ (roots_here (map scan_of scans) ++ root_here row.scan.root) ≡ (xs ++ roots_here (map scan_of scans)) ++ root_here row.scan.root
    behind [] = refl
    behind (x ∷ xs) = ap (λ (l : List Root). x ∷ l) (behind xs)

-- the other frames of a session, with the same other scans and units
pub frames_behind : {a b : Outside} {old new : SessionState} (scans : List OpenRow) (units : UnitSet) → OnlyFrames a b old (record old { groups = new.groups })
    → new ≡ record old { groups = new.groups; units = units; scans = scans } → OnlyFrames a b (scanning old scans units) new
frames_behind {a} {b} {old} {new} scans units only same =
    subst (OnlyFrames a b (scanning old scans units)) (sym same) (record { reads = only.reads; same = refl; lends = only.lends; sizes = only.sizes; kinds = only.kinds })

-- ---- the view after it

module _ {a b : Outside} {before : View SessionState} (now : ShowsNow meant a before) (session : IsSession before.session) (version : Named) (told : TellsVersion before version.oid version.found)
    (name small : List ℕ) (group : ℕ) (new : SessionState) (opened : ScanOpened a b before.session new (first_row name version.found.root small group)) where
  abbrev d : Decoded
  d = now.shows.decoded

  abbrev s : SessionState
  s = before.session

  abbrev volume : Volume
  volume = now.shows.working

  abbrev root : Option Root
  root = version.found.root

  abbrev row : OpenRow
  row = first_row name root small group

  -- the page of its root is that of a root of the working volume
  there : (u : ℕ) → 1 ≤ times u (root_pages (root_here root)) → 1 ≤ times u (root_pages (roots_in (stored_in volume)))
  there = root_there before now.shows version.oid told.version told.is told.lies root (sym told.root)

  few : length (root_pages (roots_held d s.gained (scan_roots s))) ≤ 1500000000
  few = omega (arith, few_owners d before.disk s.gained (scan_roots s) now.shows.parts, few_scan_roots s.scans, session.few_scans, session.few_gained, session.few_notes)

  -- which has an owner, and so few that one more is counted
  room : (u : ℕ) → 1 ≤ times u (root_pages (root_here root)) → IsUnit s.units.geometry u × (used_at s.units u ≡ true) × (refs_at s.units u < refs_most)
  room u has =
      let used = scanned.root_used d (used_at s.units) (refs_at s.units) s.gained s.lost (scan_roots s) before.disk volume now.shows.owners root there u has in (
        subst (λ (g : Geometry). IsUnit g u) (sym session.units.geometry) (session.units.named u used),
        used,
        scanned.few_scanned d (used_at s.units) (refs_at s.units) s.gained s.lost (scan_roots s) before.disk volume now.shows.owners root few u,
      )

  owners : OwnersShown d (used_at new.units) (refs_at new.units) s.gained s.lost (roots_here (map scan_of (s.scans ++ row ∷ []))) before.disk volume
  owners =
      subst (λ (f : ℕ → Bool). OwnersShown d f (refs_at new.units) s.gained s.lost (roots_here (map scan_of (s.scans ++ row ∷ []))) before.disk volume) (sym opened.counts.used)
      (subst (λ (roots : List Root). OwnersShown d (used_at s.units) (refs_at new.units) s.gained s.lost roots before.disk volume) (sym (roots_last s.scans row))
      (scanned.opened d (used_at s.units) (refs_at s.units) s.gained s.lost (scan_roots s) before.disk volume now.shows.owners root there (refs_at new.units) (opened.counts.refs room)))

  module _ (rows : root ≡ None → AreRows s.meta) (bytes : root ≡ None → small ≡ told.version.bytes) where
    abbrev last : ScanRow
    last = record { name = name; bytes = told.version.bytes; pos = 0 }

    last_shown : ScanShown d.geometry (home d.geometry before.disk) last row.scan
    last_shown = record { name = refl; pos = refl; bytes = shown_first root refl }
      where
        shown_first : (o : Option Root) → root ≡ o → BytesShown d.geometry (home d.geometry before.disk) told.version.bytes small o
        shown_first None none =
            shown_home before now.shows version.oid told.version told.is told.lies (rows none) session.meta None small (sym told.root ∙ none) (λ _. bytes none)
        shown_first (Some r) some = spelled_home before now.shows version.oid told.version told.is told.lies r (sym told.root ∙ some)

    all_shown : AllZip (ScanShown d.geometry (home d.geometry before.disk)) (before.machine.scans ++ last ∷ []) (map scan_of (s.scans ++ row ∷ []))
    all_shown =
        subst (AllZip (ScanShown d.geometry (home d.geometry before.disk)) (before.machine.scans ++ last ∷ [])) (sym (map-append scan_of s.scans (row ∷ [])))
        (zip_last (ScanShown d.geometry (home d.geometry before.disk)) before.machine.scans (map scan_of s.scans) last row.scan now.shows.scans last_shown)

    -- The new session shows the machine with the scan.
    pub open_shows : ShowsThen before b new (with_scan name told.version.bytes before.machine)
    open_shows rules =
        let m = before.machine in
        let first : ShowsNow meant a (record { machine = with_scan name told.version.bytes m; session = scanning s (s.scans ++ row ∷ []) new.units; disk = before.disk }) =
        rescanned now (m.scans ++ last ∷ []) (s.scans ++ row ∷ []) new.units m.pages_used m.segs_used rules all_shown owners
        (now.shows.used.pages ∙ ap (λ (f : ℕ → Bool). used_in d.geometry f Page) (sym opened.counts.used))
        (now.shows.used.segs ∙ ap (λ (f : ℕ → Bool). used_in d.geometry f Segment) (sym opened.counts.used)) in
        same_view (record { machine = with_scan name told.version.bytes m; session = scanning s (s.scans ++ row ∷ []) new.units; disk = before.disk }) refl first
        (frames_behind (s.scans ++ row ∷ []) new.units opened.frames opened.same) session.sizes

-- ---- the session after it

-- The session is one still with a scan more, whose root is one that a tree may have and whose group is there.
pub open_session : (s : SessionState) (units : UnitSet) (row : OpenRow) → IsSession s → used_at units ≡ used_at s.units → IsCounted s.geometry units → IsOpenScan s.geometry (length s.group_rows) row → length s.scans < scans_most
    → IsSession (scanning s (s.scans ++ row ∷ []) units)
open_session s units row is used counted one few = record {
  log = is.log;
  meta = is.meta;
  units = counted;
  pages = is.pages;
  in_use = record {
    working = λ page held. ap (λ (f : ℕ → Bool). f page) used ∙ is.in_use.working page held;
    committed = λ page flag. ap (λ (f : ℕ → Bool). f page) used ∙ is.in_use.committed page flag;
  };
  sizes = is.sizes;
  groups = is.groups;
  few_groups = is.few_groups;
  scans = All-append (IsOpenScan s.geometry (length s.group_rows)) s.scans (row ∷ []) is.scans (all_of_each (IsOpenScan s.geometry (length s.group_rows)) (row ∷ []) (one, tt));
  few_scans = omega (arith, few, length-append s.scans (row ∷ []));
  logged = is.logged;
  behind = is.behind;
  few_notes = is.few_notes;
  notes = is.notes;
  few_gained = is.few_gained;
  few_lost = is.few_lost;
  few_pages = is.few_pages;
  in_order = is.in_order;
  work = is.work;
  up = is.up;
  idle = is.idle;
}

-- ---- as the code comes to it

all_bytes : (bytes : List ℕ) → bytes_at bytes 0 (length bytes) ≡ bytes
all_bytes [] = refl
all_bytes (x ∷ bytes) = ap (λ (t : List ℕ). x ∷ t) (all_bytes bytes)

-- the bytes that a scan was made of are all that were read
pub all_read : (n : ℕ) (out new rest bytes lent small : List ℕ) → small ≡ lent → lent ≡ take n (new ++ rest) → length new ≡ n → length out ≡ length bytes → new ≡ bytes_at bytes 0 (length out) → small ≡ bytes
all_read n out new rest bytes lent small is lends long as_many read =
    is
    ∙ lends
    ∙ subst (λ (m : ℕ). take m (new ++ rest) ≡ new) long (take-append_seam new rest)
    ∙ read
    ∙ ap (bytes_at bytes 0) as_many
    ∙ all_bytes bytes

-- the row is that of a scan at its first byte
pub record IsFirst (name : List ℕ) (root : Option Root) (group : ℕ) (row : OpenRow) : Type 0 where
  pub is : row ≡ first_row name root row.scan.small group

-- The session after the calls: frames changed, then the scan came last, and its root was counted.
pub scan_opened : {a b : Outside} (old s : SessionState) (name : List ℕ) (root : Option Root) (group : ℕ) (row : OpenRow) (scans : List OpenRow) (units : UnitSet) → OnlyFrames a b old s → IsFirst name root group row
    → CountsRoot root s.units units → scans ≡ s.scans ++ row ∷ [] → ScanOpened a b old (scanning s scans units) (first_row name root row.scan.small group)
scan_opened {a} {b} old s name root group row scans units only first counts last = record {
  frames = subst (OnlyFrames a b old) only.same only;
  counts = subst (λ (u : UnitSet). CountsRoot root u units) (ap (λ (t : SessionState). t.units) only.same) counts;
  same = ap (λ (t : SessionState). record t { units = units; scans = scans }) only.same
      ∙ ap (λ (rows : List OpenRow). record old { groups = s.groups; units = units; scans = rows }) (last ∙ ap (λ (t : SessionState). t.scans ++ row ∷ []) only.same ∙ ap (λ (r : OpenRow). old.scans ++ r ∷ []) first.is);
}

pub scan_shown : {a b : Outside} (old s : SessionState) (version : Named) (name : List ℕ) (group : ℕ) (row : OpenRow) (scans : List OpenRow) (units : UnitSet) → IsSession old → OnlyFrames a b old s
    → IsFirst name version.found.root group row → CountsRoot version.found.root s.units units → scans ≡ s.scans ++ row ∷ [] → (version.found.root ≡ None → AreRows old.meta)
    → (version.found.root ≡ None → IfShown a old (λ before. IfTold before version (λ bytes. row.scan.small ≡ bytes)))
    → IfShown a old (λ before. IfTold before version (λ bytes. ShowsThen before b (scanning s scans units) (with_scan name bytes before.machine)))
scan_shown {a} {b} old s version name group row scans units is only first counts last rows bytes = λ before same now told.
    let opened = scan_opened old s name version.found.root group row scans units only first counts last in
    open_shows now (subst IsSession (sym same) is) version told name row.scan.small group (scanning s scans units)
    (subst (λ (t : SessionState). ScanOpened a b t (scanning s scans units) (first_row name version.found.root row.scan.small group)) (sym same) opened)
    (λ none. subst (λ (t : SessionState). AreRows t.meta) (sym same) (rows none))
    (λ none. bytes none before same now told)

pub scan_session : {a b : Outside} (old s : SessionState) (name : List ℕ) (root : Option Root) (group : ℕ) (row : OpenRow) (scans : List OpenRow) (units : UnitSet) → OnlyFrames a b old s → IsFirst name root group row
    → CountsRoot root s.units units → ((g : Geometry) → IsCounted g s.units → IsCounted g units) → scans ≡ s.scans ++ row ∷ [] → IsSession s
    → IfSome root (IsRootFor old.geometry) → group ≤ length old.group_rows → length old.scans < scans_most → IsSession (scanning s scans units)
scan_session old s name root group row scans units only first counts counted last is rooted grouped few =
    let same = only.same in
    let one : IsOpenScan s.geometry (length s.group_rows) row = subst (IsOpenScan s.geometry (length s.group_rows)) (sym first.is) (record {
      root = subst (λ (t : SessionState). IfSome root (IsRootFor t.geometry)) (sym same) rooted;
      inside = omega arith;
      group = subst (λ (t : SessionState). group ≤ length t.group_rows) (sym same) grouped;
    }) in
    subst (λ (rows : List OpenRow). IsSession (scanning s rows units)) (sym last)
    (open_session s units row is counts.used (counted s.geometry is.units) one (subst (λ (t : SessionState). length t.scans < scans_most) (sym same) few))
