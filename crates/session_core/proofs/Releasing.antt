-- Trees that an abort and a commit give up: what they own, and the session after it.
use Rattle.std.proofs.Common.{◌≡◌, ◌∙◌, ◌⊎◌, inl, inr, ⊎_elim, ◌≤◌, ℕ, Bool, true, false, ◌||◌, List, [], ◌∷◌, ◌++◌, Option, Some, refl, sym, ap, subst, arith}
use Rattle.std.specs.Prelude.{IsSome}
use Rattle.std.specs.List.{AllByRecursion}
use Rattle.ex_base.specs.declared.geometry.Geometry.{Geometry}
use Rattle.ex_base.specs.declared.names.Root.{Root}
use Rattle.ex_base.specs.Area.{catalog_no}
use Rattle.ex_base.specs.Ports.{times}
use Rattle.ex_base.specs.Sizes.{volume_bytes}
use Rattle.ex_base.proofs.Counts.{contains_times, times-append}
use Rattle.disk_model.specs.Outside.{Outside, ReadsOnly}
use Rattle.buffer_groups.specs.Frames.{Frames}
use Rattle.page_alloc.specs.UnitSet.{UnitSet, refs_at, used_at}
use Rattle.trees.specs.Damage.{IsWhole}
use Rattle.trees.specs.Owners.{IsOwned, root_pages}
use Rattle.tree_store.specs.Stored.{Fits, Tells}
use Rattle.session_views.specs.View.{View, ShowsNow}
use Rattle.volume_model.specs.Homes.{home}
use Rattle.volume_model.specs.OwnersShown.{logged_pages}
use Rattle.volume_model.specs.Volume.{Decoded, file_pages}
use Rattle.volume_port.specs.Giving.{is_logged}
use Rattle.volume_port.specs.GivingUp.{GivesTrees, OwnRoots, ReleasesRoots}
use Rattle.volume_port.specs.Logged.{LoggedSet, is_held}
use Rattle.session_core.specs.Meant.{meant}
use Rattle.session_core.specs.Sessions.{IsSession, SessionState, is_kept}
use Rattle.session_core.proofs.Ending.{AsFree}
use Rattle.session_core.proofs.Quiet.{shown_lends}
use Rattle.session_core.proofs.Sessions.{main_there}
use Rattle.volume_model.proofs.Showing.{session_geometry}

-- Of a session with these frames the trees of these roots were given up: the units and the frames after it.
pub record GaveUp (a b : Outside) (s : SessionState) (was : List Frames) (roots : List Root) (units : UnitSet) (groups : List Frames) : Type 0 where
  pub gives : GivesTrees (is_logged s.pages s.kept) s.geometry a b s.units units was groups
  pub refs : (unit : ℕ) → refs_at units unit ≤ refs_at s.units unit
  pub released : ReleasesRoots s.pages s.kept s.geometry a was s.units units roots

-- as the code comes to it
pub gave_up : {a b : Outside} (s : SessionState) (told roots : List Root) (units : UnitSet) (groups : List Frames) → told ≡ roots → GivesTrees (is_logged s.pages s.kept) s.geometry a b s.units units s.groups groups
    → ((unit : ℕ) → refs_at units unit ≤ refs_at s.units unit) → ReleasesRoots s.pages s.kept s.geometry a s.groups s.units units told → GaveUp a b s s.groups roots units groups
gave_up {a} s told roots units groups same gives refs released = record {
  gives = gives;
  refs = refs;
  released = subst (λ (rs : List Root). ReleasesRoots s.pages s.kept s.geometry a s.groups s.units units rs) same released;
}

-- ---- pages that are logged

pub held_logged : (pages : LoggedSet) (kept : List Bool) (page : ℕ) → is_held pages page ≡ true → is_logged pages kept page ≡ true
held_logged pages kept page held = rw held refl

pub kept_logged : (pages : LoggedSet) (kept : List Bool) (page : ℕ) → is_kept kept page ≡ true → is_logged pages kept page ≡ true
kept_logged pages kept page flag = either (is_held pages page)
  where
    either : (b : Bool) → (b || is_kept kept page) ≡ true
    either true = refl
    either false = flag

logged_either : (pages : LoggedSet) (kept : List Bool) (page : ℕ) → is_logged pages kept page ≡ true → (is_held pages page ≡ true) ⊎ (is_kept kept page ≡ true)
logged_either pages kept page is = by (is_held pages page) refl is
  where
    by : (b : Bool) → is_held pages page ≡ b → (b || is_kept kept page) ≡ true → (is_held pages page ≡ true) ⊎ (is_kept kept page ≡ true)
    by true held some = inl held
    by false off some = inr some

-- ---- the session after it

pub fits_session : (s : SessionState) (size : ℕ) → IsSession s → volume_bytes s.geometry ≤ size → Fits s.geometry size s.groups 0 s.units
fits_session s size is room = record { group = main_there s.group_rows s.groups is.groups; disk = room; frames = is.sizes; behind = is.behind; counted = is.units }

pub given_session : {a b : Outside} (s : SessionState) (units : UnitSet) (groups : List Frames) → IsSession s → volume_bytes s.geometry ≤ a.size → GivesTrees (is_logged s.pages s.kept) s.geometry a b s.units units s.groups groups
    → IsSession (record s { units = units; groups = groups })
given_session {a} {b} s units groups is room gives =
    let fits = gives.fits (fits_session s a.size is room) in
    record {
      log = is.log;
      meta = is.meta;
      units = fits.counted;
      pages = is.pages;
      in_use = record {
        working = λ page held. gives.logged page (held_logged s.pages s.kept page held) (is.in_use.working page held);
        committed = λ page flag. gives.logged page (kept_logged s.pages s.kept page flag) (is.in_use.committed page flag);
      };
      sizes = fits.frames;
      groups = gives.kinds ∙ is.groups;
      few_groups = is.few_groups;
      scans = is.scans;
      few_scans = is.few_scans;
      logged = is.logged;
      behind = fits.behind;
      few_notes = is.few_notes;
      notes = is.notes;
      few_gained = is.few_gained;
      few_lost = is.few_lost;
      few_pages = is.few_pages;
      in_order = is.in_order;
      work = is.work;
      up = is.up;
      idle = is.idle;
    }

-- the disk has room still where it was read
pub room_read : {a i : Outside} (s mid two : SessionState) → mid ≡ record s { groups = mid.groups } → two ≡ mid → ReadsOnly a i → volume_bytes s.geometry ≤ a.size → volume_bytes two.geometry ≤ i.size
room_read {a} {i} s mid two only is reads room =
    subst (λ (n : ℕ). volume_bytes two.geometry ≤ n) (sym reads.nothing.only.goes.size)
    (subst (λ (g : Geometry). volume_bytes g ≤ a.size) (sym (ap (λ (t : SessionState). t.geometry) (is ∙ only))) room)

-- ---- what the roots of a shown session own

-- What stands outside now told the bytes of the disk that the view has, and these frames lend them.
pub record TellsDisk (m : Outside) (disk : List ℕ) (was : List Frames) : Type 0 where
  pub told : Tells m was
  pub holds : m.disk ≡ Some disk

module _ {a : Outside} {before : View SessionState} (now : ShowsNow meant a before) where
  abbrev d : Decoded
  d = now.shows.decoded

  abbrev s : SessionState
  s = before.session

  logged_listed : (page : ℕ) → is_logged s.pages s.kept page ≡ true → 1 ≤ times page (logged_pages d now.shows.working)
  logged_listed page is =
      let whole = times-append page (catalog_no ∷ file_pages d.volume) (file_pages now.shows.working) in
      let front = times-append page (catalog_no ∷ []) (file_pages d.volume) in
      let back = times-append page (catalog_no ∷ []) (file_pages now.shows.working) in
      ⊎_elim
      (λ held. omega (arith, contains_times page (catalog_no ∷ file_pages now.shows.working) ((now.shows.logged.held page).0 held), whole, front, back))
      (λ flag. omega (arith, contains_times page (catalog_no ∷ file_pages d.volume) ((now.shows.logged.kept page).0 flag), whole)) (logged_either s.pages s.kept page is)

  -- the owners of a shown session's units, where these roots stand first and their trees are whole
  pub record StandFirst (roots : List Root) (others : List ℕ) : Type 0 where
    pub whole : AllByRecursion (IsWhole d.geometry (home d.geometry before.disk)) roots
    pub owned : IsOwned d.geometry (home d.geometry before.disk) (used_at s.units) (refs_at s.units) (logged_pages d now.shows.working) (root_pages roots ++ others)

  -- They can be given up,
  pub own_roots : {m : Outside} (was : List Frames) (roots : List Root) (others : List ℕ) → TellsDisk m before.disk was → StandFirst roots others → OwnRoots s.pages s.kept s.geometry m was s.units roots
  own_roots was roots others tells first =
      let same = sym (session_geometry now.shows) in
      record {
        disk = before.disk;
        logged = logged_pages d now.shows.working;
        others = others;
        told = (tells.told.1, tells.told.2);
        holds = tells.holds;
        listed = logged_listed;
        whole = subst (λ (g : Geometry). AllByRecursion (IsWhole g (home g before.disk)) roots) same first.whole;
        owned = subst (λ (g : Geometry). IsOwned g (home g before.disk) (used_at s.units) (refs_at s.units) (logged_pages d now.shows.working) (root_pages roots ++ others)) same first.owned;
      }

  -- and then the others own what is left.
  pub left_owned : {m b : Outside} (was : List Frames) (roots : List Root) (others : List ℕ) (units : UnitSet) (groups : List Frames) → TellsDisk m before.disk was → StandFirst roots others → GaveUp m b s was roots units groups
      → IsOwned d.geometry (home d.geometry before.disk) (used_at units) (refs_at units) (logged_pages d now.shows.working) others
  unfolding own_roots
  left_owned was roots others units groups tells first gave =
      subst (λ (g : Geometry). IsOwned g (home g before.disk) (used_at units) (refs_at units) (logged_pages d now.shows.working) others) (session_geometry now.shows)
      (gave.released (own_roots was roots others tells first))

-- A session that shows is honest, has its bytes, and its frames lend them.
pub tells_now : {a : Outside} {before : View SessionState} (now : ShowsNow meant a before) → IsSession before.session → TellsDisk a before.disk before.session.groups
tells_now {a} {before} now session = record { told = (now.honest, subst (λ (o : Option (List ℕ)). IsSome o) (sym now.holds) refl, shown_lends now session.sizes); holds = now.holds }

-- ---- counts

-- the units that are free then
pub given_free : {a b : Outside} {s : SessionState} {was : List Frames} {roots : List Root} {units : UnitSet} {groups : List Frames} (later : UnitSet) → GaveUp a b s was roots units groups → AsFree units later → AsFree s.units later
given_free later gave more = record {
  geometry = more.geometry ∙ gave.gives.geometry;
  free = λ area. (let one = gave.gives.free area in let two = more.free area in omega (arith, one, two));
}
