-- Who owns units after an update of a session: the root that came is counted, and the one that went is given up or lost.
use Rattle.std.proofs.Common.{◌≡◌, ◌∙◌, ◌⊎◌, ⊎_elim, inl, inr, ℕ, ◌+◌, ◌≤◌, ◌<◌, Bool, true, false, List, [], ◌∷◌, ◌++◌, length, nat_eq, Option, Some, None, refl, sym, ap, subst, arith, length-append}
use Rattle.std.specs.Prelude.{Contains}
use Rattle.std.specs.List.{AllByRecursion}
use Rattle.std.specs.Map.{lookup}
use Rattle.std.proofs.lemmas.Bool.{both_ways, cases_Bool, or_cases}
use Rattle.std.proofs.lemmas.List.Elements.{Contains-append_cases, Contains-append_left, Contains-append_right}
use Rattle.ex_base.specs.declared.geometry.Geometry.{Geometry}
use Rattle.ex_base.specs.declared.ground.Ground as ground
use Rattle.ex_base.specs.declared.names.Root.{Root}
use Rattle.ex_base.specs.Area.{IsUnit, catalog_no}
use Rattle.ex_base.specs.Ports.{refs_most, times}
use Rattle.ex_base.proofs.Counts.{contains_times, times-append, times_contains, times_here}
use Rattle.ex_base.proofs.Each.{each_from, each_of}
use Rattle.disk_model.specs.Outside.{Outside}
use Rattle.page_alloc.specs.UnitSet.{UnitSet, refs_at, used_at}
use Rattle.session_views.specs.View.{View, ShowsNow}
use Rattle.table_model.specs.declared.table.Table.{Table}
use Rattle.tree_store.specs.Stored.{NoUnit, Tells, unit_bytes}
use Rattle.trees.specs.Counted.{NamesPairs}
use Rattle.trees.specs.Damage.{IsWhole}
use Rattle.trees.specs.Owners.{IsOwned, root_pages}
use Rattle.trees.specs.Trees.{Units}
use Rattle.versions.specs.Versions.{AreInUse}
use Rattle.volume_edits.specs.Edits.{units_under}
use Rattle.volume_edits.proofs.Owning as owning
use Rattle.volume_model.specs.Held.{root_here}
use Rattle.volume_model.specs.Homes.{home}
use Rattle.volume_model.specs.OwnersMoved.{PagesGo, UnitsMade}
use Rattle.volume_model.specs.OwnersShown.{OwnersShown, logged_pages, roots_held}
use Rattle.volume_model.specs.Volume.{Decoded, Volume, file_pages, roots_in, stored_in}
use Rattle.volume_model.proofs.FewRoots.{few_owners, fewer_pages}
use Rattle.volume_model.proofs.OwnersMade.{few_counted, page_in_tree}
use Rattle.volume_model.proofs.OwnersTurned.{all_whole, gone_first, pages_both, working_own}
use Rattle.volume_model.proofs.OwnersUpdated.{shown_lost, shown_released}
use Rattle.volume_port.specs.GivingUp.{CountsRoot, OwnRoots, ReleasesRoots}
use Rattle.volume_port.specs.Giving.{is_logged}
use Rattle.volume_port.specs.Logged.{is_held}
use Rattle.volume_port.specs.State.{Moved}
use Rattle.volume_port.specs.declared.state.VolumeState.{VolumeState}
use Rattle.session_core.specs.Meant.{meant}
use Rattle.session_core.specs.Sessions.{IsSession, SessionState, Swept, is_kept, volume_held}
use Rattle.volume_edits.specs.TableUpdates.{BecomesVolume}
use Rattle.session_core.specs.Turning.{RootsTurned, TakenOut, WasCommitted, WasGained}
use Rattle.session_core.proofs.Ending.{few_scan_roots, pages_go, same_refs, scan_roots}
use Rattle.session_core.proofs.Homes.{home_is, home_kept}
use Rattle.session_core.proofs.PortParts.{IsPortWith}
use Rattle.volume_model.proofs.Showing.{session_geometry}

-- ---- the same owners, as a port has them

owned_as : {g h : Geometry} {x y : Units} {f k : ℕ → Bool} {m n : ℕ → ℕ} (logged roots : List ℕ) → g ≡ h → x ≡ y → f ≡ k → m ≡ n → IsOwned g x f m logged roots → IsOwned h y k n logged roots
owned_as {g} {h} {x} {y} {f} {k} {m} {n} logged roots one two three four is =
    subst (λ (c : ℕ → ℕ). IsOwned h y k c logged roots) four
    (subst (λ (v : ℕ → Bool). IsOwned h y v m logged roots) three
    (subst (λ (z : Units). IsOwned h z f m logged roots) two
    (subst (λ (q : Geometry). IsOwned q x f m logged roots) one is)))

whole_as : {g h : Geometry} {x y : Units} (roots : List Root) → g ≡ h → x ≡ y → AllByRecursion (IsWhole g x) roots → AllByRecursion (IsWhole h y) roots
whole_as {g} {h} {x} {y} roots one two whole =
    subst (λ (z : Units). AllByRecursion (IsWhole h z) roots) two (subst (λ (q : Geometry). AllByRecursion (IsWhole q x) roots) one whole)

one_here : (root : Option Root) → length (root_pages (root_here root)) ≤ 1
one_here None = omega arith
one_here (Some root) = omega (arith, fewer_pages (root ∷ []))

-- ---- an update

module _ {S : Type 0} (g : ground.Ghosts S) (s t : S) (names : NamesPairs g) {a b : Outside} {before : View SessionState} (now : ShowsNow meant a before) (session : IsSession before.session)
    (over : IsPortWith g s before.session.geometry a.disk (volume_held before.session)) (p : VolumeState) (moved : Moved NoUnit a b (volume_held before.session) p)
    (later_over : IsPortWith g t before.session.geometry b.disk p) (in_use : AreInUse g t) (table : Table) (gone come : Option Root)
    (becomes : BecomesVolume g s t now.shows.decoded.records now.shows.working table gone come) (later : List ℕ) (holds : b.disk ≡ Some later) (told : Tells b p.groups) where
  abbrev d : Decoded
  d = now.shows.decoded

  abbrev old : SessionState
  old = before.session

  abbrev working : Volume
  working = now.shows.working

  abbrev w : Volume
  w = becomes.now

  -- the units at home, before and later
  abbrev B : Units
  B = home d.geometry before.disk

  abbrev A : Units
  A = home d.geometry later

  -- the logged pages and the roots of before, those of the open scans among them
  abbrev L : List ℕ
  L = logged_pages d working

  abbrev scans : List Root
  scans = scan_roots old

  abbrev R : List ℕ
  R = root_pages (roots_held d old.gained scans)

  owners : OwnersShown d (used_at old.units) (refs_at old.units) old.gained old.lost scans before.disk working
  owners = now.shows.owners

  geometry_is : old.geometry ≡ d.geometry
  geometry_is = session_geometry now.shows

  at_home : (disk : List ℕ) (o : Option (List ℕ)) → o ≡ Some disk → unit_bytes old.geometry o ≡ home d.geometry disk
  at_home disk o is =
      ap (λ (x : Option (List ℕ)). unit_bytes old.geometry x) is ∙ ap (λ (h : Geometry). unit_bytes h (Some disk)) geometry_is ∙ home_is d.geometry disk

  old_units : g.unit s ≡ B
  old_units = over.unit ∙ at_home before.disk a.disk now.holds

  new_units : g.unit t ≡ A
  new_units = later_over.unit ∙ at_home later b.disk holds

  stays_home : (u : ℕ) → used_at old.units u ≡ true → A u ≡ B u
  stays_home = home_kept now session moved.changes later holds

  used_now : (u : ℕ) → g.used s u ≡ true → used_at old.units u ≡ true
  used_now u used = sym (ap (λ (f : ℕ → Bool). f u) over.used) ∙ used

  -- ---- once the root that came is counted

  owned_before : IsOwned (g.geometry s) (g.unit s) (g.used s) (g.refs s) L R
  owned_before = owned_as L R (sym (over.geometry_is ∙ geometry_is)) (sym old_units) (sym over.used) (sym over.refs) owners.owned

  kept : (u : ℕ) → g.used s u ≡ true → g.unit t u ≡ g.unit s u
  kept u used = ap (λ (f : Units). f u) new_units ∙ stays_home u (used_now u used) ∙ ap (λ (f : Units). f u) (sym old_units)

  stays : (u : ℕ) → g.used s u ≡ true → g.used t u ≡ true
  stays u used = ap (λ (f : ℕ → Bool). f u) later_over.used ∙ moved.used u (used_now u used) (λ none. none)

  catalog_logged : 1 ≤ times catalog_no L
  catalog_logged = omega (arith, times_here catalog_no catalog_no (file_pages d.volume) refl, times-append catalog_no (catalog_no ∷ file_pages d.volume) (file_pages working))

  filed : (page : ℕ) → Contains (file_pages w) page → (1 ≤ times page L) ⊎ (g.used s page ≡ false)
  filed page has = ⊎_elim
      (λ was. inl (omega (arith, contains_times page (file_pages working) was, times-append page (catalog_no ∷ file_pages d.volume) (file_pages working))))
      (λ free. inr free) (becomes.pages page has)

  went_own : (u : ℕ) → 1 ≤ times u (root_pages (root_here gone)) → 1 ≤ refs_at old.units u
  went_own u has = working_own d (used_at old.units) (refs_at old.units) old.gained old.lost scans before.disk working owners u (omega (arith, has, becomes.turned.there u))

  -- each root of the working volume is an owner
  owner : (u : ℕ) → 1 ≤ times u (root_pages (roots_in (stored_in working))) → 1 ≤ g.refs s u
  owner u has = subst (λ (f : ℕ → ℕ). 1 ≤ f u) (sym over.refs) (working_own d (used_at old.units) (refs_at old.units) old.gained old.lost scans before.disk working owners u has)

  few : length (root_pages (root_here come) ++ R) ≤ 1500000000
  few = omega (arith, length-append (root_pages (root_here come)) R, few_owners d before.disk old.gained scans now.shows.parts, few_scan_roots old.scans, session.few_scans, session.few_gained, session.few_notes, one_here come)

  same : g.geometry t ≡ g.geometry s
  same = later_over.geometry_is ∙ sym over.geometry_is

  made : UnitsMade (g.geometry s) (g.unit s) (g.unit t) (g.used s) (g.used t) (g.refs s) L (L ++ file_pages w) (becomes.turned.counts names).nodes come
  made = owning.made g s t working w gone come becomes.turned names L R owned_before same kept stays becomes.volume.shows.held in_use catalog_logged filed owner

  -- the count of its page is not at its end
  room : (u : ℕ) → 1 ≤ times u (root_pages (root_here come)) → IsUnit p.units.geometry u × (used_at p.units u ≡ true) × (refs_at p.units u < refs_most)
  room u has =
      let own = becomes.turned.own u (times_contains u (units_under (g.unit t) come) (page_in_tree (g.unit t) come u has)) in
      let used : used_at p.units u ≡ true = sym (ap (λ (f : ℕ → Bool). f u) later_over.used) ∙ own.0 in
      let below = few_counted (g.geometry s) (g.unit s) (g.used s) (g.refs s) L R owned_before (g.unit t) (g.used t) (L ++ file_pages w) (becomes.turned.counts names).nodes come made few u in
      let count = (becomes.turned.counts names).refs u (omega (arith, below)) in (
        subst (λ (h : Geometry). IsUnit h u) (sym moved.ready.fits.counted.geometry) (moved.ready.fits.counted.named u used),
        used,
        omega (arith, below, count, ap (λ (f : ℕ → ℕ). f u) later_over.refs),
      )

  -- The root that came and those of before own what is in use, beside the logged pages of before and of the new volume.
  pub owned_counted : (counted : UnitSet) → CountsRoot come p.units counted → IsOwned d.geometry A (used_at counted) (refs_at counted) (L ++ file_pages w) (root_pages (root_here come) ++ R)
  owned_counted counted counts =
      owned_as (L ++ file_pages w) (root_pages (root_here come) ++ R) (over.geometry_is ∙ geometry_is) new_units (later_over.used ∙ sym counts.used) refl
      (owning.owned_made g s t working w gone come becomes.turned names L R owned_before same kept stays becomes.volume.shows.held in_use catalog_logged filed owner few (refs_at counted)
      (λ u. counts.refs room u ∙ ap (λ (f : ℕ → ℕ). f u + times u (root_pages (root_here come))) (sym later_over.refs)))

  -- ---- whole trees

  came : AllByRecursion (IsWhole d.geometry A) (root_here come)
  came = whole_as (root_here come) (later_over.geometry_is ∙ geometry_is) new_units becomes.turned.came

  went : AllByRecursion (IsWhole d.geometry B) (root_here gone)
  went = whole_as (root_here gone) (over.geometry_is ∙ geometry_is) old_units becomes.turned.went

  went_still : AllByRecursion (IsWhole d.geometry A) (root_here gone)
  went_still =
      all_whole d.geometry B (used_at old.units) (refs_at old.units) L R owners.owned A (λ u behind some. stays_home u ((owners.owned.in_use u).1 (omega (arith, some)))) (root_here gone) went_own went

  -- ---- logged pages

  held_filed : (page : ℕ) → is_held p.pages page ≡ true → Contains (catalog_no ∷ file_pages w) page
  held_filed page is = (becomes.volume.shows.held page).0 (ap (λ (f : ℕ → Bool). f page) later_over.held ∙ is)

  filed_held : (page : ℕ) → Contains (catalog_no ∷ file_pages w) page → is_held p.pages page ≡ true
  filed_held page has = sym (ap (λ (f : ℕ → Bool). f page) later_over.held) ∙ (becomes.volume.shows.held page).1 has

  -- how often a page stands among those of before and the new ones
  all_logged : (u : ℕ) → times u (L ++ file_pages w) ≡ times u (catalog_no ∷ file_pages d.volume) + times u (file_pages working) + times u (file_pages w)
  all_logged u = omega (arith, times-append u L (file_pages w), times-append u (catalog_no ∷ file_pages d.volume) (file_pages working))

  catalog_first : (u : ℕ) (pages : List ℕ) → times u (catalog_no ∷ pages) ≡ times u (catalog_no ∷ []) + times u pages
  catalog_first u pages = times-append u (catalog_no ∷ []) pages

  listed : (page : ℕ) → is_logged p.pages old.kept page ≡ true → 1 ≤ times page (L ++ file_pages w)
  listed page is = ⊎_elim
      (λ (held : is_held p.pages page ≡ true). omega (
        arith,
        contains_times page (catalog_no ∷ file_pages w) (held_filed page held),
        all_logged page,
        catalog_first page (file_pages w),
        catalog_first page (file_pages d.volume),
      ))
      (λ (flag : is_held old.kept page ≡ true). omega (arith, contains_times page (catalog_no ∷ file_pages d.volume) ((now.shows.logged.kept page).0 flag), all_logged page))
      (or_cases (is_held p.pages page) (is_held old.kept page) is)

  -- ---- the tree that went

  own_at : (counted : UnitSet) (rest : List Root) → CountsRoot come p.units counted → TakenOut old.gained rest gone → OwnRoots p.pages old.kept d.geometry b p.groups counted (root_here gone)
  own_at counted rest counts out = record {
    disk = later;
    logged = L ++ file_pages w;
    others = root_pages (roots_held d (rest ++ root_here come) scans);
    told = (told.1, told.2);
    holds = holds;
    listed = listed;
    whole = went_still;
    owned = gone_first d (used_at old.units) (refs_at old.units) old.gained old.lost scans before.disk working owners w gone come becomes.turned.roots becomes.turned.there (rest ++ root_here come)
        (λ u. omega (arith, out.pages u, pages_both u rest (root_here come))) A (used_at counted) (refs_at counted) (L ++ file_pages w) (owned_counted counted counts);
  }

  -- once it is given up, the other roots own what is left
  released_own : (counted left : UnitSet) (rest : List Root) → CountsRoot come p.units counted → TakenOut old.gained rest gone → ReleasesRoots p.pages old.kept old.geometry b p.groups counted left (root_here gone)
      → IsOwned d.geometry A (used_at left) (refs_at left) (L ++ file_pages w) (root_pages (roots_held d (rest ++ root_here come) scans))
  unfolding own_at
  released_own counted left rest counts out released =
      subst (λ (h : Geometry). ReleasesRoots p.pages old.kept h b p.groups counted left (root_here gone)) geometry_is released (own_at counted rest counts out)

  -- Where it was gained, it owns its tree beside the other roots, once the root that came is counted.
  pub owns_gone : (counted : UnitSet) (rest : List Root) → CountsRoot come p.units counted → TakenOut old.gained rest gone → OwnRoots p.pages old.kept old.geometry b p.groups counted (root_here gone)
  owns_gone counted rest counts out = subst (λ (h : Geometry). OwnRoots p.pages old.kept h b p.groups counted (root_here gone)) (sym geometry_is) (own_at counted rest counts out)

  -- ---- the session after it

  module _ (left units : UnitSet) (swept : Swept p.meta.working old.kept left units) where
    -- Of the working files' pages just those that were given back and aren't committed are freed.
    pages_freed : (roots : List ℕ) → IsOwned d.geometry A (used_at left) (refs_at left) (L ++ file_pages w) roots → PagesGo (used_at left) (used_at units) (refs_at left) (file_pages working) (logged_pages d w)
    pages_freed roots is =
        pages_go _ left units (file_pages working) (logged_pages d w) swept.units (λ u has (away, off). rests u has away off)
        (λ u has lacks. swept.freed u (given_back u has lacks, not_kept u lacks) (is.apart u (omega (arith, contains_times u (file_pages working) has, all_logged u))))
      where
        rests : (u : ℕ) → Contains (logged_pages d w) u → lookup (nat_eq u) p.meta.working ≡ Some None → is_kept old.kept u ≡ false → ⊥
        rests u has away off = ⊎_elim
            (λ (committed : Contains (catalog_no ∷ file_pages d.volume) u). both_ways _ off ((now.shows.logged.kept u).1 committed))
            (λ (file : Contains (file_pages w) u). both_ways _ (moved.ready.gone u away) (filed_held u (Contains-append_right (catalog_no ∷ []) (file_pages w) u file)))
            (Contains-append_cases (catalog_no ∷ file_pages d.volume) (file_pages w) u has)

        not_kept : (u : ℕ) → ¬ Contains (logged_pages d w) u → is_kept old.kept u ≡ false
        not_kept u lacks = ⊎_elim
            (λ (flag : is_kept old.kept u ≡ true). absurd (lacks (Contains-append_left (catalog_no ∷ file_pages d.volume) (file_pages w) u ((now.shows.logged.kept u).0 flag))))
            (λ (off : is_kept old.kept u ≡ false). off) (cases_Bool (is_kept old.kept u))

        not_held : (u : ℕ) → ¬ Contains (logged_pages d w) u → is_held p.pages u ≡ false
        not_held u lacks = ⊎_elim
            (λ (held : is_held p.pages u ≡ true). absurd (lacks (times_contains u (logged_pages d w) (omega (
              arith,
              contains_times u (catalog_no ∷ file_pages w) (held_filed u held),
              times-append u (catalog_no ∷ file_pages d.volume) (file_pages w),
              catalog_first u (file_pages w),
              catalog_first u (file_pages d.volume),
            )))))
            (λ (off : is_held p.pages u ≡ false). off) (cases_Bool (is_held p.pages u))

        given_back : (u : ℕ) → Contains (file_pages working) u → ¬ Contains (logged_pages d w) u → lookup (nat_eq u) p.meta.working ≡ Some None
        given_back u has lacks = moved.given_back u (inl ((now.shows.logged.held u).1 (Contains-append_right (catalog_no ∷ []) (file_pages working) u has))) (not_held u lacks)

    -- Each unit of a tree has as many references as owners again.
    pub owners_turned : (gains loses : List Root) → RootsTurned p.pages old.kept old.geometry b p.groups p.units left old.gained gains old.lost loses gone come
        → OwnersShown d (used_at units) (refs_at units) gains loses scans later w
    owners_turned gains loses turned =
        subst (λ (c : ℕ → ℕ). OwnersShown d (used_at units) c gains loses scans later w) (same_refs left units swept.units)
        (subst (λ (roots : List Root). OwnersShown d (used_at units) (refs_at left) roots loses scans later w) (sym turned.gained_now) (⊎_elim was_gained was_committed turned.went))
      where
        counted : UnitSet
        counted = turned.counted

        rest : List Root
        rest = turned.rest

        was_gained : WasGained p.pages old.kept old.geometry b p.groups counted left old.gained rest old.lost loses gone → OwnersShown d (used_at units) (refs_at left) (rest ++ root_here come) loses scans later w
        was_gained x =
            let released = released_own counted left rest turned.counts x.taken_out x.released in
            subst (λ (roots : List Root). OwnersShown d (used_at units) (refs_at left) (rest ++ root_here come) roots scans later w) (sym x.lost_stay)
            (shown_released d (used_at old.units) (refs_at old.units) old.gained old.lost scans before.disk working owners w gone come becomes.turned.roots becomes.turned.there later stays_home came
            (used_at counted) (refs_at counted) (owned_counted counted turned.counts) rest x.taken_out.pages (each_from (IsWhole d.geometry B) rest (λ r has. each_of (IsWhole d.geometry B) old.gained r owners.gained_whole (x.taken_out.others r has))) (used_at left) (refs_at left) (λ is. released)
            (used_at units) (pages_freed (root_pages (roots_held d (rest ++ root_here come) scans)) released))

        was_committed : WasCommitted counted left old.gained rest old.lost loses gone → OwnersShown d (used_at units) (refs_at left) (rest ++ root_here come) loses scans later w
        was_committed x =
            let owned = subst (λ (u : UnitSet). IsOwned d.geometry A (used_at u) (refs_at u) (L ++ file_pages w) (root_pages (root_here come) ++ R)) (sym x.units) (owned_counted counted turned.counts) in
            subst (λ (roots : List Root). OwnersShown d (used_at units) (refs_at left) (roots ++ root_here come) loses scans later w) (sym x.stays)
            (subst (λ (roots : List Root). OwnersShown d (used_at units) (refs_at left) (old.gained ++ root_here come) roots scans later w) (sym x.lost_now)
            (shown_lost d (used_at old.units) (refs_at old.units) old.gained old.lost scans before.disk working owners w gone come becomes.turned.roots becomes.turned.there later stays_home came
            (used_at left) (refs_at left) owned x.none went (used_at units) (pages_freed (root_pages (root_here come) ++ R) owned)))
