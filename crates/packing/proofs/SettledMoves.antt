-- A version's tree that was moved in the working pages, committed and written home.
use Rattle.std.proofs.Common.{◌≡◌, ◌≢◌, ◌∙◌, ◌⊎◌, ◌+◌, ◌<◌, ◌≤◌, ◌↔◌, ℕ, Bool, true, false, true≢false, cond, List, [], ◌∷◌, ◌++◌, length, Option, Some, None, nat_eq, refl, sym, ap, subst, arith, inl, inr}
use Rattle.std.specs.Prelude.{Contains, IsSome}
use Rattle.std.specs.List.{AllByRecursion, flat_map}
use Rattle.std.specs.Map.{lookup}
use Rattle.std.proofs.lemmas.Bool.{both_ways, cases_eq, eq-eqb, false≢true, or_cases}
use Rattle.std.proofs.lemmas.List.{length-append}
use Rattle.ex_base.specs.declared.geometry.Geometry.{Geometry}
use Rattle.ex_base.specs.declared.names.OpNote.{OpNote}
use Rattle.ex_base.specs.declared.names.PageNo.{PageNo}
use Rattle.ex_base.specs.declared.names.Root.{Root}
use Rattle.ex_base.specs.Area.{IsUnit, catalog_no, leaf_at, page_at}
use Rattle.ex_base.specs.Ports.{times}
use Rattle.ex_base.proofs.Counts.{contains_times}
use Rattle.ex_base.proofs.Each.{each_as, each_from, flat_same}
use Rattle.ex_base.proofs.Members.{In, contains_cases, contains_in, contains_later, in_contains, in_either, in_left, in_right, into_flat}
use Rattle.disk_model.specs.Outside.{Outside, ReadsOnly}
use Rattle.meta_pages.specs.Rows.{with_row}
use Rattle.object_files.specs.Catalog.{Catalog}
use Rattle.object_records.specs.Record.{Content}
use Rattle.op_log.specs.AfterLog.{after_log, logged}
use Rattle.op_log.specs.Decoding.{NumberFollows, last_number}
use Rattle.op_log.specs.State.{LogState}
use Rattle.op_log.specs.declared.record.LogRecord.{LogRecord}
use Rattle.page_alloc.specs.UnitSet.{UnitSet, refs_at, used_at}
use Rattle.trees.specs.Made.{AreUsed, Has}
use Rattle.trees.specs.Owners.{IsOwned, root_pages}
use Rattle.trees.specs.Trees.{IsNamed, Units, root_units, units_on}
use Rattle.trees.proofs.KeptRoots.{RootKept, units_of_root}
use Rattle.trees.proofs.SameUnits.{Kept, units_same}
use Rattle.compact.specs.High.{root_low_leaves}
use Rattle.compact.specs.Moved.{AreLow, Copies, IsSoundPair}
use Rattle.volume_model.specs.Committed.{Checkpointed, Committed, CommittedAs, IsOverlayOf, IsStale, MayCommit, StandsForEither, StandsForVolume, with_records}
use Rattle.volume_model.specs.CrashImage.{agrees_stands}
use Rattle.volume_model.specs.FreshView.{KnowsUnits, OwnsUnits}
use Rattle.volume_model.specs.Homes.{home}
use Rattle.volume_model.specs.Parts.{StandsFor}
use Rattle.volume_model.specs.SameVolume.{IsKept, kept_from_reach, parts_kept, table_kept}
use Rattle.volume_model.specs.Shown.{IsWorkingPage, PageRow, WorkingRow, laid_over, laid_over_page, working_units}
use Rattle.volume_model.specs.Volume.{Decoded, Stored, Volume, file_pages, oid_of, reach_of, root_in, roots_in, stored_in, table_of, units_of}
use Rattle.volume_model.proofs.OwnersAlike.{pages_leave}
use Rattle.volume_model.proofs.Showing.{page_unit}
use Rattle.volume_port.specs.GivingUp.{CountsRoot, OwnRoots, ReleasesRoots, is_logged}
use Rattle.volume_port.specs.Logged.{is_held}
use Rattle.volume_port.specs.State.{IsAtRest}
use Rattle.volume_port.specs.declared.state.VolumeState.{VolumeState}
use Rattle.volume_port.proofs.Working.{each_put, lookup_put, same_off}
use Rattle.volume_port.proofs.WorkingRows.{put_other}
use Rattle.volume_port.proofs.WorkingUnits.{found_row}
use Rattle.packing.specs.Resting.{IsSameBut, MovesVersion}
use Rattle.packing.specs.Working.{MovesWorking, WorkingMoved}
use Rattle.packing.specs.declared.objects.LargeVersion.{LargeVersion}
use Rattle.packing.proofs.KnownUnits.{known}
use Rattle.packing.proofs.LowTrees.{no_high_leaf, sound_same}
use Rattle.packing.proofs.RootTrees.{under_root}

-- ---- working pages of which there is one at most

module _ (now : Volume) (held : ℕ → Bool) (pages : (page : ℕ) → (held page ≡ true) ↔ Contains (catalog_no ∷ file_pages now) page) where
  one_image : (row : WorkingRow) → ((page : ℕ) (image : List ℕ) → lookup (nat_eq page) (row ∷ []) ≡ Some (Some image) → held page ≡ true) → IsWorkingPage now row
  one_image row there = λ some. by row.1 refl some
    where
      here : lookup (nat_eq row.0) (row ∷ []) ≡ Some row.1
      here = ap (λ (b : Bool). cond b (Some row.1) None) (eq-eqb row.0 row.0 refl)

      by : (o : Option (List ℕ)) → row.1 ≡ o → IsSome o → (row.0 ≡ catalog_no) ⊎ Contains (file_pages now) row.0
      by None is none = absurd (false≢true none)
      by (Some image) is some = elim (contains_cases catalog_no row.0 (file_pages now) ((pages row.0).0 (there row.0 image (here ∙ ap (λ (o : Option (List ℕ)). Some o) is)))) [
        | inl same ↦ inl (sym same)
        | inr page ↦ inr page
      ]

  pub images_there : (rows : List WorkingRow) → length rows ≤ 1 → ((page : ℕ) (image : List ℕ) → lookup (nat_eq page) rows ≡ Some (Some image) → held page ≡ true) → AllByRecursion (IsWorkingPage now) rows
  images_there [] few there = tt
  images_there (row ∷ []) few there = (one_image row there, tt)
  images_there (row ∷ next ∷ rows) few there = absurd (omega (arith, few))

-- ---- what may be committed

module _ {w x : Outside} (old mid : VolumeState) (d : Decoded) (disk : List ℕ) (dense : ℕ) (moves after : Copies) (version : LargeVersion) (made : Root) (rests : IsAtRest w old d disk) (working : MovesWorking w x old mid d disk dense moves after version made)
    (differ : made ≡ version.root → ⊥) (bytes : List ℕ) (bytes_are : bytes ≡ units_of d disk catalog_no) (few : length mid.meta.working ≤ 1) where
  abbrev work : WorkingMoved mid d disk working.later version made
  work = working.turned differ

  abbrev v : Volume
  v = d.volume

  abbrev now : Volume
  now = work.now

  abbrev later : List ℕ
  later = working.later

  abbrev A : Units
  A = units_of d disk

  abbrev H : Units
  H = home d.geometry later

  abbrev rows : List WorkingRow
  rows = mid.meta.working

  abbrev pub with_catalog : List WorkingRow
  with_catalog = with_row catalog_no (Some bytes) rows

  abbrev W : Units
  W = working_units d later rows

  abbrev W' : Units
  W' = working_units d later with_catalog

  catalog_is : W' catalog_no ≡ bytes
  catalog_is =
      page_unit d.geometry (laid_over d.geometry later (after_log d.geometry d.records later) with_catalog) (leaf_at d.geometry later catalog_no)
      ∙ ap (λ (row : Option (Option (List ℕ))). laid_over_page (after_log d.geometry d.records later catalog_no) (page_at d.geometry later catalog_no) row) (lookup_put catalog_no (Some bytes) rows)

  -- the catalog's own bytes as its image change no unit
  same_units : (u : ℕ) → W' u ≡ W u
  same_units u = elim (cases_eq u catalog_no) [
    | inl is ↦ subst (λ (p : ℕ). W' p ≡ W p) (sym is) (catalog_is ∙ bytes_are ∙ sym work.page)
    | inr other ↦ same_off d later bytes rows u other
  ]

  kept_now : IsKept W W' now
  kept_now = kept_from_reach W W' now (each_from (λ u. W' u ≡ W u) (reach_of W now) (λ u there. same_units u))

  pub table_now : table_of W' now ≡ table_of A v
  table_now = table_kept W W' now kept_now ∙ work.table

  same_trees : flat_map (root_units W') (roots_in (stored_in now)) ≡ flat_map (root_units W) (roots_in (stored_in now))
  same_trees = flat_same (root_units W) (root_units W') (RootKept W W') (roots_in (stored_in now)) (λ root k. units_of_root W W' root.height root.page k) kept_now.roots

  held_now : (page : ℕ) → (is_held mid.pages page ≡ true) ↔ Contains (catalog_no ∷ file_pages now) page
  held_now = work.held

  pub may_commit : MayCommit d later with_catalog v.catalog.last now
  may_commit = record {
    follows = subst (λ (rs : List LogRecord). NumberFollows (last_number rs) v.catalog.last) (sym rests.none) tt;
    last = ap (λ (c : Catalog). c.last) work.catalog;
    parts = parts_kept d.geometry [] W W' now kept_now work.parts;
    images = each_put (IsWorkingPage now) catalog_no (Some bytes) rows (λ some. inl refl) (images_there now (is_held mid.pages) held_now rows few (λ page image row. working.moved.ready.images page image row));
    kept = λ page there gone. elim (cases_eq page catalog_no) [
      | inl is ↦ absurd (let image : Some (Some bytes) ≡ Some None = sym (lookup_put catalog_no (Some bytes) rows) ∙ ap (λ (p : ℕ). lookup (nat_eq p) with_catalog) (sym is) ∙ gone in cc)
      | inr other ↦ both_ways _ (working.moved.ready.gone page (sym (put_other catalog_no (Some bytes) rows page (λ e. other (sym e))) ∙ gone)) ((held_now page).1 there)
    ];
    left = λ page there none. absurd (none (subst (λ (ps : List ℕ). Contains ps page) (sym work.pages) there));
    no_tree = λ page there tree.
        work.no_tree page (contains_later catalog_no page (file_pages now) (subst (λ (ps : List ℕ). Contains ps page) (sym work.pages) there))
        (subst (λ (us : List ℕ). Contains us page) same_trees tree);
  }

  -- ---- who owns what

  pub same_kept : mid.kept ≡ mid.pages
  same_kept = ap (λ (u : VolumeState). u.kept) working.moved.rest ∙ rests.kept ∙ sym working.same_pages

  pub mid_geometry : d.geometry ≡ mid.geometry
  mid_geometry = rests.geometry ∙ sym (ap (λ (u : VolumeState). u.geometry) working.moved.rest)

  listed : (page : ℕ) → is_logged mid.pages mid.kept page ≡ true → 1 ≤ times page (catalog_no ∷ file_pages now)
  listed page is = contains_times page (catalog_no ∷ file_pages now) ((held_now page).0 (elim (or_cases (is_held mid.pages page) (is_held mid.kept page) is) [
    | inl held ↦ held
    | inr flag ↦ subst (λ (flags : List Bool). is_held flags page ≡ true) same_kept flag
  ]))

  module _ (counted : UnitSet) (counts : CountsRoot (Some made) mid.units counted) where
    owned_counted : IsOwned d.geometry H (used_at counted) (refs_at counted) (catalog_no ∷ file_pages now) (root_pages (version.root ∷ []) ++ root_pages (roots_in (stored_in now)))
    owned_counted = subst (λ (used : ℕ → Bool). IsOwned d.geometry H used (refs_at counted) (catalog_no ∷ file_pages now) (root_pages (version.root ∷ []) ++ root_pages (roots_in (stored_in now)))) (sym counts.used)
        (work.owned (refs_at counted) (counts.refs work.room))

    own_here : OwnRoots mid.pages mid.kept d.geometry x mid.groups counted (version.root ∷ [])
    own_here = record {
      disk = later;
      logged = catalog_no ∷ file_pages now;
      others = root_pages (roots_in (stored_in now));
      told = (working.told.1, working.told.2);
      holds = working.holds;
      listed = listed;
      whole = (work.whole, tt);
      owned = owned_counted;
    }

    -- the tree that went owns its units, so that no damage is told
    pub own_gone : OwnRoots mid.pages mid.kept mid.geometry x mid.groups counted (version.root ∷ [])
    own_gone = subst (λ (g : Geometry). OwnRoots mid.pages mid.kept g x mid.groups counted (version.root ∷ [])) mid_geometry own_here

    pub owned_now : (left : UnitSet) → ReleasesRoots mid.pages mid.kept mid.geometry x mid.groups counted left (version.root ∷ []) → OwnsUnits d.geometry H now (used_at left) (refs_at left)
    unfolding own_here
    owned_now left released = subst (λ (g : Geometry). ReleasesRoots mid.pages mid.kept g x mid.groups counted left (version.root ∷ [])) (sym mid_geometry) released own_here

  -- ---- what is committed before

  none_overlaid : mid.meta.committed ≡ []
  none_overlaid = working.moved.committed ∙ rests.images

  pub of_no_file : IsOverlayOf v mid.meta.committed
  of_no_file = subst (IsOverlayOf v) (sym none_overlaid) tt

  pub committed_there : {y : Outside} → ReadsOnly x y → Committed y.images d later mid.log mid.meta.committed
  committed_there {y} reads =
      let before = working.still.committed in
      subst (λ (log : LogState). Committed y.images d later log mid.meta.committed) (sym (ap (λ (u : VolumeState). u.log) working.moved.rest))
      (subst (λ (os : List PageRow). Committed y.images d later old.log os) (sym working.moved.committed)
      (record { parts = before.parts; durable = λ image here. before.durable image (reads.nothing.back working.told.0 image here); shown = before.shown }))

  -- what a crash leaves stands for the table
  pub stands_before : (e : List ℕ) → x.images e → StandsForVolume d disk e
  stands_before e here = subst (StandsFor e) working.still.table (agrees_stands later e d working.still.committed.parts (working.still.committed.durable e here))

  pub stands_either : (e : List ℕ) → StandsForEither d later with_catalog now e → StandsForVolume d disk e
  stands_either e (inl was) = subst (StandsFor e) working.still.table was
  stands_either e (inr is) = subst (StandsFor e) table_now is

  -- ---- committed, and written home

  module _ (notes : List OpNote) (z q : Outside) (held written : List ℕ) (log closed : LogState) (overlay left_over : List PageRow) (done : CommittedAs d later with_catalog v.catalog.last notes now z.images held log overlay)
      (home_again : Checkpointed (with_records d (done.earlier ++ done.made ∷ []) now) held q.images written closed left_over) (empty : left_over ≡ []) where
    abbrev e : Decoded
    e = with_records d (done.earlier ++ done.made ∷ []) now

    abbrev pub final : Decoded
    final = with_records d [] now

    abbrev F : Units
    F = units_of final written

    -- a record counts
    pub one_counts : 0 < log.count
    one_counts = omega (arith, ap (λ (l : LogState). l.count) done.committed.shown.log_is, length-append done.earlier (done.made ∷ []))

    pub table_home : table_of (units_of e held) now ≡ table_of A v
    table_home = done.table ∙ table_now

    pub table_final : table_of F now ≡ table_of A v
    table_final = home_again.same.table ∙ table_home

    never_stale : (u : ℕ) → IsStale d with_catalog u → ⊥
    never_stale u stale = stale.1 (ap (λ (rs : List LogRecord). logged rs u) rests.none)

    unit_final : (u : ℕ) → catalog_no ≤ u → F u ≡ W u
    unit_final u from = home_again.same.pages u from ∙ done.pages u from (never_stale u) ∙ same_units u

    -- a unit that is no page of the volume stands at home as it did
    no_record : (u : ℕ) → (Contains (catalog_no ∷ file_pages v) u → ⊥) → logged e.records u ≡ None
    no_record u out = by (logged e.records u) (sym (done.committed.shown.just u))
      where
        page_of : (image : List ℕ) → lookup (nat_eq u) overlay ≡ Some image → (u ≡ catalog_no) ⊎ Contains (file_pages now) u
        page_of image is = found_row (λ page. (page ≡ catalog_no) ⊎ Contains (file_pages now) page) overlay u image done.of_files is

        inside : (u ≡ catalog_no) ⊎ Contains (file_pages now) u → Contains (catalog_no ∷ file_pages v) u
        inside (inl same) = (0, omega arith, sym same)
        inside (inr page) = contains_in u (catalog_no ∷ file_pages v) (inr (in_contains u (file_pages v) (subst (λ (ps : List ℕ). Contains ps u) work.pages page)))

        by : (o : Option (List ℕ)) → o ≡ lookup (nat_eq u) overlay → o ≡ None
        by None is = refl
        by (Some image) is = absurd (out (inside (page_of image (sym is))))

    at_home_still : (u : ℕ) → catalog_no ≤ u → (Contains (catalog_no ∷ file_pages v) u → ⊥) → F u ≡ H u
    at_home_still u from out = home_again.homes u from (no_record u out) ∙ done.homes u from (ap (λ (rs : List LogRecord). logged rs u) rests.none)

    behind_log : (u : ℕ) → IsUnit mid.geometry u → catalog_no ≤ u
    behind_log u is = elim is [ inl page ↦ page.0 | inr leaf ↦ omega (arith, leaf.2) ]

    from_used : (u : ℕ) → used_at mid.units u ≡ true → catalog_no ≤ u
    from_used u used = behind_log u (working.moved.ready.fits.counted.named u used)

    pub same_but : IsSameBut d disk final written
    same_but = record {
      geometry = refl;
      table = table_final;
      catalog = work.catalog;
      page = unit_final catalog_no (omega arith) ∙ work.page;
      pages = work.pages;
    }

    module _ (units : UnitSet) (owned : OwnsUnits d.geometry H now (used_at units) (refs_at units)) where
      -- what has an owner is no logged page
      owned_out : (u : ℕ) → 1 ≤ refs_at units u → Contains (catalog_no ∷ file_pages v) u → ⊥
      owned_out u some there =
          let here : Contains (catalog_no ∷ file_pages now) u = subst (λ (ps : List ℕ). Contains (catalog_no ∷ ps) u) (sym work.pages) there in
          let none = owned.apart u (contains_times u (catalog_no ∷ file_pages now) here) in
          absurd (omega (arith, some, none))

      pub owned_final : OwnsUnits d.geometry (home d.geometry written) now (used_at units) (refs_at units)
      owned_final = pages_leave d.geometry H (used_at units) (refs_at units) (catalog_no ∷ file_pages now) (root_pages (roots_in (stored_in now))) owned (home d.geometry written) (used_at units) (catalog_no ∷ file_pages now) (record {
        kept = λ u area some. at_home_still u area.0 (owned_out u some);
        fewer = λ u has. has;
        still = λ u is. is;
        freed = λ u is off. absurd (true≢false (sym is ∙ off));
        all = λ u has none. absurd (omega (arith, has, none));
      })

      pub committed_final : Committed q.images final written closed []
      committed_final = subst (Committed q.images final written closed) empty home_again.committed

      pub knows_final : KnowsUnits final written (used_at units) (is_held mid.pages)
      knows_final = known final written closed (used_at units) (refs_at units) (is_held mid.pages) committed_final owned_final held_now

      -- ---- the version that was moved

      module _ (new : VolumeState) (again : IsAtRest q new final written) (new_units : new.units ≡ units) (counted : UnitSet) (counts : CountsRoot (Some made) mid.units counted) (fewer : (u : ℕ) → used_at units u ≡ true → used_at counted u ≡ true) where
        made_kept : RootKept H F made
        made_kept = each_both (root_units H made) working.tree.used working.tree.apart
          where
            each_both : (us : List ℕ) → AreUsed (used_at mid.units) us → AllByRecursion (λ u. Contains (catalog_no ∷ file_pages v) u → ⊥) us → Kept H F us
            each_both [] used out = tt
            each_both (u ∷ us) used out = (at_home_still u (from_used u used.0) out.0, each_both us used.1 out.1)

        made_units : root_units F made ≡ root_units H made
        made_units = units_of_root H F made.height made.page made_kept

        low_final : AreLow d.geometry dense (root_units F made)
        low_final = subst (AreLow d.geometry dense) (sym made_units) working.tree.low

        -- the copies
        sound_final : (level page : ℕ) (copy : PageNo) → Has (root_units A version.root) page → after page ≡ Some copy → IsNamed d.geometry A level page → (in_use : ℕ → Bool) → AreUsed in_use (units_on F level copy.0)
            → IsSoundPair d.geometry F in_use dense level page copy.0
        sound_final level page copy inside sent named in_use used =
            let sound = working.tree.sound level page copy inside sent named in
            let its = under_root d.geometry A (λ u. (used_at old.units u ≡ true) × (Contains (catalog_no ∷ file_pages v) u → ⊥)) version.root working.tree.named working.tree.its level page inside named in
            let same : units_on H level page ≡ units_on A level page = units_same A H level page (each_as (λ u. (used_at old.units u ≡ true) × (Contains (catalog_no ∷ file_pages v) u → ⊥)) (λ u. H u ≡ A u) (units_on A level page) (λ u is. working.tree.stays u is.0) its) in
            let kept : Kept H F (units_on H level page) = subst (λ (us : List ℕ). Kept H F us) (sym same)
            (each_as (λ u. (used_at old.units u ≡ true) × (Contains (catalog_no ∷ file_pages v) u → ⊥)) (λ u. F u ≡ H u) (units_on A level page) (λ u is. at_home_still u (from_used u (working.moved.used u is.0 (λ none. none))) is.1) its) in
            sound_same d.geometry dense H F (used_at mid.units) in_use level page copy.0 kept (copy_kept (units_on H level copy.0) sound.used (working.tree.copies_apart level page copy inside sent named)) sound used
          where
            copy_kept : (us : List ℕ) → AreUsed (used_at mid.units) us → AllByRecursion (λ u. Contains (catalog_no ∷ file_pages v) u → ⊥) us → Kept H F us
            copy_kept [] used out = tt
            copy_kept (u ∷ us) used out = (at_home_still u (from_used u used.0) out.0, copy_kept us used.1 out.1)

        -- the records
        abbrev front : List Stored
        front = work.turns.front

        abbrev back : List Stored
        back = work.turns.back

        another : (from into : List Stored) (was is : Stored) → from ≡ front ++ (was ∷ back) → into ≡ front ++ (is ∷ back) → oid_of was ≡ version.oid → (s : Stored) → Contains from s → (oid_of s ≡ version.oid → ⊥) → Contains into s
        another from into was is from_is into_is oid s there other =
            contains_in s into (subst (λ (xs : List Stored). In s xs) (sym into_is) (elim (in_either s front (was ∷ back) (subst (λ (xs : List Stored). In s xs) from_is (in_contains s from there))) [
              | inl first ↦ in_left s front (is ∷ back) first
              | inr rest ↦ elim rest [
                | inl same ↦ absurd (other (ap oid_of same ∙ oid))
                | inr last ↦ in_right s front (is ∷ back) (inr last)
              ]
            ]))

        is_there : In work.turns.is (stored_in now)
        is_there = subst (λ (xs : List Stored). In work.turns.is xs) (sym work.turns.after) (in_right work.turns.is front (work.turns.is ∷ back) (inl refl))

        made_there : In made (roots_in (stored_in now))
        made_there = into_flat (λ (s : Stored). root_in s.body.content) made work.turns.is (stored_in now) is_there (subst (λ (c : Content). In made (root_in c)) (sym work.turns.is_root) (inl refl))

        -- what was taken is in the new tree, and so in use
        has_in : (us : List ℕ) (u : ℕ) → Has us u → In u us
        has_in [] u none = absurd none
        has_in (y ∷ us) u (inl same) = inl (sym same)
        has_in (y ∷ us) u (inr behind) = inr (has_in us u behind)

        stays_in_use : (u : ℕ) → used_at old.units u ≡ false → used_at mid.units u ≡ true → used_at new.units u ≡ true
        stays_in_use u free taken =
            let there : In u (root_units F made) = subst (λ (us : List ℕ). In u us) (sym made_units) (has_in (root_units H made) u (working.tree.taken u free taken)) in
            let reached : Contains (reach_of F now) u = contains_in u (reach_of F now) (in_right u (catalog_no ∷ file_pages now) (flat_map (root_units F) (roots_in (stored_in now))) (into_flat (root_units F) u made (roots_in (stored_in now)) made_there there)) in
            (again.knows.units u).1 reached

        pub moves_version : MovesVersion q old new d disk dense moves after version
        moves_version = record {
          again = record { decoded = final; image = written; rests = again; same = same_but };
          made = made;
          others = another (stored_in v) (stored_in now) work.turns.was work.turns.is work.turns.before work.turns.after work.turns.was_oid;
          stored = another (stored_in now) (stored_in v) work.turns.is work.turns.was work.turns.after work.turns.before work.turns.is_oid;
          moved = work.turns.is;
          there = contains_in work.turns.is (stored_in now) is_there;
          oid = work.turns.is_oid;
          large = work.turns.is_root;
          high = no_high_leaf d.geometry dense F made low_final;
          low = subst (λ (us : List ℕ). AllByRecursion (Has us) (root_low_leaves d.geometry dense A version.root)) (sym made_units) working.tree.stay;
          units = λ u used out. at_home_still u (from_used u (working.moved.used u used (λ none. none))) out ∙ working.tree.stays u used;
          fresh = λ page copy sent. elim (working.tree.fresh page copy sent) [
            | inl before ↦ inl before
            | inr both ↦ inr (both.0, subst (λ (us : List ℕ). Has us copy.0) (sym made_units) both.1)
          ];
          each = working.tree.each;
          sound = sound_final;
          sent = working.tree.sent;
          between = used_at mid.units;
          kept = λ u used. working.moved.used u used (λ none. none);
          fewer = λ u used. subst (λ (f : ℕ → Bool). f u ≡ true) counts.used (fewer u (subst (λ (us : UnitSet). used_at us u ≡ true) new_units used));
          stay = stays_in_use;
          pages = working.tree.of_pages;
          segs = working.tree.of_segs;
        }
