-- The index of a file is edited, and written into the catalog.
use Rattle.std.proofs.Common.{◌≡◌, ◌≢◌, ◌≤◌, ◌+◌, ℕ, zero, suc, true, List, [], ◌∷◌, ◌++◌, length, Option, Some, None, refl, sym, ap, subst, ◌∙◌, arith, inl, inr, true≢false}
use Rattle.std.specs.List.{flat_map}
use Rattle.ex_base.specs.declared.ground.Ground as ground
use Rattle.ex_base.specs.declared.geometry.Geometry.{Geometry}
use Rattle.ex_base.specs.declared.names.Area.TheVariants.{Segment}
use Rattle.ex_base.specs.declared.names.PageNo.{PageNo}
use Rattle.ex_base.specs.Area.{catalog_no}
use Rattle.ex_base.specs.Ports.{times, TakesPage}
use Rattle.ex_base.proofs.Counts.{contains_times, same_or_not, times-append, times_apart, times_contains}
use Rattle.slotted_pages.specs.FilePage.{FilePage, SlotsOf}
use Rattle.slotted_pages.specs.Edits.{slots_of}
use Rattle.ex_base.specs.declared.names.Index.{Index}
use Rattle.file_index.specs.Changes.{Changes, count_of}
use Rattle.file_index.specs.Index.{IsFilesPage, HasPlacedRoot, IsIndex, pages_of}
use Rattle.file_index.specs.Edits.{HasIndex, EditsIndex, put_in}
use Rattle.file_index.proofs.Counts.{count_most, count_is, is_counted, take_changes, changes_trans, changes_more}
use Rattle.object_files.specs.Catalog.{Catalog, CatalogOf}
use Rattle.object_files.specs.Reads.{catalog_on}
use Rattle.object_files.specs.Edits.{IsCatalogPage}
use Rattle.object_files.proofs.CatalogLaws.{catalog_read}
use Rattle.file_bodies.specs.Bodies.{Row, place_at, bodies_on, bodies_of, bodies_from, pages_in, EditsRow}
use Rattle.file_bodies.specs.Files.{index_in, index_at, with_index, IsPageOf, HasFile, EditsFile, all_pages}
use Rattle.file_bodies.specs.Indexes.{SetsIndex}
use Rattle.file_bodies.proofs.Entries.{is_catalog, in_indexed}
use Rattle.file_bodies.proofs.Pages.{is_page, number_is, slots_are}
use Rattle.file_bodies.proofs.Moving.{Moved, moved, lies, index_apart, once_of, has_index}
use Rattle.file_bodies.proofs.Rows.{each_at, each_of, Joined, put_joined, times_joined, rows_joined, rows_few, rows_edit}

-- a whole index has its root where a page of a file may lie
pub root_placed : (gm : Geometry) (image : ℕ → List ℕ) (file_no level : ℕ) (root : Option PageNo) → IsIndex gm image file_no level root → HasPlacedRoot gm root
root_placed gm image file_no level None h = tt
root_placed gm image file_no zero (Some page) h = h.whole.0
root_placed gm image file_no (suc level) (Some page) h = h.whole.0

module _ {S : Type 0} (g : ground.Ghosts S) where
  -- The index of a file is edited and set in the catalog. Held pages that are none of the index keep their images.
  pub record Reindexed (b d : S) (index after : Index) (edit : List ℕ → List ℕ) : Type 0 where
    pub whole : IsIndex (g.geometry d) (g.image d) after.file_no after.level after.root
    pub keys : pages_in (g.image d) after ≡ edit (pages_in (g.image b) index)
    pub images : (q : ℕ) → g.held b q ≡ true → times q (pages_of (g.image b) index.level index.root) ≡ 0 → q ≢ catalog_no → g.image d q ≡ g.image b q
    pub catalog : CatalogOf (g.image d catalog_no) (with_index (catalog_on (g.image b catalog_no)) after)
    pub same_file : after.file_no ≡ index.file_no
    pub counted : (q : ℕ) → count_of (g.held d q) + times q (pages_of (g.image b) index.level index.root) ≡ count_of (g.held b q) + times q (pages_of (g.image d) after.level after.root)
    pub changes : Changes g b d (catalog_no ∷ pages_of (g.image b) index.level index.root) (catalog_no ∷ pages_of (g.image d) after.level after.root)

  -- what the catalog still says while the index is edited
  pub catalog_stays : (b c : S) (edit : List ℕ → List ℕ) (index after : Index) → EditsIndex g b c edit index after → IsIndex (g.geometry b) (g.image b) index.file_no index.level index.root → g.held b catalog_no ≡ true → g.image c catalog_no ≡ g.image b catalog_no
  catalog_stays b c edit index after e whole held = e.changes.images catalog_no held (index_apart g b index whole)

  pub still_whole : (b c : S) (edit : List ℕ → List ℕ) (index after : Index) → HasFile g b index → EditsIndex g b c edit index after → IsCatalogPage (g.image c catalog_no)
  still_whole b c edit index after file e = subst IsCatalogPage (sym (catalog_stays b c edit index after e file.whole file.catalog.held)) file.catalog.whole

  pub still_index : (b c : S) (edit : List ℕ → List ℕ) (index after : Index) → HasFile g b index → EditsIndex g b c edit index after → index_at (g.image c) index.file_no ≡ Some index
  still_index b c edit index after file e = subst (λ (t : List ℕ). index_at (λ (q : ℕ). t) index.file_no ≡ Some index) (sym (catalog_stays b c edit index after e file.whole file.catalog.held)) file.entry

  pub reindexed : (b c d : S) (edit : List ℕ → List ℕ) (index after : Index) → HasIndex g b index → g.held b catalog_no ≡ true → EditsIndex g b c edit index after → SetsIndex g c d after → Reindexed b d index after edit
  reindexed b c d edit index after has held e sets =
      let none_c : times catalog_no (pages_of (g.image c) after.level after.root) ≡ 0 = index_apart g c after e.index.whole in
      let m = moved (g.geometry c) after.file_no (g.image c) (g.image d) after.level after.root
      (λ q h. sets.changes.images q (e.index.held q h) (times_apart q catalog_no [] (λ same. absurd (omega (arith, none_c, subst (λ (n : ℕ). 1 ≤ times n (pages_of (g.image c) after.level after.root)) same h))))) in
      let cat : g.image c catalog_no ≡ g.image b catalog_no = catalog_stays b c edit index after e has.whole held in
      let two : (q : ℕ) → times q (catalog_no ∷ pages_of (g.image d) after.level after.root) ≡ times q (catalog_no ∷ []) + times q (pages_of (g.image c) after.level after.root) = λ q. ap (λ (t : List ℕ). times q (catalog_no ∷ t)) m.pages ∙ times-append q (catalog_no ∷ []) (pages_of (g.image c) after.level after.root) in
      record {
        whole = subst (λ (y : Geometry). IsIndex y (g.image d) after.file_no after.level after.root) (sym (g.leads_geometry c d sets.changes.leads)) (m.whole e.index.whole);
        keys = m.keys ∙ e.keys;
        images = λ q h none other.
            let still : g.held c q ≡ true = is_counted (g.held c q) (omega (arith, e.changes.counted q, none, count_is (g.held b q) h)) in
            sets.changes.images q still (times_apart q catalog_no [] other) ∙ e.changes.images q h none;
        catalog = subst (λ (t : List ℕ). CatalogOf (g.image d catalog_no) (with_index (catalog_on t) after)) cat sets.catalog;
        same_file = e.same_file;
        counted = λ q. omega (arith, e.changes.counted q, sets.changes.counted q, ap (times q) m.pages);
        changes = changes_trans g b c d (catalog_no ∷ pages_of (g.image b) index.level index.root) (catalog_no ∷ pages_of (g.image c) after.level after.root) (catalog_no ∷ pages_of (g.image d) after.level after.root)
            (changes_more g b c (pages_of (g.image b) index.level index.root) (pages_of (g.image c) after.level after.root) (catalog_no ∷ pages_of (g.image b) index.level index.root) (catalog_no ∷ pages_of (g.image c) after.level after.root)
            (λ q. times q (catalog_no ∷ [])) e.changes (λ q. times-append q (catalog_no ∷ []) (pages_of (g.image b) index.level index.root)) (λ q. times-append q (catalog_no ∷ []) (pages_of (g.image c) after.level after.root)))
            (changes_more g c d (catalog_no ∷ []) (catalog_no ∷ []) (catalog_no ∷ pages_of (g.image c) after.level after.root) (catalog_no ∷ pages_of (g.image d) after.level after.root)
            (λ q. times q (pages_of (g.image c) after.level after.root)) sets.changes (λ q. omega (arith, times-append q (catalog_no ∷ []) (pages_of (g.image c) after.level after.root))) (λ q. omega (arith, two q)));
      }

  -- what a catalog that got the index says of the file
  pub entry_set : (b d : S) (index after : Index) (edit : List ℕ → List ℕ) → Reindexed b d index after edit → index_at (g.image b) index.file_no ≡ Some index → index_at (g.image d) after.file_no ≡ Some after
  entry_set b d index after edit r at =
      let read : catalog_on (g.image d catalog_no) ≡ with_index (catalog_on (g.image b catalog_no)) after = catalog_read (g.image d catalog_no) (with_index (catalog_on (g.image b catalog_no)) after) r.catalog in
      subst (λ (c : Catalog). index_in after.file_no c.entries ≡ Some after) (sym read) (in_indexed (catalog_on (g.image b catalog_no)).entries index after r.same_file at)

  -- ---- a page is taken into the file

  module _ (a b d : S) (index after : Index) (p : ℕ) (content : List ℕ) (file : HasFile g a index) (take : TakesPage g a b p content) (told : g.tells a) (leads : g.leads a b) (leaves : g.free b Segment ≡ g.free a Segment) where
    not_held : (q : ℕ) → g.held a q ≡ true → q ≢ p
    not_held q h same = absurd (true≢false (sym h ∙ ap (g.held a) same ∙ take.was_not_held))

    not_named : times p (pages_in (g.image a) index) + times p (pages_of (g.image a) index.level index.root) ≡ 0
    not_named = omega (arith, once_of g a index p file, ap count_of take.was_not_held)

    moved_here : Moved (g.geometry a) index.file_no (g.image a) (g.image b) index.level index.root
    moved_here = moved (g.geometry a) index.file_no (g.image a) (g.image b) index.level index.root
        (λ q h. take.images q (λ same. absurd (omega (arith, not_named, subst (λ (n : ℕ). 1 ≤ times n (pages_of (g.image a) index.level index.root)) same h))))

    pub taken_held : g.held b catalog_no ≡ true
    taken_held = take.held catalog_no (not_held catalog_no file.catalog.held) ∙ file.catalog.held

    pub taken_catalog : g.image b catalog_no ≡ g.image a catalog_no
    taken_catalog = take.images catalog_no (not_held catalog_no file.catalog.held)

    pub taken_index : HasIndex g b index
    taken_index = record {
      whole = subst (λ (y : Geometry). IsIndex y (g.image b) index.file_no index.level index.root) (sym (g.leads_geometry a b leads)) (moved_here.whole file.whole);
      held = λ q h.
          let here : 1 ≤ times q (pages_of (g.image a) index.level index.root) = subst (λ (t : List ℕ). 1 ≤ times q t) moved_here.pages h in
          let was : g.held a q ≡ true = (has_index g a index file).held q here in
          take.held q (not_held q was) ∙ was;
    }

    pub taken_lies : IsFilesPage (g.geometry b) p
    taken_lies = rw (g.leads_geometry a b leads) (take.area, take.other)

    pub taken_entry : index_at (g.image b) index.file_no ≡ Some index
    taken_entry = subst (λ (t : List ℕ). index_at (λ (q : ℕ). t) index.file_no ≡ Some index) (sym taken_catalog) file.entry

    module _ (r : Reindexed b d index after (put_in p)) (q : FilePage) (body : List ℕ) (spelled : SlotsOf content q) (number : q.file_no ≡ index.file_no) (slots : q.slots ≡ Some body ∷ []) where
      keys : pages_in (g.image d) after ≡ put_in p (pages_in (g.image a) index)
      keys = r.keys ∙ ap (put_in p) moved_here.keys

      joined : Joined p (pages_in (g.image a) index) (put_in p (pages_in (g.image a) index))
      joined = put_joined 0 p (pages_in (g.image a) index) (omega (arith, not_named))

      -- how often a page is one of the file with bodies
      keys_count : (k : ℕ) → times k (pages_in (g.image d) after) ≡ times k (p ∷ []) + times k (pages_in (g.image a) index)
      keys_count k = ap (times k) keys ∙ times_joined p k (pages_in (g.image a) index) (put_in p (pages_in (g.image a) index)) joined

      old_held : (k : ℕ) → 1 ≤ times k (pages_in (g.image a) index) → g.held a k ≡ true
      old_held k h = is_counted (g.held a k) (omega (arith, h, once_of g a index k file))

      old_image : (k : ℕ) → 1 ≤ times k (pages_in (g.image a) index) → g.image d k ≡ g.image a k
      old_image k h =
          let was = old_held k h in
          let other : k ≢ p = not_held k was in
          let none : times k (pages_of (g.image b) index.level index.root) ≡ 0 = omega (arith, ap (times k) moved_here.pages, h, once_of g a index k file, count_most (g.held a k)) in
          r.images k (take.held k other ∙ was) none (lies g a index k file h).1 ∙ take.images k other

      new_image : g.image d p ≡ content
      new_image = r.images p take.now_held (omega (arith, ap (times p) moved_here.pages, not_named)) take.other ∙ take.image told

      new_slots : slots_of (g.image d p) ≡ Some body ∷ []
      new_slots = ap slots_of new_image ∙ slots_are content q spelled ∙ slots

      catalog_held : g.held d catalog_no ≡ true
      catalog_held = is_counted (g.held d catalog_no) (omega (arith, r.counted catalog_no, index_apart g d after r.whole, count_is (g.held b catalog_no) taken_held, index_apart g b index taken_index.whole))

      taken_counted : (k : ℕ) → count_of (g.held b k) ≡ count_of (g.held a k) + times k (p ∷ [])
      taken_counted k = omega (arith, (take_changes g a b p content take leaves leads).counted k)

      pub taken_file : HasFile g d after
      taken_file = record {
        catalog = record { whole = is_catalog (g.image d catalog_no) (with_index (catalog_on (g.image b catalog_no)) after) r.catalog; held = catalog_held };
        entry = entry_set b d index after (put_in p) r taken_entry;
        whole = r.whole;
        pages = each_of (λ k. IsPageOf after.file_no (g.image d k)) (pages_in (g.image d) after) (λ k h. elim (same_or_not k p) [
          | inl same ↦ subst (λ (n : ℕ). IsPageOf after.file_no (g.image d n)) (sym same) (subst (IsPageOf after.file_no) (sym new_image) (record {
            spelled = is_page content q spelled;
            number = number_is content q spelled ∙ number ∙ sym r.same_file;
            some = omega (arith, ap length (slots_are content q spelled ∙ slots));
          }))
          | inr differ ↦
              let old : 1 ≤ times k (pages_in (g.image a) index) = omega (arith, h, keys_count k, times_apart k p [] differ) in
              subst (IsPageOf after.file_no) (sym (old_image k old)) (subst (λ (n : ℕ). IsPageOf n (g.image a k)) (sym r.same_file) (each_at (λ j. IsPageOf index.file_no (g.image a j)) (pages_in (g.image a) index) k file.pages old))
        ]);
        once = λ k. omega (arith, times-append k (pages_in (g.image d) after) (pages_of (g.image d) after.level after.root), keys_count k, r.counted k, taken_counted k, once_of g a index k file, ap (times k) moved_here.pages);
      }

      pub taken_edits : EditsFile g a d index after (place_at p 0) None (Some body)
      taken_edits =
          let apart_front : (k : ℕ) → 1 ≤ times k joined.front → 1 ≤ times k (pages_in (g.image a) index) = λ k h. omega (arith, h, ap (times k) joined.few_is, times-append k joined.front joined.back) in
          let apart_back : (k : ℕ) → 1 ≤ times k joined.back → 1 ≤ times k (pages_in (g.image a) index) = λ k h. omega (arith, h, ap (times k) joined.few_is, times-append k joined.front joined.back) in
          let here : EditsRow [] (bodies_on (g.image d) p) (place_at p 0) None (Some body) = record {
            front = [];
            back = [];
            before = refl;
            after = ap (bodies_from p 0) new_slots;
          } in
          let all = rows_edit (g.image a) (g.image d) joined.front joined.back [] (bodies_on (g.image d) p) (place_at p 0) None (Some body) (λ k h. old_image k (apart_front k h)) (λ k h. old_image k (apart_back k h)) here in
          let old_rows : bodies_of (g.image a) index ≡ flat_map (bodies_on (g.image a)) joined.front ++ flat_map (bodies_on (g.image a)) joined.back = rows_few (g.image a) p (pages_in (g.image a) index) (put_in p (pages_in (g.image a) index)) joined in
          let new_rows : bodies_of (g.image d) after ≡ flat_map (bodies_on (g.image d)) joined.front ++ (bodies_on (g.image d) p ++ flat_map (bodies_on (g.image d)) joined.back) = ap (flat_map (bodies_on (g.image d))) keys ∙ rows_joined (g.image d) p (pages_in (g.image a) index) (put_in p (pages_in (g.image a) index)) joined in
          record {
            file = taken_file;
            same_file = r.same_file;
            bodies = subst (λ (t : List Row). EditsRow t (bodies_of (g.image d) after) (place_at p 0) None (Some body)) (sym old_rows)
                (subst (λ (t : List Row). EditsRow (flat_map (bodies_on (g.image a)) joined.front ++ flat_map (bodies_on (g.image a)) joined.back) t (place_at p 0) None (Some body)) (sym new_rows) all);
            catalog = catalog_read (g.image d catalog_no) (with_index (catalog_on (g.image b catalog_no)) after) r.catalog ∙ ap (λ (t : List ℕ). with_index (catalog_on t) after) taken_catalog;
            changes = changes_trans g a b d (catalog_no ∷ all_pages (g.image a) index) ((p ∷ catalog_no ∷ pages_in (g.image a) index) ++ pages_of (g.image b) index.level index.root) (catalog_no ∷ all_pages (g.image d) after)
                (changes_more g a b [] (p ∷ []) (catalog_no ∷ all_pages (g.image a) index) ((p ∷ catalog_no ∷ pages_in (g.image a) index) ++ pages_of (g.image b) index.level index.root)
                (λ k. times k (catalog_no ∷ all_pages (g.image a) index)) (take_changes g a b p content take leaves leads) (λ k. omega arith)
                (λ k. omega (arith, times-append k (p ∷ catalog_no ∷ pages_in (g.image a) index) (pages_of (g.image b) index.level index.root), ap (times k) moved_here.pages, times-append k (p ∷ []) (catalog_no ∷ pages_in (g.image a) index), times-append k (catalog_no ∷ []) (pages_in (g.image a) index), times-append k (catalog_no ∷ []) (all_pages (g.image a) index), times-append k (pages_in (g.image a) index) (pages_of (g.image a) index.level index.root))))
                (changes_more g b d (catalog_no ∷ pages_of (g.image b) index.level index.root) (catalog_no ∷ pages_of (g.image d) after.level after.root) ((p ∷ catalog_no ∷ pages_in (g.image a) index) ++ pages_of (g.image b) index.level index.root) (catalog_no ∷ all_pages (g.image d) after)
                (λ k. times k (p ∷ []) + times k (pages_in (g.image a) index)) r.changes
                (λ k. omega (arith, times-append k (p ∷ catalog_no ∷ pages_in (g.image a) index) (pages_of (g.image b) index.level index.root), times-append k (p ∷ []) (catalog_no ∷ pages_in (g.image a) index), times-append k (catalog_no ∷ []) (pages_in (g.image a) index), times-append k (catalog_no ∷ []) (pages_of (g.image b) index.level index.root)))
                (λ k. omega (arith, keys_count k, times-append k (catalog_no ∷ []) (all_pages (g.image d) after), times-append k (pages_in (g.image d) after) (pages_of (g.image d) after.level after.root), times-append k (catalog_no ∷ []) (pages_of (g.image d) after.level after.root))));
            others = λ k differ h.
                let old : 1 ≤ times k (pages_in (g.image a) index) = omega (arith, contains_times k (pages_in (g.image d) after) h, keys_count k, times_apart k p [] differ) in
                (times_contains k (pages_in (g.image a) index) old, old_image k old);
          }
