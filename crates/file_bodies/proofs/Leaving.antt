-- A page that leaves its file.
use Rattle.std.proofs.Common.{◌≡◌, ◌≢◌, ◌≤◌, ◌+◌, ℕ, true, List, [], ◌∷◌, ◌++◌, Some, None, sym, ap, subst, ◌∙◌, arith}
use Rattle.std.specs.Prelude.{Contains, slice_index_or}
use Rattle.std.specs.List.{flat_map}
use Rattle.ex_base.specs.declared.ground.Ground as ground
use Rattle.ex_base.specs.declared.geometry.Geometry.{Geometry}
use Rattle.ex_base.specs.declared.names.Place.{Place}
use Rattle.ex_base.specs.Area.{catalog_no}
use Rattle.ex_base.specs.Ports.{times, Keeps, GivesPage}
use Rattle.ex_base.proofs.Counts.{contains_times, times-append, times_contains, times_here}
use Rattle.slotted_pages.specs.FilePage.{Slot}
use Rattle.slotted_pages.specs.Edits.{slots_of, with_slot, trimmed}
use Rattle.ex_base.specs.declared.names.Index.{Index}
use Rattle.file_index.specs.Changes.{Changes}
use Rattle.file_index.specs.Index.{IsIndex, pages_of}
use Rattle.file_index.specs.Edits.{take_out}
use Rattle.file_index.proofs.Counts.{keeps_changes, count_most, count_is, is_counted, give_changes, changes_trans, changes_more}
use Rattle.object_files.specs.Reads.{catalog_on}
use Rattle.object_files.specs.Edits.{IsCatalogPage}
use Rattle.object_files.proofs.CatalogLaws.{catalog_read}
use Rattle.file_bodies.specs.Bodies.{Row, bodies_on, bodies_of, bodies_from, pages_in, EditsRow}
use Rattle.file_bodies.specs.Files.{index_at, with_index, IsPageOf, HasFile, HasBody, all_pages}
use Rattle.file_bodies.specs.Places.{RemovesBody}
use Rattle.file_bodies.specs.Removing.{LeavesFile}
use Rattle.file_bodies.proofs.Entries.{is_catalog}
use Rattle.file_bodies.proofs.Moving.{Moved, moved, lies, index_apart, once_of}
use Rattle.file_bodies.proofs.Indexing.{Reindexed, entry_set}
use Rattle.file_bodies.proofs.Slots.{stands_below}
use Rattle.file_bodies.proofs.Rows.{each_at, each_of, Joined, out_joined_at, times_joined, rows_joined, rows_few, rows_edit, slot_edits, rows_trimmed}

module _ {S : Type 0} (g : ground.Ghosts S) (a c d : S) (index after : Index) (p : ℕ) (file : HasFile g a index) (named : 1 ≤ times p (pages_in (g.image a) index)) (r : Reindexed g a c index after (take_out p)) (give : GivesPage g c d p) (leads : g.leads c d) where
  joined : Joined p (take_out p (pages_in (g.image a) index)) (pages_in (g.image a) index)
  joined = out_joined_at p (pages_in (g.image a) index) named (omega (arith, once_of g a index p file, count_most (g.held a p)))

  keys_c : (k : ℕ) → times k (pages_in (g.image a) index) ≡ times k (p ∷ []) + times k (pages_in (g.image c) after)
  keys_c k = times_joined p k (take_out p (pages_in (g.image a) index)) (pages_in (g.image a) index) joined ∙ ap (λ (t : List ℕ). times k (p ∷ []) + times k t) (sym r.keys)

  held_c : g.held c p ≡ true
  held_c = is_counted (g.held c p) (omega (arith, r.counted p, once_of g a index p file, named, count_most (g.held a p)))

  given : Changes g c d (p ∷ []) []
  given = give_changes g c d p give held_c leads

  not_catalog : catalog_no ≢ p
  not_catalog same = (lies g a index p file named).1 (sym same)

  -- the page is no index page
  index_none : times p (pages_of (g.image c) after.level after.root) ≡ 0
  index_none = omega (arith, r.counted p, once_of g a index p file, named, count_most (g.held a p), count_most (g.held c p), count_is (g.held c p) held_c)

  m : Moved (g.geometry c) after.file_no (g.image c) (g.image d) after.level after.root
  m = moved (g.geometry c) after.file_no (g.image c) (g.image d) after.level after.root
      (λ q h. give.images q (λ same. absurd (omega (arith, index_none, subst (λ (n : ℕ). 1 ≤ times n (pages_of (g.image c) after.level after.root)) same h))))

  keys : pages_in (g.image d) after ≡ take_out p (pages_in (g.image a) index)
  keys = m.keys ∙ r.keys

  keys_count : (k : ℕ) → times k (pages_in (g.image a) index) ≡ times k (p ∷ []) + times k (pages_in (g.image d) after)
  keys_count k = keys_c k ∙ ap (λ (t : List ℕ). times k (p ∷ []) + times k t) (sym m.keys)

  other_than : (k : ℕ) → 1 ≤ times k (pages_in (g.image d) after) → k ≢ p
  other_than k h same = absurd (omega (arith, keys_count k, h, times_here k p [] same, once_of g a index k file, count_most (g.held a k)))

  pub left_image : (k : ℕ) → 1 ≤ times k (pages_in (g.image d) after) → g.image d k ≡ g.image a k
  left_image k h =
      let old : 1 ≤ times k (pages_in (g.image a) index) = omega (arith, h, keys_count k) in
      let was : g.held a k ≡ true = is_counted (g.held a k) (omega (arith, old, once_of g a index k file)) in
      let none : times k (pages_of (g.image a) index.level index.root) ≡ 0 = omega (arith, old, once_of g a index k file, count_most (g.held a k)) in
      give.images k (other_than k h) ∙ r.images k was none (lies g a index k file old).1

  cat : g.image d catalog_no ≡ g.image c catalog_no
  cat = give.images catalog_no not_catalog

  catalog_held : g.held d catalog_no ≡ true
  catalog_held = give.held catalog_no not_catalog ∙ is_counted (g.held c catalog_no) (omega (arith, r.counted catalog_no, index_apart g c after r.whole, count_is (g.held a catalog_no) file.catalog.held, index_apart g a index file.whole))

  pub left_file : HasFile g d after
  left_file = record {
    catalog = record {
      whole = subst IsCatalogPage (sym cat) (is_catalog (g.image c catalog_no) (with_index (catalog_on (g.image a catalog_no)) after) r.catalog);
      held = catalog_held;
    };
    entry = subst (λ (t : List ℕ). index_at (λ (q : ℕ). t) after.file_no ≡ Some after) (sym cat) (entry_set g a c index after (take_out p) r file.entry);
    whole = subst (λ (y : Geometry). IsIndex y (g.image d) after.file_no after.level after.root) (sym (g.leads_geometry c d leads)) (m.whole r.whole);
    pages = each_of (λ k. IsPageOf after.file_no (g.image d k)) (pages_in (g.image d) after) (λ k h.
        let old : 1 ≤ times k (pages_in (g.image a) index) = omega (arith, h, keys_count k) in
        subst (IsPageOf after.file_no) (sym (left_image k h)) (subst (λ (n : ℕ). IsPageOf n (g.image a k)) (sym r.same_file) (each_at (λ j. IsPageOf index.file_no (g.image a j)) (pages_in (g.image a) index) k file.pages old)));
    once = λ k. omega (arith, times-append k (pages_in (g.image d) after) (pages_of (g.image d) after.level after.root), keys_count k, r.counted k, given.counted k, once_of g a index k file, ap (times k) m.pages);
  }

  pub left : LeavesFile g a d index p
  left = record {
    after = after;
    file = left_file;
    same_file = r.same_file;
    pages = keys;
    images = λ k h. left_image k (contains_times k (pages_in (g.image d) after) h);
    catalog = ap catalog_on cat ∙ catalog_read (g.image c catalog_no) (with_index (catalog_on (g.image a catalog_no)) after) r.catalog;
    changes = changes_trans g a c d (catalog_no ∷ all_pages (g.image a) index) ((catalog_no ∷ pages_in (g.image a) index) ++ pages_of (g.image c) after.level after.root) (catalog_no ∷ all_pages (g.image d) after)
        (changes_more g a c (catalog_no ∷ pages_of (g.image a) index.level index.root) (catalog_no ∷ pages_of (g.image c) after.level after.root) (catalog_no ∷ all_pages (g.image a) index) ((catalog_no ∷ pages_in (g.image a) index) ++ pages_of (g.image c) after.level after.root)
        (λ k. times k (pages_in (g.image a) index)) r.changes
        (λ k. omega (arith, times-append k (catalog_no ∷ []) (all_pages (g.image a) index), times-append k (pages_in (g.image a) index) (pages_of (g.image a) index.level index.root), times-append k (catalog_no ∷ []) (pages_of (g.image a) index.level index.root)))
        (λ k. omega (arith, times-append k (catalog_no ∷ pages_in (g.image a) index) (pages_of (g.image c) after.level after.root), times-append k (catalog_no ∷ []) (pages_in (g.image a) index), times-append k (catalog_no ∷ []) (pages_of (g.image c) after.level after.root))))
        (changes_more g c d (p ∷ []) [] ((catalog_no ∷ pages_in (g.image a) index) ++ pages_of (g.image c) after.level after.root) (catalog_no ∷ all_pages (g.image d) after)
        (λ k. times k (catalog_no ∷ []) + (times k (pages_in (g.image d) after) + times k (pages_of (g.image d) after.level after.root))) given
        (λ k. omega (arith, times-append k (catalog_no ∷ pages_in (g.image a) index) (pages_of (g.image c) after.level after.root), times-append k (catalog_no ∷ []) (pages_in (g.image a) index), keys_count k, ap (times k) m.pages))
        (λ k. omega (arith, times-append k (catalog_no ∷ []) (all_pages (g.image d) after), times-append k (pages_in (g.image d) after) (pages_of (g.image d) after.level after.root))));
  }

-- ---- the body that leaves with its page

module _ {S : Type 0} (g : ground.Ghosts S) where
  -- the last body of a page
  pub last_body : (page slot : ℕ) (slots : List Slot) (was : List ℕ) → slice_index_or slots slot None ≡ Some was → trimmed (with_slot slots slot None) ≡ [] → EditsRow (bodies_from page 0 slots) [] (record { page = record { 0 = page }; slot = slot }) (Some was) None
  last_body page slot slots was stands none =
      let le = stands_below slots slot was stands in
      let edit = slot_edits page 0 slot slots slot None (omega arith) (omega arith) in
      let gone : bodies_from page 0 (with_slot slots slot None) ≡ [] = sym (rows_trimmed page 0 (with_slot slots slot None)) ∙ ap (bodies_from page 0) none in
      subst (λ (t : List Row). EditsRow (bodies_from page 0 slots) t (record { page = record { 0 = page }; slot = slot }) (Some was) None) gone
      (subst (λ (s : Slot). EditsRow (bodies_from page 0 slots) (bodies_from page 0 (with_slot slots slot None)) (record { page = record { 0 = page }; slot = slot }) s None) stands edit)

  pub left_edits : (a d : S) (index : Index) (place : Place) (was : List ℕ) → HasBody g a index place was → LeavesFile g a d index place.page.0 → trimmed (with_slot (slots_of (g.image a place.page.0)) place.slot None) ≡ [] → RemovesBody g a d index place was
  left_edits a d index place was has l none =
      let p : ℕ = place.page.0 in
      let named = contains_times place.page.0 (pages_in (g.image a) index) has.named in
      let j = out_joined_at place.page.0 (pages_in (g.image a) index) named (omega (arith, once_of g a index place.page.0 has.file, count_most (g.held a place.page.0))) in
      let count : (k : ℕ) → times k (pages_in (g.image a) index) ≡ times k (place.page.0 ∷ []) + times k (pages_in (g.image d) l.after) = λ k. times_joined place.page.0 k (take_out place.page.0 (pages_in (g.image a) index)) (pages_in (g.image a) index) j ∙ ap (λ (t : List ℕ). times k (place.page.0 ∷ []) + times k t) (sym l.pages) in
      let stays : (k : ℕ) → 1 ≤ times k (pages_in (g.image d) l.after) → g.image d k ≡ g.image a k = λ k h. l.images k (times_contains k (pages_in (g.image d) l.after) h) in
      let front : (k : ℕ) → 1 ≤ times k j.front → g.image d k ≡ g.image a k = λ k h. stays k (omega (arith, h, ap (times k) l.pages, ap (times k) j.few_is, times-append k j.front j.back)) in
      let back : (k : ℕ) → 1 ≤ times k j.back → g.image d k ≡ g.image a k = λ k h. stays k (omega (arith, h, ap (times k) l.pages, ap (times k) j.few_is, times-append k j.front j.back)) in
      let here = last_body place.page.0 place.slot (slots_of (g.image a place.page.0)) was has.stands none in
      let all = rows_edit (g.image a) (g.image d) j.front j.back (bodies_on (g.image a) place.page.0) [] place (Some was) None front back here in
      let old_rows : bodies_of (g.image a) index ≡ flat_map (bodies_on (g.image a)) j.front ++ (bodies_on (g.image a) place.page.0 ++ flat_map (bodies_on (g.image a)) j.back) = rows_joined (g.image a) place.page.0 (take_out place.page.0 (pages_in (g.image a) index)) (pages_in (g.image a) index) j in
      let new_rows : bodies_of (g.image d) l.after ≡ flat_map (bodies_on (g.image d)) j.front ++ flat_map (bodies_on (g.image d)) j.back = ap (flat_map (bodies_on (g.image d))) l.pages ∙ rows_few (g.image d) place.page.0 (take_out place.page.0 (pages_in (g.image a) index)) (pages_in (g.image a) index) j in
      record {
        after = l.after;
        edit = record {
          file = l.file;
          same_file = l.same_file;
          bodies = subst (λ (t : List Row). EditsRow t (bodies_of (g.image d) l.after) place (Some was) None) (sym old_rows)
              (subst (λ (t : List Row). EditsRow (flat_map (bodies_on (g.image a)) j.front ++ (bodies_on (g.image a) place.page.0 ++ flat_map (bodies_on (g.image a)) j.back)) t place (Some was) None) (sym new_rows) all);
          catalog = l.catalog;
          changes = l.changes;
          others = λ k differ h.
              let here_k : 1 ≤ times k (pages_in (g.image d) l.after) = contains_times k (pages_in (g.image d) l.after) h in
              (times_contains k (pages_in (g.image a) index) (omega (arith, count k)), stays k here_k);
        };
      }

  -- the same, from a state before which everything was kept
  pub kept_leaves : (a b d : S) (index : Index) (p : ℕ) → Keeps g a b → LeavesFile g b d index p → LeavesFile g a d index p
  kept_leaves a b d index p kept l = record {
    after = l.after;
    file = l.file;
    same_file = l.same_file;
    pages = subst (λ (f : ℕ → List ℕ). pages_in (g.image d) l.after ≡ take_out p (pages_in f index)) kept.images l.pages;
    images = subst (λ (f : ℕ → List ℕ). (q : ℕ) → Contains (pages_in (g.image d) l.after) q → g.image d q ≡ f q) kept.images l.images;
    catalog = subst (λ (f : ℕ → List ℕ). catalog_on (g.image d catalog_no) ≡ with_index (catalog_on (f catalog_no)) l.after) kept.images l.catalog;
    changes = changes_trans g a b d (catalog_no ∷ all_pages (g.image a) index) (catalog_no ∷ all_pages (g.image a) index) (catalog_no ∷ all_pages (g.image d) l.after)
        (keeps_changes g a b (catalog_no ∷ all_pages (g.image a) index) kept)
        (subst (λ (f : ℕ → List ℕ). Changes g b d (catalog_no ∷ all_pages f index) (catalog_no ∷ all_pages (g.image d) l.after)) kept.images l.changes);
  }
