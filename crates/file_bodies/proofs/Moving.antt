-- A file in a state that keeps the images of its pages.
use Rattle.std.proofs.Common.{◌≡◌, ◌≢◌, ◌≤◌, ◌+◌, ℕ, true, List, [], ◌∷◌, ◌++◌, length, Option, Some, None, refl, sym, ap, subst, ◌∙◌, arith, inl, inr}
use Rattle.std.specs.Prelude.{Contains}
use Rattle.std.specs.List.{flat_map, AllByRecursion}
use Rattle.std.proofs.lemmas.List.Concat.{flat_map-append}
use Rattle.ex_base.specs.declared.ground.Ground as ground
use Rattle.ex_base.specs.declared.geometry.Geometry.{Geometry}
use Rattle.ex_base.specs.declared.names.PageNo.{PageNo}
use Rattle.ex_base.specs.declared.names.Place.{Place}
use Rattle.ex_base.specs.Area.{catalog_no}
use Rattle.ex_base.specs.Order.{Rising}
use Rattle.ex_base.specs.Ports.{times, Keeps, PutsImage}
use Rattle.ex_base.proofs.Counts.{same_or_not, times-append, times_apart, times_here}
use Rattle.slotted_pages.specs.FilePage.{Slot, FilePage, SlotsOf}
use Rattle.slotted_pages.specs.Edits.{slots_of}
use Rattle.ex_base.specs.declared.names.Index.{Index}
use Rattle.file_index.specs.Changes.{Changes, count_of}
use Rattle.file_index.specs.Index.{IsFilesPage, IsIndex, keys_of, pages_of}
use Rattle.file_index.specs.Edits.{HasIndex}
use Rattle.file_index.proofs.Counts.{count_most, is_counted, keeps_changes, put_changes, changes_trans, changes_more}
use Rattle.file_index.proofs.Frame.{same_under}
use Rattle.file_index.proofs.Heights.{keys_of_pages, index_of_pages}
use Rattle.object_files.specs.Reads.{catalog_on}
use Rattle.object_files.specs.Edits.{with_entries}
use Rattle.file_bodies.specs.Bodies.{Row, bodies_on, bodies_of, bodies_from, pages_in, EditsRow}
use Rattle.file_bodies.specs.Files.{index_at, with_index, IsPageOf, HasFile, HasBody, EditsFile, all_pages}
use Rattle.file_bodies.proofs.Entries.{indexed_stays}
use Rattle.file_bodies.proofs.Pages.{is_page, number_is, slots_are}
use Rattle.file_bodies.proofs.Rows.{each_at, each_of, split_at, Split, rows_edit}

-- ---- the catalog is no page of a file

lies_apart : (gm : Geometry) (xs : List ℕ) → AllByRecursion (IsFilesPage gm) xs → times catalog_no xs ≡ 0
lies_apart gm [] h = refl
lies_apart gm (x ∷ xs) h = omega (arith, times_apart catalog_no x xs (λ same. h.0.1 (sym same)), lies_apart gm xs h.1)

-- ---- an index whose pages keep their images

pub record Moved (gm : Geometry) (file_no : ℕ) (i j : ℕ → List ℕ) (level : ℕ) (root : Option PageNo) : Type 0 where
  pub keys : keys_of j level root ≡ keys_of i level root
  pub pages : pages_of j level root ≡ pages_of i level root
  pub whole : IsIndex gm i file_no level root → IsIndex gm j file_no level root

pub moved : (gm : Geometry) (file_no : ℕ) (i j : ℕ → List ℕ) (level : ℕ) (root : Option PageNo) → ((p : ℕ) → 1 ≤ times p (pages_of i level root) → j p ≡ i p) → Moved gm file_no i j level root
moved gm file_no i j level None same = record { keys = refl; pages = refl; whole = λ h. record { whole = h.whole; rising = tt; once = λ p. omega arith } }
moved gm file_no i j level (Some page) same =
    let s = same_under gm file_no i j level page.0 same in
    record {
      keys = s.keys;
      pages = s.pages;
      whole = λ h. record {
        whole = s.under None h.whole;
        rising = subst Rising (sym s.keys) h.rising;
        once = λ p. subst (λ (t : List ℕ). times p t ≤ 1) (sym s.pages) (h.once p);
      };
    }

module _ {S : Type 0} (g : ground.Ghosts S) where
  pub lies : (a : S) (index : Index) (p : ℕ) → HasFile g a index → 1 ≤ times p (pages_in (g.image a) index) → IsFilesPage (g.geometry a) p
  lies a index p file c = each_at (IsFilesPage (g.geometry a)) (pages_in (g.image a) index) p (keys_of_pages (g.geometry a) index.file_no (g.image a) index.level index.root file.whole) c

  pub keys_apart : (a : S) (index : Index) → HasFile g a index → times catalog_no (pages_in (g.image a) index) ≡ 0
  keys_apart a index file = lies_apart (g.geometry a) (pages_in (g.image a) index) (keys_of_pages (g.geometry a) index.file_no (g.image a) index.level index.root file.whole)

  pub index_apart : (a : S) (index : Index) → IsIndex (g.geometry a) (g.image a) index.file_no index.level index.root → times catalog_no (pages_of (g.image a) index.level index.root) ≡ 0
  index_apart a index whole = lies_apart (g.geometry a) (pages_of (g.image a) index.level index.root) (index_of_pages (g.geometry a) index.file_no (g.image a) index.level index.root whole)

  -- each page is named once, as a page with bodies or as one of the index
  pub once_of : (a : S) (index : Index) (p : ℕ) → HasFile g a index → times p (pages_in (g.image a) index) + times p (pages_of (g.image a) index.level index.root) ≤ count_of (g.held a p)
  once_of a index p file = omega (arith, file.once p, times-append p (pages_in (g.image a) index) (pages_of (g.image a) index.level index.root))

  pub page_held : (a : S) (index : Index) (p : ℕ) → HasFile g a index → 1 ≤ times p (pages_in (g.image a) index) → g.held a p ≡ true
  page_held a index p file c = is_counted (g.held a p) (omega (arith, c, once_of a index p file))

  pub has_index : (a : S) (index : Index) → HasFile g a index → HasIndex g a index
  has_index a index file = record {
    whole = file.whole;
    held = λ p h. is_counted (g.held a p) (omega (arith, h, once_of a index p file));
  }

  -- ---- a state that keeps everything

  pub kept_file : (a b : S) (index : Index) → Keeps g a b → HasFile g a index → HasFile g b index
  kept_file a b index kept file = record {
    catalog = record { whole = rw kept.images file.catalog.whole; held = rw kept.held file.catalog.held };
    entry = rw kept.images file.entry;
    whole = rw (g.leads_geometry a b kept.leads, kept.images) file.whole;
    pages = rw kept.images file.pages;
    once = λ p. rw (kept.images, kept.held) (file.once p);
  }

  pub kept_body : (a b : S) (index : Index) (place : Place) (body : List ℕ) → Keeps g a b → HasBody g a index place body → HasBody g b index place body
  kept_body a b index place body kept has = record {
    file = kept_file a b index kept has.file;
    named = rw kept.images has.named;
    stands = rw kept.images has.stands;
  }

  pub kept_edits : (a b c : S) (before after : Index) (place : Place) (was is : Slot) → Keeps g a b → EditsFile g b c before after place was is → EditsFile g a c before after place was is
  kept_edits a b c before after place was is kept e = record {
    file = e.file;
    same_file = e.same_file;
    bodies = subst (λ (f : ℕ → List ℕ). EditsRow (bodies_of f before) (bodies_of (g.image c) after) place was is) kept.images e.bodies;
    catalog = subst (λ (f : ℕ → List ℕ). catalog_on (g.image c catalog_no) ≡ with_index (catalog_on (f catalog_no)) after) kept.images e.catalog;
    changes = changes_trans g a b c (catalog_no ∷ all_pages (g.image a) before) (catalog_no ∷ all_pages (g.image a) before) (catalog_no ∷ all_pages (g.image c) after)
        (keeps_changes g a b (catalog_no ∷ all_pages (g.image a) before) kept)
        (subst (λ (f : ℕ → List ℕ). Changes g b c (catalog_no ∷ all_pages f before) (catalog_no ∷ all_pages (g.image c) after)) kept.images e.changes);
    others = subst (λ (f : ℕ → List ℕ). (page : ℕ) → page ≢ place.page.0 → Contains (pages_in (g.image c) after) page → Contains (pages_in f before) page × (g.image c page ≡ f page)) kept.images e.others;
  }

  pub kept_put : (a b c : S) (page : ℕ) (content : List ℕ) → Keeps g a b → PutsImage g b c page content → PutsImage g a c page content
  kept_put a b c page content kept put = record {
    image = λ told. put.image (g.leads_told a b kept.leads told);
    images = λ p differ. put.images p differ ∙ ap (λ (f : ℕ → List ℕ). f p) kept.images;
    units = put.units ∙ kept.units;
    used = put.used ∙ kept.used;
    refs = put.refs ∙ kept.refs;
    held = put.held ∙ kept.held;
    free = put.free ∙ kept.free;
  }

  -- ---- one page of the file is written

  module _ (a b : S) (index : Index) (p : ℕ) (content : List ℕ) (file : HasFile g a index) (named : 1 ≤ times p (pages_in (g.image a) index)) (put : PutsImage g a b p content) (told : g.tells a) (leads : g.leads a b) where
    not_catalog : catalog_no ≢ p
    not_catalog same = (lies a index p file named).1 (sym same)

    moved_here : Moved (g.geometry a) index.file_no (g.image a) (g.image b) index.level index.root
    moved_here = moved (g.geometry a) index.file_no (g.image a) (g.image b) index.level index.root
        (λ q h. put.images q (λ same. absurd (omega (arith, once_of a index p file, count_most (g.held a p), named, subst (λ (n : ℕ). 1 ≤ times n (pages_of (g.image a) index.level index.root)) same h))))

    all_same : all_pages (g.image b) index ≡ all_pages (g.image a) index
    all_same = ap (λ (t : List ℕ). t ++ pages_of (g.image b) index.level index.root) moved_here.keys ∙ ap (λ (t : List ℕ). pages_in (g.image a) index ++ t) moved_here.pages

    pub put_file : IsPageOf index.file_no content → HasFile g b index
    put_file of =
        let cat : g.image b catalog_no ≡ g.image a catalog_no = put.images catalog_no not_catalog in
        record {
          catalog = record {
            whole = rw cat file.catalog.whole;
            held = rw put.held file.catalog.held;
          };
          entry = subst (λ (t : List ℕ). index_at (λ (q : ℕ). t) index.file_no ≡ Some index) (sym cat) file.entry;
          whole = subst (λ (y : Geometry). IsIndex y (g.image b) index.file_no index.level index.root) (sym (g.leads_geometry a b leads)) (moved_here.whole file.whole);
          pages = subst (AllByRecursion (λ q. IsPageOf index.file_no (g.image b q))) (sym moved_here.keys)
              (each_of (λ q. IsPageOf index.file_no (g.image b q)) (pages_in (g.image a) index) (λ q h. elim (same_or_not q p) [
                | inl same ↦ subst (λ (n : ℕ). IsPageOf index.file_no (g.image b n)) (sym same) (subst (IsPageOf index.file_no) (sym (put.image told)) of)
                | inr differ ↦ subst (IsPageOf index.file_no) (sym (put.images q differ)) (each_at (λ q. IsPageOf index.file_no (g.image a q)) (pages_in (g.image a) index) q file.pages h)
              ]));
          once = λ q. rw (all_same, put.held) (file.once q);
        }

    pub put_edits : (q : FilePage) (place : Place) (was is : Slot) → place.page.0 ≡ p → SlotsOf content q → q.file_no ≡ index.file_no → 1 ≤ length q.slots
        → EditsRow (bodies_on (g.image a) p) (bodies_from p 0 q.slots) place was is → EditsFile g a b index index place was is
    put_edits q place was is at spelled number some rows =
        let now : g.image b p ≡ content = put.image told in
        let slots : slots_of (g.image b p) ≡ q.slots = ap slots_of now ∙ slots_are content q spelled in
        let s = split_at p (pages_in (g.image a) index) named in
        let count : times p (pages_in (g.image a) index) ≡ times p s.front + (1 + times p s.back) = ap (times p) s.is ∙ times-append p s.front (p ∷ s.back) ∙ ap (λ (n : ℕ). times p s.front + n) (times_here p p s.back refl) in
        let few : times p (pages_in (g.image a) index) ≤ 1 = omega (arith, once_of a index p file, count_most (g.held a p)) in
        let apart_front : (k : ℕ) → 1 ≤ times k s.front → k ≢ p = λ k h same. absurd (omega (arith, subst (λ (n : ℕ). 1 ≤ times n s.front) same h)) in
        let apart_back : (k : ℕ) → 1 ≤ times k s.back → k ≢ p = λ k h same. absurd (omega (arith, subst (λ (n : ℕ). 1 ≤ times n s.back) same h)) in
        let here : EditsRow (bodies_on (g.image a) p) (bodies_on (g.image b) p) place was is = subst (λ (t : List Slot). EditsRow (bodies_on (g.image a) p) (bodies_from p 0 t) place was is) (sym slots) rows in
        let all = rows_edit (g.image a) (g.image b) s.front s.back (bodies_on (g.image a) p) (bodies_on (g.image b) p) place was is (λ k h. put.images k (apart_front k h)) (λ k h. put.images k (apart_back k h)) here in
        let cat : g.image b catalog_no ≡ g.image a catalog_no = put.images catalog_no not_catalog in
        let stays = indexed_stays (catalog_on (g.image a catalog_no)).entries index file.catalog.whole.fits.numbers file.entry in
        let old_rows : bodies_of (g.image a) index ≡ flat_map (bodies_on (g.image a)) s.front ++ (bodies_on (g.image a) p ++ flat_map (bodies_on (g.image a)) s.back) = split_rows (g.image a) s.front s.back (pages_in (g.image a) index) s.is in
        let new_rows : bodies_of (g.image b) index ≡ flat_map (bodies_on (g.image b)) s.front ++ (bodies_on (g.image b) p ++ flat_map (bodies_on (g.image b)) s.back) = split_rows (g.image b) s.front s.back (pages_in (g.image b) index) (moved_here.keys ∙ s.is) in
        record {
          file = put_file (record { spelled = is_page content q spelled; number = number_is content q spelled ∙ number; some = omega (arith, some, ap length (slots_are content q spelled)) });
          same_file = refl;
          bodies = subst (λ (t : List Row). EditsRow t (bodies_of (g.image b) index) place was is) (sym old_rows) (subst (λ (t : List Row). EditsRow (flat_map (bodies_on (g.image a)) s.front ++ (bodies_on (g.image a) p ++ flat_map (bodies_on (g.image a)) s.back)) t place was is) (sym new_rows) all);
          catalog = ap catalog_on cat ∙ sym (ap (with_entries (catalog_on (g.image a catalog_no))) stays);
          changes = changes_more g a b (p ∷ []) (p ∷ []) (catalog_no ∷ all_pages (g.image a) index) (catalog_no ∷ all_pages (g.image b) index)
              (λ k. times k (catalog_no ∷ []) + (times k s.front + times k s.back + times k (pages_of (g.image a) index.level index.root)))
              (put_changes g a b p content put leads) (λ k. counted k s) (λ k. ap (λ (t : List ℕ). times k (catalog_no ∷ t)) all_same ∙ counted k s);
          others = λ k differ h.
              let was_there : Contains (pages_in (g.image a) index) k = subst (λ (t : List ℕ). Contains t k) moved_here.keys h in
              (was_there, put.images k (λ same. differ (same ∙ sym at)));
        }
      where
        split_rows : (f : ℕ → List ℕ) (front back keys : List ℕ) → keys ≡ front ++ (p ∷ back) → flat_map (bodies_on f) keys ≡ flat_map (bodies_on f) front ++ (bodies_on f p ++ flat_map (bodies_on f) back)
        split_rows f front back keys is = ap (flat_map (bodies_on f)) is ∙ flat_map-append (bodies_on f) front (p ∷ back)

        counted : (k : ℕ) (s : Split p (pages_in (g.image a) index)) → times k (catalog_no ∷ all_pages (g.image a) index) ≡ times k (catalog_no ∷ []) + (times k s.front + times k s.back + times k (pages_of (g.image a) index.level index.root)) + times k (p ∷ [])
        counted k s = omega (arith, times-append k (catalog_no ∷ []) (all_pages (g.image a) index), times-append k (pages_in (g.image a) index) (pages_of (g.image a) index.level index.root), ap (times k) s.is, times-append k s.front (p ∷ s.back), times-append k (p ∷ []) s.back)
