-- A version that becomes one of other bytes: new units are taken, and then its record is written.
use Rattle.std.proofs.Common.{◌≡◌, ◌≤◌, ◌+◌, ℕ, Bool, true, false, true≢false, List, [], ◌∷◌, ◌++◌, length, Option, Some, None, refl, sym, ap, subst, ◌∙◌, arith, inl, inr, ◌⊎◌}
use Rattle.std.proofs.lemmas.Bool.{cases_Bool}
use Rattle.std.specs.Prelude.{Contains, slice_index_or, ◌↔◌}
use Rattle.std.specs.List.{AllByRecursion, flat_map}
use Rattle.ex_base.specs.declared.ground.Ground as ground
use Rattle.ex_base.specs.declared.geometry.Geometry.{Geometry}
use Rattle.ex_base.specs.declared.names.Oid.{Oid}
use Rattle.ex_base.specs.declared.names.Place.{Place}
use Rattle.ex_base.specs.Area.{catalog_no}
use Rattle.ex_base.specs.Ports.{times, Keeps, PutsImage}
use Rattle.slotted_pages.specs.Edits.{slots_of}
use Rattle.object_files.specs.Edits.{IsCatalogPage}
use Rattle.ex_base.specs.declared.names.Index.{Index}
use Rattle.file_index.specs.Changes.{count_of}
use Rattle.file_index.specs.Index.{IsIndex, pages_of}
use Rattle.file_index.proofs.Counts.{is_counted, count_most}
use Rattle.file_bodies.specs.Bodies.{Row, bodies_on, bodies_of, pages_in, EditsRow}
use Rattle.file_bodies.specs.Files.{index_at, IsPageOf, HasFile, HasBody, all_pages}
use Rattle.file_bodies.proofs.Moving.{Moved, moved, once_of, has_index}
use Rattle.file_bodies.proofs.Rows.{each_at, each_of, rows_same}
use Rattle.object_records.specs.Record.{Content, Small, Large, Record, BodyOf}
use Rattle.object_records.specs.Reads.{small_record, large_record}
use Rattle.object_records.specs.declared.Head.{Head}
use Rattle.object_records.proofs.RecordLaws.{spelled_reads}
use Rattle.ex_base.specs.declared.names.Root.{Root}
use Rattle.ex_base.proofs.Counts.{contains_times}
use Rattle.ex_base.proofs.Each.{each_as}
use Rattle.slotted_pages.specs.FilePage.{room_of}
use Rattle.trees.specs.Roots.{IsRootFor}
use Rattle.tree_insert.proofs.RootEdit.{nothing_turned}
use Rattle.versions.proofs.Roots.{root_is_for, root_placed}
use Rattle.versions.proofs.Puts.{body_long, small_most, less_fits}
use Rattle.trees.specs.Trees.{Units, RootSpells, root_units}
use Rattle.trees.specs.Made.{Extends, Has, IsTaken, AreUsed}
use Rattle.trees.specs.Grown.{Turned}
use Rattle.trees.proofs.Counts.{counted_after, counted_back}
use Rattle.trees.proofs.Laid.{extends_refl}
use Rattle.versions.specs.Versions.{HasRecord, HasVersion, Change, HasShape, EditsVersion, Spells, IsTreeUnit, AreInUse, IsSmall, StaysSmall, FitsIn, record_len, place_of, content_units, root_of}
use Rattle.versions.specs.Edited.{TurnsVersion}
use Rattle.versions.specs.Put.{PutsRecord, IsPlaced}
use Rattle.versions.proofs.FileRows.{edit_stands}

has_each : (P : ℕ → Type 0) (xs : List ℕ) (p : ℕ) → AllByRecursion P xs → Has xs p → P p
has_each P [] p all h = absurd h
has_each P (x ∷ xs) p all h = elim h [
  | inl e ↦ subst P e all.0
  | inr r ↦ has_each P xs p all.1 r
]

-- no tree spells no bytes
pub none_spells : (geo : Geometry) (units : Units) → RootSpells geo units (record { height = 0; page = None; size = 0 }) []
none_spells geo units = record { named = tt; sized = (refl, refl); balanced = tt; spelled = refl }

module _ {S : Type 0} (g : ground.Ghosts S) where
  -- ---- units are taken, and files stay

  pub held_image : (a m : S) (p : ℕ) → Extends g a m → AreInUse g a → g.held a p ≡ true → g.image m p ≡ g.image a p
  held_image a m p ext in_use held = ext.images p (in_use p held)

  named_held : (a : S) (index : Index) (p : ℕ) → HasFile g a index → 1 ≤ times p (pages_in (g.image a) index) → g.held a p ≡ true
  named_held a index p file named = is_counted (g.held a p) (omega (arith, named, once_of g a index p file))

  moved_on : (a m : S) (index : Index) → Extends g a m → AreInUse g a → HasFile g a index → Moved (g.geometry a) index.file_no (g.image a) (g.image m) index.level index.root
  moved_on a m index ext in_use file = moved (g.geometry a) index.file_no (g.image a) (g.image m) index.level index.root (λ p h. held_image a m p ext in_use ((has_index g a index file).held p h))

  pub file_on : (a m : S) (index : Index) → Extends g a m → AreInUse g a → HasFile g a index → HasFile g m index
  file_on a m index ext in_use file =
      let mv = moved_on a m index ext in_use file in
      let cat : g.image m catalog_no ≡ g.image a catalog_no = held_image a m catalog_no ext in_use file.catalog.held in
      let all_same : all_pages (g.image m) index ≡ all_pages (g.image a) index = ap (λ (t : List ℕ). t ++ pages_of (g.image m) index.level index.root) mv.keys ∙ ap (λ (t : List ℕ). pages_in (g.image a) index ++ t) mv.pages in
      record {
        catalog = record {
          whole = subst IsCatalogPage (sym cat) file.catalog.whole;
          held = ap (λ (f : ℕ → Bool). f catalog_no) ext.held ∙ file.catalog.held;
        };
        entry = subst (λ (t : List ℕ). index_at (λ (q : ℕ). t) index.file_no ≡ Some index) (sym cat) file.entry;
        whole = subst (λ (y : Geometry). IsIndex y (g.image m) index.file_no index.level index.root) (sym (g.leads_geometry a m ext.leads)) (mv.whole file.whole);
        pages = subst (AllByRecursion (λ q. IsPageOf index.file_no (g.image m q))) (sym mv.keys)
            (each_of (λ q. IsPageOf index.file_no (g.image m q)) (pages_in (g.image a) index) (λ q h.
            subst (IsPageOf index.file_no) (sym (held_image a m q ext in_use (named_held a index q file h))) (each_at (λ q. IsPageOf index.file_no (g.image a q)) (pages_in (g.image a) index) q file.pages h)));
        once = λ q. subst (λ (f : ℕ → Bool). times q (all_pages (g.image m) index) ≤ count_of (f q)) (sym ext.held) (subst (λ (t : List ℕ). times q t ≤ count_of (g.held a q)) (sym all_same) (file.once q));
      }

  rows_on : (a m : S) (index : Index) → Extends g a m → AreInUse g a → HasFile g a index → bodies_of (g.image m) index ≡ bodies_of (g.image a) index
  rows_on a m index ext in_use file =
      ap (flat_map (bodies_on (g.image m))) (moved_on a m index ext in_use file).keys
      ∙ rows_same (g.image a) (g.image m) (pages_in (g.image a) index) (λ k h. held_image a m k ext in_use (named_held a index k file h))

  pub body_on : (a m : S) (index : Index) (place : Place) (body : List ℕ) → Extends g a m → AreInUse g a → HasBody g a index place body → HasBody g m index place body
  body_on a m index place body ext in_use has =
      let held = named_held a index place.page.0 has.file (contains_times place.page.0 (pages_in (g.image a) index) has.named) in
      record {
        file = file_on a m index ext in_use has.file;
        named = subst (λ (t : List ℕ). Contains t place.page.0) (sym (moved_on a m index ext in_use has.file).keys) has.named;
        stands = subst (λ (t : List ℕ). slice_index_or (slots_of t) place.slot None ≡ Some body) (sym (held_image a m place.page.0 ext in_use held)) has.stands;
      }

  -- ---- the record is written

  put_keys : (m c : S) (index : Index) (page : ℕ) (content : List ℕ) → HasFile g m index → 1 ≤ times page (pages_in (g.image m) index) → PutsImage g m c page content → pages_in (g.image c) index ≡ pages_in (g.image m) index
  put_keys m c index page content file named put =
      (moved (g.geometry m) index.file_no (g.image m) (g.image c) index.level index.root (λ q h. put.images q (λ same.
      absurd (omega (arith, once_of g m index page file, count_most (g.held m page), named, subst (λ (n : ℕ). 1 ≤ times n (pages_of (g.image m) index.level index.root)) same h))))).keys

  not_held : (a : S) (p : ℕ) → AreInUse g a → g.used a p ≡ false → g.held a p ≡ false
  not_held a p in_use free = elim (cases_Bool (g.held a p)) [
    | inl held ↦ absurd (true≢false (sym (in_use p held) ∙ free))
    | inr isnt ↦ isnt
  ]

  module _ (a m c : S) (index : Index) (oid : Oid) (head : Head) (content now : Content) (change : Change) (old bytes : List ℕ) (ext : Extends g a m) (in_use : AreInUse g a) (has : HasVersion g a index oid head content old)
      (turned : Turned g a m (content_units (g.unit a) content) (content_units (g.unit m) now)) (spells : Spells (g.geometry m) (g.unit m) now bytes)
      (r : PutsRecord g m c index (place_of oid) has.stored.body (record { head = head; content = now })) where
    stands_m : HasBody g m index (place_of oid) has.stored.body
    stands_m = body_on a m index (place_of oid) has.stored.body ext in_use has.stored.stands

    tree_unit : (p : ℕ) → IsTaken g a m p ⊎ Has (content_units (g.unit a) content) p → IsTreeUnit g c p
    tree_unit p h = elim h [
      | inl t ↦ (ap (λ (f : ℕ → Bool). f p) r.put.used ∙ t.1, ap (λ (f : ℕ → Bool). f p) (r.put.held ∙ ext.held) ∙ not_held a p in_use t.0)
      | inr o ↦
          let is = has_each (IsTreeUnit g a) (content_units (g.unit a) content) p has.units o in
          (ap (λ (f : ℕ → Bool). f p) r.put.used ∙ ext.used p is.0, ap (λ (f : ℕ → Bool). f p) (r.put.held ∙ ext.held) ∙ is.1)
    ]

    taken_c : (p : ℕ) → IsTaken g a m p → IsTaken g a c p
    taken_c p t = (t.0, ap (λ (f : ℕ → Bool). f p) r.put.used ∙ t.1)

    turned_c : Turned g a c (content_units (g.unit a) content) (content_units (g.unit m) now)
    turned_c = record {
      own = each_as (λ p. IsTaken g a m p ⊎ Has (content_units (g.unit a) content) p) (λ p. IsTaken g a c p ⊎ Has (content_units (g.unit a) content) p) (content_units (g.unit m) now) (λ p h. elim h [
        | inl t ↦ inl (taken_c p t)
        | inr o ↦ inr o
      ]) turned.own;
      all = λ p t. turned.all p (t.0, ap (λ (f : ℕ → Bool). f p) (sym r.put.used) ∙ t.1);
      counts = λ names. counted_after g a m c r.put.used r.put.refs r.put.units r.put.held (turned.counts names);
    }

    edits_version : IsSmall now ↔ StaysSmall g a (place_of oid) content (length bytes) → HasShape (g.geometry a) change (g.unit a) (g.unit m) content (length bytes) now → EditsVersion g a c index oid head content change bytes
    edits_version small shape = record {
      now = now;
      version = record {
        stored = record { body = r.body; stands = edit_stands g m c index index (place_of oid) (Some has.stored.body) r.body r.edit; spelled = r.spelled; number = has.stored.number };
        spells = subst (λ (u : Units). Spells (g.geometry c) u now bytes) (sym r.put.units) (subst (λ (y : Geometry). Spells y (g.unit m) now bytes) (sym (g.leads_geometry m c r.leads)) spells);
        units = subst (λ (u : Units). AllByRecursion (IsTreeUnit g c) (content_units u now)) (sym r.put.units)
            (each_as (λ p. IsTaken g a m p ⊎ Has (content_units (g.unit a) content) p) (IsTreeUnit g c) (content_units (g.unit m) now) tree_unit turned.own);
      };
      small = small;
      was = has.stored.body;
      is = r.body;
      rows = subst (λ (t : List Row). EditsRow t (bodies_of (g.image c) index) (place_of oid) (Some has.stored.body) (Some r.body)) (rows_on a m index ext in_use has.stored.stands.file) r.edit.bodies;
      file = r.edit.file;
      pages = put_keys m c index oid.page.0 r.image stands_m.file (contains_times oid.page.0 (pages_in (g.image m) index) stands_m.named) r.put ∙ (moved_on a m index ext in_use has.stored.stands.file).keys;
      images = λ p held differ. r.put.images p differ ∙ held_image a m p ext in_use held;
      held = r.put.held ∙ ext.held;
      used = λ p is. ap (λ (f : ℕ → Bool). f p) r.put.used ∙ ext.used p is;
      kept = λ p is isnt. ap (λ (u : Units). u p) r.put.units ∙ ext.units p is;
      units = subst (λ (u : Units). Turned g a c (content_units (g.unit a) content) (content_units u now)) (sym r.put.units) turned_c;
      shape = subst (λ (u : Units). HasShape (g.geometry a) change (g.unit a) u content (length bytes) now) (sym r.put.units) shape;
    }

    pub turns_version : IsSmall now ↔ StaysSmall g a (place_of oid) content (length bytes) → HasShape (g.geometry a) change (g.unit a) (g.unit m) content (length bytes) now
        → TurnsVersion g a c index oid head content change bytes (root_of content) (root_of now)
    unfolding edits_version
    turns_version small shape = record { edit = edits_version small shape; went = refl; came = refl }

  -- ---- a record of a large version

  pub record_least : (body : List ℕ) (r : Record) → BodyOf body r → 36 ≤ length body
  record_least body r spelled = (spelled_reads body r spelled).0.long

  -- the new tree stands, and the record of its root is put in the place of the old one
  pub becomes_large : (a m c : S) (index : Index) (oid : Oid) (head : Head) (content : Content) (change : Change) (old bytes : List ℕ) (made : Root) (place : Place) → Extends g a m → AreInUse g a → g.tells a → HasVersion g a index oid head content old
      → Turned g a m (content_units (g.unit a) content) (content_units (g.unit m) (Large made)) → Spells (g.geometry m) (g.unit m) (Large made) bytes → place ≡ place_of oid
      → (g.tells m → (index : Index) (was : List ℕ) → HasBody g m index place was → PutsRecord g m c index place was (large_record head made)) → (StaysSmall g a (place_of oid) content (length bytes) → ⊥)
      → HasShape (g.geometry a) change (g.unit a) (g.unit m) content (length bytes) (Large made) → TurnsVersion g a c index oid head content change bytes (root_of content) (Some made)
  becomes_large a m c index oid head content change old bytes made place ext in_use told has turned spells at puts never shape =
      let stands = body_on a m index (place_of oid) has.stored.body ext in_use has.stored.stands in
      let r0 = puts (g.leads_told a m ext.leads told) index has.stored.body (subst (λ (p : Place). HasBody g m index p has.stored.body) (sym at) stands) in
      let r = subst (λ (p : Place). PutsRecord g m c index p has.stored.body (large_record head made)) at r0 in
      turns_version a m c index oid head content (Large made) change old bytes ext in_use has turned spells r ((λ x. absurd x), never) shape

  -- so that no damage is told
  pub never_put : (a m : S) (index : Index) (oid : Oid) (head : Head) (content : Content) (old bytes : List ℕ) (made : Root) (place : Place) → Extends g a m → AreInUse g a → HasVersion g a index oid head content old
      → Spells (g.geometry m) (g.unit m) (Large made) bytes → place ≡ place_of oid
      → ((index : Index) (was : List ℕ) → HasBody g m index place was → 36 ≤ length was → IsRootFor (g.geometry m) made → IsPlaced made.page → ⊥) → ⊥
  never_put a m index oid head content old bytes made place ext in_use has spells at never =
      let stands = body_on a m index (place_of oid) has.stored.body ext in_use has.stored.stands in
      never index has.stored.body (subst (λ (p : Place). HasBody g m index p has.stored.body) (sym at) stands) (record_least has.stored.body _ has.stored.spelled)
      (root_is_for (g.geometry m) (g.unit m) made bytes spells.0 spells.1) (root_placed (g.geometry m) (g.unit m) made.height made.page spells.0.named)

  -- where no file has a body there that is as long as its record, no file had the version
  pub never_stood : (a m : S) (index : Index) (oid : Oid) (is : Record) (place : Place) → Extends g a m → AreInUse g a → HasRecord g a index oid is → place ≡ place_of oid
      → ((index : Index) (was : List ℕ) → HasBody g m index place was → 36 ≤ length was → ⊥) → ⊥
  never_stood a m index oid is place ext in_use has at never =
      never index has.body (subst (λ (p : Place). HasBody g m index p has.body) (sym at) (body_on a m index (place_of oid) has.body ext in_use has.stands)) (record_least has.body is has.spelled)

  -- ---- a record of a small version

  extends_same : (a : S) → Extends g a a
  extends_same a = extends_refl g a

  pub stays_fits : (s : S) (place : Place) (was held : List ℕ) (head : Head) (n : ℕ) → BodyOf was (small_record head held) → FitsIn g s place.page.0 (length was) n → StaysSmall g s place (Small held) n
  stays_fits s place was held head n spelled fits = subst (λ (k : ℕ). FitsIn g s place.page.0 k n) (body_long was head held spelled) fits

  pub fits_stays : (s : S) (place : Place) (was held : List ℕ) (head : Head) (n : ℕ) → BodyOf was (small_record head held) → StaysSmall g s place (Small held) n → FitsIn g s place.page.0 (length was) n
  fits_stays s place was held head n spelled stays = subst (λ (k : ℕ). FitsIn g s place.page.0 k n) (sym (body_long was head held spelled)) stays

  pub becomes_small : (a c : S) (index : Index) (oid : Oid) (head : Head) (change : Change) (held bytes : List ℕ) (place : Place) → AreInUse g a → HasVersion g a index oid head (Small held) held → place ≡ place_of oid
      → ((index : Index) (was : List ℕ) → HasBody g a index place was → PutsRecord g a c index place was (small_record head bytes)) → StaysSmall g a (place_of oid) (Small held) (length bytes) → TurnsVersion g a c index oid head (Small held) change bytes None None
  becomes_small a c index oid head change held bytes place in_use has at puts stays =
      let r0 = puts index has.stored.body (subst (λ (p : Place). HasBody g a index p has.stored.body) (sym at) has.stored.stands) in
      let r = subst (λ (p : Place). PutsRecord g a c index p has.stored.body (small_record head bytes)) at r0 in
      turns_version a a c index oid head (Small held) (Small bytes) change held bytes (extends_same a) in_use has (nothing_turned g a []) refl r ((λ x. stays), (λ x. tt)) tt

  -- ---- after a state with the same meanings

  pub kept_stays : (a b : S) (place : Place) (content : Content) (n : ℕ) → Keeps g a b → StaysSmall g a place content n → StaysSmall g b place content n
  kept_stays a b place (Small held) n kept stays =
      subst (λ (f : ℕ → List ℕ). record_len n ≤ record_len (length held) + room_of (g.geometry b).page_size (slots_of (f place.page.0))) (sym kept.images)
      (subst (λ (y : Geometry). record_len n ≤ record_len (length held) + room_of y.page_size (slots_of (g.image a place.page.0))) (sym (g.leads_geometry a b kept.leads)) stays)
  kept_stays a b place (Large root) n kept stays = absurd stays

  pub stayed_before : (a b : S) (place : Place) (content : Content) (n : ℕ) → Keeps g a b → StaysSmall g b place content n → StaysSmall g a place content n
  stayed_before a b place (Small held) n kept stays =
      subst (λ (f : ℕ → List ℕ). record_len n ≤ record_len (length held) + room_of (g.geometry a).page_size (slots_of (f place.page.0))) kept.images
      (subst (λ (y : Geometry). record_len n ≤ record_len (length held) + room_of y.page_size (slots_of (g.image b place.page.0))) (g.leads_geometry a b kept.leads) stays)
  stayed_before a b place (Large root) n kept stays = absurd stays

  pub kept_in_use : (a b : S) → Keeps g a b → AreInUse g a → AreInUse g b
  kept_in_use a b kept in_use = λ p held. ap (λ (f : ℕ → Bool). f p) kept.used ∙ in_use p (ap (λ (f : ℕ → Bool). f p) (sym kept.held) ∙ held)

  kept_edited : (a b c : S) (index : Index) (oid : Oid) (head : Head) (content : Content) (change : Change) (bytes : List ℕ) → Keeps g a b → EditsVersion g b c index oid head content change bytes → EditsVersion g a c index oid head content change bytes
  kept_edited a b c index oid head content change bytes kept e = record {
    now = e.now;
    version = e.version;
    small = ((λ x. stayed_before a b (place_of oid) content (length bytes) kept (e.small.0 x)), (λ x. e.small.1 (kept_stays a b (place_of oid) content (length bytes) kept x)));
    was = e.was;
    is = e.is;
    rows = subst (λ (f : ℕ → List ℕ). EditsRow (bodies_of f index) (bodies_of (g.image c) index) (place_of oid) (Some e.was) (Some e.is)) kept.images e.rows;
    file = e.file;
    pages = e.pages ∙ ap (λ (f : ℕ → List ℕ). pages_in f index) kept.images;
    images = λ p held differ. e.images p (ap (λ (f : ℕ → Bool). f p) kept.held ∙ held) differ ∙ ap (λ (f : ℕ → List ℕ). f p) kept.images;
    held = e.held ∙ kept.held;
    used = λ p is. e.used p (ap (λ (f : ℕ → Bool). f p) kept.used ∙ is);
    kept = λ p is isnt. e.kept p (ap (λ (f : ℕ → Bool). f p) kept.used ∙ is) (ap (λ (f : ℕ → Bool). f p) kept.held ∙ isnt) ∙ ap (λ (u : Units). u p) kept.units;
    units = subst (λ (u : Units). Turned g a c (content_units u content) (content_units (g.unit c) e.now)) kept.units (record {
      own = each_as (λ p. IsTaken g b c p ⊎ Has (content_units (g.unit b) content) p) (λ p. IsTaken g a c p ⊎ Has (content_units (g.unit b) content) p) (content_units (g.unit c) e.now) (λ p h. elim h [
        | inl t ↦ inl (ap (λ (f : ℕ → Bool). f p) (sym kept.used) ∙ t.0, t.1)
        | inr o ↦ inr o
      ]) e.units.own;
      all = λ p t. e.units.all p (ap (λ (f : ℕ → Bool). f p) kept.used ∙ t.0, t.1);
      counts = λ names. counted_back g a b c kept (e.units.counts names);
    });
    shape = subst (λ (u : Units). HasShape (g.geometry a) change u (g.unit c) content (length bytes) e.now) kept.units
        (subst (λ (y : Geometry). HasShape y change (g.unit b) (g.unit c) content (length bytes) e.now) (g.leads_geometry a b kept.leads) e.shape);
  }

  pub kept_turned : (a b c : S) (index : Index) (oid : Oid) (head : Head) (content : Content) (change : Change) (bytes : List ℕ) (gone come : Option Root) → Keeps g a b → TurnsVersion g b c index oid head content change bytes gone come
      → TurnsVersion g a c index oid head content change bytes gone come
  unfolding kept_edited
  kept_turned a b c index oid head content change bytes went came kept t = record { edit = kept_edited a b c index oid head content change bytes kept t.edit; went = t.went; came = t.came }

  -- the units of a large version are used
  pub used_units : (s : S) (index : Index) (oid : Oid) (head : Head) (root : Root) (bytes : List ℕ) → HasVersion g s index oid head (Large root) bytes → AreUsed (g.used s) (root_units (g.unit s) root)
  used_units s index oid head root bytes has = each_as (IsTreeUnit g s) (λ p. g.used s p ≡ true) (root_units (g.unit s) root) (λ p is. is.0) has.units

  -- what fits in the place of a version's body, and what doesn't
  at_place : (s : S) (index : Index) (oid : Oid) (head : Head) (content : Content) (bytes : List ℕ) (place : Place) → place ≡ place_of oid → HasVersion g s index oid head content bytes → (has : HasVersion g s index oid head content bytes) → HasBody g s index place has.stored.body
  at_place s index oid head content bytes place at any has = subst (λ (p : Place). HasBody g s index p has.stored.body) (sym at) has.stored.stands

  pub stays_at : (s : S) (index : Index) (oid : Oid) (head : Head) (held : List ℕ) (n : ℕ) (place : Place) → place ≡ place_of oid → HasVersion g s index oid head (Small held) held
      → ((index : Index) (was : List ℕ) → HasBody g s index place was → FitsIn g s place.page.0 (length was) n) → StaysSmall g s (place_of oid) (Small held) n
  stays_at s index oid head held n place at has fits =
      stays_fits s (place_of oid) has.stored.body held head n has.stored.spelled
      (subst (λ (p : Place). FitsIn g s p.page.0 (length has.stored.body) n) at (fits index has.stored.body (at_place s index oid head (Small held) held place at has has)))

  pub never_stays : (s : S) (index : Index) (oid : Oid) (head : Head) (held : List ℕ) (n : ℕ) (place : Place) → place ≡ place_of oid → HasVersion g s index oid head (Small held) held
      → ((index : Index) (was : List ℕ) → HasBody g s index place was → FitsIn g s place.page.0 (length was) n → ⊥) → StaysSmall g s (place_of oid) (Small held) n → ⊥
  never_stays s index oid head held n place at has never stays =
      never index has.stored.body (at_place s index oid head (Small held) held place at has has)
      (subst (λ (p : Place). FitsIn g s p.page.0 (length has.stored.body) n) (sym at) (fits_stays s (place_of oid) has.stored.body held head n has.stored.spelled stays))

  -- a small version has no more bytes than its page, and one of no more bytes stays small
  pub held_most : (s : S) (index : Index) (oid : Oid) (head : Head) (held : List ℕ) → HasVersion g s index oid head (Small held) held → length held ≤ length (g.image s oid.page.0)
  held_most s index oid head held has = small_most g s index (place_of oid) has.stored.body head held has.stored.stands has.stored.spelled

  pub less_stays : (s : S) (index : Index) (oid : Oid) (head : Head) (held : List ℕ) (n : ℕ) → HasVersion g s index oid head (Small held) held → n ≤ length held → StaysSmall g s (place_of oid) (Small held) n
  less_stays s index oid head held n has few = stays_fits s (place_of oid) has.stored.body held head n has.stored.spelled (less_fits g s oid.page.0 n has.stored.body head held has.stored.spelled few)
