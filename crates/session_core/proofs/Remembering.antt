-- What is remembered of the room of files is true again after an update.
use Rattle.std.proofs.Common.{◌≡◌, ◌≢◌, ◌≤◌, ◌+◌, ℕ, zero, suc, Bool, true, false, List, [], length, Option, Some, refl, sym, ap, subst, ◌∙◌, arith, inl, inr, nat_lt}
use Rattle.std.specs.Prelude.{Contains, None}
use Rattle.std.proofs.lemmas.Bool.{le-ltb}
use Rattle.std.specs.List.{AllByRecursion}
use Rattle.ex_base.specs.declared.ground.Ground as ground
use Rattle.ex_base.specs.declared.geometry.Geometry.{Geometry}
use Rattle.ex_base.specs.declared.names.Area.{Area}
use Rattle.ex_base.specs.declared.names.Area.TheVariants.{Page}
use Rattle.ex_base.specs.declared.names.Index.{Index}
use Rattle.ex_base.specs.declared.names.Oid.{Oid}
use Rattle.ex_base.specs.Area.{catalog_no}
use Rattle.ex_base.specs.Ports.{times, Keeps}
use Rattle.ex_base.proofs.Counts.{contains_times, same_or_not, times-append}
use Rattle.file_index.specs.Changes.{count_of}
use Rattle.file_index.specs.Index.{IsIndex, pages_of}
use Rattle.file_index.proofs.Counts.{count_most}
use Rattle.object_files.specs.Catalog.{Catalog}
use Rattle.object_files.specs.Edits.{IsCatalogPage}
use Rattle.object_files.specs.Reads.{catalog_on}
use Rattle.slotted_pages.specs.Edits.{slots_of, place_for}
use Rattle.file_bodies.specs.declared.placing.Room.{Room}
use Rattle.file_bodies.specs.Bodies.{pages_in}
use Rattle.file_bodies.specs.Files.{HasFile, IsPageOf, all_pages, index_at, index_in}
use Rattle.file_bodies.specs.Places.{IsChosen, IsRoom}
use Rattle.file_bodies.proofs.Moving.{keys_apart, moved}
use Rattle.file_rooms.specs.Rooms.{Remembered, IsKept, IsLookedAt, IsLookedFrom, new_len}
use Rattle.file_rooms.specs.Truth.{AreAsBefore, AreTrue, AreTrueBut, AreWhole, at_page}
use Rattle.file_rooms.proofs.EditedFiles.{edit_before}
use Rattle.file_rooms.proofs.StaysTrue.{edited_true, found_true, looked_true, same_index, true_room}
use Rattle.versions.specs.Edited.{TurnsVersion}
use Rattle.versions.specs.Versions.{Change, CreatesVersion, lone_head, place_of}
use Rattle.versions.specs.Versions.{count_of as count_of_change}
use Rattle.object_records.specs.Record.{Content}
use Rattle.object_records.specs.declared.Head.{Head}
use Rattle.ex_base.specs.declared.names.Root.{Root}
use Rattle.versions.proofs.Puts.{body_long}
use Rattle.volume_edits.specs.Edits.{WritesCatalog, catalog_numbered}
use Rattle.session_core.proofs.Lowest.{all_still, catalog_after, same_slot, still_whole, was_named}

-- no page
abbrev nowhere : ℕ → ℕ → Type 0
nowhere = λ file_no page. ⊥

module _ {S : Type 0} (g : ground.Ghosts S) where
  -- ---- after a call that only reads

  -- a state that is kept has no file that the other hasn't
  kept_back : (a b : S) (index : Index) → Keeps g a b → HasFile g b index → HasFile g a index
  kept_back a b index kept file = record {
    catalog = record {
      whole = subst (λ (f : ℕ → List ℕ). IsCatalogPage (f catalog_no)) kept.images file.catalog.whole;
      held = subst (λ (h : ℕ → Bool). h catalog_no ≡ true) kept.held file.catalog.held;
    };
    entry = subst (λ (f : ℕ → List ℕ). index_at f index.file_no ≡ Some index) kept.images file.entry;
    whole = subst (λ (f : ℕ → List ℕ). IsIndex (g.geometry a) f index.file_no index.level index.root) kept.images
        (subst (λ (y : Geometry). IsIndex y (g.image b) index.file_no index.level index.root) (g.leads_geometry a b kept.leads) file.whole);
    pages = subst (λ (f : ℕ → List ℕ). AllByRecursion (λ page. IsPageOf index.file_no (f page)) (pages_in f index)) kept.images file.pages;
    once = subst (λ (h : ℕ → Bool). (page : ℕ) → times page (all_pages (g.image a) index) ≤ count_of (h page)) kept.held
        (subst (λ (f : ℕ → List ℕ). (page : ℕ) → times page (all_pages f index) ≤ count_of (g.held b page)) kept.images file.once);
  }

  kept_before : (a b : S) → Keeps g a b → AreAsBefore g a b nowhere
  kept_before a b kept index has page named never = record {
    index = index;
    file = kept_back a b index kept has;
    same_file = refl;
    named = subst (λ (f : ℕ → List ℕ). Contains (pages_in f index) page) kept.images named;
    room = ap (λ (y : Geometry). place_for y.page_size (slots_of (g.image b page)) new_len) (g.leads_geometry a b kept.leads) ∙ ap (λ (f : ℕ → List ℕ). place_for (g.geometry a).page_size (slots_of (f page)) new_len) kept.images;
  }

  pub kept_true : (a b : S) (known : Remembered) → Keeps g a b → AreTrue g a known → AreTrue g b known
  kept_true a b known kept are = edited_true g a b nowhere known (kept_before a b kept) are

  -- what is true of all pages is true of all but one
  pub but_one : (s : S) (page : ℕ) (known : Remembered) → AreTrue g s known → AreTrueBut g s (at_page page) known
  but_one s page known are = record { sized = are.sized; each = λ index file p named differ. are.each index file p named (λ never. never) }

  -- ---- once a number was counted

  module _ (old mid : S) (next : ℕ) (told : g.tells old) (whole : AreWhole g old)
      (writes : WritesCatalog g old mid (catalog_numbered next (catalog_on (g.image old catalog_no)))) where
    entry_same : (file_no : ℕ) → index_at (g.image mid) file_no ≡ index_at (g.image old) file_no
    entry_same file_no = ap (λ (c : Catalog). index_in file_no c.entries) (catalog_after g old mid next told writes)

    was_file : (index : Index) → HasFile g mid index → HasFile g old index
    was_file index has = whole.files.each index.file_no index (sym (entry_same index.file_no) ∙ has.entry)

    numbered_before : AreAsBefore g old mid nowhere
    numbered_before index has page named never =
        let file = was_file index has in
        let was = was_named g old mid index next told file writes page named in
        record { index = index; file = file; same_file = refl; named = was; room = same_slot g old mid index next told file writes page new_len was }

    pub numbered_true : (known : Remembered) → AreTrue g old known → AreTrue g mid known
    numbered_true known are = edited_true g old mid nowhere known numbered_before are

    each_file : (file_no : ℕ) (index : Index) → index_at (g.image mid) file_no ≡ Some index → HasFile g mid index
    each_file file_no index found = still_whole g old mid index next told (whole.files.each file_no index (sym (entry_same file_no) ∙ found)) writes

    pub numbered_whole : (index : Index) → HasFile g old index → AreWhole g mid
    numbered_whole index file = record {
      files = record { catalog = (still_whole g old mid index next told file writes).catalog; each = each_file };
      apart = λ a b has_a has_b differ page named.
          subst (λ (ps : List ℕ). times page ps ≡ 0) (sym (all_still g old mid b next told (was_file b has_b) writes))
          (whole.apart a b (was_file a has_a) (was_file b has_b) differ page (subst (λ (ps : List ℕ). 1 ≤ times page ps) (all_still g old mid a next told (was_file a has_a) writes) named));
    }

    -- ---- once an object was made

    pub made_true : (new end : S) (index : Index) (known kept after : Remembered) (asked : Room) (oid : Oid) (grew : Bool) → HasFile g old index → AreTrue g old known → IsLookedFrom known index.file_no asked
        → (HasFile g mid index → IsRoom g mid index asked → CreatesVersion g mid new index oid) → (g.held mid oid.page.0 ≡ true → grew ≡ false)
        → IsKept known asked oid.page.0 grew kept → IsLookedAt g new oid.page.0 kept after → Keeps g new end → AreTrue g end after
    made_true new end index known kept after asked oid grew file are looked creates only keeps looked_at stays =
        let there = still_whole g old mid index next told file writes in
        let are_mid = numbered_true known are in
        let made = creates there (true_room g mid index known asked there are_mid looked) in
        let long : length made.body ≡ new_len = body_long made.body (lone_head oid.unique) [] made.spelled in
        let chosen = subst (λ (n : ℕ). IsChosen g mid index n (place_of oid)) long made.places.chosen in
        let found = found_true g mid index asked (place_of oid) grew known kept there are_mid looked chosen only keeps in
        let before = edit_before g mid new index made.places.after (place_of oid) None (Some made.body) (numbered_whole index file) there made.places.edit in
        kept_true new end after stays (looked_true g new oid.page.0 kept after (edited_true g mid new (at_page oid.page.0) kept before found) looked_at)

  -- ---- once one page of a file was written

  held_if : (t : Bool) (n : ℕ) → 1 ≤ n → n ≤ count_of t → t ≡ true
  held_if true n some once = refl
  held_if false n some once = absurd (omega arith)

  module _ (old new : S) (whole : AreWhole g old) (index : Index) (file : HasFile g old index) (page : ℕ) (named : Contains (pages_in (g.image old) index) page)
      (geometry : g.geometry new ≡ g.geometry old) (images : (p : ℕ) → g.held old p ≡ true → p ≢ page → g.image new p ≡ g.image old p) where
    page_in : 1 ≤ times page (pages_in (g.image old) index)
    page_in = contains_times page (pages_in (g.image old) index) named

    both : (other : Index) (p : ℕ) → times p (all_pages (g.image old) other) ≡ times p (pages_in (g.image old) other) + times p (pages_of (g.image old) other.level other.root)
    both other p = times-append p (pages_in (g.image old) other) (pages_of (g.image old) other.level other.root)

    -- it is no index page
    no_index : (other : Index) → HasFile g old other → (p : ℕ) → 1 ≤ times p (pages_of (g.image old) other.level other.root) → p ≢ page
    no_index other has p there same = elim (same_or_not index.file_no other.file_no) [
      | inl number ↦
          let here : 1 ≤ times page (pages_of (g.image old) index.level index.root) =
          subst (λ (i : Index). 1 ≤ times page (pages_of (g.image old) i.level i.root)) (same_index g old other index has file (sym number)) (subst (λ (n : ℕ). 1 ≤ times n (pages_of (g.image old) other.level other.root)) same there) in
          absurd (omega (arith, page_in, here, both index page, file.once page, count_most (g.held old page)))
      | inr differ ↦
          let here : 1 ≤ times page (pages_of (g.image old) other.level other.root) = subst (λ (n : ℕ). 1 ≤ times n (pages_of (g.image old) other.level other.root)) same there in
          absurd (omega (arith, here, both other page, whole.apart index other file has differ page (omega (arith, page_in, both index page))))
    ]

    not_catalog : catalog_no ≢ page
    not_catalog same = absurd (omega (arith, keys_apart g old index file, subst (λ (n : ℕ). 1 ≤ times n (pages_in (g.image old) index)) (sym same) page_in))

    was_there : (other : Index) → HasFile g new other → HasFile g old other
    was_there other has =
        let same = images catalog_no file.catalog.held not_catalog in
        whole.files.each other.file_no other (subst (λ (t : List ℕ). index_at (λ (q : ℕ). t) other.file_no ≡ Some other) same has.entry)

    pub written_before : AreAsBefore g old new (at_page page)
    written_before other has p at differ =
        let was = was_there other has in
        let stays = moved (g.geometry old) other.file_no (g.image old) (g.image new) other.level other.root
        (λ q c. images q (held_if (g.held old q) (times q (all_pages (g.image old) other)) (omega (arith, c, both other q)) (was.once q)) (no_index other was q c)) in
        let there : Contains (pages_in (g.image old) other) p = subst (λ (ps : List ℕ). Contains ps p) stays.keys at in
        let some = contains_times p (pages_in (g.image old) other) there in
        let same = images p (held_if (g.held old p) (times p (all_pages (g.image old) other)) (omega (arith, some, both other p)) (was.once p)) differ in
        record {
          index = other;
          file = was;
          same_file = refl;
          named = there;
          room = ap (λ (y : Geometry). place_for y.page_size (slots_of (g.image new p)) new_len) geometry ∙ ap (λ (t : List ℕ). place_for (g.geometry old).page_size (slots_of t) new_len) same;
        }

    -- so what is remembered is true again once the page was looked at
    pub written_true : (end : S) (known after : Remembered) → AreTrue g old known → IsLookedAt g new page known after → Keeps g new end → AreTrue g end after
    written_true end known after are looked_at stays =
        kept_true new end after stays (looked_true g new page known after (edited_true g old new (at_page page) known written_before (but_one old page known are)) looked_at)

  -- ---- once a version was changed

  pub change_true : (old new end : S) (index : Index) (oid : Oid) (head : Head) (content : Content) (change : Change) (bytes : List ℕ) (went came : Option Root) (known after : Remembered) → g.leads old new → AreWhole g old → HasFile g old index
      → Contains (pages_in (g.image old) index) oid.page.0 → (count_of_change change ≡ 0 → Keeps g old new) → (1 ≤ count_of_change change → TurnsVersion g old new index oid head content change bytes went came) → AreTrue g old known
      → IsLookedAt g new oid.page.0 known after → Keeps g new end → AreTrue g end after
  change_true old new end index oid head content change bytes went came known after leads whole file named nothing turns are looked_at stays = by_count (count_of_change change) refl
    where
      by_count : (n : ℕ) → count_of_change change ≡ n → AreTrue g end after
      by_count zero none = kept_true new end after stays (looked_true g new oid.page.0 known after (but_one new oid.page.0 known (kept_true old new known (nothing none) are)) looked_at)
      by_count (suc n) some =
          let edit = (turns (omega (arith, some))).edit in
          written_true old new whole index file oid.page.0 named (g.leads_geometry old new leads) edit.images end known after are looked_at stays

-- a file grew where fewer pages are free than before
pub not_grown : (before now : Area → ℕ) (free left : ℕ) (grew : Bool) → free ≡ before Page → left ≡ now Page → grew ≡ nat_lt left free → now ≡ before → grew ≡ false
not_grown before now free left grew free_is left_is is same = is ∙ le-ltb left free (omega (arith, free_is, left_is, ap (λ (f : Area → ℕ). f Page) same))
