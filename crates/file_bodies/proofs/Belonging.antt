-- Which file a page belongs to.
use Rattle.std.proofs.Common.{◌≡◌, ℕ, List, Option, Some, None, sym, subst, ◌∙◌}
use Rattle.std.specs.Prelude.{Contains, slice_index_or, MatchOption}
use Rattle.std.specs.Option.{option_map}
use Rattle.ex_base.specs.declared.ground.Ground as ground
use Rattle.ex_base.specs.Ports.{Keeps}
use Rattle.slotted_pages.specs.Reads.{page_on, IsPage}
use Rattle.slotted_pages.specs.Edits.{slots_of}
use Rattle.ex_base.specs.declared.names.Index.{Index}
use Rattle.file_index.specs.Index.{IsFilesPage}
use Rattle.ex_base.specs.declared.names.Place.{Place}
use Rattle.ex_base.proofs.Counts.{contains_times}
use Rattle.file_bodies.specs.Bodies.{pages_in, bodies_of}
use Rattle.file_bodies.specs.Places.{FirstFrom}
use Rattle.file_bodies.specs.Files.{index_at, HasFile, HasFiles, HasFileOf, HasBody, HasSomeBody, IsOfFile}
use Rattle.file_bodies.proofs.Moving.{lies, kept_file}
use Rattle.file_bodies.proofs.Slots.{page_of}

module _ {S : Type 0} (g : ground.Ghosts S) where
  -- a page of a file lies where it may, and is in its grammar
  pub of_lies : (a : S) (page : ℕ) → IsOfFile g a page → IsFilesPage (g.geometry a) page
  of_lies a page of = lies g a of.index page of.file (contains_times page (pages_in (g.image a) of.index) of.named)

  pub of_page : (a : S) (page : ℕ) → IsOfFile g a page → IsPage (g.image a page)
  of_page a page of = (page_of g a of.index page of.file (contains_times page (pages_in (g.image a) of.index) of.named)).spelled

  -- a body stands on a page of its file
  pub of_body : (a : S) (index : Index) (place : Place) (body : List ℕ) → HasBody g a index place body → IsOfFile g a place.page.0
  of_body a index place body has = record { index = index; file = has.file; named = has.named }

  -- the body that is read on a page of a file is that of the file, and none stands where none is read
  pub found_body : {X : Type 0} (f : X → List ℕ) (r : Option X) (a : S) (place : Place) (bytes : List ℕ) → IsOfFile g a place.page.0
      → bytes ≡ g.image a place.page.0
      → (IsPage bytes → option_map f r ≡ slice_index_or (slots_of bytes) place.slot None)
      → MatchOption r ((body : List ℕ) → HasSomeBody g a place body → ⊥) (λ x. HasSomeBody g a place (f x))
  found_body f None a place bytes of read is = λ body has.
      let none : None ≡ slice_index_or (slots_of (g.image a place.page.0)) place.slot None =
      subst (λ (t : List ℕ). None ≡ slice_index_or (slots_of t) place.slot None) read (is (subst IsPage (sym read) (of_page a place.page.0 of))) in
      absurd (let e : None ≡ Some body = none ∙ has.has.stands in cc)
  found_body f (Some x) a place bytes of read is = record {
    index = of.index;
    has = record {
      file = of.file;
      named = of.named;
      stands = sym (subst (λ (t : List ℕ). Some (f x) ≡ slice_index_or (slots_of t) place.slot None) read
          (is (subst IsPage (sym read) (of_page a place.page.0 of))));
    };
  }

  -- the number on the page is that of its file
  pub of_number : (a : S) (page file_no : ℕ) (of : IsOfFile g a page) → (page_on (g.image a page)).file_no ≡ file_no → index_at (g.image a) file_no ≡ Some of.index
  of_number a page file_no of is =
      let number = (page_of g a of.index page of.file (contains_times page (pages_in (g.image a) of.index) of.named)).number in
      subst (λ (n : ℕ). index_at (g.image a) n ≡ Some of.index) (sym number ∙ is) of.file.entry

  -- the index that the catalog names is that of the file
  pub the_index : (a : S) (index found : Index) (file_no : ℕ) → HasFile g a index → index.file_no ≡ file_no → index_at (g.image a) file_no ≡ Some found → index ≡ found
  the_index a index found file_no file number is =
      let at : index_at (g.image a) file_no ≡ Some index = subst (λ (n : ℕ). index_at (g.image a) n ≡ Some index) number file.entry in
      let e : Some index ≡ Some found = sym at ∙ is in cc

  -- where every file is whole, so is that of a page
  pub file_of_all : (a : S) (page : ℕ) → HasFiles g a → HasFileOf g a page
  file_of_all a page files = record { catalog = files.catalog; whole = λ index is. files.each (page_on (g.image a page)).file_no index is }

  -- a body stands in the file of its page
  pub file_of_body : (a : S) (index : Index) (place : Place) (body : List ℕ) → HasBody g a index place body → HasFileOf g a place.page.0
  file_of_body a index place body has = record {
    catalog = has.file.catalog;
    whole = λ found is.
        let number = (page_of g a index place.page.0 has.file (contains_times place.page.0 (pages_in (g.image a) index) has.named)).number in
        subst (HasFile g a) (the_index a index found (page_on (g.image a place.page.0)).file_no has.file (sym number) is) has.file;
  }

  pub found_file : (a b : S) (index found : Index) (file_no : ℕ) → HasFile g a index → index.file_no ≡ file_no → index_at (g.image a) file_no ≡ Some found → Keeps g a b → HasFile g b found
  found_file a b index found file_no file number is kept = kept_file g a b found kept (subst (HasFile g a) (the_index a index found file_no file number is) file)

  pub found_rows : (a b : S) (index found : Index) (file_no key slot : ℕ) (next : Option Place) → HasFile g a index → index.file_no ≡ file_no → index_at (g.image a) file_no ≡ Some found → Keeps g a b
      → FirstFrom (bodies_of (g.image b) found) key slot next → FirstFrom (bodies_of (g.image a) index) key slot next
  found_rows a b index found file_no key slot next file number is kept rows =
      subst (λ (i : Index). FirstFrom (bodies_of (g.image a) i) key slot next) (sym (the_index a index found file_no file number is))
      (subst (λ (f : ℕ → List ℕ). FirstFrom (bodies_of f found) key slot next) kept.images rows)

  module _ (a b c : S) (page file_no : ℕ) (one : Keeps g a b) (two : Keeps g b c) (number : (page_on (g.image a page)).file_no ≡ file_no) where
    -- no file has the number
    pub of_none : (found : Option Index) → found ≡ None → found ≡ index_at (g.image b) file_no → IsOfFile g a page → ⊥
    of_none found none is of =
        let at : index_at (g.image b) file_no ≡ Some of.index = rw one.images (of_number a page file_no of number) in
        absurd (let e : None ≡ Some of.index = sym none ∙ is ∙ at in cc)

    module _ (index : Index) (found : Option Index) (some : found ≡ Some index) (is : found ≡ index_at (g.image b) file_no) where
      entry : index_at (g.image a) file_no ≡ Some index
      entry = subst (λ (f : ℕ → List ℕ). index_at f file_no ≡ Some index) one.images (sym is ∙ some)

      file_a : HasFileOf g a page → HasFile g a index
      file_a file = file.whole index (subst (λ (n : ℕ). index_at (g.image a) n ≡ Some index) (sym number) entry)

      pub file_c : HasFileOf g a page → HasFile g c index
      file_c file = kept_file g b c index two (kept_file g a b index one (file_a file))

      pub of_yes : HasFileOf g a page → Contains (pages_in (g.image c) index) page → IsOfFile g a page
      of_yes file named = record {
        index = index;
        file = file_a file;
        named = subst (λ (f : ℕ → List ℕ). Contains (pages_in f index) page) (two.images ∙ one.images) named;
      }

      pub of_no : (HasFile g c index → Contains (pages_in (g.image c) index) page → ⊥) → IsOfFile g a page → ⊥
      of_no never of =
          let same : index ≡ of.index = let e : Some index ≡ Some of.index = sym entry ∙ of_number a page file_no of number in cc in
          let file : HasFile g a index = subst (HasFile g a) (sym same) of.file in
          let named : Contains (pages_in (g.image a) index) page = subst (λ (i : Index). Contains (pages_in (g.image a) i) page) (sym same) of.named in
          never (kept_file g b c index two (kept_file g a b index one file)) (rw (two.images, one.images) named)
