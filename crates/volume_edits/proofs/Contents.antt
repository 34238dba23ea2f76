-- Each file of a volume is whole in the port whose working state the volume is.
use Rattle.std.proofs.Common.{◌≡◌, ℕ, List, [], ◌∷◌, ◌++◌, length, Some, refl, sym, ap, subst, ◌∙◌, arith, inl, inr, append_assoc}
use Rattle.std.specs.Prelude.{map}
use Rattle.std.specs.List.{flat_map, AllByRecursion, AllZip, zip}
use Rattle.std.proofs.lemmas.List.Concat.{flat_map-append}
use Rattle.ex_base.specs.declared.ground.Ground as ground
use Rattle.ex_base.specs.declared.geometry.Geometry.{Geometry}
use Rattle.ex_base.specs.Area.{catalog_no}
use Rattle.ex_base.specs.Order.{AllDiffer}
use Rattle.ex_base.specs.Ports.{times}
use Rattle.ex_base.proofs.Each.{split_each, zip_as}
use Rattle.ex_base.proofs.Counts.{same_or_not, times-append}
use Rattle.ex_base.proofs.Members.{In, contains_in}
use Rattle.op_log.specs.declared.record.LogRecord.{LogRecord}
use Rattle.slotted_pages.specs.FilePage.{FilePage, SlotsOf}
use Rattle.slotted_pages.specs.Reads.{page_on}
use Rattle.slotted_pages.proofs.PageLaws.{page_read_is}
use Rattle.ex_base.specs.declared.names.Index.{Index}
use Rattle.file_index.specs.Index.{IsFilesPage, keys_of, pages_of}
use Rattle.file_bodies.specs.Bodies.{Row, bodies_on, bodies_of}
use Rattle.file_bodies.specs.Files.{HasCatalog, HasFile, HasFiles, IsPageOf, index_at, index_in}
use Rattle.file_bodies.proofs.Entries.{is_catalog, entries_are, in_here, in_rest}
use Rattle.file_bodies.proofs.Moving.{moved}
use Rattle.file_bodies.proofs.Pages.{is_page, number_is, slots_are}
use Rattle.file_bodies.proofs.Rows.{each_at}
use Rattle.object_files.specs.Catalog.{FileEntry, CatalogOf, number_of}
use Rattle.object_files.specs.Edits.{entries_on}
use Rattle.volume_model.specs.Parts.{HasIndex, HasPage, HasPages, HasBodies, IsStored, bodies_in, bodies_from}
use Rattle.volume_model.specs.Volume.{FileContent, Volume, pages_of_file, file_pages}
use Rattle.volume_edits.specs.Ported.{ShowsVolume, units_in, index_named, HasContent}
use Rattle.volume_edits.proofs.Lists.{Paired, zip_split, times_around}
use Rattle.volume_edits.proofs.Counted.{file_lies, pages_counted, in_area}
use Rattle.volume_edits.proofs.PagesRead.{bodies_read}

-- an entry with its file, among the others
pub record Beside (entries : List FileEntry) (files : List FileContent) (e : FileEntry) (f : FileContent) : Type 0 where
  pub entries_before : List FileEntry
  pub entries_behind : List FileEntry
  pub files_before : List FileContent
  pub files_behind : List FileContent
  pub entries_are : entries ≡ entries_before ++ (e ∷ entries_behind)
  pub files_are : files ≡ files_before ++ (f ∷ files_behind)
  pub paired : Paired entries_before files_before

paired_push : {A B : Type 0} (xs : List A) (ys : List B) (x : A) (y : B) → Paired xs ys → Paired (xs ++ (x ∷ [])) (ys ++ (y ∷ []))
paired_push [] [] x y p = (tt, tt)
paired_push [] (z ∷ ys) x y p = absurd p
paired_push (z ∷ xs) [] x y p = absurd p
paired_push (z ∷ xs) (w ∷ ys) x y p = (tt, paired_push xs ys x y p.1)

-- what holds of each entry with its file
pub zip_by : (R : FileEntry → FileContent → Type 0) (entries : List FileEntry) (files : List FileContent) → ((e : FileEntry) (f : FileContent) → Beside entries files e f → R e f) → Paired entries files → AllZip R entries files
zip_by R entries files each paired = go [] [] entries files tt refl refl paired
  where
    go : (xs : List FileEntry) (us : List FileContent) (ys : List FileEntry) (vs : List FileContent) → Paired xs us → entries ≡ xs ++ ys → files ≡ us ++ vs → Paired ys vs → AllZip R ys vs
    go xs us [] [] p a b q = tt
    go xs us [] (v ∷ vs) p a b q = absurd q
    go xs us (y ∷ ys) [] p a b q = absurd q
    go xs us (y ∷ ys) (v ∷ vs) p a b q = (
      each y v (record { entries_before = xs; entries_behind = ys; files_before = us; files_behind = vs; entries_are = a; files_are = b; paired = p }),
      go (xs ++ (y ∷ [])) (us ++ (v ∷ [])) ys vs (paired_push xs us y v p) (a ∙ sym (append_assoc xs (y ∷ []) ys)) (b ∙ sym (append_assoc us (v ∷ []) vs)) q.1,
    )

beside_more : (entries : List FileEntry) (files : List FileContent) (e d : FileEntry) (f c : FileContent) → Beside entries files e f → Beside (d ∷ entries) (c ∷ files) e f
beside_more entries files e d f c b = record {
  entries_before = d ∷ b.entries_before;
  entries_behind = b.entries_behind;
  files_before = c ∷ b.files_before;
  files_behind = b.files_behind;
  entries_are = ap (λ (t : List FileEntry). d ∷ t) b.entries_are;
  files_are = ap (λ (t : List FileContent). c ∷ t) b.files_are;
  paired = (tt, b.paired);
}

-- the entry that an index was read from
pub record Found (entries : List FileEntry) (files : List FileContent) (index : Index) : Type 0 where
  pub e : FileEntry
  pub f : FileContent
  pub named : index_named e ≡ index
  pub beside : Beside entries files e f

pub found : (file_no : ℕ) (index : Index) (entries : List FileEntry) (files : List FileContent) → Paired entries files → index_in file_no entries ≡ Some index → Found entries files index
found file_no index [] files paired is = absurd cc
found file_no index (e ∷ entries) [] paired is = absurd paired
found file_no index (e ∷ entries) (f ∷ files) paired is = elim (same_or_not e.file_no file_no) [
  | inl same ↦
      let made : Some (record { root = e.root; level = e.level; file_no = file_no }) ≡ Some index = sym (in_here file_no e entries same) ∙ is in
      let index_is : record { root = e.root; level = e.level; file_no = file_no } ≡ index = cc in
      record {
        e = e;
        f = f;
        named = ap (λ (n : ℕ). let i : Index = record { root = e.root; level = e.level; file_no = n } in i) same ∙ index_is;
        beside = record { entries_before = []; entries_behind = entries; files_before = []; files_behind = files; entries_are = refl; files_are = refl; paired = tt };
      }
  | inr differ ↦
      let rest = found file_no index entries files paired.1 (sym (in_rest file_no e entries differ) ∙ is) in
      record { e = rest.e; f = rest.f; named = rest.named; beside = beside_more entries files rest.e e rest.f f rest.beside }
]

-- and the other way round
pub in_beside : (before : List FileEntry) (e : FileEntry) (behind : List FileEntry) → AllDiffer (map number_of (before ++ (e ∷ behind))) → index_in e.file_no (before ++ (e ∷ behind)) ≡ Some (index_named e)
in_beside [] e behind differ = in_here e.file_no e behind refl
in_beside (d ∷ before) e behind differ =
    in_rest e.file_no d (before ++ (e ∷ behind)) (λ same. differ.0 (contains_in d.file_no (map number_of (before ++ (e ∷ behind))) (subst (λ n. In n (map number_of (before ++ (e ∷ behind)))) (sym same) (number_in before)))) ∙ in_beside before e behind differ.1
  where
    number_in : (front : List FileEntry) → In e.file_no (map number_of (front ++ (e ∷ behind)))
    number_in [] = inl refl
    number_in (x ∷ front) = inr (number_in front)

-- ---- pages

read_pages : (image units : ℕ → List ℕ) (g : Geometry) (entry : FileEntry) (numbers : List ℕ) (pages : List FilePage) → ((p : ℕ) → IsFilesPage g p → units p ≡ image p) → AllByRecursion (IsFilesPage g) numbers → AllZip (HasPage units entry) numbers pages
    → (pages ≡ map (λ (n : ℕ). page_on (image n)) numbers) × AllByRecursion (λ page. IsPageOf entry.file_no (image page)) numbers
read_pages image units g entry [] [] same lie h = (refl, tt)
read_pages image units g entry [] (p ∷ pages) same lie h = absurd h
read_pages image units g entry (n ∷ numbers) [] same lie h = absurd h
read_pages image units g entry (n ∷ numbers) (p ∷ pages) same lie h =
    let spelled : SlotsOf (image n) p = subst (λ (bytes : List ℕ). SlotsOf bytes p) (same n lie.0) h.0.0 in
    let rest = read_pages image units g entry numbers pages same lie.1 h.1 in
    let here : page_on (image n) ≡ p = page_read_is (image n) p spelled in
    let tail = rest.0 in (
      cc (here, tail),
      (record { spelled = is_page (image n) p spelled; number = number_is (image n) p spelled ∙ h.0.2; some = omega (arith, ap length (slots_are (image n) p spelled), h.0.1) }, rest.1),
    )

paired_of : {A B : Type 0} (R : A → B → Type 0) (xs : List A) (ys : List B) → AllZip R xs ys → Paired xs ys
paired_of R xs ys h = zip_as R (λ x y. Unit {0}) xs ys (λ x y r. tt) h

-- what holds of an entry and its file
pub at_beside : (R : FileEntry → FileContent → Type 0) (entries : List FileEntry) (files : List FileContent) (e : FileEntry) (f : FileContent) → (b : Beside entries files e f) → AllZip R entries files → R e f
at_beside R entries files e f b h =
    let moved_files : AllZip R entries (b.files_before ++ (f ∷ b.files_behind)) = subst (AllZip R entries) b.files_are h in
    let both : AllZip R (b.entries_before ++ (e ∷ b.entries_behind)) (b.files_before ++ (f ∷ b.files_behind)) = subst (λ (es : List FileEntry). AllZip R es (b.files_before ++ (f ∷ b.files_behind))) b.entries_are moved_files in
    (zip_split R b.entries_before (e ∷ b.entries_behind) b.files_before (f ∷ b.files_behind) b.paired both).1.0

at_file : (P : FileContent → Type 0) (entries : List FileEntry) (files : List FileContent) (e : FileEntry) (f : FileContent) → (b : Beside entries files e f) → AllByRecursion P files → P f
at_file P entries files e f b h = (split_each P b.files_before (f ∷ b.files_behind) (subst (AllByRecursion P) b.files_are h)).1.0

module _ {S : Type 0} (g : ground.Ghosts S) (s : S) (records : List LogRecord) (v : Volume) (vol : ShowsVolume g s records v) where
  catalog_here : CatalogOf (g.image s catalog_no) v.catalog
  catalog_here = let some = (g.geometry s).some_pages in subst (λ (bytes : List ℕ). CatalogOf bytes v.catalog) (in_area g s catalog_no (omega (arith, some))) vol.parts.0.0

  pub has_catalog : HasCatalog g s
  has_catalog = record { whole = is_catalog (g.image s catalog_no) v.catalog catalog_here; held = (vol.held catalog_no).1 (contains_in catalog_no (catalog_no ∷ file_pages v) (inl refl)) }

  pub entries_here : entries_on (g.image s catalog_no) ≡ v.catalog.entries
  entries_here = entries_are (g.image s catalog_no) v.catalog catalog_here

  same_image : (p : ℕ) → IsFilesPage (g.geometry s) p → g.image s p ≡ units_in g s p
  same_image p lies = sym (in_area g s p lies.0.1)

  pub content_of : (e : FileEntry) (f : FileContent) → Beside v.catalog.entries v.files e f → HasContent g s e f
  content_of e f b =
      let index : HasIndex (g.geometry s) (units_in g s) e f = at_beside (HasIndex (g.geometry s) (units_in g s)) v.catalog.entries v.files e f b vol.parts.1.0.0 in
      let pages : HasPages (units_in g s) e f = at_beside (HasPages (units_in g s)) v.catalog.entries v.files e f b vol.parts.1.1.0 in
      let bodies_whole : HasBodies f = at_file HasBodies v.catalog.entries v.files e f b vol.parts.1.1.1.0 in
      let lie = file_lies (g.geometry s) (units_in g s) e f index in
      let both = split_each (IsFilesPage (g.geometry s)) f.numbers f.index_pages lie in
      let m = moved (g.geometry s) e.file_no (units_in g s) (g.image s) e.level e.root (λ p c. same_image p (each_at (IsFilesPage (g.geometry s)) f.index_pages p both.1 (omega (arith, ap (times p) index.index_pages, c)))) in
      let numbers : keys_of (g.image s) e.level e.root ≡ f.numbers = m.keys ∙ sym index.numbers in
      let index_pages : pages_of (g.image s) e.level e.root ≡ f.index_pages = m.pages ∙ sym index.index_pages in
      let read = read_pages (g.image s) (units_in g s) (g.geometry s) e f.numbers f.pages (λ p l. sym (same_image p l)) both.0 pages in
      let bodies : bodies_of (g.image s) (index_named e) ≡ bodies_in f = ap (flat_map (bodies_on (g.image s))) numbers ∙ sym (bodies_read (g.image s) f.numbers) ∙ ap (λ (ps : List FilePage). flat_map (λ (row : ℕ × FilePage). bodies_from row.0 0 row.1.slots) (zip f.numbers ps)) (sym read.0) in
      let at : index_at (g.image s) e.file_no ≡ Some (index_named e) = ap (index_in e.file_no) (entries_here ∙ b.entries_are) ∙ in_beside b.entries_before e b.entries_behind (subst (λ (es : List FileEntry). AllDiffer (map number_of es)) b.entries_are vol.parts.0.0.fits.numbers) in
      record {
        entry = at;
        file = record {
          catalog = has_catalog;
          entry = at;
          whole = m.whole index.whole;
          pages = subst (AllByRecursion (λ page. IsPageOf e.file_no (g.image s page))) (sym numbers) read.1;
          once = λ p. omega (arith, pages_counted g s records v vol p, times-append p (catalog_no ∷ []) (file_pages v), ap (λ (fs : List FileContent). times p (flat_map pages_of_file fs)) b.files_are, ap (times p) (flat_map-append pages_of_file b.files_before (f ∷ b.files_behind)), times_around p (flat_map pages_of_file b.files_before) (pages_of_file f) (flat_map pages_of_file b.files_behind), times-append p f.numbers f.index_pages, times-append p (keys_of (g.image s) e.level e.root) (pages_of (g.image s) e.level e.root), ap (times p) numbers, ap (times p) index_pages);
        };
        numbers = numbers;
        index_pages = index_pages;
        pages = read.0;
        bodies = bodies;
        records = subst (λ (rs : List Row). AllZip IsStored rs f.stored) (sym bodies) bodies_whole.records;
      }

  pub pairs : Paired v.catalog.entries v.files
  pairs = paired_of (HasIndex (g.geometry s) (units_in g s)) v.catalog.entries v.files vol.parts.1.0.0

  pub contents : AllZip (HasContent g s) v.catalog.entries v.files
  contents = zip_by (HasContent g s) v.catalog.entries v.files content_of pairs

  pub found_at : (file_no : ℕ) (index : Index) → index_at (g.image s) file_no ≡ Some index → Found v.catalog.entries v.files index
  found_at file_no index is = found file_no index v.catalog.entries v.files pairs (ap (index_in file_no) (sym entries_here) ∙ is)

  pub has_files : HasFiles g s
  has_files = record {
    catalog = has_catalog;
    each = λ file_no index is. let here = found_at file_no index is in subst (HasFile g s) here.named (content_of here.e here.f here.beside).file;
  }
