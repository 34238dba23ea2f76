-- The entries of a level, cut into shares, and the pages that have them.
use Rattle.std.proofs.Common.{◌≡◌, ◌≤◌, ◌<◌, ◌+◌, ◌/◌, ◌^◌, ℕ, zero, suc, List, [], ◌∷◌, ◌++◌, length, take, drop, Option, Some, refl, sym, ap, subst, ◌∙◌, arith}
use Rattle.std.specs.List.{flat_map, AllByRecursion}
use Rattle.std.proofs.lemmas.List.{length-take, length-drop, take-append-drop}
use Rattle.std.proofs.lemmas.List.Concat.{flat_map-append}
use Rattle.ex_base.specs.declared.geometry.Geometry.{Geometry}
use Rattle.ex_base.specs.Even.{cut_by, sum_of}
use Rattle.ex_base.specs.Ports.{times}
use Rattle.ex_base.specs.Sizes.{geometry_is, least_page, most_page}
use Rattle.ex_base.proofs.Counts.{times-append}
use Rattle.ex_base.proofs.Rows.{each-drop, each-take}
use Rattle.ex_base.proofs.Spread.{Between, plain}
use Rattle.file_index.specs.declared.Entry.{Entry}
use Rattle.file_index.specs.IndexPage.{HasEntryFields, RiseFrom, entries_on, index_page, most_entries}
use Rattle.file_index.specs.Index.{HasLeast, IsFilesPage, IsNamed, IsUnder, Rises, keys_under, least_entries, pages_under}
use Rattle.file_index.specs.Edits.{keys_among, pages_among}
use Rattle.file_index.specs.Nodes.{first_key, heads}
use Rattle.file_index.proofs.Closing.{Fits, entries_rise, written_entries, written_named}
use Rattle.file_index.proofs.Heights.{keys_are_pages}
use Rattle.file_index.proofs.Picking.{rises_back, rises_front}
use Rattle.file_index.proofs.Under.{Begins, begins, each_map}
use Rattle.even_indexes.specs.Levels.{AreOver}

module _ (g : Geometry) (file_no : ℕ) (image : ℕ → List ℕ) (number : file_no < 2 ^ 32) where
  -- ---- entries that name whole indexes of a level

  abbrev pub IsBelow : ℕ → Entry → Type 0
  IsBelow level entry = IsUnder g file_no image level (Some entry.key) entry.page.0

  pub record AreBelow (level : ℕ) (entries : List Entry) : Type 0 where
    pub under : AllByRecursion (IsBelow level) entries
    pub rising : Rises 0 (keys_among image level entries)

  -- A page that may be one of a file has a number of four bytes.
  short : (page : ℕ) → IsFilesPage g page → page < 2 ^ 32
  short page is = omega (arith, is.0.1, (geometry_is g).pages)

  placed : (level : ℕ) (entry : Entry) → IsBelow level entry → IsFilesPage g entry.page.0
  placed zero entry is = is.0
  placed (suc level) entry is = is.0

  first_of : (P : ℕ → Type 0) (key : ℕ) (keys : List ℕ) → Begins key keys → AllByRecursion P keys → P key
  first_of P key keys is each = (subst (AllByRecursion P) is.is each).0

  fields : (level : ℕ) (entry : Entry) → IsBelow level entry → HasEntryFields entry
  fields level entry is =
      let key : IsFilesPage g entry.key = first_of (IsFilesPage g) entry.key (keys_under image level entry.page.0) (begins g file_no image level entry.key entry.page.0 is) (keys_are_pages g file_no image level (Some entry.key) entry.page.0 is) in
      (short entry.key key, short entry.page.0 (placed level entry is))

  rises : (level : ℕ) (entries : List Entry) → AreBelow level entries → RiseFrom 0 entries
  rises level entries below =
      entries_rise (λ (e : Entry). keys_under image level e.page.0) 0 entries
      (each_map {Q = λ (e : Entry). Begins e.key (keys_under image level e.page.0)} entries (λ (e : Entry) u. begins g file_no image level e.key e.page.0 u) below.under) below.rising

  -- ---- a page that has entries

  fits : (level : ℕ) (least : Option ℕ) (entries : List Entry) → level < 255 → AreBelow level entries → HasLeast least entries → least_entries g.page_size least ≤ length entries → 1 ≤ length entries
      → length entries ≤ most_entries g.page_size → Fits g.page_size (suc level) file_no least entries
  fits level least entries byte below least_is enough some room = record {
    inner = omega arith;
    byte = omega (arith, byte);
    number = number;
    some = some;
    size_few = most_page g;
    size_many = least_page g;
    room = omega (arith, room, least_page g);
    rising = rises level entries below;
    fields = each_map {P = IsBelow level} {Q = HasEntryFields} entries (λ (e : Entry) u. fields level e u) below.under;
    enough = enough;
    least_is = least_is;
  }

  -- What stands under it.
  pub record Stands (level : ℕ) (least : Option ℕ) (entries : List Entry) (page : ℕ) : Type 0 where
    pub under : IsUnder g file_no image (suc level) least page
    pub keys : keys_under image (suc level) page ≡ keys_among image level entries
    pub pages : pages_under image (suc level) page ≡ page ∷ pages_among image level entries

  pub stands : (level : ℕ) (least : Option ℕ) (entries : List Entry) (page : ℕ) → level < 255 → IsFilesPage g page → AreBelow level entries → HasLeast least entries → least_entries g.page_size least ≤ length entries
      → 1 ≤ length entries → length entries ≤ most_entries g.page_size → image page ≡ index_page g.page_size (suc level) file_no entries → Stands level least entries page
  stands level least entries page byte files below least_is enough some room is =
      let fit = fits level least entries byte below least_is enough some room in
      let has : entries_on (image page) ≡ entries = ap entries_on is ∙ written_entries g.page_size (suc level) file_no least entries fit in
      let named : IsNamed g.page_size (image page) (suc level) file_no least = subst (λ (t : List ℕ). IsNamed g.page_size t (suc level) file_no least) (sym is) (written_named g.page_size (suc level) file_no least entries fit) in
      record {
        under = (files, named, subst (AllByRecursion (IsBelow level)) (sym has) below.under);
        keys = ap (keys_among image level) has;
        pages = ap (λ (es : List Entry). page ∷ pages_among image level es) has;
      }

  -- ---- shares and their pages

  -- the first of so many entries, and those behind them
  record Cut (level n : ℕ) (entries : List Entry) : Type 0 where
    first : AreBelow level (take n entries)
    rest : AreBelow level (drop n entries)
    keys : keys_among image level entries ≡ keys_among image level (take n entries) ++ keys_among image level (drop n entries)
    pages : pages_among image level entries ≡ pages_among image level (take n entries) ++ pages_among image level (drop n entries)

  cut : (level n : ℕ) (entries : List Entry) → AreBelow level entries → Cut level n entries
  cut level n entries below =
      let whole : entries ≡ take n entries ++ drop n entries = sym (take-append-drop n entries) in
      let joined = λ (f : Entry → List ℕ). ap (flat_map f) whole ∙ flat_map-append f (take n entries) (drop n entries) in
      let keys = joined (λ (e : Entry). keys_under image level e.page.0) in
      let rising : Rises 0 (keys_among image level (take n entries) ++ keys_among image level (drop n entries)) = subst (Rises 0) keys below.rising in
      record {
        first = record { under = each-take (IsBelow level) n entries below.under; rising = rises_front 0 (keys_among image level (take n entries)) (keys_among image level (drop n entries)) rising };
        rest = record { under = each-drop (IsBelow level) n entries below.under; rising = rises_back 0 (keys_among image level (take n entries)) (keys_among image level (drop n entries)) rising };
        keys = keys;
        pages = joined (λ (e : Entry). pages_under image level e.page.0);
      }

  -- The entries over shares name whole indexes of the next level.
  pub record Raised (level : ℕ) (below above : List Entry) : Type 0 where
    pub under : AllByRecursion (IsBelow (suc level)) above
    pub keys : keys_among image (suc level) above ≡ keys_among image level below
    pub pages : (p : ℕ) → times p (pages_among image (suc level) above) ≡ times p (heads above) + times p (pages_among image level below)

  least_of : (key : ℕ) (share : List Entry) → 1 ≤ length share → key ≡ first_key share → HasLeast (Some key) share
  least_of key [] some is = absurd (omega (arith, some))
  least_of key (e ∷ share) some is = sym is

  -- what one page adds to those of the later shares
  add_page : (p page : ℕ) (own more own_below rest_below heads_rest : List ℕ) (all : ℕ) → times p more ≡ times p heads_rest + times p rest_below → all ≡ times p (own_below ++ rest_below) → own ≡ page ∷ own_below
      → times p (own ++ more) ≡ times p (page ∷ heads_rest) + all
  add_page p page own more own_below rest_below heads_rest all rest whole is =
      omega (arith, times-append p own more, ap (times p) is, rest, whole, times-append p own_below rest_below)

  pub raised : (level low : ℕ) (lens : List ℕ) (below above : List Entry) → level < 255 → most_entries g.page_size / 2 ≤ low → 1 ≤ low → AllByRecursion (Between low (most_entries g.page_size)) lens → sum_of plain lens ≡ length below
      → AreBelow level below → AllByRecursion (IsFilesPage g) (heads above) → AreOver g.page_size image file_no (suc level) (cut_by lens below) above → Raised level below above
  raised level low [] [] [] byte half some lens sum is files over = record { under = tt; keys = refl; pages = λ p. omega arith }
  raised level low [] (e ∷ below) above byte half some lens sum is files over = absurd (omega (arith, sum))
  raised level low [] [] (e ∷ above) byte half some lens sum is files over = absurd over
  raised level low (n ∷ ns) below [] byte half some lens sum is files over = absurd over
  raised level low (n ∷ ns) below (e ∷ above) byte half some lens sum is files over =
      let c = cut level n below is in
      let count : length (take n below) ≡ n = omega (arith, length-take n below, sum) in
      let left : sum_of plain ns ≡ length (drop n below) = omega (arith, length-drop n below, length-take n below, sum) in
      let rest = raised level low ns (drop n below) above byte half some lens.1 left c.rest files.1 over.1 in
      let one = stands level (Some e.key) (take n below) e.page.0 byte files.0 c.first (least_of e.key (take n below) (omega (arith, count, lens.0.0, some)) over.0.key) (omega (arith, count, lens.0.0, half)) (omega (arith, count, lens.0.0, some))
      (omega (arith, count, lens.0.1)) over.0.page in
      record {
        under = (one.under, rest.under);
        keys = (λ i. one.keys i ++ rest.keys i) ∙ sym c.keys;
        pages = λ p. add_page p e.page.0 (pages_under image (suc level) e.page.0) (pages_among image (suc level) above) (pages_among image level (take n below)) (pages_among image level (drop n below)) (heads above)
            (times p (pages_among image level below)) (rest.pages p) (ap (times p) c.pages) one.pages;
      }
