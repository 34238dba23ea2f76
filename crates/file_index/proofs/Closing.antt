-- A page that was written is an index again.
use Rattle.std.proofs.Common.{◌≡◌, ◌≤◌, ◌<◌, ◌+◌, ◌*◌, ◌/◌, ◌^◌, ℕ, List, [], ◌∷◌, ◌++◌, length, take, drop, Option, Some, None, refl, sym, ap, subst, ◌∙◌, arith}
use Rattle.std.specs.List.{flat_map, AllByRecursion}
use Rattle.file_index.specs.declared.Entry.{Entry}
use Rattle.file_index.specs.IndexPage.{EntriesOf, IsIndexPage, HasEntryFields, RiseFrom, entries_on, index_page, most_entries}
use Rattle.file_index.proofs.PageLaws.{spelled_reads, written_reads}
use Rattle.std.proofs.lemmas.List.{take-append-drop}
use Rattle.ex_base.specs.declared.ground.Ground as ground
use Rattle.ex_base.specs.Sizes.{least_page, most_page}
use Rattle.file_index.specs.Index.{IsFilesPage, IsNamed, Rises, HasLeast, least_entries, keys_under}
use Rattle.file_index.specs.Nodes.{IsWritten, first_key}
use Rattle.file_index.specs.Edits.{IsRow}
use Rattle.file_index.proofs.Under.{Begins, begins, each_map}
use Rattle.file_index.proofs.Picking.{rises_back}

-- keys whose file pages rise do so themselves
pub entries_rise : (K : Entry → List ℕ) (a : ℕ) (entries : List Entry) → AllByRecursion (λ (e : Entry). Begins e.key (K e)) entries → Rises a (flat_map K entries) → RiseFrom a entries
entries_rise K a [] each rises = tt
entries_rise K a (e ∷ entries) each rises =
    let whole : K e ++ flat_map K entries ≡ e.key ∷ (each.0.rest ++ flat_map K entries) = ap (λ (t : List ℕ). t ++ flat_map K entries) each.0.is in
    let opened : Rises a (e.key ∷ (each.0.rest ++ flat_map K entries)) = subst (Rises a) whole rises in
    (opened.0, entries_rise K (e.key + 1) entries each.1 (rises_back (e.key + 1) each.0.rest (flat_map K entries) opened.1))

-- what a page needs, so that writing it makes it what names it
pub record Fits (size level file_no : ℕ) (least : Option ℕ) (entries : List Entry) : Type 0 where
  pub inner : 1 ≤ level
  pub byte : level < 256
  pub number : file_no < 2 ^ 32
  pub some : 1 ≤ length entries
  pub size_few : size ≤ 8192
  pub size_many : 512 ≤ size
  pub room : 16 + 8 * length entries ≤ size
  pub rising : RiseFrom 0 entries
  pub fields : AllByRecursion HasEntryFields entries
  pub enough : least_entries size least ≤ length entries
  pub least_is : HasLeast least entries

two_at_least : (size : ℕ) (least : Option ℕ) (entries : List Entry) → 512 ≤ size → least_entries size least ≤ length entries → 2 ≤ length entries
two_at_least size None entries many enough = enough
two_at_least size (Some least) entries many enough = omega arith

pub written_entries : (size level file_no : ℕ) (least : Option ℕ) (entries : List Entry) → Fits size level file_no least entries → entries_on (index_page size level file_no entries) ≡ entries
written_entries size level file_no least entries fits =
    let page : IsIndexPage size level file_no entries = record { inner = fits.inner; byte = fits.byte; number = fits.number; some = fits.some; few = omega (arith, fits.room, fits.size_few); room = fits.room; rising = fits.rising; fields = fits.fields } in
    (spelled_reads (index_page size level file_no entries) level file_no entries (written_reads size level file_no entries page)).same_entries

pub written_named : (size level file_no : ℕ) (least : Option ℕ) (entries : List Entry) → Fits size level file_no least entries → IsNamed size (index_page size level file_no entries) level file_no least
written_named size level file_no least entries fits =
    let page : IsIndexPage size level file_no entries = record { inner = fits.inner; byte = fits.byte; number = fits.number; some = fits.some; few = omega (arith, fits.room, fits.size_few); room = fits.room; rising = fits.rising; fields = fits.fields } in
    let again = written_entries size level file_no least entries fits in
    record {
      spelled = subst (λ (t : List Entry). EntriesOf (index_page size level file_no entries) level file_no t) (sym again) (written_reads size level file_no entries page);
      two = subst (λ (t : List Entry). 2 ≤ length t) (sym again) (two_at_least size least entries fits.size_many fits.enough);
      enough = subst (λ (t : List Entry). least_entries size least ≤ length t) (sym again) fits.enough;
      least_is = subst (HasLeast least) (sym again) fits.least_is;
    }

rise_front : (a : ℕ) (xs ys : List Entry) → RiseFrom a (xs ++ ys) → RiseFrom a xs
rise_front a [] ys h = tt
rise_front a (x ∷ xs) ys h = (h.0, rise_front (x.key + 1) xs ys h.1)

rise_weak : (a b : ℕ) (xs : List Entry) → a ≤ b → RiseFrom b xs → RiseFrom a xs
rise_weak a b [] le h = tt
rise_weak a b (x ∷ xs) le h = (omega (arith, h.0), h.1)

rise_back : (a : ℕ) (xs ys : List Entry) → RiseFrom a (xs ++ ys) → RiseFrom a ys
rise_back a [] ys h = h
rise_back a (x ∷ xs) ys h = rise_weak a (x.key + 1) ys (omega (arith, h.0)) (rise_back (x.key + 1) xs ys h.1)

pub rise_take : (n : ℕ) (es : List Entry) → RiseFrom 0 es → RiseFrom 0 (take n es)
rise_take n es h = rise_front 0 (take n es) (drop n es) (subst (RiseFrom 0) (sym (take-append-drop n es)) h)

pub rise_drop : (n : ℕ) (es : List Entry) → RiseFrom 0 es → RiseFrom 0 (drop n es)
rise_drop n es h = rise_back 0 (take n es) (drop n es) (subst (RiseFrom 0) (sym (take-append-drop n es)) h)

first_is : (entries : List Entry) → 1 ≤ length entries → HasLeast (Some (first_key entries)) entries
first_is [] some = absurd (omega arith)
first_is (e ∷ entries) some = refl

some_first : (entries : List Entry) → 1 ≤ length entries → HasLeast None entries
some_first [] some = absurd (omega arith)
some_first (e ∷ entries) some = tt

module _ {S : Type 0} (g : ground.Ghosts S) (s : S) where
  -- the keys of entries that name whole indexes rise
  pub row_rises : (file_no m : ℕ) (es : List Entry) → IsRow g s file_no m es → RiseFrom 0 es
  row_rises file_no m es row =
      entries_rise (λ (e : Entry). keys_under (g.image s) m e.page.0) 0 es
      (each_map {Q = λ (e : Entry). Begins e.key (keys_under (g.image s) m e.page.0)} es (λ (e : Entry) u. begins (g.geometry s) file_no (g.image s) m e.key e.page.0 u) row.under) row.rising

  -- a page that was written is what names it
  pub record IsNew (page level file_no : ℕ) (least : Option ℕ) (entries : List Entry) : Type 0 where
    pub files : IsFilesPage (g.geometry s) page
    pub named : IsNamed (g.geometry s).page_size (g.image s page) level file_no least
    pub has : entries_on (g.image s page) ≡ entries

  new_page : (page level file_no : ℕ) (least : Option ℕ) (entries : List Entry) → IsWritten g s page level file_no entries → RiseFrom 0 entries → HasLeast least entries → least_entries (g.geometry s).page_size least ≤ length entries
      → IsNew page level file_no least entries
  new_page page level file_no least entries w rises least_is enough =
      let fits : Fits (g.geometry s).page_size level file_no least entries = record {
        inner = w.inner;
        byte = w.byte;
        number = w.number;
        some = w.some;
        size_few = most_page (g.geometry s);
        size_many = least_page (g.geometry s);
        room = omega (arith, w.room, least_page (g.geometry s));
        rising = rises;
        fields = w.fields;
        enough = enough;
        least_is = least_is;
      } in
      record {
        files = w.files;
        named = subst (λ (t : List ℕ). IsNamed (g.geometry s).page_size t level file_no least) (sym w.image) (written_named (g.geometry s).page_size level file_no least entries fits);
        has = ap entries_on w.image ∙ written_entries (g.geometry s).page_size level file_no least entries fits;
      }

  pub new_node : (page level file_no : ℕ) (entries : List Entry) → IsWritten g s page level file_no entries → RiseFrom 0 entries → most_entries (g.geometry s).page_size / 2 ≤ length entries → IsNew page level file_no (Some (first_key entries)) entries
  new_node page level file_no entries w rises enough = new_page page level file_no (Some (first_key entries)) entries w rises (first_is entries w.some) enough

  pub new_root : (page level file_no : ℕ) (entries : List Entry) → IsWritten g s page level file_no entries → RiseFrom 0 entries → 2 ≤ length entries → IsNew page level file_no None entries
  new_root page level file_no entries w rises enough = new_page page level file_no None entries w rises (some_first entries w.some) enough
