-- Pages in a row, each of which is written again with the links of its records.
use Rattle.std.proofs.Common.{◌≡◌, ◌≤◌, ◌<◌, ◌+◌, ◌-◌, ◌*◌, ℕ, zero, suc, List, [], ◌∷◌, ◌++◌, length, take, drop, Some, inl, refl, sym, ap, subst, ◌∙◌, add-one, arith}
use Rattle.std.specs.Prelude.{Err, IsErrAnd, IsTrue, Ok, Result}
use Rattle.std.specs.List.{AllByRecursion}
use Rattle.std.proofs.lemmas.List.{drop-drop, length-append, length-drop, take_all}
use Rattle.ex_base.specs.declared.geometry.Geometry.{Geometry}
use Rattle.ex_base.specs.Area.{InPageArea, area_end, catalog_no}
use Rattle.ex_base.specs.Bytes.{part, repl}
use Rattle.ex_base.specs.Sizes.{volume_bytes}
use Rattle.disk_model.specs.Calls.{Tears, Wrote}
use Rattle.disk_model.specs.Changes.{ChangesWithin, InRange, changes_wider, changes_write}
use Rattle.disk_model.specs.Outside.{DiskOnly, IsWorld, Outside, Rose}
use Rattle.object_records.specs.Record.{IsRecord, Record}
use Rattle.slotted_pages.specs.FilePage.{SlotsOf}
use Rattle.tree_store.specs.Stored.{InUnit}
use Rattle.tree_store.proofs.Places.{node_fits, page_len}
use Rattle.tree_store.proofs.Taking.{held_whole, whole_written}
use Rattle.trees.specs.Trees.{Units}
use Rattle.volume_model.specs.Homes.{home}
use Rattle.history_links.specs.declared.Links.{Links}
use Rattle.history_writes.specs.Places.{InPagesFrom}
use Rattle.history_writes.proofs.Writing.{IsFront, home_other, home_unit}
use Rattle.history_writes.specs.Laid.{ArePagesOn, all_of, page_of}
use Rattle.history_writes.specs.declared.rows.LinkFault.{LinkFault}
use Rattle.history_writes.specs.Linked.{AllMayHave, CountsRecords, HasNoRows, HasNone, LinksPage, LinksPages, MayBeLinked, records_linked, rows_linked}

-- ---- one page

pub page_front : (g : Geometry) (page : ℕ) (d bytes : List ℕ) → InPageArea g page → length bytes ≡ g.page_size → volume_bytes g ≤ length d → IsFront g page d bytes
page_front g page d bytes area long large =
    record { is = inl area; room = omega (arith, page_len g page area, long); fits = node_fits g page (length bytes) (length d) area long large }

pub home_written : (g : Geometry) (page : ℕ) (d bytes : List ℕ) → InPageArea g page → length bytes ≡ g.page_size → IsFront g page d bytes → home g (repl d (page * g.page_size) bytes) page ≡ bytes
home_written g page d bytes area long front =
    home_unit g (repl d (page * g.page_size) bytes) page ∙ whole_written g page d bytes (page_len g page area ∙ sym long) front.fits

-- a page that was read holds what stands at its home
pub record IsReadOf (g : Geometry) (a mid : Outside) (page : ℕ) (read : List ℕ) : Type 0 where
  pub area : InPageArea g page
  pub same : mid.disk ≡ a.disk
  pub bytes : (d : List ℕ) → a.disk ≡ Some d → read ≡ part d (page * g.page_size) g.page_size

read_home : (g : Geometry) (a mid : Outside) (page : ℕ) (read image : List ℕ) → IsReadOf g a mid page read → a.disk ≡ Some image → read ≡ home g image page
read_home g a mid page read image is holds =
    is.bytes image holds ∙ sym (home_unit g image page ∙ ap (λ (n : ℕ). part image (page * g.page_size) n) (page_len g page is.area))

abbrev pub Copies : List ℕ → List ℕ → List Links → Type 0
Copies read into links = (file_no : ℕ) (records : List Record) → SlotsOf read (page_of file_no records) → AllByRecursion IsRecord records → SlotsOf into (page_of file_no (records_linked links records))

pub page_linked : (g : Geometry) (a mid b : Outside) (page : ℕ) (read into : List ℕ) (links : List Links) → IsWorld mid → volume_bytes g ≤ mid.size → IsReadOf g a mid page read → length into ≡ g.page_size → Wrote (page * g.page_size) into mid b
    → Copies read into links → LinksPage g a b page links
page_linked g a mid b page read into links world large is long wrote copies image holds =
    let held : mid.disk ≡ Some image = is.same ∙ holds in
    let front = page_front g page image into is.area long (omega (arith, large, held_whole mid world image held)) in
    let later : List ℕ = repl image (page * g.page_size) into in (
      repl image (page * g.page_size) into,
      wrote image held,
      record {
        others = λ unit there differ. home_other g page unit image into front there differ;
        linked = λ file_no records at are.
            subst (λ (t : List ℕ). SlotsOf t (page_of file_no (records_linked links records))) (sym (home_written g page image into is.area long front))
            (copies file_no records (subst (λ (t : List ℕ). SlotsOf t (page_of file_no records)) (sym (read_home g a mid page read image is holds)) at) are);
      },
    )

pub counts_read : (g : Geometry) (a mid : Outside) (page n : ℕ) (read : List ℕ) → IsReadOf g a mid page read → ((file_no : ℕ) (records : List Record) → SlotsOf read (page_of file_no records) → n ≡ length records) → CountsRecords g a page n
counts_read g a mid page n read is counts image file_no records holds at =
    counts file_no records (subst (λ (t : List ℕ). SlotsOf t (page_of file_no records)) (sym (read_home g a mid page read image is holds)) at)

pub none_read : (g : Geometry) (a mid : Outside) (page : ℕ) (read : List ℕ) (links : List Links) → IsReadOf g a mid page read
    → ((file_no : ℕ) (records : List Record) → SlotsOf read (page_of file_no records) → AllByRecursion IsRecord records → AllMayHave links records → ⊥) → HasNone g a page links
none_read g a mid page read links is none image file_no records holds at are may =
    none file_no records (subst (λ (t : List ℕ). SlotsOf t (page_of file_no records)) (sym (read_home g a mid page read image is holds)) at) are may

pub page_changes : (g : Geometry) (a b : Outside) (page n : ℕ) → DiskOnly a b → (IsTrue a.honest → Tears (page * g.page_size) n a b) → InPageArea g page → n ≡ g.page_size → ChangesWithin (InUnit g page) a b
page_changes g a b page n only tears area long =
    changes_wider (InRange (page * g.page_size) n) (InUnit g page) (changes_write (page * g.page_size) n only tears) (λ i here. (here.0, omega (arith, here.1, page_len g page area, long)))

pub rose_since : (before mid now : ℕ) → before ≤ mid → Rose mid now → Rose before now
rose_since before mid now le rose = omega arith

-- the links behind those that were taken
pub rest_of : (done : ℕ) (links : List Links) → take (length links - done) (drop done links) ≡ drop done links
rest_of done links = take_all (length links - done) (drop done links) (omega (arith, length-drop done links))

-- the fault that is handed on
pub same_fault : {X : Type 0} (r : Result X LinkFault) (e f : LinkFault) → IsErrAnd r (λ x. x ≡ e) → r ≡ Err f → e ≡ f
same_fault (Ok x) e f handed is = absurd handed
same_fault (Err x) e f handed is = let same : x ≡ f = cc in sym handed ∙ same

-- ---- a page of a row

may_front : (links : List Links) (records rest : List Record) → AllMayHave links (records ++ rest) → AllMayHave links records
may_front links [] rest may = tt
may_front [] (r ∷ records) rest may = absurd may
may_front (one ∷ links) (r ∷ records) rest may = (may.0, may_front links records rest may.1)

may_behind : (links : List Links) (records rest : List Record) → AllMayHave links (records ++ rest) → AllMayHave (drop (length records) links) rest
may_behind links [] rest may = may
may_behind [] (r ∷ records) rest may = absurd may
may_behind (one ∷ links) (r ∷ records) rest may = may_behind links records rest may.1

length_linked : (links : List Links) (records : List Record) → AllMayHave links records → length (records_linked links records) ≡ length records
length_linked links [] may = refl
length_linked [] (r ∷ records) may = absurd may
length_linked (one ∷ links) (r ∷ records) may = ap suc (length_linked links records may.1)

-- the records of a page of a row, and what their links make of the row up to it
record Row (units : Units) (file_no first : ℕ) (links : List Links) (pages : List (List Record)) (n : ℕ) : Type 0 where
  records : List Record
  at : SlotsOf (units (first + n)) (page_of file_no records)
  some : 1 ≤ length records
  are : AllByRecursion IsRecord records
  may : AllMayHave (drop (length (all_of (take n pages))) links) records
  linked : rows_linked links (take (suc n) pages) ≡ rows_linked links (take n pages) ++ records_linked (drop (length (all_of (take n pages))) links) records ∷ []
  total : length (all_of (take (suc n) pages)) ≡ length (all_of (take n pages)) + length records
  count : length (rows_linked links (take n pages)) ≡ n

row : (units : Units) (file_no first : ℕ) (links : List Links) (pages : List (List Record)) (n : ℕ) → n < length pages → ArePagesOn units file_no first pages → AllByRecursion (AllByRecursion IsRecord) pages → AllMayHave links (all_of pages)
    → Row units file_no first links pages n
row units file_no first links [] n l on are may = absurd (omega arith)
row units file_no first links (records ∷ pages) zero l on are may =
    let same : first ≡ first + 0 = omega arith in
    record {
      records = records;
      at = subst (λ (p : ℕ). SlotsOf (units p) (page_of file_no records)) same on.0;
      some = on.1;
      are = are.0;
      may = may_front links records (all_of pages) may;
      linked = refl;
      total = omega (arith, length-append records []);
      count = refl;
    }
row units file_no first links (records ∷ pages) (suc n) l on are may =
    let rest = row units file_no (suc first) (drop (length records) links) pages n (omega arith) on.2 are.1 (may_behind links records (all_of pages) may) in
    let same : suc first + n ≡ first + suc n = omega arith in
    let skip : drop (length (all_of (take n pages))) (drop (length records) links) ≡ drop (length (records ++ all_of (take n pages))) links =
    drop-drop (length (all_of (take n pages))) (length records) links ∙ ap (λ (k : ℕ). drop k links) (sym (length-append records (all_of (take n pages)))) in
    record {
      records = rest.records;
      at = subst (λ (p : ℕ). SlotsOf (units p) (page_of file_no rest.records)) same rest.at;
      some = rest.some;
      are = rest.are;
      may = subst (λ (ls : List Links). AllMayHave ls rest.records) skip rest.may;
      linked = ap (λ (rows : List (List Record)). records_linked links records ∷ rows) (rest.linked ∙ ap (λ (ls : List Links). rows_linked (drop (length records) links) (take n pages) ++ records_linked ls rest.records ∷ []) skip);
      total = omega (arith, rest.total, length-append records (all_of (take (suc n) pages)), length-append records (all_of (take n pages)));
      count = ap suc rest.count;
    }

rows_stay : (units later : Units) (file_no page : ℕ) (pages : List (List Record)) → ((p : ℕ) → page ≤ p → p < page + length pages → later p ≡ units p) → ArePagesOn units file_no page pages → ArePagesOn later file_no page pages
rows_stay units later file_no page [] same are = tt
rows_stay units later file_no page (records ∷ pages) same are = (
  subst (λ (b : List ℕ). SlotsOf b (page_of file_no records)) (sym (same page (omega arith) (omega arith))) are.0,
  are.1,
  rows_stay units later file_no (suc page) pages (λ p from before. same p (omega (arith, from)) (omega (arith, before))) are.2,
)

rows_more : (units : Units) (file_no page at : ℕ) (pages : List (List Record)) (last : List Record) → at ≡ page + length pages → ArePagesOn units file_no page pages → SlotsOf (units at) (page_of file_no last) → 1 ≤ length last
    → ArePagesOn units file_no page (pages ++ last ∷ [])
rows_more units file_no page at [] last e are slots some = (let same : at ≡ page = omega (arith, e) in subst (λ (p : ℕ). SlotsOf (units p) (page_of file_no last)) same slots, some, tt)
rows_more units file_no page at (records ∷ pages) last e are slots some = (are.0, are.1, rows_more units file_no (suc page) at pages last (omega (arith, e)) are.2 slots some)

-- ---- how far a row has its links

-- The pages from one on are as they were, and those before it have their links.
pub record IsLinkedTo (g : Geometry) (image later : List ℕ) (first : ℕ) (links : List Links) (n done : ℕ) : Type 0 where
  pub behind : (page : ℕ) → InPageArea g page → first + n ≤ page → home g later page ≡ home g image page
  pub linked : (file_no : ℕ) (pages : List (List Record)) → n ≤ length pages → MayBeLinked g image file_no first links pages → ArePagesOn (home g later) file_no first (rows_linked links (take n pages)) × (done ≡ length (all_of (take n pages)))

abbrev pub LinkedTo : Geometry → Outside → Outside → ℕ → List Links → ℕ → ℕ → Type 0
LinkedTo g was now first links n done = (image : List ℕ) → was.disk ≡ Some image → (later : List ℕ) × (now.disk ≡ Some later) × IsLinkedTo g image later first links n done

pub none_linked : (g : Geometry) (a : Outside) (first : ℕ) (links : List Links) → LinkedTo g a a first links 0 0
none_linked g a first links image holds = (image, holds, record { behind = λ page area from. refl; linked = λ file_no pages few may. (tt, refl) })

-- the next page has its records yet
record IsNext (g : Geometry) (image later : List ℕ) (file_no first : ℕ) (links : List Links) (pages : List (List Record)) (n done : ℕ) : Type 0 where
  row_is : Row (home g image) file_no first links pages n
  at : SlotsOf (home g later (first + n)) (page_of file_no row_is.records)
  may : AllMayHave (drop done links) row_is.records
  skip : drop (length (all_of (take n pages))) links ≡ drop done links

next_page : (g : Geometry) (image later : List ℕ) (file_no first : ℕ) (links : List Links) (pages : List (List Record)) (n done : ℕ) → InPageArea g (first + n) → n < length pages → IsLinkedTo g image later first links n done
    → MayBeLinked g image file_no first links pages → IsNext g image later file_no first links pages n done
next_page g image later file_no first links pages n done area within so may =
    let before = so.linked file_no pages (omega arith) may in
    let r = row (home g image) file_no first links pages n within may.are may.records may.may in
    let skip : drop (length (all_of (take n pages))) links ≡ drop done links = ap (λ (k : ℕ). drop k links) (sym before.1) in
    record {
      row_is = r;
      at = subst (λ (t : List ℕ). SlotsOf t (page_of file_no r.records)) (sym (so.behind (first + n) area (omega arith))) r.at;
      may = subst (λ (ls : List Links). AllMayHave ls r.records) skip r.may;
      skip = skip;
    }

pub more_linked : (g : Geometry) (was mid now : Outside) (first n done count : ℕ) (links : List Links) → catalog_no < first → first + n < area_end g → LinkedTo g was mid first links n done → LinksPage g mid now (first + n) (drop done links)
    → CountsRecords g mid (first + n) count → LinkedTo g was now first links (n + 1) (done + count)
more_linked g was mid now first n done count links behind there linked links_page counts image holds =
    let so = linked image holds in
    let next = links_page so.0 so.1 in (
      next.0,
      next.1,
      record {
        behind = λ page area from. next.2.others page (inl area) (λ same. omega (arith, same, from)) ∙ so.2.behind page area (omega (arith, from));
        linked = λ file_no pages few may.
            let before = so.2.linked file_no pages (omega (arith, few)) may in
            let here = next_page g image so.0 file_no first links pages n done (omega (arith, behind), there) (omega (arith, few)) so.2 may in
            let r = here.row_is in
            let count_is : count ≡ length r.records = counts so.0 file_no r.records so.1 here.at in
            let front : ArePagesOn (home g next.0) file_no first (rows_linked links (take n pages)) =
            rows_stay (home g so.0) (home g next.0) file_no first (rows_linked links (take n pages))
            (λ p from below. next.2.others p (inl (omega (arith, behind, from), omega (arith, below, r.count, there))) (λ same. omega (arith, same, below, r.count))) before.0 in
            let all : ArePagesOn (home g next.0) file_no first (rows_linked links (take n pages) ++ records_linked (drop done links) r.records ∷ []) =
            rows_more (home g next.0) file_no first (first + n) (rows_linked links (take n pages)) (records_linked (drop done links) r.records) (omega (arith, r.count)) front (next.2.linked file_no r.records here.at r.are)
            (omega (arith, length_linked (drop done links) r.records here.may, r.some)) in
            let rows : rows_linked links (take (n + 1) pages) ≡ rows_linked links (take n pages) ++ records_linked (drop done links) r.records ∷ [] =
            ap (λ (k : ℕ). rows_linked links (take k pages)) (add-one n) ∙ r.linked ∙ ap (λ (ls : List Links). rows_linked links (take n pages) ++ records_linked ls r.records ∷ []) here.skip in
            let total : length (all_of (take (n + 1) pages)) ≡ length (all_of (take (suc n) pages)) = ap (λ (k : ℕ). length (all_of (take k pages))) (add-one n) in (
              subst (λ (ps : List (List Record)). ArePagesOn (home g next.0) file_no first ps) (sym rows) all,
              omega (arith, before.1, count_is, r.total, total),
            );
      },
    )

pub all_linked : (g : Geometry) (was now : Outside) (first count n done : ℕ) (links : List Links) → n ≡ count → LinkedTo g was now first links n done → LinksPages g was now first count links
all_linked g was now first count n done links end linked image file_no pages holds len may =
    let so = linked image holds in
    let here = so.2.linked file_no pages (omega (arith, end, len)) may in
    (so.0, so.1, subst (λ (ps : List (List Record)). ArePagesOn (home g so.0) file_no first (rows_linked links ps)) (take_all n pages (omega (arith, end, len))) here.0)

pub never_linked : (g : Geometry) (was mid : Outside) (first count n done : ℕ) (links : List Links) → catalog_no < first → first + n < area_end g → n < count → LinkedTo g was mid first links n done → HasNone g mid (first + n) (drop done links)
    → HasNoRows g was first count links
never_linked g was mid first count n done links behind there within linked none image file_no pages holds len may =
    let so = linked image holds in
    let here = next_page g image so.0 file_no first links pages n done (omega (arith, behind), there) (omega (arith, within, len)) so.2 may in
    none so.0 file_no here.row_is.records so.1 here.at here.row_is.are here.may

-- ---- places

pub in_pages : (g : Geometry) (a b : Outside) (first page : ℕ) → InPageArea g page → first ≤ page → ChangesWithin (InUnit g page) a b → ChangesWithin (InPagesFrom g first) a b
in_pages g a b first page area from changes = changes_wider (InUnit g page) (InPagesFrom g first) changes (λ i here. (page, area, from, here))
