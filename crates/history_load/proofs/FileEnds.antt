-- The end of the file at hand.
use Rattle.std.proofs.Common.{◌≡◌, ◌≤◌, ◌+◌, ℕ, suc, List, [], ◌∷◌, ◌++◌, length, map, Some, None, false, refl, sym, ap, subst, ◌∙◌, arith, inl, inr}
use Rattle.std.specs.Prelude.{Contains, IsTrue}
use Rattle.std.specs.List.{AllByRecursion, list_any}
use Rattle.std.proofs.lemmas.List.{nil_from_length, length-map}
use Rattle.std.proofs.lemmas.Option.{same_Some}
use Rattle.disk_model.specs.Changes.{ChangesWithin, SameBut, changes_wider}
use Rattle.disk_model.specs.Outside.{IsWorld, Outside}
use Rattle.ex_base.specs.declared.geometry.Geometry.{Geometry}
use Rattle.ex_base.specs.Area.{area_end}
use Rattle.ex_base.specs.Order.{AllDiffer}
use Rattle.ex_base.specs.Sizes.{volume_bytes}
use Rattle.object_files.specs.Catalog.{FileEntry, name_of, number_of}
use Rattle.object_files.specs.Edits.{IsCatalogPage, entries_on, indexed, numbers_on}
use Rattle.object_records.specs.Record.{Record}
use Rattle.tree_store.proofs.Taking.{held_whole}
use Rattle.volume_model.specs.Homes.{home}
use Rattle.volume_model.specs.Volume.{Stored}
use Rattle.history_writes.specs.Indexed.{IsIndexed}
use Rattle.history_writes.specs.Linked.{HasNoRows, IsDesk, LinksPages}
use Rattle.history_writes.specs.declared.index.IndexEnd.{IndexEnd}
use Rattle.history_links.specs.declared.PlacedVersion.{PlacedVersion}
use Rattle.history_links.specs.Linked.{NumbersRise, links_of}
use Rattle.history_model.specs.History.{HistoryFile, HistoryVersion}
use Rattle.history_writes.specs.Contents.{placed_from, placed_in}
use Rattle.history_writes.specs.Laid.{AreRowsOf, ArePagesOn, ClosesFile, IsClosed, SameFile, all_of}
use Rattle.history_writes.specs.declared.file_pages.FilePages.{FilePages}
use Rattle.history_writes.proofs.Laying.{pages_stay}
use Rattle.history_writes.specs.Places.{InPagesFrom}
use Rattle.history_writes.specs.Records.{unlinked}
use Rattle.history_writes.proofs.Staying.{unit_stays}
use Rattle.history_load.specs.AtHand.{AreUnlinked, CantEnd, CantLink, EndsFile, EndsWithin, IndexesFile, IsAtHand, IsLastFile, IsReady, IsWholeAtHand, LiesBehind, LinksFile, SameButDesk, StandsAt, file_entry, has_older, pages_filled, pages_linked, versions_placed, with_index}
use Rattle.history_load.specs.declared.files_at_hand.FilesAtHand.{FilesAtHand}
use Rattle.history_load.proofs.Entries.{indexed_last}
use Rattle.history_load.proofs.Plain.{all_may_have, each_row, pages_plain, rows_length}
use Rattle.history_load.proofs.Standing.{IsDone, stands, stands_empty}

-- ---- the last page is written

placed_tail : (first : ℕ) (full : List (List Record)) → placed_in first (full ++ [] ∷ []) ≡ placed_in first full
placed_tail first [] = refl
placed_tail first (records ∷ full) = ap (λ (rest : List Stored). placed_from first 0 records ++ rest) (placed_tail (suc first) full)

placed_closed : (first : ℕ) (pages full : List (List Record)) (last : List Record) → AreRowsOf pages full last → placed_in first (full ++ last ∷ []) ≡ placed_in first pages
placed_closed first pages full last (inl rows) = ap (placed_in first) (sym rows)
placed_closed first pages full last (inr both) = ap (λ (l : List Record). placed_in first (full ++ l ∷ [])) both.1 ∙ placed_tail first full ∙ ap (placed_in first) (sym both.0)

pub unlinked_closed : (g : Geometry) (image later : List ℕ) (old now : FilesAtHand) (versions : List HistoryVersion) (at : IsAtHand g image old versions) (closed : IsClosed (home g later) now.pages (map (unlinked g) versions))
    → AreRowsOf closed.pages at.laid.full at.laid.last → now.versions.items ≡ old.versions.items → now.pages.first ≡ old.pages.first → AreUnlinked g later now versions closed.pages
unlinked_closed g image later old now versions at closed rows same first = record {
  count = closed.count;
  records = at.records;
  all = closed.records_are;
  placed = same ∙ at.placed ∙ ap (versions_placed versions) (placed_closed old.pages.first closed.pages at.laid.full at.laid.last rows ∙ ap (λ (n : ℕ). placed_in n closed.pages) (sym first));
  are = closed.are;
}

-- ---- its records get their links

pub linked_by : (g : Geometry) (a b : Outside) (files : FilesAtHand) → LinksPages g a b files.pages.first files.pages.written (map (links_of files.versions.items) files.versions.items) → LinksFile g a b files
linked_by g a b files links image versions pages holds un =
    links image files.pages.file_no pages holds (sym un.count)
    (record { are = un.are; records = each_row g versions pages un.all un.records; may = all_may_have g files.versions.items versions files.pages.first pages un.all un.placed })

pub cant_link : (g : Geometry) (a : Outside) (files : FilesAtHand) → HasNoRows g a files.pages.first files.pages.written (map (links_of files.versions.items) files.versions.items) → CantLink g a files
cant_link g a files none image versions pages holds un =
    none image files.pages.file_no pages holds (sym un.count)
    (record { are = un.are; records = each_row g versions pages un.all un.records; may = all_may_have g files.versions.items versions files.pages.first pages un.all un.placed })

pub linked_plain : (g : Geometry) (a : Outside) (files : FilesAtHand) → list_any has_older files.versions.items ≡ false → LinksFile g a a files
linked_plain g a files none image versions pages holds un =
    (image, holds, subst (λ (ps : List (List Record)). ArePagesOn (home g image) files.pages.file_no files.pages.first ps) (sym (pages_plain g files.versions.items versions files.pages.first pages un.all un.placed none)) un.are)

-- ---- it stands

-- with other pages
abbrev pub with_pages : FilesAtHand → FilePages → FilesAtHand
with_pages files pages = record files { pages = pages }

-- The file at hand is closed, and its pages are these.
record IsClosedAs (g : Geometry) (a b : Outside) (old : FilesAtHand) (pages : FilePages) (f : HistoryFile) : Type 0 where
  image : List ℕ
  holds : b.disk ≡ Some image
  rows : List (List Record)
  un : AreUnlinked g image (with_pages old pages) f.versions rows

closed_as : (g : Geometry) (a b : Outside) (old : FilesAtHand) (pages : FilePages) (image : List ℕ) (f : HistoryFile) (entries : List FileEntry) → ClosesFile g a b old.pages pages → SameFile old.pages pages → a.disk ≡ Some image → IsWholeAtHand g image old f entries → IsClosedAs g a b old pages f
closed_as g a b old pages image f entries closes file holds whole =
    let close = closes image (map (unlinked g) f.versions) holds whole.at_hand.laid in
    record {
      image = close.0;
      holds = close.1;
      rows = close.2.pages;
      un = unlinked_closed g image close.0 old (with_pages old pages) f.versions whole.at_hand close.2 close.3 refl file.first;
    }

pub cant_end : (g : Geometry) (a b : Outside) (old : FilesAtHand) (pages : FilePages) → ClosesFile g a b old.pages pages → SameFile old.pages pages → CantLink g b (with_pages old pages) → CantEnd g a old
cant_end g a b old pages closes file cant image f entries honest holds whole =
    let closed = closed_as g a b old pages image f entries closes file holds whole in
    cant closed.image f.versions closed.rows closed.holds closed.un

pub ends_empty : (g : Geometry) (a b : Outside) (old : FilesAtHand) (pages : FilePages) → ClosesFile g a b old.pages pages → SameFile old.pages pages → pages.written ≡ 0 → EndsFile g a b old (with_pages old pages)
ends_empty g a b old pages closes file none image f entries honest holds whole =
    let closed = closed_as g a b old pages image f entries closes file holds whole in
    let no_rows : closed.rows ≡ [] = nil_from_length closed.rows (sym closed.un.count ∙ none) in
    let long : length (map (unlinked g) f.versions) ≡ length (all_of closed.rows) = ap (λ (rs : List Record). length rs) closed.un.all in
    let nothing : length (all_of closed.rows) ≡ 0 = ap (λ (rows : List (List Record)). length (all_of rows)) no_rows in
    let no_versions : f.versions ≡ [] = nil_from_length f.versions (omega (arith, length-map f.versions (unlinked g))) in (
      closed.image,
      closed.holds,
      record { level = 0; root = None; catalog = whole.catalog; stands = stands_empty g closed.image f old.pages.file_no old.next old.next no_versions },
    )

pub ends_file : (g : Geometry) (a b c d : Outside) (old linked new : FilesAtHand) (pages : FilePages) → IsWorld c → volume_bytes g ≤ c.size → (IsTrue a.honest → IsTrue c.honest) → ClosesFile g a b old.pages pages → SameFile old.pages pages
    → old.pages.first ≡ old.next → 257 ≤ pages.first → pages.first + pages.written ≤ area_end g → LinksFile g b c (with_pages old pages) → SameButDesk (with_pages old pages) linked → IndexesFile g c d linked new
    → ChangesWithin (InPagesFrom g (linked.pages.first + linked.pages.written)) c d → AllByRecursion LiesBehind old.versions.items → AllDiffer (map number_of (entries_on old.catalog.items)) → EndsFile g a d old new
ends_file g a b c d old linked new pages world large on closes file first behind there links same indexes changes lie differ image f entries honest holds whole =
    let closed = closed_as g a b old pages image f entries closes file holds whole in
    let link = links closed.image f.versions closed.rows closed.holds closed.un in
    let index = indexes.told link.0 link.1 in
    let change = changes.disk (on honest) link.0 link.1 in
    let is : change.0 ≡ index.0 = same_Some change.0 index.0 (sym change.1 ∙ index.1) in
    let but : SameBut (InPagesFrom g (linked.pages.first + linked.pages.written)) link.0 index.0 = subst (SameBut (InPagesFrom g (linked.pages.first + linked.pages.written)) link.0) is change.2 in
    let end : IndexEnd = index.2 in
    let first_is : linked.pages.first ≡ pages.first = ap (λ (p : FilePages). p.first) same.pages in
    let written_is : linked.pages.written ≡ pages.written = ap (λ (p : FilePages). p.written) same.pages in
    let size : volume_bytes g ≤ length link.0 = omega (arith, large, held_whole c world link.0 link.1) in
    let count : length (pages_linked old.versions.items closed.rows) ≡ pages.written = rows_length (map (links_of old.versions.items) old.versions.items) closed.rows ∙ sym closed.un.count in
    let stay : ArePagesOn (home g index.0) pages.file_no pages.first (pages_linked old.versions.items closed.rows) =
    pages_stay (home g link.0) (home g index.0) pages.file_no pages.first (pages_linked old.versions.items closed.rows)
    (λ p from before. unit_stays g (linked.pages.first + linked.pages.written) p link.0 index.0 (inl (omega (arith, behind, from), omega (arith, before, there, count))) (λ page area later e. omega (arith, e, later, before, count, first_is, written_is)) size but) link.2 in
    let index_is : IsIndexed g index.0 pages.file_no pages.first (length closed.rows) end =
    subst (λ (n : ℕ). IsIndexed g index.0 pages.file_no pages.first n end) closed.un.count (subst (λ (p : FilePages). IsIndexed g index.0 p.file_no p.first p.written end) same.pages index.3.index) in
    let done : IsDone g index.0 old.versions.items f pages.file_no pages.first closed.rows end =
    record { bodies = closed.un.all; placed = closed.un.placed; rising = whole.rising; olders = whole.olders; records = closed.un.records; lie = lie; are = stay; index = index_is } in
    let stands_there = stands g index.0 old.versions.items f pages.file_no pages.first closed.rows end done in
    let here : StandsAt g (home g index.0) old.next new.next f (file_entry f.name old.pages.file_no end.level (Some end.root)) =
    subst (λ (n : ℕ). StandsAt g (home g index.0) old.next n f (file_entry f.name old.pages.file_no end.level (Some end.root))) (sym index.3.next)
    (subst (λ (n : ℕ). StandsAt g (home g index.0) n end.next f (file_entry f.name old.pages.file_no end.level (Some end.root))) (file.first ∙ first)
    (subst (λ (n : ℕ). StandsAt g (home g index.0) pages.first end.next f (file_entry f.name n end.level (Some end.root))) file.file_no stands_there)) in
    let catalog : entries_on new.catalog.items ≡ entries ++ file_entry f.name old.pages.file_no end.level (Some end.root) ∷ [] =
    index.3.catalog
    ∙ ap (λ (p : FilePages). map (indexed p.file_no end.level (Some end.root)) (entries_on linked.catalog.items)) same.pages
    ∙ ap (λ (page : List ℕ). map (indexed pages.file_no end.level (Some end.root)) (entries_on page)) same.catalog
    ∙ ap (λ (n : ℕ). map (indexed n end.level (Some end.root)) (entries_on old.catalog.items)) file.file_no
    ∙ ap (λ (es : List FileEntry). map (indexed old.pages.file_no end.level (Some end.root)) es) whole.catalog
    ∙ indexed_last entries f.name old.pages.file_no end.level (Some end.root) (subst (λ (es : List FileEntry). AllDiffer (map number_of es)) whole.catalog differ) in (
      index.0,
      index.1,
      record { level = end.level; root = Some end.root; catalog = catalog; stands = here },
    )

-- ---- what is kept on the way

same_ready : (g : Geometry) (old new : FilesAtHand) → IsReady g old → SameButDesk old new → IsDesk g new.desk → IsReady g new
same_ready g old new ready same desk = record {
  catalog = subst (λ (page : List ℕ). IsCatalogPage page) (sym same.catalog) ready.catalog;
  catalog_size = ap (λ (page : List ℕ). length page) same.catalog ∙ ready.catalog_size;
  page_size = ap (λ (p : FilePages). length p.page.items) same.pages ∙ ready.page_size;
  behind = omega (arith, ready.behind, same.next);
  desk = desk;
}

pub same_last : (g : Geometry) (old new : FilesAtHand) → IsLastFile g old → SameButDesk old new → IsDesk g new.desk → IsLastFile g new
same_last g old new last same desk = record {
  ready = same_ready g old new last.ready same desk;
  number = subst (λ (page : List ℕ). Contains (numbers_on page) new.pages.file_no) (sym same.catalog) (subst (λ (p : FilePages). Contains (numbers_on old.catalog.items) p.file_no) (sym same.pages) last.number);
  first = ap (λ (p : FilePages). p.first) same.pages ∙ last.first ∙ sym same.next;
  rising = subst (λ (vs : List PlacedVersion). NumbersRise vs) (sym same.versions) last.rising;
  places = subst (λ (vs : List PlacedVersion). AllByRecursion LiesBehind vs) (sym same.versions) last.places;
}

pub closed_last : (g : Geometry) (old : FilesAtHand) (pages : FilePages) → IsLastFile g old → SameFile old.pages pages → IsLastFile g (with_pages old pages)
closed_last g old pages last file = record {
  ready = record { catalog = last.ready.catalog; catalog_size = last.ready.catalog_size; page_size = file.size ∙ last.ready.page_size; behind = last.ready.behind; desk = last.ready.desk };
  number = subst (λ (n : ℕ). Contains (numbers_on old.catalog.items) n) (sym file.file_no) last.number;
  first = file.first ∙ last.first;
  rising = last.rising;
  places = last.places;
}

-- the end of a file takes no more than was counted
pub ends_within : (g : Geometry) (c d : Outside) (old linked new : FilesAtHand) (pages : FilePages) → pages.first ≡ old.next → pages.written ≡ pages_filled old → SameButDesk (with_pages old pages) linked → IndexesFile g c d linked new → EndsWithin old new
ends_within g c d old linked new pages first written same index =
    let at : linked.pages.first ≡ pages.first = ap (λ (p : FilePages). p.first) same.pages in
    let count : linked.pages.written ≡ pages.written = ap (λ (p : FilePages). p.written) same.pages in
    let full : linked.pages.written ≡ pages_filled old = count ∙ written in
    let few : new.next ≤ linked.pages.first + with_index (pages_filled old) = subst (λ (n : ℕ). new.next ≤ linked.pages.first + with_index n) full index.few in
    record {
      behind = omega (arith, index.behind, at, first);
      few = subst (λ (n : ℕ). new.next ≤ n + with_index (pages_filled old)) (at ∙ first) few;
      names = index.names ∙ ap (λ (page : List ℕ). map name_of (entries_on page)) same.catalog;
      count = index.count ∙ same.count;
    }

-- ---- which pages are written

pub pages_from : (g : Geometry) (a b : Outside) (low high : ℕ) → low ≤ high → ChangesWithin (InPagesFrom g high) a b → ChangesWithin (InPagesFrom g low) a b
pages_from g a b low high le changes = changes_wider (InPagesFrom g high) (InPagesFrom g low) changes (λ i r. (r.0, r.1, omega (arith, le, r.2), r.3))
