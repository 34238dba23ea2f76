-- A stream that was loaded whole, and its end.
use Rattle.std.proofs.Common.{◌≡◌, ◌≤◌, ◌<◌, ◌-◌, ◌∙◌, ℕ, zero, suc, List, [], ◌∷◌, length, refl, sym, ap, subst, arith}
use Rattle.std.specs.List.{AllZip, flat_map}
use Rattle.std.proofs.lemmas.List.{length-append}
use Rattle.std.proofs.lemmas.List.Sorted.{length_permutation}
use Rattle.std.proofs.lemmas.Slice.Zip.{AllZip-long}
use Rattle.ex_base.specs.declared.geometry.Geometry.{Geometry}
use Rattle.history_fronts.specs.declared.turns.Turn.TheVariants.{End as NoTurn}
use Rattle.history_fronts.specs.Fronts.{history_of, turn_of}
use Rattle.history_fronts.specs.Readings.{IsFrontOf}
use Rattle.history_fronts.proofs.Said.{says_of}
use Rattle.history_items.specs.Heads.{stream_head}
use Rattle.history_load.specs.AtHand.{IsReady}
use Rattle.history_load.specs.Loading.{HasFileIf, IsLoadedTo, IsLoader, StandTo, page_behind}
use Rattle.history_load.specs.declared.loader.Loader.{Loader}
use Rattle.history_load.proofs.Pieces.{room_for}
use Rattle.history_model.specs.Dumps.{IsDump, IsFileOf, IsNoDump, IsVersionOf}
use Rattle.history_model.specs.History.{History, HistoryFile, all_versions}
use Rattle.history_model.specs.Stream.{StreamHead}
use Rattle.history_model.proofs.ItemReadings.{one_history}
use Rattle.history_reads.specs.Reads.{IsRead}
use Rattle.history_reads.specs.declared.progress.Progress.{Progress}
use Rattle.history_reads.proofs.Behind.{turn_same}
use Rattle.history_reads.proofs.Ends.{came_of, ends_are_items}
use Rattle.history_reads.proofs.Wholes.{dump_at_end}
use Rattle.history_writes.specs.Files.{IsWritten}
use Rattle.object_files.specs.Edits.{IsCatalogPage, entries_on}
use Rattle.table_model.specs.declared.table.Table.{Table}
use Rattle.table_model.specs.declared.table.TableFile.{TableFile}
use Rattle.table_model.specs.Tables.{all_in, versions_in, versions_of}
use Rattle.version_lists.specs.Versions.{unique_of}
use Rattle.version_lists.proofs.Sorted.{order_permutation}
use Rattle.volume_model.specs.Homes.{home}

-- ---- what its end asks of a loader

-- The volume has room for the leaves and nodes of the head, and the catalog is a page.
pub record CanEnd (g : Geometry) (loader : Loader) : Type 0 where
  pub leaves : loader.progress.head.leaves ≤ g.segs
  pub nodes : loader.progress.head.nodes < g.pages
  pub catalog : IsCatalogPage loader.files.catalog.items
  pub size : length loader.files.catalog.items ≡ g.page_size

ready_if : (g : Geometry) (loader : Loader) (missing : ℕ) → HasFileIf g loader missing → IsReady g loader.files
ready_if g loader zero has = has
ready_if g loader (suc missing) has = has.0.last.ready

pub can_end : (g : Geometry) (loader : Loader) → IsLoader g loader → CanEnd g loader
can_end g loader is =
    let ready = ready_if g loader loader.progress.missing is.of.file in
    let room = room_for (g.pages - 1) g.segs (stream_head loader.progress.head) is.of.room in
    let some = g.some_pages in
    record {
      leaves = room.1;
      nodes = omega (arith, room.0, some);
      catalog = ready.catalog;
      size = ready.catalog_size;
    }

-- ---- what stands on the disk then

-- Where no version of the last file is missing, all that was read stands there.
pub all_stand : (g : Geometry) (image joined : List ℕ) (loader : Loader) (is : IsLoadedTo g image joined loader) → loader.progress.missing ≡ 0 → IsWritten g (home g image) (history_of is.read.front) (entries_on loader.files.catalog.items)
all_stand g image joined loader is none =
    let came = came_of g joined is.read.front loader.gathered.held is.read.to.front in
    let nodes : loader.progress.head.nodes ≡ is.read.front.head.nodes = ap (λ (h : StreamHead). h.nodes) is.read.keeps.head in
    record {
      transcribed = is.pieces;
      first = page_behind loader.progress.head.nodes;
      end = loader.files.next;
      behind = omega (arith, came.few_nodes, nodes);
      files = subst (λ (n : ℕ). StandTo g image (page_behind loader.progress.head.nodes) is.read.front n loader.files) none is.files;
    }

-- ---- a dump

-- Of a dump that was read no version is missing.
pub dump_ended : (g : Geometry) (joined held : List ℕ) (p : Progress) (t : Table) → IsRead g joined p held → IsDump joined g t → p.missing ≡ 0
dump_ended g joined held p t is dump = (says_of (stream_head p.head) p.leaves p.nodes p.files p.missing NoTurn (dump_at_end g joined p held t is dump).turn).2

-- Where one is missing, or it is no dump where none is, it is none.
pub none_ended : (g : Geometry) (joined held : List ℕ) (p : Progress) → IsRead g joined p held → (p.missing ≡ 0 → IsNoDump joined g) → IsNoDump joined g
none_ended g joined held p is bad t dump = bad (dump_ended g joined held p t is dump) t dump

-- The history of a dump is the one that was read.
own_history : (g : Geometry) (joined held : List ℕ) (p : Progress) (t : Table) (is : IsRead g joined p held) (dump : IsDump joined g t) → dump.history ≡ history_of is.front
own_history g joined held p t is dump =
    let at = dump_at_end g joined p held t is dump in
    let end : turn_of is.front ≡ NoTurn = sym (turn_same g is.front p is.keeps) ∙ at.turn in
    let ends = ends_are_items g joined is.front (subst (IsFrontOf g joined is.front) at.none is.to.front) end in
    one_history g dump.history (history_of is.front) dump.of.items ends.0 (sym dump.spelled ∙ ends.1)

versions_in_each : (g : Geometry) (h : History) (files : List HistoryFile) (table : List TableFile) → AllZip (IsFileOf g h) files table → length (flat_map (λ (f : HistoryFile). f.versions) files) ≡ length (flat_map versions_in table)
versions_in_each g h [] [] are = refl
versions_in_each g h [] (t ∷ table) are = absurd are
versions_in_each g h (f ∷ files) [] are = absurd are
versions_in_each g h (f ∷ files) (t ∷ table) are =
    omega (
      arith,
      length-append f.versions (flat_map (λ (k : HistoryFile). k.versions) files),
      length-append (versions_in t) (flat_map versions_in table),
      AllZip-long (IsVersionOf g h) f.versions (all_in t) are.0.versions,
      length_permutation (versions_in t) (all_in t) (order_permutation unique_of (versions_in t)),
      versions_in_each g h files table are.1,
    )

-- As many versions came as its table has.
pub versions_counted : (g : Geometry) (image joined : List ℕ) (loader : Loader) (t : Table) → IsLoadedTo g image joined loader → IsDump joined g t → loader.files.count ≡ length (versions_of t)
versions_counted g image joined loader t is dump =
    let own = own_history g joined loader.gathered.held loader.progress t is.read dump in
    is.count ∙ ap (λ (h : History). length (all_versions h)) (sym own) ∙ versions_in_each g dump.history dump.history.files t.files dump.of.files
