-- Where a dump was written, a walk finds all of it.
use Rattle.std.proofs.Common.{◌≡◌, ◌≤◌, ◌<◌, inl, inr, ℕ, List, ◌∷◌, length, sym, subst, ap, ◌∙◌, arith}
use Rattle.std.specs.Prelude.{Contains}
use Rattle.ex_base.specs.declared.geometry.Geometry.{Geometry}
use Rattle.ex_base.specs.Area.{NamesLeaf, catalog_no}
use Rattle.file_index.specs.Index.{IsFilesPage}
use Rattle.object_files.specs.Catalog.{Catalog}
use Rattle.table_model.specs.declared.table.Table.{Table}
use Rattle.trees.proofs.Owned.{page_no_leaf}
use Rattle.version_lists.proofs.Lists.{Has, contains_has}
use Rattle.volume_model.specs.Homes.{home}
use Rattle.volume_model.specs.Volume.{Volume, file_pages}
use Rattle.volume_model.proofs.FilePages.{file_pages_are}
use Rattle.volume_model.proofs.Places.{each_has}
use Rattle.restart.specs.Content.{volume_of}
use Rattle.history_model.specs.Dumps.{IsDump, IsHistoryOf}
use Rattle.history_model.specs.History.{History}
use Rattle.history_model.specs.Stream.{StreamHead}
use Rattle.history_model.specs.Trees.{LeafPiece, NodePiece, Piece}
use Rattle.history_model.proofs.ItemReadings.{one_history}
use Rattle.history_volumes.specs.Transcribed.{piece_place}
use Rattle.history_volumes.proofs.Numbers.{numbered_from, numbered_within}
use Rattle.history_load.specs.Pieces.{IsPieceOf}
use Rattle.history_load.specs.Written.{AreWellPlaced, HoldsPieces, IsWrittenAt}
use Rattle.history_load.proofs.DumpHolds.{holds}
use Rattle.history_writes.specs.Files.{IsWritten}
use Rattle.history_writes.specs.Places.{leaf_place, node_place}
use Rattle.history_load.specs.Reached.{IsWalked}
use Rattle.history_load.specs.Whole.{IsStreamOf}
use Rattle.history_load.proofs.PiecesApart.{pieces_apart}

module _ (g : Geometry) (image joined : List ℕ) (head : StreamHead) (h : History) (c : Catalog) (read : IsStreamOf g joined head h) (written : IsWritten g (home g image) h c.entries) where
  abbrev v : Volume
  v = volume_of c written.files.contents

  written_at : IsWrittenAt g (home g image) h c.entries (leaf_place g) node_place
  written_at = record {
    transcribed = written.transcribed;
    apart = pieces_apart g h (home g image) written.transcribed;
    contents = written.files.contents;
    indexes = written.files.indexes;
    pages = written.files.pages;
    records = written.files.records;
    on = written.files.on;
  }

  -- ---- no leaf or node lies at a page of a file

  leaf_off : (unit : ℕ) → NamesLeaf g unit → Has (catalog_no ∷ file_pages v) unit → ⊥
  leaf_off unit leaf (inl is) = let some = g.some_pages in page_no_leaf g unit (omega (arith, is), omega (arith, is, some)) leaf
  leaf_off unit leaf (inr more) = page_no_leaf g unit (each_has (IsFilesPage g) (file_pages v) (file_pages_are g (home g image) v written.files.indexes) unit more).0 leaf

  node_off : (i : ℕ) → 1 ≤ i → i ≤ length h.nodes → Has (catalog_no ∷ file_pages v) (node_place i) → ⊥
  node_off i some most (inl is) = absurd (omega (arith, is, some))
  node_off i some most (inr more) =
      let placed = each_has (λ (page : ℕ). (written.first ≤ page) × (page < written.end)) (file_pages v) written.files.placed (node_place i) more in
      absurd (omega (arith, placed.0, written.behind, most))

  off : (piece : Piece) → IsPieceOf h piece → ¬ Contains (catalog_no ∷ file_pages v) (piece_place (leaf_place g) node_place piece)
  off (LeafPiece i) is there = leaf_off (leaf_place g i) (written.transcribed.leaves i is.0 is.1).area (contains_has (catalog_no ∷ file_pages v) (leaf_place g i) there)
  off (NodePiece i) is there = let within = numbered_within h.nodes i is.0 is.1 in node_off i within.0 within.1 (contains_has (catalog_no ∷ file_pages v) (node_place i) there)

  well : AreWellPlaced h written.files.contents (leaf_place g) node_place
  well = record { older = written.files.older; newer = written.files.newer; differ = written.files.differ; off = off }

  -- ---- all of it is found

  all_found : HoldsPieces g (home g image) c h (leaf_place g) node_place → IsWalked g (home g image) c head.leaves head.nodes
  all_found found = record {
    files = found.files;
    holds = found.holds;
    leaves_in = λ i some most. found.reached (LeafPiece i) (numbered_from h.leaves i some (subst (λ (n : ℕ). i ≤ n) (ap (λ (x : StreamHead). x.leaves) (sym read.head_is)) most));
    nodes_in = λ i some most. found.reached (NodePiece i) (numbered_from h.nodes i some (subst (λ (n : ℕ). i ≤ n) (ap (λ (x : StreamHead). x.nodes) (sym read.head_is)) most));
  }

  -- the history of a dump is the one that was read
  own_history : (t : Table) → IsDump joined g t → IsHistoryOf g h t
  own_history t dump = subst (λ (k : History). IsHistoryOf g k t) (one_history g dump.history h dump.of.items read.items (sym dump.spelled ∙ read.spelled)) dump.of

  pub dump_walked : (t : Table) → c.next_unique ≡ head.next_unique → IsDump joined g t → IsWalked g (home g image) c head.leaves head.nodes
  unfolding written_at
  dump_walked t next dump =
      all_found (holds g h t (home g image) c (leaf_place g) node_place (own_history t dump) written_at well (ap (λ (x : StreamHead). x.next_unique) read.head_is ∙ sym next))
