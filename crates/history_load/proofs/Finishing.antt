-- What was written, read whole and walked over loads.
use Rattle.std.proofs.Common.{◌≡◌, ◌≤◌, ℕ, List, length, refl, sym, subst, ap, ◌∙◌}
use Rattle.std.specs.Prelude.{Contains}
use Rattle.ex_base.specs.declared.geometry.Geometry.{Geometry}
use Rattle.ex_base.specs.Sizes.{volume_bytes}
use Rattle.object_files.specs.Catalog.{Catalog, CatalogOf, FileEntry}
use Rattle.volume_model.specs.Homes.{home}
use Rattle.restart.specs.Content.{volume_of}
use Rattle.history_load.specs.Loads.{LoadsAs}
use Rattle.history_model.specs.History.{History}
use Rattle.history_model.specs.Stream.{StreamHead}
use Rattle.history_model.specs.Trees.{LeafPiece, NodePiece, Piece}
use Rattle.history_volumes.specs.Transcribed.{piece_place}
use Rattle.history_volumes.proofs.Numbers.{numbered_within}
use Rattle.history_load.specs.Pieces.{IsPieceOf}
use Rattle.history_load.specs.Placed.{tree_units}
use Rattle.history_load.specs.Written.{IsWrittenAt}
use Rattle.history_load.proofs.WrittenVolumes.{loads}
use Rattle.history_writes.specs.Files.{IsWritten}
use Rattle.history_writes.specs.Places.{leaf_place, node_place}
use Rattle.history_load.specs.Reached.{IsWalked}
use Rattle.history_load.specs.Whole.{IsStreamOf}
use Rattle.history_load.proofs.PiecesApart.{pieces_apart}

module _ (g : Geometry) (image joined page : List ℕ) (head : StreamHead) (h : History) (entries : List FileEntry) (c : Catalog) (read : IsStreamOf g joined head h) (written : IsWritten g (home g image) h entries) where
  written_at : c.entries ≡ entries → IsWrittenAt g (home g image) h c.entries (leaf_place g) node_place
  written_at same = subst (λ (es : List FileEntry). IsWrittenAt g (home g image) h es (leaf_place g) node_place) (sym same) (record {
    transcribed = written.transcribed;
    apart = pieces_apart g h (home g image) written.transcribed;
    contents = written.files.contents;
    indexes = written.files.indexes;
    pages = written.files.pages;
    records = written.files.records;
    on = written.files.on;
  })

  module _ (walked : IsWalked g (home g image) c head.leaves head.nodes) where
    reached : (piece : Piece) → IsPieceOf h piece → Contains (tree_units (home g image) (volume_of c walked.files)) (piece_place (leaf_place g) node_place piece)
    reached (LeafPiece i) is =
        let within = numbered_within h.leaves i is.0 is.1 in
        walked.leaves_in i within.0 (subst (λ (n : ℕ). i ≤ n) (ap (λ (x : StreamHead). x.leaves) read.head_is) within.1)
    reached (NodePiece i) is =
        let within = numbered_within h.nodes i is.0 is.1 in
        walked.nodes_in i within.0 (subst (λ (n : ℕ). i ≤ n) (ap (λ (x : StreamHead). x.nodes) read.head_is) within.1)

    pub loaded : volume_bytes g ≤ length image → CatalogOf page c → length page ≡ g.page_size → c.entries ≡ entries → c.next_unique ≡ head.next_unique → c.last ≡ head.last → LoadsAs g image joined page head.last head.leaves
    loaded large catalog size same next last =
        let next_is : h.next_unique ≡ c.next_unique = ap (λ (x : StreamHead). x.next_unique) read.head_is ∙ sym next in
        let last_is : h.last ≡ c.last = ap (λ (x : StreamHead). x.last) read.head_is ∙ sym last in
        subst (LoadsAs g image joined page head.last) (ap (λ (x : StreamHead). x.leaves) read.head_is) (subst (λ (n : ℕ). LoadsAs g image joined page n (length h.leaves)) last
        (subst (λ (stream : List ℕ). LoadsAs g image stream page c.last (length h.leaves)) (sym read.spelled)
        (loads g image page c h (leaf_place g) node_place large catalog size next_is last_is read.items read.lengths read.pages (written_at same)
        (record { files = walked.files; holds = walked.holds; reached = reached }) (λ i lt. refl))))
