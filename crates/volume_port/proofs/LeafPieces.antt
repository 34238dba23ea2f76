-- Where the pieces of leaves lie.
use Rattle.std.proofs.Common.{◌≡◌, ◌≤◌, ◌<◌, ◌+◌, ◌*◌, ◌/◌, ◌%◌, ℕ, List, [], length, All, Option, Some, None, IsSome, nat_eq, slice_get, unwrap_or, sym, ap, subst, ◌∙◌, arith}
use Rattle.std.proofs.Math.Nat.{mul-le-mul_right, add-mul, div-lt_iff_lt-mul, mod-add-div}
use Rattle.std.specs.Map.{lookup}
use Rattle.ex_base.specs.declared.geometry.Geometry.{Geometry}
use Rattle.ex_base.specs.Area.{NamesLeaf}
use Rattle.ex_base.specs.Bytes.{part, bytes_at}
use Rattle.ex_base.specs.Sizes.{leaf_bytes, least_page}
use Rattle.disk_model.specs.Outside.{Outside}
use Rattle.buffer_groups.specs.Frames.{Frames, Lends, page_of}
use Rattle.buffer_groups.proofs.FrameLists.{frame_bytes}
use Rattle.buffer_groups.proofs.GroupLists.{at_index}
use Rattle.tree_store.specs.Stored.{unit_bytes}
use Rattle.tree_store.specs.Whole.{leaf_end, leaf_len}
use Rattle.tree_store.proofs.Places.{part_of_part}
use Rattle.volume_port.specs.LeafPieces.{MayHaveFrame, IsPiece, home_bytes, piece_page}
use Rattle.volume_port.specs.Reading.{TellsBytes}

-- ---- pages that may have frames

-- a place of a leaf lies on one of its pages
piece_in : (g : Geometry) (page from n : ℕ) → NamesLeaf g page → from + n ≤ leaf_bytes g → IsPiece g from n → piece_page g page from + 1 ≤ 257 + g.pages + g.segs * g.seg_len
piece_in g page from n leaf range piece =
    let below : from / g.page_size < g.seg_len = (div-lt_iff_lt-mul {k = g.page_size} {x = from} {y = g.seg_len} (omega (arith, least_page g))).1 (omega (arith, range, piece.0)) in
    omega (arith, below, leaf_end g page leaf)

pub piece_may : (g : Geometry) (page from n : ℕ) → NamesLeaf g page → from + n ≤ leaf_bytes g → IsPiece g from n → MayHaveFrame g (piece_page g page from)
piece_may g page from n leaf range piece =
    let h : (piece_page g page from + 1) * g.page_size ≤ (257 + g.pages + g.segs * g.seg_len) * g.page_size = mul-le-mul_right g.page_size (piece_in g page from n leaf range piece) in
    (omega (arith, leaf.2), omega (arith, h))

-- ---- the bytes of a piece

pub piece_bytes : (g : Geometry) (held : Option (List ℕ)) (page from n : ℕ) → NamesLeaf g page → from + n ≤ leaf_bytes g → IsPiece g from n
    → bytes_at (home_bytes g held (piece_page g page from)) (from % g.page_size) n ≡ bytes_at (unit_bytes g held page) from n
piece_bytes g held page from n leaf range piece =
    let d = unwrap_or held [] in
    let place : piece_page g page from * g.page_size + from % g.page_size ≡ page * g.page_size + from = omega (arith, add-mul page (from / g.page_size) g.page_size, mod-add-div from g.page_size) in
    part_of_part d (piece_page g page from * g.page_size) (from % g.page_size) n g.page_size piece.2
    ∙ ap (λ at. part d at n) place
    ∙ sym (part_of_part d (page * g.page_size) from n (leaf_bytes g) range)
    ∙ ap (λ k. bytes_at (part d (page * g.page_size) k) from n) (sym (leaf_len g page leaf))

none_apart : IsSome {T = List ℕ} None → ⊥
none_apart e = cc

-- the frame of a page lends its bytes
pub frame_home : (g : Geometry) (o : Outside) (held : Option (List ℕ)) (groups : List Frames) (index page : ℕ) (got : Frames) (shown : List ℕ) → o.disk ≡ held
    → index < length groups → All (λ (f : Frames). f.page_size ≡ g.page_size) groups
    → slice_get groups index ≡ Some got → lookup (nat_eq page) got.entries ≡ Some shown → TellsBytes o groups → shown ≡ home_bytes g o.disk page
frame_home g o None groups index page got shown there h sizes is found told = absurd (none_apart (subst (λ (x : Option (List ℕ)). IsSome x) there told.0))
frame_home g o (Some b) groups index page got shown there h sizes is found told =
    let size = at_index (λ (x : Frames). x.page_size ≡ g.page_size) groups index got is h sizes in
    let lends = at_index (Lends o.disk) groups index got is h told.1 in
    frame_bytes b got.page_size page got.entries shown (lends b there) found
    ∙ ap (λ n. page_of b n page) size
    ∙ ap (λ (x : Option (List ℕ)). home_bytes g x page) (sym there)
