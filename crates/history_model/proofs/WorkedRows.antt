-- The worked history, spelled.
use Rattle.std.proofs.Common.{◌≡◌, ℕ, ◌++◌, Some, None, ◌==◌, not, ap, ◌∙◌}
use Rattle.std.specs.Prelude.{if◌then◌else◌, Option}
use Rattle.std.specs.List.{flat_map}
use Rattle.ex_base.specs.declared.geometry.Geometry.{Geometry}
use Rattle.ex_base.specs.Fields.{field_bytes}
use Rattle.history_model.specs.Rows.{base, base_head, base_stream}
use Rattle.history_model.specs.Stream.{StreamHead, file_item, head_bytes, head_of, leaf_item, misfit_of, node_item, stream_of}

head_is : (g : Geometry) → g.page_size ≡ 512 → g.seg_len ≡ 1 → g.fan ≡ 2 → head_of g base ≡ base_head
head_is g page_size seg_len fan = cc (page_size, seg_len, fan)

pub base_spelled : (g : Geometry) → g.page_size ≡ 512 → g.seg_len ≡ 1 → g.fan ≡ 2 → stream_of g base ≡ base_stream
unfolding stream_of head_bytes field_bytes
base_spelled g page_size seg_len fan = ap (λ (head : StreamHead). head_bytes head ++ (flat_map leaf_item base.leaves ++ (flat_map node_item base.nodes ++ flat_map file_item base.files))) (head_is g page_size seg_len fan)

abbrev misfit_at : ℕ → ℕ → ℕ → Option (ℕ × (ℕ × ℕ))
misfit_at page_size seg_len fan =
    if not (512 == page_size) then Some (1, (512, page_size))
    else if not (1 == seg_len) then Some (2, (1, seg_len))
    else if not (2 == fan) then Some (3, (2, fan))
    else None

pub base_refused : (g : Geometry) → g.page_size ≡ 512 → g.seg_len ≡ 1 → g.fan ≡ 3 → misfit_of g base_head ≡ Some (3, (2, 3))
base_refused g page_size seg_len fan =
    ap (λ (n : ℕ). misfit_at n g.seg_len g.fan) page_size ∙ ap (λ (n : ℕ). misfit_at 512 n g.fan) seg_len ∙ ap (λ (n : ℕ). misfit_at 512 1 n) fan
