use Rattle.std.proofs.Common.{ℕ, List, ◌++◌, drop, refl, ap, ◌∙◌}
use Rattle.ex_base.specs.Fields.{eight_bytes, four_bytes}
use Rattle.ex_base.proofs.FieldLaws.{eight_is, four_is}
use Rattle.history_model.specs.Stream.{stream_magic}
use Rattle.history_items.specs.Heads.{stream_head}
use Rattle.history_items.proofs.Heads.{head_joined}
use Rattle.history_items.proofs.WrittenItems.{put_first, put_next}
use Rattle.history_items.proofs.head.Head.write.Goals as goal

pub returns : goal.returns
returns c =
    let was = c.args.out.now in
    let h = c.args.self.now in
    let magic = put_first was c.put_bytes.new.bytes stream_magic 8 c.put_bytes.ensures refl in
    let page_size = put_next was _ c.put_u32.new.bytes (four_bytes h.page_size) _ 8 4 12 magic c.put_u32.ensures (four_is.len h.page_size) refl in
    let seg_len = put_next was _ c.put_u32-2.new.bytes (four_bytes h.seg_len) _ 12 4 16 page_size c.put_u32-2.ensures (four_is.len h.seg_len) refl in
    let fan = put_next was _ c.put_u32-3.new.bytes (four_bytes h.fan) _ 16 4 20 seg_len c.put_u32-3.ensures (four_is.len h.fan) refl in
    let next_unique = put_next was _ c.put_u64.new.bytes (eight_bytes h.next_unique) _ 20 8 28 fan c.put_u64.ensures (eight_is.len h.next_unique) refl in
    let last = put_next was _ c.put_u64-2.new.bytes (eight_bytes h.last) _ 28 8 36 next_unique c.put_u64-2.ensures (eight_is.len h.last) refl in
    let files = put_next was _ c.put_u32-4.new.bytes (four_bytes h.files) _ 36 4 40 last c.put_u32-4.ensures (four_is.len h.files) refl in
    let leaves = put_next was _ c.put_u32-5.new.bytes (four_bytes h.leaves) _ 40 4 44 files c.put_u32-5.ensures (four_is.len h.leaves) refl in
    let nodes = put_next was _ c.put_u32-6.new.bytes (four_bytes h.nodes) _ 44 4 48 leaves c.put_u32-6.ensures (four_is.len h.nodes) refl in
    let pages = put_next was _ c.put_u32-7.new.bytes (four_bytes h.pages) _ 48 4 52 nodes c.put_u32-7.ensures (four_is.len h.pages) refl in
    pages.is ∙ ap (λ (t : List ℕ). t ++ drop 52 was) (head_joined (stream_head h))
