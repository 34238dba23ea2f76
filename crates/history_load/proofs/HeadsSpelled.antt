-- The bytes of a head, and those behind it.
use Rattle.std.proofs.Common.{◌≡◌, ◌≤◌, ◌<◌, ◌+◌, ◌*◌, ◌-◌, ◌∙◌, ℕ, zero, suc, List, [], ◌∷◌, ◌++◌, None, drop, sym, ap, arith}
use Rattle.std.specs.List.{AllByRecursion}
use Rattle.std.proofs.lemmas.List.{take-append-drop}
use Rattle.ex_base.specs.Bytes.{IsBytes}
use Rattle.ex_base.specs.Fields.{big_bytes_are_bytes, eight_bytes, field_bytes, four_bytes}
use Rattle.ex_base.specs.Sizes.{leaf_bytes}
use Rattle.ex_base.specs.declared.geometry.Geometry.{Geometry}
use Rattle.history_fronts.specs.Fronts.{IsDumpHead}
use Rattle.history_items.specs.Heads.{stream_head}
use Rattle.history_items.specs.declared.head.Head.{Head}
use Rattle.history_load.specs.Streams.{IsDrawn, StreamRefused, most_behind}
use Rattle.history_load.proofs.Verdicts.{one_head_on}
use Rattle.history_model.specs.Dumps.{IsNoDump}
use Rattle.history_model.specs.Stream.{HasHead, StreamHead, bytes_most, head_bytes, lack_of, misfit_of, stream_magic}
use Rattle.history_reads.specs.declared.heads.HeadFault.TheVariants.{Bad}
use Rattle.history_reads.proofs.Ends.{sizes_same}
use Rattle.history_reads.proofs.Reading.{bytes_both}

-- ---- its bytes

field_is_bytes : (n value : ℕ) → IsBytes (field_bytes n value)
unfolding field_bytes
field_is_bytes n value = big_bytes_are_bytes n value

four_are : (value : ℕ) → IsBytes (four_bytes value)
four_are value = field_is_bytes 4 value

eight_are : (value : ℕ) → IsBytes (eight_bytes value)
eight_are value = field_is_bytes 8 value

each_is_byte : (bytes : List ℕ) → AllByRecursion (λ (b : ℕ). b < 256) bytes → IsBytes bytes
each_is_byte [] are i = omega arith
each_is_byte (b ∷ bytes) are zero = are.0
each_is_byte (b ∷ bytes) are (suc i) = each_is_byte bytes are.1 i

magic_is_bytes : IsBytes stream_magic
magic_is_bytes = each_is_byte stream_magic (omega arith, (omega arith, (omega arith, (omega arith, (omega arith, (omega arith, (omega arith, (omega arith, tt))))))))

pub head_is_bytes : (h : StreamHead) → IsBytes (head_bytes h)
unfolding head_bytes
head_is_bytes h =
    bytes_both stream_magic _ magic_is_bytes (bytes_both (four_bytes h.page_size) _ (four_are h.page_size) (bytes_both (four_bytes h.seg_len) _ (four_are h.seg_len) (bytes_both (four_bytes h.fan) _ (four_are h.fan)
    (bytes_both (eight_bytes h.next_unique) _ (eight_are h.next_unique) (bytes_both (eight_bytes h.last) _ (eight_are h.last) (bytes_both (four_bytes h.files) _ (four_are h.files) (bytes_both (four_bytes h.leaves) _ (four_are h.leaves)
    (bytes_both (four_bytes h.nodes) (four_bytes h.pages) (four_are h.nodes) (four_are h.pages)))))))))

-- ---- a stream that has it

pub head_and_rest : (stream : List ℕ) (h : StreamHead) → HasHead stream h → head_bytes h ++ drop 52 stream ≡ stream
head_and_rest stream h has = ap (λ (front : List ℕ). front ++ drop 52 stream) (sym has.spelled) ∙ take-append-drop 52 stream

module _ (g : Geometry) (stream : List ℕ) (head : Head) (has : HasHead stream (stream_head head)) where
  one : (h : StreamHead) → HasHead stream h → h ≡ stream_head head
  one h is = one_head_on stream h (stream_head head) is has

  -- Of what is behind it no more was taken than may come, with one more.
  pub drawn_behind : (n : ℕ) → misfit_of g (stream_head head) ≡ None → n ≤ most_behind g head → IsDrawn stream (52 + n)
  drawn_behind n sizes few = record {
    headed = λ h is.
        let same = sizes_same g (stream_head head) sizes in
        let own : bytes_most h.page_size (h.seg_len * h.page_size) h ≡ bytes_most head.page_size (head.seg_len * head.page_size) (stream_head head) = ap (λ (k : StreamHead). bytes_most k.page_size (k.seg_len * k.page_size) k) (one h is) in
        let units : bytes_most head.page_size (head.seg_len * head.page_size) (stream_head head) ≡ bytes_most g.page_size (leaf_bytes g) (stream_head head) =
        (λ i. bytes_most (same.0 i) (same.1 i * same.0 i) (stream_head head)) in
        omega (arith, few, own, units);
    headless = λ none. absurd (none (stream_head head) has);
  }

  -- It has room.
  pub head_fits : (room : lack_of (g.pages - 1) g.segs (stream_head head) ≡ None) (h : StreamHead) → HasHead stream h → lack_of (g.pages - 1) g.segs h ≡ None
  head_fits room h is = ap (lack_of (g.pages - 1) g.segs) (one h is) ∙ room

  -- What isn't a dump behind it is refused.
  pub refused_behind : IsDumpHead g (stream_head head) → lack_of (g.pages - 1) g.segs (stream_head head) ≡ None → IsNoDump stream g → StreamRefused g stream Bad
  refused_behind is room none = ((λ h has_too. (ap (misfit_of g) (one h has_too) ∙ is.sizes, head_fits room h has_too)), none)
