-- The head of a stream, as it is read.
use Rattle.std.proofs.Common.{◌≡◌, ℕ, ◌+◌, ◌≤◌, ◌^◌, List, ◌++◌, length, take, drop, refl, sym, ap, ◌∙◌, arith, append_assoc}
use Rattle.std.proofs.lemmas.List.{append-nil, drop_all, take-append-drop, take_all}
use Rattle.ex_base.specs.Bytes.{IsBytes}
use Rattle.ex_base.specs.Fields.{eight_bytes, four_bytes, number_at}
use Rattle.ex_base.proofs.FieldLaws.{eight_is, four_is}
use Rattle.ex_base.proofs.Places.{number_spelled}
use Rattle.history_model.specs.Stream.{FitsHead, HasHead, StreamHead, head_bytes, stream_magic}

abbrev pub head_read : List ℕ → StreamHead
head_read s = record {
  page_size = number_at 4 s 8;
  seg_len = number_at 4 s 12;
  fan = number_at 4 s 16;
  next_unique = number_at 8 s 20;
  last = number_at 8 s 28;
  files = number_at 4 s 36;
  leaves = number_at 4 s 40;
  nodes = number_at 4 s 44;
  pages = number_at 4 s 48;
}

head_fits : (s : List ℕ) → IsBytes s → FitsHead (head_read s)
head_fits s are = record {
  page_size = four_is.below s 8 are;
  seg_len = four_is.below s 12 are;
  fan = four_is.below s 16 are;
  next_unique = eight_is.below s 20 are;
  last = eight_is.below s 28 are;
  files = four_is.below s 36 are;
  leaves = four_is.below s 40 are;
  nodes = four_is.below s 44 are;
  pages = four_is.below s 48 are;
}

head_spelled : (s : List ℕ) → IsBytes s → length s ≡ 52 → take 8 s ≡ stream_magic → s ≡ head_bytes (head_read s)
unfolding head_bytes
head_spelled s are len magic =
    let four : (at next : ℕ) → at + 4 ≡ next → next ≤ 52 → drop at s ≡ four_bytes (number_at 4 s at) ++ drop next s = λ at next step low. number_spelled 4 (2 ^ 32) four_bytes four_is s at next are step (omega arith) in
    let eight : (at next : ℕ) → at + 8 ≡ next → next ≤ 52 → drop at s ≡ eight_bytes (number_at 8 s at) ++ drop next s = λ at next step low. number_spelled 8 (2 ^ 64) eight_bytes eight_is s at next are step (omega arith) in
    let pages : drop 48 s ≡ four_bytes (number_at 4 s 48) = four 48 52 refl (omega arith) ∙ ap (λ (t : List ℕ). four_bytes (number_at 4 s 48) ++ t) (drop_all 52 s (omega arith)) ∙ append-nil (four_bytes (number_at 4 s 48)) in
    let nodes = four 44 48 refl (omega arith) ∙ ap (λ (t : List ℕ). four_bytes (number_at 4 s 44) ++ t) pages in
    let leaves = four 40 44 refl (omega arith) ∙ ap (λ (t : List ℕ). four_bytes (number_at 4 s 40) ++ t) nodes in
    let files = four 36 40 refl (omega arith) ∙ ap (λ (t : List ℕ). four_bytes (number_at 4 s 36) ++ t) leaves in
    let last = eight 28 36 refl (omega arith) ∙ ap (λ (t : List ℕ). eight_bytes (number_at 8 s 28) ++ t) files in
    let next_unique = eight 20 28 refl (omega arith) ∙ ap (λ (t : List ℕ). eight_bytes (number_at 8 s 20) ++ t) last in
    let fan = four 16 20 refl (omega arith) ∙ ap (λ (t : List ℕ). four_bytes (number_at 4 s 16) ++ t) next_unique in
    let seg_len = four 12 16 refl (omega arith) ∙ ap (λ (t : List ℕ). four_bytes (number_at 4 s 12) ++ t) fan in
    let page_size = four 8 12 refl (omega arith) ∙ ap (λ (t : List ℕ). four_bytes (number_at 4 s 8) ++ t) seg_len in
    sym (take-append-drop 8 s) ∙ ap (λ (t : List ℕ). t ++ drop 8 s) magic ∙ ap (λ (t : List ℕ). stream_magic ++ t) page_size

pub head_found : (s : List ℕ) → IsBytes s → length s ≡ 52 → take 8 s ≡ stream_magic → HasHead s (head_read s)
head_found s are len magic = record { fits = head_fits s are; spelled = take_all 52 s (omega arith) ∙ head_spelled s are len magic }

magic_in : (h : StreamHead) → take 8 (head_bytes h) ≡ stream_magic
unfolding head_bytes
magic_in h = refl

pub magic_of : (s : List ℕ) (h : StreamHead) → length s ≡ 52 → HasHead s h → take 8 s ≡ stream_magic
magic_of s h len has = ap (take 8) (sym (take_all 52 s (omega arith)) ∙ has.spelled) ∙ magic_in h

-- the fields one behind the other
pub head_joined : (h : StreamHead) → stream_magic ++ four_bytes h.page_size ++ four_bytes h.seg_len ++ four_bytes h.fan ++ eight_bytes h.next_unique ++ eight_bytes h.last ++ four_bytes h.files ++ four_bytes h.leaves ++ four_bytes h.nodes ++ four_bytes h.pages ≡ head_bytes h
unfolding head_bytes
head_joined h = simp append_assoc
