-- Bytes that are replaced, and a directory while it is written.
use Rattle.std.proofs.Common.{◌≡◌, ℕ, zero, suc, ◌+◌, ◌-◌, ◌*◌, ◌≤◌, List, [], ◌∷◌, ◌++◌, length, take, drop, refl, sym, ap, ◌∙◌, arith, append_assoc}
use Rattle.std.proofs.lemmas.List.{append-nil, length-append, length-take, length-drop, length-replicate, take-take, take_at, drop_at, drop-drop, take-append-le, drop-append-le, take-append-drop}
use Rattle.ex_base.specs.Bytes.{bytes_at, written}
use Rattle.ex_base.specs.Fields.{two_bytes, zeros, number_at}
use Rattle.ex_base.proofs.FieldLaws.{two_is, number_at-drop}
use Rattle.ex_base.proofs.Places.{written_next}
use Rattle.ex_base.proofs.Splices.{length-written, take-written, drop-written, drop-written-at}
use Rattle.slotted_pages.specs.Reads.{added, read_lens}
use Rattle.slotted_pages.specs.Edits.{begin_read, len_field, directory_of}
use Rattle.slotted_pages.proofs.LoopLaws.{lens_more, sum_more}

-- a bytes_at in front of m
pub part_front : (a b : List ℕ) (m at n : ℕ) → take m a ≡ take m b → at + n ≤ m → m ≤ length a → m ≤ length b → bytes_at a at n ≡ bytes_at b at n
part_front a b m at n e le la lb =
    one a la ∙ ap (λ (t : List ℕ). take n (drop at t)) e ∙ sym (one b lb)
  where
    one : (x : List ℕ) → m ≤ length x → bytes_at x at n ≡ take n (drop at (take m x))
    one x l =
        let len : length (take m x) ≡ m = omega (arith, length-take m x) in
        let here : drop at x ≡ drop at (take m x) ++ drop m x = ap (drop at) (sym (take-append-drop m x)) ∙ drop-append-le at (take m x) (drop m x) (omega arith) in
        ap (take n) here ∙ take-append-le n (drop at (take m x)) (drop m x) (omega (arith, length-drop at (take m x)))

number_of_part : (x : List ℕ) (at : ℕ) → number_at 2 x at ≡ number_at 2 (bytes_at x at 2) 0
unfolding number_at
number_of_part x at = rw (take-take 2 2 (drop at x) (omega arith)) refl

pub number_front : (a b : List ℕ) (m at : ℕ) → take m a ≡ take m b → at + 2 ≤ m → m ≤ length a → m ≤ length b → number_at 2 a at ≡ number_at 2 b at
number_front a b m at e le la lb = number_of_part a at ∙ ap (λ (t : List ℕ). number_at 2 t 0) (part_front a b m at 2 e le la lb) ∙ sym (number_of_part b at)

pub number_behind : (a b : List ℕ) (m at : ℕ) → drop m a ≡ drop m b → m ≤ at → number_at 2 a at ≡ number_at 2 b at
number_behind a b m at e le =
    let count : m + (at - m) ≡ at = omega arith in
    one a count ∙ ap (λ (t : List ℕ). number_at 2 (drop (at - m) t) 0) e ∙ sym (one b count)
  where
    one : (x : List ℕ) → m + (at - m) ≡ at → number_at 2 x at ≡ number_at 2 (drop (at - m) (drop m x)) 0
    one x count = number_at-drop 2 x at ∙ ap (λ (t : List ℕ). number_at 2 t 0) (ap (λ (k : ℕ). drop k x) (sym count) ∙ sym (drop-drop (at - m) m x))

-- ---- one field, and the directory

pub length-len_field : (at len : ℕ) → length (len_field at len) ≡ 4
length-len_field at len = omega (arith, length-append (two_bytes (begin_read at len)) (two_bytes len), two_is.len (begin_read at len), two_is.len len)

pub begin_none : (at len : ℕ) → len ≡ 0 → 0 ≡ begin_read at len
begin_none at len e = ap (begin_read at) (sym e)

pub begin_some : (at len : ℕ) → (len ≡ 0 → ⊥) → at ≡ begin_read at len
begin_some at zero some = absurd (some refl)
begin_some at (suc len) some = refl

directory_more : (at len : ℕ) (lens : List ℕ) → directory_of at (lens ++ len ∷ []) ≡ len_field (at + added lens) len ++ directory_of at lens
directory_more at len [] = ap (λ (k : ℕ). len_field k len) (let e : at ≡ at + 0 = omega arith in e) ∙ sym (append-nil (len_field (at + 0) len))
directory_more at len (l ∷ lens) =
    ap (λ (t : List ℕ). t ++ len_field at l) (directory_more (at + l) len lens) ∙ append_assoc (len_field (at + l + added lens) len) (directory_of (at + l) lens) (len_field at l)
    ∙ ap (λ (k : ℕ). len_field k len ++ (directory_of (at + l) lens ++ len_field at l)) (let e : at + l + added lens ≡ at + (l + added lens) = omega arith in e)

pub length-directory_of : (at : ℕ) (lens : List ℕ) → length (directory_of at lens) ≡ 4 * length lens
length-directory_of at [] = refl
length-directory_of at (l ∷ lens) = omega (arith, length-append (directory_of (at + l) lens) (len_field at l), length-directory_of (at + l) lens, length-len_field at l)

pub length-lens : (page : List ℕ) (n end : ℕ) → length (read_lens page n end) ≡ n
length-lens page zero end = refl
length-lens page (suc n) end = ap suc (length-lens page n (end - 4))

pub added_le : (page : List ℕ) (i n end : ℕ) → i ≤ n → added (read_lens page i end) ≤ added (read_lens page n end)
added_le page zero n end le = omega arith
added_le page (suc i) zero end le = absurd (omega arith)
added_le page (suc i) (suc n) end le = omega (arith, added_le page i n (end - 4) (omega arith))

-- the page while the directory is written
pub record Written (page : List ℕ) (i at : ℕ) (image : List ℕ) : Type 0 where
  pub bytes : image ≡ take (length page - 4 * i) page ++ directory_of 16 (read_lens page i (length page))
  pub begins : at ≡ 16 + added (read_lens page i (length page))

pub same_length : (page : List ℕ) (i at : ℕ) (image : List ℕ) → 4 * i ≤ length page → Written page i at image → length image ≡ length page
same_length page i at image room h =
    omega (arith, ap length h.bytes, length-append (take (length page - 4 * i) page) (directory_of 16 (read_lens page i (length page))), length-take (length page - 4 * i) page, length-directory_of 16 (read_lens page i (length page)), length-lens page i (length page))

front_is : (page : List ℕ) (i at : ℕ) (image : List ℕ) → 4 * i ≤ length page → Written page i at image → take (length page - 4 * i) image ≡ take (length page - 4 * i) page
front_is page i at image room h =
    ap (take (length page - 4 * i)) h.bytes ∙ take_at (take (length page - 4 * i) page) (directory_of 16 (read_lens page i (length page))) (length page - 4 * i) (omega (arith, length-take (length page - 4 * i) page))

pub same_len : (page : List ℕ) (i at : ℕ) (image : List ℕ) → 4 * (i + 1) ≤ length page → Written page i at image → number_at 2 image (length image - 4 * (i + 1) + 2) ≡ number_at 2 page (length page - 4 * (i + 1) + 2)
same_len page i at image room h =
    let size : length image ≡ length page = same_length page i at image (omega arith) h in
    ap (λ (k : ℕ). number_at 2 image (k - 4 * (i + 1) + 2)) size
    ∙ number_front image page (length page - 4 * i) (length page - 4 * (i + 1) + 2) (front_is page i at image (omega arith) h) (omega arith) (omega (arith, size)) (omega arith)

pub written_more : (page : List ℕ) (i at len : ℕ) (image next : List ℕ) → 4 * (i + 1) ≤ length page → Written page i at image → len ≡ number_at 2 image (length image - 4 * (i + 1) + 2) → next ≡ written image (length image - 4 * (i + 1)) (len_field at len) → Written page (i + 1) (at + len) next
written_more page i at len image next room h is e =
    let size : length image ≡ length page = same_length page i at image (omega arith) h in
    let number : len ≡ number_at 2 page (length page - 4 * (i + 1) + 2) = is ∙ same_len page i at image room h in
    let field : ℕ = length page - 4 * (i + 1) in
    let lens : read_lens page (i + 1) (length page) ≡ read_lens page i (length page) ++ len ∷ [] = lens_more page i (length page) ∙ ap (λ (k : ℕ). read_lens page i (length page) ++ k ∷ []) (sym number) in
    let over : next ≡ written image (length page - 4 * (i + 1)) (len_field at len) = e ∙ ap (λ (k : ℕ). written image (k - 4 * (i + 1)) (len_field at len)) size in
    let front : take (length page - 4 * (i + 1)) image ≡ take (length page - 4 * (i + 1)) page =
    sym (take-take (length page - 4 * (i + 1)) (length page - 4 * i) image (omega arith)) ∙ ap (take (length page - 4 * (i + 1))) (front_is page i at image (omega arith) h) ∙ take-take (length page - 4 * (i + 1)) (length page - 4 * i) page (omega arith) in
    let place : length page - 4 * (i + 1) + length (len_field at len) ≡ length page - 4 * i = omega (arith, length-len_field at len) in
    let rest : drop (length page - 4 * (i + 1) + length (len_field at len)) image ≡ directory_of 16 (read_lens page i (length page)) =
    ap (λ (k : ℕ). drop k image) place ∙ ap (drop (length page - 4 * i)) h.bytes ∙ drop_at (take (length page - 4 * i) page) (directory_of 16 (read_lens page i (length page))) (length page - 4 * i) (omega (arith, length-take (length page - 4 * i) page)) in
    let more : directory_of 16 (read_lens page (i + 1) (length page)) ≡ len_field at len ++ directory_of 16 (read_lens page i (length page)) =
    ap (directory_of 16) lens ∙ directory_more 16 len (read_lens page i (length page)) ∙ ap (λ (k : ℕ). len_field k len ++ directory_of 16 (read_lens page i (length page))) (sym h.begins) in
    record {
      bytes = over ∙ ap (λ (t : List ℕ). t ++ len_field at len ++ drop (length page - 4 * (i + 1) + length (len_field at len)) image) front
          ∙ ap (λ (t : List ℕ). take (length page - 4 * (i + 1)) page ++ len_field at len ++ t) rest
          ∙ append_assoc (take (length page - 4 * (i + 1)) page) (len_field at len) (directory_of 16 (read_lens page i (length page)))
          ∙ ap (λ (t : List ℕ). take (length page - 4 * (i + 1)) page ++ t) (sym more);
      begins = omega (arith, h.begins, number, sum_more page i (length page));
    }
