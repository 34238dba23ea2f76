-- What stands where a field was written.
use Rattle.std.proofs.Common.{◌≡◌, ℕ, ◌+◌, ◌-◌, ◌≤◌, List, ◌++◌, length, take, drop, sym, ap, ◌∙◌, arith, append_assoc}
use Rattle.std.proofs.lemmas.List.{append-nil, drop_all, take_at, drop_at, drop-drop, drop-replicate, length-append, length-take}
use Rattle.ex_base.specs.Bytes.{written}
use Rattle.ex_base.specs.Fields.{zeros}

-- two fields, one behind the other
pub written_twice : (xs a b : List ℕ) (at next : ℕ) → next ≡ at + length a → at + length a + length b ≤ length xs → written (written xs at a) next b ≡ written xs at (a ++ b)
written_twice xs a b at next is fits =
    let front : length (take at xs ++ a) ≡ next = omega (arith, length-append (take at xs) a, length-take at xs) in
    let kept : take next (written xs at a) ≡ take at xs ++ a = take_at (take at xs ++ a) (drop (at + length a) xs) next front in
    let count : at + length a + length b ≡ at + length (a ++ b) = omega (arith, length-append a b) in
    let rest : drop (next + length b) (written xs at a) ≡ drop (at + length (a ++ b)) xs =
    sym (drop-drop (length b) next (written xs at a)) ∙ ap (λ (t : List ℕ). drop (length b) t) (drop_at (take at xs ++ a) (drop (at + length a) xs) next front) ∙ drop-drop (length b) (at + length a) xs ∙ ap (λ (k : ℕ). drop k xs) count in
    ap (λ (t : List ℕ). (t ++ b) ++ drop (next + length b) (written xs at a)) kept ∙ ap (λ (t : List ℕ). ((take at xs ++ a) ++ b) ++ t) rest ∙ ap (λ (t : List ℕ). t ++ drop (at + length (a ++ b)) xs) (append_assoc (take at xs) a b)

-- a field behind what was written so far, over the zeros there
pub written_on_zeros : (front field : List ℕ) (at left : ℕ) → at ≡ length front → written (front ++ zeros left) at field ≡ front ++ field ++ zeros (left - length field)
written_on_zeros front field at left is =
    let kept : take at (front ++ zeros left) ≡ front = take_at front (zeros left) at (sym is) in
    let rest : drop (at + length field) (front ++ zeros left) ≡ zeros (left - length field) =
    sym (drop-drop (length field) at (front ++ zeros left)) ∙ ap (λ (t : List ℕ). drop (length field) t) (drop_at front (zeros left) at (sym is)) ∙ drop-replicate (length field) left 0 in
    ap (λ (t : List ℕ). (t ++ field) ++ drop (at + length field) (front ++ zeros left)) kept ∙ ap (λ (t : List ℕ). (front ++ field) ++ t) rest

-- a field in the place of as many bytes, between others
pub written_at : (a old new b : List ℕ) (at : ℕ) → length a ≡ at → length old ≡ length new → written (a ++ (old ++ b)) at new ≡ a ++ (new ++ b)
written_at a old new b at len same =
    let kept : take at (a ++ (old ++ b)) ≡ a = take_at a (old ++ b) at len in
    let rest : drop (at + length new) (a ++ (old ++ b)) ≡ b = ap (drop (at + length new)) (sym (append_assoc a old b)) ∙ drop_at (a ++ old) b (at + length new) (omega (arith, length-append a old)) in
    ap (λ (t : List ℕ). t ++ new ++ drop (at + length new) (a ++ (old ++ b))) kept ∙ ap (λ (t : List ℕ). a ++ new ++ t) rest ∙ append_assoc a new b

-- a field over all bytes
pub over_all : (bytes field : List ℕ) → length field ≡ length bytes → written bytes 0 field ≡ field
over_all bytes field same = ap (λ (t : List ℕ). field ++ t) (drop_all (0 + length field) bytes (omega (arith, same))) ∙ append-nil field

-- a field that is put behind others
pub pushed : (before after bytes now field : List ℕ) → after ≡ before ++ now → now ≡ written bytes 0 field → length field ≡ length bytes → after ≡ before ++ field
pushed before after bytes now field is put same = is ∙ ap (λ (t : List ℕ). before ++ t) (put ∙ over_all bytes field same)
