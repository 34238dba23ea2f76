-- Bytes that are written over others, and bytes that are replaced.
use Rattle.std.proofs.Common.{◌≡◌, ℕ, ◌+◌, ◌-◌, ◌≤◌, List, ◌++◌, length, take, drop, sym, ap, ◌∙◌, arith, append_assoc}
use Rattle.std.proofs.lemmas.List.{length-append, length-take, length-drop, length-replicate, take-take, drop_at, drop-drop, take-append-le}
use Rattle.ex_base.specs.Bytes.{written}
use Rattle.ex_base.specs.Fields.{zeros}
use Rattle.ex_base.proofs.Places.{written_next}

-- ---- what a written field leaves

pub length-written : (x f : List ℕ) (at : ℕ) → at + length f ≤ length x → length (written x at f) ≡ length x
length-written x f at fits = omega (arith, length-append (take at x ++ f) (drop (at + length f) x), length-append (take at x) f, length-take at x, length-drop (at + length f) x)

pub take-written : (x f : List ℕ) (at m : ℕ) → m ≤ at → at ≤ length x → take m (written x at f) ≡ take m x
take-written x f at m le fits =
    let len : m ≤ length (take at x) = omega (arith, length-take at x) in
    ap (take m) (append_assoc (take at x) f (drop (at + length f) x)) ∙ take-append-le m (take at x) (f ++ drop (at + length f) x) len ∙ take-take m at x le

pub drop-written : (x f : List ℕ) (at m : ℕ) → at + length f ≤ m → m ≤ length x → drop m (written x at f) ≡ drop m x
drop-written x f at m le fits =
    let len : length (take at x ++ f) ≡ at + length f = omega (arith, length-append (take at x) f, length-take at x) in
    let count : at + length f + (m - (at + length f)) ≡ m = omega arith in
    ap (λ (k : ℕ). drop k (written x at f)) (sym count) ∙ sym (drop-drop (m - (at + length f)) (at + length f) (written x at f))
    ∙ ap (λ (t : List ℕ). drop (m - (at + length f)) t) (drop_at (take at x ++ f) (drop (at + length f) x) (at + length f) len)
    ∙ drop-drop (m - (at + length f)) (at + length f) x ∙ ap (λ (k : ℕ). drop k x) count

pub drop-written-at : (x f : List ℕ) (at : ℕ) → at ≤ length x → drop at (written x at f) ≡ f ++ drop (at + length f) x
drop-written-at x f at fits =
    ap (drop at) (append_assoc (take at x) f (drop (at + length f) x)) ∙ drop_at (take at x) (f ++ drop (at + length f) x) at (omega (arith, length-take at x))

-- ---- bytes that are replaced

pub replaced : (x body tail : List ℕ) (start tlen limit : ℕ) → length tail ≡ tlen → start + length body + tlen ≤ limit → limit ≤ length x → written (written (written x (start + length body) tail) start body) (start + length body + tlen) (zeros (limit - (start + length body + tlen))) ≡ take start x ++ body ++ tail ++ zeros (limit - (start + length body + tlen)) ++ drop limit x
replaced x body tail start tlen limit len fits room =
    let behind : ℕ = start + length body in
    let end : ℕ = start + length body + tlen in
    let moved : List ℕ = written x (start + length body) tail in
    let first : length (take start x) ≡ start = omega (arith, length-take start x) in
    let front : take start (written x (start + length body) tail) ≡ take start x = take-written x tail (start + length body) start (omega arith) (omega arith) in
    let rest : drop (start + length body) (written x (start + length body) tail) ≡ tail ++ drop (start + length body + tlen) x =
    drop-written-at x tail (start + length body) (omega arith) ∙ ap (λ (k : ℕ). tail ++ drop (start + length body + k) x) len in
    let put : written (written x (start + length body) tail) start body ≡ (take start x ++ body ++ tail) ++ drop (start + length body + tlen) x =
    ap (λ (t : List ℕ). t ++ body ++ drop (start + length body) (written x (start + length body) tail)) front ∙ ap (λ (t : List ℕ). (take start x ++ body) ++ t) rest ∙ sym (append_assoc (take start x ++ body) tail (drop (start + length body + tlen) x)) in
    let all : length (take start x ++ body ++ tail) ≡ start + length body + tlen = omega (arith, first, len, length-append (take start x ++ body) tail, length-append (take start x) body) in
    ap (λ (t : List ℕ). written t (start + length body + tlen) (zeros (limit - (start + length body + tlen)))) put
    ∙ written_next (take start x ++ body ++ tail) (zeros (limit - (start + length body + tlen))) x (start + length body + tlen) limit all (omega (arith, length-replicate {A = ℕ} (limit - (start + length body + tlen)) 0))
