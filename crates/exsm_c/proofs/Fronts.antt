-- What begins a buffer into which bytes were copied.
use Rattle.std.proofs.Common.{◌≡◌, ◌∙◌, ◌≤◌, sym, ap, subst, refl, ℕ, List, [], length, min, take, arith}
use Rattle.ex_base.specs.Bytes.{length-part, length-repl, part, part-repl, repl, written}
use Rattle.exsm_c.specs.Told.{BeginsWith}

-- the same front of both
front_part : (out bytes x : List ℕ) (count : ℕ) → count ≤ length out → count ≤ length bytes → x ≡ part bytes 0 count → part (repl out 0 x) 0 count ≡ part bytes 0 count
front_part out bytes x count fits has is =
    let long : length x ≡ count = ap length is ∙ length-part bytes 0 count (omega arith) in
    ap (λ (k : ℕ). part (repl out 0 x) 0 k) (sym long) ∙ part-repl out 0 x (omega (arith, long)) ∙ is

front_begins : (out now bytes x : List ℕ) (count : ℕ) → count ≡ min (length out) (length bytes) → x ≡ part bytes 0 count → now ≡ repl out 0 x → BeginsWith now bytes
front_begins out now bytes x count least is copied =
    let fits : count ≤ length out = omega (arith, least) in
    let has : count ≤ length bytes = omega (arith, least) in
    let long : length x ≡ count = ap length is ∙ length-part bytes 0 count (omega arith) in
    let same : length now ≡ length out = ap length copied ∙ length-repl out 0 x (omega (arith, long)) in
    let so_many : min (length now) (length bytes) ≡ count = omega (arith, least, same) in
    subst (λ (k : ℕ). part now 0 k ≡ part bytes 0 k) (sym so_many) (ap (λ (l : List ℕ). part l 0 count) copied ∙ front_part out bytes x count fits has is)

pub begins_with : (out now bytes : List ℕ) (count : ℕ) → count ≡ min (length out) (length bytes) → now ≡ written out 0 (take count bytes) → BeginsWith now bytes
unfolding part repl
begins_with out now bytes count least copied = front_begins out now bytes (take count bytes) count least refl copied

-- No bytes begin each buffer.
pub begins_none : (out : List ℕ) → BeginsWith out []
unfolding part
begins_none out =
    let none : min (length out) 0 ≡ 0 = omega arith in
    subst (λ (k : ℕ). part out 0 k ≡ part [] 0 k) (sym none) refl
