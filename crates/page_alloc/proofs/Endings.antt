-- Lists that end in equal elements, of which those aren't written.
use Rattle.std.proofs.Common.{◌≡◌, ℕ, ◌+◌, ◌-◌, ◌<◌, ◌≤◌, List, ◌++◌, length, replicate, ap, sym, ◌∙◌, arith, length-set}
use Rattle.std.proofs.Math.ListN.{set}
use Rattle.std.proofs.lemmas.List.{set-append_left, replicate-append-replicate, append_assoc, length-append, length-replicate}

-- the list of so many elements, of which these are written and the others are equal
abbrev pub ended : {A : Type 0} → List A → ℕ → A → List A
ended written len rest = written ++ replicate (len - length written) rest

pub length-ended : {A : Type 0} (written : List A) (len : ℕ) (rest : A) → length written ≤ len → length (ended written len rest) ≡ len
length-ended written len rest inside = omega (arith, length-append written (replicate (len - length written) rest), length-replicate (len - length written) rest)

-- a written element is set
pub ended-set : {A : Type 0} (written : List A) (len at : ℕ) (rest v : A) → at < length written → ended (set written at v) len rest ≡ set (ended written len rest) at v
ended-set written len at rest v inside =
    ap (λ n. set written at v ++ replicate (len - n) rest) (length-set written at v) ∙
    sym (set-append_left written (replicate (len - length written) rest) at v inside)

-- more elements are written, as they are
pub ended-more : {A : Type 0} (written : List A) (len end : ℕ) (rest : A) → length written ≤ end → end ≤ len → ended (written ++ replicate (end - length written) rest) len rest ≡ ended written len rest
ended-more written len end rest more inside =
    let size : length (written ++ replicate (end - length written) rest) ≡ end = omega (arith, length-append written (replicate (end - length written) rest), length-replicate (end - length written) rest) in
    let sum : end - length written + (len - end) ≡ len - length written = omega arith in
    ap (λ n. (written ++ replicate (end - length written) rest) ++ replicate (len - n) rest) size ∙
    (append_assoc written (replicate (end - length written) rest) (replicate (len - end) rest) ∙
    ap (λ l. written ++ l) (replicate-append-replicate (end - length written) (len - end) rest ∙ ap (λ n. replicate n rest) sum))
