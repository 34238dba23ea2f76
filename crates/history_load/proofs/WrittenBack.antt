-- What a slice of all items of a vector makes of it.
use Rattle.std.proofs.Common.{◌≡◌, ℕ, List, ◌++◌, drop, length, take, subst}
use Rattle.std.proofs.Math.Seq.{take-append_seam}

pub all_written : (xs ys : List ℕ) (n : ℕ) → length ys ≡ n → take n (ys ++ drop (length ys) xs) ≡ ys
all_written xs ys n same = subst (λ (m : ℕ). take m (ys ++ drop (length ys) xs) ≡ ys) same (take-append_seam ys (drop (length ys) xs))
