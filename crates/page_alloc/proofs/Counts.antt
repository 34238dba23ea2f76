-- How many units are free, after a unit is taken or given back, and where some are free.
use Rattle.std.proofs.Common.{◌≡◌, ℕ, ◌+◌, ◌<◌, Bool, true, false, not, cond, List, [], ◌∷◌, length, get_or, replicate, refl, arith, zero, suc}
use Rattle.std.proofs.Math.ListN.{set}
use Rattle.std.proofs.lemmas.List.Sums.{sum_by-set, sum_by-cons}
use Rattle.page_alloc.specs.Flags.{AllUsedBelow, count_free}

-- where one is free, a place with nothing but used units before it lies inside
pub free_inside : (xs : List Bool) (n : ℕ) → AllUsedBelow xs n → 0 < count_free xs → n < length xs
free_inside [] n all some = omega arith
free_inside (x ∷ xs) zero all some = omega arith
free_inside (true ∷ xs) (suc n) all some = omega (arith, free_inside xs n (λ k h. all (suc k) (omega arith)) some)
free_inside (false ∷ xs) (suc n) all some = let h : false ≡ true = all 0 (omega arith) in cc

pub count_free-take : (xs : List Bool) (i : ℕ) → i < length xs → get_or xs i true ≡ false → count_free (set xs i true) + 1 ≡ count_free xs
count_free-take xs i h e =
    let s : count_free (set xs i true) + cond (not (get_or xs i true)) 1 0 ≡ count_free xs + 0 = sum_by-set (λ x. cond (not x) 1 0) xs i true true h in
    let t : count_free (set xs i true) + 1 ≡ count_free xs + 0 = rw e at s in
    omega (arith, t)

pub count_free-give : (xs : List Bool) (i : ℕ) → i < length xs → get_or xs i true ≡ true → count_free (set xs i false) ≡ count_free xs + 1
count_free-give xs i h e =
    let s : count_free (set xs i false) + cond (not (get_or xs i true)) 1 0 ≡ count_free xs + 1 = sum_by-set (λ x. cond (not x) 1 0) xs i false true h in
    let t : count_free (set xs i false) + 0 ≡ count_free xs + 1 = rw e at s in
    omega (arith, t)

pub count_free-fresh : (n : ℕ) → count_free (replicate n false) ≡ n
count_free-fresh zero = refl
count_free-fresh (suc n) =
    let e : count_free (replicate (suc n) false) ≡ 1 + count_free (replicate n false) = sum_by-cons (λ x. cond (not x) 1 0) false (replicate n false) in
    omega (arith, count_free-fresh n)

-- a free unit is one of those that are counted
pub some_free : (xs : List Bool) (i : ℕ) → i < length xs → get_or xs i true ≡ false → 0 < count_free xs
some_free xs i h e = omega (arith, count_free-take xs i h e)
