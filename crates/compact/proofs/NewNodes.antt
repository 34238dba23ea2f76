-- A new node over a whole row of trees.
use Rattle.std.proofs.Common.{◌≡◌, ℕ, List, [], ◌∷◌, length, get_or, ap, subst, arith}
use Rattle.ex_base.specs.declared.ground.Ground as ground
use Rattle.trees.specs.Built.{Built}
use Rattle.trees.specs.Counted.{Counted, NamesPairs}
use Rattle.trees.specs.Made.{Spent, Took, pages_of}
use Rattle.trees.specs.Rows.{row_size}
use Rattle.trees.specs.declared.rows.Part.{Part}
use Rattle.trees.proofs.Reading.{no_part}
use Rattle.compact.specs.Walk.{NodeMade}

one_part : (above : List Part) (size : ℕ) → length above ≡ 1 → row_size above ≡ size → above ≡ record { size = size; page = (get_or above 0 no_part).page } ∷ []
one_part [] size len sum = absurd (omega (arith, len))
one_part (part ∷ []) size len sum = let same : part.size ≡ size = omega (arith, sum) in ap (λ n. record { size = n; page = part.page } ∷ []) same
one_part (part ∷ next ∷ above) size len sum = absurd (omega (arith, len))

pub new_node : {S : Type 0} (g : ground.Ghosts S) (a c : S) (m : ℕ) (row above : List Part) (size len : ℕ) → len ≡ length row → length above ≡ 1 → row_size above ≡ size → Took g a c (pages_of above) → Spent g a c 0 1 → Built g c m (len ∷ []) row above → (NamesPairs g → Counted g a c)
    → NodeMade g a c m row (record { size = size; page = (get_or above 0 no_part).page })
new_node g a c m row above size len all one sum took spent built counts =
    let is = one_part above size one sum in
    record {
      took = subst (λ (r : List Part). Took g a c (pages_of r)) is took;
      spent = spent;
      built = subst (λ n. Built g c m (n ∷ []) row (record { size = size; page = (get_or above 0 no_part).page } ∷ [])) all (subst (Built g c m (len ∷ []) row) is built);
      counts = counts;
    }
