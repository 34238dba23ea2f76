-- That numbers rise can be so in one way only.
use Rattle.std.specs.Prelude.{ℕ, List, [], ◌∷◌}
use Rattle.std.specs.Coded.{×_prop, Unit-prop, le_prop}
use Rattle.ex_base.specs.Order.{Rising}

pub Rising-prop : (xs : List ℕ) → IsProp (Rising xs)
Rising-prop [] = Unit-prop
Rising-prop (x ∷ []) = Unit-prop
Rising-prop (x ∷ y ∷ xs) = ×_prop le_prop (Rising-prop (y ∷ xs))
