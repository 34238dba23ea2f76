-- One step of a climb to a first version, and of a listing from a version on.
use Rattle.std.proofs.Common.{◌≡◌, ℕ, zero, suc, ◌-◌, List, [], ◌∷◌, ◌++◌, append_assoc, refl, ap, sym, subst, ◌∙◌, arith, Some, None}
use Rattle.std.specs.Prelude.{flat_map}
use Rattle.version_lists.specs.declared.version.Version.{Version}
use Rattle.version_lists.specs.Versions.{unique_of, numbered_in, climbed, derived_from, first_number, listed_from}

-- ---- a climb

pub no_step : (steps : ℕ) (vs : List Version) (v : Version) → steps ≡ 0 → unique_of v ≡ first_number steps vs v
unfolding first_number
no_step zero vs v e = refl
no_step (suc n) vs v e = absurd (omega arith)

pub step_up : (steps : ℕ) (vs : List Version) (v older : Version) (number : ℕ) → (steps ≡ 0 → ⊥) → numbered_in vs v.older ≡ Some older
    → number ≡ first_number (steps - 1) vs older → number ≡ first_number steps vs v
unfolding first_number
step_up zero vs v older number more found e = absurd (more refl)
step_up (suc n) vs v older number more found e =
    let less : suc n - 1 ≡ n = omega arith in
    subst (λ k. number ≡ first_number k vs older) less e ∙ sym (ap (climbed (first_number n vs) (unique_of v)) found)

pub step_ends : (steps : ℕ) (vs : List Version) (v : Version) → (steps ≡ 0 → ⊥) → numbered_in vs v.older ≡ None → unique_of v ≡ first_number steps vs v
unfolding first_number
step_ends zero vs v more none = refl
step_ends (suc n) vs v more none = sym (ap (climbed (first_number n vs) (unique_of v)) none)

-- ---- a listing

pub no_level : (levels : ℕ) (vs : List Version) (v : Version) → levels ≡ 0 → listed_from levels vs v ≡ v ∷ []
unfolding listed_from
no_level zero vs v e = refl
no_level (suc n) vs v e = absurd (omega arith)

pub level_down : (levels : ℕ) (vs : List Version) (v : Version) → (levels ≡ 0 → ⊥)
    → listed_from levels vs v ≡ v ∷ flat_map (listed_from (levels - 1) vs) (derived_from (unique_of v) vs)
unfolding listed_from
level_down zero vs v more = absurd (more refl)
level_down (suc n) vs v more =
    let less : n ≡ suc n - 1 = omega arith in
    ap (λ k. v ∷ flat_map (listed_from k vs) (derived_from (unique_of v) vs)) less

-- the version is put behind others, and then all that is derived from it
pub listed_behind : (levels : ℕ) (vs : List Version) (v : Version) (before first all : List Version) → (levels ≡ 0 → ⊥) → first ≡ before ++ v ∷ []
    → all ≡ first ++ flat_map (listed_from (levels - 1) vs) (derived_from (unique_of v) vs) → all ≡ before ++ listed_from levels vs v
listed_behind levels vs v before first all more put rest =
    rest ∙ ap (λ xs. xs ++ flat_map (listed_from (levels - 1) vs) (derived_from (unique_of v) vs)) put ∙ append_assoc before (v ∷ []) (flat_map (listed_from (levels - 1) vs) (derived_from (unique_of v) vs)) ∙ ap (λ xs. before ++ xs) (sym (level_down levels vs v more))
