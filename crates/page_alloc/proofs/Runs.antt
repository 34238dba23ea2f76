-- The hints of runs of units, along the search and after a unit is taken or given back.
use Rattle.std.proofs.Common.{◌≡◌, ℕ, ◌+◌, ◌*◌, ◌/◌, ◌%◌, ◌<◌, ◌≤◌, ◌⊎◌, inl, inr, Bool, true, List, length, get_or, arith, add-mul, one-mul}
use Rattle.std.proofs.lemmas.Bool.{cases_eq, cases_lt}
use Rattle.std.proofs.lemmas.Nat.{div-add-mod', mod_below}
use Rattle.page_alloc.specs.Flags.{AllUsedBelow}
use Rattle.page_alloc.specs.Hints.{IsHint, IsHinted, SetsHintsBefore}

-- a place of a run that ends at another lies before that
in_run : (k size at : ℕ) → 0 < size → (k / size + 1) * size ≤ at → k < at
in_run k size at pos ends =
    let split : k / size * size + k % size ≡ k = div-add-mod' k size in
    let below : k % size < size = mod_below k size pos in
    let apart : (k / size + 1) * size ≡ k / size * size + 1 * size = add-mul (k / size) 1 size in
    let one : 1 * size ≡ size = one-mul size in
    omega arith

-- what the search for a free unit keeps
pub record Searching (used full crowded : List Bool) (at : ℕ) : Type 0 where
  pub group_hints : IsHint 128 full used
  pub block_hints : IsHint 16384 crowded used
  pub low : AllUsedBelow used at
  pub inside : at < length used

-- the hints stay sound where each new one is of units before the place
pub hints_kept : (size at : ℕ) (before after used : List Bool) → 0 < size → IsHint size before used → AllUsedBelow used at → SetsHintsBefore size at before after → IsHint size after used
hints_kept size at before after used pos hint low sets = record {
  sound = λ k h. elim (sets.only (k / size) h) [ inl was ↦ hint.sound k was | inr ends ↦ low k (in_run k size at pos ends) ];
}

-- the search goes on past units that a hint covers or that are used
pub used_on : (used full crowded : List Bool) (at next : ℕ) → IsHint 128 full used → IsHint 16384 crowded used → AllUsedBelow used at → get_or used at true ≡ true → ((k : ℕ) → at < k → k < next → IsHinted full crowded k ⊎ (get_or used k true ≡ true)) → AllUsedBelow used next
used_on used full crowded at next group block low here between k h =
    elim (cases_lt k at) [
      | inl below ↦ low k below
      | inr above ↦ elim (cases_eq k at) [
        | inl same ↦ rw same here
        | inr other ↦ elim (between k (omega arith) h) [ inl hinted ↦ elim hinted [ inl f ↦ group.sound k f | inr c ↦ block.sound k c ] | inr is ↦ is ]
      ]
    ]
