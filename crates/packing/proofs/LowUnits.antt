-- How many of the lowest units of the segment area are in use.
use Rattle.std.proofs.Common.{◌≡◌, ℕ, zero, suc, ◌+◌, ◌<◌, ◌≤◌, Bool, true, false, List, refl, sym, ap, ◌∙◌, arith, true≢false, inl, inr, ◌↔◌}
use Rattle.std.specs.Prelude.{if◌then◌else◌}
use Rattle.std.proofs.lemmas.Bool.{cases_Bool, cases_eq, cases_lt}
use Rattle.ex_base.specs.declared.geometry.Geometry.{Geometry}
use Rattle.ex_base.specs.declared.names.Area.TheVariants.{Segment}
use Rattle.ex_base.specs.Area.{unit_at}
use Rattle.volume_model.specs.FreshView.{KnowsUnits}
use Rattle.volume_model.specs.Parts.{Decodes}
use Rattle.volume_model.specs.Shown.{used_below, used_in}
use Rattle.volume_model.specs.Volume.{Decoded}
use Rattle.compact.specs.High.{free_below, one_if_free}
use Rattle.packing.specs.Dense.{IsDense}

abbrev one_if : Bool → ℕ
one_if b = if b then 1 else 0

one_either : (b : Bool) → one_if_free b + one_if b ≡ 1
one_either true = refl
one_either false = refl

-- each of them is free or in use
pub free_or_used : (g : Geometry) (used : ℕ → Bool) (n : ℕ) → free_below g used n + used_below used (unit_at g Segment) n ≡ n
free_or_used g used zero = refl
free_or_used g used (suc n) = omega (arith, one_either (used (unit_at g Segment n)), free_or_used g used n)

one_at_most : (b : Bool) → one_if b ≤ 1
one_at_most true = omega arith
one_at_most false = omega arith

used_most : (used : ℕ → Bool) (at : ℕ → ℕ) (n : ℕ) → used_below used at n ≤ n
used_most used at zero = omega arith
used_most used at (suc n) = omega (arith, used_most used at n, one_at_most (used (at n)))

-- where none is in use from a number on
none_above : (used : ℕ → Bool) (at : ℕ → ℕ) (n m : ℕ) → n ≤ m → ((j : ℕ) → n ≤ j → j < m → used (at j) ≡ false) → used_below used at m ≡ used_below used at n
none_above used at n zero le none = let same : n ≡ 0 = omega (arith, le) in ap (used_below used at) (sym same)
none_above used at n (suc m) le none = elim (cases_lt m n) [
  | inl last ↦ let same : n ≡ suc m = omega (arith, le, last) in ap (used_below used at) (sym same)
  | inr before ↦
      let free : one_if (used (at m)) ≡ 0 = ap one_if (none m before (omega arith)) in
      omega (arith, free, none_above used at n m before (λ j from to. none j from (omega (arith, to))))
]

-- where as many are in use as there are, each is
all_below : (used : ℕ → Bool) (at : ℕ → ℕ) (n j : ℕ) → used_below used at n ≡ n → j < n → used (at j) ≡ true
all_below used at zero j all lt = absurd (omega (arith, lt))
all_below used at (suc n) j all lt =
    let some : 1 ≤ one_if (used (at n)) = omega (arith, all, used_most used at n) in
    let rest : used_below used at n ≡ n = omega (arith, all, used_most used at n, one_at_most (used (at n))) in
    elim (cases_eq j n) [
      | inl same ↦ ap (λ i. used (at i)) same ∙ elim (cases_Bool (used (at n))) [
        | inl is ↦ is
        | inr isnt ↦ absurd (let none : one_if (used (at n)) ≡ 0 = ap one_if isnt in omega (arith, some, none))
      ]
      | inr differ ↦ all_below used at n j rest (omega (arith, lt, differ))
    ]

-- as many units are in use as `dense`, and none behind the lowest `dense` ones
pub low_in_use : (g : Geometry) (used : ℕ → Bool) (dense : ℕ) → used_in g used Segment ≡ dense → ((j : ℕ) → dense ≤ j → j < g.segs → used (unit_at g Segment j) ≡ false) → (j : ℕ) → j < g.segs → (j < dense) ↔ (used (unit_at g Segment j) ≡ true)
low_in_use g used dense count none j lt =
    let few : dense ≤ g.segs = omega (arith, count, used_most used (unit_at g Segment) g.segs) in
    let same = none_above used (unit_at g Segment) dense g.segs few none in
    let all : used_below used (unit_at g Segment) dense ≡ dense = omega (arith, same, count) in (
      (λ low. all_below used (unit_at g Segment) dense j all low),
      (λ is. elim (cases_lt j dense) [
        | inl low ↦ low
        | inr high ↦ absurd (true≢false (sym is ∙ none j high lt))
      ]),
    )

pub is_dense : (d : Decoded) (disk : List ℕ) (used held : ℕ → Bool) (dense : ℕ) → Decodes disk d → KnowsUnits d disk used held → used_in d.geometry used Segment ≡ dense
    → ((j : ℕ) → dense ≤ j → j < d.geometry.segs → used (unit_at d.geometry Segment j) ≡ false) → IsDense disk dense
is_dense d disk used held dense parts knows count none = record {
  decoded = d;
  parts = parts;
  low = λ j lt.
      let both = low_in_use d.geometry used dense count none j lt in
      let unit = knows.units (unit_at d.geometry Segment j) in (
        (λ low. unit.0 (both.0 low)),
        (λ has. both.1 (unit.1 has)),
      );
  most = omega (arith, count, used_most used (unit_at d.geometry Segment) d.geometry.segs);
}
