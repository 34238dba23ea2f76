-- How many pages new nodes and new roots take.
use Rattle.std.proofs.Common.{◌≡◌, ℕ, zero, suc, ◌+◌, ◌-◌, ◌*◌, ◌<◌, ◌≤◌, ◌^◌, ap, sym, ◌∙◌, arith, inl, inr}
use Rattle.std.proofs.lemmas.Bool.{cases_lt}
use Rattle.std.proofs.Math.Nat.{mul-le-mul_left, mul-le-mul_right, le_of_mul-le-mul_left, pow-le-pow_right}
use Rattle.ex_base.proofs.Spread.{IsLeast, least_parts_is}
use Rattle.trees.specs.Split.{most_pairs, nodes_for}

pub for_is : (fan count : ℕ) → IsLeast (most_pairs fan) count (nodes_for fan count)
for_is fan count = least_parts_is (most_pairs fan) count (omega arith)

-- a product with the most pairs of a node
pub most_times : (fan m : ℕ) → m * most_pairs fan ≡ 2 * (fan * m) + m
most_times fan zero = omega arith
most_times fan (suc m) = omega (arith, most_times fan m)

-- ---- at least one node, and fewer than half as many as there are trees, where there are two or more

pub some_node : (fan count : ℕ) → 1 ≤ count → 1 ≤ nodes_for fan count
some_node fan count some = elim (cases_lt 0 (nodes_for fan count)) [
  | inl lt ↦ lt
  | inr none ↦
      let product : nodes_for fan count * most_pairs fan ≤ 0 * most_pairs fan = mul-le-mul_right (most_pairs fan) none in
      absurd (omega (arith, (for_is fan count).holds))
]

pub half_as_many : (fan count : ℕ) → 2 ≤ fan → 2 ≤ count → 2 * nodes_for fan count ≤ count
half_as_many fan count wide two =
    let m = nodes_for fan count in
    elim (cases_lt (nodes_for fan count) 2) [
      | inl lt ↦ omega arith
      | inr more ↦
          let product : 2 * nodes_for fan count ≤ fan * nodes_for fan count = mul-le-mul_right (nodes_for fan count) wide in
          let fans : 2 * fan ≤ fan * nodes_for fan count = omega (arith, mul-le-mul_left fan more) in
          let least : nodes_for fan count * most_pairs fan < count + most_pairs fan = (for_is fan count).least in
          omega (arith, most_times fan (nodes_for fan count))
    ]

-- ---- new roots

-- the level that is left to rise
pub rise_on : (level count above : ℕ) → 2 ≤ count → 2 * above ≤ count → count ≤ 2 ^ (255 - level) → (level + 1 ≤ 255) × (above ≤ 2 ^ (255 - (level + 1)))
rise_on level count above two half fits = elim (cases_lt level 255) [
  | inl lt ↦
      let next : 255 - level ≡ suc (255 - (level + 1)) = omega arith in
      let twice : 2 ^ (255 - level) ≡ 2 * 2 ^ (255 - (level + 1)) = ap (λ k. 2 ^ k) next ∙ omega arith in
      (omega arith, omega arith)
  | inr le ↦
      let none : 255 - level ≡ 0 = omega arith in
      absurd (omega (arith, ap (λ k. 2 ^ k) none))
]

pub rise_first : (height count : ℕ) → height ≤ 64 → count < 2 ^ 32 → count ≤ 2 ^ (255 - height)
rise_first height count low few =
    let le : 2 ^ 32 ≤ 2 ^ (255 - height) = pow-le-pow_right {n = 2} (omega arith) {i = 32} {j = 255 - height} (omega arith) in
    omega arith

-- the nodes over a row are free, where new roots over it are
pub root_free : (fan count free : ℕ) → 2 ≤ fan → 2 ≤ count → count + fan ≤ fan * free + 2 → nodes_for fan count ≤ free
root_free fan count free wide two enough =
    let m = nodes_for fan count in
    let le : fan * nodes_for fan count ≤ fan * free = elim (cases_lt (nodes_for fan count) 2) [
      | inl lt ↦
          let one : nodes_for fan count ≡ 1 = omega (arith, some_node fan count (omega arith)) in
          omega (arith, ap (λ k. fan * k) one)
      | inr more ↦
          let fans : 2 * fan ≤ fan * nodes_for fan count = omega (arith, mul-le-mul_left fan more) in
          omega (arith, most_times fan (nodes_for fan count), (for_is fan count).least)
    ] in
    le_of_mul-le-mul_left {k = fan} le (omega arith)

-- and so are the roots above them
pub roots_free : (fan count before after : ℕ) → 2 ≤ fan → 2 ≤ count → count + fan ≤ fan * before + 2 → after + nodes_for fan count ≡ before → 2 ≤ nodes_for fan count → nodes_for fan count + fan ≤ fan * after + 2
roots_free fan count before after wide two enough spent more =
    let fans : 2 * fan ≤ fan * nodes_for fan count = omega (arith, mul-le-mul_left fan more) in
    let split : fan * before ≡ fan * after + fan * nodes_for fan count = ap (λ k. fan * k) (sym spent) ∙ omega arith in
    omega (arith, most_times fan (nodes_for fan count), (for_is fan count).least)

pub roots_paid : (fan count before mid after : ℕ) → 2 ≤ fan → 2 ≤ count → mid + nodes_for fan count ≡ before → (nodes_for fan count ≡ 1 → after ≡ mid)
    → (2 ≤ nodes_for fan count → fan * mid + 2 ≤ nodes_for fan count + fan + fan * after) → fan * before + 2 ≤ count + fan + fan * after
roots_paid fan count before mid after wide two spent lone rest =
    let split : fan * before ≡ fan * mid + fan * nodes_for fan count = ap (λ k. fan * k) (sym spent) ∙ omega arith in
    elim (cases_lt (nodes_for fan count) 2) [
      | inl lt ↦
          let one : nodes_for fan count ≡ 1 = omega (arith, some_node fan count (omega arith)) in
          omega (arith, ap (λ k. fan * k) one, ap (λ k. fan * k) (lone one))
      | inr more ↦
          let fans : 2 * fan ≤ fan * nodes_for fan count = omega (arith, mul-le-mul_left fan more) in
          omega (arith, rest more, most_times fan (nodes_for fan count), (for_is fan count).least)
    ]
