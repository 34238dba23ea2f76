-- How many pages new nodes over a row that grew take.
use Rattle.std.proofs.Common.{◌≡◌, ◌≢◌, ℕ, zero, suc, ◌+◌, ◌-◌, ◌*◌, ◌<◌, ◌≤◌, ◌^◌, ap, subst, sym, ◌∙◌, refl, arith, inl, inr}
use Rattle.std.proofs.lemmas.Bool.{cases_lt}
use Rattle.std.proofs.Math.Nat.{mul-le-mul, mul-le-mul_left, le_of_mul-le-mul_left}
use Rattle.trees.specs.Split.{most_pairs, nodes_for}
use Rattle.trees.proofs.Paid.{for_is, most_times}

pub level_up : (level k : ℕ) → level ≢ 0 → level * k ≡ (level - 1) * k + k
level_up zero k ne = absurd (ne refl)
level_up (suc level) k ne = let back : suc level - 1 ≡ level = omega arith in omega (arith, ap (λ m. m * k) back)

pub nodes_step : (fan p grown below m : ℕ) → 2 ≤ fan → 1 ≤ p → grown + 1 ≤ below + p → below ≤ most_pairs fan → m ≡ nodes_for fan grown → fan * m + m ≤ p + 2 * fan
nodes_step fan p grown below m wide some count few is =
    let least : m * most_pairs fan < grown + most_pairs fan = subst (λ k. k * most_pairs fan < grown + most_pairs fan) (sym is) (for_is fan grown).least in
    elim (cases_lt m 2) [
      | inl lt ↦ elim (cases_lt m 1) [
        | inl none ↦
            let zero_is : m ≡ 0 = omega arith in
            omega (arith, ap (λ k. fan * k) zero_is)
        | inr one ↦
            let one_is : m ≡ 1 = omega arith in
            omega (arith, ap (λ k. fan * k) one_is)
      ]
      | inr more ↦
          let fans : 2 * fan ≤ fan * m = omega (arith, mul-le-mul_left fan more) in
          omega (arith, most_times fan m)
    ]

pub node_free : (fan leaves level p grown below m before after : ℕ) → 2 ≤ fan → level ≢ 0 → 1 ≤ p → grown + 1 ≤ below + p → below ≤ most_pairs fan → m ≡ nodes_for fan grown → leaves + level * (2 * fan) ≤ fan * before
    → fan * before + p ≤ leaves + (level - 1) * (2 * fan) + fan * after → m ≤ after
node_free fan leaves level p grown below m before after wide up some count few is enough paid =
    let step : fan * m + m ≤ p + 2 * fan = nodes_step fan p grown below m wide some count few is in
    let le : fan * m ≤ fan * after = omega (arith, level_up level (2 * fan) up) in
    le_of_mul-le-mul_left {k = fan} le (omega arith)

-- a row that grew is counted by 32 bits
pub few_grown : (fan leaves level p grown below before after : ℕ) → fan ≤ 340 → level < 256 → leaves < 2 ^ 31 + 5 → grown + 1 ≤ below + p → below ≤ most_pairs fan → after ≤ before
    → fan * before + p ≤ leaves + level * (2 * fan) + fan * after → grown < 2 ^ 32
few_grown fan leaves level p grown below before after narrow byte few count row fewer paid =
    let back : fan * after ≤ fan * before = mul-le-mul_left fan fewer in
    let high : level * (2 * fan) ≤ 256 * 680 = mul-le-mul {n₁ = level} {m₁ = 2 * fan} {n₂ = 256} {m₂ = 680} (omega (arith, byte)) (omega (arith, narrow)) in
    omega (arith, back, high)

pub node_paid : (fan leaves level p grown below m before mid after : ℕ) → 2 ≤ fan → level ≢ 0 → 1 ≤ p → grown + 1 ≤ below + p → below ≤ most_pairs fan → m ≡ nodes_for fan grown → after + m ≡ mid
    → fan * before + p ≤ leaves + (level - 1) * (2 * fan) + fan * mid → fan * before + m ≤ leaves + level * (2 * fan) + fan * after
node_paid fan leaves level p grown below m before mid after wide up some count few is spent paid =
    let step : fan * m + m ≤ p + 2 * fan = nodes_step fan p grown below m wide some count few is in
    let split : fan * mid ≡ fan * after + fan * m = ap (λ k. fan * k) (sym spent) ∙ omega arith in
    omega (arith, level_up level (2 * fan) up)
