-- The length at an index of a plan whose leaves are full but for the last two.
use Rattle.std.proofs.Common.{◌≡◌, ℕ, ◌+◌, ◌-◌, ◌*◌, ◌<◌, ◌≤◌, Bool, true, cond, List, get_or, sym, ap, subst, ◌∙◌, arith, inl, inr}
use Rattle.std.specs.Prelude.{replicate}
use Rattle.std.proofs.lemmas.List.{length-replicate, get_or_append_left, get_or-append_right, get_or-replicate}
use Rattle.std.proofs.lemmas.Bool.{cases_lt}
use Rattle.ex_base.specs.Even.{least_parts, evenly}
use Rattle.ex_base.proofs.Spread.{IsLeast, least_parts_is}
use Rattle.trees.specs.declared.plans.Plan.{Plan}
use Rattle.trees.specs.Layout.{filled, layout_of}

filled_full : (full total m index : ℕ) → m ≡ least_parts full total → index < m - 2 → get_or (filled full total) index 0 ≡ full
unfolding filled
filled_full full total m index is lt =
    let few : index < least_parts full total - 2 = omega arith in
    get_or_append_left (replicate (least_parts full total - 2) full) (evenly 2 (total - (least_parts full total - 2) * full)) 0 index (omega (arith, length-replicate {A = ℕ} (least_parts full total - 2) full)) ∙ get_or-replicate (least_parts full total - 2) index full 0 few

filled_last : (full total m index : ℕ) → m ≡ least_parts full total → m - 2 ≤ index → get_or (filled full total) index 0 ≡ get_or (evenly 2 (total - (m - 2) * full)) (index - (m - 2)) 0
unfolding filled
filled_last full total m index is le =
    let later : least_parts full total - 2 ≤ index = omega arith in
    get_or-append_right (replicate (least_parts full total - 2) full) (evenly 2 (total - (least_parts full total - 2) * full)) (least_parts full total - 2) index 0 (length-replicate {A = ℕ} (least_parts full total - 2) full) later
    ∙ ap (λ (k : ℕ). get_or (evenly 2 (total - (k - 2) * full)) (index - (k - 2)) 0) (sym is)

lengths_of_tail : (full : ℕ) (plan : Plan) → plan.tail ≡ true → (layout_of full plan).lengths ≡ filled full plan.total
lengths_of_tail full plan tail = ap (λ (b : Bool). cond b (filled full plan.total) (evenly plan.leaves plan.total)) tail

pub full_leaf : (full : ℕ) (plan : Plan) (index : ℕ) → plan.tail ≡ true → plan.leaves ≡ least_parts full plan.total → index < plan.leaves - 2 → full ≡ get_or (layout_of full plan).lengths index 0
full_leaf full plan index tail is lt = sym (ap (λ (xs : List ℕ). get_or xs index 0) (lengths_of_tail full plan tail) ∙ filled_full full plan.total plan.leaves index is lt)

pub last_leaf : (full : ℕ) (plan : Plan) (index : ℕ) → plan.tail ≡ true → plan.leaves ≡ least_parts full plan.total → plan.leaves - 2 ≤ index → get_or (evenly 2 (plan.total - (plan.leaves - 2) * full)) (index - (plan.leaves - 2)) 0 ≡ get_or (layout_of full plan).lengths index 0
last_leaf full plan index tail is le = sym (ap (λ (xs : List ℕ). get_or xs index 0) (lengths_of_tail full plan tail) ∙ filled_last full plan.total plan.leaves index is le)

-- the full leaves hold no more than the total
pub full_leaves_fit : (full total m : ℕ) → 1 ≤ full → full < total → m ≡ least_parts full total → (m - 2) * full ≤ total
full_leaves_fit full total m some over is =
    let h : IsLeast full total (least_parts full total) = least_parts_is full total some in
    let least : m * full < total + full = subst (λ (k : ℕ). k * full < total + full) (sym is) h.least in
    elim (cases_lt m 2) [
      | inl lt ↦
          let none : m - 2 ≡ 0 = omega arith in
          rw none (omega arith)
      | inr two ↦
          let split : m ≡ (m - 2) + 2 = omega arith in
          let product : m * full ≡ ((m - 2) + 2) * full = ap (λ (k : ℕ). k * full) split in
          omega (arith, product)
    ]
