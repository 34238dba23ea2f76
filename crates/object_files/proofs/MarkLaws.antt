-- Marks of numbers: one more, and the first that is missing.
use Rattle.std.proofs.Common.{◌≡◌, ◌≢◌, ℕ, zero, suc, ◌+◌, ◌-◌, ◌<◌, ◌≤◌, Bool, true, false, not, cond, List, [], ◌∷◌, length, get_or, replicate, refl, sym, ap, subst, ◌∙◌, arith, inl, inr, get_or-set_same, get_or-set_other, length-set}
use Rattle.std.specs.Prelude.{count_by}
use Rattle.std.proofs.Math.ListN.{set}
use Rattle.std.proofs.lemmas.Bool.{cases_eq, cases_lt}
use Rattle.std.proofs.lemmas.List.{length-replicate, get_or_default}
use Rattle.std.proofs.lemmas.List.Sums.{sum_by-set, sum_by-cons}
use Rattle.object_files.specs.Marks.{MarksNumbers, IsLarge, HasMark}
use Rattle.object_files.specs.Reads.{number_in, entry_at, DiffersBehind}

-- 1 where a mark is missing
abbrev missing : Bool → ℕ
missing b = cond (not b) 1 0

-- where one is missing, a place with nothing but marks before it lies inside
pub missing_inside : (marks : List Bool) (n : ℕ) → ((k : ℕ) → k < n → get_or marks k true ≡ true) → 0 < count_by not marks → n < length marks
missing_inside [] n all some = omega arith
missing_inside (m ∷ marks) zero all some = omega arith
missing_inside (true ∷ marks) (suc n) all some = omega (arith, missing_inside marks n (λ k h. all (suc k) (omega arith)) some)
missing_inside (false ∷ marks) (suc n) all some = let h : false ≡ true = all 0 (omega arith) in cc

no_mark : (n k : ℕ) → get_or (replicate n false) k false ≡ false
no_mark zero k = refl
no_mark (suc n) zero = refl
no_mark (suc n) (suc k) = no_mark n k

all_missing : (n : ℕ) → count_by not (replicate n false) ≡ n
all_missing zero = refl
all_missing (suc n) =
    let e : count_by not (replicate (suc n) false) ≡ 1 + count_by not (replicate n false) = sum_by-cons missing false (replicate n false) in
    omega (arith, all_missing n)

pub no_marks : (page : List ℕ) → MarksNumbers page 0 (replicate 171 false)
no_marks page = record {
  many = length-replicate 171 false;
  marked = λ i lt. absurd (omega arith);
  only = λ k e. let none = no_mark 171 k in absurd cc;
  few = omega (arith, all_missing 171);
}

one_fewer : (marks : List Bool) (at : ℕ) → at < length marks → count_by not marks ≤ count_by not (set marks at true) + 1
one_fewer marks at lt =
    let s : count_by not (set marks at true) + missing (get_or marks at true) ≡ count_by not marks + 0 = sum_by-set missing marks at true true lt in
    let small : missing (get_or marks at true) ≤ 1 = at_most (get_or marks at true) in
    omega (arith, s, small)
  where
    at_most : (b : Bool) → missing b ≤ 1
    at_most true = omega arith
    at_most false = omega arith

-- a number that has a mark
marked_more : (page : List ℕ) (i number : ℕ) (marks : List Bool) → MarksNumbers page i marks → number ≡ number_in page (entry_at i) → 0 < number → number ≤ 171 → MarksNumbers page (i + 1) (set marks (number - 1) true)
marked_more page i number marks h is some small =
    let inside : number - 1 < length marks = omega (arith, h.many) in
    record {
      many = length-set marks (number - 1) true ∙ h.many;
      marked = λ j lt low high. elim (cases_eq (number_in page (entry_at j) - 1) (number - 1)) [
        | inl same ↦ ap (λ (k : ℕ). get_or (set marks (number - 1) true) k false) same ∙ get_or-set_same marks (number - 1) true false inside
        | inr other ↦ elim (cases_eq j i) [
          | inl last ↦ absurd (other (ap (λ (k : ℕ). number_in page (entry_at k) - 1) last ∙ ap (λ (k : ℕ). k - 1) (sym is)))
          | inr before ↦ get_or-set_other marks (number - 1) (number_in page (entry_at j) - 1) true false other ∙ h.marked j (omega arith) low high
        ]
      ];
      only = λ k e. elim (cases_eq k (number - 1)) [
        | inl same ↦ (i, omega arith, omega (arith, is, same))
        | inr other ↦ let old = h.only k (sym (get_or-set_other marks (number - 1) k true false other) ∙ e) in (old.0, omega (arith, old.1), old.2)
      ];
      few = omega (arith, h.few, one_fewer marks (number - 1) inside);
    }

-- a number that has none
unmarked_more : (page : List ℕ) (i number : ℕ) (marks : List Bool) → MarksNumbers page i marks → number ≡ number_in page (entry_at i) → (0 < number → 171 < number) → MarksNumbers page (i + 1) marks
unmarked_more page i number marks h is large = record {
  many = h.many;
  marked = λ j lt low high. elim (cases_eq j i) [
    | inl last ↦
        let same : number_in page (entry_at j) ≡ number = ap (λ (k : ℕ). number_in page (entry_at k)) last ∙ sym is in
        absurd (omega (arith, same, large (omega arith)))
    | inr before ↦ h.marked j (omega arith) low high
  ];
  only = λ k e. let old = h.only k e in (old.0, omega (arith, old.1), old.2);
  few = omega (arith, h.few);
}

-- one more number, whether it has a mark or not
pub marks_more : (page : List ℕ) (i number : ℕ) (marks now : List Bool) → MarksNumbers page i marks → number ≡ number_in page (entry_at i) → (1 ≤ number → number ≤ 171 → now ≡ set marks (number - 1) true) → (IsLarge number → now ≡ marks) → MarksNumbers page (i + 1) now
marks_more page i number marks now h is marked kept = elim (cases_lt 171 number) [
  | inl large ↦ subst (MarksNumbers page (i + 1)) (sym (kept (λ some. large))) (unmarked_more page i number marks h is (λ some. large))
  | inr small ↦ elim (cases_lt 0 number) [
    | inl some ↦ subst (MarksNumbers page (i + 1)) (sym (marked (omega arith) small)) (marked_more page i number marks h is some small)
    | inr none ↦ subst (MarksNumbers page (i + 1)) (sym (kept (λ some. absurd (omega arith)))) (unmarked_more page i number marks h is (λ some. absurd (omega arith)))
  ]
]

-- ---- numbers that differ

-- The first i numbers have their marks, no two of them are the same, and no later entry has one of them that has no mark.
pub record DifferSoFar (page : List ℕ) (n i : ℕ) (marks : List Bool) : Type 0 where
  pub marked : MarksNumbers page i marks
  pub pairs : (j : ℕ) → j < i → (k : ℕ) → k < j → number_in page (entry_at k) ≢ number_in page (entry_at j)
  pub large : (k : ℕ) → k < i → IsLarge (number_in page (entry_at k)) → DiffersBehind page n k

pub none_so_far : (page : List ℕ) (n : ℕ) → DifferSoFar page n 0 (replicate 171 false)
none_so_far page n = record { marked = no_marks page; pairs = λ j lt. absurd (omega arith); large = λ k lt. absurd (omega arith) }

pub differ_more : (page : List ℕ) (n i number : ℕ) (marks now : List Bool) → DifferSoFar page n i marks → i < n → number ≡ number_in page (entry_at i) → (HasMark marks number → ⊥) → (IsLarge number → DiffersBehind page n i) → (1 ≤ number → number ≤ 171 → now ≡ set marks (number - 1) true) → (IsLarge number → now ≡ marks) → DifferSoFar page n (i + 1) now
differ_more page n i number marks now h lt is new behind marked kept =
    let fresh : (k : ℕ) → k < i → number_in page (entry_at k) ≢ number_in page (entry_at i) = λ k below same.
    elim (cases_lt 171 number) [
      | inl high ↦ h.large k below (λ some. omega (arith, same, is)) i below lt same
      | inr low ↦ elim (cases_lt 0 number) [
        | inl some ↦
            let place : number_in page (entry_at k) - 1 ≡ number - 1 = omega (arith, same, is) in
            new (record { some = omega arith; small = low; there = ap (λ (p : ℕ). get_or marks p false) (sym place) ∙ h.marked.marked k below (omega (arith, same, is)) (omega (arith, same, is)) })
        | inr none ↦ h.large k below (λ some. absurd (omega (arith, same, is))) i below lt same
      ]
    ] in
    record {
      marked = marks_more page i number marks now h.marked is marked kept;
      pairs = λ j below k before. elim (cases_eq j i) [
        | inl last ↦ subst (λ (p : ℕ). number_in page (entry_at k) ≢ number_in page (entry_at p)) (sym last) (fresh k (omega arith))
        | inr other ↦ h.pairs j (omega arith) k before
      ];
      large = λ k below high. elim (cases_eq k i) [
        | inl last ↦ subst (DiffersBehind page n) (sym last) (behind (λ some. omega (arith, high (omega (arith, is, ap (λ (p : ℕ). number_in page (entry_at p)) last)), is, ap (λ (p : ℕ). number_in page (entry_at p)) last)))
        | inr other ↦ h.large k (omega arith) high
      ];
    }

-- the first missing mark is that of a number that no entry has
pub number_unused : (page : List ℕ) (n at : ℕ) (marks : List Bool) → MarksNumbers page n marks → get_or marks at true ≡ false → at < length marks → (i : ℕ) → i < n → number_in page (entry_at i) ≢ at + 1
number_unused page n at marks h none inside i lt is =
    let there : get_or marks (number_in page (entry_at i) - 1) false ≡ true = h.marked i lt (omega arith) (omega (arith, h.many)) in
    let place : number_in page (entry_at i) - 1 ≡ at = omega arith in
    let here : get_or marks at false ≡ true = ap (λ (k : ℕ). get_or marks k false) (sym place) ∙ there in
    let same : get_or marks at true ≡ get_or marks at false = get_or_default marks at true false inside in
    absurd cc

pub number_used : (page : List ℕ) (n at k : ℕ) (marks : List Bool) → MarksNumbers page n marks → at < length marks → ((j : ℕ) → j < at → get_or marks j true ≡ true) → 1 ≤ k → k < at + 1 → (i : ℕ) × (i < n) × (number_in page (entry_at i) ≡ k)
number_used page n at k marks h inside all some lt =
    let there : get_or marks (k - 1) true ≡ true = all (k - 1) (omega arith) in
    let same : get_or marks (k - 1) true ≡ get_or marks (k - 1) false = get_or_default marks (k - 1) true false (omega arith) in
    let found = h.only (k - 1) (sym same ∙ there) in
    (found.0, found.1, omega (arith, found.2))
