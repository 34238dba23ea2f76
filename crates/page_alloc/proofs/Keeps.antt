-- An area's lists and numbers stay sound when a unit is taken or given back.
use Rattle.std.proofs.Common.{◌≡◌, ℕ, ◌+◌, ◌/◌, ◌-◌, ◌<◌, ◌≤◌, ◌≢◌, ◌⊎◌, inl, inr, Bool, true, false, List, length, get_or, replicate, ap, sym, ◌∙◌, arith, get_or-set_same, get_or-set_other, length-set}
use Rattle.std.proofs.Math.ListN.{set}
use Rattle.std.proofs.lemmas.Bool.{cases_eq, cases_lt}
use Rattle.std.proofs.lemmas.List.{length-replicate, get_or-replicate, get_or_past}
use Rattle.page_alloc.specs.Flags.{AllUsedBelow, IsFirstFree}
use Rattle.page_alloc.specs.Hints.{IsHint, IsSound}
use Rattle.page_alloc.proofs.Counts.{count_free-take, count_free-give, count_free-fresh}

-- a used unit stays used when another is taken
used_more : (used : List Bool) (at k : ℕ) → at < length used → get_or used k true ≡ true → get_or (set used at true) k true ≡ true
used_more used at k h e = elim (cases_eq k at) [
  | inl same ↦ rw same (get_or-set_same used at true true h)
  | inr other ↦ rw (get_or-set_other used at k true true other) e
]

-- what is free after another is taken was free
free_before : (used : List Bool) (at k : ℕ) → at < length used → get_or (set used at true) k true ≡ false → get_or used k true ≡ false
free_before used at k h e = elim (cases_eq k at) [
  | inl same ↦ let t : get_or (set used at true) at true ≡ true = get_or-set_same used at true true h in
      let u : get_or (set used at true) at true ≡ false = rw same at e in cc
  | inr other ↦ rw (get_or-set_other used at k true true other) at e
]

hints_taken : (size : ℕ) (hints used : List Bool) (at : ℕ) → at < length used → IsHint size hints used → IsHint size hints (set used at true)
hints_taken size hints used at h hint = record { sound = λ k e. used_more used at k h (hint.sound k e) }

-- no hint of the unit's run is left
hints_given : (size : ℕ) (hints used : List Bool) (at : ℕ) → at / size < length hints → IsHint size hints used → IsHint size (set hints (at / size) false) (set used at false)
hints_given size hints used at h hint = record {
  sound = λ k e. elim (cases_eq (k / size) (at / size)) [
    | inl same ↦ let t : get_or (set hints (at / size) false) (at / size) false ≡ false = get_or-set_same hints (at / size) false false h in
        let u : get_or (set hints (at / size) false) (at / size) false ≡ true = rw same at e in cc
    | inr other ↦
        let n : k ≢ at = λ s. other (ap (λ x. x / size) s) in
        rw (get_or-set_other used at k false true n) (hint.sound k (rw (get_or-set_other hints (at / size) (k / size) false false other) at e))
  ];
}

-- no hint of a run is set at first
hints_fresh : (size n : ℕ) (used : List Bool) → IsHint size (replicate n false) used
hints_fresh size n used = record {
  sound = λ k set. elim (cases_lt (k / size) n) [
    | inl below ↦ let none : get_or (replicate n false) (k / size) false ≡ false = get_or-replicate n (k / size) false false below in cc
    | inr above ↦ let none : get_or (replicate n false) (k / size) false ≡ false = get_or_past (replicate n false) (k / size) false (omega (arith, length-replicate n false)) in cc
  ];
}

pub sound_fresh : (n : ℕ) (full crowded : List Bool) → n ≤ 4000000 → full ≡ replicate (n / 128 + 1) false → crowded ≡ replicate (n / 16384 + 1) false → IsSound (replicate n false) (replicate n 0) full crowded 0 0 n
sound_fresh n full crowded small f c =
    let len : length (replicate n false) ≡ n = length-replicate n false in
    let zeros : List ℕ = replicate n 0 in
    let refs : length zeros ≡ n = length-replicate n 0 in
    record {
      small = omega (arith, len);
      same_len = refs ∙ sym len;
      groups = rw (f, len) (length-replicate (n / 128 + 1) false);
      blocks = rw (c, len) (length-replicate (n / 16384 + 1) false);
      group_hints = rw f (hints_fresh 128 (n / 128 + 1) (replicate n false));
      block_hints = rw c (hints_fresh 16384 (n / 16384 + 1) (replicate n false));
      low = λ k below. absurd (omega arith);
      between = λ k behind below. absurd (omega arith);
      free = sym (count_free-fresh n);
      unowned = λ k none. elim (cases_lt k n) [
        | inl below ↦ get_or-replicate n k 0 0 below
        | inr above ↦ get_or_past zeros k 0 (omega (arith, refs))
      ];
    }

pub sound_adopt : (used : List Bool) (refs : List ℕ) (full crowded : List Bool) (start next count at : ℕ) → IsSound used refs full crowded start next count → at < length used → get_or used at true ≡ false → IsSound (set used at true) refs full crowded start next (count - 1)
sound_adopt used refs full crowded start next count at s inside free =
    let len : length (set used at true) ≡ length used = length-set used at true in
    record {
      small = omega (arith, s.small);
      same_len = cc (s.same_len);
      groups = rw len s.groups;
      blocks = rw len s.blocks;
      group_hints = hints_taken 128 full used at inside s.group_hints;
      block_hints = hints_taken 16384 crowded used at inside s.block_hints;
      low = λ k h. used_more used at k inside (s.low k h);
      between = λ k behind below. used_more used at k inside (s.between k behind below);
      free = omega (arith, count_free-take used at inside free, s.free);
      unowned = λ k e. s.unowned k (free_before used at k inside e);
    }

-- no free unit precedes the place up to which none lies behind a used one
pub used_up_to : (used : List Bool) (start next k : ℕ) → AllUsedBelow used start → ((j : ℕ) → start < j → j < next → get_or used j true ≡ true) → get_or used start true ≡ true → (k < start) ⊎ (k < next) → get_or used k true ≡ true
used_up_to used start next k low between here inside = elim (cases_lt k start) [
  | inl below ↦ low k below
  | inr above ↦ elim (cases_eq k start) [
    | inl same ↦ rw same here
    | inr other ↦ elim inside [ inl before ↦ absurd (omega arith) | inr behind ↦ between k (omega arith) behind ]
  ]
]

-- the first free unit isn't one of those that are known to be used
first_from : (used : List Bool) (start at : ℕ) → AllUsedBelow used start → get_or used at true ≡ false → start ≤ at
first_from used start at low free = elim (cases_lt at start) [
  | inl below ↦ let taken : get_or used at true ≡ true = low at below in absurd cc
  | inr above ↦ above
]

pub sound_take : (used : List Bool) (refs : List ℕ) (full crowded full_now crowded_now : List Bool) (start next count at low : ℕ) → IsSound used refs full crowded start next count → IsFirstFree used at → length full_now ≡ length full → length crowded_now ≡ length crowded → IsHint 128 full_now used → IsHint 16384 crowded_now used → ((k : ℕ) → k < low → (k ≤ at) ⊎ (k < next)) → next ≤ low → IsSound (set used at true) refs full_now crowded_now low next (count - 1)
sound_take used refs full crowded full_now crowded_now start next count at low s first fl cl gh bh up all =
    let len : length (set used at true) ≡ length used = length-set used at true in
    record {
      small = omega (arith, s.small);
      same_len = cc (s.same_len);
      groups = rw len (fl ∙ s.groups);
      blocks = rw len (cl ∙ s.blocks);
      group_hints = hints_taken 128 full_now used at first.inside gh;
      block_hints = hints_taken 16384 crowded_now used at first.inside bh;
      low = λ k h. elim (cases_eq k at) [
        | inl same ↦ rw same (get_or-set_same used at true true first.inside)
        | inr other ↦ used_more used at k first.inside (elim (cases_lt k at) [
          | inl below ↦ first.others k below
          | inr above ↦ elim (up k h) [
            | inl before ↦ absurd (omega arith)
            | inr behind ↦ s.between k (let from : start ≤ at = first_from used start at s.low first.free in omega arith) behind
          ]
        ])
      ];
      between = λ k behind below. absurd (omega arith);
      free = omega (arith, count_free-take used at first.inside first.free, s.free);
      unowned = λ k e. s.unowned k (free_before used at k first.inside e);
    }

pub sound_give : (used : List Bool) (refs : List ℕ) (full crowded : List Bool) (start next count at low up : ℕ) → IsSound used refs full crowded start next count → at < length used → get_or used at true ≡ true → low ≤ start → low ≤ at → (at < start → (at ≤ low) × (up ≤ start)) → (start ≤ at → (start ≤ low) × (up ≤ next) × (up ≤ at)) → IsSound (set used at false) (set refs at 0) (set full (at / 128) false) (set crowded (at / 16384) false) low up (count + 1)
sound_give used refs full crowded start next count at low up s inside was before below first later =
    let len : length (set used at false) ≡ length used = length-set used at false in
    record {
      small = omega (arith, s.small);
      same_len = cc (length-set refs at 0, s.same_len);
      groups = rw (len, length-set full (at / 128) false) s.groups;
      blocks = rw (len, length-set crowded (at / 16384) false) s.blocks;
      group_hints = hints_given 128 full used at (omega (arith, s.groups)) s.group_hints;
      block_hints = hints_given 16384 crowded used at (omega (arith, s.blocks)) s.block_hints;
      low = λ k h. let n : k ≢ at = omega arith in rw (get_or-set_other used at k false true n) (s.low k (omega arith));
      between = λ k behind inner. elim (cases_lt at start) [
        | inl precedes ↦
            let ends = first precedes in
            let n : k ≢ at = omega (arith, ends.0) in
            rw (get_or-set_other used at k false true n) (s.low k (omega (arith, ends.1)))
        | inr follows ↦
            let ends = later follows in
            let n : k ≢ at = omega (arith, ends.2) in
            rw (get_or-set_other used at k false true n) (s.between k (omega (arith, ends.0)) (omega (arith, ends.1)))
      ];
      free = omega (arith, count_free-give used at inside was, s.free);
      unowned = λ k e. elim (cases_eq k at) [
        | inl same ↦ let h : at < length refs = omega (arith, s.same_len) in rw same (get_or-set_same refs at 0 0 h)
        | inr other ↦ rw (get_or-set_other refs at k 0 0 other) (s.unowned k (rw (get_or-set_other used at k false true other) at e))
      ];
    }
