-- Where the first line feed stands.
use Rattle.std.proofs.Common.{◌≡◌, ℕ, ◌+◌, ◌-◌, ◌<◌, ◌≤◌, ◌⊎◌, inl, inr, List, length, take, drop, get_or, true, false, Option, Some, None, MatchOption, ap, sym, ◌∙◌, arith, min, length-drop}
use Rattle.std.proofs.lemmas.Bool.{cases_lt, false_from_ne_true}
use Rattle.memchr.specs.Find.{IsFirstByte, is_byte}
use Rattle.std.proofs.lemmas.List.{length-take, get_or-take, get_or-drop}
use Rattle.script_lines.specs.Lines.{line_feed}
use Rattle.script_lines.specs.Remains.{ClearTo}

abbrev pub IsFeedOf : List ℕ → Option ℕ → Type 0
IsFeedOf xs o = MatchOption o (ClearTo xs (length xs)) (λ k. (k < length xs) × ClearTo xs k × (line_feed (get_or xs k 0) ≡ true))

-- what a search for the byte of a line feed finds
pub feed_found : (xs : List ℕ) (o : Option ℕ) → IsFirstByte (is_byte 10) xs o → IsFeedOf xs o
feed_found xs (Some k) found = (found.0.high, (λ j lt. false_from_ne_true _ (found.0.before j (omega arith) lt)), found.1)
feed_found xs None found = λ j lt. false_from_ne_true _ (found j (omega arith) lt)

module _ (bytes : List ℕ) (clear counted : ℕ) where
  abbrev pub rest : List ℕ
  rest = take (counted - clear) (drop clear bytes)

  pub rest_at : (j : ℕ) → j < counted - clear → get_or rest j 0 ≡ get_or bytes (clear + j) 0
  rest_at j lt = get_or-take (counted - clear) (drop clear bytes) j 0 lt ∙ get_or-drop clear bytes j 0

  pub clear_more : (m : ℕ) → m ≤ counted - clear → ClearTo bytes clear → ClearTo rest m → ClearTo bytes (clear + m)
  clear_more m le front more j lt = go (cases_lt j clear)
    where
      go : (j < clear) ⊎ (clear ≤ j) → line_feed (get_or bytes j 0) ≡ false
      go (inl h) = front j h
      go (inr h) =
          let i : ℕ = j - clear in
          let place : clear + i ≡ j = omega arith in
          let here : get_or rest i 0 ≡ get_or bytes j 0 = rest_at i (omega arith) ∙ ap (λ (n : ℕ). get_or bytes n 0) place in
          ap line_feed (sym here) ∙ more i (omega arith)

  pub length-rest : counted ≤ length bytes → length rest ≡ counted - clear
  length-rest h = length-take (counted - clear) (drop clear bytes)
      ∙ (let fits : min (counted - clear) (length (drop clear bytes)) ≡ counted - clear = omega (arith, length-drop clear bytes) in fits)

  pub all_clear : (n : ℕ) → clear ≤ counted → counted ≤ length bytes → n ≤ counted → ClearTo bytes clear → ClearTo rest (length rest) → ClearTo bytes n
  all_clear n le inside most front more j lt =
      let size : length rest ≡ counted - clear = length-rest inside in
      clear_more (counted - clear) (omega arith) front (λ i small. more i (omega arith)) j (omega arith)

  pub feed_there : (k : ℕ) → counted ≤ length bytes → k < length rest → line_feed (get_or rest k 0) ≡ true → line_feed (get_or bytes (clear + k) 0) ≡ true
  feed_there k inside lt hit =
      let size : length rest ≡ counted - clear = length-rest inside in
      ap line_feed (sym (rest_at k (omega arith))) ∙ hit
