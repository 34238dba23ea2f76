-- How many bytes a data word gives, from its parts.
use Rattle.std.proofs.Common.{◌≡◌, ◌∙◌, ℕ, ◌*◌, ◌/◌, ◌%◌, List, [], ◌∷◌, length, true, false, refl, sym, ap, arith, true≢false}
use Rattle.std.specs.Prelude.{◌==◌, codes, bytes_eq}
use Rattle.std.specs.List.{slice_split, list_all, join_with_byte}
use Rattle.std.proofs.lemmas.Bool.{eqb-true}
use Rattle.std.proofs.lemmas.Slice.Eq.{bytes_eq-Decides}
use Rattle.std.proofs.lemmas.List.{length-replicate}
use Rattle.std.proofs.lemmas.List.Splits.{join_with_byte-slice_split}
use Rattle.std.proofs.lemmas.List.Sums.{AllPass-from_list_all}
use Rattle.hex.specs.Hex.{is_hex_digit}
use Rattle.hex.proofs.HexLemmas.{decode_of-ok, decode_of-digits}
use Rattle.data_words.proofs.HexParts.{and_left, and_right}
use Rattle.table_model.specs.Words.{are_data_parts, bytes_or_none, colon, data_count, data_of_parts, hex_byte, hex_bytes, is_data, is_hex, number_of}

-- two hexadecimal digits write a byte
hex_length : (digits : List ℕ) → is_hex digits ≡ true → length (hex_bytes digits) ≡ length digits / 2
hex_length digits h =
    let even : length digits % 2 ≡ 0 = eqb-true (length digits % 2) 0 (and_left (length digits % 2 == 0) (list_all is_hex_digit digits) h) in
    let all = AllPass-from_list_all is_hex_digit digits (and_right (length digits % 2 == 0) (list_all is_hex_digit digits) h) in
    let found = decode_of-digits digits even all in
    let twice : length digits ≡ 2 * length found.0 = (decode_of-ok digits found.0 found.1).2 in
    ap (λ r. length (bytes_or_none r)) found.1 ∙ (let half : length found.0 ≡ length digits / 2 = omega arith in half)

-- a part alone is all
only_part : (xs a : List ℕ) → slice_split colon xs ≡ a ∷ [] → a ≡ xs
only_part xs a e = sym (ap (join_with_byte 58) e) ∙ join_with_byte-slice_split 58 xs

module _ (word key rest : List ℕ) (split : slice_split colon word ≡ key ∷ slice_split colon rest) (is : is_data word ≡ true) where
  parts : are_data_parts (key ∷ slice_split colon rest) ≡ true
  parts = sym (ap are_data_parts split) ∙ is

  -- behind `hex`
  pub hex_counted : bytes_eq key (codes "hex") ≡ true → length rest / 2 ≡ data_count word
  hex_counted named = sym (ap (λ ps. length (data_of_parts ps)) split ∙ go (slice_split colon rest) refl parts)
    where
      go : (ps : List (List ℕ)) → slice_split colon rest ≡ ps → are_data_parts (key ∷ ps) ≡ true → length (data_of_parts (key ∷ ps)) ≡ length rest / 2
      go [] e h = absurd (true≢false (sym h))
      go (digits ∷ []) e h = hex_length digits (and_right _ _ h) ∙ ap (λ (d : List ℕ). length d / 2) (only_part rest digits e)
      go (count ∷ byte ∷ []) e h =
          let hex : key ≡ codes "hex" = (bytes_eq-Decides key (codes "hex")).0 named in
          let rep : bytes_eq key (codes "rep") ≡ true = and_left _ _ (and_left _ _ (and_left _ _ h)) in
          absurd (true≢false (sym rep ∙ ap (λ (k : List ℕ). bytes_eq k (codes "rep")) hex))
      go (a ∷ b ∷ c ∷ more) e h = absurd (true≢false (sym h))

  module _ (other : bytes_eq key (codes "hex") ≡ false) where
    no_hex : (digits : List ℕ) → are_data_parts (key ∷ digits ∷ []) ≡ true → ⊥
    no_hex digits h = true≢false (sym (and_left _ _ h) ∙ other)

    -- a word that is not of `hex` has a third part
    pub three_parts : slice_split colon rest ≡ rest ∷ [] → ⊥
    three_parts alone = no_hex rest (sym (ap (λ ps. are_data_parts (key ∷ ps)) alone) ∙ parts)

    -- behind `rep`
    pub rep_counted : (count byte : List ℕ) → slice_split colon rest ≡ count ∷ slice_split colon byte → number_of count ≡ data_count word
    rep_counted count byte second =
        sym (ap (λ ps. length (data_of_parts ps)) (split ∙ ap (λ ps. key ∷ ps) second) ∙ go (slice_split colon byte) (sym (ap (λ ps. are_data_parts (key ∷ ps)) second) ∙ parts))
      where
        go : (ps : List (List ℕ)) → are_data_parts (key ∷ count ∷ ps) ≡ true → length (data_of_parts (key ∷ count ∷ ps)) ≡ number_of count
        go [] h = absurd (no_hex count h)
        go (b ∷ []) h = length-replicate (number_of count) (hex_byte b)
        go (a ∷ b ∷ more) h = absurd (true≢false (sym h))
