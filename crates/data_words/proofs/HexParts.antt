-- Words of hexadecimal digits: they hold no colon, and give the bytes that they decode to.
use Rattle.std.proofs.Common.{◌≡◌, ℕ, ◌%◌, List, [], ◌∷◌, length, Bool, false, true, ◌&&◌, Ok, Err, ap, sym, subst, ◌∙◌, refl, true≢false, Result}
use Rattle.std.specs.Prelude.{All}
use Rattle.std.specs.List.{slice_split, list_all}
use Rattle.std.proofs.lemmas.Bool.{eqb-true, eq-eqb, and_from}
use Rattle.std.proofs.lemmas.List.Splits.{slice_split_none}
use Rattle.std.proofs.lemmas.List.Elements.{All-nil, All-cons}
use Rattle.std.proofs.lemmas.List.Sums.{list_all-from_AllPass}
use Rattle.hex.specs.Hex.{decode_of, is_hex_digit}
use Rattle.hex.specs.declared.error.FromHexError.{FromHexError}
use Rattle.hex.proofs.HexLemmas.{decode_of-ok}
use Rattle.table_model.specs.Words.{bytes_or_none, hex_bytes, is_hex, colon}

no_colon : (b : ℕ) → is_hex_digit b ≡ true → colon b ≡ false
no_colon b h = go (colon b) refl
  where
    go : (c : Bool) → colon b ≡ c → c ≡ false
    go true e = let at : b ≡ 58 = eqb-true b 58 e in absurd (true≢false (sym (subst (λ (n : ℕ). is_hex_digit n ≡ true) at h)))
    go false e = refl

no_colons : (xs : List ℕ) → list_all is_hex_digit xs ≡ true → All (λ b. colon b ≡ false) xs
no_colons [] h = All-nil (λ b. colon b ≡ false)
no_colons (x ∷ xs) h = go (is_hex_digit x) refl h (no_colons xs)
  where
    go : (b : Bool) → is_hex_digit x ≡ b → list_all is_hex_digit (x ∷ xs) ≡ true → (list_all is_hex_digit xs ≡ true → All (λ b. colon b ≡ false) xs) → All (λ b. colon b ≡ false) (x ∷ xs)
    go true e h rest = All-cons (λ b. colon b ≡ false) x xs (no_colon x e) (rest (rw e at h))
    go false e h rest = absurd (true≢false (sym (rw e at h)))

pub and_right : (a b : Bool) → (a && b) ≡ true → b ≡ true
and_right true b h = h
and_right false b h = absurd (true≢false (sym h))

pub and_left : (a b : Bool) → (a && b) ≡ true → a ≡ true
and_left true b h = refl
and_left false b h = absurd (true≢false (sym h))

-- hexadecimal digits are one part
pub hex_part : (xs : List ℕ) → is_hex xs ≡ true → slice_split colon xs ≡ xs ∷ []
hex_part xs h = slice_split_none colon xs (no_colons xs (and_right _ _ h))

-- what they are decoded to
pub hex_bytes-decoded : (xs bytes : List ℕ) → decode_of xs ≡ Ok bytes → bytes ≡ hex_bytes xs
hex_bytes-decoded xs bytes e = sym (ap bytes_or_none e)

-- other words give no bytes
pub hex_bytes-other : (xs : List ℕ) → is_hex xs ≡ false → hex_bytes xs ≡ []
hex_bytes-other xs other = go (decode_of xs) refl
  where
    go : (r : Result (List ℕ) FromHexError) → decode_of xs ≡ r → hex_bytes xs ≡ []
    go (Err e) is = ap bytes_or_none is
    go (Ok bytes) is =
        let good = decode_of-ok xs bytes is in
        let hex : is_hex xs ≡ true = and_from _ _ (eq-eqb (length xs % 2) 0 good.0) (list_all-from_AllPass is_hex_digit xs good.1) in
        absurd (true≢false (sym hex ∙ other))
