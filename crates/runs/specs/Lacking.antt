-- Words without a byte below the digits, as a line feed and a space are.
use Rattle.std.proofs.Common.{◌≡◌, ◌∙◌, ℕ, zero, suc, ◌+◌, ◌/◌, ◌%◌, ◌<◌, ◌≤◌, Bool, true, false, cond, not, ◌&&◌, ◌||◌, nat_le, nat_lt, List, [], ◌∷◌, ◌++◌, length, take, drop, map, get_or, refl, arith, IsTrue}
use Rattle.std.specs.Prelude.{◌==◌}
use Rattle.std.specs.List.{list_all, join_with_byte, All}
use Rattle.std.specs.Fmt.{digits, digits_onto, digit_glyph, decimal}
use Rattle.std.proofs.lemmas.Bool.{and_from, and_parts, not-true}
use Rattle.std.proofs.lemmas.Bool.Decides.{nat_tests}
use Rattle.std.proofs.lemmas.List.Folds.{list_all-append}
use Rattle.std.proofs.lemmas.List.Sums.{AllPass-from_list_all}
use Rattle.hex.specs.Hex.{encode_with, encode_lower, lower_digits}
use Rattle.ex_base.specs.declared.Oid.{Oid}
use Rattle.table_model.specs.declared.table.TableFile.{TableFile}
use Rattle.table_model.specs.Words.{is_name, is_name_byte, is_client_name, is_kept_name}
use Rattle.script_replies.specs.ReplyText.{oid_word, hex_words}

-- the byte stands nowhere in the word
abbrev pub lacks : ℕ → List ℕ → Bool
lacks c word = list_all (λ b. not (b == c)) word

-- in none of the words
abbrev pub all_lack : ℕ → List (List ℕ) → Bool
all_lack c words = list_all (lacks c) words

pub each_differs : (c : ℕ) (word : List ℕ) → lacks c word ≡ true → All (λ b. (b == c) ≡ false) word
each_differs c word h = λ k d inside. not-true (get_or word k d == c) (AllPass-from_list_all (λ b. not (b == c)) word h k d inside)

pub lacks_more : (c : ℕ) (word : List ℕ) (words : List (List ℕ)) → lacks c word ≡ true → all_lack c words ≡ true → all_lack c (word ∷ words) ≡ true
lacks_more c word words one rest = and_from (lacks c word) (all_lack c words) one rest

lacks_append : (c : ℕ) (xs ys : List ℕ) → lacks c xs ≡ true → lacks c ys ≡ true → lacks c (xs ++ ys) ≡ true
lacks_append c xs ys one two = list_all-append (λ b. not (b == c)) xs ys ∙ and_from (lacks c xs) (lacks c ys) one two

pub lacks_take : (c n : ℕ) (xs : List ℕ) → lacks c xs ≡ true → lacks c (take n xs) ≡ true
lacks_take c zero xs h = refl
lacks_take c (suc n) [] h = refl
lacks_take c (suc n) (x ∷ xs) h = and_from (not (x == c)) (lacks c (take n xs)) ((and_parts (not (x == c)) (lacks c xs) h).0) (lacks_take c n xs ((and_parts (not (x == c)) (lacks c xs) h).1))

pub lacks_drop : (c n : ℕ) (xs : List ℕ) → lacks c xs ≡ true → lacks c (drop n xs) ≡ true
lacks_drop c zero xs h = h
lacks_drop c (suc n) [] h = refl
lacks_drop c (suc n) (x ∷ xs) h = lacks_drop c n xs ((and_parts (not (x == c)) (lacks c xs) h).1)

-- Words that are joined by another byte lack it too.
pub lacks_join : (c by : ℕ) (words : List (List ℕ)) → not (by == c) ≡ true → all_lack c words ≡ true → lacks c (join_with_byte by words) ≡ true
lacks_join c by [] other h = refl
lacks_join c by (w ∷ []) other h = (and_parts (lacks c w) true h).0
lacks_join c by (w ∷ v ∷ ws) other h =
    let rest : all_lack c (v ∷ ws) ≡ true = (and_parts (lacks c w) (all_lack c (v ∷ ws)) h).1 in
    lacks_append c w (by ∷ join_with_byte by (v ∷ ws)) ((and_parts (lacks c w) (all_lack c (v ∷ ws)) h).0)
    (and_from (not (by == c)) (lacks c (join_with_byte by (v ∷ ws))) other (lacks_join c by (v ∷ ws) other rest))

-- ---- numbers

above : (c b : ℕ) → c < 46 → 46 ≤ b → not (b == c) ≡ true
above c b low high = grind (arith, nat_tests)

glyph_high : (d : ℕ) → 46 ≤ digit_glyph false d
glyph_high d = high (nat_lt d 10)
  where
    high : (less : Bool) → 46 ≤ cond less (48 + d) (87 + d)
    high true = omega arith
    high false = omega arith

by_test : (c : ℕ) (last : Bool) (one more : List ℕ) → lacks c one ≡ true → lacks c more ≡ true → lacks c (cond last one more) ≡ true
by_test c true one more h k = h
by_test c false one more h k = k

lacks_digits : (c k n : ℕ) (rest : List ℕ) → c < 46 → lacks c rest ≡ true → lacks c (digits_onto k 10 false n rest) ≡ true
lacks_digits c zero n rest low h = h
lacks_digits c (suc k) n rest low h =
    let digit : ℕ = digit_glyph false (n % 10) in
    let here : lacks c (digit ∷ rest) ≡ true = and_from (not (digit == c)) (lacks c rest) (above c digit low (glyph_high (n % 10))) h in
    by_test c (n / 10 == 0) (digit ∷ rest) (digits_onto k 10 false (n / 10) (digit ∷ rest)) here (lacks_digits c k (n / 10) (digit ∷ rest) low here)

pub lacks_decimal : (c n : ℕ) → c < 46 → lacks c (decimal n) ≡ true
unfolding digits
lacks_decimal c n low = lacks_digits c 64 n [] low refl

pub lacks_decimals : (c : ℕ) (ns : List ℕ) → c < 46 → all_lack c (map decimal ns) ≡ true
lacks_decimals c [] low = refl
lacks_decimals c (n ∷ ns) low = lacks_more c (decimal n) (map decimal ns) (lacks_decimal c n low) (lacks_decimals c ns low)

pub lacks_oid : (c : ℕ) (oid : Oid) → c < 46 → lacks c (oid_word oid) ≡ true
lacks_oid c oid low = lacks_join c 46 (decimal oid.page.0 ∷ decimal oid.slot ∷ decimal oid.unique ∷ []) (above c 46 low (omega arith))
    (lacks_more c (decimal oid.page.0) (decimal oid.slot ∷ decimal oid.unique ∷ []) (lacks_decimal c oid.page.0 low)
    (lacks_more c (decimal oid.slot) (decimal oid.unique ∷ []) (lacks_decimal c oid.slot low)
    (lacks_more c (decimal oid.unique) [] (lacks_decimal c oid.unique low) refl)))

pub lacks_oids : (c : ℕ) (oids : List Oid) → c < 46 → all_lack c (map oid_word oids) ≡ true
lacks_oids c [] low = refl
lacks_oids c (oid ∷ oids) low = lacks_more c (oid_word oid) (map oid_word oids) (lacks_oid c oid low) (lacks_oids c oids low)

-- ---- hexadecimal digits

lacks_at : (xs : List ℕ) (i : ℕ) → lacks 10 xs ≡ true → not (get_or xs i 0 == 10) ≡ true
lacks_at [] i h = refl
lacks_at (x ∷ xs) zero h = (and_parts (not (x == 10)) (lacks 10 xs) h).0
lacks_at (x ∷ xs) (suc i) h = lacks_at xs i ((and_parts (not (x == 10)) (lacks 10 xs) h).1)

lacks_hex : (bytes : List ℕ) → lacks 10 (encode_lower bytes) ≡ true
unfolding encode_with
lacks_hex [] = refl
lacks_hex (b ∷ bs) = and_from (not (get_or lower_digits (b / 16) 0 == 10)) _ (lacks_at lower_digits (b / 16) refl)
    (and_from (not (get_or lower_digits (b % 16) 0 == 10)) (lacks 10 (encode_lower bs)) (lacks_at lower_digits (b % 16) refl) (lacks_hex bs))

pub lacks_hex_words : (bytes : List ℕ) → all_lack 10 (hex_words bytes) ≡ true
lacks_hex_words [] = refl
lacks_hex_words (b ∷ bs) = lacks_more 10 (encode_lower (b ∷ bs)) [] (lacks_hex (b ∷ bs)) refl

-- ---- names

name_byte : (b : ℕ) → is_name_byte b ≡ true → not (b == 10) ≡ true
name_byte b h = grind (arith, nat_tests)

lacks_name_bytes : (word : List ℕ) → list_all is_name_byte word ≡ true → lacks 10 word ≡ true
lacks_name_bytes [] h = refl
lacks_name_bytes (b ∷ bs) h = and_from (not (b == 10)) (lacks 10 bs) (name_byte b ((and_parts (is_name_byte b) (list_all is_name_byte bs) h).0)) (lacks_name_bytes bs ((and_parts (is_name_byte b) (list_all is_name_byte bs) h).1))

pub lacks_name : (word : List ℕ) → IsTrue (is_name word) → lacks 10 word ≡ true
lacks_name word h = lacks_name_bytes word ((and_parts (nat_le 1 (length word) && nat_le (length word) 32) (list_all is_name_byte word) h).1)

letter_byte : (b : ℕ) → (nat_le 65 b && nat_le b 80) ≡ true → not (b == 10) ≡ true
letter_byte b h = grind (arith, nat_tests)

lacks_client_name : (word : List ℕ) → IsTrue (is_client_name word) → lacks 10 word ≡ true
lacks_client_name [] h = cc
lacks_client_name (b ∷ name) h =
    let parts = and_parts (nat_le 65 b && nat_le b 80) (is_name name) h in
    and_from (not (b == 10)) (lacks 10 name) (letter_byte b parts.0) (lacks_name name parts.1)

pub lacks_kept : (word : List ℕ) → IsTrue (is_kept_name word) → lacks 10 word ≡ true
lacks_kept word h = by_kind (is_name word) refl h
  where
    by_kind : (b : Bool) → is_name word ≡ b → (b || is_client_name word) ≡ true → lacks 10 word ≡ true
    by_kind true is h = lacks_name word is
    by_kind false is h = lacks_client_name word h

pub lacks_names : (files : List TableFile) → All (λ f. IsTrue (is_name f.name)) files → all_lack 10 (map (λ f. f.name) files) ≡ true
lacks_names [] h = refl
lacks_names (f ∷ fs) h = lacks_more 10 f.name (map (λ f. f.name) fs) (lacks_name f.name (h 0 f (omega arith))) (lacks_names fs (λ k d inside. h (suc k) d (omega (arith, inside))))
