-- The first words of what a client says.
use Rattle.std.proofs.Common.{◌≡◌, ◌∙◌, ◌≤◌, ◌<◌, ℕ, Bool, true, false, suc, List, [], ◌∷◌, All, length, get_or, refl, sym, ap, subst, arith, IsTrue, true≢false}
use Rattle.std.specs.Prelude.{bytes_eq, codes, filter, nat_lt, not, ◌==◌, ◌&&◌, ◌||◌}
use Rattle.std.specs.List.{list_all, onto_first, slice_split}
use Rattle.std.proofs.lemmas.Bool.{and_parts, not-true}
use Rattle.std.proofs.lemmas.List.Sums.{AllPass-from_list_all}
use Rattle.std.proofs.lemmas.Bool.Decides.{nat_tests}
use Rattle.std.proofs.lemmas.List.Splits.{length-slice_split, slice_split-cons_no, slice_split_at, slice_split_none}
use Rattle.std.proofs.lemmas.Slice.Eq.{bytes_eq-Decides}
use Rattle.table_model.specs.Requests.{Request}
use Rattle.script_lang.specs.Grammar.{spells}
use Rattle.script_lang.specs.LineWords.{is_blank, is_nonempty, words_of}
use Rattle.script_lang.specs.Reading.{Asks, Says, is_comment, is_silent}
use Rattle.runs.specs.Acknowledged.{is_space}
use Rattle.clients.specs.Names.{HasNoName}
use Rattle.clients.specs.Turns.{is_plain}
use Rattle.clients.proofs.Nameless.{alone_nameless, is_of_one, numbered_nameless}
use Rattle.clients.proofs.Numbers.{joined}

nonempty : (n : ℕ) → nat_lt 0 (suc n) ≡ true
nonempty n = grind (arith, nat_tests)

-- ---- a first word without blanks, and a byte behind a space

abbrev is_solid : List ℕ → Bool
is_solid word = list_all (λ b. not (is_blank b)) word && is_nonempty word

no_blanks : (word : List ℕ) → list_all (λ b. not (is_blank b)) word ≡ true → All (λ b. is_blank b ≡ false) word
no_blanks word solid = λ k d inside. not-true (is_blank (get_or word k d)) (AllPass-from_list_all (λ b. not (is_blank b)) word solid k d inside)

one_of_two : {P : Type 0} (a b : Bool) → (a ≡ true → P) → (b ≡ true → P) → (a || b) ≡ true → P
one_of_two true b first second is = first refl
one_of_two false b first second is = second is

-- The first words of commands of one version are so.
solid : (word : List ℕ) → is_of_one word ≡ true → is_solid word ≡ true
solid word =
    let by_key : (key : List ℕ) → is_solid key ≡ true → bytes_eq word key ≡ true → is_solid word ≡ true = λ key is same. ap is_solid ((bytes_eq-Decides word key).0 same) ∙ is in
    one_of_two _ (bytes_eq word (codes "delete"))
    (one_of_two _ (bytes_eq word (codes "replace"))
    (one_of_two _ (bytes_eq word (codes "append"))
    (one_of_two _ (bytes_eq word (codes "insert"))
    (one_of_two (bytes_eq word (codes "read")) (bytes_eq word (codes "size")) (by_key (codes "read") refl) (by_key (codes "size") refl)) (by_key (codes "insert") refl)) (by_key (codes "append") refl))
    (by_key (codes "replace") refl)) (by_key (codes "delete") refl)

-- They aren't comments.
no_comment : (word : List ℕ) → is_of_one word ≡ true → is_comment word ≡ false
no_comment word =
    let by_key : (key : List ℕ) → is_comment key ≡ false → bytes_eq word key ≡ true → is_comment word ≡ false = λ key is same. ap is_comment ((bytes_eq-Decides word key).0 same) ∙ is in
    one_of_two _ (bytes_eq word (codes "delete"))
    (one_of_two _ (bytes_eq word (codes "replace"))
    (one_of_two _ (bytes_eq word (codes "append"))
    (one_of_two _ (bytes_eq word (codes "insert"))
    (one_of_two (bytes_eq word (codes "read")) (bytes_eq word (codes "size")) (by_key (codes "read") refl) (by_key (codes "size") refl)) (by_key (codes "insert") refl)) (by_key (codes "append") refl))
    (by_key (codes "replace") refl)) (by_key (codes "delete") refl)

pub record BeginsWith (said word : List ℕ) (first : ℕ) : Type 0 where
  pub rest : List ℕ
  pub words : List (List ℕ)
  pub is : words_of said ≡ word ∷ (first ∷ rest) ∷ words

begins : (word : List ℕ) (first : ℕ) (parts : List (List ℕ)) → is_nonempty word ≡ true → 0 < length parts
    → (rest : List ℕ) × (words : List (List ℕ)) × (filter is_nonempty (word ∷ onto_first first parts) ≡ word ∷ (first ∷ rest) ∷ words)
begins word first [] some parts = absurd (omega (arith, parts))
begins word first (p ∷ ps) some parts = (p, filter is_nonempty ps, rw (some, nonempty (length p)) refl)

two_words : (said word more : List ℕ) → slice_split is_space said ≡ word ∷ slice_split is_space more → is_solid word ≡ true → 1 ≤ length more → is_blank (get_or more 0 0) ≡ false
    → BeginsWith said word (get_or more 0 0)
two_words said word [] cut solid some blank = absurd (omega (arith, some))
two_words said word (first ∷ rest) cut solid some blank =
    let parts = and_parts (list_all (λ b. not (is_blank b)) word) (is_nonempty word) solid in
    let split : slice_split is_blank said ≡ word ∷ onto_first first (slice_split is_blank rest) =
    ap (slice_split is_blank) (joined said word (first ∷ rest) cut) ∙ slice_split_at is_blank word 32 (first ∷ rest) (no_blanks word parts.0) refl
    ∙ ap (λ (l : List (List ℕ)). word ∷ l) (slice_split-cons_no is_blank first rest blank) in
    let found = begins word first (slice_split is_blank rest) parts.1 (let some = length-slice_split is_blank rest in omega (arith, some)) in
    record { rest = found.0; words = found.1; is = ap (filter is_nonempty) split ∙ found.2 }

-- ---- a look at what a client says

digit_is_no_blank : (b : ℕ) → 48 ≤ b → b ≤ 57 → (is_blank b ≡ false) × ((b == 64) ≡ false)
digit_is_no_blank b low high = (grind (arith, nat_tests), grind (arith, nat_tests))

-- A command of one version, by its number, has no such name,
pub by_number : (said word more : List ℕ) → slice_split is_space said ≡ word ∷ slice_split is_space more → is_of_one word ≡ true → 1 ≤ length more → 48 ≤ get_or more 0 0 → get_or more 0 0 ≤ 57
    → (r : Request) → Says (words_of said) (Asks r) → HasNoName r
by_number said word more cut is some low high r says =
    let digit = digit_is_no_blank (get_or more 0 0) low high in
    let found = two_words said word more cut (solid word is) some digit.0 in
    numbered_nameless word (get_or more 0 0 ∷ found.rest) found.words r is digit.1 (subst (λ (ws : List (List ℕ)). IsTrue (spells ws r)) found.is says.0)

-- and says something.
pub numbered_loud : (said word more : List ℕ) → slice_split is_space said ≡ word ∷ slice_split is_space more → is_of_one word ≡ true → 1 ≤ length more → 48 ≤ get_or more 0 0 → get_or more 0 0 ≤ 57
    → IsTrue (is_silent (words_of said)) → ⊥
numbered_loud said word more cut is some low high silent =
    let digit = digit_is_no_blank (get_or more 0 0) low high in
    let found = two_words said word more cut (solid word is) some digit.0 in
    true≢false (sym silent ∙ ap is_silent found.is ∙ no_comment word is)

-- ---- one word

all_plain : (said : List ℕ) → list_all is_plain said ≡ true → All (λ b. is_blank b ≡ false) said
all_plain said plain = λ k d inside.
    let above : nat_lt 35 (get_or said k d) ≡ true = AllPass-from_list_all is_plain said plain k d inside in
    plain_byte (get_or said k d) above
  where
    plain_byte : (b : ℕ) → nat_lt 35 b ≡ true → is_blank b ≡ false
    plain_byte b above = grind (arith, nat_tests)

one_word : (said : List ℕ) → (nat_lt 0 (length said) && list_all is_plain said) ≡ true → words_of said ≡ said ∷ []
one_word said is =
    let parts = and_parts (nat_lt 0 (length said)) (list_all is_plain said) is in
    let filtered : filter is_nonempty (said ∷ []) ≡ said ∷ [] = rw parts.0 refl in
    ap (filter is_nonempty) (slice_split_none is_blank said (all_plain said parts.1)) ∙ filtered

no_comment_word : (said : List ℕ) → (nat_lt 0 (length said) && list_all is_plain said) ≡ true → is_comment said ≡ false
no_comment_word [] is = refl
no_comment_word (b ∷ said) is =
    let above : nat_lt 35 b ≡ true = AllPass-from_list_all is_plain (b ∷ said) (and_parts (nat_lt 0 (length (b ∷ said))) (list_all is_plain (b ∷ said)) is).1 0 0 (omega arith) in
    no_hash b above
  where
    no_hash : (b : ℕ) → nat_lt 35 b ≡ true → (b == 35) ≡ false
    no_hash b above = grind (arith, nat_tests)

-- It has no such name,
pub by_one_word : (said : List ℕ) → (nat_lt 0 (length said) && list_all is_plain said) ≡ true → (r : Request) → Says (words_of said) (Asks r) → HasNoName r
by_one_word said is r says = alone_nameless said r (subst (λ (ws : List (List ℕ)). IsTrue (spells ws r)) (one_word said is) says.0)

-- and says something.
pub one_word_loud : (said : List ℕ) → (nat_lt 0 (length said) && list_all is_plain said) ≡ true → IsTrue (is_silent (words_of said)) → ⊥
one_word_loud said is silent = true≢false (sym silent ∙ ap is_silent (one_word said is) ∙ no_comment_word said is)

pub unturned : (b : Bool) → not b ≡ false → b ≡ true
unturned true is = refl
unturned false is = sym is
