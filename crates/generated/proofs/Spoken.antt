-- Each line of the script says something.
use Rattle.std.proofs.Common.{◌≡◌, ◌∙◌, ℕ, zero, suc, ◌+◌, ◌-◌, Bool, true, false, cond, ◌&&◌, nat_le, nat_lt, List, [], ◌∷◌, ◌++◌, drop, length, refl, sym, ap, subst, arith, IsTrue}
use Rattle.std.specs.Prelude.{◌==◌, ◌%◌, codes, filter}
use Rattle.std.specs.List.{list_all, onto_first, slice_split}
use Rattle.std.proofs.lemmas.Bool.{and_from, and_parts}
use Rattle.std.proofs.lemmas.Bool.Decides.{nat_tests}
use Rattle.std.proofs.lemmas.List.Folds.{list_all-append}
use Rattle.std.proofs.lemmas.List.Splits.{slice_split-cons_no}
use Rattle.script_lang.specs.LineWords.{is_blank, is_nonempty, words_of}
use Rattle.script_lang.specs.Reading.{is_silent}
use Rattle.generated.specs.Commands.{Basis, basis_after, byte_for, command_line, edit_for, line_for, object_for}
use Rattle.generated.specs.Script.{breaks, commands_from, head_lines, tail_lines}
use Rattle.generated.specs.Coming.{lines_at, lines_on}
use Rattle.generated.specs.declared.edit.Edit.{Edit}
use Rattle.generated.specs.declared.edit.Edit.TheVariants.{Append, Insert, Replace, Delete, Freeze, Read}
use Rattle.generated.specs.declared.stage.Stage.{Stage}
use Rattle.generated.specs.declared.stage.Stage.TheVariants.{Head, Commit, Begin, Command, Tail, Over}

-- It begins with a small letter.
abbrev has_letter : List ℕ → Bool
has_letter [] = false
has_letter (b ∷ bs) = nat_le 97 b

abbrev have_letters : List (List ℕ) → Bool
have_letters lines = list_all has_letter lines

-- ---- such a line is not silent

no_blank : (b : ℕ) → nat_le 97 b ≡ true → is_blank b ≡ false
no_blank b h = grind (arith, nat_tests)

no_comment : (b : ℕ) → nat_le 97 b ≡ true → (b == 35) ≡ false
no_comment b h = grind (arith, nat_tests)

has_bytes : (n : ℕ) → nat_lt 0 (suc n) ≡ true
has_bytes n = grind (arith, nat_tests)

silent_first : (b : ℕ) (parts : List (List ℕ)) → nat_le 97 b ≡ true → is_silent (filter is_nonempty (onto_first b parts)) ≡ false
silent_first b [] h = no_comment b h
silent_first b (part ∷ parts) h =
    ap (λ (some : Bool). is_silent (cond some ((b ∷ part) ∷ filter is_nonempty parts) (filter is_nonempty parts))) (has_bytes (length part)) ∙ no_comment b h

pub spoken : (line : List ℕ) → has_letter line ≡ true → is_silent (words_of line) ≡ false
spoken [] h = absurd (cc)
spoken (b ∷ bs) h = ap (λ (parts : List (List ℕ)). is_silent (filter is_nonempty parts)) (slice_split-cons_no is_blank b bs (no_blank b h)) ∙ silent_first b (slice_split is_blank bs) h

-- ---- each line is such a one

letter_of_command : (index object byte : ℕ) (edit : Edit) → has_letter (command_line index object byte edit) ≡ true
unfolding command_line
letter_of_command index object byte (Append count) = refl
letter_of_command index object byte (Insert at count) = refl
letter_of_command index object byte (Replace at count) = refl
letter_of_command index object byte (Delete at count) = refl
letter_of_command index object byte Freeze = refl
letter_of_command index object byte (Read at count) = refl

letter_of_line : (index : ℕ) (basis : Basis) → has_letter (line_for index basis) ≡ true
unfolding line_for
letter_of_line index basis = letter_of_command index (object_for basis) (byte_for basis) (edit_for basis)

letters_of_breaks : (index : ℕ) → have_letters (breaks index) ≡ true
letters_of_breaks index = by_test (nat_lt 0 index && (index % 100 == 0))
  where
    by_test : (b : Bool) → have_letters (cond b (codes "commit" ∷ codes "begin" ∷ []) []) ≡ true
    by_test true = refl
    by_test false = refl

both_have : (xs ys : List (List ℕ)) → have_letters xs ≡ true → have_letters ys ≡ true → have_letters (xs ++ ys) ≡ true
both_have xs ys one two = list_all-append has_letter xs ys ∙ and_from (have_letters xs) (have_letters ys) one two

letters_of_commands : (n index : ℕ) (basis : Basis) → have_letters (commands_from n index basis) ≡ true
letters_of_commands zero index basis = refl
letters_of_commands (suc n) index basis =
    both_have (breaks index) (line_for index basis ∷ commands_from n (index + 1) (basis_after basis)) (letters_of_breaks index)
    (and_from (has_letter (line_for index basis)) _ (letter_of_line index basis) (letters_of_commands n (index + 1) (basis_after basis)))

letters_behind : (n : ℕ) (lines : List (List ℕ)) → have_letters lines ≡ true → have_letters (drop n lines) ≡ true
letters_behind zero lines h = h
letters_behind (suc n) [] h = refl
letters_behind (suc n) (line ∷ lines) h = letters_behind n lines ((and_parts (has_letter line) (have_letters lines) h).1)

letters_on : (index count : ℕ) (basis : Basis) → have_letters (lines_on index count basis) ≡ true
letters_on index count basis =
    and_from (has_letter (line_for index basis)) _ (letter_of_line index basis)
    (both_have (commands_from (count - (index + 1)) (index + 1) (basis_after basis)) tail_lines (letters_of_commands (count - (index + 1)) (index + 1) (basis_after basis)) refl)

pub letters_at : (stage : Stage) (index count : ℕ) (basis : Basis) → have_letters (lines_at stage index count basis) ≡ true
letters_at (Head line) index count basis =
    both_have (drop line.at head_lines) (commands_from (count - index) index basis ++ tail_lines) (letters_behind line.at head_lines refl)
    (both_have (commands_from (count - index) index basis) tail_lines (letters_of_commands (count - index) index basis) refl)
letters_at Commit index count basis = letters_on index count basis
letters_at Begin index count basis = letters_on index count basis
letters_at Command index count basis = letters_on index count basis
letters_at (Tail line) index count basis = letters_behind line.at tail_lines refl
letters_at Over index count basis = refl

pub first_spoken : (stage : Stage) (index count : ℕ) (basis : Basis) (line : List ℕ) (rest : List (List ℕ)) → lines_at stage index count basis ≡ line ∷ rest → IsTrue (is_silent (words_of line)) → ⊥
first_spoken stage index count basis line rest is silent =
    let all : have_letters (line ∷ rest) ≡ true = sym (ap have_letters is) ∙ letters_at stage index count basis in
    subst (λ (b : Bool). IsTrue b → ⊥) (sym (spoken line ((and_parts (has_letter line) (have_letters rest) all).0))) (λ (no : IsTrue false). absurd (cc)) silent
