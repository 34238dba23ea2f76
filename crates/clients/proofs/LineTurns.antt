-- Each line of a schedule is one turn.
use Rattle.std.proofs.Common.{◌≡◌, ◌∙◌, ◌<◌, ◌≤◌, ◌+◌, ℕ, suc, true, false, List, [], ◌∷◌, ◌++◌, length, inl, inr, ⊎_elim, refl, sym, ap, subst, arith, true≢false, IsTrue}
use Rattle.std.specs.Prelude.{decimal, nat_lt, filter, ◌==◌}
use Rattle.std.specs.List.{slice_split, onto_first}
use Rattle.std.proofs.lemmas.Bool.Decides.{nat_tests}
use Rattle.std.proofs.lemmas.List.Splits.{slice_split-cons_no, length-slice_split}
use Rattle.script_lines.specs.Lines.{Short, Long}
use Rattle.script_lang.specs.LineWords.{is_blank, is_nonempty, words_of}
use Rattle.script_lang.specs.Reading.{Reading, Says, is_silent}
use Rattle.clients.specs.Laws.{LineIsOneTurn}
use Rattle.clients.specs.Names.{IsClient}
use Rattle.clients.specs.Numbers.{two_forms}
use Rattle.clients.specs.Turns.{IsOf, IsQuiet, IsSaid, IsTurn, IsUnread, Turn, Quiet, Said}
use Rattle.clients.specs.Turns as quiet
use Rattle.clients.proofs.Numbers.{not_alone, one_front}
use Rattle.script_lang.proofs.Laws.{one_reading}

-- ---- a line that begins with a digit isn't silent

nonempty : (n : ℕ) → nat_lt 0 (suc n) ≡ true
nonempty n = grind (arith, nat_tests)

begins_word : (x : ℕ) (parts : List (List ℕ)) → 0 < length parts → (x == 35) ≡ false → is_silent (filter is_nonempty (onto_first x parts)) ≡ false
begins_word x [] some digit = absurd (omega (arith, some))
begins_word x (p ∷ ps) some digit = rw (nonempty (length p)) digit

loud : (x : ℕ) (xs : List ℕ) → 49 ≤ x → is_silent (words_of (x ∷ xs)) ≡ false
loud x xs digit =
    let no_blank : is_blank x ≡ false = grind (arith, nat_tests) in
    let no_comment : (x == 35) ≡ false = grind (arith, nat_tests) in
    ap (λ (parts : List (List ℕ)). is_silent (filter is_nonempty parts)) (slice_split-cons_no is_blank x xs no_blank)
    ∙ begins_word x (slice_split is_blank xs) (let some = length-slice_split is_blank xs in omega (arith, some)) no_comment

pub loud_number : (k : ℕ) (rest : List ℕ) → IsClient k → is_silent (words_of (decimal k ++ rest)) ≡ false
loud_number k rest few =
    ⊎_elim (λ one. ap (λ (ds : List ℕ). is_silent (words_of (ds ++ rest))) one.1 ∙ loud (48 + k) rest (omega (arith, few.0)))
    (λ two. ap (λ (ds : List ℕ). is_silent (words_of (ds ++ rest))) two.1 ∙ loud 49 ((38 + k) ∷ rest) (omega arith)) (two_forms k few.1)

-- ---- one turn

-- What a client says isn't quiet.
said_or_quiet : (line : List ℕ) (k : ℕ) (reading : Reading) → IsSaid line k reading → IsQuiet line → ⊥
said_or_quiet line k reading said (quiet.silent silent) =
    true≢false (sym silent ∙ ap (λ (l : List ℕ). is_silent (words_of l)) said.is_of.1 ∙ loud_number k (32 ∷ said.rest) said.is_of.0)
said_or_quiet line k reading said (quiet.alone j few is) = not_alone k j line said.rest said.is_of is
said_or_quiet line k reading said (quiet.silent_of j rest of silent) =
    said.loud (subst (λ (l : List ℕ). IsTrue (is_silent (words_of l))) (sym (one_front k j line said.rest rest said.is_of of).1) silent)

said_twice : (line : List ℕ) (j k : ℕ) (one other : Reading) → IsSaid line j one → IsSaid line k other → Said j one ≡ Said k other
said_twice line j k one other first second =
    let fronts = one_front j k line first.rest second.rest first.is_of second.is_of in
    let same : one ≡ other = one_reading (words_of first.rest) one other first.says (subst (λ (l : List ℕ). Says (words_of l) other) (sym fronts.1) second.says) in
    (λ i. Said (fronts.0 i) (same i))

said_or_unread : (line : List ℕ) (j k : ℕ) (one other : Reading) → IsSaid line j one → IsUnread line k other → ⊥
said_or_unread line j k one other said unread = unread.of_none j said.rest said.is_of

both_said : (line : List ℕ) (j k : ℕ) (one other : Reading) → IsTurn (Short line) (Said j one) → IsTurn (Short line) (Said k other) → Said j one ≡ Said k other
both_said line j k one other (inl said) (inl says) = said_twice line j k one other said says
both_said line j k one other (inl said) (inr unread) = absurd (said_or_unread line j k one other said unread)
both_said line j k one other (inr unread) (inl said) = absurd (said_or_unread line k j other one said unread)
both_said line j k one other (inr first) (inr second) = (λ i. Said ((first.client ∙ sym second.client) i) ((first.syntax ∙ sym second.syntax) i))

said_and_quiet : (line : List ℕ) (k : ℕ) (reading : Reading) → IsTurn (Short line) (Said k reading) → IsQuiet line → ⊥
said_and_quiet line k reading (inl said) is = said_or_quiet line k reading said is
said_and_quiet line k reading (inr unread) is = unread.loud is

pub one_turn : LineIsOneTurn
one_turn Long one other first second = first ∙ sym second
one_turn (Short line) Quiet Quiet first second = refl
one_turn (Short line) Quiet (Said k reading) first second = absurd (said_and_quiet line k reading second first)
one_turn (Short line) (Said k reading) Quiet first second = absurd (said_and_quiet line k reading first second)
one_turn (Short line) (Said j one) (Said k other) first second = both_said line j k one other first second
