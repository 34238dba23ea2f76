-- A line is cut at its first space, and a client's number has none.
use Rattle.std.proofs.Common.{◌≡◌, ◌∙◌, ℕ, List, [], ◌∷◌, ◌++◌, length, true, refl, sym, ap, arith}
use Rattle.std.specs.Prelude.{decimal}
use Rattle.std.specs.List.{slice_split, join_with_byte}
use Rattle.std.proofs.lemmas.List.Splits.{slice_split_at, slice_split_none, length-slice_split, join_with_byte-slice_split}
use Rattle.table_model.specs.Words.{number_of}
use Rattle.runs.specs.Acknowledged.{is_space}
use Rattle.runs.specs.Lacking.{each_differs, lacks, lacks_decimal}
use Rattle.clients.specs.Names.{IsClient}
use Rattle.clients.specs.Numbers.{number_back}
use Rattle.clients.specs.Turns.{IsOf}

pub same_client : (j k : ℕ) → IsClient j → IsClient k → decimal j ≡ decimal k → j ≡ k
same_client j k one other same = sym (number_back j one.1) ∙ ap number_of same ∙ number_back k other.1

no_space : (k : ℕ) → lacks 32 (decimal k) ≡ true
no_space k = lacks_decimal 32 k (omega arith)

-- ---- the parts of a line between its spaces

pub parts_of : (k : ℕ) (line rest : List ℕ) → IsOf k line rest → slice_split is_space line ≡ decimal k ∷ slice_split is_space rest
parts_of k line rest of = ap (slice_split is_space) of.1 ∙ slice_split_at is_space (decimal k) 32 rest (each_differs 32 (decimal k) (no_space k)) refl

pub alone_parts : (k : ℕ) (line : List ℕ) → line ≡ decimal k → slice_split is_space line ≡ line ∷ []
alone_parts k line is = slice_split_none is_space line (each_differs 32 line (ap (lacks 32) is ∙ no_space k))

-- A line is its first part, where that is all of it, or its first part, a space and the rest.
pub some_parts : (rest : List ℕ) → slice_split is_space rest ≡ [] → ⊥
some_parts rest none = let some = length-slice_split is_space rest in omega (arith, some, ap length none)

pub same_rest : (one other : List ℕ) → slice_split is_space one ≡ slice_split is_space other → one ≡ other
same_rest one other same = sym (join_with_byte-slice_split 32 one) ∙ ap (join_with_byte 32) same ∙ join_with_byte-slice_split 32 other

-- A first part with a rest behind it stands before a space.
pub joined : (line word rest : List ℕ) → slice_split is_space line ≡ word ∷ slice_split is_space rest → line ≡ word ++ 32 ∷ rest
joined line word rest parts =
    sym (join_with_byte-slice_split 32 line) ∙ ap (join_with_byte 32) parts ∙ by_rest (slice_split is_space rest) (join_with_byte-slice_split 32 rest) (some_parts rest)
  where
    by_rest : (behind : List (List ℕ)) → join_with_byte 32 behind ≡ rest → (behind ≡ [] → ⊥) → join_with_byte 32 (word ∷ behind) ≡ word ++ 32 ∷ rest
    by_rest [] is some = absurd (some refl)
    by_rest (p ∷ ps) is some = ap (λ (l : List ℕ). word ++ 32 ∷ l) is

-- The line of two clients is one client's, with one rest.
pub one_front : (j k : ℕ) (line one other : List ℕ) → IsOf j line one → IsOf k line other → (j ≡ k) × (one ≡ other)
one_front j k line one other first second =
    let both : decimal j ∷ slice_split is_space one ≡ decimal k ∷ slice_split is_space other = sym (parts_of j line one first) ∙ parts_of k line other second in
    let numbers : decimal j ≡ decimal k = cc in
    let rests : slice_split is_space one ≡ slice_split is_space other = cc in
    (same_client j k first.0 second.0 numbers, same_rest one other rests)

-- A client's number alone has nothing behind it.
pub not_alone : (j k : ℕ) (line rest : List ℕ) → IsOf j line rest → line ≡ decimal k → ⊥
not_alone j k line rest first is =
    let both : decimal j ∷ slice_split is_space rest ≡ line ∷ [] = sym (parts_of j line rest first) ∙ alone_parts k line is in
    let none : slice_split is_space rest ≡ [] = cc in
    some_parts rest none
