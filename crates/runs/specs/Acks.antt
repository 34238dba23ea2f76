-- Lines of what was sent, and what they acknowledge.
use Rattle.std.proofs.Common.{◌≡◌, ◌∙◌, ℕ, ◌+◌, ◌≤◌, ◌<◌, ◌^◌, Bool, true, false, cond, Option, Some, None, List, [], ◌∷◌, ◌++◌, length, take, filter_map, refl, sym, ap, inl, inr, subst, arith, append_assoc, length-append}
use Rattle.std.specs.List.{slice_split, onto_first}
use Rattle.std.proofs.lemmas.List.{append-nil, take-append-le}
use Rattle.std.proofs.lemmas.List.Elements.{filter_map-append}
use Rattle.std.proofs.lemmas.List.Splits.{slice_split_none, slice_split-cons_yes, slice_split-cons_no, slice_split_at}
use Rattle.table_model.specs.declared.reply.Reply.{Reply}
use Rattle.table_model.specs.declared.reply.Reply.TheVariants as reply
use Rattle.script_lines.specs.Lines.{line_feed, whole_lines, whole_of_parts}
use Rattle.talks.specs.Acking.{IsNoCommit}
use Rattle.runs.specs.Acknowledged.{acked_by, commits_by, greatest_or, EndsLine}
use Rattle.runs.specs.Lacking.{lacks, each_differs, lacks_take}

abbrev on_front : ℕ → List (List ℕ) → List (List ℕ)
on_front x [] = []
on_front x (l ∷ ls) = (x ∷ l) ∷ ls

front_parts : (x : ℕ) (parts : List (List ℕ)) → whole_of_parts (onto_first x parts) ≡ on_front x (whole_of_parts parts)
front_parts x [] = refl
front_parts x (p ∷ []) = refl
front_parts x (p ∷ q ∷ ps) = refl

first_whole : (parts : List (List ℕ)) → 0 < length parts → whole_of_parts ([] ∷ parts) ≡ [] ∷ whole_of_parts parts
first_whole [] some = absurd (omega arith)
first_whole (p ∷ ps) some = refl

some_onto : (x : ℕ) (parts : List (List ℕ)) → 0 < length (onto_first x parts)
some_onto x [] = omega arith
some_onto x (p ∷ ps) = omega arith

some_part : (xs : List ℕ) → 0 < length (slice_split line_feed xs)
some_part [] = omega arith
some_part (x ∷ xs) = by_head (line_feed x)
  where
    by_head : (b : Bool) → 0 < length (cond b ([] ∷ slice_split line_feed xs) (onto_first x (slice_split line_feed xs)))
    by_head true = omega arith
    by_head false = some_onto x (slice_split line_feed xs)

cons_yes : (x : ℕ) (xs : List ℕ) → line_feed x ≡ true → whole_lines (x ∷ xs) ≡ [] ∷ whole_lines xs
cons_yes x xs is = ap whole_of_parts (slice_split-cons_yes line_feed x xs is) ∙ first_whole (slice_split line_feed xs) (some_part xs)

cons_no : (x : ℕ) (xs : List ℕ) → line_feed x ≡ false → whole_lines (x ∷ xs) ≡ on_front x (whole_lines xs)
cons_no x xs is = ap whole_of_parts (slice_split-cons_no line_feed x xs is) ∙ front_parts x (slice_split line_feed xs)

-- the lines of what ends with a line feed, and of that with more behind it
record Ended (front : List ℕ) : Type 0 where
  line : List ℕ
  lines : List (List ℕ)
  is : whole_lines (front ++ 10 ∷ []) ≡ line ∷ lines
  more : (t : List ℕ) → whole_lines ((front ++ 10 ∷ []) ++ t) ≡ line ∷ (lines ++ whole_lines t)

ended : (front : List ℕ) → Ended front
ended [] = record { line = []; lines = []; is = cons_yes 10 [] refl; more = λ t. cons_yes 10 t refl }
ended (x ∷ xs) = by_head (line_feed x) (ended xs) refl
  where
    by_head : (b : Bool) → Ended xs → line_feed x ≡ b → Ended (x ∷ xs)
    by_head true rest is = record {
      line = [];
      lines = rest.line ∷ rest.lines;
      is = cons_yes x (xs ++ 10 ∷ []) is ∙ ap (λ (ls : List (List ℕ)). [] ∷ ls) rest.is;
      more = λ t. cons_yes x ((xs ++ 10 ∷ []) ++ t) is ∙ ap (λ (ls : List (List ℕ)). [] ∷ ls) (rest.more t);
    }
    by_head false rest is = record {
      line = x ∷ rest.line;
      lines = rest.lines;
      is = cons_no x (xs ++ 10 ∷ []) is ∙ ap (on_front x) rest.is;
      more = λ t. cons_no x ((xs ++ 10 ∷ []) ++ t) is ∙ ap (on_front x) (rest.more t);
    }

-- Behind whole lines come the lines of what follows.
whole_lines-append : (sent t : List ℕ) → EndsLine sent → whole_lines (sent ++ t) ≡ whole_lines sent ++ whole_lines t
whole_lines-append sent t (inl none) = ap (λ (s : List ℕ). whole_lines (s ++ t)) none ∙ sym (ap (λ (s : List ℕ). whole_lines s ++ whole_lines t) none)
whole_lines-append sent t (inr last) =
    let e = ended last.0 in
    ap (λ (s : List ℕ). whole_lines (s ++ t)) last.1 ∙ e.more t ∙ sym (ap (λ (ls : List (List ℕ)). ls ++ whole_lines t) (ap whole_lines last.1 ∙ e.is))

-- ---- a text without a line feed

no_lines : (front : List ℕ) → lacks 10 front ≡ true → whole_lines front ≡ []
no_lines front clear = ap whole_of_parts (slice_split_none line_feed front (each_differs 10 front clear))

one_line : (front : List ℕ) → lacks 10 front ≡ true → whole_lines (front ++ 10 ∷ []) ≡ front ∷ []
one_line front clear = ap whole_of_parts (slice_split_at line_feed front 10 [] (each_differs 10 front clear) refl)

-- ---- what is acknowledged, where numbers are read of lines so

acked_none : (read : List ℕ → Option ℕ) (j : ℕ) → acked_by read j [] ≡ j
acked_none read j = refl

acked_quiet : (read : List ℕ → Option ℕ) (j : ℕ) (sent t : List ℕ) → EndsLine sent → whole_lines t ≡ [] → acked_by read j (sent ++ t) ≡ acked_by read j sent
acked_quiet read j sent t ends quiet =
    ap (λ (ls : List (List ℕ)). greatest_or j (filter_map read ls)) (whole_lines-append sent t ends ∙ ap (λ (ls : List (List ℕ)). whole_lines sent ++ ls) quiet ∙ append-nil (whole_lines sent))

-- A front of a line acknowledges nothing.
acked_part : (read : List ℕ → Option ℕ) (j n : ℕ) (sent line : List ℕ) → EndsLine sent → lacks 10 line ≡ true → n < length (line ++ 10 ∷ [])
    → acked_by read j (sent ++ take n (line ++ 10 ∷ [])) ≡ acked_by read j sent
acked_part read j n sent line ends clear short =
    let long : n ≤ length line = omega (arith, short, length-append line (10 ∷ [])) in
    ap (λ (t : List ℕ). acked_by read j (sent ++ t)) (take-append-le n line (10 ∷ []) long) ∙ acked_quiet read j sent (take n line) ends (no_lines (take n line) (lacks_take 10 n line clear))

commits_more : (read : List ℕ → Option ℕ) (sent line : List ℕ) → EndsLine sent → lacks 10 line ≡ true → commits_by read (sent ++ (line ++ 10 ∷ [])) ≡ commits_by read sent ++ filter_map read (line ∷ [])
commits_more read sent line ends clear =
    ap (filter_map read) (whole_lines-append sent (line ++ 10 ∷ []) ends ∙ ap (λ (ls : List (List ℕ)). whole_lines sent ++ ls) (one_line line clear))
    ∙ filter_map-append read (whole_lines sent) (line ∷ [])

none_in : (read : List ℕ → Option ℕ) (line : List ℕ) → read line ≡ None → filter_map read (line ∷ []) ≡ []
none_in read line is = rw is refl

one_in : (read : List ℕ → Option ℕ) (line : List ℕ) (k : ℕ) → read line ≡ Some k → filter_map read (line ∷ []) ≡ k ∷ []
one_in read line k is = rw is refl

greatest_last : (j k : ℕ) (cs : List ℕ) → greatest_or j cs ≤ k → greatest_or j (cs ++ k ∷ []) ≡ k
greatest_last j k [] least = refl
greatest_last j k (c ∷ []) least = omega (arith, least)
greatest_last j k (c ∷ d ∷ cs) least = let below : greatest_or j (d ∷ cs) ≤ k = omega (arith, least) in omega (arith, least, greatest_last j k (d ∷ cs) below)

-- Nor does a whole one of which no number is read.
acked_other : (read : List ℕ → Option ℕ) (j : ℕ) (sent line : List ℕ) → EndsLine sent → lacks 10 line ≡ true → read line ≡ None → acked_by read j (sent ++ (line ++ 10 ∷ [])) ≡ acked_by read j sent
acked_other read j sent line ends clear none =
    ap (greatest_or j) (commits_more read sent line ends clear ∙ ap (λ (cs : List ℕ). commits_by read sent ++ cs) (none_in read line none) ∙ append-nil (commits_by read sent))

-- One of which a number is read acknowledges that commit.
acked_commit : (read : List ℕ → Option ℕ) (j k : ℕ) (sent line : List ℕ) → EndsLine sent → lacks 10 line ≡ true → read line ≡ Some k → acked_by read j sent ≤ k → acked_by read j (sent ++ (line ++ 10 ∷ [])) ≡ k
acked_commit read j k sent line ends clear is least =
    ap (greatest_or j) (commits_more read sent line ends clear ∙ ap (λ (cs : List ℕ). commits_by read sent ++ cs) (one_in read line k is)) ∙ greatest_last j k (commits_by read sent) least

-- ---- replies that are told as lines

-- The reply is told by this text: a line without a line feed, and one behind it. A commit's number is read of the line, and of no other reply's.
pub record TellsLine (read : List ℕ → Option ℕ) (told : Reply) (text : List ℕ) : Type 0 where
  pub line : List ℕ
  pub clear : lacks 10 line ≡ true
  pub is : text ≡ line ++ 10 ∷ []
  pub other : IsNoCommit told → read line ≡ None
  pub commit : (k : ℕ) → told ≡ reply.Commit k → k < 2 ^ 64 → read line ≡ Some k

-- What was sent is whole lines, and acknowledges the commits up to that.
abbrev pub IsEven : (List ℕ → Option ℕ) → ℕ → List ℕ → ℕ → Type 0
IsEven read first sent j = EndsLine sent × (acked_by read first sent ≡ j)

-- A stop may leave what is acknowledged, and the next one.
abbrev pub MayLeave : (List ℕ → Option ℕ) → ℕ → List ℕ → ℕ → Type 0
MayLeave read first sent j = (acked_by read first sent ≤ j) × (j ≤ acked_by read first sent + 1)

pub even_start : (read : List ℕ → Option ℕ) (first : ℕ) → IsEven read first [] first
even_start read first = (inl refl, acked_none read first)

pub may_now : (read : List ℕ → Option ℕ) (first : ℕ) (sent : List ℕ) (j : ℕ) → IsEven read first sent j → MayLeave read first sent j
may_now read first sent j even = (omega (arith, even.1), omega (arith, even.1))

pub may_next : (read : List ℕ → Option ℕ) (first : ℕ) (sent : List ℕ) (j : ℕ) → IsEven read first sent j → MayLeave read first sent (j + 1)
may_next read first sent j even = (omega (arith, even.1), omega (arith, even.1))

acked_front : {told : Reply} (read : List ℕ → Option ℕ) (first : ℕ) (sent : List ℕ) (n : ℕ) (text : List ℕ) → EndsLine sent → TellsLine read told text → n < length text → acked_by read first (sent ++ take n text) ≡ acked_by read first sent
acked_front read first sent n text ends tells short =
    subst (λ (t : List ℕ). n < length t → acked_by read first (sent ++ take n t) ≡ acked_by read first sent) (sym tells.is) (λ less. acked_part read first n sent tells.line ends tells.clear less) short

pub may_front : {told : Reply} (read : List ℕ → Option ℕ) (first : ℕ) (sent : List ℕ) (j n : ℕ) (text : List ℕ) → IsEven read first sent j → TellsLine read told text → n < length text → MayLeave read first (sent ++ take n text) j
may_front read first sent j n text even tells short =
    let same = acked_front read first sent n text even.0 tells short in (omega (arith, even.1, same), omega (arith, even.1, same))

pub may_front_next : {told : Reply} (read : List ℕ → Option ℕ) (first : ℕ) (sent : List ℕ) (j n : ℕ) (text : List ℕ) → IsEven read first sent j → TellsLine read told text → n < length text → MayLeave read first (sent ++ take n text) (j + 1)
may_front_next read first sent j n text even tells short =
    let same = acked_front read first sent n text even.0 tells short in (omega (arith, even.1, same), omega (arith, even.1, same))

-- Behind a reply a line ends.
ends_reply : (sent line text : List ℕ) → text ≡ line ++ 10 ∷ [] → EndsLine (sent ++ text)
ends_reply sent line text is = inr (sent ++ line, ap (λ (t : List ℕ). sent ++ t) is ∙ sym (append_assoc sent line (10 ∷ [])))

pub even_other : {told : Reply} (read : List ℕ → Option ℕ) (first : ℕ) (sent : List ℕ) (j : ℕ) (text : List ℕ) → IsEven read first sent j → TellsLine read told text → IsNoCommit told → IsEven read first (sent ++ text) j
even_other read first sent j text even tells none =
    (ends_reply sent tells.line text tells.is, ap (λ (t : List ℕ). acked_by read first (sent ++ t)) tells.is ∙ acked_other read first sent tells.line even.0 tells.clear (tells.other none) ∙ even.1)

pub even_commit : (read : List ℕ → Option ℕ) (first : ℕ) (sent : List ℕ) (j : ℕ) (text : List ℕ) → IsEven read first sent j → TellsLine read (reply.Commit (j + 1)) text → j + 1 < 2 ^ 64 → IsEven read first (sent ++ text) (j + 1)
even_commit read first sent j text even tells fits = (
  ends_reply sent tells.line text tells.is,
  ap (λ (t : List ℕ). acked_by read first (sent ++ t)) tells.is ∙ acked_commit read first (j + 1) sent tells.line even.0 tells.clear (tells.commit (j + 1) refl fits) (omega (arith, even.1)),
)
