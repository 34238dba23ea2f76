-- A line that is passed is the first line of what was left.
use Rattle.std.proofs.Common.{◌≡◌, ℕ, ◌+◌, ◌-◌, ◌<◌, ◌≤◌, List, [], ◌∷◌, ◌++◌, length, take, drop, get_or, true, false, Option, Some, None, ap, sym, ◌∙◌, arith, refl, append_assoc, append-nil, length-append, ◌⊎◌, inl, inr}
use Rattle.std.proofs.lemmas.Bool.{cases_lt}
use Rattle.std.proofs.lemmas.List.{length-take, get_or_append_left, get_or-append_right}
use Rattle.script_lines.specs.Lines.{line_feed, line_most, Line, Long, ended, unended, lines_of, lines_within}
use Rattle.script_lines.specs.Remains.{ClearTo}
use Rattle.script_lines.specs.Taking.{IsCut, TakesLine, Takes}
use Rattle.script_lines.specs.Passing.{IsClear, Passes}
use Rattle.script_lines.proofs.NextLines.{fed, unfed, within_fed, within_clear, clear_both, clear_front, cut_feed, ended_long, unended_long}

module _ (part after : List ℕ) (most still : ℕ) (clear : ClearTo part (length part)) (script : List ℕ) (line : Line) where
  -- its line feed stands behind it
  pub takes_part : (b : ℕ) → line_feed b ≡ true → length part + 1 + still ≡ most → script ≡ part ++ b ∷ after → ended part ≡ line → TakesLine most script line still after
  takes_part b hit count bytes is_line = record {
    passed = part ++ b ∷ [];
    bytes = bytes ∙ sym (append_assoc part (b ∷ []) after);
    count = omega (arith, length-append part (b ∷ []));
    some = omega (arith, length-append part (b ∷ []));
    first = ap lines_of bytes ∙ fed part after b clear hit ∙ ap (λ (l : Line). l ∷ lines_of after) is_line;
    within = λ more. ap (lines_within most) bytes ∙ within_fed part after b most still clear hit count ∙ ap (λ (l : Line). l ∷ lines_within still after) is_line;
  }

  -- nothing stands behind it
  pub takes_last : 0 < length part → length part + still ≡ most → script ≡ part → after ≡ [] → unended part ≡ line ∷ [] → TakesLine most script line still after
  takes_last some count bytes none is_line = record {
    passed = part;
    bytes = bytes ∙ sym (append-nil part) ∙ ap (λ (l : List ℕ). part ++ l) (sym none);
    count = count;
    some = some;
    first = ap lines_of bytes ∙ unfed part clear ∙ is_line ∙ ap (λ (l : List ℕ). line ∷ lines_of l) (sym none);
    within = λ more. absurd (more none);
  }

-- the first line feed of what is buffered ends the line
pub takes_feed : (p behind : List ℕ) (most still at : ℕ) → at < length p → ClearTo p at → line_feed (get_or p at 0) ≡ true → still + (at + 1) ≡ most
    → (rest : List ℕ) → rest ≡ drop (at + 1) p → (line : Line) → ended (take at p) ≡ line → TakesLine most (p ++ behind) line still (rest ++ behind)
takes_feed p behind most still at h clear hit count rest cut line is_line =
    takes_part (take at p) (rest ++ behind) most still (clear_front p at h clear) (p ++ behind) line (get_or p at 0) hit
    (omega (arith, length-take at p))
    (cut_feed p behind at h ∙ ap (λ (l : List ℕ). take at p ++ (get_or p at 0 ∷ (l ++ behind))) (sym cut))
    is_line

-- a front that is too long, and the rest of its line
pub takes_long : (p : List ℕ) → ClearTo p (length p) → line_most < length p → (most a : ℕ) (script : List ℕ) (still : ℕ) (after : List ℕ)
    → Passes a script still after → a + length p ≡ most → (whole : List ℕ) → whole ≡ p ++ script → TakesLine most whole Long still after
takes_long p clear far most a script still after passes count whole bytes = go passes.ends
  where
    both : ClearTo (p ++ passes.part) (length (p ++ passes.part))
    both = clear_both p passes.part clear passes.clear

    go : ((b : ℕ) × (line_feed b ≡ true) × (script ≡ passes.part ++ b ∷ after) × (length passes.part + 1 + still ≡ a))
        ⊎ ((script ≡ passes.part) × (after ≡ []) × (length passes.part + still ≡ a)) → TakesLine most whole Long still after
    go (inl (b, hit, is, left)) =
        takes_part (p ++ passes.part) after most still both whole Long b hit (omega (arith, length-append p passes.part))
        (bytes ∙ ap (λ (l : List ℕ). p ++ l) is ∙ sym (append_assoc p passes.part (b ∷ after)))
        (ended_long (p ++ passes.part) (omega (arith, length-append p passes.part)))
    go (inr (is, none, left)) =
        takes_last (p ++ passes.part) after most still both whole Long (omega (arith, length-append p passes.part)) (omega (arith, length-append p passes.part))
        (bytes ∙ ap (λ (l : List ℕ). p ++ l) is) none
        (unended_long (p ++ passes.part) (omega (arith, length-append p passes.part)))

-- what is clear behind bytes without a line feed is clear with them
pub clear_before : (gone : List ℕ) → ClearTo gone (length gone) → (a : ℕ) (script : List ℕ) → IsClear a script → (most : ℕ) → a + length gone ≡ most
    → (whole : List ℕ) → whole ≡ gone ++ script → IsClear most whole
clear_before gone cg a script clear most count whole bytes = record {
  clear = λ j lt. ap (λ (l : List ℕ). line_feed (get_or l j 0)) bytes ∙ go j lt (cases_lt j (length gone));
  more = omega (arith, ap length bytes, length-append gone script, clear.more);
}
  where
    go : (j : ℕ) → j < most → (j < length gone) ⊎ (length gone ≤ j) → line_feed (get_or (gone ++ script) j 0) ≡ false
    go j lt (inl h) = ap line_feed (get_or_append_left gone script 0 j h) ∙ cg j h
    go j lt (inr h) = ap line_feed (get_or-append_right gone script (length gone) j 0 refl h) ∙ clear.clear (j - length gone) (omega arith)

-- more is buffered than counts
pub clear_here : (p behind : List ℕ) (most : ℕ) → ClearTo p most → most < length p → IsClear most (p ++ behind)
clear_here p behind most clear more = record {
  clear = λ j lt. ap line_feed (get_or_append_left p behind 0 j (omega arith)) ∙ clear j lt;
  more = omega (arith, length-append p behind);
}

pub cut_clear : (most : ℕ) (script : List ℕ) → IsClear most script → IsCut most script
cut_clear most script clear = (clear.more, within_clear script most (omega (arith, clear.more)) clear.clear)

-- where a line was taken the script isn't cut short
pub takes_uncut : (most : ℕ) (script : List ℕ) (line : Option Line) (still : ℕ) (after : List ℕ) → Takes most script line still after → IsCut most script → ⊥
takes_uncut most script None still after (none, end, same) (more, clear) = let empty : length script ≡ 0 = ap length none in omega arith
takes_uncut most script (Some line) still [] takes (more, clear) =
    let size = ap length (takes.bytes ∙ append-nil takes.passed) in
    omega (arith, takes.count)
takes_uncut most script (Some line) still (x ∷ xs) takes (more, clear) =
    let here : lines_within most script ≡ line ∷ lines_within still (x ∷ xs) = takes.within (λ e. cc) in
    let bad : [] ≡ line ∷ lines_within still (x ∷ xs) = sym clear ∙ here in
    cc
