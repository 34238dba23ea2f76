-- Which lines of a script were taken.
use Rattle.std.proofs.Common.{◌≡◌, ◌∙◌, ℕ, Option, Some, None, List, [], ◌∷◌, ◌++◌, length, refl, sym, ap, subst, arith, append_assoc, length-append}
use Rattle.std.specs.Prelude.{◌≢◌}
use Rattle.std.proofs.lemmas.List.{append-nil}
use Rattle.script_lines.specs.Lines.{Line, lines_of, lines_within}
use Rattle.script_lines.specs.Remains.{Remains, Draws, IfTold}
use Rattle.script_lines.specs.Taking.{IsCut, TakesLine, Takes}
use Rattle.script_lines.proofs.Buffers.{draws_trans}
use Rattle.talks.specs.declared.stopped.Stopped.{Stopped}
use Rattle.talks.specs.declared.stopped.Stopped.TheVariants.{Script, Output, Disk, Memory, BadVolume, Damaged, ScriptLong}
use Rattle.talks.specs.Stops.{IsPart}
use Rattle.talks.specs.Talking.{Left}
use Rattle.runs.specs.Script.{HasTaken, HasMoved, IsFrontOf, Loses, TakenBy, TakesNext}

taken_none : (most : ℕ) (script : List ℕ) → HasTaken most script [] most script
taken_none most script = record { passed = []; bytes = refl; count = omega arith; lines = refl; within = λ some. refl }

some_left : {still now : ℕ} {rest after : List ℕ} {line : Line} → TakesLine still rest line now after → rest ≢ []
some_left {after = after} takes none = omega (arith, takes.some, ap length (sym takes.bytes ∙ none), length-append takes.passed after)

taken_more : {most still now : ℕ} {script rest after : List ℕ} {taken : List Line} {line : Line} → HasTaken most script taken still rest → TakesLine still rest line now after
    → HasTaken most script (taken ++ line ∷ []) now after
taken_more {most} {still} {now} {script} {rest} {after} {taken} {line} had takes = record {
  passed = had.passed ++ takes.passed;
  bytes = had.bytes ∙ ap (λ (l : List ℕ). had.passed ++ l) takes.bytes ∙ sym (append_assoc had.passed takes.passed after);
  count = omega (arith, had.count, takes.count, length-append had.passed takes.passed);
  lines = had.lines ∙ ap (λ (l : List Line). taken ++ l) takes.first ∙ sym (append_assoc taken (line ∷ []) (lines_of after));
  within = λ some. had.within (some_left takes) ∙ ap (λ (l : List Line). taken ++ l) (takes.within some) ∙ sym (append_assoc taken (line ∷ []) (lines_within now after));
}

taken_all : {most still : ℕ} {script rest : List ℕ} {taken : List Line} → HasTaken most script taken still rest → rest ≡ [] → TakenBy None most script taken
taken_all {most} {still} {script} {rest} {taken} had none = (
  sym (had.lines ∙ ap (λ (l : List ℕ). taken ++ lines_of l) none ∙ append-nil taken),
  omega (arith, ap length had.bytes, ap (λ (l : List ℕ). length (had.passed ++ l)) none, length-append had.passed [], had.count),
)

taken_cut : {most still : ℕ} {script rest : List ℕ} {taken : List Line} → HasTaken most script taken still rest → IsCut still rest → TakenBy (Some ScriptLong) most script taken
taken_cut {most} {still} {script} {rest} {taken} had cut = (
  sym (had.within (λ none. omega (arith, cut.0, ap length none)) ∙ ap (λ (l : List Line). taken ++ l) cut.1 ∙ append-nil taken),
  omega (arith, cut.0, ap length had.bytes, length-append had.passed rest, had.count),
)

-- Lines that are the first ones are what any stop but too long a script asks of them.
pub taken_part : (why : Stopped) (most : ℕ) (script : List ℕ) (lines : List Line) → IsPart why → IsFrontOf lines (lines_of script) → TakenBy (Some why) most script lines
taken_part Script most script lines part front = front
taken_part Output most script lines part front = front
taken_part Disk most script lines part front = front
taken_part Memory most script lines part front = front
taken_part (BadVolume part_of) most script lines part front = front
taken_part (Damaged page want got) most script lines part front = front
taken_part ScriptLong most script lines part front = absurd (part tt)

-- All lines are some of the first ones.
pub part_of_whole : (why : Stopped) (most : ℕ) (script : List ℕ) (lines : List Line) → IsPart why → TakenBy None most script lines → TakenBy (Some why) most script lines
part_of_whole why most script lines part whole = taken_part why most script lines part ([], sym whole.0 ∙ sym (append-nil lines))

pub moved_none : (ahead : List ℕ) (left : Left) (most : ℕ) → HasMoved ahead left most [] ahead left most
moved_none ahead left most = record { each = λ script r. (script, r, taken_none most script) }

pub moved_more : (a b c : List ℕ) (x y z w : Left) (most still now : ℕ) (taken : List Line) (line : Line) (shown : Option Line) → HasMoved a x most taken b y still
    → TakesNext b y still shown c z now → Some line ≡ shown → w ≡ z → HasMoved a x most (taken ++ line ∷ []) c w now
moved_more a b c x y z w most still now taken line shown had takes is same = record {
  each = λ script r.
      let first = had.each script r in
      let next = takes.each first.0 first.1 in
      let line_taken : TakesLine still first.0 line now next.0 = subst (λ (l : Option Line). Takes still first.0 l now next.0) (sym is) next.2 in
      (next.0, subst (λ (o : Left). Remains c o next.0) (sym same) next.1, taken_more first.2 line_taken);
}

pub told_all : (a b c : List ℕ) (x y z : Left) (most still now : ℕ) (taken : List Line) (shown : Option Line) → HasMoved a x most taken b y still → TakesNext b y still shown c z now
    → None ≡ shown → IfTold a x (λ script. TakenBy None most script taken)
told_all a b c x y z most still now taken shown had takes is = record {
  each = λ script r.
      let first = had.each script r in
      let next = takes.each first.0 first.1 in
      taken_all first.2 (subst (λ (l : Option Line). Takes still first.0 l now next.0) (sym is) next.2).0;
}

pub told_cut : (a b : List ℕ) (x y : Left) (most still : ℕ) (taken : List Line) → HasMoved a x most taken b y still → IfTold b y (IsCut still)
    → IfTold a x (λ script. TakenBy (Some ScriptLong) most script taken)
told_cut a b x y most still taken had cut = record { each = λ script r. let first = had.each script r in taken_cut first.2 (cut.each first.0 first.1) }

pub told_part : (a b : List ℕ) (x y : Left) (most still : ℕ) (taken : List Line) (why : Stopped) → HasMoved a x most taken b y still → IsPart why
    → IfTold a x (λ script. TakenBy (Some why) most script taken)
told_part a b x y most still taken why had part = record {
  each = λ script r. let first = had.each script r in taken_part why most script taken part (lines_of first.0, first.2.lines);
}

-- The same from the entry of a run, whose reader has taken nothing.
pub told_script : (ending : Option Stopped) (ahead : List ℕ) (entry left : Left) (counted most : ℕ) (taken : List Line) → ahead ≡ [] → counted ≡ most → left ≡ entry
    → IfTold ahead left (λ script. TakenBy ending counted script taken) → (script : List ℕ) → entry ≡ Some script → TakenBy ending most script taken
told_script ending ahead entry left counted most taken none same_count same told script is =
    subst (λ (k : ℕ). TakenBy ending k script taken) same_count (told.each script (record { behind = script; told = same ∙ is; whole = sym (ap (λ (l : List ℕ). l ++ script) none) }))

-- Where nothing is left of the script, nothing is left in the source.
pub told_end : (a b c : List ℕ) (x y z : Left) (most still now : ℕ) (taken : List Line) (shown : Option Line) → HasMoved a x most taken b y still → TakesNext b y still shown c z now
    → None ≡ shown → IfTold a x (λ script. z ≡ Some [])
told_end a b c x y z most still now taken shown had takes is = record {
  each = λ script r.
      let first = had.each script r in
      let next = takes.each first.0 first.1 in
      let over : Takes still first.0 None now next.0 = subst (λ (l : Option Line). Takes still first.0 l now next.0) (sym is) next.2 in
      let behind : next.1.behind ≡ [] = nothing_behind c next.1.behind (sym next.1.whole ∙ over.1) in
      next.1.told ∙ ap (λ (l : List ℕ). Some l) behind;
}
  where
    nothing_behind : (xs ys : List ℕ) → xs ++ ys ≡ [] → ys ≡ []
    nothing_behind [] ys none = none
    nothing_behind (x ∷ xs) ys none = absurd (cc)

-- ---- what the source lost

pub draws_none : (may : ℕ) (left : Left) → Draws may left may left
draws_none may left = record { each = λ was told. (0, omega arith, told, omega arith) }

pub draws_more : (a b c : ℕ) (x y z : Left) → Draws a x b y → Draws b y c z → Draws a x c z
draws_more a b c x y z one two = draws_trans a b c x y z one two

pub loses : {may still : ℕ} {left now : Left} → Draws may left still now → Loses may left now
loses drawn was told = let lost = drawn.each was told in (lost.0, omega (arith, lost.3), lost.2)
