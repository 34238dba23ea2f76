-- The line that is shown out of a buffer.
use Rattle.std.proofs.Common.{◌≡◌, ℕ, ◌+◌, ◌-◌, ◌≤◌, List, length, take, drop, Some, ap, sym, ◌∙◌, arith, refl}
use Rattle.std.proofs.lemmas.List.{length-take, take-take}
use Rattle.script_lines.specs.declared.shown.Kind.TheVariants as kind
use Rattle.script_lines.specs.declared.shown.Shown.{Shown}
use Rattle.script_lines.specs.Lines.{Short, Long, line_most, ended, without_return}
use Rattle.script_lines.specs.Remains.{between}
use Rattle.script_lines.specs.Windows.{shown_in}
use Rattle.script_lines.proofs.NextLines.{ended_short}

pub shown_whole : (items buffer : List ℕ) (shown : Shown) (s t : ℕ) → shown.kind ≡ kind.Whole → shown.from ≡ s → shown.to ≡ t → items ≡ buffer
    → Some (Short (between buffer s t)) ≡ shown_in items shown
shown_whole items buffer shown s t is_whole from to same = rw (is_whole, from, to, same) refl

pub shown_long : (items : List ℕ) (shown : Shown) → shown.kind ≡ kind.Long → Some Long ≡ shown_in items shown
shown_long items shown is_long = rw is_long refl

-- of the bytes before a line feed k are left without the carriage return
pub ended_as : (buffer bytes : List ℕ) (s e at k : ℕ) → at ≤ e - s → at ≤ line_most → bytes ≡ buffer
    → k ≤ length (take ((s + at) - s) (drop s bytes))
    → take k (take ((s + at) - s) (drop s bytes)) ≡ without_return (take ((s + at) - s) (drop s bytes))
    → ended (take at (between buffer s e)) ≡ Short (between buffer s (s + k))
ended_as buffer bytes s e at k fits short same small trims =
    let here : (s + at) - s ≡ at = omega arith in
    let there : (s + k) - s ≡ k = omega arith in
    let line : List ℕ = take at (drop s buffer) in
    let slice : take ((s + at) - s) (drop s bytes) ≡ line = (λ i. take (here i) (drop s (same i))) in
    let size : k ≤ at = omega (arith, ap length slice, length-take at (drop s buffer)) in
    let fits_line : length line ≤ line_most = omega (arith, length-take at (drop s buffer)) in
    ap ended (take-take at (e - s) (drop s buffer) fits)
    ∙ ended_short line fits_line
    ∙ ap Short (sym (ap (take k) (sym slice) ∙ trims ∙ ap without_return slice) ∙ take-take k at (drop s buffer) size ∙ ap (λ (n : ℕ). take n (drop s buffer)) (sym there))
