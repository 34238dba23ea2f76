-- The lines before and behind a command.
use Rattle.std.proofs.Common.{◌≡◌, ◌∙◌, ℕ, suc, ◌+◌, ◌-◌, ◌%◌, ◌<◌, Bool, true, false, cond, ◌&&◌, nat_lt, List, [], ◌∷◌, ◌++◌, sym, ap, arith}
use Rattle.std.specs.Prelude.{◌==◌, codes, slice_set}
use Rattle.std.proofs.lemmas.Bool.Decides.{nat_tests}
use Rattle.generated.specs.Draws.{state_after}
use Rattle.generated.specs.Commands.{Basis, basis_after, byte_for, command_line, edit_for, line_for, object_for, size_after, size_for}
use Rattle.generated.specs.Script.{breaks, commands_from, tail_lines}
use Rattle.generated.specs.Coming.{lines_at}
use Rattle.generated.specs.declared.edit.Edit.{Edit}
use Rattle.generated.specs.declared.stage.Stage.{Stage}
use Rattle.generated.specs.declared.stage.Stage.TheVariants.{Commit, Command}

-- ---- what stands before a command

one_more : (index count : ℕ) (basis : Basis) → index < count
    → commands_from (count - index) index basis ≡ breaks index ++ line_for index basis ∷ commands_from (count - (index + 1)) (index + 1) (basis_after basis)
one_more index count basis less = ap (λ (n : ℕ). commands_from n index basis) (let e : count - index ≡ suc (count - (index + 1)) = omega arith in e)

breaks_if : (due : Bool) (index : ℕ) → (nat_lt 0 index && (index % 100 == 0)) ≡ due → breaks index ≡ cond due (codes "commit" ∷ codes "begin" ∷ []) []
breaks_if due index is = ap (λ (b : Bool). cond b (codes "commit" ∷ codes "begin" ∷ []) []) is

due : (index : ℕ) → 0 < index → index % 100 ≡ 0 → (nat_lt 0 index && (index % 100 == 0)) ≡ true
due index some is = grind (arith, nat_tests)

not_due : (index : ℕ) → (0 < index → index % 100 ≡ 0 → ⊥) → (nat_lt 0 index && (index % 100 == 0)) ≡ false
not_due index none = grind (arith, nat_tests)

pub lines_due : (index count : ℕ) (basis : Basis) → index < count → 0 < index → index % 100 ≡ 0
    → lines_at Commit index count basis ≡ commands_from (count - index) index basis ++ tail_lines
lines_due index count basis less some is =
    sym (ap (λ (l : List (List ℕ)). l ++ tail_lines) (one_more index count basis less
    ∙ ap (λ (b : List (List ℕ)). b ++ line_for index basis ∷ commands_from (count - (index + 1)) (index + 1) (basis_after basis)) (breaks_if true index (due index some is))))

pub lines_next : (index count : ℕ) (basis : Basis) → index < count → (0 < index → index % 100 ≡ 0 → ⊥)
    → lines_at Command index count basis ≡ commands_from (count - index) index basis ++ tail_lines
lines_next index count basis less none =
    sym (ap (λ (l : List (List ℕ)). l ++ tail_lines) (one_more index count basis less
    ∙ ap (λ (b : List (List ℕ)). b ++ line_for index basis ∷ commands_from (count - (index + 1)) (index + 1) (basis_after basis)) (breaks_if false index (not_due index none))))

-- ---- a command

pub line_made : (index object byte : ℕ) (edit : Edit) (basis : Basis) (line : List ℕ) → line ≡ command_line index object byte edit → object ≡ object_for basis → byte ≡ byte_for basis
    → edit ≡ edit_for basis → line ≡ line_for index basis
unfolding line_for
line_made index object byte edit basis line is o b e = cc

pub basis_made : (state object size : ℕ) (edit : Edit) (basis : Basis) → state ≡ state_after 4 basis.state → object ≡ object_for basis → edit ≡ edit_for basis → size ≡ size_after edit (size_for basis)
    → record { state = state; sizes = slice_set basis.sizes object size } ≡ basis_after basis
unfolding basis_after
basis_made state object size edit basis s o e z = cc

pub turned : (stage after : Stage) (index count : ℕ) (basis next : Basis) (line : List ℕ) → stage ≡ Command → line ≡ line_for index basis → next ≡ basis_after basis
    → ((b : Basis) → lines_at after (index + 1) count b ≡ commands_from (count - (index + 1)) (index + 1) b ++ tail_lines)
    → lines_at stage index count basis ≡ line ∷ lines_at after (index + 1) count next
turned stage after index count basis next line is made same behind =
    let rest : lines_at after (index + 1) count next ≡ commands_from (count - (index + 1)) (index + 1) (basis_after basis) ++ tail_lines =
    behind next ∙ ap (λ (b : Basis). commands_from (count - (index + 1)) (index + 1) b ++ tail_lines) same in
    ap (λ (s : Stage). lines_at s index count basis) is
    ∙ sym (ap (λ (l : List ℕ). l ∷ lines_at after (index + 1) count next) made ∙ ap (λ (ls : List (List ℕ)). line_for index basis ∷ ls) rest)
