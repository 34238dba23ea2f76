-- How many lines and replies there are.
use Rattle.std.proofs.Common.{◌≡◌, ◌≤◌, ◌+◌, ◌*◌, ℕ, zero, suc, Bool, true, false, cond, not, ◌&&◌, nat_lt, List, [], ◌∷◌, ◌++◌, length, refl, ap, arith, length-append}
use Rattle.std.proofs.lemmas.List.Sums.{sum_by-cons}
use Rattle.std.specs.Prelude.{◌==◌, ◌%◌, codes, count_by}
use Rattle.table_model.specs.declared.reply.Reply.{Reply}
use Rattle.generated.specs.Commands.{Basis, basis_after, line_for}
use Rattle.generated.specs.Script.{breaks, commands_from, generated, head_lines, tail_lines}
use Rattle.generated.specs.Replies.{accepted_in, is_refusal, refused_in}

few_breaks : (index : ℕ) → length (breaks index) ≤ 2
few_breaks index = by_test (nat_lt 0 index && (index % 100 == 0))
  where
    by_test : (b : Bool) → length (cond b (codes "commit" ∷ codes "begin" ∷ []) []) ≤ 2
    by_test true = omega arith
    by_test false = omega arith

few_lines : (n index : ℕ) (basis : Basis) → length (commands_from n index basis) ≤ 3 * n
few_lines zero index basis = omega arith
few_lines (suc n) index basis =
    omega (arith, few_breaks index, few_lines n (index + 1) (basis_after basis), length-append (breaks index) (line_for index basis ∷ commands_from n (index + 1) (basis_after basis)))

-- A script has three lines a command at most, besides the first and the last ones.
pub few_generated : (seed count : ℕ) → length (generated seed count) ≤ 3 * count + 12
few_generated seed count =
    let basis : Basis = record { state = seed; sizes = 0 ∷ 0 ∷ 0 ∷ 0 ∷ [] } in
    omega (arith, few_lines count 0 basis, length-append head_lines (commands_from count 0 basis ++ tail_lines), length-append (commands_from count 0 basis) tail_lines)

abbrev one_if : Bool → ℕ
one_if t = cond t 1 0

both_counted : (p : Reply → Bool) (replies : List Reply) → count_by (λ (told : Reply). not (p told)) replies + count_by p replies ≡ length replies
both_counted p [] = refl
both_counted p (r ∷ rs) = by_test (p r) refl (both_counted p rs)
  where
    by_test : (b : Bool) → p r ≡ b → count_by (λ (told : Reply). not (p told)) rs + count_by p rs ≡ length rs
        → count_by (λ (told : Reply). not (p told)) (r ∷ rs) + count_by p (r ∷ rs) ≡ length (r ∷ rs)
    by_test true is rest =
        omega (arith, rest, sum_by-cons (λ (told : Reply). one_if (p told)) r rs, sum_by-cons (λ (told : Reply). one_if (not (p told))) r rs, ap (λ (t : Bool). one_if t) is, ap (λ (t : Bool). one_if (not t)) is)
    by_test false is rest =
        omega (arith, rest, sum_by-cons (λ (told : Reply). one_if (p told)) r rs, sum_by-cons (λ (told : Reply). one_if (not (p told))) r rs, ap (λ (t : Bool). one_if t) is, ap (λ (t : Bool). one_if (not t)) is)

-- Each reply is accepted or refused.
pub all_counted : (replies : List Reply) → accepted_in replies + refused_in replies ≡ length replies
all_counted replies = both_counted is_refusal replies
