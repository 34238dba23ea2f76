use Rattle.std.proofs.Common.{◌≡◌, ◌∙◌, sym, ap, subst, refl, ℕ, List, length, Option, Some}
use Rattle.exsm_c.specs.Codes.{code_of_name}
use Rattle.exsm_c.proofs.exports.lists.tell_name_at.Goals as goal

pub returns-then-i-len-clause-code : goal.returns-then-i-len-clause-code
returns-then-i-len-clause-code c =
    subst (λ (name : Option (List ℕ)). c.tell_name.result ≡ code_of_name name (length c.args.out.now)) (sym (c.at.ensures ∙ ap (λ (name : List ℕ). Some name) (sym c.as_slice.ensures))) c.tell_name.ensures.code

pub returns-then-i-len-clause-told : goal.returns-then-i-len-clause-told
returns-then-i-len-clause-told c done = record {
  name = c.as_slice.result.now;
  is = c.at.ensures ∙ ap (λ (name : List ℕ). Some name) (sym c.as_slice.ensures);
  long = c.tell_name.ensures.len done;
  bytes = c.tell_name.ensures.told done;
}
