-- What stands at the front of a buffer that grows.
use Rattle.std.proofs.Common.{◌≡◌, ℕ, List, [], ◌++◌, ap, sym, ◌∙◌, append-nil, append_assoc}
use Rattle.script_replies.specs.Texts.{IsFront}

pub front_same : (a b : List ℕ) → b ≡ a → IsFront a b
front_same a b same = record { rest = []; is = same ∙ sym (append-nil a) }

pub front_after : (a x b c : List ℕ) → b ≡ a ++ x → IsFront b c → IsFront a c
front_after a x b c more front = record {
  rest = x ++ front.rest;
  is = front.is ∙ ap (λ (l : List ℕ). l ++ front.rest) more ∙ append_assoc a x front.rest;
}

pub front_more : (a x b c : List ℕ) → IsFront a b → c ≡ b ++ x → IsFront a c
front_more a x b c front more = record {
  rest = front.rest ++ x;
  is = more ∙ ap (λ (l : List ℕ). l ++ x) front.is ∙ append_assoc a front.rest x;
}

pub front_trans : (a b c : List ℕ) → IsFront a b → IsFront b c → IsFront a c
front_trans a b c one two = record {
  rest = one.rest ++ two.rest;
  is = two.is ∙ ap (λ (l : List ℕ). l ++ two.rest) one.is ∙ append_assoc a one.rest two.rest;
}
