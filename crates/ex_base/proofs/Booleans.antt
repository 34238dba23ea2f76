-- Tests that pass, in forms that std doesn't have.
use Rattle.std.proofs.Common.{◌≡◌, ℕ, suc, Bool, true, ◌&&◌, nat_lt, List, lt-ltb, arith}
use Rattle.std.specs.Prelude.{◌==◌, bytes_eq}
use Rattle.std.proofs.lemmas.Bool.{and_from}
use Rattle.std.proofs.lemmas.Bool.Decides.{nat_tests}
use Rattle.std.proofs.lemmas.Slice.Eq.{bytes_eq-Decides}

-- three tests that all pass
pub three_true : (a b c : Bool) → a ≡ true → b ≡ true → c ≡ true → (a && b && c) ≡ true
three_true a b c x y z = and_from (a && b) c (and_from a b x y) z

-- a number is the same as itself
pub same_number : (a b : ℕ) → a ≡ b → (a == b) ≡ true
same_number a b same = grind (arith, nat_tests)

-- nothing is less than some
pub none_below_some : (n : ℕ) → nat_lt 0 (suc n) ≡ true
none_below_some n = lt-ltb 0 (suc n) (omega arith)

-- bytes that pass for the same are the same
pub same_bytes : (a b : List ℕ) → bytes_eq a b ≡ true → a ≡ b
same_bytes a b test = (bytes_eq-Decides a b).0 test

-- the same bytes pass for the same
pub bytes_test : (a b : List ℕ) → a ≡ b → bytes_eq a b ≡ true
bytes_test a b same = (bytes_eq-Decides a b).1 same
