-- What a push leaves.
use Rattle.std.specs.Prelude.{if◌then◌else◌, is_ok}
use Rattle.std.proofs.Common.{◌≡◌, false, Result, Ok, Err, is_err, List}

-- what a push that worked leaves
pub pushed : {A X E : Type 0} (r : Result X E) (now more same : List A) → is_err r ≡ false → now ≡ (if is_ok r then more else same) → now ≡ more
pushed (Ok x) now more same none is = is
pushed (Err e) now more same none is = absurd cc
