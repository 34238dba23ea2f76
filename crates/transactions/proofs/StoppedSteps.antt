-- What is promised of a step that stopped, and of one that was answered.
use Rattle.std.proofs.Common.{◌≡◌, true, false, Result, Ok, Err, IfOk, OnOk, OnErr, is_err}

-- no value is there
pub stopped : {X E : Type 0} (r : Result X E) (P : Type 0) → is_err r ≡ true → OnOk r P
stopped (Ok x) P is = absurd cc
stopped (Err e) P is = tt

pub not_answered : {X E : Type 0} (r : Result X E) (P : X → Type 0) → is_err r ≡ true → IfOk r P
not_answered (Ok x) P is = absurd cc
not_answered (Err e) P is = tt

-- no fault is there
pub not_stopped : {X E : Type 0} (r : Result X E) (P : Type 0) → is_err r ≡ false → OnErr r P
not_stopped (Ok x) P is = tt
not_stopped (Err e) P is = absurd cc

pub of_any_fault : {X E P : Type 0} (r : Result X E) → P → OnErr r P
of_any_fault (Ok x) p = tt
of_any_fault (Err e) p = p
