-- Each write that was noted lies inside the disk.
use Rattle.std.proofs.Common.{◌≡◌, ◌≤◌, ℕ, Bool, true, false, IsTrue, List, [], ◌∷◌, ◌++◌, if◌then◌else◌, arith, refl, Vec}
use Rattle.std.specs.Prelude.{All}
use Rattle.std.specs.declared.alloc.Global.{Global}
use Rattle.std.proofs.lemmas.List.Elements.{All-same, All-push}
use Rattle.memory_host.specs.Replay.{end_of}
use Rattle.memory_host.specs.declared.host.Call.{Call}
use Rattle.memory_host.specs.declared.host.Call.TheVariants.{Put}

abbrev pub IsInside : ℕ → Call → Type 0
IsInside n call = end_of call ≤ n

pub inside_push : (n : ℕ) (calls now : List Call) (call : Call) → now ≡ calls ++ call ∷ [] → All (IsInside n) calls → end_of call ≤ n → All (IsInside n) now
inside_push n calls now call is all fits = All-same (IsInside n) now (calls ++ call ∷ []) is (All-push (IsInside n) calls call all fits)

-- where a call was noted, or was not
pub inside_noted : (n : ℕ) (calls now : List Call) (call : Call) (noted : Bool) → now ≡ (if noted then calls ++ call ∷ [] else calls) → All (IsInside n) calls → end_of call ≤ n → All (IsInside n) now
inside_noted n calls now call true is all fits = inside_push n calls now call is all fits
inside_noted n calls now call false is all fits = All-same (IsInside n) now calls is all

-- where a put was noted, or was not
pub inside_put : (n : ℕ) (calls now : List Call) (bytes : List ℕ) (noted : Bool) (P : Type 0) → (IsTrue noted → (copy : Vec ℕ Global) × (copy.items ≡ bytes) × (now ≡ calls ++ Put copy ∷ []) × P)
    → (noted ≡ false → now ≡ calls) → All (IsInside n) calls → All (IsInside n) now
inside_put n calls now bytes true P done none all = let put = done refl in inside_push n calls now (Put put.0) put.2 all (omega arith)
inside_put n calls now bytes false P done none all = All-same (IsInside n) now calls (none refl) all
