-- What a call leaves, by how it was noted.
use Rattle.std.proofs.Common.{◌≡◌, ◌∙◌, sym, ap, inl, inr, ◌⊎◌, ◌≤◌, ◌+◌, ℕ, min, ◌<◌, ⊎_elim, arith, Bool, IsTrue, true, false, List, [], ◌∷◌, ◌++◌, length, take, if◌then◌else◌, refl}
use Rattle.std.proofs.lemmas.List.{take-append-le, length_push, append-nil, take_all}
use Rattle.std.proofs.lemmas.Bool.{cases_lt}
use Rattle.memory_host.specs.Replay.{State, after_call, replayed}
use Rattle.memory_host.specs.ReplayLaws.{replayed_push, noted_yes}
use Rattle.memory_host.specs.Host.{state_of, state_at, calls_of, FailsNext, CallLeaves, HasCalls}
use Rattle.memory_host.specs.declared.host.Call.{Call}
use Rattle.memory_host.specs.declared.host.MemoryHost.{MemoryHost}

-- what was before stays where calls are added
earlier_stays : (old new : MemoryHost) (more : List Call) → HasCalls old new (old.calls.items ++ more) → (moment : ℕ) → moment ≤ calls_of old → state_at new moment ≡ state_at old moment
earlier_stays old new more now moment le =
    ap (λ (start : List ℕ). replayed start (take moment new.calls.items)) now.start
    ∙ ap (λ (cs : List Call). replayed old.start.items (take moment cs)) now.calls
    ∙ ap (replayed old.start.items) (take-append-le moment old.calls.items more le)

-- the state after one call more
state_next : (old new : MemoryHost) (call : Call) → HasCalls old new (old.calls.items ++ call ∷ []) → state_of new ≡ after_call (state_of old) call
state_next old new call now =
    ap (λ (start : List ℕ). replayed start new.calls.items) now.start
    ∙ ap (replayed old.start.items) now.calls
    ∙ replayed_push old.start.items old.calls.items call

calls_next : (old new : MemoryHost) (call : Call) → HasCalls old new (old.calls.items ++ call ∷ []) → calls_of new ≡ calls_of old + 1
calls_next old new call now = ap length now.calls ∙ length_push old.calls.items call

-- A call that worked,
pub leaves_done : (old new : MemoryHost) (call : Call) (done undone : State) → (FailsNext old → ⊥) → HasCalls old new (old.calls.items ++ call ∷ []) → after_call (state_of old) call ≡ done → CallLeaves old new false done undone
leaves_done old new call done undone works now is = record {
  plan = now.plan;
  earlier = earlier_stays old new (call ∷ []) now;
  fails = λ fails. absurd (works fails);
  works = λ _. (calls_next old new call now, state_next old new call now ∙ is);
  breaks = λ no. absurd (cc);
}

-- one that was made to fail,
pub leaves_undone : (old new : MemoryHost) (call : Call) (done undone : State) → FailsNext old → HasCalls old new (old.calls.items ++ call ∷ []) → after_call (state_of old) call ≡ undone → CallLeaves old new true done undone
leaves_undone old new call done undone fails now is = record {
  plan = now.plan;
  earlier = earlier_stays old new (call ∷ []) now;
  fails = λ _. refl;
  works = λ no. absurd (cc);
  breaks = λ _. inl (fails, calls_next old new call now, state_next old new call now ∙ is);
}

-- and one that found no memory.
pub leaves_nothing : (old new : MemoryHost) (done undone : State) → HasCalls old new old.calls.items → CallLeaves old new true done undone
leaves_nothing old new done undone now = record {
  plan = now.plan;
  earlier = earlier_stays old new [] (record { start = now.start; plan = now.plan; calls = now.calls ∙ sym (append-nil old.calls.items) });
  fails = λ _. refl;
  works = λ no. absurd (cc);
  breaks = λ _. inr (ap length now.calls, ap (λ (start : List ℕ). replayed start new.calls.items) now.start ∙ ap (replayed old.start.items) now.calls);
}

-- calls that follow a host's that followed another's
pub has_calls_on : {old mid new : MemoryHost} (now : List Call) → HasCalls old mid now → HasCalls mid new mid.calls.items → HasCalls old new now
has_calls_on now one two = record { start = two.start ∙ one.start; plan = two.plan ∙ one.plan; calls = two.calls ∙ one.calls }

-- a call that changes nothing, noted or not, that fails
pub leaves_passed : (old mid new : MemoryHost) (noted : Bool) (call : Call) (done : State) → FailsNext old ⊎ (noted ≡ false) → after_call (state_of old) call ≡ state_of old
    → HasCalls old mid (if noted then old.calls.items ++ call ∷ [] else old.calls.items) → HasCalls mid new mid.calls.items → CallLeaves old new true done (state_of old)
leaves_passed old mid new true call done (inl fails) is one two = leaves_undone old new call done (state_of old) fails (has_calls_on (old.calls.items ++ call ∷ []) one two) is
leaves_passed old mid new true call done (inr differ) is one two = absurd (cc)
leaves_passed old mid new false call done why is one two = leaves_nothing old new done (state_of old) (has_calls_on old.calls.items one two)

-- a call that was noted
pub has_noted : (old new : MemoryHost) (call : Call) (noted : Bool) → noted ≡ true → HasCalls old new (if noted then old.calls.items ++ call ∷ [] else old.calls.items) → HasCalls old new (old.calls.items ++ call ∷ [])
has_noted old new call noted is now = record { start = now.start; plan = now.plan; calls = noted_yes old.calls.items new.calls.items call noted now.calls is }

-- where a test is false, what it tells isn't so
pub isnt : {P : Type 0} (test : Bool) → ((IsTrue test → P) × (P → IsTrue test)) → test ≡ false → P → ⊥
isnt test tells is p = let yes : test ≡ true = tells.1 p in absurd (cc)

-- a front that is asked to be longer than the list is the list
pub take_min : (n : ℕ) (xs : List ℕ) → take (min (length xs) n) xs ≡ take n xs
take_min n xs = ⊎_elim
    (λ (short : n < length xs). ap (λ (k : ℕ). take k xs) (let is : min (length xs) n ≡ n = omega arith in is))
    (λ (long : length xs ≤ n). let is : min (length xs) n ≡ length xs = omega arith in
    ap (λ (k : ℕ). take k xs) is ∙ take_all (length xs) xs (omega arith) ∙ sym (take_all n xs long))
    (cases_lt n (length xs))
