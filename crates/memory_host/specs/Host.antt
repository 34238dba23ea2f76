-- What a host in memory means, and what each of its calls leaves.
use Rattle.std.specs.Prelude.{◌≡◌, ◌≤◌, ◌⊎◌, ◌+◌, ℕ, Bool, true, false, IsTrue, Some, List, length, take, drop, ◌==◌, refl}
use Rattle.std.proofs.Common.{sym, ◌∙◌, ap, subst, ⊎_elim, arith}
use Rattle.std.proofs.lemmas.Option.{same_Some}
use Rattle.ex_base.specs.Bytes.{IsBytes}
use Rattle.disk_model.specs.Outside.{Outside, IsWorld}
use Rattle.disk_model.specs.Calls.{MakesCalls, MakesAtMost}
use Rattle.disk_model.specs.Runs.{calls_at_most}
use Rattle.memory_host.specs.ReplayLaws.{world_of}
use Rattle.memory_host.specs.Replay.{State, outside_of, replayed}
use Rattle.memory_host.specs.Plan.{Plan, IsFailing}
use Rattle.memory_host.specs.declared.host.Call.{Call}
use Rattle.memory_host.specs.declared.host.MemoryHost.{MemoryHost}

abbrev pub means : MemoryHost → Outside
means h = outside_of h.start.items (length h.lying.items == 0) h.calls.items (drop h.taken h.script.items) h.disk_faults h.read_faults h.write_faults

pub is_world_of : (h : MemoryHost) → IsWorld (means h)
is_world_of h =
    world_of h.start.items (length h.lying.items == 0) h.calls.items (drop h.taken h.script.items) h.disk_faults h.read_faults h.write_faults
    (sym (ap length h.disk_is) ∙ h.same_size) (subst IsBytes h.disk_is h.of_bytes)

-- what it was asked to do beside its work
abbrev pub plan_of : MemoryHost → Plan
plan_of h = record { failing = h.failing.items; lying = h.lying.items; stop = h.stop; piece = h.piece }

-- how many calls were made
abbrev pub calls_of : MemoryHost → ℕ
calls_of h = length h.calls.items

-- disk and sink after that many calls
abbrev pub state_at : MemoryHost → ℕ → State
state_at h moment = replayed h.start.items (take moment h.calls.items)

-- disk and sink now
abbrev pub state_of : MemoryHost → State
state_of h = replayed h.start.items h.calls.items

-- what the source has left
abbrev pub left_of : MemoryHost → List ℕ
left_of h = drop h.taken h.script.items

-- The next call fails.
abbrev pub FailsNext : MemoryHost → Type 0
FailsNext h = IsFailing (plan_of h) (calls_of h + 1)

-- What a call leaves: disk and sink as `done` where it works, and as `undone` where it is made to fail.
pub record CallLeaves (old new : MemoryHost) (failed : Bool) (done undone : State) : Type 0 where
  -- It changes no plan, and nothing of what was before.
  pub plan : plan_of new ≡ plan_of old
  pub earlier : (moment : ℕ) → moment ≤ calls_of old → state_at new moment ≡ state_at old moment
  -- It fails where its number is one of those that fail.
  pub fails : FailsNext old → IsTrue failed
  pub works : failed ≡ false → (calls_of new ≡ calls_of old + 1) × (state_of new ≡ done)
  -- Else it fails only for want of memory, and then it has no number and changes nothing.
  pub breaks : failed ≡ true → (FailsNext old × (calls_of new ≡ calls_of old + 1) × (state_of new ≡ undone)) ⊎ ((calls_of new ≡ calls_of old) × (state_of new ≡ state_of old))

-- The host was asked the same, and these are its calls now.
pub record HasCalls (old new : MemoryHost) (now : List Call) : Type 0 where
  pub start : new.start.items ≡ old.start.items
  pub plan : plan_of new ≡ plan_of old
  pub calls : new.calls.items ≡ now

-- A call that works is counted once, and one that fails at most once.
pub called_once : (old new : MemoryHost) (failed : Bool) (done undone : State) → CallLeaves old new failed done undone → failed ≡ false
    → MakesCalls 1 (means old) (means new)
called_once old new failed done undone leaves works = record {
  counted = λ n is. ap (λ (m : ℕ). Some m) ((leaves.works works).0 ∙ ap (λ (m : ℕ). m + 1) (same_Some _ _ is));
}

pub called_at_most_once : (old new : MemoryHost) (failed : Bool) (done undone : State) → CallLeaves old new failed done undone
    → MakesAtMost 1 (means old) (means new)
called_at_most_once old new false done undone leaves = calls_at_most (called_once old new false done undone leaves refl)
called_at_most_once old new true done undone leaves = record {
  counted = λ n is. ⊎_elim
      (λ noted. (1, omega arith, ap (λ (m : ℕ). Some m) (noted.1 ∙ ap (λ (m : ℕ). m + 1) (same_Some _ _ is))))
      (λ unnoted. (0, omega arith, ap (λ (m : ℕ). Some m) (unnoted.0 ∙ same_Some _ _ is ∙ omega arith)))
      (leaves.breaks refl);
}
