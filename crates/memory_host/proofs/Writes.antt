-- What a write that was noted leaves.
use Rattle.std.proofs.Common.{◌≡◌, ◌≤◌, ◌∙◌, sym, ap, subst, ℕ, ◌+◌, ◌==◌, Bool, true, IsTrue, List, [], ◌∷◌, ◌++◌, length, arith, if◌then◌else◌, Vec}
use Rattle.std.specs.declared.alloc.Global.{Global}
use Rattle.std.specs.Prelude.{not}
use Rattle.ex_base.specs.Bytes.{IsBytes}
use Rattle.disk_model.specs.Outside.{Outside, DiskOnly}
use Rattle.disk_model.specs.Calls.{Tears, Wrote}
use Rattle.memory_host.specs.Replay.{outside_of, replayed, after_write}
use Rattle.memory_host.specs.Host.{means, state_of, left_of}
use Rattle.memory_host.specs.ReplayLaws.{noted_yes, write_call, write_tears, write_wrote, replayed_push}
use Rattle.memory_host.specs.declared.host.Call.{Call}
use Rattle.memory_host.specs.declared.host.Call.TheVariants.{Write}
use Rattle.memory_host.specs.declared.host.MemoryHost.{MemoryHost}

-- the calls after a write that was noted, which was to fail or not
pub write_noted : (calls now : List Call) (at : ℕ) (copy : Vec ℕ Global) (fails noted : Bool) → now ≡ (if noted then calls ++ Write at copy (not fails) ∷ [] else calls) → noted ≡ true
    → (b : Bool) → fails ≡ b → now ≡ calls ++ Write at copy (not b) ∷ []
write_noted calls now at copy fails noted is yes_ b same =
    noted_yes calls now (Write at copy (not fails)) noted is yes_ ∙ ap (λ (x : Bool). calls ++ Write at copy (not x) ∷ []) same

module _ (old : MemoryHost) (at : ℕ) (bytes : List ℕ) (copy : Vec ℕ Global) (calls : List Call) (done : Bool)
    (same : copy.items ≡ bytes) (fits : at + length bytes ≤ length old.start.items) (now : calls ≡ old.calls.items ++ Write at copy done ∷ []) where
  -- the host after the write
  abbrev pub after : Outside
  after = outside_of old.start.items (length old.lying.items == 0) calls (left_of old) old.disk_faults old.read_faults old.write_faults

  size_is : length (state_of old).disk ≡ length old.start.items
  size_is = sym (ap length old.disk_is) ∙ old.same_size

  room : at + length copy.items ≤ length (state_of old).disk
  room = omega (arith, fits, ap length same, size_is)

  held : IsBytes (state_of old).disk
  held = subst IsBytes old.disk_is old.of_bytes

  pub written_only : DiskOnly (means old) after
  written_only =
      subst (λ (cs : List Call). DiskOnly (means old) (outside_of old.start.items (length old.lying.items == 0) cs (left_of old) old.disk_faults old.read_faults old.write_faults)) (sym now)
      (write_call old.start.items (length old.lying.items == 0) old.calls.items at copy (left_of old) old.disk_faults old.disk_faults old.read_faults old.write_faults (omega arith) room held done)

  pub written_tears : IsTrue (length old.lying.items == 0) → Tears at (length bytes) (means old) after
  written_tears honest =
      subst (λ (n : ℕ). Tears at n (means old) after) (ap length same)
      (subst (λ (cs : List Call). Tears at (length copy.items) (means old) (outside_of old.start.items (length old.lying.items == 0) cs (left_of old) old.disk_faults old.read_faults old.write_faults)) (sym now)
      (write_tears old.start.items (length old.lying.items == 0) old.calls.items at copy (left_of old) old.disk_faults old.disk_faults old.read_faults old.write_faults (omega arith) room held done honest))

  -- disk and sink after the write
  pub written_state : replayed old.start.items calls ≡ after_write (state_of old) at bytes done
  written_state =
      ap (replayed old.start.items) now ∙ replayed_push old.start.items old.calls.items (Write at copy done)
      ∙ ap (λ (l : List ℕ). after_write (state_of old) at l done) same

-- a write that was done
module _ (old : MemoryHost) (at : ℕ) (bytes : List ℕ) (copy : Vec ℕ Global) (calls : List Call)
    (same : copy.items ≡ bytes) (fits : at + length bytes ≤ length old.start.items) (now : calls ≡ old.calls.items ++ Write at copy true ∷ []) where
  pub written_wrote : Wrote at bytes (means old) (after old at bytes copy calls true same fits now)
  written_wrote d holds = subst (λ (l : List ℕ). Wrote at l (means old) (after old at bytes copy calls true same fits now)) same
      (subst (λ (cs : List Call). Wrote at copy.items (means old) (outside_of old.start.items (length old.lying.items == 0) cs (left_of old) old.disk_faults old.read_faults old.write_faults)) (sym now)
      (write_wrote old.start.items (length old.lying.items == 0) old.calls.items at copy (left_of old) old.disk_faults old.disk_faults old.read_faults old.write_faults (omega arith)
      (omega (arith, fits, ap length same, ap length old.disk_is, old.same_size)) (subst IsBytes old.disk_is old.of_bytes))) d holds
