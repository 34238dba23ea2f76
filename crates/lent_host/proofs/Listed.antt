-- What a call that is listed leaves of the outside.
use Rattle.std.proofs.Common.{◌≡◌, ◌≤◌, ◌∙◌, sym, ap, subst, ℕ, ◌+◌, Bool, true, false, IsTrue, List, [], ◌∷◌, ◌++◌, length, map, refl, arith, if◌then◌else◌, Vec}
use Rattle.std.specs.declared.alloc.Global.{Global}
use Rattle.ex_base.specs.Bytes.{IsBytes, repl, repl_is_bytes, length-repl}
use Rattle.disk_model.specs.Outside.{DiskOnly, WritesNothing}
use Rattle.disk_model.specs.Calls.{Tears, Wrote, Settles}
use Rattle.memory_host.specs.Replay.{State, replayed, after_call}
use Rattle.memory_host.specs.Replay as memory
use Rattle.memory_host.specs.ReplayLaws.{replayed_push, write_call, write_tears, write_wrote, sync_call}
use Rattle.memory_host.specs.declared.host.Call.{Call}
use Rattle.memory_host.specs.declared.host.Call.TheVariants as call
use Rattle.lent_host.specs.Hushed.{hushed, only_hushed, nothing_hushed, tears_hushed}
use Rattle.lent_host.specs.Lent.{made, outside_of, state_after, top}
use Rattle.lent_host.specs.declared.host.Asked.{Asked}
use Rattle.lent_host.specs.declared.host.Asked.TheVariants.{Write, Sync}

made_push : (asked : List Asked) (one : Asked) → map made (asked ++ one ∷ []) ≡ map made asked ++ made one ∷ []
made_push [] one = refl
made_push (first ∷ rest) one = ap (λ (calls : List Call). made first ∷ calls) (made_push rest one)

-- the state after one call more
pub state_push : (file : List ℕ) (asked now : List Asked) (one : Asked) → now ≡ asked ++ one ∷ [] → state_after file now ≡ after_call (state_after file asked) (made one)
state_push file asked now one is =
    ap (state_after file) is ∙ ap (replayed file) (made_push asked one) ∙ replayed_push file (map made asked) (made one)

-- the calls after one that was listed
calls_now : (asked now : List Asked) (one : Asked) → now ≡ asked ++ one ∷ [] → map made now ≡ map made asked ++ made one ∷ []
calls_now asked now one is = ap (λ (l : List Asked). map made l) is ∙ made_push asked one

-- a write that was listed, on a file that holds an image
module _ (file image : List ℕ) (asked now : List Asked) (i a at : ℕ) (bytes : List ℕ) (copy : Vec ℕ Global)
    (lent : (state_after file asked).disk ≡ image) (of_bytes : IsBytes image) (same : copy.items ≡ bytes) (fits : at + length bytes ≤ length image)
    (is : now ≡ asked ++ Write at copy ∷ []) where
  room : at + length copy.items ≤ length (state_after file asked).disk
  room = omega (arith, fits, ap length same, ap length lent)

  held : IsBytes (state_after file asked).disk
  held = subst IsBytes (sym lent) of_bytes

  pub written_only : DiskOnly (outside_of file asked i a) (outside_of file now i a)
  written_only =
      subst (λ (cs : List Call). DiskOnly (outside_of file asked i a) (hushed (memory.outside_of file true cs (i ∷ a ∷ file) top top top))) (sym (calls_now asked now (Write at copy) is))
      (only_hushed (write_call file true (map made asked) at copy (i ∷ a ∷ file) top top top top (omega arith) room held true))

  pub written_tears : Tears at (length bytes) (outside_of file asked i a) (outside_of file now i a)
  written_tears =
      subst (λ (n : ℕ). Tears at n (outside_of file asked i a) (outside_of file now i a)) (ap length same)
      (subst (λ (cs : List Call). Tears at (length copy.items) (outside_of file asked i a) (hushed (memory.outside_of file true cs (i ∷ a ∷ file) top top top))) (sym (calls_now asked now (Write at copy) is))
      (tears_hushed at (length copy.items) (write_tears file true (map made asked) at copy (i ∷ a ∷ file) top top top top (omega arith) room held true refl)))

  pub written_wrote : Wrote at bytes (outside_of file asked i a) (outside_of file now i a)
  written_wrote =
      subst (λ (l : List ℕ). Wrote at l (outside_of file asked i a) (outside_of file now i a)) same
      (subst (λ (cs : List Call). Wrote at copy.items (outside_of file asked i a) (hushed (memory.outside_of file true cs (i ∷ a ∷ file) top top top))) (sym (calls_now asked now (Write at copy) is))
      (write_wrote file true (map made asked) at copy (i ∷ a ∷ file) top top top top (omega arith) room held))

-- an image over which a write was done, or none
pub write_lent : (file image : List ℕ) (asked : List Asked) (at : ℕ) (bytes : List ℕ) → (state_after file asked).disk ≡ image → length image ≡ length file → IsBytes image
    → at + length bytes ≤ length image → IsBytes bytes → (now : List Asked) (next : List ℕ) (done : Bool)
    → (IsTrue done → (copy : Vec ℕ Global) × (copy.items ≡ bytes) × (now ≡ asked ++ Write at copy ∷ []) × (next ≡ repl image at bytes))
    → (done ≡ false → now ≡ asked) → (done ≡ false → next ≡ image) → ((state_after file now).disk ≡ next) × (length next ≡ length file) × IsBytes next
write_lent file image asked at bytes lent whole of_bytes fits given now next true put same_calls same_image =
    let p = put refl in (
      ap (λ (st : State). st.disk) (state_push file asked now (Write at p.0) p.2) ∙ ap (λ (l : List ℕ). repl l at p.0.items) lent ∙ ap (λ (l : List ℕ). repl image at l) p.1 ∙ sym p.3,
      ap length p.3 ∙ length-repl image at bytes fits ∙ whole,
      subst IsBytes (sym p.3) (repl_is_bytes image at bytes fits of_bytes given),
    )
write_lent file image asked at bytes lent whole of_bytes fits given now next false put same_calls same_image = (
  ap (λ (l : List Asked). (state_after file l).disk) (same_calls refl) ∙ lent ∙ sym (same_image refl),
  ap length (same_image refl) ∙ whole,
  subst IsBytes (sym (same_image refl)) of_bytes,
)

-- a sync that was listed
module _ (file : List ℕ) (asked now : List Asked) (i a : ℕ) (is : now ≡ asked ++ Sync ∷ []) where
  pub synced : WritesNothing (outside_of file asked i a) (outside_of file now i a) × Settles (outside_of file asked i a) (outside_of file now i a)
  synced =
      subst (λ (cs : List Call). WritesNothing (outside_of file asked i a) (hushed (memory.outside_of file true cs (i ∷ a ∷ file) top top top))
      × Settles (outside_of file asked i a) (hushed (memory.outside_of file true cs (i ∷ a ∷ file) top top top))) (sym (calls_now asked now Sync is))
      (let made_once = sync_call file true (map made asked) (i ∷ a ∷ file) top top top in (nothing_hushed made_once.0, made_once.1))

-- an image after a sync was listed, or not
pub sync_lent : (file image : List ℕ) (asked now : List Asked) (noted : Bool) → now ≡ (if noted then asked ++ Sync ∷ [] else asked) → (state_after file asked).disk ≡ image → (state_after file now).disk ≡ image
sync_lent file image asked now true is lent = ap (λ (st : State). st.disk) (state_push file asked now Sync is) ∙ lent
sync_lent file image asked now false is lent = ap (λ (l : List Asked). (state_after file l).disk) is ∙ lent
