-- An update stays one where a call that only reads follows it.
use Rattle.std.proofs.Common.{◌≡◌, ◌≤◌, ◌+◌, ℕ, sym, subst, arith}
use Rattle.std.specs.Prelude.{Result, Ok, Err, IfOk, IfErr, OnOk}
use Rattle.ex_base.specs.declared.ground.Ground as ground
use Rattle.ex_base.specs.declared.faults.PortFault.{PortFault}
use Rattle.ex_base.specs.declared.names.Area.{Area}
use Rattle.ex_base.specs.Ports.{IsDamage, Keeps}
use Rattle.volume_model.specs.Volume.{table_of}
use Rattle.volume_edits.specs.Ported.{units_in}
use Rattle.volume_edits.specs.TableUpdates.{BecomesVolume, TableUpdate, TakesWithin, updated}
use Rattle.volume_edits.proofs.MovedVolumes.{apart_before, still_becomes, used_before}
use Rattle.session_core.specs.declared.updates.Done.{Done}
use Rattle.file_index.specs.Touches.{TouchesAtMost}
use Rattle.version_tree.specs.Touches.{version_touches}
use Rattle.file_bodies.specs.Touches.{body_touches}
use Rattle.session_core.specs.Performed.{Updates}

-- the call answers what the update did
pub still_updated : {S : Type 0} (g : ground.Ghosts S) (old mid new : S) (keeps : Keeps g mid new) (u : TableUpdate) (done : Done) (result : Result Done PortFault) → Updates g old mid u (Ok done) → IfOk result (λ read. read ≡ done) → IfErr result (λ fault. IsDamage fault → ⊥)
    → Updates g old new u result
still_updated g old mid new keeps u done (Ok read) does same never = record {
  done = λ records v tells vol asks apart used.
      subst (λ (d : Done). BecomesVolume g old new records v (updated u d.oid (table_of (units_in g old) v)) d.gone d.come) (sym same)
      (still_becomes g old mid new keeps records v _ done.gone done.come (does.done records v tells vol asks (apart_before g old mid new keeps apart) (used_before g old mid new keeps used)));
  sound = tt;
}
still_updated g old mid new keeps u done (Err fault) does same never = record { done = tt; sound = λ damage records v tells vol asks room. never damage }

-- nothing is taken after an update
pub still_taken : {S : Type 0} (g : ground.Ghosts S) (old mid new : S) (need : Area → ℕ) → g.free new ≡ g.free mid → TakesWithin g old mid need → TakesWithin g old new need
still_taken g old mid new need same took area = subst (λ (free : Area → ℕ). g.free old area ≤ free area + need area) (sym same) (took area)

-- what holds of what the update did holds of what the call answers
pub still_done : {X E : Type 0} (result : Result X E) (done : X) (P : X → Type 0) → P done → IfOk result (λ read. read ≡ done) → IfOk result P
still_done (Ok read) done P p same = subst P (sym same) p
still_done (Err fault) done P p same = tt

-- and no more pages are touched
pub still_touches : {S E : Type 0} (g : ground.Ghosts S) (old mid new : S) (few most : ℕ) (result : Result Done E) → g.touched new ≡ g.touched mid → few ≤ most → TouchesAtMost g old mid few → OnOk result (TouchesAtMost g old new most)
still_touches g old mid new few most (Ok done) same wide touches = omega (arith, same, wide, touches)
still_touches g old mid new few most (Err fault) same wide touches = tt

-- one call after the other
pub touches_on : {S : Type 0} (g : ground.Ghosts S) (a b c : S) (few more : ℕ) → TouchesAtMost g a b few → TouchesAtMost g b c more → TouchesAtMost g a c (few + more)
touches_on g a b c few more one two = omega (arith, one, two)

-- as many as an update may touch
pub change_few : 1 ≤ 1
change_few = omega arith

pub version_few : version_touches ≤ 16
version_few = omega arith

pub copied_few : 1 + version_touches ≤ 16
copied_few = omega arith

pub created_few : 1 + body_touches ≤ 16
created_few = omega arith
