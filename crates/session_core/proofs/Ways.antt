-- What calls on the session's volume have read of it.
use Rattle.std.proofs.Common.{◌≡◌, ◌∙◌, ℕ, List, Option, Some, None, Result, Ok, Err, sym, ap, subst, inl, inr, arith}
use Rattle.std.specs.Prelude.{IfOk, IfSome, OnOk}
use Rattle.ex_base.specs.declared.ground.Ground as ground
use Rattle.ex_base.specs.declared.faults.PortFault.{PortFault}
use Rattle.ex_base.specs.declared.geometry.Geometry.{Geometry}
use Rattle.ex_base.specs.declared.names.Oid.{Oid}
use Rattle.disk_model.specs.Outside.{Outside}
use Rattle.file_bodies.specs.Damage.{IsBelonging}
use Rattle.session_views.specs.declared.stop.Stop.{Stop}
use Rattle.table_model.specs.declared.reply.Refusal.{Refusal}
use Rattle.table_model.specs.Requests.{Reference}
use Rattle.tree_store.specs.Stored.{unit_bytes}
use Rattle.trees.specs.Trees.{Units}
use Rattle.versions.specs.Damage.{IsFoundAt}
use Rattle.versions.specs.declared.finding.Found.{Found}
use Rattle.volume_port.specs.Reading.{TellsBytes}
use Rattle.session_core.specs.Damage.{image_on, units_on}
use Rattle.session_core.specs.Finding.{IsOutOfRange, IsPortOver, IsUnnamed, oid_among, stop_or}
use Rattle.session_core.specs.Sessions.{SessionState}
use Rattle.session_core.specs.Steps.{OnlyFrames}
use Rattle.session_core.specs.Ways.{IsLookBy, IsLookFor}
use Rattle.session_core.specs.declared.session.objects.Named.{Named}
use Rattle.session_core.proofs.Damage.{later_tells}
use Rattle.session_core.proofs.Finding.{told_ok, told_on_ok}

module _ {T S : Type 0} (g : ground.Ghosts S) (s : S) {a : Outside} {old : SessionState} (said : Result T PortFault) (result : Result T Stop) (is : result ≡ stop_or said) (over : IsPortOver g s a old) where
  -- what a port over a session has read, where it tells
  over_session_so : (P : Geometry → (ℕ → List ℕ) → Units → Type 0) → (g.tells s → P (g.geometry s) (g.image s) (g.unit s)) → TellsBytes a old.groups → P old.geometry (image_on a old) (units_on a old)
  over_session_so P told = λ tells. subst (λ (z : Geometry). P z (image_on a old) (units_on a old)) over.port.geometry
      (subst (λ (z : ℕ → List ℕ). P (g.geometry s) z (units_on a old)) over.port.image
      (subst (λ (z : Units). P (g.geometry s) (g.image s) z) over.port.unit (told (over.tells tells))))

  pub way_told : (P : Geometry → (ℕ → List ℕ) → Units → T → Type 0) → IfOk said (λ x. g.tells s → P (g.geometry s) (g.image s) (g.unit s) x)
      → IfOk result (λ x. TellsBytes a old.groups → P old.geometry (image_on a old) (units_on a old) x)
  way_told P told = told_ok said result is (λ x. TellsBytes a old.groups → P old.geometry (image_on a old) (units_on a old) x) (by said told)
    where
      by : (r : Result T PortFault) → IfOk r (λ x. g.tells s → P (g.geometry s) (g.image s) (g.unit s) x) → IfOk r (λ x. TellsBytes a old.groups → P old.geometry (image_on a old) (units_on a old) x)
      by (Err fault) h = tt
      by (Ok x) h = over_session_so (λ z image units. P z image units x) h

  pub way_passed : (P : Geometry → (ℕ → List ℕ) → Units → Type 0) → OnOk said (g.tells s → P (g.geometry s) (g.image s) (g.unit s)) → OnOk result (TellsBytes a old.groups → P old.geometry (image_on a old) (units_on a old))
  way_passed P told = told_on_ok said result is (TellsBytes a old.groups → P old.geometry (image_on a old) (units_on a old)) (by said told)
    where
      by : (r : Result T PortFault) → OnOk r (g.tells s → P (g.geometry s) (g.image s) (g.unit s)) → OnOk r (TellsBytes a old.groups → P old.geometry (image_on a old) (units_on a old))
      by (Err fault) h = tt
      by (Ok x) h = over_session_so P h

-- a look for a version, of which the way and the record are told
pub looked_for : {S : Type 0} (g : ground.Ghosts S) (s : S) {a : Outside} {old : SessionState} (oid : Oid) (said : Result (Option Found) PortFault) → IsPortOver g s a old → OnOk said (g.tells s → IsBelonging (g.geometry s) (g.image s) oid.page.0)
    → IfOk said (λ found. IfSome found (λ found. g.tells s → IsFoundAt (g.geometry s) (g.image s) oid found)) → IfOk said (λ found. g.tells s → IsLookFor (g.geometry s) (g.image s) oid found)
looked_for g s oid (Err fault) over way stands = tt
looked_for g s oid (Ok None) over way stands = λ tells. record { way = way tells; stands = tt }
looked_for g s oid (Ok (Some found)) over way stands = λ tells. record { way = way tells; stands = stands tells }

-- ---- the version that a line names

same_oid : (u v : Oid) → Some u ≡ Some v → u ≡ v
same_oid u v is = cc

-- a line that gives no OID in range looks for none
pub none_looked : (w : Outside) (s : SessionState) (x : Reference) (why : Refusal) → IsUnnamed s.names x why → IsLookBy w s x (Err why)
none_looked w s x why is = record { way = λ oid own inside. absurd (by is oid own inside); stands = tt }
  where
    by : IsUnnamed s.names x why → (oid : Oid) → oid_among s.names x ≡ Some oid → (IsOutOfRange oid → ⊥) → ⊥
    by (inl none) oid own inside = (let unlike = sym own ∙ none.1 in cc)
    by (inr far) oid own inside = (
        let there = far.1 in
        let same : Some there.0 ≡ Some oid = sym there.1 ∙ own in
        inside (subst IsOutOfRange (same_oid there.0 oid same) there.2))

pub one_looked : (w : Outside) (s : SessionState) (x : Reference) (oid : Oid) (found : Found) → oid_among s.names x ≡ Some oid → IsLookFor s.geometry (image_on w s) oid (Some found) → IsLookBy w s x (Ok (record { oid = oid; found = found }))
one_looked w s x oid found own look = record { way = λ other given inside. subst (λ (o : Oid). IsBelonging s.geometry (image_on w s) o.page.0) (same_oid oid other (sym own ∙ given)) look.way; stands = look.stands }

pub none_found : (w : Outside) (s : SessionState) (x : Reference) (oid : Oid) (why : Refusal) → oid_among s.names x ≡ Some oid → IsLookFor s.geometry (image_on w s) oid None → IsLookBy w s x (Err why)
none_found w s x oid why own look = record { way = λ other given inside. subst (λ (o : Oid). IsBelonging s.geometry (image_on w s) o.page.0) (same_oid oid other (sym own ∙ given)) look.way; stands = tt }

-- ---- behind a call that only read

-- what a later call has read
pub later_way : {a b : Outside} {old mid : SessionState} (one : OnlyFrames a b old mid) (P : Geometry → (ℕ → List ℕ) → Units → Type 0) → (TellsBytes b mid.groups → P mid.geometry (image_on b mid) (units_on b mid))
    → TellsBytes a old.groups → P old.geometry (image_on a old) (units_on a old)
later_way {a} {b} {old} {mid} one P is = λ tells.
    subst (λ (o : Option (List ℕ)). P old.geometry (image_on (record a { disk = o }) old) (unit_bytes old.geometry o)) one.reads.nothing.disk
    (subst (λ (s : SessionState). P s.geometry (image_on b s) (units_on b s)) one.same (is (later_tells old mid one tells)))
