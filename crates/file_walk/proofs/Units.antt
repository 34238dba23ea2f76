-- A page that comes into use, and states of an object that keep what it tells.
use Rattle.std.proofs.Common.{◌≡◌, ◌≢◌, ℕ, Bool, true, false, eqb, eq-eqb, List, [], ◌∷◌, refl, sym, ap, subst, ◌∙◌, arith, inl, inr}
use Rattle.ex_base.specs.declared.ground.Ground as ground
use Rattle.ex_base.specs.declared.geometry.Geometry.{Geometry}
use Rattle.ex_base.specs.Area.{InPageArea}
use Rattle.ex_base.specs.declared.faults.PortFault.{PortFault}
use Rattle.ex_base.specs.Ports.{Keeps, Cause}
use Rattle.ex_base.proofs.Keeping.{cause_since, same_geometry}
use Rattle.ex_base.proofs.Counts.{not_equal, same_or_not, times_apart, times_here}
use Rattle.page_alloc.specs.UnitSet.{UnitSet, used_at, refs_at, given_at, updated}
use Rattle.file_index.specs.Changes.{count_of}
use Rattle.trees.specs.Trees.{Units}
use Rattle.file_walk.specs.Walk.{Tells, CountsUsed, KeepsUnits}

at_page : (f : ℕ → Bool) (page p : ℕ) → p ≡ page → updated f page true p ≡ true
at_page f page p same = let test : eqb p page ≡ true = eq-eqb p page same in rw test refl

beside : (f : ℕ → Bool) (page p : ℕ) → p ≢ page → updated f page true p ≡ f p
beside f page p differ = let test : eqb p page ≡ false = not_equal p page differ in rw test refl

pub claimed : (u v : UnitSet) (page : ℕ) → used_at u page ≡ false → used_at v ≡ updated (used_at u) page true → CountsUsed u v [] (page ∷ [])
claimed u v page free now p = elim (same_or_not p page) [
  | inl same ↦
      let is : used_at v p ≡ true = ap (λ (f : ℕ → Bool). f p) now ∙ at_page (used_at u) page p same in
      let was : used_at u p ≡ false = ap (used_at u) same ∙ free in
      omega (arith, ap count_of is, ap count_of was, times_here p page [] same)
  | inr differ ↦
      let is : used_at v p ≡ used_at u p = ap (λ (f : ℕ → Bool). f p) now ∙ beside (used_at u) page p differ in
      omega (arith, ap count_of is, times_apart p page [] differ)
]

pub adopted : (u v : UnitSet) (page : ℕ) → v.geometry ≡ u.geometry → used_at v ≡ updated (used_at u) page true → refs_at v ≡ refs_at u → given_at v ≡ given_at u → KeepsUnits u v
adopted u v page geometry now refs given = record {
  geometry = geometry;
  used = λ p h. elim (same_or_not p page) [
    | inl same ↦ ap (λ (f : ℕ → Bool). f p) now ∙ at_page (used_at u) page p same
    | inr differ ↦ ap (λ (f : ℕ → Bool). f p) now ∙ beside (used_at u) page p differ ∙ h
  ];
  refs = refs;
  given = given;
}

pub units_same : (u : UnitSet) → KeepsUnits u u
units_same u = record { geometry = refl; used = λ p h. h; refs = refl; given = refl }

pub units_on : (u v w : UnitSet) → KeepsUnits u v → KeepsUnits v w → KeepsUnits u w
units_on u v w one two = record { geometry = two.geometry ∙ one.geometry; used = λ p h. two.used p (one.used p h); refs = two.refs ∙ one.refs; given = two.given ∙ one.given }

module _ {S : Type 0} (g : ground.Ghosts S) where
  -- a fault later on
  pub cause_on : (a b : S) (now : ℕ) (fault : PortFault) → Keeps g a b → Cause (g.faults b) now fault → Cause (g.faults a) now fault
  cause_on a b now fault kept = cause_since (g.faults a) (g.faults b) now fault (g.leads_faults a b kept.leads)

  pub tells_on : (a b : S) (images : Units) → Keeps g a b → Tells g a images → Tells g b images
  tells_on a b images kept told = record {
    tells = g.leads_told a b kept.leads told.tells;
    same = λ p area. told.same p (subst (λ (y : Geometry). InPageArea y p) (same_geometry g a b kept) area) ∙ sym (ap (λ (f : ℕ → List ℕ). f p) kept.images);
  }
