-- What packing a volume ends with.
use Rattle.std.proofs.Common.{◌≡◌, inl, inr, ℕ, ◌+◌, ◌-◌, ◌<◌, ◌≤◌, false, List, refl, sym, ap, subst, ◌∙◌, arith}
use Rattle.std.specs.Prelude.{Err, MatchResult, Result, IsErrAnd}
use Rattle.std.proofs.lemmas.Result.{err_from_is_err_and}
use Rattle.ex_base.specs.declared.geometry.Geometry.{Geometry}
use Rattle.ex_base.specs.declared.names.Area.TheVariants.{Segment}
use Rattle.ex_base.specs.Area.{unit_at}
use Rattle.disk_model.specs.Outside.{Outside}
use Rattle.page_alloc.specs.UnitSet.{free_count, used_at}
use Rattle.tree_store.specs.Stored.{IsCounted}
use Rattle.volume_model.specs.Shown.{used_below, used_in}
use Rattle.volume_model.specs.Volume.{Decoded}
use Rattle.volume_port.specs.State.{IsAtRest}
use Rattle.volume_port.specs.declared.state.VolumeState.{VolumeState}
use Rattle.compact.specs.High.{free_below}
use Rattle.packing.specs.Dense.{IsFirstLacking, all_objects, need_in}
use Rattle.packing.specs.Loop.{HasLowTree, MovesAll}
use Rattle.packing.specs.Packing.{IfLacking, IsPacked, LacksPages, StopsLacking, high_used, pages_free, segs_used}
use Rattle.packing.specs.Resting.{TellsDamage}
use Rattle.packing.specs.declared.fault.PackFault.{PackFault}
use Rattle.packing.specs.declared.fault.PackFault.TheVariants as fault
use Rattle.packing.proofs.Given.{free_or_used}
use Rattle.packing.proofs.LowUnits as low_units
use Rattle.packing.proofs.Moments.{same_refl}
use Rattle.packing.proofs.PackedObjects.{none_lacks, one_first}
use Rattle.packing.proofs.Whole.{dense_where, low_none, needs_none, none_behind, segs_here}

-- ---- units in use

free_here : (volume : VolumeState) (free : ℕ) → IsCounted volume.geometry volume.units → free ≡ free_count volume.units.geometry (used_at volume.units) Segment → free + segs_used volume ≡ volume.geometry.segs
free_here volume free counted is =
    let same = subst (λ (g : Geometry). free ≡ free_count g (used_at volume.units) Segment) counted.geometry is in
    omega (arith, same, free_or_used (used_at volume.units) (unit_at volume.geometry Segment) volume.geometry.segs)

pub few_free : (volume : VolumeState) (free : ℕ) → IsCounted volume.geometry volume.units → free ≡ free_count volume.units.geometry (used_at volume.units) Segment → free ≤ volume.geometry.segs
few_free volume free counted is = omega (arith, free_here volume free counted is)

pub segs_are : (volume : VolumeState) (free segs : ℕ) → IsCounted volume.geometry volume.units → free ≡ free_count volume.units.geometry (used_at volume.units) Segment → segs ≡ volume.geometry.segs - free → segs ≡ segs_used volume
segs_are volume free segs counted is rest = omega (arith, free_here volume free counted is, rest)

module _ (volume : VolumeState) (moved segs : ℕ) (in_use : segs ≡ segs_used volume) (free : moved ≡ free_below volume.geometry (used_at volume.units) segs) where
  pub moved_are : moved ≡ high_used volume
  moved_are =
      let parts : free_below volume.geometry (used_at volume.units) (segs_used volume) + used_below (used_at volume.units) (unit_at volume.geometry Segment) (segs_used volume) ≡ segs_used volume =
      low_units.free_or_used volume.geometry (used_at volume.units) (segs_used volume) in
      let same : moved ≡ free_below volume.geometry (used_at volume.units) (segs_used volume) = free ∙ ap (free_below volume.geometry (used_at volume.units)) in_use in
      omega (arith, parts, same)

  -- ---- where none is high

  module _ (w : Outside) (d : Decoded) (image : List ℕ) (rests : IsAtRest w volume d image) (zero : moved ≡ 0) where
    all_low : used_in d.geometry (used_at volume.units) Segment ≡ used_below (used_at volume.units) (unit_at d.geometry Segment) segs
    all_low =
        let here : used_in volume.geometry (used_at volume.units) Segment ≡ used_below (used_at volume.units) (unit_at volume.geometry Segment) segs =
        omega (arith, low_units.free_or_used volume.geometry (used_at volume.units) segs, free, zero, in_use) in
        subst (λ (g : Geometry). used_in g (used_at volume.units) Segment ≡ used_below (used_at volume.units) (unit_at g Segment) segs) (sym rests.geometry) here

    none_high : (j : ℕ) → segs ≤ j → j < d.geometry.segs → used_at volume.units (unit_at d.geometry Segment j) ≡ false
    none_high = none_behind d.geometry (used_at volume.units) segs all_low

    pub packed_already : IsPacked w volume volume d image (record { moved = moved; segs = segs })
    packed_already = record {
      again = record { decoded = d; image = image; rests = rests; same = same_refl d image };
      dense = dense_where w volume d image rests segs (segs_here w volume d image rests ∙ sym in_use) none_high;
      segs = in_use;
      moved = moved_are;
    }

    pub lacks_none : (need free_pages : ℕ) → LacksPages volume d image need free_pages → ⊥
    lacks_none need free_pages lacks =
        let first = lacks.1 in
        let none = needs_none w volume d image rests segs none_high first.object in
        let same : need ≡ need_in d image segs first.object = subst (λ (n : ℕ). need ≡ need_in d image n first.object) (sym in_use) first.need_is in
        omega (arith, none, same, first.more)

  -- ---- where all were moved

  module _ (z : Outside) (new : VolumeState) (d : Decoded) (image : List ℕ) (m : MovesAll z volume new d image) where
    pub packed_now : IsPacked z volume new d image (record { moved = moved; segs = segs })
    packed_now = record {
      again = m.again;
      dense = dense_where z new m.again.decoded m.again.image m.again.rests segs (segs_here z new m.again.decoded m.again.image m.again.rests ∙ m.segs ∙ sym in_use)
          (low_none z new m.again.decoded m.again.image m.again.rests segs (λ s there. subst (λ (n : ℕ). HasLowTree m.again.decoded m.again.image n s) (sym in_use) (m.low s there)));
      segs = in_use;
      moved = moved_are;
    }

    pub lacks_never : (need free_pages : ℕ) → LacksPages volume d image need free_pages → ⊥
    lacks_never need free_pages lacks =
        none_lacks d image (segs_used volume) (pages_free volume) need (all_objects d image) m.enough
        (subst (λ (n : ℕ). IsFirstLacking d image (segs_used volume) n need (all_objects d image)) lacks.0 lacks.1)

-- ---- faults

pub told_lacks : {T : Type 0} (r : Result T PackFault) (e : PackFault) (fact : ℕ → ℕ → Type 0) → IsErrAnd r (λ f. f ≡ e) → IfLacking e fact → (need free : ℕ) → r ≡ Err (fault.NoPages need free) → fact need free
told_lacks r e fact handed lacks need free is =
    let y = err_from_is_err_and r handed in
    let same : y.0 ≡ fault.NoPages need free = cc in
    subst (λ (f : PackFault). IfLacking f fact) (sym y.2 ∙ same) lacks

-- one of two ends
stops : (volume : VolumeState) (d : Decoded) (image : List ℕ) (need free : ℕ) (e : PackFault) → LacksPages volume d image need free → IfLacking e (λ n f. LacksPages volume d image n f) → (TellsDamage e → ⊥) → StopsLacking need free e
stops volume d image need free fault.Disk is lacks sound = inr (inl refl)
stops volume d image need free fault.Memory is lacks sound = inr (inr refl)
stops volume d image need free (fault.Damaged page want got) is lacks sound = absurd (sound tt)
stops volume d image need free (fault.NoPages n f) is lacks sound =
    let same_free : f ≡ free = lacks.0 ∙ sym is.0 in
    let same_need : n ≡ need = one_first d image (segs_used volume) free n need (all_objects d image) (subst (λ (k : ℕ). IsFirstLacking d image (segs_used volume) k n (all_objects d image)) same_free lacks.1) is.1 in
    inl (ap (λ (k : ℕ). fault.NoPages k f) same_need ∙ ap (λ (k : ℕ). fault.NoPages need k) same_free)

lacks_at : (volume : VolumeState) (w : Outside) (d : Decoded) (image : List ℕ) (rests : IsAtRest w volume d image) (e : PackFault)
    → IfLacking e (λ n f. (d : Decoded) (image : List ℕ) → IsAtRest w volume d image → LacksPages volume d image n f) → IfLacking e (λ n f. LacksPages volume d image n f)
lacks_at volume w d image rests fault.Disk lacks = tt
lacks_at volume w d image rests fault.Memory lacks = tt
lacks_at volume w d image rests (fault.Damaged page want got) lacks = tt
lacks_at volume w d image rests (fault.NoPages n f) lacks = lacks d image rests

pub stopped : {T : Type 0} (r : Result T PackFault) (e : PackFault) (volume : VolumeState) (w : Outside) (d : Decoded) (image : List ℕ) (rests : IsAtRest w volume d image) → IsErrAnd r (λ f. f ≡ e)
    → IfLacking e (λ n f. (d : Decoded) (image : List ℕ) → IsAtRest w volume d image → LacksPages volume d image n f) → (TellsDamage e → ⊥) → (need free : ℕ) → LacksPages volume d image need free → MatchResult r (λ packed. ⊥) (StopsLacking need free)
stopped {T} r e volume w d image rests handed lacks sound need free is =
    let y = err_from_is_err_and r handed in
    subst (λ (x : Result T PackFault). MatchResult x (λ packed. ⊥) (StopsLacking need free)) (sym y.1)
    (subst (StopsLacking need free) (sym y.2) (stops volume d image need free e is (lacks_at volume w d image rests e lacks) sound))
