-- What a store is after a unit was taken and written, or given back.
use Rattle.std.proofs.Common.{◌≡◌, ◌≢◌, ◌≤◌, ◌+◌, ◌*◌, ℕ, Bool, true, false, cond, List, length, take, All, Option, Some, None, IsSome, IsTrue, is_some, nat_eq, refl, sym, ap, subst, ◌∙◌, arith, inl, eqb-true, eq-eqb, ⊎_elim}
use Rattle.std.proofs.lemmas.Bool.{both_ways}
use Rattle.std.specs.Prelude.{eqb}
use mathlib.Core.Path.{fun_ext}
use Rattle.std.specs.Borrow.{MutBor}
use Rattle.ex_base.specs.declared.geometry.Geometry.{Geometry}
use Rattle.ex_base.specs.declared.names.Area.{Area}
use Rattle.ex_base.specs.Area.{IsUnit, InArea, catalog_no}
use Rattle.ex_base.specs.Bytes.{Apart, part, repl, part-repl, repl_same_outside}
use Rattle.ex_base.specs.Ports.{IsLowest, refs_most}
use Rattle.ex_base.proofs.Options.{none_from_test}
use Rattle.disk_model.specs.Outside.{Outside, Goes, IsWorld}
use Rattle.disk_model.specs.Calls.{Wrote}
use Rattle.disk_model.specs.Changes.{ChangesWithin, InRange, changes_refl, changes_wider}
use Rattle.disk_model.specs.Runs.{told_value, honest_on}
use Rattle.buffer_groups.specs.Frames.{Frames, Lends}
use Rattle.buffer_groups.specs.Groups.{SameKinds}
use Rattle.buffer_groups.proofs.GroupLists.{same_count}
use Rattle.buffer_groups.proofs.Kept.{part_apart}
use Rattle.page_alloc.specs.UnitSet.{UnitSet, used_at, refs_at, updated, free_count}
use Rattle.tree_store.specs.Stored.{AreFromCatalog, Fits, Tells, Frees, InRest, IsCounted, NoUnit, unit_bytes, unit_len}
use Rattle.tree_store.proofs.Places.{lowest_area, part_of_part, units_apart}

pub updated_here : {A : Type 0} (f : ℕ → A) (p : ℕ) (v : A) → updated f p v p ≡ v
updated_here f p v = rw (eq-eqb p p refl) refl

pub updated_other : {A : Type 0} (f : ℕ → A) (p : ℕ) (v : A) (q : ℕ) → q ≢ p → updated f p v q ≡ f q
updated_other f p v q differ = (elim (nat_eq q p) as (λ b. nat_eq q p ≡ b → cond b v (f q) ≡ f q) [
  | true ↦ λ t. absurd (differ (eqb-true q p t))
  | false ↦ λ t. refl
]) refl

-- nothing changes where the value was there before
pub updated_same : {A : Type 0} (f : ℕ → A) (p : ℕ) (v : A) → f p ≡ v → updated f p v ≡ f
updated_same f p v is = fun_ext (λ q. (elim (nat_eq q p) as (λ b. nat_eq q p ≡ b → cond b v (f q) ≡ f q) [
  | true ↦ λ t. sym (ap f (eqb-true q p t) ∙ is)
  | false ↦ λ t. refl
]) refl)

pub differ_used : (used : ℕ → Bool) (p q : ℕ) → used p ≡ false → used q ≡ true → q ≢ p
differ_used used p q free is same = both_ways _ free (ap used (sym same) ∙ is)

-- a used unit stays used when a free one is taken
pub grows : (old new : ℕ → Bool) (p : ℕ) → new ≡ updated old p true → old p ≡ false → (q : ℕ) → old q ≡ true → new q ≡ true
grows old new p is free q used = ap (λ (f : ℕ → Bool). f q) is ∙ updated_other old p true q (differ_used old p q free used) ∙ used

in_both : (at m to n i : ℕ) → Apart at m to n → InRange at m i → InRange to n i → ⊥
in_both at m to n i apart here there =
    ⊎_elim (λ (before : at + m ≤ to). absurd (omega (arith, before, here, there))) (λ (behind : to + n ≤ at). absurd (omega (arith, behind, here, there))) apart

-- what is written lies in the unit that was free
in_rest : (g : Geometry) (used : ℕ → Bool) (freed : ℕ → Type 0) (p n : ℕ) → IsUnit g p → used p ≡ false → n ≤ unit_len g p → (i : ℕ) → InRange (p * g.page_size) n i → InRest g used freed i
in_rest g used freed p n unit free room i here = record {
  unit = (p, (unit, (here.0, omega (arith, here.1, room))));
  apart = λ q other is stays there.
      in_both (q * g.page_size) (unit_len g q) (p * g.page_size) n i (units_apart g p q n unit other (differ_used used p q free is) room) there here;
}

pub taken_counted : (g : Geometry) (u v : UnitSet) (p : ℕ) → IsCounted g u → IsUnit g p → v.geometry ≡ u.geometry → used_at v ≡ updated (used_at u) p true → refs_at v ≡ refs_at u → IsCounted g v
taken_counted g u v p counted unit geometry used refs = record {
  geometry = geometry ∙ counted.geometry;
  named = λ q is. (elim (nat_eq q p) as (λ b. nat_eq q p ≡ b → IsUnit g q) [
    | true ↦ λ t. subst (IsUnit g) (sym (eqb-true q p t)) unit
    | false ↦ λ t. counted.named q (sym (ap (λ (f : ℕ → Bool). f q) used ∙ updated_other (used_at u) p true q (λ same. both_ways _ t (eq-eqb q p same))) ∙ is)
  ]) refl;
  owned = λ q some. (elim (nat_eq q p) as (λ b. nat_eq q p ≡ b → used_at v q ≡ true) [
    | true ↦ λ t. ap (λ (f : ℕ → Bool). f q) used ∙ ap (updated (used_at u) p true) (eqb-true q p t) ∙ updated_here (used_at u) p true
    | false ↦ λ t. ap (λ (f : ℕ → Bool). f q) used ∙ updated_other (used_at u) p true q (λ same. both_ways _ t (eq-eqb q p same)) ∙ counted.owned q (subst (λ (f : ℕ → ℕ). 1 ≤ f q) refs some)
  ]) refl;
  few = λ q. subst (λ (f : ℕ → ℕ). f q ≤ refs_most) (sym refs) (counted.few q);
}

-- the units of a fresh volume
pub fresh_counted : (g : Geometry) (u : UnitSet) → u.geometry ≡ g → used_at u ≡ (λ page. eqb page catalog_no) → refs_at u ≡ (λ page. 0) → IsCounted g u
fresh_counted g u geometry used refs = record {
  geometry = geometry;
  named = λ p is. let same : p ≡ 257 = eqb-true p 257 (ap (λ (f : ℕ → Bool). f p) (sym used) ∙ is) in inl (omega (arith, same), omega (arith, same, g.some_pages));
  owned = λ p some. let none : refs_at u p ≡ 0 = ap (λ (f : ℕ → ℕ). f p) refs in absurd (omega (arith, none, some));
  few = λ p. let none : refs_at u p ≡ 0 = ap (λ (f : ℕ → ℕ). f p) refs in omega (arith, none);
}

taken_told : (a b : Outside) (f h : List Frames) → Goes a b → (IsTrue a.honest → All (Lends a.disk) f → All (Lends b.disk) h) → Tells a f → Tells b h
taken_told a b f h goes lends told = (honest_on goes told.0, goes.disk_told ∙ told.1, lends told.0 told.2)

taken_fits : (a b : Outside) (g : Geometry) (f h : List Frames) (i : ℕ) (u v : UnitSet) → Goes a b → (IsCounted g u → IsCounted g v) → SameKinds f h → All (λ (x : Frames). x.page_size ≡ g.page_size) h
    → (AreFromCatalog f → AreFromCatalog h) → Fits g a.size f i u → Fits g b.size h i v
taken_fits a b g f h i u v goes counted kinds sizes behind fits = record {
  group = omega (arith, same_count f h kinds, fits.group);
  disk = omega (arith, goes.size, fits.disk);
  frames = sizes;
  behind = behind fits.behind;
  counted = counted fits.counted;
}

pub taken_leads : {D : Type 0} (outside : D → Outside) (d e : MutBor D) (u v : MutBor UnitSet) (f h : MutBor (List Frames)) (i : ℕ) (g : Geometry) (p n : ℕ)
    → e.ghost_name ≡ d.ghost_name → v.ghost_name ≡ u.ghost_name → h.ghost_name ≡ f.ghost_name
    → used_at v.now ≡ updated (used_at u.now) p true → (IsCounted g u.now → IsCounted g v.now) → IsUnit g p → used_at u.now p ≡ false → n ≤ unit_len g p
    → ChangesWithin (InRange (p * g.page_size) n) (outside d.now) (outside e.now)
    → SameKinds f.now h.now → All (λ (x : Frames). x.page_size ≡ g.page_size) h.now
    → (IsTrue (outside d.now).honest → All (Lends (outside d.now).disk) f.now → All (Lends (outside e.now).disk) h.now) → (AreFromCatalog f.now → AreFromCatalog h.now)
    → Frees outside NoUnit d e u v f h i i g g
taken_leads outside d e u v f h i g p n disk units frames used counted unit free room changes kinds sizes lends behind = record {
  disk = disk;
  units = units;
  frames = frames;
  index = refl;
  geometry = refl;
  used = λ q is stays. grows (used_at u.now) (used_at v.now) p used free q is;
  changes = changes_wider (InRange (p * g.page_size) n) (InRest g (used_at u.now) NoUnit) changes (in_rest g (used_at u.now) NoUnit p n unit free room);
  fits = taken_fits (outside d.now) (outside e.now) g f.now h.now i u.now v.now changes.only.goes counted kinds sizes behind;
  told = taken_told (outside d.now) (outside e.now) f.now h.now changes.only.goes lends;
  kinds = kinds;
}

-- ---- the unit that was taken

pub taken_area : (g : Geometry) (u : UnitSet) (area : Area) (p : ℕ) → u.geometry ≡ g → IsLowest u.geometry (used_at u) area p → InArea g area p
taken_area g u area p geometry low = subst (λ h. InArea h area p) geometry (lowest_area u.geometry (used_at u) area p low)

pub same_free : (g : Geometry) (u v : UnitSet) (area : Area) → IsCounted g u → IsCounted g v → used_at v ≡ used_at u → free_count v.geometry (used_at v) area ≡ free_count u.geometry (used_at u) area
same_free g u v area before after used =
    ap (λ (h : Geometry). free_count h (used_at v) area) (after.geometry ∙ sym before.geometry) ∙ ap (λ (f : ℕ → Bool). free_count u.geometry f area) used

-- ---- the units' counts alone

same_fits : (g : Geometry) (size : ℕ) (f : List Frames) (i : ℕ) (u v : UnitSet) → (IsCounted g u → IsCounted g v) → Fits g size f i u → Fits g size f i v
same_fits g size f i u v counted fits = record { group = fits.group; disk = fits.disk; frames = fits.frames; behind = fits.behind; counted = counted fits.counted }

-- nothing but the units changes, and of the used ones none becomes free but those of the set
pub counts_frees : {D : Type 0} (outside : D → Outside) (freed : ℕ → Type 0) (d : MutBor D) (u v : MutBor UnitSet) (f : MutBor (List Frames)) (i : ℕ) (g : Geometry)
    → v.ghost_name ≡ u.ghost_name → ((p : ℕ) → used_at u.now p ≡ true → (freed p → ⊥) → used_at v.now p ≡ true) → (IsCounted g u.now → IsCounted g v.now)
    → Frees outside freed d d u v f f i i g g
counts_frees outside freed d u v f i g units used counted = record {
  disk = refl;
  units = units;
  frames = refl;
  index = refl;
  geometry = refl;
  used = used;
  changes = changes_refl (InRest g (used_at u.now) freed) (outside d.now);
  fits = same_fits g (outside d.now).size f.now i u.now v.now counted;
  told = λ told. told;
  kinds = refl;
}

pub recounted : (g : Geometry) (u v : UnitSet) (p n : ℕ) → v.geometry ≡ u.geometry → used_at v ≡ used_at u → refs_at v ≡ updated (refs_at u) p n → n ≤ refs_most → (1 ≤ n → used_at u p ≡ true) → IsCounted g u → IsCounted g v
recounted g u v p n geometry used refs few owned counted = record {
  geometry = geometry ∙ counted.geometry;
  named = λ q is. counted.named q (ap (λ (f : ℕ → Bool). f q) (sym used) ∙ is);
  owned = λ q some. ap (λ (f : ℕ → Bool). f q) used ∙ (elim (nat_eq q p) as (λ b. nat_eq q p ≡ b → used_at u q ≡ true) [
    | true ↦ λ t. subst (λ k. used_at u k ≡ true) (sym (eqb-true q p t)) (owned (subst (λ m. 1 ≤ m) (ap (λ (f : ℕ → ℕ). f q) refs ∙ ap (updated (refs_at u) p n) (eqb-true q p t) ∙ updated_here (refs_at u) p n) some))
    | false ↦ λ t. counted.owned q (subst (λ m. 1 ≤ m) (ap (λ (f : ℕ → ℕ). f q) refs ∙ updated_other (refs_at u) p n q (λ same. both_ways _ t (eq-eqb q p same))) some)
  ]) refl;
  few = λ q. (elim (nat_eq q p) as (λ b. nat_eq q p ≡ b → refs_at v q ≤ refs_most) [
    | true ↦ λ t. subst (λ m. m ≤ refs_most) (sym (ap (λ (f : ℕ → ℕ). f q) refs ∙ ap (updated (refs_at u) p n) (eqb-true q p t) ∙ updated_here (refs_at u) p n)) few
    | false ↦ λ t. subst (λ m. m ≤ refs_most) (sym (ap (λ (f : ℕ → ℕ). f q) refs ∙ updated_other (refs_at u) p n q (λ same. both_ways _ t (eq-eqb q p same)))) (counted.few q)
  ]) refl;
}

pub given_counted : (g : Geometry) (u v : UnitSet) (p : ℕ) → v.geometry ≡ u.geometry → used_at v ≡ updated (used_at u) p false → refs_at v ≡ refs_at u → refs_at u p ≡ 0 → IsCounted g u → IsCounted g v
given_counted g u v p geometry used refs none counted = record {
  geometry = geometry ∙ counted.geometry;
  named = λ q is. (elim (nat_eq q p) as (λ b. nat_eq q p ≡ b → IsUnit g q) [
    | true ↦ λ t. absurd (both_ways _ (ap (λ (f : ℕ → Bool). f q) used ∙ ap (updated (used_at u) p false) (eqb-true q p t) ∙ updated_here (used_at u) p false) is)
    | false ↦ λ t. counted.named q (sym (ap (λ (f : ℕ → Bool). f q) used ∙ updated_other (used_at u) p false q (λ same. both_ways _ t (eq-eqb q p same))) ∙ is)
  ]) refl;
  owned = λ q some. (elim (nat_eq q p) as (λ b. nat_eq q p ≡ b → used_at v q ≡ true) [
    | true ↦ λ t. absurd (omega (arith, subst (λ (f : ℕ → ℕ). 1 ≤ f q) refs some, ap (refs_at u) (eqb-true q p t), none))
    | false ↦ λ t. ap (λ (f : ℕ → Bool). f q) used ∙ updated_other (used_at u) p false q (λ same. both_ways _ t (eq-eqb q p same)) ∙ counted.owned q (subst (λ (f : ℕ → ℕ). 1 ≤ f q) refs some)
  ]) refl;
  few = λ q. subst (λ (f : ℕ → ℕ). f q ≤ refs_most) (sym refs) (counted.few q);
}

-- ---- the bytes of units after the write

pub held_whole : (a : Outside) → IsWorld a → (d : List ℕ) → a.disk ≡ Some d → length d ≡ a.size
held_whole a world d is = world.whole d (world.held_may_stay d is)

-- a list of bytes as what a disk holds, with bytes written at the front of a unit
pub front_written : (g : Geometry) (p : ℕ) (d bytes : List ℕ) → length bytes ≤ unit_len g p → p * g.page_size + length bytes ≤ length d
    → take (length bytes) (unit_bytes g (Some (repl d (p * g.page_size) bytes)) p) ≡ bytes
front_written g p d bytes room fits =
    let at = p * g.page_size in
    part_of_part (repl d at bytes) at 0 (length bytes) (unit_len g p) (omega (arith, room))
    ∙ ap (λ k. part (repl d at bytes) k (length bytes)) {x = at + 0} {y = at} (omega arith)
    ∙ part-repl d at bytes fits

-- and over the whole unit
pub whole_written : (g : Geometry) (p : ℕ) (d bytes : List ℕ) → unit_len g p ≡ length bytes → p * g.page_size + length bytes ≤ length d
    → unit_bytes g (Some (repl d (p * g.page_size) bytes)) p ≡ bytes
whole_written g p d bytes full fits = ap (part (repl d (p * g.page_size) bytes) (p * g.page_size)) full ∙ part-repl d (p * g.page_size) bytes fits

-- the other units stay
pub other_written : (g : Geometry) (p q : ℕ) (d bytes : List ℕ) → IsUnit g p → IsUnit g q → q ≢ p → length bytes ≤ unit_len g p → p * g.page_size + length bytes ≤ length d
    → unit_bytes g (Some (repl d (p * g.page_size) bytes)) q ≡ unit_bytes g (Some d) q
other_written g p q d bytes unit other differ room fits =
    part_apart (p * g.page_size) (length bytes) d (repl d (p * g.page_size) bytes) (q * g.page_size) (unit_len g q)
    (repl_same_outside d (p * g.page_size) bytes fits) (units_apart g p q (length bytes) unit other differ room)

pub taken_bytes : (a b : Outside) (g : Geometry) (p : ℕ) (bytes : List ℕ) → IsSome a.disk → Wrote (p * g.page_size) bytes a b → length bytes ≤ unit_len g p → p * g.page_size + length bytes ≤ a.size
    → IsWorld a → take (length bytes) (unit_bytes g b.disk p) ≡ bytes
taken_bytes a b g p bytes told wrote room fits world =
    let d = told_value a.disk told in
    ap (λ (o : Option (List ℕ)). take (length bytes) (unit_bytes g o p)) (wrote d.0 d.1)
    ∙ front_written g p d.0 bytes room (omega (arith, fits, held_whole a world d.0 d.1))

-- a unit that was filled
pub taken_whole : (a b : Outside) (g : Geometry) (p : ℕ) (bytes : List ℕ) → IsSome a.disk → Wrote (p * g.page_size) bytes a b → unit_len g p ≡ length bytes → p * g.page_size + length bytes ≤ a.size
    → IsWorld a → unit_bytes g b.disk p ≡ bytes
taken_whole a b g p bytes told wrote full fits world =
    let d = told_value a.disk told in
    ap (λ (o : Option (List ℕ)). unit_bytes g o p) (wrote d.0 d.1) ∙ whole_written g p d.0 bytes full (omega (arith, fits, held_whole a world d.0 d.1))

pub other_unit : (a b : Outside) (g : Geometry) (p q : ℕ) (bytes : List ℕ) (o : Option (List ℕ)) → a.disk ≡ o → Goes a b → Wrote (p * g.page_size) bytes a b → IsUnit g p → IsUnit g q → q ≢ p
    → length bytes ≤ unit_len g p → p * g.page_size + length bytes ≤ a.size → IsWorld a → unit_bytes g b.disk q ≡ unit_bytes g a.disk q
other_unit a b g p q bytes None is goes wrote unit other differ room fits world =
    let gone : b.disk ≡ None = none_from_test b.disk (goes.disk_told ∙ ap is_some is) in
    ap (λ (x : Option (List ℕ)). unit_bytes g x q) (gone ∙ sym is)
other_unit a b g p q bytes (Some d) is goes wrote unit other differ room fits world =
    ap (λ (x : Option (List ℕ)). unit_bytes g x q) (wrote d is)
    ∙ other_written g p q d bytes unit other differ room (omega (arith, fits, held_whole a world d is))
    ∙ ap (λ (x : Option (List ℕ)). unit_bytes g x q) (sym is)
