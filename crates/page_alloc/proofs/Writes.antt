-- What each call of a volume's units promises, from what the units of one area promise.
use Rattle.std.proofs.Common.{◌≡◌, ℕ, ◌+◌, ◌*◌, ◌/◌, ◌-◌, ◌<◌, ◌≤◌, ◌≢◌, Bool, true, false, cond, List, length, get_or, replicate, refl, ap, sym, ◌∙◌, arith, zero, suc, length-set, inl, inr, subst}
use Rattle.std.proofs.Math.ListN.{set}
use Rattle.std.proofs.Math.Nat.{mul-div_cancel}
use Rattle.std.specs.Prelude.{eqb}
use mathlib.Core.Path.{fun_ext}
use Rattle.std.proofs.lemmas.List.{length-replicate}
use Rattle.ex_base.specs.declared.geometry.Geometry.{Geometry}
use Rattle.ex_base.specs.declared.names.Area.{Area}
use Rattle.ex_base.specs.declared.names.Area.TheVariants.{Page, Segment}
use Rattle.ex_base.specs.Area.{area_end, unit_at, IsUnit, InArea}
use Rattle.ex_base.specs.Ports.{IsLowest}
use Rattle.ex_base.specs.Sizes.{units}
use Rattle.page_alloc.specs.Flags.{UnitFlags, IsFirstFree, count_free}
use Rattle.page_alloc.specs.UnitSet.{UnitSet, at_unit, used_at, refs_at, updated, free_count, IsFitting, flags_of, with_flags}
use Rattle.page_alloc.proofs.Counts.{count_free-take, count_free-give}
use Rattle.page_alloc.proofs.Places.{at_unit-set_page}
use Rattle.page_alloc.proofs.Sets.{used_at-unit, refs_at-unit, used_at-write, refs_at-write, fitting, fitting_len, free_count-is, is_lowest}

-- the page names the i-th unit of the area
pub record IsSpot (g : Geometry) (a : Area) (i p : ℕ) : Type 0 where
  pub inside : i < units g a
  pub named : p ≡ unit_at g a i

pub spot_is : (g : Geometry) (a b : Area) (i p : ℕ) → b ≡ a → i < units g b → p ≡ unit_at g b i → IsSpot g a i p
spot_is g a b i p e h n = record { inside = rw e at h; named = rw e at n }

pub first_spot : (u : UnitSet) (a : Area) (i : ℕ) → IsFitting u → IsFirstFree (flags_of u a).used i → IsSpot u.geometry a i (unit_at u.geometry a i)
first_spot u a i f first =
    let len : length (flags_of u a).used ≡ units u.geometry a = fitting_len u a f in
    record { inside = omega (arith, first.inside); named = refl }

pub was_used : (u : UnitSet) (a : Area) (i p : ℕ) → IsFitting u → IsSpot u.geometry a i p → used_at u p ≡ get_or (flags_of u a).used i true
was_used u a i p f s = ap (used_at u) s.named ∙ used_at-unit u a i f s.inside

pub was_refs : (u : UnitSet) (a : Area) (i p : ℕ) → IsFitting u → IsSpot u.geometry a i p → refs_at u p ≡ get_or (flags_of u a).refs i 0
was_refs u a i p f s = ap (refs_at u) s.named ∙ refs_at-unit u a i f s.inside

pub write_used : (u : UnitSet) (a : Area) (now : UnitFlags) (i p : ℕ) (v : Bool) → IsFitting u → IsSpot u.geometry a i p → now.used ≡ set (flags_of u a).used i v → used_at (with_flags u a now) ≡ updated (used_at u) p v
write_used u a now i p v f s e = used_at-write u a now i v f s.inside e ∙ ap (λ q. updated (used_at u) q v) (sym s.named)

pub write_refs : (u : UnitSet) (a : Area) (now : UnitFlags) (i p v : ℕ) → IsFitting u → IsSpot u.geometry a i p → now.refs ≡ set (flags_of u a).refs i v → refs_at (with_flags u a now) ≡ updated (refs_at u) p v
write_refs u a now i p v f s e = refs_at-write u a now i v f s.inside e ∙ ap (λ q. updated (refs_at u) q v) (sym s.named)

-- a page names a unit of one area alone
one_area : (g : Geometry) (a b : Area) (i p : ℕ) → IsSpot g a i p → InArea g b p → b ≡ a
one_area g Page Page i p s h = refl
one_area g Segment Segment i p s h = refl
one_area g Page Segment i p s (j, l, e) = absurd (omega (arith, s.inside, s.named))
one_area g Segment Page i p s (l, h) = absurd (omega (arith, s.named))

in_area : (g : Geometry) (a : Area) (i p : ℕ) → IsSpot g a i p → InArea g a p
in_area g Page i p s = (omega (arith, s.named), omega (arith, s.named, s.inside))
in_area g Segment i p s = (i, s.inside, s.named)

flags_with : (u : UnitSet) (a : Area) (now : UnitFlags) → flags_of (with_flags u a now) a ≡ now
flags_with u Page now = refl
flags_with u Segment now = refl

geometry_with : (u : UnitSet) (a : Area) (now : UnitFlags) → (with_flags u a now).geometry ≡ u.geometry
geometry_with u Page now = refl
geometry_with u Segment now = refl

flags_without : (u : UnitSet) (a b : Area) (now : UnitFlags) → b ≢ a → flags_of (with_flags u a now) b ≡ flags_of u b
flags_without u Page Page now n = absurd (n refl)
flags_without u Segment Segment now n = absurd (n refl)
flags_without u Page Segment now n = refl
flags_without u Segment Page now n = refl

-- the count of one area after its flags changed
count_with : (u : UnitSet) (a : Area) (now : UnitFlags) → IsFitting (with_flags u a now) → free_count u.geometry (used_at (with_flags u a now)) a ≡ count_free now.used
count_with u Page now f = free_count-is (with_flags u Page now) Page f
count_with u Segment now f = free_count-is (with_flags u Segment now) Segment f

count_without : (u : UnitSet) (a b : Area) (now : UnitFlags) → IsFitting u → IsFitting (with_flags u a now) → b ≢ a → free_count u.geometry (used_at (with_flags u a now)) b ≡ free_count u.geometry (used_at u) b
count_without u Page Page now f k n = absurd (n refl)
count_without u Segment Segment now f k n = absurd (n refl)
count_without u Page Segment now f k n = free_count-is (with_flags u Page now) Segment k ∙ sym (free_count-is u Segment f)
count_without u Segment Page now f k n = free_count-is (with_flags u Segment now) Page k ∙ sym (free_count-is u Page f)

pub fits_after : (u : UnitSet) (a : Area) (now : UnitFlags) (i : ℕ) (v : Bool) → IsFitting u → now.used ≡ set (flags_of u a).used i v → length now.refs ≡ length (flags_of u a).refs → IsFitting (with_flags u a now)
fits_after u a now i v f e r = fitting u a now f (ap length e ∙ length-set (flags_of u a).used i v) r

-- one unit of the area less is free after it is taken
pub taken_free : (u : UnitSet) (a b : Area) (now : UnitFlags) (i : ℕ) → IsFitting u → i < units u.geometry a → get_or (flags_of u a).used i true ≡ false → now.used ≡ set (flags_of u a).used i true → length now.refs ≡ length (flags_of u a).refs → b ≡ a → free_count u.geometry (used_at (with_flags u a now)) b + 1 ≡ free_count u.geometry (used_at u) b
taken_free u a b now i f h free e r same =
    let k : IsFitting (with_flags u a now) = fits_after u a now i true f e r in
    let len : length (flags_of u a).used ≡ units u.geometry a = fitting_len u a f in
    let inside : i < length (flags_of u a).used = omega arith in
    let after : free_count u.geometry (used_at (with_flags u a now)) a ≡ count_free (set (flags_of u a).used i true) = count_with u a now k ∙ ap count_free e in
    let before : free_count u.geometry (used_at u) a ≡ count_free (flags_of u a).used = free_count-is u a f in
    let less : count_free (set (flags_of u a).used i true) + 1 ≡ count_free (flags_of u a).used = count_free-take (flags_of u a).used i inside free in
    rw same (ap (λ n. n + 1) after ∙ (less ∙ sym before))

pub given_free : (u : UnitSet) (a b : Area) (now : UnitFlags) (i : ℕ) → IsFitting u → i < units u.geometry a → get_or (flags_of u a).used i true ≡ true → now.used ≡ set (flags_of u a).used i false → length now.refs ≡ length (flags_of u a).refs → b ≡ a → free_count u.geometry (used_at (with_flags u a now)) b ≡ free_count u.geometry (used_at u) b + 1
given_free u a b now i f h used e r same =
    let k : IsFitting (with_flags u a now) = fits_after u a now i false f e r in
    let len : length (flags_of u a).used ≡ units u.geometry a = fitting_len u a f in
    let inside : i < length (flags_of u a).used = omega arith in
    let after : free_count u.geometry (used_at (with_flags u a now)) a ≡ count_free (set (flags_of u a).used i false) = count_with u a now k ∙ ap count_free e in
    let before : free_count u.geometry (used_at u) a ≡ count_free (flags_of u a).used = free_count-is u a f in
    let more : count_free (set (flags_of u a).used i false) ≡ count_free (flags_of u a).used + 1 = count_free-give (flags_of u a).used i inside used in
    rw same (after ∙ (more ∙ ap (λ n. n + 1) (sym before)))

-- the other area's count stays
pub other_free : (u : UnitSet) (a b : Area) (now : UnitFlags) (i : ℕ) (v : Bool) → IsFitting u → now.used ≡ set (flags_of u a).used i v → length now.refs ≡ length (flags_of u a).refs → b ≢ a → free_count u.geometry (used_at (with_flags u a now)) b ≡ free_count u.geometry (used_at u) b
other_free u a b now i v f e r n = count_without u a b now f (fits_after u a now i v f e r) n

-- the same two by the page
pub adopted_free : (u : UnitSet) (a : Area) (now : UnitFlags) (i p : ℕ) → IsFitting u → IsSpot u.geometry a i p → used_at u p ≡ false → now.used ≡ set (flags_of u a).used i true → length now.refs ≡ length (flags_of u a).refs → (b : Area) → InArea u.geometry b p → free_count u.geometry (used_at (with_flags u a now)) b + 1 ≡ free_count u.geometry (used_at u) b
adopted_free u a now i p f s free e r b h = taken_free u a b now i f s.inside (sym (was_used u a i p f s) ∙ free) e r (one_area u.geometry a b i p s h)

pub gave_free : (u : UnitSet) (a : Area) (now : UnitFlags) (i p : ℕ) → IsFitting u → IsSpot u.geometry a i p → used_at u p ≡ true → now.used ≡ set (flags_of u a).used i false → length now.refs ≡ length (flags_of u a).refs → (b : Area) → InArea u.geometry b p → free_count u.geometry (used_at (with_flags u a now)) b ≡ free_count u.geometry (used_at u) b + 1
gave_free u a now i p f s used e r b h = given_free u a b now i f s.inside (sym (was_used u a i p f s) ∙ used) e r (one_area u.geometry a b i p s h)

pub outside_free : (u : UnitSet) (a : Area) (now : UnitFlags) (i p : ℕ) (v : Bool) → IsFitting u → IsSpot u.geometry a i p → now.used ≡ set (flags_of u a).used i v → length now.refs ≡ length (flags_of u a).refs → (b : Area) → (InArea u.geometry b p → ⊥) → free_count u.geometry (used_at (with_flags u a now)) b ≡ free_count u.geometry (used_at u) b
outside_free u a now i p v f s e r b n = other_free u a b now i v f e r (λ same. n (let P : Area → Type 0 = λ x. InArea u.geometry x p in subst P (sym same) (in_area u.geometry a i p s)))

pub lowest_in : (u : UnitSet) (a b : Area) (i : ℕ) → IsFitting u → IsFirstFree (flags_of u a).used i → b ≡ a → IsLowest u.geometry (used_at u) b (unit_at u.geometry a i)
lowest_in u a b i f first same = let P : Area → Type 0 = λ x. IsLowest u.geometry (used_at u) x (unit_at u.geometry a i) in subst P (sym same) (is_lowest u a i f first)

pub some_in : (u : UnitSet) (a b : Area) → IsFitting u → b ≡ a → 0 < free_count u.geometry (used_at u) b → 0 < count_free (flags_of u a).used
some_in u a b f same h =
    let some : 0 < free_count u.geometry (used_at u) a = rw same at h in
    let count : free_count u.geometry (used_at u) a ≡ count_free (flags_of u a).used = free_count-is u a f in
    omega (arith, count, some)

pub count_in : (u : UnitSet) (a b : Area) → IsFitting u → b ≡ a → count_free (flags_of u a).used ≡ free_count u.geometry (used_at u) b
count_in u a b f same = rw same (sym (free_count-is u a f))

-- the place of a segment unit
pub seg_spot : (g : Geometry) (p : ℕ) → area_end g ≤ p → 1 ≤ g.seg_len → IsUnit g p → IsSpot g Segment ((p - area_end g) / g.seg_len) p
seg_spot g p above pos (inl page) = absurd (omega (arith, page))
seg_spot g p above pos (inr (j, h, e)) =
    let off : p - area_end g ≡ j * g.seg_len = omega arith in
    let place : (p - area_end g) / g.seg_len ≡ j = ap (λ n. n / g.seg_len) off ∙ mul-div_cancel j (omega arith) in
    record { inside = rw place h; named = rw place e }

get_or-fresh : {A : Type 0} (n k : ℕ) (d : A) → get_or (replicate n d) k d ≡ d
get_or-fresh zero k d = refl
get_or-fresh (suc n) zero d = refl
get_or-fresh (suc n) (suc k) d = get_or-fresh n k d

cond_same : {A : Type 0} (b : Bool) (x : A) → cond b x x ≡ x
cond_same true x = refl
cond_same false x = refl

-- units of which none was written
at_unit-fresh : {A : Type 0} (g : Geometry) (n m : ℕ) (d : A) (q : ℕ) → at_unit g (replicate n d) (replicate m d) d q ≡ d
unfolding at_unit
at_unit-fresh {A = A} g n m d q = simp (get_or-fresh {A = A}, cond_same {A = A})

pub fresh_refs : (g : Geometry) (xs ys : List ℕ) → xs ≡ replicate g.pages 0 → ys ≡ replicate g.segs 0 → at_unit g xs ys 0 ≡ (λ _. 0)
fresh_refs g xs ys e k = rw (e, k) (fun_ext (λ q. at_unit-fresh g g.pages g.segs 0 q))

cond_test : (b : Bool) → cond b true false ≡ b
cond_test true = refl
cond_test false = refl

pub fresh_used : (g : Geometry) (xs ys : List Bool) → 1 ≤ g.pages → xs ≡ set (replicate g.pages false) 0 true → ys ≡ replicate g.segs false → at_unit g xs ys false ≡ (λ page. eqb page 257)
fresh_used g xs ys some e k = rw (e, k)
    (at_unit-set_page g (replicate g.pages false) (replicate g.segs false) false true 0 some (length-replicate g.pages false) ∙
    fun_ext (λ q. ap (λ w. cond (eqb q 257) true w) (at_unit-fresh g g.pages g.segs false q) ∙ cond_test (eqb q 257)))
