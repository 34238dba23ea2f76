-- What only takes pages, or only gives pages back, and how many pages are touched or free, over several calls.
use Rattle.std.proofs.Common.{◌≡◌, ◌≢◌, ◌≤◌, ◌+◌, ◌-◌, ◌*◌, ℕ, Bool, true, false, List, Result, Ok, Err, IfOk, OnOk, refl, sym, ap, ◌∙◌, inl, inr, arith, true≢false}
use Rattle.ex_base.specs.declared.ground.Ground as ground
use Rattle.ex_base.specs.Ports.{Keeps, TakesPage, GivesPage}
use Rattle.ex_base.proofs.Counts.{same_or_not}
use Rattle.file_index.specs.Taking.{OnlyTakes, OnlyGives}
use Rattle.file_index.specs.Touches.{touches_below, index_touches}

module _ {S : Type 0} (g : ground.Ghosts S) where
  -- calls that take, one after the other
  pub takes_on : (a b c : S) → OnlyTakes g a b → OnlyTakes g b c → OnlyTakes g a c
  takes_on a b c one two = record {
    taken = λ unit free used. (elim (g.used b unit) as (λ t. g.used b unit ≡ t → g.held c unit ≡ true) [
      | true ↦ λ t. two.held unit (one.taken unit free t)
      | false ↦ λ t. two.taken unit t used
    ]) refl;
    held = λ page h. two.held page (one.held page h);
  }

  -- calls that give back, one after the other
  pub gives_on : (a b c : S) → OnlyGives g a b → OnlyGives g b c → OnlyGives g a c
  gives_on a b c one two = record {
    was = λ unit free used. (elim (g.used b unit) as (λ t. g.used b unit ≡ t → g.held a unit ≡ true) [
      | true ↦ λ t. one.was unit free t
      | false ↦ λ t. one.held unit (two.was unit t used)
    ]) refl;
    held = λ page h. one.held page (two.held page h);
  }

  -- a call that leaves what is held and what is used as it is
  module _ (a b : S) (held : g.held b ≡ g.held a) (used : g.used b ≡ g.used a) where
    never : {P : Type 0} (unit : ℕ) → g.used a unit ≡ false → g.used b unit ≡ true → P
    never unit free now = absurd (true≢false (sym now ∙ ap (λ (f : ℕ → Bool). f unit) used ∙ free))

    pub same_takes : OnlyTakes g a b
    same_takes = record { taken = λ unit free now. never unit free now; held = λ page h. ap (λ (f : ℕ → Bool). f page) held ∙ h }

    pub same_gives : OnlyGives g a b
    same_gives = record { was = λ unit free now. never unit free now; held = λ page h. ap (λ (f : ℕ → Bool). f page) (sym held) ∙ h }

  pub keeps_takes : (a b : S) → Keeps g a b → OnlyTakes g a b
  keeps_takes a b kept = same_takes a b kept.held kept.used

  pub keeps_gives : (a b : S) → Keeps g a b → OnlyGives g a b
  keeps_gives a b kept = same_gives a b kept.held kept.used

  -- a page that is given back
  pub given_gives : (a b : S) (page : ℕ) → GivesPage g a b page → g.held a page ≡ true → OnlyGives g a b
  given_gives a b page give here = record {
    was = λ unit free now. elim (same_or_not unit page) [
      | inl same ↦ ap (g.held a) same ∙ here
      | inr differ ↦ absurd (true≢false (sym now ∙ give.used unit differ ∙ free))
    ];
    held = λ unit h. elim (same_or_not unit page) [
      | inl same ↦ absurd (true≢false (sym h ∙ ap (g.held b) same ∙ give.gone))
      | inr differ ↦ sym (give.held unit differ) ∙ h
    ];
  }

  -- a page that is taken
  pub taken_takes : (a b : S) (page : ℕ) (content : List ℕ) → TakesPage g a b page content → OnlyTakes g a b
  taken_takes a b page content take = record {
    taken = λ unit free now. elim (same_or_not unit page) [
      | inl same ↦ ap (g.held b) same ∙ take.now_held
      | inr differ ↦ absurd (true≢false (sym now ∙ take.used unit differ ∙ free))
    ];
    held = λ unit h. elim (same_or_not unit page) [
      | inl same ↦ absurd (true≢false (sym h ∙ ap (g.held a) same ∙ take.was_not_held))
      | inr differ ↦ take.held unit differ ∙ h
    ];
  }

-- what follows from what holds of the value, and what holds with it
pub if_ok_same : {X E : Type 0} (r : Result X E) (P : X → Type 0) (Q : Type 0) (R : X → Type 0) → ((x : X) → P x → Q → R x) → IfOk r P → OnOk r Q → IfOk r R
if_ok_same (Ok x) P Q R f p q = f x p q
if_ok_same (Err e) P Q R f p q = tt

-- ---- how many pages are touched, or are free

-- at most so many more, and at most so many more than then
pub more_on : (x y z m n : ℕ) → y ≤ x + m → z ≤ y + n → z ≤ x + (m + n)
more_on x y z m n one two = omega (arith, one, two)

-- the same count, and at most so many more
pub more_since : (x y z m : ℕ) → y ≡ x → z ≤ y + m → z ≤ x + m
more_since x y z m same le = omega (arith, same, le)

pub more_than : (x y m n : ℕ) → y ≤ x + m → m ≤ n → y ≤ x + n
more_than x y m n le more = omega (arith, le, more)

-- the same count, or the same but for one that was taken
pub le_from : {x y : ℕ} → y ≡ x → x ≤ y
le_from same = omega (arith, same)

pub one_less : (x y : ℕ) → y ≡ x → x ≤ y + 1
one_less x y same = omega (arith, same)

pub taken_from : (x y z : ℕ) → y + 1 ≡ x → z ≡ y → x ≤ z + 1
taken_from x y z taken same = omega (arith, taken, same)

pub more_none : (x n : ℕ) → x ≤ x + n
more_none x n = omega arith

pub less_on : (x y z : ℕ) → x ≤ y → y ≤ z → x ≤ z
less_on x y z one two = omega (arith, one, two)

pub one_more_than : (x y z : ℕ) → x ≤ y + 1 → y ≤ z → x ≤ z + 1
one_more_than x y z one two = omega (arith, one, two)

-- ---- over calls on the page below, behind one that reads it

pub two_levels : (level : ℕ) → 1 ≤ level → level ≢ 1 → 2 ≤ level
two_levels level some more = omega (arith, some, more)

pub level_below : (level : ℕ) → 1 ≤ level → level ≢ 1 → 1 ≤ level - 1
level_below level some more = omega (arith, some, more)

pub touched_below : (x y z level : ℕ) → y ≡ x → z ≤ y + touches_below (level - 1) → z ≤ x + touches_below level
touched_below x y z level same le = omega (arith, same, le)

pub touched_here : (x y z w n level : ℕ) → 2 ≤ level → n ≤ 2 → y ≡ x → z ≤ y + touches_below (level - 1) → w ≤ z + n → w ≤ x + touches_below level
touched_here x y z w n level two few same le more = omega (arith, two, few, same, le, more)

-- from the root down, and over a call that writes the root
pub touched_top : (x y z w n level : ℕ) → 1 ≤ level → n ≤ 2 → y ≡ x → z ≤ y + touches_below level → w ≤ z + n → w ≤ x + 2 * level
touched_top x y z w n level some few same le more = omega (arith, some, few, same, le, more)

pub touched_level : (x y z level : ℕ) → y ≡ x → z ≤ y + touches_below level → z ≤ x + 2 * level
touched_level x y z level same le = omega (arith, same, le)

pub touched_row : (x y z level : ℕ) → level ≤ 5 → y ≡ x → z ≤ y + touches_below level → z ≤ x + index_touches
touched_row x y z level few same le = omega (arith, few, same, le)

-- the same where the index has no more levels than there may be, and a root was taken over it
pub touched_all : (x y z n level : ℕ) → level ≤ 5 → n ≤ 3 → y ≡ x → z ≤ y + (touches_below level + n) → z ≤ x + index_touches
touched_all x y z n level few more same le = omega (arith, few, more, same, le)

pub free_on : (x y z w : ℕ) → y ≡ x → y ≤ z → z ≤ w → x ≤ w
free_on x y z w same one two = omega (arith, same, one, two)

pub free_below : (x y z level : ℕ) → y ≡ x → 1 ≤ level → y + 1 ≤ z + (level - 1) → x + 1 ≤ z + level
free_below x y z level same some le = omega (arith, same, some, le)

pub free_here : (x y z w level : ℕ) → y ≡ x → 1 ≤ level → y + 1 ≤ z + (level - 1) → z ≤ w + 1 → x + 1 ≤ w + level
free_here x y z w level same some le more = omega (arith, same, some, le, more)

-- so many are free that one is left for the page itself
pub one_free : (x y z level : ℕ) → y ≡ x → 1 ≤ level → level ≤ x + 1 → y + 1 ≤ z + (level - 1) → 1 ≤ z
one_free x y z level same some room le = omega (arith, same, some, room, le)

pub free_top : (x y z level : ℕ) → y ≡ x → y + 1 ≤ z + level → x ≤ z + (level + 1)
free_top x y z level same le = omega (arith, same, le)

pub free_stored : (x y z w level : ℕ) → y ≡ x → y + 1 ≤ z + level → z ≤ w + 1 → x ≤ w + (level + 1)
free_stored x y z w level same le one = omega (arith, same, le, one)

pub free_raised : (x y z w v level : ℕ) → y ≡ x → y + 1 ≤ z + level → z ≤ w + 1 → v + 1 ≡ w → x ≤ v + (level + 1)
free_raised x y z w v level same le one taken = omega (arith, same, le, one, taken)

pub free_for_row : (x y level : ℕ) → y ≡ x → level + 1 ≤ x → level ≤ y + 1
free_for_row x y level same room = omega (arith, same, room)

pub free_for_page : (x y z level : ℕ) → y ≡ x → level + 1 ≤ x → y + 1 ≤ z + level → 1 ≤ z
free_for_page x y z level same room le = omega (arith, same, room, le)

pub free_for_root : (x y z w level : ℕ) → y ≡ x → level + 1 ≤ x → y + 1 ≤ z + level → z ≤ w + 1 → 1 ≤ w
free_for_root x y z w level same room le one = omega (arith, same, room, le, one)

pub one_and_more : (x level : ℕ) → 1 ≤ level → x + 1 ≤ x + level
one_and_more x level some = omega (arith, some)
