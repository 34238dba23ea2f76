-- The meanings of a port that only gives trees up.
use Rattle.std.specs.Prelude.{◌≡◌, ◌≤◌, ℕ, Bool, true, ◌||◌, if◌then◌else◌, List, length, refl}
use Rattle.std.proofs.Common.{◌∙◌, sym, ap, arith}
use Rattle.std.specs.Borrow.{MutBor}
use Rattle.ex_base.specs.declared.geometry.Geometry.{Geometry}
use Rattle.ex_base.specs.Area.{area_end}
use Rattle.disk_model.specs.Outside.{Outside, ReadsOnly}
use Rattle.disk_model.specs.Runs.{reads_refl, reads_trans}
use Rattle.buffer_groups.specs.Frames.{Frames}
use Rattle.page_alloc.specs.UnitSet.{UnitSet, used_at, refs_at}
use Rattle.tree_store.specs.Stored.{Fits, Frees, NoUnit, frees_same, frees_on, frees_wider}
use Rattle.volume_port.specs.Logged.{LoggedSet, is_held}
use Rattle.volume_port.specs.Reading.{TellsBytes}

-- the working state or the committed one has the page as a logged page
abbrev pub is_logged : LoggedSet → List Bool → ℕ → Bool
is_logged pages kept page = is_held pages page || is_held kept page

-- the references of the units of trees: a logged page has none
abbrev pub tree_refs : LoggedSet → List Bool → UnitSet → ℕ → ℕ
tree_refs pages kept units page = if is_logged pages kept page then 0 else refs_at units page

-- The parts are of one geometry, with room for a volume, and both lists tell of each page up to the segment area.
pub record CanGive (g : Geometry) (disk_size : ℕ) (groups : List Frames) (index : ℕ) (units : UnitSet) (pages : LoggedSet) (kept : List Bool) : Type 0 where
  pub fits : Fits g disk_size groups index units
  pub held : length pages ≡ area_end g
  pub flags : length kept ≡ area_end g

-- An earlier and a later state of a port that only gives trees up, over the same borrowed parts: those of a store from which no unit went that isn't of
-- the set. The disk was read at most, and where it tells its bytes and each frame lends them, they do so later. Each unit that is used was used before, and none
-- has more references. The logged pages are the same, and those that were used are used.
pub record GivesUp {D : Type 0} (outside : D → Outside) (freed : ℕ → Type 0) (d e : MutBor D) (u v : MutBor UnitSet) (f h : MutBor (List Frames)) (i j : ℕ) (a b : Geometry)
    (k l : LoggedSet) (m n : List Bool) : Type 0 where
  pub store : Frees outside freed d e u v f h i j a b
  pub only : ReadsOnly (outside d.now) (outside e.now)
  pub told : TellsBytes (outside d.now) f.now → TellsBytes (outside e.now) h.now
  pub fewer : (p : ℕ) → used_at v.now p ≡ true → used_at u.now p ≡ true
  pub refs : (p : ℕ) → refs_at v.now p ≤ refs_at u.now p
  pub pages : l ≡ k
  pub kept : n ≡ m
  pub logged : (p : ℕ) → is_logged k m p ≡ true → used_at u.now p ≡ true → used_at v.now p ≡ true

-- the same pages are logged
same_logged : (k l : LoggedSet) (m n : List Bool) → l ≡ k → n ≡ m → (p : ℕ) → is_logged k m p ≡ true → is_logged l n p ≡ true
same_logged k l m n pages kept p is = ap (λ (z : LoggedSet). is_logged z n p) pages ∙ ap (λ (z : List Bool). is_logged k z p) kept ∙ is

module _ {D : Type 0} (outside : D → Outside) where
  pub gives_same : (d : MutBor D) (u : MutBor UnitSet) (f : MutBor (List Frames)) (i : ℕ) (a : Geometry) (k : LoggedSet) (m : List Bool) → GivesUp outside NoUnit d d u u f f i i a a k k m m
  gives_same d u f i a k m = record {
    store = frees_same outside NoUnit d u f i a;
    only = reads_refl (outside d.now);
    told = λ is. is;
    fewer = λ p is. is;
    refs = λ p. omega arith;
    pages = refl;
    kept = refl;
    logged = λ p held is. is;
  }

  pub gives_on : (freed : ℕ → Type 0) (d e o : MutBor D) (u v w : MutBor UnitSet) (f h r : MutBor (List Frames)) (i j s : ℕ) (a b c : Geometry) (k l t : LoggedSet) (m n q : List Bool)
      → GivesUp outside freed d e u v f h i j a b k l m n → GivesUp outside freed e o v w h r j s b c l t n q → GivesUp outside freed d o u w f r i s a c k t m q
  gives_on freed d e o u v w f h r i j s a b c k l t m n q x y = record {
    store = frees_on outside freed d e o u v w f h r i j s a b c x.store y.store;
    only = reads_trans x.only y.only;
    told = λ is. y.told (x.told is);
    fewer = λ p is. x.fewer p (y.fewer p is);
    refs = λ p. omega (arith, x.refs p, y.refs p);
    pages = y.pages ∙ x.pages;
    kept = y.kept ∙ x.kept;
    logged = λ p held is. y.logged p (same_logged k l m n x.pages x.kept p held) (x.logged p held is);
  }

  pub gives_wider : (few many : ℕ → Type 0) → ((p : ℕ) → few p → many p) → (d e : MutBor D) (u v : MutBor UnitSet) (f h : MutBor (List Frames)) (i j : ℕ) (a b : Geometry) (k l : LoggedSet) (m n : List Bool)
      → GivesUp outside few d e u v f h i j a b k l m n → GivesUp outside many d e u v f h i j a b k l m n
  gives_wider few many wider d e u v f h i j a b k l m n x = record {
    store = frees_wider outside few many wider d e u v f h i j a b x.store;
    only = x.only;
    told = x.told;
    fewer = x.fewer;
    refs = x.refs;
    pages = x.pages;
    kept = x.kept;
    logged = x.logged;
  }

  pub gives_ready : (freed : ℕ → Type 0) (d e : MutBor D) (u v : MutBor UnitSet) (f h : MutBor (List Frames)) (i j : ℕ) (a b : Geometry) (k l : LoggedSet) (m n : List Bool)
      → GivesUp outside freed d e u v f h i j a b k l m n → CanGive a (outside d.now).size f.now i u.now k m → CanGive b (outside e.now).size h.now j v.now l n
  gives_ready freed d e u v f h i j a b k l m n x ready = record {
    fits = x.store.fits ready.fits;
    held = ap (λ (z : LoggedSet). length z) x.pages ∙ ready.held ∙ ap area_end (sym x.store.geometry);
    flags = ap (λ (z : List Bool). length z) x.kept ∙ ready.flags ∙ ap area_end (sym x.store.geometry);
  }
