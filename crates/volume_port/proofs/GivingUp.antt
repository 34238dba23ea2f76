-- Trees that are given up over the parts of a session: what became free, what is owned, and that no whole tree is told to be damaged.
use Rattle.std.proofs.Common.{◌≡◌, ◌∙◌, ◌+◌, ◌<◌, ◌≤◌, ℕ, zero, suc, Bool, true, false, cond, ltb, inl, inr, List, [], ◌∷◌, ◌++◌, Option, Some, None, length, get_or, Contains, refl, sym, ap, subst, arith, append_assoc, true≢false}
use mathlib.Core.Path.{fun_ext}
use Rattle.std.specs.Borrow.{MutBor}
use Rattle.std.specs.List.{AllByRecursion}
use Rattle.std.proofs.lemmas.Bool.{cases_Bool}
use Rattle.std.proofs.lemmas.List.{append-nil}
use Rattle.std.proofs.lemmas.List.Elements.{Contains-get_or, Contains-push_cases}
use Rattle.ex_base.specs.declared.faults.PortFault.{PortFault}
use Rattle.ex_base.specs.declared.geometry.Geometry.{Geometry}
use Rattle.ex_base.specs.declared.names.Area.{Area}
use Rattle.ex_base.specs.declared.names.PageNo.{PageNo}
use Rattle.ex_base.specs.declared.names.Root.{Root}
use Rattle.ex_base.specs.Area.{area_end, unit_at}
use Rattle.ex_base.specs.Ports.{IsDamage}
use Rattle.ex_base.specs.Sizes.{units}
use Rattle.disk_model.specs.Outside.{Outside}
use Rattle.disk_model.specs.Runs.{honest_on, reads_refl, reads_trans}
use Rattle.buffer_groups.specs.Frames.{Frames}
use Rattle.page_alloc.specs.UnitSet.{UnitSet, free_below, free_count, refs_at, used_at}
use Rattle.tree_store.specs.Stored.{Fits, Tells, unit_bytes}
use Rattle.trees.specs.Damage.{IsRootFault, IsWhole, root_row, root_row_at}
use Rattle.trees.specs.Made.{pages_of}
use Rattle.trees.specs.Owners.{IsOwned, StandsAt, page_here, root_pages}
use Rattle.trees.specs.Trees.{Units}
use Rattle.trees.proofs.Sound.{sound_root}
use Rattle.volume_model.specs.Homes.{home}
use Rattle.volume_model.proofs.OwnersTurned.{root_stands}
use Rattle.volume_port.specs.Giving.{GivesUp, is_logged, tree_refs}
use Rattle.volume_port.specs.GivingUp.{GivesTrees, IsGivingFault, OwnRoots, ReleasesRoots}
use Rattle.volume_port.specs.Logged.{LoggedSet}
use Rattle.volume_port.specs.Reading.{TellsBytes}
use Rattle.volume_port.proofs.Giving.{no_refs_of_logged, refs_of_other}

-- ---- the bytes of a unit at its home

home_at : (g : Geometry) (disk : List ℕ) (u : ℕ) (below : Bool) → ltb u (area_end g) ≡ below → home g disk u ≡ unit_bytes g (Some disk) u
home_at g disk u true lt = rw lt refl
home_at g disk u false ge = rw ge refl

pub home_units : (g : Geometry) (disk : List ℕ) → home g disk ≡ unit_bytes g (Some disk)
home_units g disk = fun_ext (λ u. home_at g disk u (ltb u (area_end g)) refl)

-- ---- the units that are free

pub fewer_used : (old new : ℕ → Bool) (at : ℕ → ℕ) (n : ℕ) → ((u : ℕ) → new u ≡ true → old u ≡ true) → free_below old at n ≤ free_below new at n
unfolding free_below
fewer_used old new at zero fewer = omega arith
fewer_used old new at (suc n) fewer = step (old (at n)) (new (at n)) (free_below old at n) (free_below new at n) (fewer (at n)) (fewer_used old new at n fewer)
  where
    step : (b c : Bool) (x y : ℕ) → (c ≡ true → b ≡ true) → x ≤ y → x + cond b 0 1 ≤ y + cond c 0 1
    step true true x y was le = omega (arith, le)
    step true false x y was le = omega (arith, le)
    step false true x y was le = absurd (true≢false (sym (was refl)))
    step false false x y was le = omega (arith, le)

pub more_free : (old new : UnitSet) (area : Area) → new.geometry ≡ old.geometry → ((u : ℕ) → used_at new u ≡ true → used_at old u ≡ true) → free_count old.geometry (used_at old) area ≤ free_count new.geometry (used_at new) area
more_free old new area same fewer =
    subst (λ (g : Geometry). free_count old.geometry (used_at old) area ≤ free_count g (used_at new) area) (sym same)
    (fewer_used (used_at old) (used_at new) (unit_at old.geometry area) (units old.geometry area) fewer)

-- ---- what became of the parts

pub gives_trees : {D : Type 0} (outside : D → Outside) (freed : ℕ → Type 0) (d e : MutBor D) (u v : MutBor UnitSet) (f h : MutBor (List Frames)) (j : ℕ) (g b : Geometry) (k l : LoggedSet) (m n : List Bool)
    → GivesUp outside freed d e u v f h 0 j g b k l m n → Fits g (outside d.now).size f.now 0 u.now → GivesTrees (is_logged k m) g (outside d.now) (outside e.now) u.now v.now f.now h.now
gives_trees outside freed d e u v f h j g b k l m n x fits =
    let later : Fits g (outside d.now).size f.now 0 u.now → Fits g (outside e.now).size h.now 0 v.now = λ before.
    subst (λ (z : Geometry). Fits z (outside e.now).size h.now 0 v.now) x.store.geometry (subst (λ (z : ℕ). Fits b (outside e.now).size h.now z v.now) x.store.index (x.store.fits before)) in
    let geometry : v.now.geometry ≡ u.now.geometry = (later fits).counted.geometry ∙ sym fits.counted.geometry in
    record {
      only = x.only;
      told = x.told;
      fits = later;
      geometry = geometry;
      fewer = x.fewer;
      logged = x.logged;
      free = λ area. more_free u.now v.now area geometry x.fewer;
      kinds = x.store.kinds;
    }

-- so an honest disk goes on telling
pub gives_tells : {logged : ℕ → Bool} {g : Geometry} {a b : Outside} {old new : UnitSet} {was now : List Frames} → GivesTrees logged g a b old new was now → Tells a was → Tells b now
gives_tells gives told = let bytes = gives.told (told.1, told.2) in (honest_on gives.only.nothing.only.goes told.0, bytes.0, bytes.1)

pub none_given : (logged : ℕ → Bool) (g : Geometry) (a : Outside) (units : UnitSet) (groups : List Frames) → GivesTrees logged g a a units units groups groups
none_given logged g a units groups = record {
  only = reads_refl a;
  told = λ told. told;
  fits = λ fits. fits;
  geometry = refl;
  fewer = λ u is. is;
  logged = λ u held is. is;
  free = λ area. omega arith;
  kinds = refl;
}

pub given_on : (logged : ℕ → Bool) (g : Geometry) (a b c : Outside) (old mid new : UnitSet) (was then now : List Frames) → GivesTrees logged g a b old mid was then → GivesTrees logged g b c mid new then now → GivesTrees logged g a c old new was now
given_on logged g a b c old mid new was then now x y = record {
  only = reads_trans x.only y.only;
  told = λ told. y.told (x.told told);
  fits = λ fits. y.fits (x.fits fits);
  geometry = y.geometry ∙ x.geometry;
  fewer = λ u is. x.fewer u (y.fewer u is);
  logged = λ u held is. y.logged u held (x.logged u held is);
  free = λ area. omega (arith, x.free area, y.free area);
  kinds = y.kinds ∙ x.kinds;
}

-- ---- one tree

-- Where no logged page has a reference, the units of trees have all references.
all_of_trees : (k : LoggedSet) (m : List Bool) (units : UnitSet) → ((u : ℕ) → is_logged k m u ≡ true → refs_at units u ≡ 0) → tree_refs k m units ≡ refs_at units
all_of_trees k m units none = fun_ext (λ u. elim (cases_Bool (is_logged k m u)) [
  | inl is ↦ no_refs_of_logged k m units u is ∙ sym (none u is)
  | inr not ↦ refs_of_other k m units u not
])

row_pages : (size : ℕ) (page : Option PageNo) → pages_of (root_row_at size page) ≡ page_here page ++ []
row_pages size None = refl
row_pages size (Some page) = refl

module _ (g : Geometry) (a : Outside) (groups : List Frames) (old : UnitSet) (k : LoggedSet) (m : List Bool) (root : Root) (own : OwnRoots k m g a groups old (root ∷ [])) where
  at_home : home g own.disk ≡ unit_bytes g a.disk
  at_home = home_units g own.disk ∙ ap (λ (held : Option (List ℕ)). unit_bytes g held) (sym own.holds)

  unreferred : (u : ℕ) → is_logged k m u ≡ true → refs_at old u ≡ 0
  unreferred u is = own.owned.apart u (own.listed u is)

  stands : AllByRecursion (StandsAt g (unit_bytes g a.disk) root.height) (root_pages (root ∷ []))
  stands = subst (λ (us : Units). AllByRecursion (StandsAt g us root.height) (root_pages (root ∷ []))) at_home (root_stands g (home g own.disk) root own.whole.0)

  owned : IsOwned g (unit_bytes g a.disk) (used_at old) (tree_refs k m old) own.logged (root_pages (root ∷ []) ++ own.others)
  owned =
      subst (λ (us : Units). IsOwned g us (used_at old) (tree_refs k m old) own.logged (root_pages (root ∷ []) ++ own.others)) at_home
      (subst (λ (refs : ℕ → ℕ). IsOwned g (home g own.disk) (used_at old) refs own.logged (root_pages (root ∷ []) ++ own.others)) (sym (all_of_trees k m old unreferred)) own.owned)

  -- The others own what is left, as a port tells it in its own terms.
  pub left_to_others : (b : Geometry) (e : Outside) (new : UnitSet) (l : LoggedSet) (n : List Bool) → b ≡ g → e.disk ≡ a.disk → l ≡ k → n ≡ m → ((u : ℕ) → refs_at new u ≤ refs_at old u)
      → (TellsBytes a groups → (logged roots : List ℕ) → AllByRecursion (StandsAt g (unit_bytes g a.disk) root.height) (root_pages (root ∷ []))
      → IsOwned g (unit_bytes g a.disk) (used_at old) (tree_refs k m old) logged (root_pages (root ∷ []) ++ roots) → IsOwned b (unit_bytes b e.disk) (used_at new) (tree_refs l n new) logged roots)
      → IsOwned g (home g own.disk) (used_at new) (refs_at new) own.logged own.others
  left_to_others b e new l n geometry disk pages kept fewer released =
      let left = released own.told own.logged own.others stands owned in
      let there = subst (λ (z : Geometry). IsOwned z (unit_bytes z e.disk) (used_at new) (tree_refs l n new) own.logged own.others) geometry left in
      let same = subst (λ (held : Option (List ℕ)). IsOwned g (unit_bytes g held) (used_at new) (tree_refs l n new) own.logged own.others) disk there in
      let working = subst (λ (z : LoggedSet). IsOwned g (unit_bytes g a.disk) (used_at new) (tree_refs z n new) own.logged own.others) pages same in
      let committed = subst (λ (z : List Bool). IsOwned g (unit_bytes g a.disk) (used_at new) (tree_refs k z new) own.logged own.others) kept working in
      let counted = subst (λ (refs : ℕ → ℕ). IsOwned g (unit_bytes g a.disk) (used_at new) refs own.logged own.others) (all_of_trees k m new (λ u is. omega (arith, fewer u, unreferred u is))) committed in
      subst (λ (us : Units). IsOwned g us (used_at new) (refs_at new) own.logged own.others) (sym at_home) counted

  -- the same of what is used and counted, under other names
  pub left_under : (b : Geometry) (e : Outside) (new : UnitSet) (l : LoggedSet) (n : List Bool) → b ≡ g → e.disk ≡ a.disk → l ≡ k → n ≡ m → ((u : ℕ) → refs_at new u ≤ refs_at old u)
      → (TellsBytes a groups → (logged roots : List ℕ) → AllByRecursion (StandsAt g (unit_bytes g a.disk) root.height) (root_pages (root ∷ []))
      → IsOwned g (unit_bytes g a.disk) (used_at old) (tree_refs k m old) logged (root_pages (root ∷ []) ++ roots) → IsOwned b (unit_bytes b e.disk) (used_at new) (tree_refs l n new) logged roots)
      → (used : ℕ → Bool) (refs : ℕ → ℕ) → used ≡ used_at new → refs ≡ refs_at new → IsOwned g (home g own.disk) used refs own.logged own.others
  left_under b e new l n geometry disk pages kept fewer released used refs same counted =
      subst (λ (f : ℕ → Bool). IsOwned g (home g own.disk) f refs own.logged own.others) (sym same)
      (subst (λ (f : ℕ → ℕ). IsOwned g (home g own.disk) (used_at new) f own.logged own.others) (sym counted) (left_to_others b e new l n geometry disk pages kept fewer released))

  -- No damage is told of it.
  pub not_damaged : (fault : PortFault) → (TellsBytes a groups → (logged roots : List ℕ) → AllByRecursion (StandsAt g (unit_bytes g a.disk) root.height) (pages_of (root_row root))
      → IsOwned g (unit_bytes g a.disk) (used_at old) (tree_refs k m old) logged (pages_of (root_row root) ++ roots) → IsRootFault g (unit_bytes g a.disk) root fault) → IsDamage fault → ⊥
  not_damaged fault blames damage =
      let row : root_pages (root ∷ []) ≡ pages_of (root_row root) = sym (row_pages root.size root.page) in
      sound_root g (unit_bytes g a.disk) root fault (subst (λ (us : Units). IsWhole g us root) at_home own.whole.0)
      (blames own.told own.logged own.others (subst (λ (ps : List ℕ). AllByRecursion (StandsAt g (unit_bytes g a.disk) root.height) ps) row stands)
      (subst (λ (ps : List ℕ). IsOwned g (unit_bytes g a.disk) (used_at old) (tree_refs k m old) own.logged (ps ++ own.others)) row owned))
      damage

-- ---- one tree after the other

-- the root of no tree
abbrev pub no_root : Root
no_root = record { height = 0; page = None; size = 0 }

-- What the others and the trees of these roots own is left, where all of some roots owned their units at first.
abbrev pub LeavesRoots : LoggedSet → List Bool → Geometry → Outside → List Frames → UnitSet → UnitSet → List Root → List Root → Type 0
LeavesRoots pages kept g a groups old now roots rest = (own : OwnRoots pages kept g a groups old roots)
    → AllByRecursion (IsWhole g (home g own.disk)) rest × IsOwned g (home g own.disk) (used_at now) (refs_at now) own.logged (root_pages rest ++ own.others)

first_root : (root : Root) (rest : List Root) (others : List ℕ) → root_pages (root ∷ rest) ++ others ≡ root_pages (root ∷ []) ++ (root_pages rest ++ others)
first_root root rest others =
    append_assoc (page_here root.page) (root_pages rest) others
    ∙ ap (λ (ps : List ℕ). ps ++ (root_pages rest ++ others)) (sym (append-nil (page_here root.page)))

module _ (pages : LoggedSet) (kept : List Bool) (g : Geometry) (a b : Outside) (groups later : List Frames) (old now : UnitSet) (roots : List Root) (given : GivesTrees (is_logged pages kept) g a b old now groups later) (root : Root) (rest : List Root)
    (left : LeavesRoots pages kept g a groups old now roots (root ∷ rest)) where
  -- The next one is whole and owns its units beside the trees behind it.
  pub next_owns : OwnRoots pages kept g a groups old roots → OwnRoots pages kept g b later now (root ∷ [])
  next_owns own = record {
    disk = own.disk;
    logged = own.logged;
    others = root_pages rest ++ own.others;
    told = given.told own.told;
    holds = given.only.nothing.disk ∙ own.holds;
    listed = own.listed;
    whole = ((left own).0.0, tt);
    owned = subst (λ (ps : List ℕ). IsOwned g (home g own.disk) (used_at now) (refs_at now) own.logged ps) (first_root root rest own.others) (left own).1;
  }

  pub rest_left : (new : UnitSet) → ReleasesRoots pages kept g b later now new (root ∷ []) → LeavesRoots pages kept g a groups old new roots rest
  unfolding next_owns
  rest_left new released own = ((left own).0.1, released (next_owns own))

-- ---- what is told of a tree that is given up

-- A port that gives trees up only reads the disk.
pub giving_keeps : {D : Type 0} (outside : D → Outside) {d e : MutBor D} {u v : MutBor UnitSet} {f h : MutBor (List Frames)} {i j : ℕ} {a b : Geometry} {k l : LoggedSet} {m n : List Bool} {freed : ℕ → Type 0}
    → GivesUp outside freed d e u v f h i j a b k l m n → unit_bytes b (outside e.now).disk ≡ unit_bytes a (outside d.now).disk
giving_keeps outside {d} {e} {a} {b} x = ap (λ (g : Geometry). unit_bytes g (outside e.now).disk) x.store.geometry ∙ ap (unit_bytes a) x.only.nothing.disk

pub only_one : (one other : Root) → Contains (one ∷ []) other → other ≡ one
only_one one other has = elim (Contains-push_cases [] one other has) [
  | inl none ↦ absurd (omega (arith, none.1))
  | inr same ↦ sym same
]

-- A fault at one of some roots, after those before it were given up, over what the disk tells at first.
pub later_fault : (g : Geometry) (a b : Outside) (groups later : List Frames) (roots : List Root) (i : ℕ) → i < length roots → b.disk ≡ a.disk → (TellsBytes a groups → TellsBytes b later) → (fault : PortFault)
    → IsGivingFault g b later (get_or roots i no_root ∷ []) fault → IsGivingFault g a groups roots fault
later_fault g a b groups later roots i lt same told fault is = λ tells.
    let blamed = is (told tells) in
    let only : blamed.root ≡ get_or roots i no_root = only_one (get_or roots i no_root) blamed.root blamed.one in
    record {
      root = get_or roots i no_root;
      one = Contains-get_or roots i no_root lt;
      way = subst (λ (held : Option (List ℕ)). IsRootFault g (unit_bytes g held) (get_or roots i no_root) fault) same
          (subst (λ (root : Root). IsRootFault g (unit_bytes g b.disk) root fault) only blamed.way);
    }
