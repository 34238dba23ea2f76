-- A fault that is told after some trees were given up is one of before.
use Rattle.std.proofs.Common.{◌≡◌, ◌⊎◌, inl, inr, ℕ, zero, suc, ◌<◌, ◌≤◌, true, List, [], ◌∷◌, ◌++◌, length, take, drop, get_or, refl, sym, ap, subst, ◌∙◌, arith, append_assoc}
use Rattle.std.specs.Prelude.{map}
use Rattle.std.specs.List.{AllByRecursion}
use Rattle.std.proofs.lemmas.List.{map-append}
use Rattle.ex_base.specs.declared.faults.PortFault.{PortFault}
use Rattle.ex_base.specs.declared.faults.PortFault.TheVariants.{Disk, Memory, Damaged}
use Rattle.ex_base.specs.declared.geometry.Geometry.{Geometry}
use Rattle.ex_base.specs.declared.ground.Ground as ground
use Rattle.ex_base.specs.Area.{InPageArea}
use Rattle.ex_base.specs.Ports.{times}
use Rattle.ex_base.proofs.Counts.{times-append, times_here}
use Rattle.ex_base.proofs.Each.{split_each}
use Rattle.trees.specs.declared.Pair.{Pair}
use Rattle.trees.specs.Node.{pairs_on}
use Rattle.trees.specs.Trees.{Units}
use Rattle.trees.specs.Owners.{named_on, StandsAt}
use Rattle.trees.proofs.Released.{named_left}
use Rattle.trees.specs.declared.rows.Part.{Part}
use Rattle.trees.specs.Rows.{parts_of, IsFilled, IsRowOn}
use Rattle.trees.specs.Damage.{AnyPart, IsLeafFault, IsNodeAt, IsNodeFault, IsWalkFault}
use Rattle.trees.proofs.Blame.{walk_part}
use Rattle.trees.proofs.Reading.{no_part}
use Rattle.version_delete.specs.Released.{Owned, AreAt, IsFreed, Gives, KeepsBytes, Released, Blames, BlamesAlways}
use Rattle.trees.specs.Made.{pages_of}
use Rattle.version_delete.proofs.Releasing.{still_at, gives_geometry}

parts_each : (Q : ℕ → Type 0) (before : ℕ) (pairs : List Pair) → ((q : ℕ) → 1 ≤ times q (map (λ (pair : Pair). pair.page.0) pairs) → Q q) → AllByRecursion (λ (part : Part). Q part.page.0) (parts_of before pairs)
parts_each Q before [] f = tt
parts_each Q before (pair ∷ pairs) f =
    let rest : List ℕ = map (λ (pair : Pair). pair.page.0) pairs in
    (f pair.page.0 (omega (arith, times_here pair.page.0 pair.page.0 rest refl)), parts_each Q pair.count pairs (λ q some. f q (omega (arith, some, times-append q (pair.page.0 ∷ []) rest))))

any_turned : (R P Q : Part → Type 0) (row : List Part) → ((part : Part) → R part → P part → Q part) → AllByRecursion R row → AnyPart P row → AnyPart Q row
any_turned R P Q [] f all any = any
any_turned R P Q (part ∷ row) f all any = elim any [
  | inl here ↦ inl (f part all.0 here)
  | inr rest ↦ inr (any_turned R P Q row f all.1 rest)
]

-- a walk over units that are the same, from where all that it comes by has a property
pub walk_still : (geo : Geometry) (u w : Units) (P : ℕ → Type 0) → ((p : ℕ) → P p → w p ≡ u p) → ((p : ℕ) → P p → InPageArea geo p → (q : ℕ) → 1 ≤ times q (named_on u p) → P q)
    → (level least : ℕ) (row : List Part) (fault : PortFault) → AllByRecursion (λ (part : Part). P part.page.0) row → IsWalkFault geo u level least row fault → IsWalkFault geo w level least row fault
walk_still geo u w P same below level least row Disk all h = tt
walk_still geo u w P same below level least row Memory all h = tt
walk_still geo u w P same below zero least row (Damaged at want got) all h = h
walk_still geo u w P same below (suc l) least row (Damaged at want got) all h =
    any_turned (λ part. P part.page.0)
    (λ part. IsNodeFault geo (u part.page.0) (suc l) part.size least part.page.0 (Damaged at want got)
    ⊎ (IsNodeAt geo u (suc l) part.size least part.page.0 × IsWalkFault geo u l geo.fan (parts_of 0 (pairs_on (u part.page.0))) (Damaged at want got)))
    (λ part. IsNodeFault geo (w part.page.0) (suc l) part.size least part.page.0 (Damaged at want got)
    ⊎ (IsNodeAt geo w (suc l) part.size least part.page.0 × IsWalkFault geo w l geo.fan (parts_of 0 (pairs_on (w part.page.0))) (Damaged at want got)))
    row (λ part is here. one (λ r each walk. walk_still geo u w P same below l geo.fan r (Damaged at want got) each walk) part is here) all h
  where
    one : ((r : List Part) → AllByRecursion (λ (part : Part). P part.page.0) r → IsWalkFault geo u l geo.fan r (Damaged at want got) → IsWalkFault geo w l geo.fan r (Damaged at want got)) → (part : Part) → P part.page.0
        → IsNodeFault geo (u part.page.0) (suc l) part.size least part.page.0 (Damaged at want got)
        ⊎ (IsNodeAt geo u (suc l) part.size least part.page.0 × IsWalkFault geo u l geo.fan (parts_of 0 (pairs_on (u part.page.0))) (Damaged at want got))
        → IsNodeFault geo (w part.page.0) (suc l) part.size least part.page.0 (Damaged at want got)
        ⊎ (IsNodeAt geo w (suc l) part.size least part.page.0 × IsWalkFault geo w l geo.fan (parts_of 0 (pairs_on (w part.page.0))) (Damaged at want got))
    one deeper part is (inl here) = inl (subst (λ bytes. IsNodeFault geo bytes (suc l) part.size least part.page.0 (Damaged at want got)) (sym (same part.page.0 is)) here)
    one deeper part is (inr (node, walk)) =
        let bytes : u part.page.0 ≡ w part.page.0 = sym (same part.page.0 is) in
        inr (
          record {
            area = node.area;
            row = subst (λ bs. IsRowOn geo bs (suc l) part.size (parts_of 0 (pairs_on bs))) bytes node.row;
            filled = subst (λ bs. IsFilled geo (suc l) least (parts_of 0 (pairs_on bs))) bytes node.filled;
          },
          subst (λ bs. IsWalkFault geo w l geo.fan (parts_of 0 (pairs_on bs)) (Damaged at want got)) bytes
              (deeper (parts_of 0 (pairs_on (u part.page.0))) (parts_each P 0 (pairs_on (u part.page.0)) (below part.page.0 is node.area.0)) walk),
        )

-- a fault at one of some leaves
pub walk_leaves : (geo : Geometry) (u : Units) (level least : ℕ) (row : List Part) (fault : PortFault) → level ≡ 0 → AnyPart (λ leaf. IsLeafFault geo leaf.page fault) row → IsWalkFault geo u level least row fault
walk_leaves geo u level least row Disk same any = tt
walk_leaves geo u level least row Memory same any = tt
walk_leaves geo u zero least row (Damaged at want got) same any = any
walk_leaves geo u (suc l) least row (Damaged at want got) same any = absurd (omega arith)

split_at : (row : List Part) (i : ℕ) → i < length row → take i row ++ (get_or row i no_part ∷ drop (suc i) row) ≡ row
split_at [] i lt = absurd (omega (arith, lt))
split_at (part ∷ row) zero lt = refl
split_at (part ∷ row) (suc i) lt = ap (λ t. part ∷ t) (split_at row i (omega (arith, lt)))

one_at : (row : List Part) (i : ℕ) → i < length row → take 1 (drop i row) ≡ get_or row i no_part ∷ []
one_at [] i lt = absurd (omega (arith, lt))
one_at (part ∷ row) zero lt = refl
one_at (part ∷ row) (suc i) lt = one_at row i (omega (arith, lt))

module _ {S : Type 0} (g : ground.Ghosts S) where
  -- a fault at a tree of a row, after those before it were given up
  pub row_fault : (a d now : S) (level least i : ℕ) (row : List Part) (fault : PortFault) (logged roots : List ℕ) → i < length row
      → ((p : ℕ) → g.used d p ≡ true → g.unit d p ≡ g.unit a p) → g.geometry d ≡ g.geometry a → g.tells d → AreAt g d level (pages_of row) → Owned g d logged (pages_of row ++ roots)
      → Gives g d now → Released g d now level (pages_of (take i row)) → Blames g now level least (get_or row i no_part ∷ []) fault → IsWalkFault (g.geometry a) (g.unit a) level least row fault
  row_fault a d now level least i row fault logged roots lt same geo told at is gives released blames =
      let child = get_or row i no_part in
      let rest : List ℕ = pages_of (drop (suc i) row) in
      let pages : pages_of row ≡ pages_of (take i row) ++ (child.page.0 ∷ rest) = ap pages_of (sym (split_at row i lt)) ∙ map-append (λ (part : Part). part.page.0) (take i row) (child ∷ drop (suc i) row) in
      let owned = released told logged ((child.page.0 ∷ rest) ++ roots)
      (split_each (λ p. P_at p) (pages_of (take i row)) (child.page.0 ∷ rest) (subst (AllByRecursion P_at) pages at)).0
      (subst (λ ps. Owned g d logged ps) (ap (λ ps. ps ++ roots) pages ∙ append_assoc (pages_of (take i row)) (child.page.0 ∷ rest) roots) is) in
      let here : AreAt g d level (child.page.0 ∷ []) = ((split_each (λ p. P_at p) (pages_of (take i row)) (child.page.0 ∷ rest) (subst (AllByRecursion P_at) pages at)).1.0, tt) in
      let later = still_at g d now level [] (child.page.0 ∷ []) logged (rest ++ roots) gives.units (gives_geometry g d now gives) owned here in
      let walk = blames (g.frees_told (IsFreed g d now) d now gives.frees told) logged (rest ++ roots) later owned in
      let moved = walk_still (g.geometry now) (g.unit now) (g.unit a) (λ p. 1 ≤ g.refs now p)
      (λ p some. let used = (owned.in_use p).1 (omega (arith, some)) in sym (gives.units p used ∙ same p (gives.fewer p used)))
      (λ p some area q named. omega (arith, owned.owners q, named_left (g.unit now) p q owned.nodes (owned.listed p area some), named))
      level least (child ∷ []) fault (omega (arith, owned.owners child.page.0, times_here child.page.0 child.page.0 (rest ++ roots) refl), tt) walk in
      walk_part (g.geometry a) (g.unit a) level least i 1 row fault
      (subst (λ r. IsWalkFault (g.geometry a) (g.unit a) level least r fault) (sym (one_at row i lt))
      (subst (λ (h : Geometry). IsWalkFault h (g.unit a) level least (child ∷ []) fault) (gives_geometry g d now gives ∙ geo) moved))
    where
      P_at : ℕ → Type 0
      P_at p = StandsAt (g.geometry d) (g.unit d) level p

  -- the same where units keep their bytes, whoever owns them
  pub kept_row : KeepsBytes g → (a now : S) (level least i : ℕ) (row : List Part) (fault : PortFault) → i < length row → Gives g a now → g.tells a
      → BlamesAlways g now level least (get_or row i no_part ∷ []) fault → IsWalkFault (g.geometry a) (g.unit a) level least row fault
  kept_row keeps a now level least i row fault lt gives told blames =
      let child = get_or row i no_part in
      let walk = blames keeps (g.frees_told (IsFreed g a now) a now gives.frees told) in
      walk_part (g.geometry a) (g.unit a) level least i 1 row fault
      (subst (λ r. IsWalkFault (g.geometry a) (g.unit a) level least r fault) (sym (one_at row i lt))
      (subst (λ (h : Geometry). IsWalkFault h (g.unit a) level least (child ∷ []) fault) (gives_geometry g a now gives)
      (subst (λ (us : Units). IsWalkFault (g.geometry now) us level least (child ∷ []) fault) (keeps a now gives) walk)))
