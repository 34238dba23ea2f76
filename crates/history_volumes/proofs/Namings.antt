-- Leaves, each with as many bytes as are named of it at most.
use Rattle.std.proofs.Common.{◌≡◌, ◌≢◌, ◌≤◌, ◌-◌, ◌⊎◌, inl, inr, ℕ, zero, suc, max, Bool, true, false, eqb, List, [], ◌∷◌, ◌++◌, map, refl, sym, subst, ap, ◌∙◌, arith}
use Rattle.std.specs.Prelude.{if◌then◌else◌, ◌==◌, Option, Some, None}
use Rattle.std.specs.List.{flat_map}
use Rattle.std.proofs.Math.Nat.{le-max_left, le-max_right, max-eq_left}
use Rattle.std.proofs.lemmas.Bool.{cases_lt, eqb-true, eq-eqb}
use Rattle.std.proofs.lemmas.List.{map-append}
use Rattle.ex_base.specs.declared.names.PageNo.{PageNo}
use Rattle.ex_base.specs.declared.names.Root.{Root}
use Rattle.ex_base.specs.Ports.{times}
use Rattle.ex_base.proofs.Counts.{times_apart, times_here}
use Rattle.trees.specs.declared.Pair.{Pair}
use Rattle.trees.specs.Node.{pairs_on}
use Rattle.trees.specs.Trees.{Units}
use Rattle.version_lists.proofs.Lists.{Has}
use Rattle.history_volumes.specs.Walks.{added, bytes_named, leaves_left, leaves_left_at, namings_left, namings_left_at, of_children, raised, root_leaves, root_namings, unit_named, with_firsts, with_namings}
use Rattle.history_volumes.proofs.Firsts.{added_none, has_times, times_has}

-- ---- the units are the leaves, each once

added_cons : (x p : ℕ) (seen : List ℕ) → p ≢ x → added (x ∷ seen) p ≡ x ∷ added seen p
added_cons x p seen differ = ap (λ (t : ℕ). if t == 0 then (x ∷ seen) ++ p ∷ [] else x ∷ seen) (times_apart p x seen differ) ∙ by (times p seen == 0)
  where
    by : (b : Bool) → (if b then (x ∷ seen) ++ p ∷ [] else x ∷ seen) ≡ x ∷ (if b then seen ++ p ∷ [] else seen)
    by true = refl
    by false = refl

pub raised_units : (leaves : List (ℕ × ℕ)) (unit n : ℕ) → map unit_named (raised leaves unit n) ≡ added (map unit_named leaves) unit
raised_units [] unit n = refl
raised_units (leaf ∷ leaves) unit n = by (eqb unit leaf.0) refl (raised_units leaves unit n)
  where
    by : (b : Bool) → eqb unit leaf.0 ≡ b → map unit_named (raised leaves unit n) ≡ added (map unit_named leaves) unit
        → map unit_named (if b then (leaf.0, max leaf.1 n) ∷ leaves else leaf ∷ raised leaves unit n) ≡ added (leaf.0 ∷ map unit_named leaves) unit
    by true is rest = sym (added_none (leaf.0 ∷ map unit_named leaves) unit (inl (sym (eqb-true unit leaf.0 is))))
    by false is rest =
        ap (λ (xs : List ℕ). leaf.0 ∷ xs) rest ∙ sym (added_cons leaf.0 unit (map unit_named leaves) (λ same. (let d : false ≡ true = sym is ∙ eq-eqb unit leaf.0 same in cc)))

pub with_units : (leaves namings : List (ℕ × ℕ)) → map unit_named (with_namings leaves namings) ≡ with_firsts (map unit_named leaves) (map unit_named namings)
with_units leaves [] = refl
with_units leaves (x ∷ namings) = with_units (raised leaves x.0 x.1) namings ∙ ap (λ (seen : List ℕ). with_firsts seen (map unit_named namings)) (raised_units leaves x.0 x.1)

children_units : (make : ℕ → ℕ → List (ℕ × ℕ)) (there : ℕ → List ℕ) → ((page n : ℕ) → map unit_named (make page n) ≡ there page) → (before : ℕ) (pairs : List Pair)
    → map unit_named (of_children make before pairs) ≡ flat_map (λ (pair : Pair). there pair.page.0) pairs
children_units make there same before [] = refl
children_units make there same before (pair ∷ pairs) =
    map-append unit_named (make pair.page.0 (pair.count - before)) (of_children make pair.count pairs)
    ∙ ap (λ (xs : List ℕ). xs ++ map unit_named (of_children make pair.count pairs)) (same pair.page.0 (pair.count - before))
    ∙ ap (λ (xs : List ℕ). there pair.page.0 ++ xs) (children_units make there same pair.count pairs)

pub left_units : (units : Units) (l page n : ℕ) → map unit_named (namings_left units l page n) ≡ leaves_left units l page
left_units units zero page n = refl
left_units units (suc l) page n = children_units (namings_left units l) (leaves_left units l) (left_units units l) 0 (pairs_on (units page))

left_units_at : (units : Units) (height size : ℕ) (page : Option PageNo) → map unit_named (namings_left_at units height size page) ≡ leaves_left_at units height page
left_units_at units height size None = refl
left_units_at units height size (Some page) = left_units units height page.0 size

pub roots_units : (units : Units) (roots : List Root) → map unit_named (flat_map (root_namings units) roots) ≡ flat_map (root_leaves units) roots
roots_units units [] = refl
roots_units units (root ∷ roots) =
    map-append unit_named (root_namings units root) (flat_map (root_namings units) roots)
    ∙ ap (λ (xs : List ℕ). xs ++ map unit_named (flat_map (root_namings units) roots)) (left_units_at units root.height root.size root.page)
    ∙ ap (λ (xs : List ℕ). root_leaves units root ++ xs) (roots_units units roots)

-- ---- a naming that is covered

-- how many bytes are named of a leaf at most; 0 where it isn't there
abbrev pub most_named : List (ℕ × ℕ) → ℕ → ℕ
most_named [] unit = 0
most_named (leaf ∷ leaves) unit = if unit == leaf.0 then leaf.1 else most_named leaves unit

-- the leaf is there, with as many bytes at least
pub record Covers (leaves : List (ℕ × ℕ)) (unit n : ℕ) : Type 0 where
  pub there : Has (map unit_named leaves) unit
  pub enough : n ≤ most_named leaves unit

pub covers_more : (leaves : List (ℕ × ℕ)) (unit n m : ℕ) → n ≤ m → Covers leaves unit m → Covers leaves unit n
covers_more leaves unit n m le c = record { there = c.there; enough = omega (arith, le, c.enough) }

most_here : (leaf : ℕ × ℕ) (leaves : List (ℕ × ℕ)) (unit : ℕ) → unit ≡ leaf.0 → most_named (leaf ∷ leaves) unit ≡ leaf.1
most_here leaf leaves unit same = ap (λ (b : Bool). if b then leaf.1 else most_named leaves unit) (eq-eqb unit leaf.0 same)

most_later : (leaf : ℕ × ℕ) (leaves : List (ℕ × ℕ)) (unit : ℕ) → eqb unit leaf.0 ≡ false → most_named (leaf ∷ leaves) unit ≡ most_named leaves unit
most_later leaf leaves unit is = ap (λ (b : Bool). if b then leaf.1 else most_named leaves unit) is

there_later : (leaf : ℕ × ℕ) (leaves : List (ℕ × ℕ)) (unit : ℕ) → eqb unit leaf.0 ≡ false → Has (leaf.0 ∷ map unit_named leaves) unit → Has (map unit_named leaves) unit
there_later leaf leaves unit is (inl e) = absurd (let d : false ≡ true = sym is ∙ eq-eqb unit leaf.0 (sym e) in cc)
there_later leaf leaves unit is (inr m) = m

covers_later : (leaf : ℕ × ℕ) (leaves : List (ℕ × ℕ)) (unit n : ℕ) → eqb unit leaf.0 ≡ false → Covers leaves unit n → Covers (leaf ∷ leaves) unit n
covers_later leaf leaves unit n is c = record { there = inr c.there; enough = omega (arith, c.enough, most_later leaf leaves unit is) }

covers_front : (leaf : ℕ × ℕ) (leaves : List (ℕ × ℕ)) (unit n : ℕ) → eqb unit leaf.0 ≡ false → Covers (leaf ∷ leaves) unit n → Covers leaves unit n
covers_front leaf leaves unit n is c = record { there = there_later leaf leaves unit is c.there; enough = omega (arith, c.enough, most_later leaf leaves unit is) }

covers_here : (leaf : ℕ × ℕ) (leaves : List (ℕ × ℕ)) (unit n : ℕ) → unit ≡ leaf.0 → n ≤ leaf.1 → Covers (leaf ∷ leaves) unit n
covers_here leaf leaves unit n same le = record { there = inl (sym same); enough = omega (arith, le, most_here leaf leaves unit same) }

pub raised_covers : (leaves : List (ℕ × ℕ)) (unit n : ℕ) → Covers (raised leaves unit n) unit n
raised_covers [] unit n = covers_here (unit, n) [] unit n refl (omega arith)
raised_covers (leaf ∷ leaves) unit n = by (eqb unit leaf.0) refl (raised_covers leaves unit n)
  where
    by : (b : Bool) → eqb unit leaf.0 ≡ b → Covers (raised leaves unit n) unit n → Covers (if b then (leaf.0, max leaf.1 n) ∷ leaves else leaf ∷ raised leaves unit n) unit n
    by true is rest = covers_here (leaf.0, max leaf.1 n) leaves unit n (eqb-true unit leaf.0 is) (le-max_right leaf.1 n)
    by false is rest = covers_later leaf (raised leaves unit n) unit n is rest

pub raised_keeps : (leaves : List (ℕ × ℕ)) (unit n other m : ℕ) → Covers leaves other m → Covers (raised leaves unit n) other m
raised_keeps [] unit n other m c = absurd c.there
raised_keeps (leaf ∷ leaves) unit n other m c = by (eqb unit leaf.0) (eqb other leaf.0) refl refl (raised_keeps leaves unit n other m)
  where
    by : (b d : Bool) → eqb unit leaf.0 ≡ b → eqb other leaf.0 ≡ d → (Covers leaves other m → Covers (raised leaves unit n) other m) → Covers (if b then (leaf.0, max leaf.1 n) ∷ leaves else leaf ∷ raised leaves unit n) other m
    by true true is also rest =
        let same = eqb-true other leaf.0 also in
        covers_here (leaf.0, max leaf.1 n) leaves other m same (omega (arith, c.enough, most_here leaf leaves other same, le-max_left leaf.1 n))
    by true false is also rest = covers_later (leaf.0, max leaf.1 n) leaves other m also (covers_front leaf leaves other m also c)
    by false true is also rest =
        let same = eqb-true other leaf.0 also in
        covers_here leaf (raised leaves unit n) other m same (omega (arith, c.enough, most_here leaf leaves other same))
    by false false is also rest = covers_later leaf (raised leaves unit n) other m also (rest (covers_front leaf leaves other m also c))

-- what is covered changes nothing
pub raised_none : (leaves : List (ℕ × ℕ)) (unit n : ℕ) → Covers leaves unit n → raised leaves unit n ≡ leaves
raised_none [] unit n c = absurd c.there
raised_none (leaf ∷ leaves) unit n c = by (eqb unit leaf.0) refl (raised_none leaves unit n)
  where
    by : (b : Bool) → eqb unit leaf.0 ≡ b → (Covers leaves unit n → raised leaves unit n ≡ leaves) → (if b then (leaf.0, max leaf.1 n) ∷ leaves else leaf ∷ raised leaves unit n) ≡ leaf ∷ leaves
    by true is rest =
        let le : n ≤ leaf.1 = omega (arith, c.enough, most_here leaf leaves unit (eqb-true unit leaf.0 is)) in
        ap (λ (m : ℕ). (leaf.0, m) ∷ leaves) (max-eq_left le)
    by false is rest = ap (λ (xs : List (ℕ × ℕ)). leaf ∷ xs) (rest (covers_front leaf leaves unit n is c))

-- ---- many namings

pub with_more : (leaves xs ys : List (ℕ × ℕ)) → with_namings leaves (xs ++ ys) ≡ with_namings (with_namings leaves xs) ys
with_more leaves [] ys = refl
with_more leaves (x ∷ xs) ys = with_more (raised leaves x.0 x.1) xs ys

pub with_keeps : (leaves xs : List (ℕ × ℕ)) (unit n : ℕ) → Covers leaves unit n → Covers (with_namings leaves xs) unit n
with_keeps leaves [] unit n c = c
with_keeps leaves (x ∷ xs) unit n c = with_keeps (raised leaves x.0 x.1) xs unit n (raised_keeps leaves x.0 x.1 unit n c)

pub with_covers : (leaves xs : List (ℕ × ℕ)) (unit n : ℕ) → Has xs (unit, n) → Covers (with_namings leaves xs) unit n
with_covers leaves [] unit n h = absurd h
with_covers leaves (x ∷ xs) unit n (inl e) = with_keeps (raised leaves x.0 x.1) xs unit n (subst (λ (y : ℕ × ℕ). Covers (raised leaves x.0 x.1) y.0 y.1) e (raised_covers leaves x.0 x.1))
with_covers leaves (x ∷ xs) unit n (inr m) = with_covers (raised leaves x.0 x.1) xs unit n m

pub with_none : (leaves xs : List (ℕ × ℕ)) → ((unit n : ℕ) → Has xs (unit, n) → Covers leaves unit n) → with_namings leaves xs ≡ leaves
with_none leaves [] all = refl
with_none leaves (x ∷ xs) all =
    ap (λ (ls : List (ℕ × ℕ)). with_namings ls xs) (raised_none leaves x.0 x.1 (all x.0 x.1 (inl refl))) ∙ with_none leaves xs (λ unit n m. all unit n (inr m))

-- ---- where the bytes come from

greater_is : (a b : ℕ) → (max a b ≡ a) ⊎ (max a b ≡ b)
greater_is a b = elim (cases_lt a b) [ inl lt ↦ inr (omega (arith, lt)) | inr le ↦ inl (omega (arith, le)) ]

pub raised_from : (leaves : List (ℕ × ℕ)) (unit n : ℕ) (x : ℕ × ℕ) → Has (raised leaves unit n) x → Has leaves x ⊎ ((unit, n) ≡ x)
raised_from [] unit n x (inl e) = inr e
raised_from [] unit n x (inr none) = absurd none
raised_from (leaf ∷ leaves) unit n x h = by (eqb unit leaf.0) refl (raised_from leaves unit n x) h
  where
    over : unit ≡ leaf.0 → (m : ℕ) → (m ≡ leaf.1) ⊎ (m ≡ n) → (leaf.0, m) ≡ x → Has (leaf ∷ leaves) x ⊎ ((unit, n) ≡ x)
    over same m (inl own) e = inl (inl (ap (λ (k : ℕ). (leaf.0, k)) (sym own) ∙ e))
    over same m (inr new) e = inr (ap (λ (k : ℕ). (k, n)) same ∙ ap (λ (k : ℕ). (leaf.0, k)) (sym new) ∙ e)

    by : (b : Bool) → eqb unit leaf.0 ≡ b → (Has (raised leaves unit n) x → Has leaves x ⊎ ((unit, n) ≡ x)) → Has (if b then (leaf.0, max leaf.1 n) ∷ leaves else leaf ∷ raised leaves unit n) x → Has (leaf ∷ leaves) x ⊎ ((unit, n) ≡ x)
    by true is rest (inl e) = over (eqb-true unit leaf.0 is) (max leaf.1 n) (greater_is leaf.1 n) e
    by true is rest (inr m) = inl (inr m)
    by false is rest (inl e) = inl (inl e)
    by false is rest (inr m) = elim (rest m) [ inl a ↦ inl (inr a) | inr e ↦ inr e ]

pub with_from : (leaves xs : List (ℕ × ℕ)) (x : ℕ × ℕ) → Has (with_namings leaves xs) x → Has leaves x ⊎ Has xs x
with_from leaves [] x h = inl h
with_from leaves (y ∷ xs) x h = elim (with_from (raised leaves y.0 y.1) xs x h) [
  | inl a ↦ elim (raised_from leaves y.0 y.1 x a) [ inl own ↦ inl own | inr e ↦ inr (inl e) ]
  | inr m ↦ inr (inr m)
]

unit_has : (leaves : List (ℕ × ℕ)) (x : ℕ × ℕ) → Has leaves x → Has (map unit_named leaves) x.0
unit_has [] x h = absurd h
unit_has (leaf ∷ leaves) x (inl e) = inl (ap unit_named e)
unit_has (leaf ∷ leaves) x (inr m) = inr (unit_has leaves x m)

-- where each unit is there once a leaf has the bytes that are told of it
pub most_is : (leaves : List (ℕ × ℕ)) → ((u : ℕ) → times u (map unit_named leaves) ≤ 1) → (x : ℕ × ℕ) → Has leaves x → most_named leaves x.0 ≡ x.1
most_is [] once x h = absurd h
most_is (leaf ∷ leaves) once x (inl e) = most_here leaf leaves x.0 (ap unit_named (sym e)) ∙ ap bytes_named e
most_is (leaf ∷ leaves) once x (inr m) = by (eqb x.0 leaf.0) refl (most_is leaves (λ u. let l = once u in omega (arith, l)) x m)
  where
    by : (b : Bool) → eqb x.0 leaf.0 ≡ b → most_named leaves x.0 ≡ x.1 → most_named (leaf ∷ leaves) x.0 ≡ x.1
    by true is rest =
        let twice = times_here x.0 leaf.0 (map unit_named leaves) (eqb-true x.0 leaf.0 is) in
        absurd (omega (arith, twice, has_times x.0 (map unit_named leaves) (unit_has leaves x m), once x.0))
    by false is rest = most_later leaf leaves x.0 is ∙ rest
