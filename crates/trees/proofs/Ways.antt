-- Sound ways down from a row: to parts of it, and from the children of its trees.
use Rattle.std.proofs.Common.{◌≡◌, ◌≢◌, ℕ, zero, suc, ◌+◌, ◌-◌, ◌<◌, ◌≤◌, inl, inr, List, [], ◌∷◌, ◌++◌, length, take, get_or, refl, subst, arith}
use Rattle.ex_base.specs.Ports.{Keeps}
use Rattle.ex_base.specs.declared.ground.Ground as ground
use Rattle.ex_base.specs.declared.geometry.Geometry.{Geometry}
use Rattle.trees.specs.Node.{pairs_on}
use Rattle.trees.specs.Trees.{Units}
use Rattle.trees.specs.declared.rows.Part.{Part}
use Rattle.trees.specs.Rows.{parts_of, row_size, IsFilled, IsRowOn}
use Rattle.trees.specs.Damage.{NamesNode, AtTree, IsSoundWay}
use Rattle.std.proofs.lemmas.Bool.{cases_lt}
use Rattle.trees.proofs.Reading.{no_part}

-- ---- parts of a row

pub at_move : (P : Part → ℕ → ℕ → Type 0) (row : List Part) (f t f2 t2 : ℕ) → f ≡ f2 → t ≡ t2 → AtTree P row f t → AtTree P row f2 t2
at_move P row f t f2 t2 a b h = subst (λ k. AtTree P row f2 k) b (subst (λ k. AtTree P row k t) a h)

pub at_append : (P : Part → ℕ → ℕ → Type 0) (xs ys : List Part) (f t : ℕ) → AtTree P xs f t → (row_size xs ≤ f → AtTree P ys (f - row_size xs) (t - row_size xs)) → AtTree P (xs ++ ys) f t
at_append P [] ys f t front back = at_move P ys (f - 0) (t - 0) f t (omega arith) (omega arith) (back (omega arith))
at_append P (x ∷ xs) ys f t front back = (
  front.0,
  λ behind. at_append P xs ys (f - x.size) (t - x.size) (front.1 behind)
      (λ far. at_move P ys (f - (x.size + row_size xs)) (t - (x.size + row_size xs)) (f - x.size - row_size xs) (t - x.size - row_size xs) (omega arith) (omega arith) (back (omega arith))),
)

-- no tree of the row has a byte that lies behind it
pub at_past : (P : Part → ℕ → ℕ → Type 0) (xs : List Part) (f t : ℕ) → row_size xs ≤ t → AtTree P xs f t
at_past P [] f t past = tt
at_past P (x ∷ xs) f t past = (λ inside. absurd (omega arith), λ behind. at_past P xs (f - x.size) (t - x.size) (omega arith))

pub at_front : (P : Part → ℕ → ℕ → Type 0) (xs ys : List Part) (f t : ℕ) → AtTree P (xs ++ ys) f t → AtTree P xs f t
at_front P [] ys f t h = tt
at_front P (x ∷ xs) ys f t h = (h.0, λ behind. at_front P xs ys (f - x.size) (t - x.size) (h.1 behind))

pub at_back : (P : Part → ℕ → ℕ → Type 0) (xs ys : List Part) (f t : ℕ) → row_size xs ≤ f → AtTree P (xs ++ ys) f t → AtTree P ys (f - row_size xs) (t - row_size xs)
at_back P [] ys f t far h = at_move P ys f t (f - 0) (t - 0) (omega arith) (omega arith) h
at_back P (x ∷ xs) ys f t far h =
    at_move P ys (f - x.size - row_size xs) (t - x.size - row_size xs) (f - (x.size + row_size xs)) (t - (x.size + row_size xs)) (omega arith) (omega arith)
    (at_back P xs ys (f - x.size) (t - x.size) (omega arith) (h.1 (omega arith)))

pub at_each : (P Q : Part → ℕ → ℕ → Type 0) (row : List Part) (f t : ℕ) → ((part : Part) (a b : ℕ) → P part a b → Q part a b) → AtTree P row f t → AtTree Q row f t
at_each P Q [] f t map h = tt
at_each P Q (x ∷ row) f t map h = (λ inside. map x f t (h.0 inside), λ behind. at_each P Q row (f - x.size) (t - x.size) map (h.1 behind))

pub at_all : (P : Part → ℕ → ℕ → Type 0) (row : List Part) (f t : ℕ) → ((part : Part) (a b : ℕ) → P part a b) → AtTree P row f t
at_all P [] f t all = tt
at_all P (x ∷ row) f t all = (λ inside. all x f t, λ behind. at_all P row (f - x.size) (t - x.size) all)

-- a tree that has more bytes is the one that has fewer of them
pub at_fewer : (P : Part → Type 0) (row : List Part) (f t f2 t2 : ℕ) → f2 ≤ f → t ≤ t2 → AtTree (λ part a b. P part) row f t → AtTree (λ part a b. P part) row f2 t2
at_fewer P [] f t f2 t2 low high h = tt
at_fewer P (x ∷ row) f t f2 t2 low high h = (λ inside. h.0 (omega arith), λ behind. at_fewer P row (f - x.size) (t - x.size) (f2 - x.size) (t2 - x.size) (omega arith) (omega arith) (h.1 (omega arith)))

-- ---- ways from a row

module _ (geo : Geometry) (u : Units) (leaf : ℕ → Type 0) where
  pub way_move : (l least : ℕ) (row : List Part) (f t f2 t2 : ℕ) → f ≡ f2 → t ≡ t2 → IsSoundWay geo u leaf l least row f t → IsSoundWay geo u leaf l least row f2 t2
  way_move l least row f t f2 t2 a b h = subst (λ k. IsSoundWay geo u leaf l least row f2 k) b (subst (λ k. IsSoundWay geo u leaf l least row k t) a h)

  pub way_append : (l least : ℕ) (xs ys : List Part) (f t : ℕ) → IsSoundWay geo u leaf l least xs f t → (row_size xs ≤ f → IsSoundWay geo u leaf l least ys (f - row_size xs) (t - row_size xs)) → IsSoundWay geo u leaf l least (xs ++ ys) f t
  way_append zero least xs ys f t front back = at_append _ xs ys f t front back
  way_append (suc l) least xs ys f t front back = at_append _ xs ys f t front back

  pub way_past : (l least : ℕ) (xs : List Part) (f t : ℕ) → row_size xs ≤ t → IsSoundWay geo u leaf l least xs f t
  way_past zero least xs f t past = at_past _ xs f t past
  way_past (suc l) least xs f t past = at_past _ xs f t past

  pub way_front : (l least : ℕ) (xs ys : List Part) (f t : ℕ) → IsSoundWay geo u leaf l least (xs ++ ys) f t → IsSoundWay geo u leaf l least xs f t
  way_front zero least xs ys f t h = at_front _ xs ys f t h
  way_front (suc l) least xs ys f t h = at_front _ xs ys f t h

  pub way_back : (l least : ℕ) (xs ys : List Part) (f t : ℕ) → row_size xs ≤ f → IsSoundWay geo u leaf l least (xs ++ ys) f t → IsSoundWay geo u leaf l least ys (f - row_size xs) (t - row_size xs)
  way_back zero least xs ys f t far h = at_back _ xs ys f t far h
  way_back (suc l) least xs ys f t far h = at_back _ xs ys f t far h

  -- the rows before, at and behind a part of a row
  pub way_inside : (l least : ℕ) (xs ys zs : List Part) (f t : ℕ) → row_size xs ≤ f → row_size xs ≤ t → f < row_size xs + row_size ys → IsSoundWay geo u leaf l least ys (f - row_size xs) (t - row_size xs) → IsSoundWay geo u leaf l least (xs ++ (ys ++ zs)) f t
  way_inside l least xs ys zs f t from to inside h =
      way_append l least xs (ys ++ zs) f t (way_past l least xs f t to) (λ far. way_append l least ys zs (f - row_size xs) (t - row_size xs) h (λ beyond. absurd (omega arith)))

  -- down from one node
  pub way_one : (level least : ℕ) (part : Part) (below : List Part) (f t : ℕ) → level ≢ 0 → NamesNode geo part.page.0 → IsRowOn geo (u part.page.0) level part.size below → IsFilled geo level least below
      → IsSoundWay geo u leaf (level - 1) geo.fan below f t → IsSoundWay geo u leaf level least (part ∷ []) f t
  way_one zero least part below f t above area on filled h = absurd (above refl)
  way_one (suc l) least part below f t above area on filled h =
      let one : suc l - 1 ≡ l = omega arith in (
        λ inside. (
          record { area = area; row = subst (IsRowOn geo (u part.page.0) (suc l) part.size) on.parts on; filled = subst (IsFilled geo (suc l) least) on.parts filled },
          subst (λ k. IsSoundWay geo u leaf k geo.fan (parts_of 0 (pairs_on (u part.page.0))) f t) one (subst (λ r. IsSoundWay geo u leaf (suc l - 1) geo.fan r f t) on.parts h),
        ),
        λ behind. tt,
      )

  -- where the node has these bytes
  pub way_inner : (level least : ℕ) (part : Part) (below : List Part) (f t : ℕ) → level ≢ 0 → NamesNode geo part.page.0 → IsRowOn geo (u part.page.0) level part.size below → IsFilled geo level least below
      → (t < part.size → IsSoundWay geo u leaf (level - 1) geo.fan below f t) → IsSoundWay geo u leaf level least (part ∷ []) f t
  way_inner level least part below f t above area on filled h = elim (cases_lt t part.size) [
    | inl inside ↦ way_one level least part below f t above area on filled (h inside)
    | inr past ↦ way_past level least (part ∷ []) f t (omega arith)
  ]

  -- where each page will do
  pub way_any : (level least : ℕ) (row : List Part) (f t : ℕ) → level ≡ 0 → ((p : ℕ) → leaf p) → IsSoundWay geo u leaf level least row f t
  way_any zero least row f t low all = at_all _ row f t (λ part a b. all part.page.0)
  way_any (suc l) least row f t low all = absurd (omega arith)

  -- leaves have no children
  pub way_low : (level other least : ℕ) (row : List Part) (f t : ℕ) → level ≡ 0 → IsSoundWay geo u leaf 0 other row f t → IsSoundWay geo u leaf level least row f t
  way_low zero other least row f t low h = h
  way_low (suc l) other least row f t low h = absurd (omega arith)

  -- a node that has enough children for more has enough for fewer
  pub way_least : (level more least : ℕ) (row : List Part) (f t : ℕ) → least ≤ more → IsSoundWay geo u leaf level more row f t → IsSoundWay geo u leaf level least row f t
  way_least zero more least row f t le h = h
  way_least (suc l) more least row f t le h =
      at_each _ _ row f t (λ part a b node. (record { area = node.0.area; row = node.0.row; filled = record { enough = omega (arith, le, node.0.filled.enough); halves = node.0.filled.halves } }, node.1)) h

  -- over leaves, fewer bytes lead to the leaf that has more
  pub way_fewer : (level least : ℕ) (row : List Part) (f t f2 t2 : ℕ) → level ≡ 0 → f2 ≤ f → t ≤ t2 → IsSoundWay geo u leaf level least row f t → IsSoundWay geo u leaf level least row f2 t2
  way_fewer zero least row f t f2 t2 zero_is low high h = at_fewer (λ part. leaf part.page.0) row f t f2 t2 low high h
  way_fewer (suc l) least row f t f2 t2 zero_is low high h = absurd (omega arith)

  -- the tree at an index
  pub way_index : (level least : ℕ) (row : List Part) (i f t : ℕ) → i < length row → f ≤ t → row_size (take i row) ≤ f → f < row_size (take i row) + (get_or row i no_part).size
      → IsSoundWay geo u leaf level least (get_or row i no_part ∷ []) (f - row_size (take i row)) (t - row_size (take i row)) → IsSoundWay geo u leaf level least row f t
  way_index level least [] i f t lt order start inside h = absurd (omega arith)
  way_index level least (x ∷ row) zero f t lt order start inside h =
      way_append level least (x ∷ []) row f t (way_move level least (x ∷ []) (f - 0) (t - 0) f t (omega arith) (omega arith) h) (λ far. absurd (omega arith))
  way_index level least (x ∷ row) (suc i) f t lt order start inside h =
      way_append level least (x ∷ []) row f t (way_past level least (x ∷ []) f t (omega arith))
      (λ far. way_index level least row i (f - (x.size + 0)) (t - (x.size + 0)) (omega arith) (omega arith) (omega arith) (omega arith)
      (way_move level least (get_or row i no_part ∷ []) (f - (x.size + row_size (take i row))) (t - (x.size + row_size (take i row))) (f - (x.size + 0) - row_size (take i row)) (t - (x.size + 0) - row_size (take i row)) (omega arith) (omega arith) h))

-- ---- over a port

-- a way in a later state that keeps the units
pub way_kept : {S : Type 0} (g : ground.Ghosts S) (leaf : Geometry → ℕ → Type 0) (a b : S) (level least : ℕ) (row : List Part) (f t : ℕ) → Keeps g a b
    → (g.tells b → IsSoundWay (g.geometry b) (g.unit b) (leaf (g.geometry b)) level least row f t) → g.tells a → IsSoundWay (g.geometry a) (g.unit a) (leaf (g.geometry a)) level least row f t
way_kept g leaf a b level least row f t k later told =
    subst (λ units. IsSoundWay (g.geometry a) units (leaf (g.geometry a)) level least row f t) k.units
    (subst (λ geo. IsSoundWay geo (g.unit b) (leaf geo) level least row f t) (g.leads_geometry a b k.leads) (later (g.leads_told a b k.leads told)))
