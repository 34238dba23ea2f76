-- The rows of children of a run of nodes, one after the other.
use Rattle.std.proofs.Common.{◌≡◌, ◌≢◌, ℕ, zero, suc, ◌+◌, ◌-◌, ◌*◌, ◌<◌, ◌≤◌, List, [], ◌∷◌, ◌++◌, length, take, drop, get_or, ◌⊎◌, refl, sym, ap, subst, ◌∙◌, arith, inl, inr, take_all}
use Rattle.std.specs.List.{AllByRecursion}
use Rattle.std.proofs.lemmas.List.{append-nil, length-append, length-take-le, length-drop, take-append-le, drop-append-le, take-append-drop, drop_all, take-take, take_more, drop-map, take-map}
use Rattle.ex_base.specs.Even.{sum_of, cut_by}
use Rattle.ex_base.specs.Sizes.{leaf_bytes}
use Rattle.ex_base.specs.declared.ground.Ground as ground
use Rattle.ex_base.specs.Ports.{Keeps}
use Rattle.ex_base.specs.declared.names.PageNo.{PageNo}
use Rattle.ex_base.specs.declared.faults.Seen.{Seen}
use Rattle.ex_base.specs.declared.faults.PortFault.{PortFault}
use Rattle.ex_base.specs.declared.faults.PortFault.TheVariants.{Disk, Memory, Damaged}
use Rattle.ex_base.specs.declared.geometry.Geometry.{Geometry}
use Rattle.ex_base.proofs.Rows.{sum_of-take_drop, each-append}
use Rattle.ex_base.proofs.Spread.{plain, Between}
use Rattle.trees.specs.Split.{most_pairs}
use Rattle.trees.specs.Trees.{Units, bytes_on, shape_on, units_on}
use Rattle.trees.specs.declared.rows.Part.{Part}
use Rattle.trees.specs.Damage.{NamesNode, IsWalkFault}
use Rattle.trees.specs.Rows.{row_size, row_bytes, row_shape, row_units, AreTrees, AreHalfFull, IsFilled, IsCounted, IsRowOn}
use Rattle.trees.proofs.Blame.{any_split}
use Rattle.trees.proofs.Reading.{row_trees, row_spells, shape_below, units_below, no_part}
use Rattle.ex_base.proofs.Keeping.{keeps_on}
use Rattle.trees.specs.Built.{AreSome}
use Rattle.trees.specs.Made.{Has}
use Rattle.trees.proofs.Laid.{has_left, has_right}
use Rattle.trees.proofs.Over.{bytes_app, units_app, has_split}
use Rattle.tree_insert.specs.Replaced.{EachRow, IsTouched, IsSpan}
use Rattle.trees.proofs.Sizes.{piece_size}
use Rattle.tree_insert.proofs.Spans.{comes_first}

abbrev size_of : Part → ℕ
size_of part = part.size

-- ---- one row more

pub each_row_more : (P : Part → List Part → Type 0) (run : List Part) (lens : List ℕ) (row : List Part) (part : Part) (more : List Part) → EachRow P run lens row → P part more → EachRow P (run ++ (part ∷ [])) (lens ++ (length more ∷ [])) (row ++ more)
each_row_more P [] [] row part more h p =
    subst (λ r. EachRow P (part ∷ []) (length more ∷ []) (r ++ more)) (sym h) (omega arith, subst (P part) (sym (take_all (length more) more (omega arith))) p, drop_all (length more) more (omega arith))
each_row_more P [] (n ∷ lens) row part more h p = absurd h
each_row_more P (first ∷ run) [] row part more h p = absurd h
each_row_more P (first ∷ run) (n ∷ lens) row part more h p = (
  omega (arith, length-append row more, h.0),
  subst (P first) (sym (take-append-le n row more h.0)) h.1,
  subst (EachRow P (run ++ (part ∷ [])) (lens ++ (length more ∷ []))) (sym (drop-append-le n row more h.0)) (each_row_more P run lens (drop n row) part more h.2 p),
)

-- ---- numbers

module _ (geo : Geometry) (level least : ℕ) where
  abbrev pub CountedRow : Part → List Part → Type 0
  CountedRow part row = IsCounted geo level part.size least row

  pub size_below : (run : List Part) (lens : List ℕ) (row : List Part) → EachRow CountedRow run lens row → row_size row ≡ row_size run
  size_below [] [] row h = ap row_size h
  size_below [] (n ∷ lens) row h = absurd h
  size_below (part ∷ run) [] row h = absurd h
  size_below (part ∷ run) (n ∷ lens) row h = omega (arith, sum_of-take_drop size_of n row, h.1.sum, size_below run lens (drop n row) h.2)

  pub count_below : (run : List Part) (lens : List ℕ) (row : List Part) → EachRow CountedRow run lens row → sum_of plain lens ≡ length row
  count_below [] [] row h = sym (ap length h)
  count_below [] (n ∷ lens) row h = absurd h
  count_below (part ∷ run) [] row h = absurd h
  count_below (part ∷ run) (n ∷ lens) row h = omega (arith, h.0, length-drop n row, count_below run lens (drop n row) h.2)

  pub lens_below : (run : List Part) (lens : List ℕ) (row : List Part) → EachRow CountedRow run lens row → AllByRecursion (Between least (most_pairs geo.fan)) lens
  lens_below [] [] row h = tt
  lens_below [] (n ∷ lens) row h = absurd h
  lens_below (part ∷ run) [] row h = absurd h
  lens_below (part ∷ run) (n ∷ lens) row h =
      let count : length (take n row) ≡ n = length-take-le n row h.0 in
      ((omega (arith, h.1.filled.enough), omega (arith, h.1.few)), lens_below run lens (drop n row) h.2)

  pub as_many : (run : List Part) (lens : List ℕ) (row : List Part) → EachRow CountedRow run lens row → length lens ≡ length run
  as_many [] [] row h = refl
  as_many [] (n ∷ lens) row h = absurd h
  as_many (part ∷ run) [] row h = absurd h
  as_many (part ∷ run) (n ∷ lens) row h = omega (arith, as_many run lens (drop n row) h.2)

  pub some_below : (run : List Part) (lens : List ℕ) (row : List Part) → EachRow CountedRow run lens row → AreSome row
  some_below [] [] row h = subst AreSome (sym h) tt
  some_below [] (n ∷ lens) row h = absurd h
  some_below (part ∷ run) [] row h = absurd h
  some_below (part ∷ run) (n ∷ lens) row h = subst AreSome (take-append-drop n row) (each-append _ (take n row) (drop n row) h.1.some (some_below run lens (drop n row) h.2))

  pub halves_below : (run : List Part) (lens : List ℕ) (row : List Part) → level ≡ 1 → EachRow CountedRow run lens row → AreHalfFull (leaf_bytes geo) row
  halves_below [] [] row one h = subst (AreHalfFull (leaf_bytes geo)) (sym h) tt
  halves_below [] (n ∷ lens) row one h = absurd h
  halves_below (part ∷ run) [] row one h = absurd h
  halves_below (part ∷ run) (n ∷ lens) row one h =
      subst (AreHalfFull (leaf_bytes geo)) (take-append-drop n row) (each-append _ (take n row) (drop n row) (h.1.filled.halves one) (halves_below run lens (drop n row) one h.2))

  -- where a node's children begin
  pub front_below : (run : List Part) (lens : List ℕ) (row : List Part) (j : ℕ) → EachRow CountedRow run lens row → row_size (take (sum_of plain (take j lens)) row) ≡ row_size (take j run)
  front_below [] [] row j h = ap (λ r. row_size (take (sum_of plain (take j [])) r)) h ∙ nothing j
    where
      nothing : (j : ℕ) → row_size (take (sum_of plain (take j [])) []) ≡ row_size (take j [])
      nothing zero = refl
      nothing (suc j) = refl
  front_below [] (n ∷ lens) row j h = absurd h
  front_below (part ∷ run) [] row j h = absurd h
  front_below (part ∷ run) (n ∷ lens) row zero h = refl
  front_below (part ∷ run) (n ∷ lens) row (suc j) h =
      let rest : ℕ = sum_of plain (take j lens) in
      let inner : take n (take (n + sum_of plain (take j lens)) row) ≡ take n row = take-take n (n + sum_of plain (take j lens)) row (omega arith) in
      let later : row_size (take (sum_of plain (take j lens)) (drop n row)) ≡ row_size (take j run) = front_below run lens (drop n row) j h.2 in
      let split : row_size (take n row) + row_size (take (n + sum_of plain (take j lens) - n) (drop n row)) ≡ row_size (take (n + sum_of plain (take j lens)) row) = piece_size row n (n + sum_of plain (take j lens)) (omega arith) in
      omega (arith, ap (λ k. row_size (take k (drop n row))) {x = n + sum_of plain (take j lens) - n} {y = sum_of plain (take j lens)} (omega arith), h.1.sum)

least_sum : (fan : ℕ) (xs : List ℕ) (j : ℕ) (least most : ℕ) → fan ≤ least → j ≤ length xs → AllByRecursion (Between least most) xs → fan * j ≤ sum_of plain (take j xs)
least_sum fan xs zero least most le in_ all = omega arith
least_sum fan [] (suc j) least most le in_ all = absurd (omega arith)
least_sum fan (x ∷ xs) (suc j) least most le in_ all = omega (arith, least_sum fan xs j least most le (omega arith) all.1, all.0.0)

-- the children that are touched, where two nodes or more are: those of all nodes but two, and two more
pub few_nodes : (geo : Geometry) (level least fan : ℕ) (run : List Part) (lens : List ℕ) (row : List Part) (pos n first end at : ℕ) → EachRow (CountedRow geo level least) run lens row → IsTouched run pos n → IsSpan row pos n first end at → fan ≤ least → 2 ≤ length run
    → fan * (length run - 2) + 2 ≤ end - first
few_nodes geo level least fan [] lens row pos n first end at h touched span le two = absurd (omega arith)
few_nodes geo level least fan (part ∷ run) [] row pos n first end at h touched span le two = absurd h
few_nodes geo level least fan (part ∷ run) (len ∷ lens) row pos n first end at h touched span le two =
    let span_end : row_size (take first row) + row_size (take (end - first) (drop first row)) ≡ row_size (take end row) = piece_size row first end (omega (arith, span.order)) in
    let front : row_size (take (sum_of plain (take 1 (len ∷ lens))) row) ≡ row_size (take 1 (part ∷ run)) = front_below geo level least (part ∷ run) (len ∷ lens) row 1 h in
    let starts : first < sum_of plain (take 1 (len ∷ lens)) = comes_first row first (sum_of plain (take 1 (len ∷ lens))) (omega (arith, touched.first, span.start)) in
    let back : row_size (take (sum_of plain (take (length (part ∷ run) - 1) (len ∷ lens))) row) ≡ row_size (take (length (part ∷ run) - 1) (part ∷ run)) = front_below geo level least (part ∷ run) (len ∷ lens) row (length (part ∷ run) - 1) h in
    let ends : sum_of plain (take (length (part ∷ run) - 1) (len ∷ lens)) < end = comes_first row (sum_of plain (take (length (part ∷ run) - 1) (len ∷ lens))) end (omega (arith, touched.last, span.start, span.touched.all)) in
    let many : length lens ≡ length run = as_many geo level least run lens (drop len row) h.2 in
    let inner : fan * (length run - 1) ≤ sum_of plain (take (length run - 1) lens) = least_sum fan lens (length run - 1) least (most_pairs geo.fan) le (omega arith) (lens_below geo level least run lens (drop len row) h.2) in
    let steps : sum_of plain (take (length (part ∷ run) - 1) (len ∷ lens)) ≡ len + sum_of plain (take (length run - 1) lens) = ap (λ k. sum_of plain (take k (len ∷ lens))) {x = length (part ∷ run) - 1} {y = suc (length run - 1)} (omega arith) in
    omega (arith, ap (λ k. fan * k) {x = length (part ∷ run) - 2} {y = length run - 1} (omega arith))

-- ---- trees

module _ (geo : Geometry) (u : Units) (l : ℕ) where
  abbrev pub On : Part → List Part → Type 0
  On part row = IsRowOn geo (u part.page.0) (suc l) part.size row

  pub trees_below : (run : List Part) (lens : List ℕ) (row : List Part) → EachRow On run lens row → AreTrees geo u (suc l) run → AreTrees geo u l row
  trees_below [] [] row h trees = subst (AreTrees geo u l) (sym h) tt
  trees_below [] (n ∷ lens) row h trees = absurd h
  trees_below (part ∷ run) [] row h trees = absurd h
  trees_below (part ∷ run) (n ∷ lens) row h trees =
      subst (AreTrees geo u l) (take-append-drop n row)
      (each-append _ (take n row) (drop n row) (row_trees geo u l part.page.0 part.size (take n row) trees.0.0 trees.0.1 h.1.parts) (trees_below run lens (drop n row) h.2 trees.1))

  pub bytes_below : (run : List Part) (lens : List ℕ) (row : List Part) → EachRow On run lens row → row_bytes u l row ≡ row_bytes u (suc l) run
  bytes_below [] [] row h = ap (row_bytes u l) h
  bytes_below [] (n ∷ lens) row h = absurd h
  bytes_below (part ∷ run) [] row h = absurd h
  bytes_below (part ∷ run) (n ∷ lens) row h =
      ap (row_bytes u l) (sym (take-append-drop n row)) ∙ bytes_app u l (take n row) (drop n row) ∙ ap (λ xs. xs ++ row_bytes u l (drop n row)) (row_spells u l part.page.0 part.size (take n row) h.1.parts)
      ∙ ap (λ xs. bytes_on u (suc l) part.page.0 part.size ++ xs) (bytes_below run lens (drop n row) h.2)

  pub shapes_below : (run : List Part) (lens : List ℕ) (row : List Part) → EachRow On run lens row → row_shape u (suc l) run ≡ cut_by lens (row_shape u l row)
  shapes_below [] [] row h = refl
  shapes_below [] (n ∷ lens) row h = absurd h
  shapes_below (part ∷ run) [] row h = absurd h
  shapes_below (part ∷ run) (n ∷ lens) row h =
      ap (λ t. t ∷ row_shape u (suc l) run) (shape_below u l part.page.0 part.size (take n row) h.1.parts ∙ sym (take-map (λ (p : Part). shape_on u l p.page.0 p.size) n row))
      ∙ ap (λ ts. take n (row_shape u l row) ∷ ts) (shapes_below run lens (drop n row) h.2 ∙ ap (cut_by lens) (sym (drop-map (λ (p : Part). shape_on u l p.page.0 p.size) n row)))

  -- each unit of the children is one of the nodes' trees
  pub has_below : (run : List Part) (lens : List ℕ) (row : List Part) → EachRow On run lens row → (p : ℕ) → Has (row_units u l row) p → Has (row_units u (suc l) run) p
  has_below [] [] row h p has = let none : Has (row_units u l []) p = subst (λ r. Has (row_units u l r) p) h has in absurd none
  has_below [] (n ∷ lens) row h p has = absurd h
  has_below (part ∷ run) [] row h p has = absurd h
  has_below (part ∷ run) (n ∷ lens) row h p has =
      let split : row_units u l row ≡ row_units u l (take n row) ++ row_units u l (drop n row) = ap (row_units u l) (sym (take-append-drop n row)) ∙ units_app u l (take n row) (drop n row) in
      let own : units_on u (suc l) part.page.0 ≡ part.page.0 ∷ row_units u l (take n row) = sym (append-nil (units_on u (suc l) part.page.0)) ∙ units_below u l part (take n row) h.1.parts in
      elim (has_split (row_units u l (take n row)) (row_units u l (drop n row)) p (subst (λ us. Has us p) split has)) [
        | inl here ↦ has_left (units_on u (suc l) part.page.0) (row_units u (suc l) run) p (subst (λ us. Has us p) (sym own) (inr here))
        | inr rest ↦ has_right (units_on u (suc l) part.page.0) (row_units u (suc l) run) p (has_below run lens (drop n row) h.2 p rest)
      ]

-- ---- faults

walk_split : (geo : Geometry) (u : Units) (l least : ℕ) (xs ys : List Part) (at : PageNo) (want got : Seen) → IsWalkFault geo u l least (xs ++ ys) (Damaged at want got) → IsWalkFault geo u l least xs (Damaged at want got) ⊎ IsWalkFault geo u l least ys (Damaged at want got)
walk_split geo u zero least xs ys at want got h = any_split _ xs ys h
walk_split geo u (suc l) least xs ys at want got h = any_split _ xs ys h

walk_none : (geo : Geometry) (u : Units) (l least : ℕ) (at : PageNo) (want got : Seen) → IsWalkFault geo u l least [] (Damaged at want got) → ⊥
walk_none geo u zero least at want got h = h
walk_none geo u (suc l) least at want got h = h

walk_up : (geo : Geometry) (u : Units) (l least : ℕ) (run : List Part) (lens : List ℕ) (row : List Part) (at : PageNo) (want got : Seen) → EachRow (On geo u l) run lens row → EachRow (CountedRow geo (suc l) least) run lens row → AllByRecursion (λ (part : Part). NamesNode geo part.page.0) run
    → IsWalkFault geo u l geo.fan row (Damaged at want got) → IsWalkFault geo u (suc l) least run (Damaged at want got)
walk_up geo u l least [] [] row at want got on counted area h = absurd (walk_none geo u l geo.fan at want got (subst (λ r. IsWalkFault geo u l geo.fan r (Damaged at want got)) on h))
walk_up geo u l least [] (n ∷ lens) row at want got on counted area h = absurd on
walk_up geo u l least (part ∷ run) [] row at want got on counted area h = absurd on
walk_up geo u l least (part ∷ run) (n ∷ lens) row at want got on counted area h =
    elim (walk_split geo u l geo.fan (take n row) (drop n row) at want got (subst (λ r. IsWalkFault geo u l geo.fan r (Damaged at want got)) (sym (take-append-drop n row)) h)) [
      | inl here ↦ inl (inr (
        record { area = area.0; row = subst (IsRowOn geo (u part.page.0) (suc l) part.size) on.1.parts on.1; filled = subst (IsFilled geo (suc l) least) on.1.parts counted.1.filled },
        subst (λ r. IsWalkFault geo u l geo.fan r (Damaged at want got)) on.1.parts here,
      ))
      | inr rest ↦ inr (walk_up geo u l least run lens (drop n row) at want got on.2 counted.2 area.1 rest)
    ]

-- from the children of a run to the run
pub walk_run : (geo : Geometry) (u : Units) (level least : ℕ) (run : List Part) (lens : List ℕ) (row : List Part) (fault : PortFault) → level ≢ 0
    → EachRow (λ part r. IsRowOn geo (u part.page.0) level part.size r) run lens row → EachRow (CountedRow geo level least) run lens row → AllByRecursion (λ (part : Part). NamesNode geo part.page.0) run
    → IsWalkFault geo u (level - 1) geo.fan row fault → IsWalkFault geo u level least run fault
walk_run geo u level least run lens row Disk above on counted area h = tt
walk_run geo u level least run lens row Memory above on counted area h = tt
walk_run geo u zero least run lens row (Damaged at want got) above on counted area h = absurd (above refl)
walk_run geo u (suc l) least run lens row (Damaged at want got) above on counted area h =
    walk_up geo u l least run lens row at want got on counted area (subst (λ k. IsWalkFault geo u k geo.fan row (Damaged at want got)) {x = suc l - 1} {y = l} (omega arith) h)

-- ---- the loop over a run

module _ {S : Type 0} (g : ground.Ghosts S) where
  pub record BelowSoFar (old now : S) (level least : ℕ) (run : List Part) (i : ℕ) (lens : List ℕ) (row : List Part) : Type 0 where
    pub kept : Keeps g old now
    pub counted : EachRow (CountedRow (g.geometry old) level least) (take i run) lens row
    pub found : g.tells old → EachRow (λ part r. IsRowOn (g.geometry old) (g.unit old part.page.0) level part.size r) (take i run) lens row
    pub area : AllByRecursion (λ (part : Part). NamesNode (g.geometry old) part.page.0) (take i run)

  pub below_more : (old now new : S) (level least : ℕ) (run : List Part) (i : ℕ) (lens lens' : List ℕ) (row row' more : List Part) (n : ℕ) → i < length run → BelowSoFar old now level least run i lens row → Keeps g now new
      → IsCounted (g.geometry now) level (get_or run i no_part).size least more → (g.tells now → IsRowOn (g.geometry now) (g.unit now (get_or run i no_part).page.0) level (get_or run i no_part).size more) → NamesNode (g.geometry now) (get_or run i no_part).page.0
      → n ≡ length more → lens' ≡ lens ++ (n ∷ []) → row' ≡ row ++ more → BelowSoFar old new level least run (i + 1) lens' row'
  below_more old now new level least run i lens lens' row row' more n lt h k counted found area n_is lens_is row_is =
      let part : Part = get_or run i no_part in
      let up : take (i + 1) run ≡ take i run ++ (get_or run i no_part ∷ []) = take_more run i no_part lt in
      let geo = g.leads_geometry old now h.kept.leads in
      let lens_all : lens' ≡ lens ++ (length more ∷ []) = lens_is ∙ ap (λ m. lens ++ (m ∷ [])) n_is in
      let at = λ (P : Part → List Part → Type 0) (e : EachRow P (take i run) lens row) (p : P (get_or run i no_part) more).
      subst (λ r. EachRow P r lens' row') (sym up) (subst (λ ls. EachRow P (take i run ++ (get_or run i no_part ∷ [])) ls row') (sym lens_all) (subst (EachRow P (take i run ++ (get_or run i no_part ∷ [])) (lens ++ (length more ∷ []))) (sym row_is)
      (each_row_more P (take i run) lens row (get_or run i no_part) more e p))) in
      record {
        kept = keeps_on g old now new h.kept k;
        counted = at (CountedRow (g.geometry old) level least) h.counted (subst (λ x. IsCounted x level (get_or run i no_part).size least more) geo counted);
        found = λ told. at (λ p r. IsRowOn (g.geometry old) (g.unit old p.page.0) level p.size r) (h.found told)
            (subst (λ (f : ℕ → List ℕ). IsRowOn (g.geometry old) (f (get_or run i no_part).page.0) level (get_or run i no_part).size more) h.kept.units
            (subst (λ x. IsRowOn x (g.unit now (get_or run i no_part).page.0) level (get_or run i no_part).size more) geo (found (g.leads_told old now h.kept.leads told))));
        area = subst (AllByRecursion (λ (p : Part). NamesNode (g.geometry old) p.page.0)) (sym up) (each-append _ (take i run) (get_or run i no_part ∷ []) h.area (subst (λ x. NamesNode x (get_or run i no_part).page.0) geo area, tt));
      }
