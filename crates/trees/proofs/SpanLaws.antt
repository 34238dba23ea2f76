-- The trees side by side that have a range of the bytes of their row.
use Rattle.std.proofs.Common.{◌≡◌, ℕ, zero, suc, ◌+◌, ◌-◌, ◌<◌, ◌≤◌, inl, inr, List, [], ◌∷◌, ◌++◌, length, take, drop, sym, ap, subst, ◌∙◌, arith}
use Rattle.std.specs.Prelude.{slice_index}
use Rattle.std.specs.List.{AllByRecursion}
use Rattle.std.proofs.Math.Seq.{take-add, drop-append-add}
use Rattle.std.proofs.lemmas.Bool.{cases_lt}
use Rattle.std.proofs.lemmas.List.{take-append-drop, take-append-le, drop-append-le, length-drop}
use Rattle.ex_base.specs.Sizes.{leaf_bytes}
use Rattle.ex_base.specs.declared.faults.PortFault.{PortFault}
use Rattle.ex_base.specs.declared.geometry.Geometry.{Geometry}
use Rattle.ex_base.proofs.Rows.{each-take, each-drop, sum_of-append}
use Rattle.trees.specs.declared.Pair.{Pair}
use Rattle.trees.specs.Node.{RiseFrom, counts_of, pairs_on, start_of, IsFirst}
use Rattle.trees.proofs.Children.{length-counts}
use Rattle.trees.specs.Trees.{Units}
use Rattle.trees.specs.declared.rows.Part.{Part}
use Rattle.trees.specs.Rows.{parts_of, row_size, row_bytes, size_of_part, AreTrees, FitLeaves, IsFilled, IsRowOn}
use Rattle.trees.specs.Damage.{IsNodeAt, IsReadFault, IsSoundWay, NamesNode}
use Rattle.trees.specs.Spans.{IsSpan}
use Rattle.trees.proofs.TreeLaws.{AreWhole}
use Rattle.trees.proofs.Parts.{start-next, halves_fit}
use Rattle.trees.proofs.Laid.{row_length}
use Rattle.trees.proofs.Over.{bytes_app}
use Rattle.trees.proofs.Ways.{way_inside}
use Rattle.trees.proofs.ReadFaults.{read_inside}

-- the node that stands where its parent says
pub node_here : (geo known : Geometry) (u : Units) (level total least page : ℕ) (bytes : List ℕ) → known ≡ geo → bytes ≡ u page → NamesNode known page → IsRowOn known bytes level total (parts_of 0 (pairs_on bytes)) → IsFilled known level least (parts_of 0 (pairs_on bytes))
    → IsNodeAt geo u level total least page
node_here geo known u level total least page bytes geo_is bytes_is area row filled = record {
  area = subst (λ (g : Geometry). NamesNode g page) geo_is area;
  row = subst (λ (b : List ℕ). IsRowOn geo b level total (parts_of 0 (pairs_on b))) bytes_is (subst (λ (g : Geometry). IsRowOn g bytes level total (parts_of 0 (pairs_on bytes))) geo_is row);
  filled = subst (λ (b : List ℕ). IsFilled geo level least (parts_of 0 (pairs_on b))) bytes_is (subst (λ (g : Geometry). IsFilled g level least (parts_of 0 (pairs_on bytes))) geo_is filled);
}

-- ---- from the counts of a node

-- the first children have the bytes before the next one
front_size : (before : ℕ) (pairs : List Pair) (i : ℕ) → RiseFrom before pairs → i ≤ length pairs → row_size (take i (parts_of before pairs)) + before ≡ slice_index (before ∷ counts_of pairs) i
front_size before pairs zero rise le = omega arith
front_size before [] (suc i) rise le = absurd (omega arith)
front_size before (pair ∷ pairs) (suc i) rise le = omega (arith, rise.0, front_size pair.count pairs i rise.1 (omega arith))

-- the first child behind a position begins no later
start_within : (pairs : List Pair) (pos first : ℕ) → IsFirst (λ count. pos < count) (counts_of pairs) first → start_of pairs first ≤ pos
start_within pairs pos zero h = omega arith
start_within pairs pos (suc k) h = elim (cases_lt pos (slice_index (counts_of pairs) k)) [
  | inl above ↦ absurd (h.none_before k (omega arith) above)
  | inr within ↦ within
]

first_order : (pairs : List Pair) (pos end first last : ℕ) → pos ≤ end → IsFirst (λ count. pos < count) (counts_of pairs) first → IsFirst (λ count. end < count) (counts_of pairs) last → first ≤ last
first_order pairs pos end first last le begins ends = elim (cases_lt last first) [
  | inl early ↦ absurd (begins.none_before last early (omega (arith, ends.here)))
  | inr order ↦ order
]

sizes_add : (row : List Part) (a b : ℕ) → row_size (take (a + b) row) ≡ row_size (take a row) + row_size (take b (drop a row))
sizes_add row a b = ap row_size (take-add a b row) ∙ sum_of-append size_of_part (take a row) (take b (drop a row))

pub span_here : (pairs : List Pair) (pos len first last inside : ℕ) (trees : List Part) → RiseFrom 0 pairs → 1 ≤ len
    → IsFirst (λ count. pos < count) (counts_of pairs) first → inside ≡ pos - start_of pairs first → IsFirst (λ count. pos + (len - 1) < count) (counts_of pairs) last
    → trees ≡ take (last + 1 - first) (drop first (parts_of 0 pairs)) → IsSpan (parts_of 0 pairs) pos len trees inside
span_here pairs pos len first last inside trees rise some begins inside_is ends is =
    let few : length (counts_of pairs) ≡ length pairs = length-counts pairs in
    let order : first ≤ last = first_order pairs pos (pos + (len - 1)) first last (omega arith) begins ends in
    let from : row_size (take first (parts_of 0 pairs)) + 0 ≡ start_of pairs first = front_size 0 pairs first rise (omega (arith, few, begins.inside)) in
    let up_to : row_size (take (last + 1) (parts_of 0 pairs)) + 0 ≡ start_of pairs (last + 1) = front_size 0 pairs (last + 1) rise (omega (arith, few, ends.inside)) in
    let end_is : start_of pairs (last + 1) ≡ slice_index (counts_of pairs) last = start-next pairs last in
    let within : start_of pairs first ≤ pos = start_within pairs pos first begins in
    let join : first + (last + 1 - first) ≡ last + 1 = omega arith in
    let all : row_size (take (last + 1) (parts_of 0 pairs)) ≡ row_size (take first (parts_of 0 pairs)) + row_size trees =
    ap (λ k. row_size (take k (parts_of 0 pairs))) (sym join) ∙ sizes_add (parts_of 0 pairs) first (last + 1 - first) ∙ ap (λ r. row_size (take first (parts_of 0 pairs)) + row_size r) (sym is) in
    record {
      first = first;
      count = last + 1 - first;
      parts = is;
      place = omega (arith, from, inside_is, within);
      enough = omega (arith, all, from, up_to, end_is, ends.here, inside_is, within);
    }

-- ---- the trees of a span

module _ (row trees : List Part) (pos len inside : ℕ) (s : IsSpan row pos len trees inside) where
  -- what stands on both sides of them
  around : row ≡ take s.first row ++ (trees ++ drop s.count (drop s.first row))
  around =
      sym (take-append-drop s.first row)
      ∙ ap (λ r. take s.first row ++ r) (sym (take-append-drop s.count (drop s.first row)))
      ∙ ap (λ r. take s.first row ++ (r ++ drop s.count (drop s.first row))) (sym s.parts)

  pub span_fits : (geo : Geometry) (level least : ℕ) → 1 ≤ level → IsFilled geo level least row → FitLeaves geo (level - 1) trees
  span_fits geo level least inner filled lowest =
      subst (AllByRecursion (λ (part : Part). part.size ≤ leaf_bytes geo)) (sym s.parts)
      (each-take _ s.count (drop s.first row) (each-drop _ s.first row (halves_fit (leaf_bytes geo) row (filled.halves (omega arith)))))

  pub span_trees : (geo : Geometry) (u : Units) (l : ℕ) → AreTrees geo u l row → AreTrees geo u l trees
  span_trees geo u l whole = subst (AreTrees geo u l) (sym s.parts) (each-take _ s.count (drop s.first row) (each-drop _ s.first row whole))

  pub span_bytes : (geo : Geometry) (u : Units) (l : ℕ) → AreWhole geo u → AreTrees geo u l row → take len (drop pos (row_bytes u l row)) ≡ take len (drop inside (row_bytes u l trees))
  span_bytes geo u l whole are =
      let front : List ℕ = row_bytes u l (take s.first row) in
      let rest : List ℕ = row_bytes u l (drop s.count (drop s.first row)) in
      let all : row_bytes u l row ≡ row_bytes u l (take s.first row) ++ (row_bytes u l trees ++ row_bytes u l (drop s.count (drop s.first row))) =
      ap (row_bytes u l) around ∙ bytes_app u l (take s.first row) (trees ++ drop s.count (drop s.first row))
      ∙ ap (λ xs. row_bytes u l (take s.first row) ++ xs) (bytes_app u l trees (drop s.count (drop s.first row))) in
      let front_len : length (row_bytes u l (take s.first row)) ≡ row_size (take s.first row) = row_length geo u l (take s.first row) whole (each-take _ s.first row are) in
      let own_len : length (row_bytes u l trees) ≡ row_size trees = row_length geo u l trees whole (span_trees geo u l are) in
      ap (λ xs. take len (drop pos xs)) all
      ∙ ap (λ k. take len (drop k (row_bytes u l (take s.first row) ++ (row_bytes u l trees ++ row_bytes u l (drop s.count (drop s.first row)))))) (s.place ∙ ap (λ k. k + inside) (sym front_len))
      ∙ ap (take len) (drop-append-add (row_bytes u l (take s.first row)) (row_bytes u l trees ++ row_bytes u l (drop s.count (drop s.first row))) inside)
      ∙ ap (take len) (drop-append-le inside (row_bytes u l trees) (row_bytes u l (drop s.count (drop s.first row))) (omega (arith, own_len, s.enough)))
      ∙ take-append-le len (drop inside (row_bytes u l trees)) (row_bytes u l (drop s.count (drop s.first row))) (omega (arith, own_len, s.enough, length-drop inside (row_bytes u l trees)))

  -- the way to a byte of the range goes through them
  pub span_way : (geo : Geometry) (u : Units) (leaf : ℕ → Type 0) (level least byte : ℕ) → pos ≤ byte → byte < pos + len
      → ((b : ℕ) → inside ≤ b → b < inside + len → IsSoundWay geo u leaf level least trees b b) → IsSoundWay geo u leaf level least row byte byte
  span_way geo u leaf level least byte low high ways =
      subst (λ r. IsSoundWay geo u leaf level least r byte byte) (sym around)
      (way_inside geo u leaf level least (take s.first row) trees (drop s.count (drop s.first row)) byte byte (omega (arith, s.place, low)) (omega (arith, s.place, low)) (omega (arith, s.place, s.enough, high))
      (ways (byte - row_size (take s.first row)) (omega (arith, s.place, low)) (omega (arith, s.place, low, high))))

  -- what stops a read of them
  pub span_fault : (geo : Geometry) (u : Units) (level least : ℕ) (fault : PortFault) → IsReadFault geo u level least trees inside len fault → IsReadFault geo u level least row pos len fault
  span_fault geo u level least fault h =
      subst (λ r. IsReadFault geo u level least r pos len fault) (sym around)
      (read_inside geo u level least (take s.first row) trees (drop s.count (drop s.first row)) inside len pos len fault (omega (arith, s.place)) (omega (arith, s.place)) h)
