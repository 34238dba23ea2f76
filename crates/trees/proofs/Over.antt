-- New nodes, one after the other, and what they hold.
use Rattle.std.proofs.Common.{◌≡◌, ◌⊎◌, ℕ, zero, suc, ◌+◌, ◌-◌, ◌*◌, ◌<◌, ◌≤◌, ◌^◌, List, [], ◌∷◌, ◌++◌, length, take, drop, get_or, map, Bool, true, refl, sym, ap, subst, ◌∙◌, arith, take_all, inl, inr, add-one}
use Rattle.std.proofs.lemmas.List.{length-drop, length-take-le, map-append, take_more, drop-drop, take-append-drop, length-map, drop-map, take-map}
use Rattle.std.proofs.Math.Nat.{mul-le-mul_right}
use Rattle.std.proofs.lemmas.Grind.{flat_map-append}
use Rattle.std.proofs.lemmas.Bool.{cases_lt}
use Rattle.std.specs.List.{AllByRecursion, flat_map, concat}
use Rattle.ex_base.specs.Area.{InPageArea}
use Rattle.ex_base.specs.Sizes.{IsGeometry, geometry_is, object_most}
use Rattle.trees.proofs.Parts.{narrow}
use Rattle.ex_base.specs.Even.{sum_of, evenly, cut_by, least_parts}
use Rattle.ex_base.specs.declared.geometry.Geometry.{Geometry}
use Rattle.ex_base.proofs.Rows.{each-append, each-take, each-drop, IsRow}
use Rattle.ex_base.proofs.Spread.{plain, Between, evenly_row, least_parts_is, IsLeast, just_one, less_than_children, some_part, length-evenly, IsPiece, row_of_pieces, cut_count}
use Rattle.trees.specs.declared.Pair.{Pair}
use Rattle.trees.specs.declared.width.Width.TheVariants.{Wide}
use Rattle.trees.specs.Node.{IsNode, PairsOf, HasPairFields, RiseFrom, pairs_on, node_page, total_of}
use Rattle.trees.specs.Split.{most_pairs, nodes_for}
use Rattle.trees.proofs.NodeLaws.{spelled_reads}
use Rattle.ex_base.proofs.Keeping.{keeps_refl}
use Rattle.ex_base.proofs.Each.{each_as, each_at, split_each}
use Rattle.ex_base.specs.Ports.{TakesUnit, CountsNames}
use Rattle.ex_base.specs.declared.names.Area.TheVariants.{Page}
use Rattle.ex_base.specs.declared.ground.Ground as ground
use Rattle.trees.specs.Trees.{Units, IsNamed, HasSize, EachChild, for_each_child, bytes_on, shape_on, units_on}
use Rattle.trees.specs.declared.rows.Part.{Part}
use Rattle.trees.specs.Rows.{row_bytes, row_size, row_units, row_shape, AreTrees, pairs_of}
use Rattle.trees.specs.Made.{Extends, Spent, AreUsed, Holds, Has, IsTaken, Took, pages_of, sizes_of}
use Rattle.trees.specs.Built.{Built, IsCut, AreSome, even_lens}
use Rattle.trees.proofs.Kept.{row_extends, holds_on}
use Rattle.trees.proofs.Counts.{counted_node, counted_on, counted_same}
use Rattle.trees.specs.Counted.{Counted, NamesPairs}
use Rattle.trees.specs.Owners.{named_on}
use Rattle.trees.specs.Names.{page_of_pair}
use Rattle.trees.proofs.Laid.{spent_none, spent_on, extends_refl, extends_on, extends_node, took_none, took_more, has_left, has_right}
pub use Rattle.trees.proofs.Sizes.{front_most as size_of_take, rest_most as size_of_drop}

-- ---- pairs, one after the other

pub row_size-snoc : (row : List Part) (part : Part) → row_size (row ++ (part ∷ [])) ≡ row_size row + part.size
row_size-snoc [] part = omega arith
row_size-snoc (first ∷ row) part = omega (arith, row_size-snoc row part)

pub pairs-snoc : (before : ℕ) (row : List Part) (part : Part) (count : ℕ) → count ≡ before + row_size row + part.size → pairs_of before (row ++ (part ∷ [])) ≡ pairs_of before row ++ (record { count = count; page = part.page } ∷ [])
pairs-snoc before [] part count is =
    let same : before + part.size ≡ count = omega arith in
    ap (λ (n : ℕ). let pair : Pair = record { count = n; page = part.page } in pair ∷ []) same
pairs-snoc before (first ∷ row) part count is =
    ap (λ ps. record { count = before + first.size; page = first.page } ∷ ps) (pairs-snoc (before + first.size) row part count (omega arith))

pub length-pairs_of : (before : ℕ) (row : List Part) → length (pairs_of before row) ≡ length row
length-pairs_of before [] = refl
length-pairs_of before (part ∷ row) = omega (arith, length-pairs_of (before + part.size) row)

-- the bytes of an object are counted in the field of a pair
field_holds : (count : ℕ) → count ≤ object_most → count < 2 ^ 64
field_holds count le = omega arith

-- ---- one node

rise_of : (before : ℕ) (row : List Part) → AreSome row → RiseFrom before (pairs_of before row)
rise_of before [] some = tt
rise_of before (part ∷ row) some = (omega (arith, some.0), rise_of (before + part.size) row some.1)

total_of_pairs : (before : ℕ) (row : List Part) → 1 ≤ length row → total_of (pairs_of before row) ≡ before + row_size row
total_of_pairs before [] some = absurd (omega arith)
total_of_pairs before (part ∷ []) some = omega arith
total_of_pairs before (part ∷ next ∷ row) some = omega (arith, total_of_pairs (before + part.size) (next ∷ row) (omega arith))

back_to_size : (before size : ℕ) → before + size - before ≡ size
back_to_size before size = omega arith

children_of : {A : Type 0} (make : ℕ → ℕ → A) (before : ℕ) (row : List Part) → for_each_child make before (pairs_of before row) ≡ map (λ (part : Part). make part.page.0 part.size) row
children_of make before [] = refl
children_of make before (part ∷ row) =
    let here = ap (make part.page.0) (back_to_size before part.size) in
    let rest = children_of make (before + part.size) row in
    cc (here, rest)

each_child_of : (P : ℕ → ℕ → Type 0) (before : ℕ) (row : List Part) → AllByRecursion (λ (part : Part). P part.page.0 part.size) row → EachChild P before (pairs_of before row)
each_child_of P before [] all = tt
each_child_of P before (part ∷ row) all = (subst (P part.page.0) (sym (back_to_size before part.size)) all.0, each_child_of P (before + part.size) row all.1)

each_named_of : (P : ℕ → Type 0) (before : ℕ) (row : List Part) → AllByRecursion (λ (part : Part). P part.page.0) row → AllByRecursion (λ (pair : Pair). P pair.page.0) (pairs_of before row)
each_named_of P before [] all = tt
each_named_of P before (part ∷ row) all = (all.0, each_named_of P (before + part.size) row all.1)

units_of_pairs : (f : ℕ → List ℕ) (before : ℕ) (row : List Part) → flat_map (λ (pair : Pair). f pair.page.0) (pairs_of before row) ≡ flat_map (λ (part : Part). f part.page.0) row
units_of_pairs f before [] = refl
units_of_pairs f before (part ∷ row) = ap (λ us. f part.page.0 ++ us) (units_of_pairs f (before + part.size) row)

concat_map : {A : Type 0} (f : A → List ℕ) (xs : List A) → concat (map f xs) ≡ flat_map f xs
concat_map f [] = refl
concat_map f (x ∷ xs) = ap (λ ys. f x ++ ys) (concat_map f xs)

-- a page that names a tree fits its field
named_small : (geo : Geometry) (u : Units) (l page : ℕ) → IsGeometry geo → IsNamed geo u l page → page < 2 ^ 32
named_small geo u zero page sizes named =
    let j : ℕ = named.0 in
    let a : named.0 * geo.seg_len ≤ 4000000 * geo.seg_len = mul-le-mul_right geo.seg_len (let le : named.0 ≤ 4000000 = omega (arith, named.1, sizes.segs) in le) in
    omega (arith, named.2, sizes.pages, sizes.seg_len)
named_small geo u (suc l) page sizes named = omega (arith, named.0.1, sizes.pages)

fields_of : (geo : Geometry) (u : Units) (l before : ℕ) (row : List Part) → IsGeometry geo → before + row_size row ≤ object_most → AreTrees geo u l row → AllByRecursion (HasPairFields Wide) (pairs_of before row)
fields_of geo u l before [] sizes le trees = tt
fields_of geo u l before (part ∷ row) sizes le trees = ((field_holds (before + part.size) (omega arith), named_small geo u l part.page.0 sizes trees.0.0), fields_of geo u l (before + part.size) row sizes (omega arith) trees.1)

-- what a piece of a row needs to fit one node
pub record IsFit (geo : Geometry) (piece : List Part) : Type 0 where
  pub some : 1 ≤ length piece
  pub few : length piece ≤ most_pairs geo.fan
  pub sizes : AreSome piece
  pub limit : row_size piece ≤ object_most

-- a node over a piece is a tree
pub record IsNodeOver (geo : Geometry) (u : Units) (l page : ℕ) (piece : List Part) : Type 0 where
  pub tree : IsNamed geo u (suc l) page × HasSize geo u (suc l) page (row_size piece)
  pub bytes : bytes_on u (suc l) page (row_size piece) ≡ row_bytes u l piece
  pub shape : shape_on u (suc l) page (row_size piece) ≡ row_shape u l piece
  pub units : units_on u (suc l) page ≡ page ∷ row_units u l piece
  pub pairs : pairs_on (u page) ≡ pairs_of 0 piece

pub node_over_piece : (geo : Geometry) (u : Units) (l page : ℕ) (piece : List Part) → IsGeometry geo → geo.fan ≤ 340 → suc l < 256 → InPageArea geo page → u page ≡ node_page (length (u page)) (suc l) (pairs_of 0 piece)
    → IsFit geo piece → AreTrees geo u l piece → IsNodeOver geo u l page piece
node_over_piece geo u l page piece sizes small byte area is fit trees =
    let fits : IsNode geo.fan (suc l) (pairs_of 0 piece) = record {
      inner = omega arith;
      byte = byte;
      some = omega (arith, length-pairs_of 0 piece, fit.some);
      few = omega (arith, length-pairs_of 0 piece, fit.few);
      rising = rise_of 0 piece fit.sizes;
    } in
    let spelled : PairsOf geo.fan (u page) (suc l) (pairs_of 0 piece) = record {
      fits = fits;
      width = Wide;
      fields = fields_of geo u l 0 piece sizes (omega (arith, fit.limit)) trees;
      spelled = is;
    } in
    let pairs : pairs_on (u page) ≡ pairs_of 0 piece = (spelled_reads geo.fan (u page) (suc l) (pairs_of 0 piece) small spelled).same_pairs in
    let total : total_of (pairs_on (u page)) ≡ row_size piece = ap total_of pairs ∙ total_of_pairs 0 piece fit.some ∙ omega arith in
    let named : AllByRecursion (λ (pair : Pair). IsNamed geo u l pair.page.0) (pairs_of 0 piece) = each_named_of (IsNamed geo u l) 0 piece (each_as _ (λ (part : Part). IsNamed geo u l part.page.0) piece (λ part h. h.0) trees) in
    let sized : EachChild (HasSize geo u l) 0 (pairs_of 0 piece) = each_child_of (HasSize geo u l) 0 piece (each_as _ (λ (part : Part). HasSize geo u l part.page.0 part.size) piece (λ part h. h.1) trees) in
    record {
      tree = (
        (area, subst (PairsOf geo.fan (u page) (suc l)) (sym pairs) spelled, subst (AllByRecursion (λ (pair : Pair). IsNamed geo u l pair.page.0)) (sym pairs) named),
        (total, subst (EachChild (HasSize geo u l) 0) (sym pairs) sized),
      );
      bytes = ap (λ ps. concat (for_each_child (bytes_on u l) 0 ps)) pairs ∙ ap concat (children_of (bytes_on u l) 0 piece) ∙ concat_map (λ (part : Part). bytes_on u l part.page.0 part.size) piece;
      shape = ap (λ ps. for_each_child (shape_on u l) 0 ps) pairs ∙ children_of (shape_on u l) 0 piece;
      units = ap (λ ps. page ∷ flat_map (λ (pair : Pair). units_on u l pair.page.0) ps) pairs ∙ ap (λ us. page ∷ us) (units_of_pairs (units_on u l) 0 piece);
      pairs = pairs;
    }

-- ---- nodes over the pieces of a row

abbrev pub IsOver : Units → ℕ → List Part → List (List Part) → Type 0
IsOver u level [] [] = Unit {0}
IsOver u level [] (piece ∷ pieces) = ⊥
IsOver u level (part ∷ above) [] = ⊥
IsOver u level (part ∷ above) (piece ∷ pieces) = (u part.page.0 ≡ node_page (length (u part.page.0)) level (pairs_of 0 piece)) × IsOver u level above pieces

pub record OverSoFar {S : Type 0} (g : ground.Ghosts S) (old now : S) (level : ℕ) (row : List Part) (lens : List ℕ) (i : ℕ) (above : List Part) (at : ℕ) : Type 0 where
  pub extends : Extends g old now
  pub at_is : at ≡ sum_of plain (take i lens)
  pub sizes : sizes_of above ≡ map row_size (take i (cut_by lens row))
  pub area : AllByRecursion (λ (part : Part). InPageArea (g.geometry old) part.page.0) above
  pub took : Took g old now (pages_of above)
  pub spent : Spent g old now 0 i
  pub over : g.tells old → IsOver (g.unit now) level above (take i (cut_by lens row))
  pub counts : g.tells old → (l : ℕ) → level ≡ suc l → Holds g old l row → NamesPairs g → Counted g old now

-- no node is there yet
pub over_none : {S : Type 0} (g : ground.Ghosts S) (old : S) (level : ℕ) (row : List Part) (lens : List ℕ) → OverSoFar g old old level row lens 0 [] 0
over_none g old level row lens = record {
  extends = extends_refl g old;
  at_is = refl;
  sizes = refl;
  area = tt;
  took = took_none g old;
  spent = spent_none g old;
  over = λ told. tt;
  counts = λ told l is holds names. counted_same g old;
}

-- ---- the lengths of the pieces

pub lens_row : (most n : ℕ) → 3 ≤ most → 1 ≤ n → IsRow (Between 1 most) plain n (least_parts most n) (evenly (least_parts most n) n)
lens_row most n wide some =
    let h : IsLeast most n (least_parts most n) = least_parts_is most n (omega arith) in
    let pos : 0 < least_parts most n = some_part most n (least_parts most n) h (omega arith) in
    let le : 1 * least_parts most n ≤ n = elim (cases_lt n 2) [
      | inl lt ↦ omega (arith, just_one most n (least_parts most n) h (omega arith) (omega arith))
      | inr two ↦ omega (arith, less_than_children most n (least_parts most n) h wide two)
    ] in
    evenly_row (least_parts most n) n 1 most pos le (omega (arith, h.holds))

sum_up : (xs : List ℕ) (i : ℕ) → i < length xs → sum_of plain (take i xs) + get_or xs i 0 ≤ sum_of plain xs
sum_up [] i lt = absurd (omega arith)
sum_up (x ∷ xs) zero lt = omega arith
sum_up (x ∷ xs) (suc i) lt = omega (arith, sum_up xs i (omega arith))

pub piece_ends : (lens : List ℕ) (i at n : ℕ) → i < length lens → at ≡ sum_of plain (take i lens) → sum_of plain lens ≡ n → at + get_or lens i 0 ≤ n
piece_ends lens i at n lt at_is sum = omega (arith, sum_up lens i lt)

cut_snoc : (lens : List ℕ) (row : List Part) (i : ℕ) → i < length lens → take (suc i) (cut_by lens row) ≡ take i (cut_by lens row) ++ (take (get_or lens i 0) (drop (sum_of plain (take i lens)) row) ∷ [])
cut_snoc [] row i lt = absurd (omega arith)
cut_snoc (n ∷ lens) row zero lt = refl
cut_snoc (n ∷ lens) row (suc i) lt =
    ap (λ ps. take n row ∷ ps) (cut_snoc lens (drop n row) i (omega arith)
    ∙ ap (λ xs. take i (cut_by lens (drop n row)) ++ (take (get_or lens i 0) xs ∷ [])) (drop-drop (sum_of plain (take i lens)) n row))

sum_snoc : (lens : List ℕ) (i : ℕ) → i < length lens → sum_of plain (take (suc i) lens) ≡ sum_of plain (take i lens) + get_or lens i 0
sum_snoc [] i lt = absurd (omega arith)
sum_snoc (n ∷ lens) zero lt = omega arith
sum_snoc (n ∷ lens) (suc i) lt = omega (arith, sum_snoc lens i (omega arith))

-- ---- one node more

over_kept : (u v : Units) (used : ℕ → Bool) (level : ℕ) (above : List Part) (pieces : List (List Part)) → ((p : ℕ) → used p ≡ true → v p ≡ u p) → AreUsed used (pages_of above) → IsOver u level above pieces → IsOver v level above pieces
over_kept u v used level [] [] same all h = tt
over_kept u v used level [] (piece ∷ pieces) same all h = h
over_kept u v used level (part ∷ above) [] same all h = h
over_kept u v used level (part ∷ above) (piece ∷ pieces) same all h =
    (subst (λ page. page ≡ node_page (length page) level (pairs_of 0 piece)) (sym (same part.page.0 all.0)) h.0, over_kept u v used level above pieces same all.1 h.1)

over_snoc : (u : Units) (level : ℕ) (above : List Part) (pieces : List (List Part)) (part : Part) (piece : List Part) → IsOver u level above pieces → u part.page.0 ≡ node_page (length (u part.page.0)) level (pairs_of 0 piece)
    → IsOver u level (above ++ (part ∷ [])) (pieces ++ (piece ∷ []))
over_snoc u level [] [] part piece h page = (page, tt)
over_snoc u level [] (p ∷ pieces) part piece h page = absurd h
over_snoc u level (a ∷ above) [] part piece h page = absurd h
over_snoc u level (a ∷ above) (p ∷ pieces) part piece h page = (h.0, over_snoc u level above pieces part piece h.1 page)

-- ---- what a new node names

-- the roots of trees over used units are used
roots_used : (u : Units) (used : ℕ → Bool) (l : ℕ) (row : List Part) → AreUsed used (row_units u l row) → AreUsed used (pages_of row)
roots_used u used l [] all = tt
roots_used u used l (part ∷ row) all =
    let parts = split_each (λ p. used p ≡ true) (units_on u l part.page.0) (row_units u l row) all in
    (first u used l part.page.0 parts.0, roots_used u used l row parts.1)
  where
    first : (u : Units) (used : ℕ → Bool) (l page : ℕ) → AreUsed used (units_on u l page) → used page ≡ true
    first u used zero page all = all.0
    first u used (suc l) page all = all.0

pages_of_pairs : (before : ℕ) (row : List Part) → map page_of_pair (pairs_of before row) ≡ pages_of row
pages_of_pairs before [] = refl
pages_of_pairs before (part ∷ row) = ap (λ us. part.page.0 ∷ us) (pages_of_pairs (before + part.size) row)

-- the piece of a row that a node is made over
pub piece_fits : (geo : Geometry) (row : List Part) (lens : List ℕ) (i at : ℕ) → AreSome row → row_size row ≤ object_most → IsCut (most_pairs geo.fan) (length row) lens → i < length lens → at ≡ sum_of plain (take i lens)
    → IsFit geo (take (get_or lens i 0) (drop at row))
piece_fits geo row lens i at somes limit cut lt at_is =
    let ends = piece_ends lens i at (length row) lt at_is cut.sum in
    let each = each_at (Between 1 (most_pairs geo.fan)) lens i 0 lt cut.each in
    let len : length (take (get_or lens i 0) (drop at row)) ≡ get_or lens i 0 = length-take-le (get_or lens i 0) (drop at row) (omega (arith, length-drop at row, ends)) in
    record {
      some = omega (arith, len, each.0);
      few = omega (arith, len, each.1);
      sizes = each-take (λ (part : Part). 1 ≤ part.size) (get_or lens i 0) (drop at row) (each-drop (λ (part : Part). 1 ≤ part.size) at row somes);
      limit = omega (arith, size_of_take (drop at row) (get_or lens i 0), size_of_drop row at, limit);
    }

-- a node over a piece of a row that is held is counted
node_counted : {S : Type 0} (g : ground.Ghosts S) (now new : S) (l page len at : ℕ) (row piece : List Part) (content : List ℕ) → suc l < 256 → Extends g now new → TakesUnit g now new Page page content → piece ≡ take len (drop at row)
    → IsFit (g.geometry now) piece → g.unit new page ≡ node_page (length (g.unit new page)) (suc l) (pairs_of 0 piece) → Holds g now l row → CountsNames g now new (g.names (g.geometry now) (g.unit new page)) → NamesPairs g → Counted g now new
node_counted g now new l page len at row piece content byte step t piece_is fit is holds counts names =
    let geo : Geometry = g.geometry now in
    let same = row_extends g now new l row step holds in
    let IsTree : Part → Type 0 = λ (part : Part). IsNamed (g.geometry now) (g.unit new) l part.page.0 × HasSize (g.geometry now) (g.unit new) l part.page.0 part.size in
    let trees : AreTrees (g.geometry now) (g.unit new) l piece = subst (AreTrees (g.geometry now) (g.unit new) l) (sym piece_is) (each-take IsTree len (drop at row) (each-drop IsTree at row same.trees)) in
    let over = node_over_piece (g.geometry now) (g.unit new) l page piece (geometry_is (g.geometry now)) (narrow (g.geometry now)) byte t.named is fit trees in
    let roots : AreUsed (g.used now) (pages_of piece) =
    subst (λ (r : List Part). AreUsed (g.used now) (pages_of r)) (sym piece_is)
    (subst (AreUsed (g.used now)) (ap (take len) (drop-map (λ (part : Part). part.page.0) at row) ∙ take-map (λ (part : Part). part.page.0) len (drop at row))
    (each-take (λ p. g.used now p ≡ true) len (drop at (pages_of row)) (each-drop (λ p. g.used now p ≡ true) at (pages_of row) (roots_used (g.unit now) (g.used now) l row holds.used)))) in
    let named : named_on (g.unit new) page ≡ pages_of piece = ap (map page_of_pair) over.pairs ∙ pages_of_pairs 0 piece in
    counted_node g now new page (suc l) (pairs_on (g.unit new page)) content t over.tree.0.1 (subst (AreUsed (g.used now)) (sym named) roots) counts names

pub node_step : {S : Type 0} (g : ground.Ghosts S) (old now new : S) (level : ℕ) (row : List Part) (lens : List ℕ) (i : ℕ) (above after : List Part) (at len : ℕ) (part : Part) (piece : List Part) (content : List ℕ)
    → i < length lens → len ≡ get_or lens i 0 → OverSoFar g old now level row lens i above at → g.leads now new → TakesUnit g now new Page part.page.0 content → Spent g now new 0 1
    → piece ≡ take len (drop at row) → part.size ≡ row_size piece → (g.tells now → g.unit new part.page.0 ≡ node_page (length (g.unit new part.page.0)) level (pairs_of 0 piece))
    → level < 256 → IsFit (g.geometry old) piece → g.touched new ≡ g.touched now → CountsNames g now new (g.names (g.geometry now) content) → (g.tells now → CountsNames g now new (g.names (g.geometry now) (g.unit new part.page.0)))
    → after ≡ above ++ (part ∷ []) → OverSoFar g old new level row lens (i + 1) after (at + len)
node_step g old now new level row lens i above after at len part piece content lt len_is h leads t spent piece_is size page byte fit touched references names after_is =
    let step : Extends g now new = extends_node g now new part.page.0 content (g.names (g.geometry now) content) leads t touched references in
    let here : piece ≡ take (get_or lens i 0) (drop (sum_of plain (take i lens)) row) = piece_is ∙ ap (λ k. take k (drop at row)) len_is ∙ ap (λ k. take (get_or lens i 0) (drop k row)) h.at_is in
    let pieces : take (i + 1) (cut_by lens row) ≡ take i (cut_by lens row) ++ (piece ∷ []) = ap (λ k. take k (cut_by lens row)) (add-one i) ∙ cut_snoc lens row i lt ∙ ap (λ p. take i (cut_by lens row) ++ (p ∷ [])) (sym here) in
    record {
      extends = extends_on g old now new h.extends step;
      at_is = omega (arith, h.at_is, sum_snoc lens i lt, ap (λ k. sum_of plain (take k lens)) (add-one i));
      sizes = ap sizes_of after_is ∙ map-append (λ (q : Part). q.size) above (part ∷ []) ∙ ap (λ xs. xs ++ (part.size ∷ [])) h.sizes ∙ ap (λ n. map row_size (take i (cut_by lens row)) ++ (n ∷ [])) size
          ∙ sym (map-append row_size (take i (cut_by lens row)) (piece ∷ [])) ∙ sym (ap (map row_size) pieces);
      area = subst (AllByRecursion (λ (q : Part). InPageArea (g.geometry old) q.page.0)) (sym after_is)
          (each-append (λ (q : Part). InPageArea (g.geometry old) q.page.0) above (part ∷ []) h.area (subst (λ geo. InPageArea geo part.page.0) (g.leads_geometry old now h.extends.leads) t.named, tt));
      spent = spent_on g old now new 0 i 0 1 h.spent spent;
      took = subst (Took g old new) (sym (ap pages_of after_is ∙ map-append (λ (q : Part). q.page.0) above (part ∷ []))) (took_more g old now now new (pages_of above) Page part.page.0 content h.extends (keeps_refl g now) t h.took);
      counts = λ told l same holds pairs.
          let told_now = g.leads_told old now h.extends.leads told in
          counted_on g old now new h.extends step (h.counts told l same holds pairs)
          (node_counted g now new l part.page.0 len at row piece content (omega (arith, byte, same)) step t piece_is (subst (λ (geo : Geometry). IsFit geo piece) (sym (g.leads_geometry old now h.extends.leads)) fit)
          (subst (λ k. g.unit new part.page.0 ≡ node_page (length (g.unit new part.page.0)) k (pairs_of 0 piece)) same (page told_now)) (holds_on g old now l row h.extends holds) (names told_now) pairs);
      over = λ told.
          subst (λ ps. IsOver (g.unit new) level after ps) (sym pieces) (subst (λ xs. IsOver (g.unit new) level xs (take i (cut_by lens row) ++ (piece ∷ []))) (sym after_is)
          (over_snoc (g.unit new) level above (take i (cut_by lens row)) part piece
          (over_kept (g.unit now) (g.unit new) (g.used now) level above (take i (cut_by lens row)) step.units (each_as (IsTaken g old now) (λ p. g.used now p ≡ true) (pages_of above) (λ p x. x.1) h.took.each) (h.over told))
          (page (g.leads_told old now h.extends.leads told))));
    }

-- ---- all nodes

-- the pieces are fit for nodes
pub pieces_fit : (geo : Geometry) (row : List Part) (pieces : List (List Part)) → AllByRecursion (IsPiece (λ (part : Part). 1 ≤ part.size) 1 (most_pairs geo.fan)) pieces → sum_of row_size pieces ≤ object_most → AllByRecursion (IsFit geo) pieces
pieces_fit geo row [] all le = tt
pieces_fit geo row (piece ∷ pieces) all le = (record { some = all.0.0; few = all.0.1; sizes = all.0.2; limit = omega arith }, pieces_fit geo row pieces all.1 (omega arith))

some_size : (row : List Part) → 1 ≤ length row → AreSome row → 1 ≤ row_size row
some_size [] some sizes = absurd (omega arith)
some_size (part ∷ row) some sizes = omega (arith, sizes.0)

pub above_some : (geo : Geometry) (above : List Part) (pieces : List (List Part)) → AllByRecursion (IsFit geo) pieces → sizes_of above ≡ map row_size pieces → AreSome above
above_some geo [] pieces fit same = tt
above_some geo (part ∷ above) [] fit same = absurd cc
above_some geo (part ∷ above) (piece ∷ pieces) fit same =
    let here : part.size ≡ row_size piece = cc in
    let rest : sizes_of above ≡ map row_size pieces = cc in
    (omega (arith, some_size piece fit.0.some fit.0.sizes), above_some geo above pieces fit.1 rest)

pub above_size : (above : List Part) (pieces : List (List Part)) → sizes_of above ≡ map row_size pieces → row_size above ≡ sum_of row_size pieces
above_size [] [] same = refl
above_size [] (piece ∷ pieces) same = absurd cc
above_size (part ∷ above) [] same = absurd cc
above_size (part ∷ above) (piece ∷ pieces) same =
    let here : part.size ≡ row_size piece = cc in
    let rest : sizes_of above ≡ map row_size pieces = cc in
    omega (arith, above_size above pieces rest)

abbrev pub rows_of : List (List Part) → List Part
rows_of [] = []
rows_of (piece ∷ pieces) = piece ++ rows_of pieces

-- what nodes over pieces hold
pub record HoldsPieces (geo : Geometry) (u : Units) (l : ℕ) (above : List Part) (pieces : List (List Part)) : Type 0 where
  pub trees : AreTrees geo u (suc l) above
  pub bytes : row_bytes u (suc l) above ≡ row_bytes u l (rows_of pieces)
  pub shape : row_shape u (suc l) above ≡ map (row_shape u l) pieces
  pub own : AllByRecursion (λ p. Has (pages_of above) p ⊎ Has (row_units u l (rows_of pieces)) p) (row_units u (suc l) above)
  pub all : (p : ℕ) → Has (pages_of above) p ⊎ Has (row_units u l (rows_of pieces)) p → Has (row_units u (suc l) above) p

trees_left : (geo : Geometry) (u : Units) (l : ℕ) (xs ys : List Part) → AreTrees geo u l (xs ++ ys) → AreTrees geo u l xs × AreTrees geo u l ys
trees_left geo u l xs ys h = split_each _ xs ys h

pub units_app : (u : Units) (l : ℕ) (xs ys : List Part) → row_units u l (xs ++ ys) ≡ row_units u l xs ++ row_units u l ys
units_app u l xs ys = flat_map-append (λ (part : Part). units_on u l part.page.0) xs ys

pub bytes_app : (u : Units) (l : ℕ) (xs ys : List Part) → row_bytes u l (xs ++ ys) ≡ row_bytes u l xs ++ row_bytes u l ys
bytes_app u l xs ys = flat_map-append (λ (part : Part). bytes_on u l part.page.0 part.size) xs ys

pub has_split : (xs ys : List ℕ) (p : ℕ) → Has (xs ++ ys) p → Has xs p ⊎ Has ys p
has_split [] ys p h = inr h
has_split (x ∷ xs) ys p h = elim h [
  | inl e ↦ inl (inl e)
  | inr r ↦ elim (has_split xs ys p r) [
    | inl a ↦ inl (inr a)
    | inr b ↦ inr b
  ]
]

pub all_has : (xs : List ℕ) → AllByRecursion (λ p. Has xs p) xs
all_has [] = tt
all_has (x ∷ xs) = (inl refl, each_as (λ p. Has xs p) (λ p. Has (x ∷ xs) p) xs (λ p h. inr h) (all_has xs))

pub pieces_held : (geo : Geometry) (u : Units) (l : ℕ) (above : List Part) (pieces : List (List Part)) → IsGeometry geo → geo.fan ≤ 340 → suc l < 256 → AllByRecursion (IsFit geo) pieces → AllByRecursion (λ (part : Part). InPageArea geo part.page.0) above
    → sizes_of above ≡ map row_size pieces → IsOver u (suc l) above pieces → AreTrees geo u l (rows_of pieces) → HoldsPieces geo u l above pieces
pieces_held geo u l [] [] sizes small byte fit area same over trees = record { trees = tt; bytes = refl; shape = refl; own = tt; all = λ p h. elim h [ inl a ↦ a | inr b ↦ b ] }
pieces_held geo u l [] (piece ∷ pieces) sizes small byte fit area same over trees = absurd over
pieces_held geo u l (part ∷ above) [] sizes small byte fit area same over trees = absurd over
pieces_held geo u l (part ∷ above) (piece ∷ pieces) sizes small byte fit area same over trees =
    let here : part.size ≡ row_size piece = cc in
    let later : sizes_of above ≡ map row_size pieces = cc in
    let split = trees_left geo u l piece (rows_of pieces) trees in
    let one = node_over_piece geo u l part.page.0 piece sizes small byte area.0 over.0 fit.0 split.0 in
    let rest = pieces_held geo u l above pieces sizes small byte fit.1 area.1 later over.1 split.1 in
    let whole_units : row_units u l (piece ++ rows_of pieces) ≡ row_units u l piece ++ row_units u l (rows_of pieces) = units_app u l piece (rows_of pieces) in
    record {
      trees = ((one.tree.0, subst (HasSize geo u (suc l) part.page.0) (sym here) one.tree.1), rest.trees);
      bytes = ap (λ n. bytes_on u (suc l) part.page.0 n ++ row_bytes u (suc l) above) here ∙ ap (λ xs. xs ++ row_bytes u (suc l) above) one.bytes ∙ ap (λ xs. row_bytes u l piece ++ xs) rest.bytes ∙ sym (bytes_app u l piece (rows_of pieces));
      shape = ap (λ n. shape_on u (suc l) part.page.0 n ∷ row_shape u (suc l) above) here ∙ ap (λ x. x ∷ row_shape u (suc l) above) one.shape ∙ ap (λ xs. row_shape u l piece ∷ xs) rest.shape;
      own = subst (AllByRecursion (λ p. Has (pages_of (part ∷ above)) p ⊎ Has (row_units u l (piece ++ rows_of pieces)) p)) (ap (λ us. us ++ row_units u (suc l) above) (sym one.units))
          (each-append _ (part.page.0 ∷ row_units u l piece) (row_units u (suc l) above)
          (inl (inl refl), each_as (λ p. Has (row_units u l piece) p) _ (row_units u l piece) (λ p h. inr (subst (λ us. Has us p) (sym whole_units) (has_left (row_units u l piece) (row_units u l (rows_of pieces)) p h))) (all_has (row_units u l piece)))
          (each_as _ _ (row_units u (suc l) above) (λ p h. elim h [
            | inl a ↦ inl (inr a)
            | inr b ↦ inr (subst (λ us. Has us p) (sym whole_units) (has_right (row_units u l piece) (row_units u l (rows_of pieces)) p b))
          ]) rest.own));
      all = λ p h. subst (λ us. Has (us ++ row_units u (suc l) above) p) (sym one.units) (elim h [
        | inl a ↦ elim a [
          | inl e ↦ inl e
          | inr r ↦ inr (has_right (row_units u l piece) (row_units u (suc l) above) p (rest.all p (inl r)))
        ]
        | inr b ↦ elim (has_split (row_units u l piece) (row_units u l (rows_of pieces)) p (subst (λ us. Has us p) whole_units b)) [
          | inl x ↦ inr (has_left (row_units u l piece) (row_units u (suc l) above) p x)
          | inr y ↦ inr (has_right (row_units u l piece) (row_units u (suc l) above) p (rest.all p (inr y)))
        ]
      ]);
    }

concat_cut : (lens : List ℕ) (row : List Part) → sum_of plain lens ≡ length row → rows_of (cut_by lens row) ≡ row
concat_cut [] [] sum = refl
concat_cut [] (part ∷ row) sum = absurd (omega arith)
concat_cut (n ∷ lens) row sum =
    ap (λ xs. take n row ++ xs) (concat_cut lens (drop n row) (omega (arith, length-drop n row))) ∙ take-append-drop n row

map_cut : {A B : Type 0} (f : A → B) (lens : List ℕ) (xs : List A) → map (map f) (cut_by lens xs) ≡ cut_by lens (map f xs)
map_cut f [] xs = refl
map_cut f (n ∷ lens) xs = ap (λ y. y ∷ map (map f) (cut_by lens (drop n xs))) (sym (take-map f n xs)) ∙ ap (λ ys. take n (map f xs) ∷ ys) (map_cut f lens (drop n xs) ∙ ap (cut_by lens) (sym (drop-map f n xs)))

-- the facts at the end
pub record OverAll {S : Type 0} (g : ground.Ghosts S) (old now : S) (level : ℕ) (lens : List ℕ) (row above : List Part) : Type 0 where
  pub sum : row_size above ≡ row_size row
  pub sizes : AreSome above
  pub count : length above ≡ length lens
  pub spent : Spent g old now 0 (length lens)
  pub built : g.tells old → (l : ℕ) → level ≡ suc l → Holds g old l row → Built g now l lens row above

pub over_all : {S : Type 0} (g : ground.Ghosts S) (old now : S) (level : ℕ) (row : List Part) (lens : List ℕ) (i : ℕ) (above : List Part) (at : ℕ)
    → level < 256 → AreSome row → row_size row ≤ object_most → IsCut (most_pairs (g.geometry old).fan) (length row) lens → i ≡ length lens
    → OverSoFar g old now level row lens i above at → OverAll g old now level lens row above
over_all g old now level row lens i above at byte somes limit cut end h =
    let fan : ℕ = (g.geometry old).fan in
    let row_is : IsRow (Between 1 (most_pairs (g.geometry old).fan)) plain (length row) 0 lens = record { each = cut.each; sum = cut.sum; many = omega arith } in
    let cuts : length (cut_by lens row) ≡ length lens = cut_count lens row in
    let pieces = row_of_pieces (λ (part : Part). 1 ≤ part.size) (λ (part : Part). part.size) 1 (most_pairs (g.geometry old).fan) lens 0 row row_is somes in
    let fit = pieces_fit (g.geometry old) row (cut_by lens row) pieces.each (omega (arith, pieces.sum)) in
    let whole : take i (cut_by lens row) ≡ cut_by lens row = take_all i (cut_by lens row) (omega arith) in
    let same : sizes_of above ≡ map row_size (cut_by lens row) = h.sizes ∙ ap (map row_size) whole in
    record {
      sum = above_size above (cut_by lens row) same ∙ pieces.sum;
      sizes = above_some (g.geometry old) above (cut_by lens row) fit same;
      count = omega (arith, ap length same, length-map above (λ (part : Part). part.size), length-map (cut_by lens row) row_size, cuts);
      spent = subst (Spent g old now 0) end h.spent;
      built = λ told l level_is holds.
          let kept = row_extends g old now l row h.extends holds in
          let joined : rows_of (cut_by lens row) ≡ row = concat_cut lens row cut.sum in
          let over : IsOver (g.unit now) (suc l) above (cut_by lens row) = subst (λ k. IsOver (g.unit now) k above (cut_by lens row)) level_is (subst (IsOver (g.unit now) level above) whole (h.over told)) in
          let all = pieces_held (g.geometry old) (g.unit now) l above (cut_by lens row) (geometry_is (g.geometry old)) (narrow (g.geometry old)) (omega arith) fit h.area same over (subst (AreTrees (g.geometry old) (g.unit now) l) (sym joined) kept.trees) in
          let geo : g.geometry now ≡ g.geometry old = g.leads_geometry old now h.extends.leads in
          record {
            trees = subst (λ k. AreTrees k (g.unit now) (suc l) above) (sym geo) all.trees;
            bytes = all.bytes ∙ ap (row_bytes (g.unit now) l) joined;
            shape = all.shape ∙ map_cut (λ (part : Part). shape_on (g.unit now) l part.page.0 part.size) lens row;
            own = subst (λ r. AllByRecursion (λ p. Has (pages_of above) p ⊎ Has (row_units (g.unit now) l r) p) (row_units (g.unit now) (suc l) above)) joined all.own;
            all = subst (λ r. (p : ℕ) → Has (pages_of above) p ⊎ Has (row_units (g.unit now) l r) p → Has (row_units (g.unit now) (suc l) above) p) joined all.all;
          };
    }

-- ---- the lengths of an even spread

pub even_cut : (fan count : ℕ) → 1 ≤ fan → 1 ≤ count → IsCut (most_pairs fan) count (even_lens fan count)
even_cut fan count wide some =
    let row_is = lens_row (most_pairs fan) count (omega arith) some in
    record { each = row_is.each; sum = row_is.sum }

pub length-even_lens : (fan count : ℕ) → 1 ≤ fan → 1 ≤ count → length (even_lens fan count) ≡ nodes_for fan count
length-even_lens fan count wide some =
    length-evenly (nodes_for fan count) count (some_part (most_pairs fan) count (nodes_for fan count) (least_parts_is (most_pairs fan) count (omega arith)) (omega arith))

-- the lengths, one after the other
pub one_more : (lens : List ℕ) (i n : ℕ) (xs after : List ℕ) → i < length lens → xs ≡ take i lens → n ≡ get_or lens i 0 → after ≡ xs ++ (n ∷ []) → after ≡ take (i + 1) lens
one_more lens i n xs after lt is n_is after_is =
    after_is ∙ ap (λ ys. ys ++ (n ∷ [])) is ∙ ap (λ k. take i lens ++ (k ∷ [])) n_is ∙ sym (take_more lens i 0 lt)

pub at_parts : (fan count parts : ℕ) → parts ≡ nodes_for fan count → 1 ≤ count → length (evenly parts count) ≡ parts
at_parts fan count parts is some =
    length-evenly parts count (omega (arith, some_part (most_pairs fan) count (nodes_for fan count) (least_parts_is (most_pairs fan) count (omega arith)) (omega arith)))

pub all_of : (fan count parts i : ℕ) (xs : List ℕ) → parts ≡ nodes_for fan count → 1 ≤ count → parts ≤ i → xs ≡ take i (evenly parts count) → xs ≡ even_lens fan count
all_of fan count parts i xs is some end xs_is =
    xs_is ∙ take_all i (evenly parts count) (omega (arith, at_parts fan count parts is some)) ∙ ap (λ m. evenly m count) is

pub length_small : (row : List Part) → AreSome row → length row ≤ row_size row
length_small [] some = omega arith
length_small (part ∷ row) some = omega (arith, some.0, length_small row some.1)

-- the piece at an index
pub record LensAt (most count i at len : ℕ) : Type 0 where
  pub ends : at + len ≤ count
  pub few : len ≤ most

pub lens_at : (most count : ℕ) (lens : List ℕ) (i at : ℕ) → IsCut most count lens → i < length lens → at ≡ sum_of plain (take i lens) → LensAt most count i at (get_or lens i 0)
lens_at most count lens i at cut lt at_is = record {
  ends = piece_ends lens i at count lt at_is cut.sum;
  few = (each_at (Between 1 most) lens i 0 lt cut.each).1;
}
