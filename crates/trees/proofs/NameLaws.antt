-- What a page names, by index; a node names the pages of its pairs.
use Rattle.std.proofs.Common.{◌≡◌, ℕ, zero, suc, ◌+◌, ◌-◌, ◌*◌, ◌/◌, ◌<◌, ◌≤◌, List, length, map, drop, Some, sym, ap, subst, ◌∙◌, arith}
use Rattle.std.specs.Prelude.{slice_get}
use Rattle.std.proofs.lemmas.List.{drop-drop, length-map}
use Rattle.std.proofs.lemmas.Nat.{le-div}
use Rattle.std.proofs.Math.Nat.{div-mul-le_self}
use Rattle.ex_base.specs.Fields.{number_at}
use Rattle.ex_base.proofs.FieldLaws.{number_at-drop}
use Rattle.trees.specs.declared.Pair.{Pair}
use Rattle.trees.specs.declared.width.Width.{Width}
use Rattle.trees.specs.Node.{count_len, pair_len, width_on, PairsOf, read_pairs, pairs_on}
use Rattle.trees.specs.Names.{names_on, page_of_pair, pairs_read}
use Rattle.trees.proofs.NodeLaws.{spelled_reads}
use Rattle.trees.proofs.PairLaws.{length-read_pairs, pair_inside, some_pair}

pub length-names : (page : List ℕ) → length (names_on page) ≡ pairs_read page
unfolding names_on
length-names page = length-map (read_pairs (width_on page) (pairs_read page) (drop 8 page)) page_of_pair ∙ length-read_pairs (width_on page) (pairs_read page) (drop 8 page)

-- an index of a name lies inside the page
pub name_fits : (page : List ℕ) (index k : ℕ) → k ≡ pair_len (width_on page) → index < length (names_on page) → 8 + k * index + k ≤ length page
name_fits page index k is lt =
    let room : (length page - 8) / pair_len (width_on page) * pair_len (width_on page) ≤ length page - 8 = div-mul-le_self (length page - 8) (pair_len (width_on page)) in
    let few : index < (length page - 8) / pair_len (width_on page) = omega (arith, length-names page, lt) in
    let inside : pair_len (width_on page) * index + pair_len (width_on page) ≤ pair_len (width_on page) * ((length page - 8) / pair_len (width_on page)) = pair_inside (width_on page) _ index few in
    subst (λ (n : ℕ). 8 + n * index + n ≤ length page) (sym is) (omega (arith, inside, room, some_pair (width_on page)))

name_here : (w : Width) (n index : ℕ) (bytes : List ℕ) → index < n → slice_get (map page_of_pair (read_pairs w n bytes)) index ≡ Some (number_at 4 (drop (pair_len w * index) bytes) (count_len w))
name_here w zero index bytes lt = absurd (omega arith)
name_here w (suc n) zero bytes lt =
    let none : pair_len w * 0 ≡ 0 = omega arith in
    ap (λ (k : ℕ). Some (number_at 4 (drop k bytes) (count_len w))) (sym none)
name_here w (suc n) (suc index) bytes lt =
    let at : pair_len w + pair_len w * index ≡ pair_len w * suc index = omega arith in
    name_here w n index (drop (pair_len w) bytes) (omega arith) ∙ ap (λ (t : List ℕ). Some (number_at 4 t (count_len w))) (drop-drop (pair_len w * index) (pair_len w) bytes ∙ ap (λ (k : ℕ). drop k bytes) at)

pub name_given : (page : List ℕ) (w : Width) (index child : ℕ) → w ≡ width_on page → index < length (names_on page) → child ≡ number_at 4 page (8 + pair_len w * index + count_len w) → slice_get (names_on page) index ≡ Some child
unfolding names_on
name_given page w index child wide lt is =
    let inside : index < pairs_read page = omega (arith, length-names page) in
    let field : number_at 4 (drop (pair_len w * index) (drop 8 page)) (count_len w) ≡ number_at 4 page (8 + pair_len w * index + count_len w) =
    ap (λ (t : List ℕ). number_at 4 t (count_len w)) (drop-drop (pair_len w * index) 8 page) ∙ number_at-drop 4 (drop (8 + pair_len w * index) page) (count_len w)
    ∙ ap (λ (t : List ℕ). number_at 4 t 0) (drop-drop (count_len w) (8 + pair_len w * index) page) ∙ sym (number_at-drop 4 page (8 + pair_len w * index + count_len w)) in
    ap (λ (v : Width). slice_get (map page_of_pair (read_pairs v (pairs_read page) (drop 8 page))) index) (sym wide)
    ∙ name_here w (pairs_read page) index (drop 8 page) inside ∙ ap (λ (c : ℕ). Some c) (field ∙ sym is)

-- a node names the pages of its pairs
pub names_of_node : (fan : ℕ) (page : List ℕ) (level : ℕ) (pairs : List Pair) → fan ≤ 340 → PairsOf fan page level pairs → names_on page ≡ map page_of_pair pairs
unfolding names_on pairs_on
names_of_node fan page level pairs small is =
    let read_as = spelled_reads fan page level pairs small is in
    let room : 8 + pair_len (width_on page) * number_at 2 page 2 ≤ length page = read_as.reads.room in
    let enough : number_at 2 page 2 ≤ (length page - 8) / pair_len (width_on page) = fits (pair_len (width_on page)) (number_at 2 page 2) (length page) (some_pair (width_on page)) room in
    let read : pairs_read page ≡ number_at 2 page 2 = omega (arith, enough) in
    ap (λ (n : ℕ). map page_of_pair (read_pairs (width_on page) n (drop 8 page))) read ∙ ap (map page_of_pair) read_as.same_pairs
  where
    fits : (k n len : ℕ) → 8 ≤ k → 8 + k * n ≤ len → n ≤ (len - 8) / k
    fits k n len some le = le-div n (len - 8) k (omega (arith, some)) (omega (arith, le))
