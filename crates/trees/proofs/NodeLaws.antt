-- A page reads as a node exactly where it is the page of a level and a list of pairs.
use Rattle.std.proofs.Common.{◌≡◌, ◌↔◌, ℕ, zero, suc, ◌+◌, ◌-◌, ◌*◌, ◌^◌, ◌<◌, ◌≤◌, List, [], ◌∷◌, ◌++◌, length, take, drop, Option, Some, None, Result, Ok, Err, refl, sym, ap, subst, ◌∙◌, arith, append_assoc}
use Rattle.std.specs.Prelude.{slice_index, slice_get, IfOk, IfSome, IfNone}
use Rattle.std.specs.List.{flat_map, AllByRecursion}
use Rattle.std.proofs.lemmas.List.{drop-drop, drop_at, length-append, length-drop, length-take, length-replicate, take-append-drop, take_all}
use Rattle.ex_base.specs.Bytes.{IsBytes}
use Rattle.ex_base.specs.Fields.{AreZero, two_bytes, zeros, number_at}
use Rattle.ex_base.proofs.FieldLaws.{IsBytes-drop, two_is, number_at-drop}
use Rattle.ex_base.proofs.Places.{zero_run, zeros_are}
use Rattle.ex_base.proofs.Lists.{front_two}
use Rattle.trees.specs.declared.Pair.{Pair}
use Rattle.trees.specs.declared.width.Width.{Width}
use Rattle.trees.specs.declared.width.Width.TheVariants.{Narrow, Wide}
use Rattle.trees.specs.Node.{kind_of, count_len, pair_len, width_on, pair_bytes, pair_at, read_pairs, RiseFrom, HasPairFields, IsNode, PairsOf, Node, node_on, node_of, level_on, pairs_on}
use Rattle.trees.specs.Reads.{FrameReads, NodeReads, IsViewed}
use Rattle.trees.proofs.PairLaws.{pairs_again, pairs_back, fields_read, length-pairs, length-read_pairs}

-- ---- the fields of a node

-- what stands behind the head
abbrev tail_of : Width → ℕ → List Pair → List ℕ
tail_of w size pairs = flat_map (pair_bytes w) pairs ++ zeros (size - (8 + pair_len w * length pairs))

abbrev spread_page : Width → ℕ → ℕ → List Pair → List ℕ
spread_page w size level pairs = kind_of w ∷ level ∷ (two_bytes (length pairs) ++ (zeros 4 ++ tail_of w size pairs))

node_fields : (w : Width) (size level : ℕ) (pairs : List Pair) → node_of w size level pairs ≡ spread_page w size level pairs
unfolding node_of
node_fields w size level pairs =
    let head : List ℕ = (kind_of w ∷ level ∷ []) ++ two_bytes (length pairs) ++ zeros 4 ++ flat_map (pair_bytes w) pairs in
    let len : length ((kind_of w ∷ level ∷ []) ++ two_bytes (length pairs) ++ zeros 4 ++ flat_map (pair_bytes w) pairs) ≡ 8 + pair_len w * length pairs =
    omega (arith, length-append ((kind_of w ∷ level ∷ []) ++ two_bytes (length pairs) ++ zeros 4) (flat_map (pair_bytes w) pairs), length-append ((kind_of w ∷ level ∷ []) ++ two_bytes (length pairs)) (zeros 4), length-append (kind_of w ∷ level ∷ []) (two_bytes (length pairs)), two_is.len (length pairs), length-pairs w pairs) in
    ap (λ (k : ℕ). ((kind_of w ∷ level ∷ []) ++ two_bytes (length pairs) ++ zeros 4 ++ flat_map (pair_bytes w) pairs) ++ zeros (size - k)) len ∙ (simp append_assoc)

length-spread : (w : Width) (size level : ℕ) (pairs : List Pair) → length (spread_page w size level pairs) ≡ 8 + pair_len w * length pairs + (size - (8 + pair_len w * length pairs))
length-spread w size level pairs = omega (arith, length-append (two_bytes (length pairs)) (zeros 4 ++ tail_of w size pairs), length-append (zeros 4) (tail_of w size pairs), length-append (flat_map (pair_bytes w) pairs) (zeros (size - (8 + pair_len w * length pairs))), two_is.len (length pairs), length-pairs w pairs, length-replicate {A = ℕ} (size - (8 + pair_len w * length pairs)) 0)

behind_head : (w : Width) (size level : ℕ) (pairs : List Pair) → drop 8 (spread_page w size level pairs) ≡ tail_of w size pairs
behind_head w size level pairs =
    let parts : two_bytes (length pairs) ++ (zeros 4 ++ tail_of w size pairs) ≡ (two_bytes (length pairs) ++ zeros 4) ++ tail_of w size pairs = sym (append_assoc (two_bytes (length pairs)) (zeros 4) (tail_of w size pairs)) in
    ap (λ (t : List ℕ). drop 6 t) parts ∙ drop_at (two_bytes (length pairs) ++ zeros 4) (tail_of w size pairs) 6 (omega (arith, length-append (two_bytes (length pairs)) (zeros 4), two_is.len (length pairs)))

gap_of : (w : Width) (size level : ℕ) (pairs : List Pair) → take 4 (drop 4 (spread_page w size level pairs)) ≡ zeros 4
gap_of w size level pairs =
    ap (λ (t : List ℕ). take 4 t) (drop_at (two_bytes (length pairs)) (zeros 4 ++ tail_of w size pairs) 2 (two_is.len (length pairs)))

count_read : (w : Width) (size level : ℕ) (pairs : List Pair) → length pairs < 2 ^ 16 → number_at 2 (spread_page w size level pairs) 2 ≡ length pairs
count_read w size level pairs lt = number_at-drop 2 (spread_page w size level pairs) 2 ∙ two_is.again (length pairs) _ lt

-- ---- a page of pairs reads as a node, with these pairs

pub record ReadsAs (fan : ℕ) (page : List ℕ) (level : ℕ) (pairs : List Pair) : Type 0 where
  pub reads : NodeReads fan page
  pub same_level : level_on page ≡ level
  pub same_pairs : pairs_on page ≡ pairs

-- the first byte says the width
width_spread : (w : Width) (size level : ℕ) (pairs : List Pair) → width_on (spread_page w size level pairs) ≡ w
width_spread Narrow size level pairs = refl
width_spread Wide size level pairs = refl

spread_reads : (w : Width) (fan size level : ℕ) (pairs : List Pair) → fan ≤ 340 → IsNode fan level pairs → AllByRecursion (HasPairFields w) pairs → size ≡ length (spread_page w size level pairs) → ReadsAs fan (spread_page w size level pairs) level pairs
unfolding level_on pairs_on
spread_reads w fan size level pairs small fits fields len =
    let wide : width_on (spread_page w size level pairs) ≡ w = width_spread w size level pairs in
    let lt : length pairs < 2 ^ 16 = omega (arith, fits.few) in
    let n : number_at 2 (spread_page w size level pairs) 2 ≡ length pairs = count_read w size level pairs lt in
    let all : size ≡ 8 + pair_len w * length pairs + (size - (8 + pair_len w * length pairs)) = len ∙ length-spread w size level pairs in
    let tail : drop 8 (spread_page w size level pairs) ≡ tail_of w size pairs = behind_head w size level pairs in
    let pairs_are : read_pairs (width_on (spread_page w size level pairs)) (number_at 2 (spread_page w size level pairs) 2) (drop 8 (spread_page w size level pairs)) ≡ pairs =
    ap (λ (v : Width). read_pairs v (number_at 2 (spread_page w size level pairs) 2) (drop 8 (spread_page w size level pairs))) wide
    ∙ ap (λ (k : ℕ). read_pairs w k (drop 8 (spread_page w size level pairs))) n ∙ ap (read_pairs w (length pairs)) tail ∙ pairs_again w pairs _ fields in
    let behind : drop (8 + pair_len w * length pairs) (spread_page w size level pairs) ≡ zeros (size - (8 + pair_len w * length pairs)) =
    sym (drop-drop (pair_len w * length pairs) 8 (spread_page w size level pairs)) ∙ ap (λ (t : List ℕ). drop (pair_len w * length pairs) t) tail ∙ drop_at (flat_map (pair_bytes w) pairs) _ (pair_len w * length pairs) (length-pairs w pairs) in
    let place : 8 + pair_len (width_on (spread_page w size level pairs)) * number_at 2 (spread_page w size level pairs) 2 ≡ 8 + pair_len w * length pairs =
    ap (λ (v : Width). 8 + pair_len v * number_at 2 (spread_page w size level pairs) 2) wide ∙ ap (λ (k : ℕ). 8 + pair_len w * k) n in
    record {
      reads = record {
        long = omega (arith, all, len);
        kind = ap kind_of (sym wide);
        inner = fits.inner;
        gap = subst AreZero (sym (gap_of w size level pairs)) (zeros_are 4);
        some = omega (arith, n, fits.some);
        few = omega (arith, n, fits.few);
        room = subst (λ (k : ℕ). k ≤ length (spread_page w size level pairs)) (sym place) (omega (arith, len, all));
        rising = subst (RiseFrom 0) (sym pairs_are) fits.rising;
        rest = subst AreZero (sym (ap (λ (k : ℕ). drop k (spread_page w size level pairs)) place ∙ behind)) (zeros_are (size - (8 + pair_len w * length pairs)));
      };
      same_level = refl;
      same_pairs = pairs_are;
    }

pub spelled_reads : (fan : ℕ) (page : List ℕ) (level : ℕ) (pairs : List Pair) → fan ≤ 340 → PairsOf fan page level pairs → ReadsAs fan page level pairs
spelled_reads fan page level pairs small h =
    let is : page ≡ spread_page h.width (length page) level pairs = h.spelled ∙ node_fields h.width (length page) level pairs in
    let len : length page ≡ length (spread_page h.width (length page) level pairs) = ap length is in
    subst (λ (p : List ℕ). ReadsAs fan p level pairs) (sym is) (spread_reads h.width fan (length page) level pairs small h.fits h.fields len)

-- ---- what reads as a node is the page of what is read

-- a page in its parts: two bytes, two more, four more, so many bytes of pairs, the rest
parts_of : (n : ℕ) (page : List ℕ) → page ≡ take 2 page ++ (take 2 (drop 2 page) ++ (take 4 (drop 4 page) ++ (take n (drop 8 page) ++ drop (8 + n) page)))
parts_of n page =
    let last : take n (drop 8 page) ++ drop (8 + n) page ≡ drop 8 page = ap (λ (t : List ℕ). take n (drop 8 page) ++ t) (sym (drop-drop n 8 page)) ∙ take-append-drop n (drop 8 page) in
    let third : take 4 (drop 4 page) ++ drop 8 page ≡ drop 4 page = ap (λ (t : List ℕ). take 4 (drop 4 page) ++ t) (sym (drop-drop 4 4 page)) ∙ take-append-drop 4 (drop 4 page) in
    let second : take 2 (drop 2 page) ++ drop 4 page ≡ drop 2 page = ap (λ (t : List ℕ). take 2 (drop 2 page) ++ t) (sym (drop-drop 2 2 page)) ∙ take-append-drop 2 (drop 2 page) in
    sym (ap (λ (t : List ℕ). take 2 page ++ (take 2 (drop 2 page) ++ (take 4 (drop 4 page) ++ t))) last ∙ ap (λ (t : List ℕ). take 2 page ++ (take 2 (drop 2 page) ++ t)) third ∙ ap (λ (t : List ℕ). take 2 page ++ t) second ∙ take-append-drop 2 page)

spelled_at : (w : Width) (fan : ℕ) (page : List ℕ) → w ≡ width_on page → IsBytes page → NodeReads fan page → page ≡ node_of w (length page) (slice_index page 1) (read_pairs w (number_at 2 page 2) (drop 8 page))
spelled_at w fan page is fits h =
    let place : 8 + pair_len (width_on page) * number_at 2 page 2 ≡ 8 + pair_len w * number_at 2 page 2 = ap (λ (v : Width). 8 + pair_len v * number_at 2 page 2) (sym is) in
    let room : 8 + pair_len w * number_at 2 page 2 ≤ length page = subst (λ (k : ℕ). k ≤ length page) place h.room in
    let count : length (read_pairs w (number_at 2 page 2) (drop 8 page)) ≡ number_at 2 page 2 = length-read_pairs w (number_at 2 page 2) (drop 8 page) in
    let kind : slice_index page 0 ≡ kind_of w = h.kind ∙ ap kind_of (sym is) in
    let head : take 2 page ≡ kind_of w ∷ slice_index page 1 ∷ [] = front_two page (omega (arith, h.long)) ∙ ap (λ (b : ℕ). b ∷ slice_index page 1 ∷ []) kind in
    let number : take 2 (drop 2 page) ≡ two_bytes (length (read_pairs w (number_at 2 page 2) (drop 8 page))) =
    sym (two_is.back (drop 2 page) (omega (arith, length-drop 2 page, h.long)) (IsBytes-drop 2 page fits)) ∙ ap two_bytes (sym (number_at-drop 2 page 2) ∙ sym count) in
    let gap_len : length (take 4 (drop 4 page)) ≡ 4 = omega (arith, length-take 4 (drop 4 page), length-drop 4 page, h.long) in
    let gap : take 4 (drop 4 page) ≡ zeros 4 = zero_run (take 4 (drop 4 page)) h.gap ∙ ap zeros gap_len in
    let body : take (pair_len w * number_at 2 page 2) (drop 8 page) ≡ flat_map (pair_bytes w) (read_pairs w (number_at 2 page 2) (drop 8 page)) = sym (pairs_back w (number_at 2 page 2) (drop 8 page) (omega (arith, length-drop 8 page, room)) (IsBytes-drop 8 page fits)) in
    let sizes : pair_len w * number_at 2 page 2 ≡ pair_len w * length (read_pairs w (number_at 2 page 2) (drop 8 page)) = ap (λ (k : ℕ). pair_len w * k) (sym count) in
    let rest_len : length (drop (8 + pair_len w * number_at 2 page 2) page) ≡ length page - (8 + pair_len w * length (read_pairs w (number_at 2 page 2) (drop 8 page))) = length-drop (8 + pair_len w * number_at 2 page 2) page ∙ ap (λ (k : ℕ). length page - (8 + k)) sizes in
    let zero : AreZero (drop (8 + pair_len w * number_at 2 page 2) page) = subst (λ (k : ℕ). AreZero (drop k page)) place h.rest in
    let rest : drop (8 + pair_len w * number_at 2 page 2) page ≡ zeros (length page - (8 + pair_len w * length (read_pairs w (number_at 2 page 2) (drop 8 page)))) = zero_run _ zero ∙ ap zeros rest_len in
    parts_of (pair_len w * number_at 2 page 2) page
    ∙ ap (λ (t : List ℕ). t ++ (take 2 (drop 2 page) ++ (take 4 (drop 4 page) ++ (take (pair_len w * number_at 2 page 2) (drop 8 page) ++ drop (8 + pair_len w * number_at 2 page 2) page)))) head
    ∙ ap (λ (t : List ℕ). kind_of w ∷ slice_index page 1 ∷ (t ++ (take 4 (drop 4 page) ++ (take (pair_len w * number_at 2 page 2) (drop 8 page) ++ drop (8 + pair_len w * number_at 2 page 2) page)))) number
    ∙ ap (λ (t : List ℕ). kind_of w ∷ slice_index page 1 ∷ (two_bytes (length (read_pairs w (number_at 2 page 2) (drop 8 page))) ++ (t ++ (take (pair_len w * number_at 2 page 2) (drop 8 page) ++ drop (8 + pair_len w * number_at 2 page 2) page)))) gap
    ∙ ap (λ (t : List ℕ). kind_of w ∷ slice_index page 1 ∷ (two_bytes (length (read_pairs w (number_at 2 page 2) (drop 8 page))) ++ (zeros 4 ++ (t ++ drop (8 + pair_len w * number_at 2 page 2) page)))) body
    ∙ ap (λ (t : List ℕ). kind_of w ∷ slice_index page 1 ∷ (two_bytes (length (read_pairs w (number_at 2 page 2) (drop 8 page))) ++ (zeros 4 ++ (flat_map (pair_bytes w) (read_pairs w (number_at 2 page 2) (drop 8 page)) ++ t)))) rest
    ∙ sym (node_fields w (length page) (slice_index page 1) (read_pairs w (number_at 2 page 2) (drop 8 page)))

pub reads_spelled : (fan : ℕ) (page : List ℕ) → IsBytes page → NodeReads fan page → PairsOf fan page (level_on page) (pairs_on page)
unfolding level_on pairs_on
reads_spelled fan page fits h =
    let count : length (read_pairs (width_on page) (number_at 2 page 2) (drop 8 page)) ≡ number_at 2 page 2 = length-read_pairs (width_on page) (number_at 2 page 2) (drop 8 page) in
    record {
      fits = record {
        inner = h.inner;
        byte = fits 1;
        some = omega (arith, count, h.some);
        few = omega (arith, count, h.few);
        rising = h.rising;
      };
      width = width_on page;
      fields = fields_read (width_on page) _ _ (IsBytes-drop 8 page fits);
      spelled = spelled_at (width_on page) fan page refl fits h;
    }

-- ---- what stands behind the pairs decides

pub frame_decides : (fan : ℕ) (page : List ℕ) (w : Width) (n k : ℕ) (Yes : Type 0) → 8 ≤ length page → w ≡ width_on page → n ≡ number_at 2 page 2 → slice_index page 0 ≡ kind_of w → (slice_index page 1 ≡ 0 → ⊥) → AreZero (take 4 (drop 4 page))
    → (n ≡ 0 → ⊥) → n ≤ 2 * fan + 1 → k ≡ pair_len w → 8 + k * n ≤ length page → (Yes ↔ AreZero (take (length page - (8 + k * n)) (drop (8 + k * n) page))) → (Yes ↔ FrameReads fan page)
frame_decides fan page w n k Yes long is count kind inner gap some few size room both =
    let whole : take (length page - (8 + k * n)) (drop (8 + k * n) page) ≡ drop (8 + k * n) page = take_all (length page - (8 + k * n)) (drop (8 + k * n) page) (omega (arith, length-drop (8 + k * n) page)) in
    let place : 8 + k * n ≡ 8 + pair_len (width_on page) * number_at 2 page 2 = ap (λ (j : ℕ). 8 + j * n) (size ∙ ap pair_len is) ∙ ap (λ (m : ℕ). 8 + pair_len (width_on page) * m) count in (
      λ yes. record {
        long = long;
        kind = kind ∙ ap kind_of is;
        inner = omega (arith, inner);
        gap = gap;
        some = omega (arith, some, count);
        few = omega (arith, few, count);
        room = subst (λ (m : ℕ). m ≤ length page) place room;
        rest = subst (λ (m : ℕ). AreZero (drop m page)) place (subst AreZero whole (both.0 yes));
      },
      λ frame. both.1 (subst AreZero (sym whole) (subst (λ (m : ℕ). AreZero (drop m page)) (sym place) frame.rest)),
    )

-- ---- the counts decide

same_pairs : (page : List ℕ) (w : Width) (n : ℕ) → w ≡ width_on page → n ≡ number_at 2 page 2 → read_pairs w n (take (length page - 8) (drop 8 page)) ≡ read_pairs (width_on page) (number_at 2 page 2) (drop 8 page)
same_pairs page w n is count =
    let whole : take (length page - 8) (drop 8 page) ≡ drop 8 page = take_all (length page - 8) (drop 8 page) (omega (arith, length-drop 8 page)) in
    ap (read_pairs w n) whole ∙ ap (λ (v : Width). read_pairs v n (drop 8 page)) is ∙ ap (λ (k : ℕ). read_pairs (width_on page) k (drop 8 page)) count

pub pairs_read : (page : List ℕ) (w : Width) (n : ℕ) → w ≡ width_on page → n ≡ number_at 2 page 2 → read_pairs w n (take (length page - 8) (drop 8 page)) ≡ pairs_on page
unfolding pairs_on
pairs_read page w n is count = same_pairs page w n is count

pub rise_decides : (fan : ℕ) (page : List ℕ) (w : Width) (n : ℕ) (Yes : Type 0) → FrameReads fan page → w ≡ width_on page → n ≡ number_at 2 page 2 → (Yes ↔ RiseFrom 0 (read_pairs w n (take (length page - 8) (drop 8 page)))) → (Yes ↔ NodeReads fan page)
rise_decides fan page w n Yes h is count both =
    let same = same_pairs page w n is count in (
      λ yes. record {
        long = h.long;
        kind = h.kind;
        inner = h.inner;
        gap = h.gap;
        some = h.some;
        few = h.few;
        room = h.room;
        rising = subst (RiseFrom 0) same (both.0 yes);
        rest = h.rest;
      },
      λ node. both.1 (subst (RiseFrom 0) (sym same) node.rising),
    )

-- what is said of a row that is found, or of none
pub found_on : {X E : Type 0} (r : Result (Option X) E) (P Q : Type 0) → (P → Q) → IfOk r (λ found. IfSome found (λ _. P)) → IfOk r (λ found. IfSome found (λ _. Q))
found_on (Ok (Some x)) P Q f h = f h
found_on (Ok None) P Q f h = tt
found_on (Err e) P Q f h = tt

pub none_on : {X E : Type 0} (r : Result (Option X) E) (P Q : Type 0) → (Q → P) → IfOk r (λ found. IfNone found (P → ⊥)) → IfOk r (λ found. IfNone found (Q → ⊥))
none_on (Ok (Some x)) P Q f h = tt
none_on (Ok None) P Q f h = λ q. h (f q)
none_on (Err e) P Q f h = tt

-- ---- what a view knows

pub length-pairs_on : (page : List ℕ) → length (pairs_on page) ≡ number_at 2 page 2
unfolding pairs_on
length-pairs_on page = length-read_pairs (width_on page) (number_at 2 page 2) (drop 8 page)

pub viewed : (fan : ℕ) (page : List ℕ) → NodeReads fan page → IsViewed page
unfolding pairs_on
viewed fan page h =
    let count : length (pairs_on page) ≡ number_at 2 page 2 = length-pairs_on page in
    (omega (arith, count, h.some), subst (λ (k : ℕ). 8 + pair_len (width_on page) * k ≤ length page) (sym count) h.room, h.rising)

pub level_is : (page : List ℕ) → slice_index page 1 ≡ level_on page
unfolding level_on
level_is page = refl

pair_here : (w : Width) (n index : ℕ) (bytes : List ℕ) → index < n → slice_get (read_pairs w n bytes) index ≡ Some (pair_at w (drop (pair_len w * index) bytes))
pair_here w zero index bytes lt = absurd (omega arith)
pair_here w (suc n) zero bytes lt =
    let none : pair_len w * 0 ≡ 0 = omega arith in
    ap (λ (k : ℕ). Some (pair_at w (drop k bytes))) (sym none)
pair_here w (suc n) (suc index) bytes lt =
    let at : pair_len w + pair_len w * index ≡ pair_len w * suc index = omega arith in
    pair_here w n index (drop (pair_len w) bytes) (omega arith) ∙ ap (λ (t : List ℕ). Some (pair_at w t)) (drop-drop (pair_len w * index) (pair_len w) bytes ∙ ap (λ (k : ℕ). drop k bytes) at)

abbrev made_pair : ℕ → ℕ → Pair
made_pair count page = record { count = count; page = record { 0 = page } }

pub pair_on : (page : List ℕ) (index : ℕ) → index < length (pairs_on page)
    → slice_get (pairs_on page) index ≡ Some (made_pair (number_at (count_len (width_on page)) page (8 + pair_len (width_on page) * index)) (number_at 4 page (8 + pair_len (width_on page) * index + count_len (width_on page))))
unfolding pairs_on
pair_on page index lt = at_width (width_on page) (omega (arith, length-read_pairs (width_on page) (number_at 2 page 2) (drop 8 page)))
  where
    at_width : (w : Width) → index < number_at 2 page 2
        → slice_get (read_pairs w (number_at 2 page 2) (drop 8 page)) index ≡ Some (made_pair (number_at (count_len w) page (8 + pair_len w * index)) (number_at 4 page (8 + pair_len w * index + count_len w)))
    at_width w n =
        let at : drop (pair_len w * index) (drop 8 page) ≡ drop (8 + pair_len w * index) page = drop-drop (pair_len w * index) 8 page in
        let count : number_at (count_len w) (drop (8 + pair_len w * index) page) 0 ≡ number_at (count_len w) page (8 + pair_len w * index) = sym (number_at-drop (count_len w) page (8 + pair_len w * index)) in
        let four : number_at 4 (drop (8 + pair_len w * index) page) (count_len w) ≡ number_at 4 page (8 + pair_len w * index + count_len w) =
        number_at-drop 4 (drop (8 + pair_len w * index) page) (count_len w) ∙ ap (λ (t : List ℕ). number_at 4 t 0) (drop-drop (count_len w) (8 + pair_len w * index) page) ∙ sym (number_at-drop 4 page (8 + pair_len w * index + count_len w)) in
        pair_here w (number_at 2 page 2) index (drop 8 page) n ∙ ap (λ (t : List ℕ). Some (pair_at w t)) at ∙ ap (λ (c : ℕ). Some (made_pair c (number_at 4 (drop (8 + pair_len w * index) page) (count_len w)))) count ∙ ap (λ (c : ℕ). Some (made_pair (number_at (count_len w) page (8 + pair_len w * index)) c)) four

pub pair_given : (page : List ℕ) (node : Node) (w : Width) (index count child : ℕ) → node_on page ≡ node → w ≡ width_on page → index < length node.pairs → count ≡ number_at (count_len w) page (8 + pair_len w * index) → child ≡ number_at 4 page (8 + pair_len w * index + count_len w) → slice_get node.pairs index ≡ Some (made_pair count child)
pair_given page node w index count child is wide lt a b =
    let a' : count ≡ number_at (count_len (width_on page)) page (8 + pair_len (width_on page) * index) = a ∙ ap (λ (v : Width). number_at (count_len v) page (8 + pair_len v * index)) wide in
    let b' : child ≡ number_at 4 page (8 + pair_len (width_on page) * index + count_len (width_on page)) = b ∙ ap (λ (v : Width). number_at 4 page (8 + pair_len v * index + count_len v)) wide in
    subst (λ (n : Node). index < length n.pairs → slice_get n.pairs index ≡ Some (made_pair count child)) is
    (λ here. pair_on page index here ∙ ap (λ (x : ℕ). Some (made_pair x (number_at 4 page (8 + pair_len (width_on page) * index + count_len (width_on page))))) (sym a') ∙ ap (λ (x : ℕ). Some (made_pair count x)) (sym b')) lt
