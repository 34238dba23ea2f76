-- The longest namings, as they are noted, against the lengths of leaves.
use Rattle.std.proofs.Common.{◌≡◌, ◌⊎◌, ◌↔◌, ℕ, zero, suc, ◌+◌, ◌-◌, ◌<◌, ◌≤◌, min, max, List, [], ◌∷◌, ◌++◌, length, map, replicate, drop, Some, None, refl, sym, ap, subst, ◌∙◌, arith, inl, inr, append_assoc}
use Rattle.std.specs.Prelude.{Contains, slice_get, slice_index}
use Rattle.std.specs.List.{AllByRecursion}
use Rattle.std.proofs.lemmas.Bool.{cases_eq, cases_lt}
use Rattle.std.proofs.lemmas.List.{drop_all, get_or-replicate, get_or-set_other, get_or-set_same, get_or_at, length-replicate, length-set, length_push}
use Rattle.ex_base.specs.declared.geometry.Geometry.{Geometry}
use Rattle.ex_base.specs.Sizes.{leaf_bytes}
use Rattle.ex_base.proofs.Members.{contains_cases, contains_later, contains_none}
use Rattle.trees.specs.declared.Pair.{Pair}
use Rattle.trees.specs.Node.{RiseFrom}
use Rattle.trees.specs.Trees.{for_each_child}
use Rattle.history_model.specs.Dumps.{AreAsNamed, IsAsNamed, namings}
use Rattle.history_model.specs.History.{History}
use Rattle.history_model.specs.Items.{IsChild, IsLeafItem}
use Rattle.history_counts.specs.CountLaws.{leaf_length}
use Rattle.history_counts.specs.Lengths.{Lengths, raised, raised_by}

-- ---- how many are noted

pub length-raised : (most : ℕ) (was : List ℕ) (number n : ℕ) → length (raised most was number n) ≡ length was
length-raised most was zero n = refl
length-raised most was (suc i) n = length-set was i (max (slice_index was i) (min n (suc most)))

pub length-raised_by : (most : ℕ) (was : List ℕ) (ns : List (ℕ × ℕ)) → length (raised_by most was ns) ≡ length was
length-raised_by most was [] = refl
length-raised_by most was (n ∷ ns) = length-raised_by most (raised most was n.0 n.1) ns ∙ length-raised most was n.0 n.1

pub raised_by-append : (most : ℕ) (was : List ℕ) (ns ms : List (ℕ × ℕ)) → raised_by most was (ns ++ ms) ≡ raised_by most (raised_by most was ns) ms
raised_by-append most was [] ms = refl
raised_by-append most was (n ∷ ns) ms = raised_by-append most (raised most was n.0 n.1) ns ms

-- ---- what is noted of one leaf

record IsNoted (most : ℕ) (was now : List ℕ) (ns : List (ℕ × ℕ)) (i : ℕ) : Type 0 where
  more : slice_index was i ≤ slice_index now i
  each : (n : ℕ) → Contains ns (suc i, n) → min n (suc most) ≤ slice_index now i
  one : (slice_index now i ≡ slice_index was i) ⊎ ((n : ℕ) × Contains ns (suc i, n) × (slice_index now i ≡ min n (suc most)))

raised_same : (most : ℕ) (was : List ℕ) (i n : ℕ) → i < length was → slice_index (raised most was (suc i) n) i ≡ max (slice_index was i) (min n (suc most))
raised_same most was i n lt = get_or-set_same was i (max (slice_index was i) (min n (suc most))) 0 lt

raised_other : (most : ℕ) (was : List ℕ) (number i n : ℕ) → (number ≡ suc i → ⊥) → slice_index (raised most was number n) i ≡ slice_index was i
raised_other most was zero i n differ = refl
raised_other most was (suc k) i n differ = get_or-set_other was k i (max (slice_index was k) (min n (suc most))) 0 (λ same. differ (ap suc (sym same)))

max_is : (a b : ℕ) → (max a b ≡ a) ⊎ (max a b ≡ b)
max_is a b = elim (cases_lt a b) [ inl lt ↦ inr (omega arith) | inr ge ↦ inl (omega arith) ]

naming_is : (naming : ℕ × ℕ) (a : ℕ) → naming.0 ≡ a → naming ≡ (a, naming.1)
naming_is naming a p = subst (λ (k : ℕ). naming ≡ (k, naming.1)) p refl

-- the first naming is of this leaf
mine : (most : ℕ) (was now : List ℕ) (first : ℕ × ℕ) (ns : List (ℕ × ℕ)) (i : ℕ) → first.0 ≡ suc i → slice_index (raised most was first.0 first.1) i ≡ max (slice_index was i) (min first.1 (suc most)) → IsNoted most (raised most was first.0 first.1) now ns i → IsNoted most was now (first ∷ ns) i
mine most was now first ns i same here rest = record {
  more = omega (arith, here, rest.more);
  each = λ n has. elim (contains_cases first (suc i, n) ns has) [
    | inl is ↦ (let second : first.1 ≡ n = ap (λ (p : ℕ × ℕ). p.1) is in omega (arith, here, rest.more, second))
    | inr later ↦ rest.each n later
  ];
  one = elim rest.one [
    | inl kept ↦ by_max kept (max_is (slice_index was i) (min first.1 (suc most)))
    | inr some ↦ inr (some.0, contains_later first (suc i, some.0) ns some.1, some.2)
  ];
}
  where
    by_max : slice_index now i ≡ slice_index (raised most was first.0 first.1) i → (max (slice_index was i) (min first.1 (suc most)) ≡ slice_index was i) ⊎ (max (slice_index was i) (min first.1 (suc most)) ≡ min first.1 (suc most)) → (slice_index now i ≡ slice_index was i) ⊎ ((n : ℕ) × Contains (first ∷ ns) (suc i, n) × (slice_index now i ≡ min n (suc most)))
    by_max kept (inl a) = inl (kept ∙ here ∙ a)
    by_max kept (inr b) = inr (first.1, (0, omega arith, naming_is first (suc i) same), kept ∙ here ∙ b)

-- it is of another one
others : (most : ℕ) (was now : List ℕ) (first : ℕ × ℕ) (ns : List (ℕ × ℕ)) (i : ℕ) → (first.0 ≡ suc i → ⊥) → slice_index (raised most was first.0 first.1) i ≡ slice_index was i → IsNoted most (raised most was first.0 first.1) now ns i → IsNoted most was now (first ∷ ns) i
others most was now first ns i differ here rest = record {
  more = omega (arith, here, rest.more);
  each = λ n has. elim (contains_cases first (suc i, n) ns has) [
    | inl is ↦ absurd (differ (ap (λ (p : ℕ × ℕ). p.0) is))
    | inr later ↦ rest.each n later
  ];
  one = elim rest.one [
    | inl kept ↦ inl (kept ∙ here)
    | inr some ↦ inr (some.0, contains_later first (suc i, some.0) ns some.1, some.2)
  ];
}

noted : (most : ℕ) (was : List ℕ) (ns : List (ℕ × ℕ)) (i : ℕ) → i < length was → IsNoted most was (raised_by most was ns) ns i
noted most was [] i lt = record { more = omega arith; each = λ n has. absurd (contains_none (suc i, n) has); one = inl refl }
noted most was (first ∷ ns) i lt =
    let rest = noted most (raised most was first.0 first.1) ns i (omega (arith, length-raised most was first.0 first.1)) in
    elim (cases_eq first.0 (suc i)) [
      | inl same ↦ mine most was _ first ns i same (ap (λ (k : ℕ). slice_index (raised most was k first.1) i) same ∙ raised_same most was i first.1 lt) rest
      | inr differ ↦ others most was _ first ns i differ (raised_other most was first.0 i first.1 differ) rest
    ]

-- ---- the namings of a node, pair by pair

abbrev made_lengths : List ℕ → List ℕ → ℕ → Lengths
made_lengths lengths longest most = record { lengths = lengths; longest = longest; most = most }

pub record NodeSoFar (was now : Lengths) (pairs : List Pair) (i last : ℕ) : Type 0 where
  pub lengths : now.lengths ≡ was.lengths
  pub most : now.most ≡ was.most
  pub len : length now.longest ≡ length was.longest
  pub longest : raised_by was.most now.longest (for_each_child (λ (number n : ℕ). (number, n)) last (drop i pairs)) ≡ raised_by was.most was.longest (for_each_child (λ (number n : ℕ). (number, n)) 0 pairs)
  pub rising : RiseFrom last (drop i pairs)
  pub children : AllByRecursion (IsChild (length was.longest)) (drop i pairs)

pub node_first : (was : Lengths) (pairs : List Pair) → RiseFrom 0 pairs → AllByRecursion (IsChild (length was.longest)) pairs → NodeSoFar was was pairs 0 0
node_first was pairs rising children = record { lengths = refl; most = refl; len = refl; longest = refl; rising = rising; children = children }

pub node_here : (pairs : List Pair) (i : ℕ) (pair : Pair) → slice_get pairs i ≡ Some pair → drop i pairs ≡ pair ∷ drop (i + 1) pairs
node_here [] i pair e = absurd (let no : None ≡ Some pair = get_none i ∙ e in cc)
  where
    get_none : (k : ℕ) → None ≡ slice_get {X = Pair} [] k
    get_none zero = refl
    get_none (suc k) = refl
node_here (x ∷ pairs) zero pair e = let same : x ≡ pair = cc in ap (λ (p : Pair). p ∷ pairs) same
node_here (x ∷ pairs) (suc i) pair e = node_here pairs i pair e ∙ ap (λ (k : ℕ). pair ∷ drop k (x ∷ pairs)) (let same : suc (i + 1) ≡ suc i + 1 = omega arith in same)

-- what the next pair may be
pub record NextPair (was : Lengths) (i last : ℕ) (pair : Pair) : Type 0 where
  pub above : last < pair.count
  pub some : 1 ≤ pair.page.0
  pub there : pair.page.0 ≤ length was.longest

pub node_next : (was now : Lengths) (pairs : List Pair) (i last : ℕ) (pair : Pair) → slice_get pairs i ≡ Some pair → NodeSoFar was now pairs i last → NextPair was i last pair
node_next was now pairs i last pair e so =
    let here = node_here pairs i pair e in
    let rising = subst (RiseFrom last) here so.rising in
    let children = subst (λ (ps : List Pair). AllByRecursion (IsChild (length was.longest)) ps) here so.children in
    record { above = rising.0; some = children.0.0; there = children.0.1 }

pub node_more : (was now later : Lengths) (pairs : List Pair) (i last : ℕ) (pair : Pair) → slice_get pairs i ≡ Some pair → NodeSoFar was now pairs i last
    → later ≡ record { lengths = now.lengths; longest = raised now.most now.longest pair.page.0 (pair.count - last); most = now.most } → NodeSoFar was later pairs (i + 1) pair.count
node_more was now later pairs i last pair e so is =
    let here = node_here pairs i pair e in
    let rising = subst (RiseFrom last) here so.rising in
    let children = subst (λ (ps : List Pair). AllByRecursion (IsChild (length was.longest)) ps) here so.children in
    let longest : later.longest ≡ raised was.most now.longest pair.page.0 (pair.count - last) = ap (λ (l : Lengths). l.longest) is ∙ ap (λ (m : ℕ). raised m now.longest pair.page.0 (pair.count - last)) so.most in
    record {
      lengths = ap (λ (l : Lengths). l.lengths) is ∙ so.lengths;
      most = ap (λ (l : Lengths). l.most) is ∙ so.most;
      len = ap length longest ∙ length-raised was.most now.longest pair.page.0 (pair.count - last) ∙ so.len;
      longest =
          ap (λ (t : List ℕ). raised_by was.most t (for_each_child (λ (number n : ℕ). (number, n)) pair.count (drop (i + 1) pairs))) longest
          ∙ sym (ap (λ (ps : List Pair). raised_by was.most now.longest (for_each_child (λ (number n : ℕ). (number, n)) last ps)) here)
          ∙ so.longest;
      rising = rising.1;
      children = children.1;
    }

pub node_all : (was now : Lengths) (pairs : List Pair) (i last : ℕ) → length pairs ≤ i → NodeSoFar was now pairs i last → now ≡ record { lengths = was.lengths; longest = raised_by was.most was.longest (for_each_child (λ (number n : ℕ). (number, n)) 0 pairs); most = was.most }
node_all was now pairs i last le so =
    let none : drop i pairs ≡ [] = drop_all i pairs le in
    let longest : now.longest ≡ raised_by was.most was.longest (for_each_child (λ (number n : ℕ). (number, n)) 0 pairs) = sym (ap (λ (ps : List Pair). raised_by was.most now.longest (for_each_child (λ (number n : ℕ). (number, n)) last ps)) none) ∙ so.longest in
    made_same now (record { lengths = was.lengths; longest = raised_by was.most was.longest (for_each_child (λ (number n : ℕ). (number, n)) 0 pairs); most = was.most }) so.lengths longest so.most
  where
    made_same : (x y : Lengths) → x.lengths ≡ y.lengths → x.longest ≡ y.longest → x.most ≡ y.most → x ≡ y
    made_same x y p q r = let same : made_lengths x.lengths x.longest x.most ≡ made_lengths y.lengths y.longest y.most = cc (p, q, r) in same

-- ---- against the lengths

abbrev longest_in : Geometry → History → List ℕ
longest_in g h = raised_by (leaf_bytes g) (replicate (length h.leaves) 0) (namings h)

noted_in : (g : Geometry) (h : History) (i : ℕ) → i < length h.leaves → IsNoted (leaf_bytes g) (replicate (length h.leaves) 0) (longest_in g h) (namings h) i
noted_in g h i lt = noted (leaf_bytes g) (replicate (length h.leaves) 0) (namings h) i (omega (arith, length-replicate {A = ℕ} (length h.leaves) 0))

leaf_named : (g : Geometry) (h : History) (i : ℕ) (leaf : List ℕ) → i < length h.leaves → IsLeafItem g leaf → slice_index (longest_in g h) i ≡ length leaf → IsAsNamed h (suc i) leaf
leaf_named g h i leaf lt is same =
    let note = noted_in g h i lt in
    record {
      there = elim note.one [
        | inl none ↦ absurd (let zero_there = get_or-replicate {A = ℕ} (length h.leaves) i 0 0 lt in omega (arith, none, same, zero_there, is.0))
        | inr some ↦ let len : some.0 ≡ length leaf = omega (arith, some.2, same, is.1) in subst (λ (n : ℕ). Contains (namings h) (suc i, n)) len some.1
      ];
      most = λ n has. let le = note.each n has in omega (arith, le, same, is.1);
    }

named_leaf : (g : Geometry) (h : History) (i : ℕ) (leaf : List ℕ) → i < length h.leaves → IsLeafItem g leaf → IsAsNamed h (suc i) leaf → slice_index (longest_in g h) i ≡ length leaf
named_leaf g h i leaf lt is named =
    let note = noted_in g h i lt in
    let le = note.each (length leaf) named.there in
    elim note.one [
      | inl none ↦ absurd (let zero_there = get_or-replicate {A = ℕ} (length h.leaves) i 0 0 lt in omega (arith, none, le, zero_there, is.0, is.1))
      | inr some ↦ let few = named.most some.0 some.1 in omega (arith, some.2, le, few, is.0, is.1)
    ]

into_named : (g : Geometry) (h : History) (front rest : List ℕ) (leaves : List (List ℕ)) → longest_in g h ≡ front ++ rest → length front + length leaves ≤ length h.leaves → AllByRecursion (IsLeafItem g) leaves → map leaf_length leaves ≡ rest → AreAsNamed h (suc (length front)) leaves
into_named g h front rest [] e few are same = tt
into_named g h front [] (leaf ∷ leaves) e few are same = absurd (cc)
into_named g h front (x ∷ rest) (leaf ∷ leaves) e few are same =
    let here : length leaf ≡ x = cc in
    let tail : map leaf_length leaves ≡ rest = cc in
    let there : slice_index (longest_in g h) (length front) ≡ length leaf = ap (λ (t : List ℕ). slice_index t (length front)) e ∙ get_or_at front x rest 0 (length front) refl ∙ sym here in
    let more : longest_in g h ≡ (front ++ x ∷ []) ++ rest = e ∙ sym (append_assoc front (x ∷ []) rest) in
    let step : length (front ++ x ∷ []) ≡ suc (length front) = omega (arith, length_push front x) in (
      leaf_named g h (length front) leaf (omega arith) are.0 there,
      subst (λ (n : ℕ). AreAsNamed h (suc n) leaves) step (into_named g h (front ++ x ∷ []) rest leaves more (omega (arith, step)) are.1 tail),
    )

from_named : (g : Geometry) (h : History) (front rest : List ℕ) (leaves : List (List ℕ)) → longest_in g h ≡ front ++ rest → length rest ≡ length leaves → length front + length leaves ≤ length h.leaves → AllByRecursion (IsLeafItem g) leaves → AreAsNamed h (suc (length front)) leaves → map leaf_length leaves ≡ rest
from_named g h front [] [] e len few are named = refl
from_named g h front (x ∷ rest) [] e len few are named = absurd (omega arith)
from_named g h front [] (leaf ∷ leaves) e len few are named = absurd (omega arith)
from_named g h front (x ∷ rest) (leaf ∷ leaves) e len few are named =
    let there : slice_index (longest_in g h) (length front) ≡ length leaf = named_leaf g h (length front) leaf (omega arith) are.0 named.0 in
    let here : length leaf ≡ x = sym there ∙ ap (λ (t : List ℕ). slice_index t (length front)) e ∙ get_or_at front x rest 0 (length front) refl in
    let more : longest_in g h ≡ (front ++ x ∷ []) ++ rest = e ∙ sym (append_assoc front (x ∷ []) rest) in
    let step : length (front ++ x ∷ []) ≡ suc (length front) = omega (arith, length_push front x) in
    let tail : map leaf_length leaves ≡ rest = from_named g h (front ++ x ∷ []) rest leaves more (omega arith) (omega (arith, step)) are.1 (subst (λ (n : ℕ). AreAsNamed h (suc n) leaves) (sym step) named.1) in
    cc (here, tail)

pub lengths_named : (g : Geometry) (h : History) → AllByRecursion (IsLeafItem g) h.leaves → (map leaf_length h.leaves ≡ longest_in g h) ↔ AreAsNamed h 1 h.leaves
lengths_named g h are =
    let len : length (longest_in g h) ≡ length h.leaves = length-raised_by (leaf_bytes g) (replicate (length h.leaves) 0) (namings h) ∙ length-replicate {A = ℕ} (length h.leaves) 0 in
    (λ same. into_named g h [] (longest_in g h) h.leaves refl (omega arith) are same, λ named. from_named g h [] (longest_in g h) h.leaves refl len (omega arith) are named)
