-- New leaves, one after the other.
use Rattle.std.proofs.Common.{◌≡◌, ◌≢◌, ◌⊎◌, ℕ, zero, suc, ◌+◌, ◌-◌, ◌<◌, ◌≤◌, min, List, [], ◌∷◌, ◌++◌, length, take, drop, get_or, Bool, true, false, refl, sym, ap, subst, ◌∙◌, arith, take_all, inl, inr, add-one, true≢false, drop-cons}
use Rattle.std.proofs.Math.Seq.{take-add}
use Rattle.std.proofs.lemmas.List.{append-nil, length-append, length-drop, length-take-le, take_at, drop_all, drop-drop, map-append, take_more}
use Rattle.std.proofs.lemmas.Grind.{flat_map-append}
use Rattle.std.proofs.lemmas.Bool.{cases_lt, cases_Bool}
use Rattle.std.specs.List.{AllByRecursion}
use Rattle.ex_base.specs.Area.{NamesLeaf}
use Rattle.ex_base.specs.Even.{sum_of}
use Rattle.ex_base.specs.declared.geometry.Geometry.{Geometry}
use borrow.Rule.Slice.PartMut.{post_of}
use Rattle.ex_base.proofs.Rows.{each-append}
use Rattle.ex_base.proofs.Each.{each_as}
use Rattle.ex_base.proofs.Spread.{plain}
use Rattle.ex_base.proofs.Counts.{same_or_not}
use Rattle.ex_base.specs.Ports.{Keeps, TakesUnit, CountsNames, refs_most, times, with_refs}
use Rattle.ex_base.specs.declared.names.Area.{Area}
use Rattle.ex_base.specs.declared.names.Area.TheVariants.{Page, Segment}
use Rattle.ex_base.specs.declared.ground.Ground as ground
use Rattle.trees.specs.Trees.{Units, bytes_on}
use Rattle.trees.proofs.TreeLaws.{length-bytes_on, AreWhole}
use Rattle.trees.specs.declared.rows.Part.{Part}
use Rattle.trees.specs.Damage.{IsSoundWay}
use Rattle.trees.specs.Rows.{row_bytes, row_size, row_units, AreTrees}
use Rattle.trees.proofs.Reading.{two_parts, part_behind, written_twice, left_over, later, part_of_front}
use Rattle.trees.specs.Counted.{Counted}
use Rattle.trees.proofs.Counts.{counted_kept, counted_leaf, counted_on, counted_same}
use Rattle.trees.specs.Made.{Extends, Spent, AreUsed, Holds, Has, IsTaken, Took, Stays, pages_of, sizes_of, changed}

-- ---- states that keep the used units

module _ {S : Type 0} (g : ground.Ghosts S) where
  pub extends_refl : (a : S) → Extends g a a
  extends_refl a = record { leads = g.leads_refl a; used = λ p h. h; units = λ p h. refl; images = λ p h. refl; held = refl; touched = refl; refs = λ p few. (omega arith, few) }

  pub extends_on : (a b c : S) → Extends g a b → Extends g b c → Extends g a c
  extends_on a b c x y = record {
    leads = g.leads_trans a b c x.leads y.leads;
    used = λ p h. y.used p (x.used p h);
    units = λ p h. y.units p (x.used p h) ∙ x.units p h;
    images = λ p h. y.images p (x.used p h) ∙ x.images p h;
    held = y.held ∙ x.held;
    touched = y.touched ∙ x.touched;
    refs = λ p few.
        let one = x.refs p few in
        let two = y.refs p one.1 in
        (omega (arith, one.0, two.0), two.1);
  }

  pub extends_kept : (a b : S) → Keeps g a b → Extends g a b
  extends_kept a b k = record {
    leads = k.leads;
    used = λ p h. ap (λ (f : ℕ → Bool). f p) k.used ∙ h;
    units = λ p h. ap (λ (f : ℕ → List ℕ). f p) k.units;
    images = λ p h. ap (λ (f : ℕ → List ℕ). f p) k.images;
    held = k.held;
    touched = k.touched;
    refs = λ p few. let same : g.refs b p ≡ g.refs a p = ap (λ (f : ℕ → ℕ). f p) k.refs in (omega (arith, same), omega (arith, same, few));
  }

  apart : (a b : S) (area : Area) (page : ℕ) (content : List ℕ) → TakesUnit g a b area page content → (p : ℕ) → g.used a p ≡ true → p ≢ page
  apart a b area page content t p h same = true≢false (sym h ∙ ap (g.used a) same ∙ t.was_free)

  taken_grows : (a b : S) (area : Area) (page : ℕ) (content : List ℕ) → TakesUnit g a b area page content → (p : ℕ) → g.used a p ≡ true → g.used b p ≡ true
  taken_grows a b area page content t p h = t.used p (apart a b area page content t p h) ∙ h

  extends_taken : (a b : S) (area : Area) (page : ℕ) (content : List ℕ) → g.leads a b → TakesUnit g a b area page content → g.touched b ≡ g.touched a
      → ((p : ℕ) → g.refs a p ≤ refs_most → (g.refs a p ≤ g.refs b p) × (g.refs b p ≤ refs_most)) → Extends g a b
  extends_taken a b area page content leads t touched refs = record {
    leads = leads;
    used = taken_grows a b area page content t;
    units = t.units;
    images = λ p h. t.images p (apart a b area page content t p h);
    held = t.held;
    touched = touched;
    refs = refs;
  }

  pub extends_leaf : (a b : S) (page : ℕ) (content : List ℕ) → g.leads a b → TakesUnit g a b Segment page content → g.touched b ≡ g.touched a → g.refs b ≡ g.refs a → Extends g a b
  extends_leaf a b page content leads t touched refs = extends_taken a b Segment page content leads t touched
      (λ p few. let same : g.refs b p ≡ g.refs a p = ap (λ (f : ℕ → ℕ). f p) refs in (omega (arith, same), omega (arith, same, few)))

  pub extends_node : (a b : S) (page : ℕ) (content names : List ℕ) → g.leads a b → TakesUnit g a b Page page content → g.touched b ≡ g.touched a → CountsNames g a b names → Extends g a b
  extends_node a b page content names leads t touched counts = extends_taken a b Page page content leads t touched
      (λ p few. none_goes (g.used a p) (g.refs a p) (times p names) (g.refs b p) (counts p) few)
    where
      none_goes : (used : Bool) (count more now : ℕ) → now ≡ with_refs used count more → count ≤ refs_most → (count ≤ now) × (now ≤ refs_most)
      none_goes true count more now is few = (omega (arith, is, few), omega (arith, is, few))
      none_goes false count more now is few = (omega (arith, is), omega (arith, is, few))

  pub took_none : (a : S) → Took g a a []
  took_none a = record { each = tt; all = λ p is. true≢false (sym is.1 ∙ is.0) }

  pub spent_none : (a : S) → Spent g a a 0 0
  spent_none a = record { of_leaves = omega arith; of_pages = omega arith }

  pub spent_on : (a b c : S) (leaves pages more others : ℕ) → Spent g a b leaves pages → Spent g b c more others → Spent g a c (leaves + more) (pages + others)
  spent_on a b c leaves pages more others x y = record { of_leaves = omega (arith, x.of_leaves, y.of_leaves); of_pages = omega (arith, x.of_pages, y.of_pages) }

-- ---- leaves over units that are kept

pub leaves_kept : (u v : Units) (used : ℕ → Bool) (row : List Part) → ((p : ℕ) → used p ≡ true → v p ≡ u p) → AreUsed used (pages_of row) → row_bytes v 0 row ≡ row_bytes u 0 row
leaves_kept u v used [] same all = refl
leaves_kept u v used (part ∷ row) same all =
    let here : take part.size (v part.page.0) ≡ take part.size (u part.page.0) = ap (take part.size) (same part.page.0 all.0) in
    let rest = leaves_kept u v used row same all.1 in
    cc (here, rest)

pub leaf_units : (u : Units) (row : List Part) → row_units u 0 row ≡ pages_of row
leaf_units u [] = refl
leaf_units u (part ∷ row) = ap (λ ps. part.page.0 ∷ ps) (leaf_units u row)

pub row_length : (geo : Geometry) (u : Units) (l : ℕ) (row : List Part) → AreWhole geo u → AreTrees geo u l row → length (row_bytes u l row) ≡ row_size row
row_length geo u l [] whole trees = refl
row_length geo u l (part ∷ row) whole trees =
    omega (arith, length-append (bytes_on u l part.page.0 part.size) (row_bytes u l row), length-bytes_on geo u l part.page.0 part.size whole trees.0.0 trees.0.1, row_length geo u l row whole trees.1)

-- ---- parts of joined lists

pub part_min : (xs : List ℕ) (from n len : ℕ) → n ≤ len - from → take n (drop from (take len xs)) ≡ take n (drop from xs)
part_min xs from zero len h = refl
part_min xs from (suc n) len h = part_of_front xs from (suc n) len (omega arith)

pub any_two_parts : (front back p q : List ℕ) (len n pos : ℕ) → n ≡ min len (length front - pos) → p ≡ take n (drop pos front) → q ≡ take (len - n) (drop (pos - length front) back)
    → p ++ q ≡ take len (drop pos (front ++ back))
any_two_parts front back p q len n pos is first second = elim (cases_lt (length front) pos) [
  | inr within ↦
      let none : pos - length front ≡ 0 = omega arith in
      two_parts front back p q len n pos within is first (second ∙ ap (λ k. take (len - n) (drop k back)) none)
  | inl behind ↦
      let none : n ≡ 0 = omega arith in
      let whole : len - n ≡ len = omega arith in
      ap (λ xs. xs ++ q) (first ∙ ap (λ k. take k (drop pos front)) none) ∙ second ∙ ap (λ k. take k (drop (pos - length front) back)) whole
      ∙ part_behind front back len pos (omega arith)
]

-- what stands in a buffer whose front and rest are written
pub filled_twice : (front back out p q : List ℕ) (n pos : ℕ) → n ≡ min (length out) (length front - pos) → length p ≡ length (take n out)
    → p ≡ take (length (take n out)) (drop pos front) → q ≡ take (later n p out) (drop (pos - length front) back)
    → take n (p ++ drop n out) ++ (q ++ post_of n (length (p ++ drop n out) - n) (p ++ drop n out)) ≡ take (length out) (drop pos (front ++ back))
filled_twice front back out p q n pos is len first second =
    let n_len : length (take n out) ≡ n = length-take-le n out (omega arith) in
    written_twice out p q n (omega arith) (len ∙ n_len)
    ∙ any_two_parts front back p q (length out) n pos is (first ∙ ap (λ k. take k (drop pos front)) n_len) (second ∙ ap (λ k. take k (drop (pos - length front) back)) (left_over out p n (omega arith) (len ∙ n_len)))

-- ---- the loop over the lengths

pub record LaidSoFar {S : Type 0} (g : ground.Ghosts S) (old now : S) (run : List Part) (at cut : ℕ) (given lengths : List ℕ) (i : ℕ) (row : List Part) (done : ℕ) : Type 0 where
  pub extends : Extends g old now
  pub sizes : sizes_of row ≡ take i lengths
  pub sum : done + sum_of plain (drop i lengths) ≡ sum_of plain lengths
  pub named : AllByRecursion (λ (part : Part). NamesLeaf (g.geometry old) part.page.0) row
  pub took : Took g old now (pages_of row)
  pub spent : Spent g old now i 0
  pub counts : Counted g old now
  pub way : g.tells old → (byte new : ℕ) → Stays at cut (length given) byte new → new < done → IsSoundWay (g.geometry old) (g.unit old) (NamesLeaf (g.geometry old)) 0 0 run byte byte
  pub bytes : g.tells old → Holds g old 0 run → row_bytes (g.unit now) 0 row ≡ take done (changed (row_bytes (g.unit old) 0 run) at cut given)

-- nothing is laid yet
pub laid_none : {S : Type 0} (g : ground.Ghosts S) (old : S) (run : List Part) (at cut : ℕ) (given lengths : List ℕ) → LaidSoFar g old old run at cut given lengths 0 [] 0
laid_none g old run at cut given lengths = record {
  extends = extends_refl g old;
  sizes = refl;
  sum = omega arith;
  named = tt;
  took = took_none g old;
  spent = spent_none g old;
  counts = counted_same g old;
  way = λ told byte new stays before. absurd (omega (arith, before));
  bytes = λ told holds. refl;
}

-- a leaf more doesn't pass the end
pub laid_fits : (lengths : List ℕ) (i done : ℕ) → i < length lengths → done + sum_of plain (drop i lengths) ≡ sum_of plain lengths → done + get_or lengths i 0 ≤ sum_of plain lengths
laid_fits lengths i done lt sum = omega (arith, sum, ap (sum_of plain) (drop-cons lengths i 0 lt))

-- a buffer of which the front was written
pub buffer_written : (out buffer : List ℕ) (n : ℕ) → n ≤ length buffer → length out ≡ length (take n buffer) → (length (take n (out ++ drop n buffer)) ≡ n) × (length (out ++ drop n buffer) ≡ length buffer)
buffer_written out buffer n fits len =
    let front : length out ≡ n = len ∙ length-take-le n buffer fits in
    let all : length (out ++ drop n buffer) ≡ length buffer = omega (arith, length-append out (drop n buffer), length-drop n buffer, front, fits) in
    (length-take-le n (out ++ drop n buffer) (omega (arith, all, fits)), all)

-- ---- filling one leaf

pub fill_rest : (given old out p q : List ℕ) (n m behind from inside : ℕ) → n ≡ min (length out) m → m ≡ length given - inside → behind ≡ inside - length given
    → length p ≡ length (take n out) → p ≡ take (length (take n out)) (drop inside given) → q ≡ take (later n p out) (drop (from + behind) old)
    → take n (p ++ drop n out) ++ (q ++ post_of n (length (p ++ drop n out) - n) (p ++ drop n out)) ≡ take (length out) (drop inside (given ++ drop from old))
fill_rest given old out p q n m behind from inside n_is m_is behind_is len first second =
    filled_twice given (drop from old) out p q n inside (n_is ∙ ap (min (length out)) m_is) len first
    (second ∙ ap (take (later n p out)) (sym (drop-drop behind from old)) ∙ ap (λ k. take (later n p out) (drop k (drop from old))) behind_is)

pub behind_in : (out p : List ℕ) (n m behind from inside given byte : ℕ) → n ≡ min (length out) m → m ≡ given - inside → behind ≡ inside - given → length p ≡ length (take n out)
    → from ≤ byte → byte - from + given < inside + length out → byte < from + behind + later n p out
behind_in out p n m behind from inside given byte n_is m_is behind_is len above high =
    let front : length (take n out) ≡ n = length-take-le n out (omega arith) in
    omega (arith, left_over out p n (omega arith) (len ∙ front))

-- a byte that stays is read before the given ones or behind them
pub fill_way : (P : Type 0) (out p : List ℕ) (n m inside at cut done given byte place : ℕ) → n ≡ min (length out) m → m ≡ at - done → inside ≡ done - at → length p ≡ length (take n out)
    → Stays at cut given byte place → done ≤ place → place < done + length out
    → (done ≤ byte → byte < done + length (take n out) → P)
    → (at + cut ≤ byte → inside ≤ byte - (at + cut) + given → byte - (at + cut) + given < inside + later n p out → P) → P
fill_way P out p n m inside at cut done given byte place n_is m_is inside_is len stays low high before behind =
    let front : length (take n out) ≡ n = length-take-le n out (omega arith) in
    let rest = left_over out p n (omega arith) (len ∙ front) in
    elim stays [
      | inl early ↦ before (omega (arith, early.1)) (omega (arith, front, early.0, early.1))
      | inr far ↦ behind far.0 (omega (arith, far.0, far.1)) (omega (arith, rest, far.0, far.1))
    ]

pub fill_front : (given old out p q : List ℕ) (n m inside at cut done : ℕ) → n ≡ min (length out) m → m ≡ at - done → inside ≡ done - at → at ≤ length old
    → length p ≡ length (take n out) → p ≡ take (length (take n out)) (drop done old) → q ≡ take (later n p out) (drop inside (given ++ drop (at + cut) old))
    → take n (p ++ drop n out) ++ (q ++ post_of n (length (p ++ drop n out) - n) (p ++ drop n out)) ≡ take (length out) (drop done (changed old at cut given))
fill_front given old out p q n m inside at cut done n_is m_is inside_is fits len first second =
    let front_len : length (take at old) ≡ at = length-take-le at old fits in
    let n_len : length (take n out) ≡ n = length-take-le n out (omega arith) in
    filled_twice (take at old) (given ++ drop (at + cut) old) out p q n done (n_is ∙ ap (min (length out)) (m_is ∙ ap (λ k. k - done) (sym front_len))) len
    (first ∙ sym (part_min old done (length (take n out)) at (omega arith)))
    (second ∙ ap (λ k. take (later n p out) (drop k (given ++ drop (at + cut) old))) (inside_is ∙ ap (λ k. done - k) (sym front_len)))

pub same_bytes : {S : Type 0} (g : ground.Ghosts S) (a b : S) (l : ℕ) (row : List Part) → Keeps g a b → row_bytes (g.unit b) l row ≡ row_bytes (g.unit a) l row
same_bytes g a b l row k = ap (λ (u : Units). row_bytes u l row) k.units

-- A way over leaves speaks of no unit's content, so it is one of any earlier state.
pub leaves_way : {S : Type 0} (g : ground.Ghosts S) (a b : S) (run : List Part) (f t : ℕ) → g.leads a b → (g.tells b → IsSoundWay (g.geometry b) (g.unit b) (NamesLeaf (g.geometry b)) 0 0 run f t)
    → g.tells a → IsSoundWay (g.geometry a) (g.unit a) (NamesLeaf (g.geometry a)) 0 0 run f t
leaves_way g a b run f t leads later told = subst (λ geo. IsSoundWay geo (g.unit b) (NamesLeaf geo) 0 0 run f t) (g.leads_geometry a b leads) (later (g.leads_told a b leads told))

-- ---- one leaf more

pub has_left : (xs ys : List ℕ) (p : ℕ) → Has xs p → Has (xs ++ ys) p
has_left [] ys p h = absurd h
has_left (x ∷ xs) ys p h = elim h [
  | inl e ↦ inl e
  | inr r ↦ inr (has_left xs ys p r)
]

pub has_right : (xs ys : List ℕ) (p : ℕ) → Has ys p → Has (xs ++ ys) p
has_right [] ys p h = h
has_right (x ∷ xs) ys p h = inr (has_right xs ys p h)

-- one unit more is taken
pub took_more : {S : Type 0} (g : ground.Ghosts S) (old now mid new : S) (units : List ℕ) (area : Area) (page : ℕ) (content : List ℕ) → Extends g old now → Keeps g now mid → TakesUnit g mid new area page content
    → Took g old now units → Took g old new (units ++ (page ∷ []))
took_more g old now mid new units area page content ext k t took =
    let kept : (p : ℕ) → g.used now p ≡ g.used mid p = λ p. sym (ap (λ (f : ℕ → Bool). f p) k.used) in
    let was_free : g.used old page ≡ false = elim (cases_Bool (g.used old page)) [
      | inl h ↦ absurd (true≢false (sym (ext.used page h) ∙ kept page ∙ t.was_free))
      | inr h ↦ h
    ] in
    record {
      each = each-append (IsTaken g old new) units (page ∷ []) (each_as (IsTaken g old now) (IsTaken g old new) units (λ p h. (h.0, taken_grows g mid new area page content t p (sym (kept p) ∙ h.1))) took.each) ((was_free, t.now_used), tt);
      all = λ p h. elim (cases_Bool (g.used now p)) [
        | inl yes_used ↦ has_left units (page ∷ []) p (took.all p (h.0, yes_used))
        | inr free ↦ elim (same_or_not page p) [
          | inl same ↦ has_right units (page ∷ []) p (inl same)
          | inr other ↦ absurd (true≢false (sym h.1 ∙ t.used p (λ e. other (sym e)) ∙ sym (kept p) ∙ free))
        ]
      ];
    }

pub laid_step : {S : Type 0} (g : ground.Ghosts S) (old now mid new : S) (run : List Part) (at cut : ℕ) (given lengths : List ℕ) (i : ℕ) (row after : List Part) (done page : ℕ) (buffer out : List ℕ)
    → i < length lengths → get_or lengths i 0 ≤ length buffer → LaidSoFar g old now run at cut given lengths i row done → Keeps g now mid → g.leads mid new
    → TakesUnit g mid new Segment page (take (get_or lengths i 0) (out ++ drop (get_or lengths i 0) buffer)) → g.free new Page ≡ g.free mid Page → g.free new Segment + 1 ≡ g.free mid Segment → g.refs new ≡ g.refs mid → g.touched new ≡ g.touched mid → length out ≡ length (take (get_or lengths i 0) buffer)
    → (g.tells now → AreTrees (g.geometry now) (g.unit now) 0 run → out ≡ take (length (take (get_or lengths i 0) buffer)) (drop done (changed (row_bytes (g.unit now) 0 run) at cut given)))
    → (g.tells now → (byte place : ℕ) → Stays at cut (length given) byte place → done ≤ place → place < done + length (take (get_or lengths i 0) buffer) → IsSoundWay (g.geometry now) (g.unit now) (NamesLeaf (g.geometry now)) 0 0 run byte byte)
    → after ≡ row ++ (record { size = get_or lengths i 0; page = record { 0 = page } } ∷ [])
    → LaidSoFar g old new run at cut given lengths (i + 1) after (done + get_or lengths i 0)
laid_step {S} g old now mid new run at cut given lengths i row after done page buffer out lt fits h k leads t pages leaves refs touched len read ways after_is =
    let size : ℕ = get_or lengths i 0 in
    let part : Part = record { size = get_or lengths i 0; page = record { 0 = page } } in
    let leaf : Extends g mid new = extends_leaf g mid new page (take (get_or lengths i 0) (out ++ drop (get_or lengths i 0) buffer)) leads t touched refs in
    let step : Extends g now new = extends_on g now mid new (extends_kept g now mid k) leaf in
    let out_len : length out ≡ get_or lengths i 0 = len ∙ length-take-le (get_or lengths i 0) buffer fits in
    let content : take (get_or lengths i 0) (out ++ drop (get_or lengths i 0) buffer) ≡ out = take_at out (drop (get_or lengths i 0) buffer) (get_or lengths i 0) out_len in
    let to_mid : g.leads old mid = g.leads_trans old now mid h.extends.leads k.leads in
    record {
      extends = extends_on g old now new h.extends step;
      sizes = ap sizes_of after_is ∙ map-append (λ (q : Part). q.size) row (part ∷ []) ∙ ap (λ xs. xs ++ (get_or lengths i 0 ∷ [])) h.sizes ∙ sym (take_more lengths i 0 lt);
      sum = omega (arith, h.sum, ap (sum_of plain) (drop-cons lengths i 0 lt), ap (λ j. sum_of plain (drop j lengths)) (add-one i));
      named = subst (λ xs. AllByRecursion (λ (q : Part). NamesLeaf (g.geometry old) q.page.0) xs) (sym after_is)
          (each-append (λ (q : Part). NamesLeaf (g.geometry old) q.page.0) row (part ∷ []) h.named (subst (λ geo. NamesLeaf geo page) (g.leads_geometry old mid to_mid) t.named, tt));
      spent = record {
        of_leaves = omega (arith, h.spent.of_leaves, leaves, ap (λ (f : Area → ℕ). f Segment) k.free);
        of_pages = omega (arith, h.spent.of_pages, pages, ap (λ (f : Area → ℕ). f Page) k.free);
      };
      counts = counted_on g old now new h.extends step h.counts
          (counted_on g now mid new (extends_kept g now mid k) leaf (counted_kept g now mid k) (counted_leaf g mid new page (take (get_or lengths i 0) (out ++ drop (get_or lengths i 0) buffer)) t refs));
      took = subst (Took g old new) (sym (ap pages_of after_is ∙ map-append (λ (q : Part). q.page.0) row (part ∷ []))) (took_more g old now mid new (pages_of row) Segment page (take (get_or lengths i 0) (out ++ drop (get_or lengths i 0) buffer)) h.extends k t h.took);
      way = λ told byte place stays before. elim (cases_lt place done) [
        | inl early ↦ h.way told byte place stays early
        | inr here ↦ leaves_way g old now run byte byte h.extends.leads (λ told_now. ways told_now byte place stays here (omega (arith, before, length-take-le (get_or lengths i 0) buffer fits))) told
      ];
      bytes = λ told holds.
          let told_now = g.leads_told old now h.extends.leads told in
          let told_mid = g.leads_told now mid k.leads told_now in
          let run_same : row_bytes (g.unit now) 0 run ≡ row_bytes (g.unit old) 0 run = leaves_kept (g.unit old) (g.unit now) (g.used old) run h.extends.units (subst (AreUsed (g.used old)) (leaf_units (g.unit old) run) holds.used) in
          let row_same : row_bytes (g.unit new) 0 row ≡ row_bytes (g.unit now) 0 row = leaves_kept (g.unit now) (g.unit new) (g.used now) row step.units (each_as (IsTaken g old now) (λ p. g.used now p ≡ true) (pages_of row) (λ p x. x.1) h.took.each) in
          let trees : AreTrees (g.geometry now) (g.unit now) 0 run = subst (λ geo. AreTrees geo (g.unit now) 0 run) (sym (g.leads_geometry old now h.extends.leads)) holds.trees in
          let filled : out ≡ take (get_or lengths i 0) (drop done (changed (row_bytes (g.unit old) 0 run) at cut given)) =
          read told_now trees ∙ ap (λ n. take n (drop done (changed (row_bytes (g.unit now) 0 run) at cut given))) (length-take-le (get_or lengths i 0) buffer fits)
          ∙ ap (λ xs. take (get_or lengths i 0) (drop done (changed xs at cut given))) run_same in
          let own : take (get_or lengths i 0) (g.unit new page) ≡ out = ap (λ n. take n (g.unit new page)) (sym out_len ∙ sym (ap length content)) ∙ t.bytes told_mid ∙ content in
          ap (row_bytes (g.unit new) 0) after_is ∙ flat_map-append (λ (q : Part). take q.size (g.unit new q.page.0)) row (part ∷ [])
          ∙ ap (λ xs. xs ++ (take (get_or lengths i 0) (g.unit new page) ++ [])) (row_same ∙ h.bytes told holds)
          ∙ ap (λ xs. take done (changed (row_bytes (g.unit old) 0 run) at cut given) ++ xs) (append-nil (take (get_or lengths i 0) (g.unit new page)) ∙ own ∙ filled)
          ∙ sym (take-add done (get_or lengths i 0) (changed (row_bytes (g.unit old) 0 run) at cut given));
    }

length-changed : (old : List ℕ) (at cut : ℕ) (given : List ℕ) → at + cut ≤ length old → length (changed old at cut given) ≡ length old - cut + length given
length-changed old at cut given fits =
    omega (arith, length-append (take at old) (given ++ drop (at + cut) old), length-append given (drop (at + cut) old), length-take-le at old (omega arith), length-drop (at + cut) old)

pub laid_all : {S : Type 0} (g : ground.Ghosts S) (old now : S) (run : List Part) (at cut : ℕ) (given lengths : List ℕ) (i : ℕ) (row : List Part) (done : ℕ)
    → g.ready old → at + cut ≤ row_size run → sum_of plain lengths ≡ row_size run - cut + length given → length lengths ≤ i → LaidSoFar g old now run at cut given lengths i row done
    → g.tells old → Holds g old 0 run → row_bytes (g.unit now) 0 row ≡ changed (row_bytes (g.unit old) 0 run) at cut given
laid_all g old now run at cut given lengths i row done ready fits sum end h told holds =
    let len = row_length (g.geometry old) (g.unit old) 0 run (g.whole old ready told) holds.trees in
    let none : drop i lengths ≡ [] = drop_all i lengths end in
    h.bytes told holds ∙ take_all done (changed (row_bytes (g.unit old) 0 run) at cut given)
    (omega (arith, h.sum, ap (sum_of plain) none, length-changed (row_bytes (g.unit old) 0 run) at cut given (omega arith)))

-- each leaf that keeps a byte
pub laid_way : {S : Type 0} (g : ground.Ghosts S) (old now : S) (run : List Part) (at cut : ℕ) (given lengths : List ℕ) (i : ℕ) (row : List Part) (done : ℕ)
    → at + cut ≤ row_size run → sum_of plain lengths ≡ row_size run - cut + length given → length lengths ≤ i → LaidSoFar g old now run at cut given lengths i row done
    → g.tells old → (byte : ℕ) → byte < row_size run → (byte < at) ⊎ (at + cut ≤ byte) → IsSoundWay (g.geometry old) (g.unit old) (NamesLeaf (g.geometry old)) 0 0 run byte byte
laid_way g old now run at cut given lengths i row done fits sum end h told byte inside kept =
    let none : drop i lengths ≡ [] = drop_all i lengths end in
    let all : done ≡ row_size run - cut + length given = omega (arith, h.sum, sum, ap (sum_of plain) none) in
    elim kept [
      | inl before ↦ h.way told byte byte (inl (before, refl)) (omega (arith, all, before))
      | inr behind ↦ h.way told byte (byte - cut + length given) (inr (behind, refl)) (omega (arith, all, behind))
    ]
