-- Reading a row, one tree after the other.
use Rattle.std.proofs.Common.{◌≡◌, ◌≢◌, ℕ, zero, suc, ◌+◌, ◌-◌, ◌<◌, ◌≤◌, min, List, [], ◌∷◌, ◌++◌, length, take, drop, get_or, refl, sym, ap, subst, ◌∙◌, arith, take_all, append_assoc, inl, inr, sub-one}
use Rattle.std.proofs.Math.Seq.{take-add, drop-append-add}
use Rattle.std.proofs.lemmas.Bool.{cases_lt}
use Rattle.std.proofs.lemmas.List.{append-nil, take-append-le, drop-append-le, length-append, length-drop, length-take-le, take_at, drop-drop}
use borrow.Rule.Slice.PartMut.{put_mid}
use Rattle.ex_base.specs.Area.{NamesLeaf}
use Rattle.ex_base.specs.Ports.{Keeps}
use Rattle.ex_base.specs.declared.geometry.Geometry.{Geometry}
use Rattle.ex_base.specs.declared.ground.Ground as ground
use Rattle.ex_base.proofs.Keeping.{keeps_refl, keeps_on}
use Rattle.ex_base.proofs.Each.{split_each}
use Rattle.trees.specs.Trees.{Units, bytes_on}
use Rattle.trees.specs.declared.rows.Part.{Part}
use Rattle.ex_base.specs.declared.faults.PortFault.{PortFault}
use Rattle.ex_base.specs.declared.faults.PortFault.TheVariants.{Disk, Memory, Damaged}
use Rattle.trees.specs.Node.{pairs_on}
use Rattle.trees.specs.Damage.{IsSoundWay, IsWalkFault, IsNodeAt}
use Rattle.trees.specs.Spans.{IsSpan}
use Rattle.trees.proofs.SpanLaws.{span_trees, span_bytes}
use Rattle.trees.specs.Rows.{row_bytes, row_size, parts_of, AreTrees}
use Rattle.trees.proofs.TreeLaws.{AreWhole}
use Rattle.trees.proofs.Blame.{any_at}
use Rattle.trees.proofs.Reading.{no_part, row_trees, row_spells, trees_back, bytes_back}
use Rattle.trees.proofs.Sizes.{around_row, size-front}
use Rattle.trees.proofs.Laid.{part_min, row_length}
use Rattle.trees.proofs.Over.{bytes_app}
use Rattle.trees.proofs.Ways.{way_index, way_kept}

-- ---- one tree

pub node_read : {S : Type 0} (g : ground.Ghosts S) (a b : S) (l least : ℕ) (tree : Part) (trees lent : List Part) (pos len inside : ℕ) (out : List ℕ) → g.ready a → l ≢ 0 → lent ≡ trees → Keeps g a b
    → (g.tells a → IsNodeAt (g.geometry a) (g.unit a) l tree.size least tree.page.0)
    → (g.tells a → IsSpan (parts_of 0 (pairs_on (g.unit a tree.page.0))) pos len trees inside)
    → (g.tells b → AreTrees (g.geometry b) (g.unit b) (l - 1) lent → out ≡ take len (drop inside (row_bytes (g.unit b) (l - 1) lent)))
    → g.tells a → AreTrees (g.geometry a) (g.unit a) l (tree ∷ []) → out ≡ take len (drop pos (row_bytes (g.unit a) l (tree ∷ [])))
node_read g a b zero least tree trees lent pos len inside out ready above same k node span read told own = absurd (above refl)
node_read g a b (suc l) least tree trees lent pos len inside out ready above same k node span read told own =
    let read' : g.tells b → AreTrees (g.geometry b) (g.unit b) l trees → out ≡ take len (drop inside (row_bytes (g.unit b) l trees)) = rw (sub-one, same) at read in
    let geo = g.geometry a in
    let u = g.unit a in
    let below = parts_of 0 (pairs_on (g.unit a tree.page.0)) in
    let trees_below : AreTrees (g.geometry a) (g.unit a) l (parts_of 0 (pairs_on (g.unit a tree.page.0))) = row_trees (g.geometry a) (g.unit a) l tree.page.0 tree.size (parts_of 0 (pairs_on (g.unit a tree.page.0))) own.0.0 own.0.1 (node told).row.parts in
    bytes_back g a b l len inside trees out k
    (read' (g.leads_told a b k.leads told) (trees_back g a b l trees k (span_trees (parts_of 0 (pairs_on (g.unit a tree.page.0))) trees pos len inside (span told) (g.geometry a) (g.unit a) l trees_below)))
    ∙ sym (span_bytes (parts_of 0 (pairs_on (g.unit a tree.page.0))) trees pos len inside (span told) (g.geometry a) (g.unit a) l (g.whole a ready told) trees_below)
    ∙ ap (λ xs. take len (drop pos xs)) (row_spells (g.unit a) l tree.page.0 tree.size (parts_of 0 (pairs_on (g.unit a tree.page.0))) (node told).row.parts ∙ sym (append-nil (bytes_on (g.unit a) (suc l) tree.page.0 tree.size)))

-- a leaf as a row of one tree
pub leaf_read : (u : Units) (l len pos : ℕ) (tree : Part) (out : List ℕ) → l ≡ 0 → len ≤ tree.size - pos → out ≡ take len (drop pos (u tree.page.0)) → out ≡ take len (drop pos (row_bytes u l (tree ∷ [])))
leaf_read u l len pos tree out is fits read =
    subst (λ k. out ≡ take len (drop pos (row_bytes u k (tree ∷ [])))) (sym is)
    (read ∙ sym (part_min (u tree.page.0) pos len tree.size fits) ∙ ap (λ xs. take len (drop pos xs)) (sym (append-nil (take tree.size (u tree.page.0)))))

pub leaf_way : (geo : Geometry) (u : Units) (l least : ℕ) (tree : Part) (first last : ℕ) → l ≡ 0 → NamesLeaf geo tree.page.0 → IsSoundWay geo u (NamesLeaf geo) l least (tree ∷ []) first last
leaf_way geo u l least tree first last is named = subst (λ k. IsSoundWay geo u (NamesLeaf geo) k least (tree ∷ []) first last) (sym is) (λ inside. named, λ behind. tt)

-- a fault on the way down from one tree of a row
pub walk_tree : (geo : Geometry) (u : Units) (level least i : ℕ) (row : List Part) (fault : PortFault) → i < length row → IsWalkFault geo u level least (get_or row i no_part ∷ []) fault → IsWalkFault geo u level least row fault
walk_tree geo u level least i row Disk lt h = tt
walk_tree geo u level least i row Memory lt h = tt
walk_tree geo u zero least i row (Damaged at want got) lt h = any_at _ row i lt (elim h [ inl here ↦ here | inr none ↦ absurd none ])
walk_tree geo u (suc l) least i row (Damaged at want got) lt h = any_at _ row i lt (elim h [ inl here ↦ here | inr none ↦ absurd none ])

-- ---- the bytes of one tree in those of its row

own_part : (geo : Geometry) (u : Units) (l : ℕ) (row : List Part) (i at n : ℕ) → AreWhole geo u → AreTrees geo u l row → i < length row → at + n ≤ (get_or row i no_part).size
    → take n (drop (row_size (take i row) + at) (row_bytes u l row)) ≡ take n (drop at (row_bytes u l (get_or row i no_part ∷ [])))
own_part geo u l row i at n whole trees lt fits =
    let part : Part = get_or row i no_part in
    let front : List ℕ = row_bytes u l (take i row) in
    let own : List ℕ = row_bytes u l (get_or row i no_part ∷ []) in
    let rest : List ℕ = row_bytes u l (drop (i + 1) row) in
    let all : row_bytes u l row ≡ row_bytes u l (take i row) ++ (row_bytes u l (get_or row i no_part ∷ []) ++ row_bytes u l (drop (i + 1) row)) =
    ap (row_bytes u l) (around_row row i lt) ∙ bytes_app u l (take i row) ((get_or row i no_part ∷ []) ++ drop (i + 1) row)
    ∙ ap (λ xs. row_bytes u l (take i row) ++ xs) (bytes_app u l (get_or row i no_part ∷ []) (drop (i + 1) row)) in
    let parts = subst (AreTrees geo u l) (around_row row i lt) trees in
    let first = split_each _ (take i row) ((get_or row i no_part ∷ []) ++ drop (i + 1) row) parts in
    let second = split_each _ (get_or row i no_part ∷ []) (drop (i + 1) row) first.1 in
    let front_len : length (row_bytes u l (take i row)) ≡ row_size (take i row) = row_length geo u l (take i row) whole first.0 in
    let own_len : length (row_bytes u l (get_or row i no_part ∷ [])) ≡ row_size (get_or row i no_part ∷ []) = row_length geo u l (get_or row i no_part ∷ []) whole second.0 in
    ap (λ xs. take n (drop (row_size (take i row) + at) xs)) all
    ∙ ap (λ k. take n (drop (k + at) (row_bytes u l (take i row) ++ (row_bytes u l (get_or row i no_part ∷ []) ++ row_bytes u l (drop (i + 1) row))))) (sym front_len)
    ∙ ap (take n) (drop-append-add (row_bytes u l (take i row)) (row_bytes u l (get_or row i no_part ∷ []) ++ row_bytes u l (drop (i + 1) row)) at)
    ∙ ap (take n) (drop-append-le at (row_bytes u l (get_or row i no_part ∷ [])) (row_bytes u l (drop (i + 1) row)) (omega (arith, own_len)))
    ∙ take-append-le n (drop at (row_bytes u l (get_or row i no_part ∷ []))) (row_bytes u l (drop (i + 1) row)) (omega (arith, own_len, length-drop at (row_bytes u l (get_or row i no_part ∷ []))))

-- ---- the loop over the row

pub record ReadSoFar {S : Type 0} (g : ground.Ghosts S) (old now : S) (level least : ℕ) (row : List Part) (pos : ℕ) (before out : List ℕ) (i at done : ℕ) : Type 0 where
  pub kept : Keeps g old now
  pub len : length out ≡ length before
  pub at_is : at ≡ pos - row_size (take i row)
  pub done_is : done ≡ min (length before) (row_size (take i row) - pos)
  pub bytes : g.tells old → AreTrees (g.geometry old) (g.unit old) level row → take done out ≡ take done (drop pos (row_bytes (g.unit old) level row))
  pub way : g.tells old → (byte : ℕ) → pos ≤ byte → byte < pos + done → IsSoundWay (g.geometry old) (g.unit old) (NamesLeaf (g.geometry old)) level least row byte byte

-- what stands in a buffer after a part of it is written
pub part_put : (out p after : List ℕ) (done n : ℕ) → after ≡ put_mid done (done + n - done) out p → after ≡ take done out ++ (p ++ drop (done + n) out)
part_put out p after done n is =
    let count : done + (done + n - done) ≡ done + n = omega arith in
    is ∙ ap (λ xs. take done out ++ (p ++ xs)) (drop-drop (done + n - done) done out ∙ ap (λ k. drop k out) count)

-- where the next tree begins, and how many bytes are read then
record Next (size front len pos at done n : ℕ) : Type 0 where
  next_at : at - size ≡ pos - (front + size)
  next_done : done + n ≡ min len (front + size - pos)
  place : n ≢ 0 → (pos + done ≡ front + at) × (at + n ≤ size)

next : (size front len pos at done n : ℕ) → at ≡ pos - front → done ≡ min len (front - pos) → n ≡ min (len - done) (size - at) → Next size front len pos at done n
next size front len pos at done n at_is done_is n_is = record {
  next_at = omega (arith, at_is);
  next_done = omega (arith, at_is, done_is, n_is);
  place = λ some. (placed n some n_is, within n some n_is);
}
  where
    placed : (n : ℕ) → n ≢ 0 → n ≡ min (len - done) (size - at) → pos + done ≡ front + at
    placed zero some is = absurd (some refl)
    placed (suc n) some is = omega (arith, at_is, done_is, is)

    within : (n : ℕ) → n ≢ 0 → n ≡ min (len - done) (size - at) → at + n ≤ size
    within zero some is = absurd (some refl)
    within (suc n) some is = omega (arith, is)

module _ {S : Type 0} (g : ground.Ghosts S) where
  -- no byte of a tree is read
  pub read_past : (old now : S) (level least : ℕ) (row : List Part) (pos : ℕ) (before out : List ℕ) (i at done n : ℕ) → i < length row → n ≡ min (length out - done) ((get_or row i no_part).size - at) → n ≡ 0
      → ReadSoFar g old now level least row pos before out i at done → ReadSoFar g old now level least row pos before out (i + 1) (at - (get_or row i no_part).size) (done + n)
  read_past old now level least row pos before out i at done n lt n_is none h =
      let numbers = next (get_or row i no_part).size (row_size (take i row)) (length before) pos at done n h.at_is h.done_is (n_is ∙ ap (λ k. min (k - done) ((get_or row i no_part).size - at)) h.len) in
      let front : row_size (take (i + 1) row) ≡ row_size (take i row) + (get_or row i no_part).size = size-front row i lt in
      let same : done + n ≡ done = omega (arith, none) in
      record {
        kept = h.kept;
        len = h.len;
        at_is = numbers.next_at ∙ ap (λ k. pos - k) (sym front);
        done_is = numbers.next_done ∙ ap (λ k. min (length before) (k - pos)) (sym front);
        bytes = λ told trees. ap (λ k. take k out) same ∙ h.bytes told trees ∙ ap (λ k. take k (drop pos (row_bytes (g.unit old) level row))) (sym same);
        way = λ told byte low high. h.way told byte low (omega (arith, high, same));
      }

  -- where in the range the bytes of a tree stand that are read next
  pub part_place : (old now : S) (level least : ℕ) (row : List Part) (pos : ℕ) (before out : List ℕ) (i at done n : ℕ) → n ≡ min (length out - done) ((get_or row i no_part).size - at) → n ≢ 0
      → ReadSoFar g old now level least row pos before out i at done → (pos + done ≡ row_size (take i row) + at) × (done + n ≤ length before)
  part_place old now level least row pos before out i at done n n_is some h =
      let numbers = next (get_or row i no_part).size (row_size (take i row)) (length before) pos at done n h.at_is h.done_is (n_is ∙ ap (λ k. min (k - done) ((get_or row i no_part).size - at)) h.len) in
      ((numbers.place some).0, omega (arith, numbers.next_done))

  -- so many bytes of a tree are read
  pub read_more : (old now new : S) (level least : ℕ) (row : List Part) (pos : ℕ) (before out after p : List ℕ) (i at done n m : ℕ) → g.ready old → m ≡ n → i < length row → n ≡ min (length out - done) ((get_or row i no_part).size - at) → n ≢ 0
      → ReadSoFar g old now level least row pos before out i at done → Keeps g now new → length p ≡ m
      → (g.tells now → AreTrees (g.geometry now) (g.unit now) level (get_or row i no_part ∷ []) → p ≡ take m (drop at (row_bytes (g.unit now) level (get_or row i no_part ∷ []))))
      → (g.tells now → (byte : ℕ) → at ≤ byte → byte < at + m → IsSoundWay (g.geometry now) (g.unit now) (NamesLeaf (g.geometry now)) level least (get_or row i no_part ∷ []) byte byte)
      → after ≡ take done out ++ (p ++ drop (done + n) out)
      → ReadSoFar g old new level least row pos before after (i + 1) (at - (get_or row i no_part).size) (done + n)
  read_more old now new level least row pos before out after p i at done n m ready m_is lt n_is some h k len_is read ways after_is =
      let p_len : length p ≡ n = len_is ∙ m_is in
      let part : Part = get_or row i no_part in
      let numbers = next (get_or row i no_part).size (row_size (take i row)) (length before) pos at done n h.at_is h.done_is (n_is ∙ ap (λ k. min (k - done) ((get_or row i no_part).size - at)) h.len) in
      let place = numbers.place some in
      let front : row_size (take (i + 1) row) ≡ row_size (take i row) + (get_or row i no_part).size = size-front row i lt in
      let within : done + n ≤ length out = omega (arith, n_is, h.done_is, h.len) in
      let done_len : length (take done out) ≡ done = length-take-le done out (omega (arith, within)) in
      let rest_len : length (drop (done + n) out) ≡ length out - (done + n) = length-drop (done + n) out in
      let fronts : take (done + n) (take done out ++ (p ++ drop (done + n) out)) ≡ take done out ++ p =
      ap (take (done + n)) (sym (append_assoc (take done out) p (drop (done + n) out))) ∙ take_at (take done out ++ p) (drop (done + n) out) (done + n) (omega (arith, length-append (take done out) p, done_len, p_len)) in
      record {
        kept = keeps_on g old now new h.kept k;
        len = ap length after_is ∙ omega (arith, length-append (take done out) (p ++ drop (done + n) out), length-append p (drop (done + n) out), done_len, p_len, rest_len, within, h.len);
        at_is = numbers.next_at ∙ ap (λ k. pos - k) (sym front);
        done_is = numbers.next_done ∙ ap (λ k. min (length before) (k - pos)) (sym front);
        bytes = λ told trees.
            let told_now = g.leads_told old now h.kept.leads told in
            let one : AreTrees (g.geometry old) (g.unit old) level (get_or row i no_part ∷ []) =
            (split_each _ (get_or row i no_part ∷ []) (drop (i + 1) row) (split_each _ (take i row) ((get_or row i no_part ∷ []) ++ drop (i + 1) row) (subst (AreTrees (g.geometry old) (g.unit old) level) (around_row row i lt) trees)).1).0 in
            let own : p ≡ take n (drop at (row_bytes (g.unit old) level (get_or row i no_part ∷ []))) =
            bytes_back g old now level n at (get_or row i no_part ∷ []) p h.kept (read told_now (trees_back g old now level (get_or row i no_part ∷ []) h.kept one) ∙ ap (λ k. take k (drop at (row_bytes (g.unit now) level (get_or row i no_part ∷ [])))) m_is) in
            let there : take n (drop at (row_bytes (g.unit old) level (get_or row i no_part ∷ []))) ≡ take n (drop done (drop pos (row_bytes (g.unit old) level row))) =
            sym (own_part (g.geometry old) (g.unit old) level row i at n (g.whole old ready told) trees lt place.1)
            ∙ ap (λ q. take n (drop q (row_bytes (g.unit old) level row))) (sym place.0) ∙ ap (take n) (sym (drop-drop done pos (row_bytes (g.unit old) level row))) in
            ap (take (done + n)) after_is ∙ fronts ∙ ap (λ xs. xs ++ p) (h.bytes told trees) ∙ ap (λ xs. take done (drop pos (row_bytes (g.unit old) level row)) ++ xs) (own ∙ there)
            ∙ sym (take-add done n (drop pos (row_bytes (g.unit old) level row)));
        way = λ told byte low high. elim (cases_lt byte (pos + done)) [
          | inl early ↦ h.way told byte low early
          | inr here ↦ way_index (g.geometry old) (g.unit old) (NamesLeaf (g.geometry old)) level least row i byte byte lt (omega arith) (omega (arith, place.0, here)) (omega (arith, place.0, place.1, high))
              (way_kept g NamesLeaf old now level least (get_or row i no_part ∷ []) (byte - row_size (take i row)) (byte - row_size (take i row)) h.kept
              (λ later. ways later (byte - row_size (take i row)) (omega (arith, place.0, here)) (omega (arith, place.0, here, high, m_is))) told)
        ];
      }

  -- all is read
  pub read_all : (old now : S) (level least : ℕ) (row : List Part) (pos : ℕ) (before out : List ℕ) (i at done : ℕ) → length row ≤ i → length before ≤ row_size row - pos → ReadSoFar g old now level least row pos before out i at done
      → (done ≡ length before) × (take done out ≡ out)
  read_all old now level least row pos before out i at done end range h =
      let all : take i row ≡ row = take_all i row end in
      let is : done ≡ length before = omega (arith, h.done_is, ap row_size all, range) in
      (is, take_all done out (omega (arith, is, h.len)))

  -- nothing is read yet
  pub read_none : (old : S) (level least : ℕ) (row : List Part) (pos : ℕ) (out : List ℕ) → ReadSoFar g old old level least row pos out out 0 pos 0
  read_none old level least row pos out = record {
    kept = keeps_refl g old;
    len = refl;
    at_is = omega arith;
    done_is = omega arith;
    bytes = λ told trees. refl;
    way = λ told byte low high. absurd (omega (arith, low, high));
  }

  -- what all of it says
  pub bytes_all : (old now : S) (level least : ℕ) (row : List Part) (pos : ℕ) (before out : List ℕ) (i at done : ℕ) → length row ≤ i → length before ≤ row_size row - pos → ReadSoFar g old now level least row pos before out i at done
      → g.tells old → AreTrees (g.geometry old) (g.unit old) level row → out ≡ take (length before) (drop pos (row_bytes (g.unit old) level row))
  bytes_all old now level least row pos before out i at done end range h told trees =
      let all = read_all old now level least row pos before out i at done end range h in
      sym all.1 ∙ h.bytes told trees ∙ ap (λ k. take k (drop pos (row_bytes (g.unit old) level row))) all.0

  pub way_all : (old now : S) (level least : ℕ) (row : List Part) (pos : ℕ) (before out : List ℕ) (i at done : ℕ) → length row ≤ i → length before ≤ row_size row - pos → ReadSoFar g old now level least row pos before out i at done
      → g.tells old → (byte : ℕ) → pos ≤ byte → byte < pos + length before → IsSoundWay (g.geometry old) (g.unit old) (NamesLeaf (g.geometry old)) level least row byte byte
  way_all old now level least row pos before out i at done end range h told byte low high =
      h.way told byte low (omega (arith, high, (read_all old now level least row pos before out i at done end range h).0))
