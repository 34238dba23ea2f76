-- Two entries side by side whose pages were written together, since one of them had too few entries.
use Rattle.std.proofs.Common.{◌≡◌, ◌≢◌, ◌≤◌, ◌<◌, ◌+◌, ◌-◌, ◌/◌, ℕ, zero, suc, Bool, true, false, List, [], ◌∷◌, ◌++◌, length, take, drop, Option, Some, refl, sym, ap, subst, ◌∙◌, arith}
use Rattle.std.specs.Prelude.{slice_index_or, ◌==◌, if◌then◌else◌, option_to_list}
use Rattle.std.proofs.lemmas.List.{append-nil}
use Rattle.std.proofs.lemmas.List.Concat.{flat_map-append}
use Rattle.ex_base.specs.declared.ground.Ground as ground
use Rattle.ex_base.specs.declared.geometry.Geometry.{Geometry}
use Rattle.ex_base.specs.Ports.{times, Keeps}
use Rattle.ex_base.proofs.Counts.{not_equal, times_here}
use Rattle.file_index.specs.declared.Entry.{Entry}
use Rattle.file_index.specs.IndexPage.{entries_on, most_entries}
use Rattle.file_index.specs.declared.spreading.Pair.{Pair}
use Rattle.file_index.specs.Changes.{Changes}
use Rattle.file_index.specs.Index.{IsFilesPage, IsNamed, Rises, keys_under}
use Rattle.file_index.specs.Nodes.{heads, first_key, joined, thin_of, beside_of, Stored, IsPlace}
use Rattle.file_index.specs.Edits.{keys_among, pages_among, IsRow, Becomes, take_out}
use Rattle.file_index.proofs.Closing.{row_rises}
use Rattle.file_index.proofs.Context.{replaced, keys_split, pages_split}
use Rattle.file_index.proofs.Counts.{is_counted, count_is}
use Rattle.file_index.proofs.Lists.{Lacks, lacks_low, lacks_high, lacks_front, lacks_back, out_middle, out_local}
use Rattle.file_index.proofs.Picking.{rises_back}
use Rattle.file_index.proofs.Placing.{Placed, placed, split_at, row_part, turns_kept}
use Rattle.file_index.proofs.Rewriting.{below_all, OpenRow, open_row, rewritten}
use Rattle.file_index.proofs.Stepping.{news}

-- two entries, between those before and behind them
pub record PairAt (entries : List Entry) (first : ℕ) (left right : Entry) : Type 0 where
  pub is : entries ≡ take first entries ++ ((left ∷ right ∷ []) ++ drop (first + 2) entries)
  pub front : take (first + 1) entries ≡ take first entries ++ (left ∷ [])
  pub back : drop (first + 1) entries ≡ right ∷ drop (first + 2) entries

pub pair_at : (entries : List Entry) (first : ℕ) (left right : Entry) → first + 1 < length entries → left ≡ slice_index_or entries first left → right ≡ slice_index_or entries (first + 1) right → PairAt entries first left right
pair_at [] first left right lt l r = absurd (omega arith)
pair_at (x ∷ []) first left right lt l r = absurd (omega arith)
pair_at (x ∷ y ∷ entries) zero left right lt l r = record {
  is = ap (λ (e : Entry). e ∷ y ∷ entries) (sym l) ∙ ap (λ (e : Entry). left ∷ e ∷ entries) (sym r);
  front = ap (λ (e : Entry). e ∷ []) (sym l);
  back = ap (λ (e : Entry). e ∷ entries) (sym r);
}
pair_at (x ∷ y ∷ entries) (suc first) left right lt l r =
    let one : suc first + 1 ≡ suc (first + 1) = omega arith in
    let two : suc first + 2 ≡ suc (first + 2) = omega arith in
    let rest = pair_at (y ∷ entries) first left right (omega arith) l (r ∙ ap (λ (k : ℕ). slice_index_or (x ∷ y ∷ entries) k right) one) in
    let behind : drop (suc first + 2) (x ∷ y ∷ entries) ≡ drop (first + 2) (y ∷ entries) = ap (λ (k : ℕ). drop k (x ∷ y ∷ entries)) two in
    record {
      is = ap (λ (t : List Entry). x ∷ t) rest.is ∙ ap (λ (t : List Entry). x ∷ (take first (y ∷ entries) ++ (left ∷ right ∷ t))) (sym behind);
      front = ap (λ (k : ℕ). take k (x ∷ y ∷ entries)) one ∙ ap (λ (t : List Entry). x ∷ t) rest.front;
      back = ap (λ (k : ℕ). drop k (x ∷ y ∷ entries)) one ∙ rest.back ∙ ap (λ (t : List Entry). right ∷ t) (sym behind);
    }

module _ {S : Type 0} (g : ground.Ghosts S) (a : S) (file_no m key : ℕ) where
  -- what lacks the key, where it leads to one of two entries
  pub record LacksBeside (l : ℕ) (A B : List Entry) (beside : Entry) : Type 0 where
    pub front : Lacks key (keys_among (g.image a) l A)
    pub back : Lacks key (keys_among (g.image a) l B)
    pub other : Lacks key (keys_under (g.image a) l beside.page.0)

  pub lacks_beside : (l : ℕ) (entries : List Entry) (at first : ℕ) (pair : Pair) → first ≡ at - 1 → pair.thin_is_left ≡ (at == 0) → PairAt entries first pair.left pair.right → IsRow g a file_no l entries
      → Placed g a file_no l key entries at (thin_of pair) → LacksBeside l (take first entries) (drop (first + 2) entries) (beside_of pair)
  lacks_beside l entries zero first pair is thin p row placed =
      let K : Entry → List ℕ = λ e. keys_under (g.image a) l e.page.0 in
      let whole : Rises 0 (keys_among (g.image a) l (take 0 entries) ++ (keys_among (g.image a) l (thin_of pair ∷ []) ++ keys_among (g.image a) l (drop (0 + 1) entries))) =
      subst (Rises 0) (ap (keys_among (g.image a) l) placed.is ∙ keys_split (g.image a) l (take 0 entries) (thin_of pair ∷ []) (drop (0 + 1) entries)) row.rising in
      let rest : Rises 0 (keys_among (g.image a) l (drop (0 + 1) entries)) = rises_back 0 (keys_among (g.image a) l (thin_of pair ∷ [])) (keys_among (g.image a) l (drop (0 + 1) entries)) whole in
      let high : Lacks key (keys_among (g.image a) l (drop (0 + 1) entries)) = lacks_high 0 key (keys_among (g.image a) l (drop (0 + 1) entries)) rest placed.high in
      let zero_first : first ≡ 0 = is in
      let behind : drop (0 + 1) entries ≡ pair.right ∷ drop (first + 2) entries = ap (λ (k : ℕ). drop (k + 1) entries) (sym zero_first) ∙ p.back in
      let both : Lacks key (keys_under (g.image a) l pair.right.page.0 ++ keys_among (g.image a) l (drop (first + 2) entries)) = subst (λ (t : List Entry). Lacks key (keys_among (g.image a) l t)) behind high in
      let is_right : beside_of pair ≡ pair.right = ap (λ (t : Bool). if t then pair.right else pair.left) thin in
      record {
        front = subst (λ (k : ℕ). Lacks key (keys_among (g.image a) l (take k entries))) (sym zero_first) tt;
        back = lacks_back key (keys_under (g.image a) l pair.right.page.0) (keys_among (g.image a) l (drop (first + 2) entries)) both;
        other = subst (λ (e : Entry). Lacks key (keys_under (g.image a) l e.page.0)) (sym is_right) (lacks_front key (keys_under (g.image a) l pair.right.page.0) (keys_among (g.image a) l (drop (first + 2) entries)) both);
      }
  lacks_beside l entries (suc k) first pair is thin p row placed =
      let same : first ≡ k = omega (arith, is) in
      let next : suc k ≡ first + 1 = omega arith in
      let more : suc k + 1 ≡ first + 2 = omega arith in
      let whole : Rises 0 (keys_among (g.image a) l (take (suc k) entries) ++ (keys_among (g.image a) l (thin_of pair ∷ []) ++ keys_among (g.image a) l (drop (suc k + 1) entries))) =
      subst (Rises 0) (ap (keys_among (g.image a) l) placed.is ∙ keys_split (g.image a) l (take (suc k) entries) (thin_of pair ∷ []) (drop (suc k + 1) entries)) row.rising in
      let low : Lacks key (keys_among (g.image a) l (take (suc k) entries)) = lacks_low 0 key (keys_among (g.image a) l (take (suc k) entries)) (keys_among (g.image a) l (thin_of pair ∷ []) ++ keys_among (g.image a) l (drop (suc k + 1) entries)) whole placed.low in
      let rest = rises_back 0 (keys_among (g.image a) l (thin_of pair ∷ [])) (keys_among (g.image a) l (drop (suc k + 1) entries)) (rises_back 0 (keys_among (g.image a) l (take (suc k) entries)) (keys_among (g.image a) l (thin_of pair ∷ []) ++ keys_among (g.image a) l (drop (suc k + 1) entries)) whole) in
      let high : Lacks key (keys_among (g.image a) l (drop (suc k + 1) entries)) = lacks_high 0 key (keys_among (g.image a) l (drop (suc k + 1) entries)) rest placed.high in
      let before : take (suc k) entries ≡ take first entries ++ (pair.left ∷ []) = ap (λ (n : ℕ). take n entries) next ∙ p.front in
      let split : keys_among (g.image a) l (take (suc k) entries) ≡ keys_among (g.image a) l (take first entries) ++ (keys_under (g.image a) l pair.left.page.0 ++ []) =
      ap (keys_among (g.image a) l) before ∙ flat_map-append (λ (e : Entry). keys_under (g.image a) l e.page.0) (take first entries) (pair.left ∷ []) in
      let both : Lacks key (keys_among (g.image a) l (take first entries) ++ (keys_under (g.image a) l pair.left.page.0 ++ [])) = subst (Lacks key) split low in
      let is_left : beside_of pair ≡ pair.left = ap (λ (t : Bool). if t then pair.right else pair.left) (thin ∙ not_equal (suc k) 0 (λ same. omega arith)) in
      record {
        front = lacks_front key (keys_among (g.image a) l (take first entries)) (keys_under (g.image a) l pair.left.page.0 ++ []) both;
        back = subst (λ (n : ℕ). Lacks key (keys_among (g.image a) l (drop n entries))) more high;
        other = subst (λ (e : Entry). Lacks key (keys_under (g.image a) l e.page.0)) (sym is_left)
            (lacks_front key (keys_under (g.image a) l pair.left.page.0) [] (lacks_back key (keys_among (g.image a) l (take first entries)) (keys_under (g.image a) l pair.left.page.0 ++ []) both));
      }

-- the entry that a key leads to is that of the page with too few entries
pub thin_is : (entries : List Entry) (at first : ℕ) (child : Entry) (pair : Pair) → first ≡ at - 1 → pair.thin_is_left ≡ (at == 0) → at < length entries
    → child ≡ slice_index_or entries at child
    → pair.left ≡ slice_index_or entries first pair.left → pair.right ≡ slice_index_or entries (first + 1) pair.right → thin_of pair ≡ child
thin_is entries zero first child pair is thin lt item left right =
    let s = split_at entries 0 lt in
    ap (λ (t : Bool). if t then pair.left else pair.right) thin ∙ left ∙ ap (λ (k : ℕ). slice_index_or entries k pair.left) is ∙ s.item pair.left ∙ sym (s.item child) ∙ sym item
thin_is entries (suc k) first child pair is thin lt item left right =
    let s = split_at entries (suc k) lt in
    let here : first + 1 ≡ suc k = omega (arith, is) in
    ap (λ (t : Bool). if t then pair.left else pair.right) (thin ∙ not_equal (suc k) 0 (λ same. omega arith)) ∙ right ∙ ap (λ (n : ℕ). slice_index_or entries n pair.right) here ∙ s.item pair.right ∙ sym (s.item child) ∙ sym item

module _ {S : Type 0} (g : ground.Ghosts S) (a : S) (file_no m key l : ℕ) (entries : List Entry) (at first : ℕ) (child : Entry) (pair : Pair) where
  pub record PairKnown : Type 0 where
    pub split : PairAt entries first pair.left pair.right
    pub lacks : LacksBeside g a file_no m key l (take first entries) (drop (first + 2) entries) (beside_of pair)
    pub thin : thin_of pair ≡ child

  pub pair_known : IsPlace key entries at → child ≡ slice_index_or entries at child → first ≡ at - 1 → pair.thin_is_left ≡ (at == 0) → 2 ≤ length entries
      → pair.left ≡ slice_index_or entries first pair.left → pair.right ≡ slice_index_or entries (first + 1) pair.right → IsRow g a file_no l entries → PairKnown
  pair_known place item is thin two left right row =
      let split = pair_at entries first pair.left pair.right (omega (arith, place.inside, is)) left right in
      let same = thin_is entries at first child pair is thin place.inside item left right in
      let here = placed g a file_no l key entries at child place item row in
      record {
        split = split;
        lacks = lacks_beside g a file_no m key l entries at first pair is thin split row (subst (λ (e : Entry). Placed g a file_no l key entries at e) (sym same) here);
        thin = same;
      }

module _ {S : Type 0} (g : ground.Ghosts S) (a : S) (file_no m : ℕ) (pair : Pair) where
  -- what is known of two pages side by side
  pub record Pages (l : ℕ) : Type 0 where
    pub opened : OpenRow g a file_no m l (pair.left ∷ pair.right ∷ [])
    pub left_held : g.held a pair.left.page.0 ≡ true
    pub right_held : g.held a pair.right.page.0 ≡ true
    pub differ : pair.left.page.0 ≢ pair.right.page.0
    pub left_apart : times pair.left.page.0 (pages_among (g.image a) m (below_all (g.image a) (pair.left ∷ pair.right ∷ []))) ≡ 0
    pub right_apart : times pair.right.page.0 (pages_among (g.image a) m (below_all (g.image a) (pair.left ∷ pair.right ∷ []))) ≡ 0

  pub pages_of_pair : (l : ℕ) → suc m ≡ l → IsRow g a file_no l (pair.left ∷ pair.right ∷ []) → Pages l
  pages_of_pair l step row =
      let o = open_row g a file_no m l (pair.left ∷ pair.right ∷ []) step row in
      let p : ℕ = pair.left.page.0 in
      let q : ℕ = pair.right.page.0 in
      let left_in : 1 ≤ times pair.left.page.0 (heads (pair.left ∷ pair.right ∷ [])) = omega (arith, times_here pair.left.page.0 pair.left.page.0 (pair.right.page.0 ∷ []) refl) in
      let right_in : 1 ≤ times pair.right.page.0 (heads (pair.left ∷ pair.right ∷ [])) = omega (arith, times_here pair.right.page.0 pair.right.page.0 [] refl) in
      record {
        opened = o;
        left_held = o.held pair.left.page.0 left_in;
        right_held = o.held pair.right.page.0 right_in;
        differ = λ same. absurd (omega (arith, o.once pair.left.page.0, times_here pair.left.page.0 pair.left.page.0 (pair.right.page.0 ∷ []) refl, times_here pair.left.page.0 pair.right.page.0 [] same));
        left_apart = o.apart pair.left.page.0 left_in;
        right_apart = o.apart pair.right.page.0 right_in;
      }

abbrev own_of : Bool → Entry → Entry → Entry
own_of thin left right = if thin then left else right

abbrev next_to : Bool → Entry → Entry → Entry
next_to thin left right = if thin then right else left

rises_of_out : (key : ℕ) → (xs : List ℕ) → Rises 0 xs → Rises 0 (take_out key xs)
rises_of_out key = (out_local key).rises

module _ {S : Type 0} (g : ground.Ghosts S) (a : S) (file_no m key : ℕ) (pair : Pair) where
  abbrev EL : List Entry
  EL = entries_on (g.image a pair.left.page.0)

  abbrev ER : List Entry
  ER = entries_on (g.image a pair.right.page.0)

  -- the entries of both pages, where those of one became others
  both_entries : (thin : Bool) (b : S) (N : List Entry) → IsRow g a file_no m (EL ++ (ER ++ []))
      → Becomes g a b file_no m (take_out key) (entries_on (g.image a (own_of thin pair.left pair.right).page.0)) N
      → Lacks key (keys_among (g.image a) m (entries_on (g.image a (next_to thin pair.left pair.right).page.0)))
      → Becomes g a b file_no m (take_out key) (EL ++ (ER ++ [])) (joined thin N (entries_on (g.image a (next_to thin pair.left pair.right).page.0)))
  both_entries true b N row was lacks =
      let same : ER ++ [] ≡ ER = append-nil ER in
      let all = replaced g a b file_no m (take_out key) [] EL N (ER ++ []) (rises_of_out key) row was
      (λ rises. out_middle key [] (keys_among (g.image a) m EL) (keys_among (g.image a) m (ER ++ [])) tt (subst (λ (t : List Entry). Lacks key (keys_among (g.image a) m t)) (sym same) lacks)) in
      subst (λ (t : List Entry). Becomes g a b file_no m (take_out key) (EL ++ (ER ++ [])) (N ++ t)) same all
  both_entries false b N row was lacks =
      let all = replaced g a b file_no m (take_out key) EL ER N [] (rises_of_out key) row was
      (λ rises. out_middle key (keys_among (g.image a) m EL) (keys_among (g.image a) m ER) [] lacks tt) in
      subst (λ (t : List Entry). Becomes g a b file_no m (take_out key) (EL ++ (ER ++ [])) (EL ++ t)) (append-nil N) all

  -- the page beside is none of those below the other
  beside_apart : (thin : Bool) (l : ℕ) → Pages g a file_no m pair l → times (next_to thin pair.left pair.right).page.0 (pages_among (g.image a) m (entries_on (g.image a (own_of thin pair.left pair.right).page.0))) ≡ 0
  beside_apart true l p = omega (arith, p.right_apart, pages_split (g.image a) m pair.right.page.0 EL ER [])
  beside_apart false l p = omega (arith, p.left_apart, pages_split (g.image a) m pair.left.page.0 EL ER [])

  beside_held : (thin : Bool) (l : ℕ) → Pages g a file_no m pair l → g.held a (next_to thin pair.left pair.right).page.0 ≡ true
  beside_held true l p = p.right_held
  beside_held false l p = p.left_held

  beside_named : (thin : Bool) (l : ℕ) → Pages g a file_no m pair l → IsFilesPage (g.geometry a) (next_to thin pair.left pair.right).page.0 × IsNamed (g.geometry a).page_size (g.image a (next_to thin pair.left pair.right).page.0) l file_no (Some (next_to thin pair.left pair.right).key)
  beside_named true l p = p.opened.named.1.0
  beside_named false l p = p.opened.named.0

  module _ (l : ℕ) (A B entries : List Entry) (step : suc m ≡ l) (is : entries ≡ A ++ ((pair.left ∷ pair.right ∷ []) ++ B)) (row : IsRow g a file_no l entries) (lacks : LacksBeside g a file_no m key l A B (beside_of pair)) where
    whole : IsRow g a file_no l (A ++ ((pair.left ∷ pair.right ∷ []) ++ B))
    whole = subst (IsRow g a file_no l) is row

    row_pair : IsRow g a file_no l (pair.left ∷ pair.right ∷ [])
    row_pair = row_part g a file_no l A (pair.left ∷ pair.right ∷ []) B whole

    known : Pages g a file_no m pair l
    known = pages_of_pair g a file_no m pair l step row_pair

    module _ (s b : S) (es N : List Entry) (kept : Keeps g a s) (read : es ≡ entries_on (g.image a (thin_of pair).page.0)) (below : Becomes g s b file_no m (take_out key) es N) where
      was : Becomes g a b file_no m (take_out key) (entries_on (g.image a (thin_of pair).page.0)) N
      was = subst (λ (t : List Entry). Becomes g a b file_no m (take_out key) t N) read (turns_kept g a file_no m s b (take_out key) es N kept below)

      same_image : g.image b (beside_of pair).page.0 ≡ g.image a (beside_of pair).page.0
      same_image = was.changes.images (beside_of pair).page.0 (beside_held pair.thin_is_left l known) (beside_apart pair.thin_is_left l known)

      same_geometry : g.geometry b ≡ g.geometry a
      same_geometry = g.leads_geometry a b was.changes.leads

      still_held : g.held b (beside_of pair).page.0 ≡ true
      still_held = is_counted (g.held b (beside_of pair).page.0) (omega (arith, was.changes.counted (beside_of pair).page.0, beside_apart pair.thin_is_left l known, count_is (g.held a (beside_of pair).page.0) (beside_held pair.thin_is_left l known)))

      -- the page beside is still held, and what its entry says
      pub still_named : (IsFilesPage (g.geometry b) (beside_of pair).page.0 → g.held b (beside_of pair).page.0 ≡ true → IsNamed (g.geometry b).page_size (g.image b (beside_of pair).page.0) l file_no (Some (beside_of pair).key) → ⊥) → ⊥
      still_named never =
          let n = beside_named pair.thin_is_left l known in
          never (subst (λ (y : Geometry). IsFilesPage y (beside_of pair).page.0) (sym same_geometry) n.0) still_held (subst (λ (y : Geometry). IsNamed y.page_size (g.image b (beside_of pair).page.0) l file_no (Some (beside_of pair).key)) (sym same_geometry)
          (subst (λ (t : List ℕ). IsNamed (g.geometry a).page_size t l file_no (Some (beside_of pair).key)) (sym same_image) n.1))

      both : Becomes g a b file_no m (take_out key) (EL ++ (ER ++ [])) (joined pair.thin_is_left N (entries_on (g.image b (beside_of pair).page.0)))
      both =
          let other : Lacks key (keys_among (g.image a) m (entries_on (g.image a (beside_of pair).page.0))) = (subst (λ (k : ℕ). Lacks key (keys_under (g.image a) k (beside_of pair).page.0)) (sym step) lacks.other) in
          subst (λ (t : List ℕ). Becomes g a b file_no m (take_out key) (EL ++ (ER ++ [])) (joined pair.thin_is_left N (entries_on t))) (sym same_image)
          (both_entries pair.thin_is_left b N known.opened.row was other)

      pub pages_differ : pair.left.page.0 ≢ pair.right.page.0
      pages_differ = known.differ

      pub mended : (c : S) (first : Entry) (second : Option Entry) (now : List Entry) → Changes g b c (pair.left.page.0 ∷ pair.right.page.0 ∷ []) (pair.left.page.0 ∷ heads (option_to_list second))
          → Stored g c pair.left.page.0 l file_no (joined pair.thin_is_left N (entries_on (g.image b (beside_of pair).page.0))) second
          → most_entries (g.geometry b).page_size / 2 ≤ length (joined pair.thin_is_left N (entries_on (g.image b (beside_of pair).page.0)))
          → first.page.0 ≡ pair.left.page.0 → first.key ≡ first_key (joined pair.thin_is_left N (entries_on (g.image b (beside_of pair).page.0)))
          → now ≡ A ++ ((first ∷ option_to_list second) ++ B) → Becomes g a c file_no l (take_out key) entries now
      mended c first second now changes stored half same_page same_key now_is =
          let enough : most_entries (g.geometry c).page_size / 2 ≤ length (joined pair.thin_is_left N (entries_on (g.image b (beside_of pair).page.0))) =
          subst (λ (y : Geometry). most_entries y.page_size / 2 ≤ length (joined pair.thin_is_left N (entries_on (g.image b (beside_of pair).page.0)))) (sym (g.leads_geometry b c changes.leads)) half in
          let n = news g c pair.left.page.0 l file_no first second (joined pair.thin_is_left N (entries_on (g.image b (beside_of pair).page.0))) stored
          (row_rises g b file_no m (joined pair.thin_is_left N (entries_on (g.image b (beside_of pair).page.0))) both.row) enough same_page same_key in
          let write : Changes g b c (heads (pair.left ∷ pair.right ∷ [])) (heads (first ∷ option_to_list second)) =
          subst (λ (p : ℕ). Changes g b c (pair.left.page.0 ∷ pair.right.page.0 ∷ []) (p ∷ heads (option_to_list second))) (sym same_page) changes in
          let becomes = rewritten g a b c file_no m l (take_out key) (pair.left ∷ pair.right ∷ []) (first ∷ option_to_list second) (joined pair.thin_is_left N (entries_on (g.image b (beside_of pair).page.0))) step row_pair both write n.named n.parts in
          let all = replaced g a c file_no l (take_out key) A (pair.left ∷ pair.right ∷ []) (first ∷ option_to_list second) B (rises_of_out key) whole becomes
          (λ rises. out_middle key (keys_among (g.image a) l A) (keys_among (g.image a) l (pair.left ∷ pair.right ∷ [])) (keys_among (g.image a) l B) lacks.front lacks.back) in
          subst (λ (t : List Entry). Becomes g a c file_no l (take_out key) t now) (sym is) (subst (λ (t : List Entry). Becomes g a c file_no l (take_out key) (A ++ ((pair.left ∷ pair.right ∷ []) ++ B)) t) (sym now_is) all)
