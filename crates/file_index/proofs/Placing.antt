-- The entries before and behind the one that a key leads to.
use Rattle.std.proofs.Common.{◌≡◌, ◌≤◌, ◌<◌, ◌+◌, ℕ, zero, suc, List, [], ◌∷◌, ◌++◌, length, take, drop, Some, refl, sym, ap, subst, ◌∙◌, arith}
use Rattle.std.specs.Prelude.{slice_index_or}
use Rattle.std.specs.List.{flat_map, AllByRecursion}
use Rattle.ex_base.specs.declared.ground.Ground as ground
use Rattle.ex_base.specs.Ports.{Keeps}
use Rattle.file_index.specs.declared.Entry.{Entry}
use Rattle.file_index.specs.Changes.{Changes}
use Rattle.file_index.specs.Index.{IsUnder, Rises, keys_under}
use Rattle.file_index.specs.Nodes.{IsPlace}
use Rattle.file_index.specs.Edits.{keys_among, pages_among, IsRow, Becomes}
use Rattle.file_index.proofs.Under.{Begins, begins, each_map}
use Rattle.file_index.proofs.Counts.{keeps_changes, changes_trans}
use Rattle.file_index.proofs.Context.{each_front, each_back, keys_split, pages_split, replaced}
use Rattle.file_index.proofs.Lists.{IsAbove, IsBehind, IsLocal}
use Rattle.file_index.proofs.Picking.{rises_back, rises_front}

-- the entry at a place, between those before and behind it
pub record SplitAt (entries : List Entry) (at : ℕ) : Type 0 where
  pub entry : Entry
  pub is : entries ≡ take at entries ++ (entry ∷ drop (at + 1) entries)
  pub item : (none : Entry) → slice_index_or entries at none ≡ entry
  pub next : (none : Entry) → slice_index_or entries (at + 1) none ≡ slice_index_or (drop (at + 1) entries) 0 none
  pub front : length (take at entries) ≡ at
  pub back : length (drop (at + 1) entries) + (at + 1) ≡ length entries

pub split_at : (entries : List Entry) (at : ℕ) → at < length entries → SplitAt entries at
split_at [] at lt = absurd (omega arith)
split_at (x ∷ entries) zero lt = record { entry = x; is = refl; item = λ none. refl; next = λ none. refl; front = refl; back = omega arith }
split_at (x ∷ entries) (suc at) lt =
    let s = split_at entries at (omega arith) in
    let count : suc at + 1 ≡ suc (at + 1) = omega arith in
    let behind : drop (suc at + 1) (x ∷ entries) ≡ drop (at + 1) entries = ap (λ (k : ℕ). drop k (x ∷ entries)) count in
    record {
      entry = s.entry;
      is = ap (λ (t : List Entry). x ∷ t) s.is ∙ ap (λ (t : List Entry). x ∷ (take at entries ++ (s.entry ∷ t))) (sym behind);
      item = s.item;
      next = λ none. ap (λ (k : ℕ). slice_index_or (x ∷ entries) k none) count ∙ s.next none ∙ ap (λ (t : List Entry). slice_index_or t 0 none) (sym behind);
      front = ap suc s.front;
      back = omega (arith, ap length behind, s.back);
    }

-- what a key is to the entries around its place
above : (K : Entry → List ℕ) (key : ℕ) (back : List Entry) → AllByRecursion (λ (e : Entry). Begins e.key (K e)) back → (0 < length back → (none : Entry) → key < (slice_index_or back 0 none).key) → IsAbove key (flat_map K back)
above K key [] each h = tt
above K key (e ∷ back) each h = subst (IsAbove key) (sym (ap (λ (t : List ℕ). t ++ flat_map K back) each.0.is)) (h (omega arith) e)

begins_low : (key low : ℕ) (xs ys rest : List ℕ) → ys ≡ low ∷ rest → low ≤ key → IsBehind key xs ys
begins_low key low [] ys rest is le = tt
begins_low key low (x ∷ xs) ys rest is le = subst (IsBehind key (x ∷ xs)) (sym is) le

behind : (K : Entry → List ℕ) (key : ℕ) (front : List Entry) (entry : Entry) (rest : List ℕ) → Begins entry.key (K entry) → (0 < length front → entry.key ≤ key) → IsBehind key (flat_map K front) ((K entry ++ []) ++ rest)
behind K key [] entry rest b h = tt
behind K key (f ∷ front) entry rest b h = begins_low key entry.key (flat_map K (f ∷ front)) ((K entry ++ []) ++ rest) ((b.rest ++ []) ++ rest) (ap (λ (t : List ℕ). (t ++ []) ++ rest) b.is) (h (omega arith))

module _ {S : Type 0} (g : ground.Ghosts S) (a : S) (file_no level : ℕ) where
  -- entries between others
  pub row_part : (A M B : List Entry) → IsRow g a file_no level (A ++ (M ++ B)) → IsRow g a file_no level M
  row_part A M B row =
      let P : Entry → Type 0 = λ e. IsUnder (g.geometry a) file_no (g.image a) level (Some e.key) e.page.0 in
      let rises : Rises 0 (keys_among (g.image a) level A ++ (keys_among (g.image a) level M ++ keys_among (g.image a) level B)) = subst (Rises 0) (keys_split (g.image a) level A M B) row.rising in
      record {
        under = each_front P M B (each_back P A (M ++ B) row.under);
        rising = rises_front 0 (keys_among (g.image a) level M) (keys_among (g.image a) level B) (rises_back 0 (keys_among (g.image a) level A) (keys_among (g.image a) level M ++ keys_among (g.image a) level B) rises);
        once = λ p. omega (arith, pages_split (g.image a) level p A M B, row.once p);
      }

  pub record Placed (key : ℕ) (entries : List Entry) (at : ℕ) (entry : Entry) : Type 0 where
    pub is : entries ≡ take at entries ++ ((entry ∷ []) ++ drop (at + 1) entries)
    pub row : IsRow g a file_no level (entry ∷ [])
    pub low : IsBehind key (keys_among (g.image a) level (take at entries)) (keys_among (g.image a) level (entry ∷ []) ++ keys_among (g.image a) level (drop (at + 1) entries))
    pub high : IsAbove key (keys_among (g.image a) level (drop (at + 1) entries))

  pub placed : (key : ℕ) (entries : List Entry) (at : ℕ) (entry : Entry) → IsPlace key entries at → entry ≡ slice_index_or entries at entry → IsRow g a file_no level entries → Placed key entries at entry
  placed key entries at entry place item row =
      let s = split_at entries at place.inside in
      let same : s.entry ≡ entry = sym (item ∙ s.item entry) in
      let is : entries ≡ take at entries ++ (entry ∷ drop (at + 1) entries) = s.is ∙ ap (λ (e : Entry). take at entries ++ (e ∷ drop (at + 1) entries)) same in
      let K : Entry → List ℕ = λ e. keys_under (g.image a) level e.page.0 in
      let P : Entry → Type 0 = λ e. IsUnder (g.geometry a) file_no (g.image a) level (Some e.key) e.page.0 in
      let whole : IsRow g a file_no level (take at entries ++ ((entry ∷ []) ++ drop (at + 1) entries)) = subst (IsRow g a file_no level) is row in
      let begin : (e : Entry) → P e → Begins e.key (keys_under (g.image a) level e.page.0) = λ e u. begins (g.geometry a) file_no (g.image a) level e.key e.page.0 u in
      let rest = each_back P (take at entries) (entry ∷ drop (at + 1) entries) whole.under in
      record {
        is = is;
        row = row_part (take at entries) (entry ∷ []) (drop (at + 1) entries) whole;
        low = behind K key (take at entries) entry (keys_among (g.image a) level (drop (at + 1) entries)) (begin entry rest.0)
            (λ some. subst (λ (e : Entry). e.key ≤ key) (sym item) (place.low (omega (arith, s.front)) entry));
        high = above K key (drop (at + 1) entries) (each_map {Q = λ (e : Entry). Begins e.key (keys_under (g.image a) level e.page.0)} (drop (at + 1) entries) begin rest.1)
            (λ some none. subst (λ (e : Entry). key < e.key) (s.next none) (place.high (omega (arith, s.back)) none));
      }

  -- the same entries in a state that keeps everything
  pub row_kept : (b : S) (es : List Entry) → Keeps g a b → IsRow g a file_no level es → IsRow g b file_no level es
  row_kept b es kept row = record {
    under = rw (g.leads_geometry a b kept.leads, kept.images) row.under;
    rising = rw kept.images row.rising;
    once = rw (kept.images, kept.held) row.once;
  }

  pub turns_kept : (b c : S) (edit : List ℕ → List ℕ) (es N : List Entry) → Keeps g a b → Becomes g b c file_no level edit es N → Becomes g a c file_no level edit es N
  turns_kept b c edit es N kept becomes =
      let same : pages_among (g.image b) level es ≡ pages_among (g.image a) level es = ap (λ (f : ℕ → List ℕ). pages_among f level es) kept.images in
      record {
        row = becomes.row;
        keys = becomes.keys ∙ ap (λ (f : ℕ → List ℕ). edit (keys_among f level es)) kept.images;
        changes = changes_trans g a b c (pages_among (g.image a) level es) (pages_among (g.image a) level es) (pages_among (g.image c) level N) (keeps_changes g a b (pages_among (g.image a) level es) kept)
            (subst (λ (t : List ℕ). Changes g b c t (pages_among (g.image c) level N)) same becomes.changes);
      }

  -- an entry at its key's place becomes others
  pub replaced_at : (c : S) (key : ℕ) (edit : List ℕ → List ℕ) (entries N now : List Entry) (at : ℕ) (entry : Entry) → IsLocal key edit → IsRow g a file_no level entries → Placed key entries at entry
      → Becomes g a c file_no level edit (entry ∷ []) N → now ≡ take at entries ++ (N ++ drop (at + 1) entries) → Becomes g a c file_no level edit entries now
  replaced_at c key edit entries N now at entry local row p becomes is =
      let whole : IsRow g a file_no level (take at entries ++ ((entry ∷ []) ++ drop (at + 1) entries)) = subst (IsRow g a file_no level) p.is row in
      let all = replaced g a c file_no level edit (take at entries) (entry ∷ []) N (drop (at + 1) entries) local.rises whole becomes
      (λ rises. local.middle 0 (keys_among (g.image a) level (take at entries)) (keys_among (g.image a) level (entry ∷ [])) (keys_among (g.image a) level (drop (at + 1) entries)) rises p.low p.high) in
      subst (λ (t : List Entry). Becomes g a c file_no level edit t now) (sym p.is) (subst (λ (t : List Entry). Becomes g a c file_no level edit (take at entries ++ ((entry ∷ []) ++ drop (at + 1) entries)) t) (sym is) all)
