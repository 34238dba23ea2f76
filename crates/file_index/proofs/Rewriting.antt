-- Pages are written over entries that became others one level below.
use Rattle.std.proofs.Common.{◌≡◌, ◌≤◌, ◌+◌, ℕ, suc, true, List, [], ◌∷◌, ◌++◌, Some, refl, sym, ap, subst, ◌∙◌, arith}
use Rattle.std.specs.List.{flat_map, AllByRecursion}
use Rattle.std.proofs.lemmas.List.Concat.{flat_map-append}
use Rattle.ex_base.specs.declared.ground.Ground as ground
use Rattle.ex_base.specs.declared.geometry.Geometry.{Geometry}
use Rattle.ex_base.specs.Ports.{times}
use Rattle.ex_base.proofs.Rows.{each-append}
use Rattle.ex_base.proofs.Counts.{times-append}
use Rattle.ex_base.proofs.Each.{each_parted}
use Rattle.file_index.specs.declared.Entry.{Entry}
use Rattle.file_index.specs.IndexPage.{entries_on}
use Rattle.file_index.specs.Changes.{count_of, Changes}
use Rattle.file_index.specs.Index.{IsFilesPage, IsNamed, IsUnder, Rises, keys_under, pages_under}
use Rattle.file_index.specs.Nodes.{heads}
use Rattle.file_index.specs.Edits.{keys_among, pages_among, IsRow, Turns, Becomes}
use Rattle.file_index.proofs.Counts.{is_counted, count_most, changes_trans, changes_more}
use Rattle.file_index.proofs.Frame.{same_row, SameRow}
use Rattle.file_index.proofs.Context.{moved}

-- the entries on these pages
abbrev pub below_all : (ℕ → List ℕ) → List Entry → List Entry
below_all image es = flat_map (λ (e : Entry). entries_on (image e.page.0)) es

keys_open : (image : ℕ → List ℕ) (m : ℕ) (es : List Entry) → keys_among image (suc m) es ≡ keys_among image m (below_all image es)
keys_open image m [] = refl
keys_open image m (e ∷ es) =
    ap (λ (t : List ℕ). keys_among image m (entries_on (image e.page.0)) ++ t) (keys_open image m es)
    ∙ sym (flat_map-append (λ (x : Entry). keys_under image m x.page.0) (entries_on (image e.page.0)) (below_all image es))

pages_open : (image : ℕ → List ℕ) (m p : ℕ) (es : List Entry) → times p (pages_among image (suc m) es) ≡ times p (heads es) + times p (pages_among image m (below_all image es))
pages_open image m p [] = refl
pages_open image m p (e ∷ es) =
    let here : List ℕ = pages_among image m (entries_on (image e.page.0)) in
    let both = ap (times p) (flat_map-append (λ (x : Entry). pages_under image m x.page.0) (entries_on (image e.page.0)) (below_all image es)) ∙ times-append p (pages_among image m (entries_on (image e.page.0))) (pages_among image m (below_all image es)) in
    omega (arith, times-append p (pages_among image m (entries_on (image e.page.0))) (pages_among image (suc m) es), pages_open image m p es, both)

-- each entry names a page that is what it says
abbrev pub AreNamed : Geometry → ℕ → (ℕ → List ℕ) → ℕ → List Entry → Type 0
AreNamed g file_no image level es = AllByRecursion (λ (e : Entry). IsFilesPage g e.page.0 × IsNamed g.page_size (image e.page.0) level file_no (Some e.key)) es

closed : (g : Geometry) (file_no : ℕ) (image : ℕ → List ℕ) (m : ℕ) (es : List Entry) → AreNamed g file_no image (suc m) es
    → AllByRecursion (λ (e : Entry). AllByRecursion (λ (x : Entry). IsUnder g file_no image m (Some x.key) x.page.0) (entries_on (image e.page.0))) es
    → AllByRecursion (λ (e : Entry). IsUnder g file_no image (suc m) (Some e.key) e.page.0) es
closed g file_no image m [] named each = tt
closed g file_no image m (e ∷ es) named each = ((named.0.0, named.0.1, each.0), closed g file_no image m es named.1 each.1)

module _ {S : Type 0} (g : ground.Ghosts S) (a b c : S) (file_no m : ℕ) where
  -- entries stay a row while pages beside theirs are written
  pub record StillBelow (N : List Entry) : Type 0 where
    pub same : SameRow (g.geometry b) file_no (g.image b) (g.image c) m N
    pub under : AllByRecursion (λ (x : Entry). IsUnder (g.geometry c) file_no (g.image c) m (Some x.key) x.page.0) N

  pub still_below : (edit : List ℕ → List ℕ) (keys_before pages_before olds news : List ℕ) (N : List Entry) → Turns g a b file_no m edit keys_before pages_before N
      → ((p : ℕ) → times p olds + times p pages_before ≤ count_of (g.held a p)) → Changes g b c olds news → StillBelow N
  still_below edit keys_before pages_before olds news N below once write =
      let one = below.changes in
      let held_b : (p : ℕ) → 1 ≤ times p (pages_among (g.image b) m N) → g.held b p ≡ true = λ p h. is_counted (g.held b p) (omega (arith, h, below.row.once p)) in
      let apart : (p : ℕ) → 1 ≤ times p (pages_among (g.image b) m N) → times p olds ≡ 0 = λ p h. omega (arith, h, once p, one.counted p, below.row.once p, count_most (g.held b p), count_most (g.held a p)) in
      let same = same_row (g.geometry b) file_no (g.image b) (g.image c) m N (λ p h. write.images p (held_b p h) (apart p h)) in
      record { same = same; under = moved g b c file_no m N write.leads same below.row.under }

  -- one level up: entries were written onto pages, in place of others
  pub raised : (edit : List ℕ → List ℕ) (keys_before pages_before olds : List ℕ) (news N : List Entry) → Turns g a b file_no m edit keys_before pages_before N
      → ((p : ℕ) → times p olds + times p pages_before ≤ count_of (g.held a p)) → Changes g b c olds (heads news)
      → AreNamed (g.geometry c) file_no (g.image c) (suc m) news → below_all (g.image c) news ≡ N → Turns g a c file_no (suc m) edit keys_before (olds ++ pages_before) news
  raised edit keys_before pages_before olds news N below once write named parts =
      let one = below.changes in
      let still = still_below edit keys_before pages_before olds (heads news) N below once write in
      let same = still.same in
      let Under : Entry → Type 0 = λ x. IsUnder (g.geometry c) file_no (g.image c) m (Some x.key) x.page.0 in
      let each = each_parted Under (λ (e : Entry). entries_on (g.image c e.page.0)) news (subst (AllByRecursion Under) (sym parts) still.under) in
      let keys : keys_among (g.image c) (suc m) news ≡ keys_among (g.image b) m N = keys_open (g.image c) m news ∙ ap (keys_among (g.image c) m) parts ∙ same.keys in
      let count_c : (p : ℕ) → times p (pages_among (g.image c) (suc m) news) ≡ times p (heads news) + times p (pages_among (g.image b) m N) =
      λ p. pages_open (g.image c) m p news ∙ ap (λ (t : List Entry). times p (heads news) + times p (pages_among (g.image c) m t)) parts ∙ ap (λ (t : List ℕ). times p (heads news) + times p t) same.pages in
      let first = changes_more g a b pages_before (pages_among (g.image b) m N) (olds ++ pages_before) (olds ++ pages_among (g.image b) m N)
      (λ p. times p olds) one (λ p. times-append p olds pages_before) (λ p. times-append p olds (pages_among (g.image b) m N)) in
      let second = changes_more g b c olds (heads news) (olds ++ pages_among (g.image b) m N) (pages_among (g.image c) (suc m) news) (λ p. times p (pages_among (g.image b) m N)) write
      (λ p. omega (arith, times-append p olds (pages_among (g.image b) m N))) (λ p. omega (arith, count_c p)) in
      record {
        row = record {
          under = closed (g.geometry c) file_no (g.image c) m news named each;
          rising = subst (Rises 0) (sym keys) below.row.rising;
          once = λ p. omega (arith, count_c p, once p, one.counted p, write.counted p);
        };
        keys = keys ∙ below.keys;
        changes = changes_trans g a b c (olds ++ pages_before) (olds ++ pages_among (g.image b) m N) (pages_among (g.image c) (suc m) news) first second;
      }

  -- the entries on some pages became others, which were written onto pages
  rewritten_at : (edit : List ℕ → List ℕ) (olds news N : List Entry) → IsRow g a file_no (suc m) olds → Becomes g a b file_no m edit (below_all (g.image a) olds) N → Changes g b c (heads olds) (heads news)
      → AreNamed (g.geometry c) file_no (g.image c) (suc m) news → below_all (g.image c) news ≡ N → Becomes g a c file_no (suc m) edit olds news
  rewritten_at edit olds news N row below write named parts =
      let O : List Entry = below_all (g.image a) olds in
      let up = raised edit (keys_among (g.image a) m (below_all (g.image a) olds)) (pages_among (g.image a) m (below_all (g.image a) olds)) (heads olds) news N below
      (λ p. omega (arith, pages_open (g.image a) m p olds, row.once p)) write named parts in
      record {
        row = up.row;
        keys = up.keys ∙ ap edit (sym (keys_open (g.image a) m olds));
        changes = changes_more g a c (heads olds ++ pages_among (g.image a) m (below_all (g.image a) olds)) (pages_among (g.image c) (suc m) news) (pages_among (g.image a) (suc m) olds) (pages_among (g.image c) (suc m) news)
            (λ p. 0) up.changes (λ p. omega (arith, pages_open (g.image a) m p olds, times-append p (heads olds) (pages_among (g.image a) m (below_all (g.image a) olds)))) (λ p. omega arith);
      }

  pub rewritten : (l : ℕ) (edit : List ℕ → List ℕ) (olds news N : List Entry) → suc m ≡ l → IsRow g a file_no l olds → Becomes g a b file_no m edit (below_all (g.image a) olds) N → Changes g b c (heads olds) (heads news)
      → AreNamed (g.geometry c) file_no (g.image c) l news → below_all (g.image c) news ≡ N → Becomes g a c file_no l edit olds news
  rewritten l edit olds news N is =
      subst (λ (k : ℕ). IsRow g a file_no k olds → Becomes g a b file_no m edit (below_all (g.image a) olds) N → Changes g b c (heads olds) (heads news)
      → AreNamed (g.geometry c) file_no (g.image c) k news → below_all (g.image c) news ≡ N → Becomes g a c file_no k edit olds news) is (rewritten_at edit olds news N)

-- the row of entries below entries, and what is known of the pages between
module _ {S : Type 0} (g : ground.Ghosts S) (a : S) (file_no m : ℕ) where
  pub record OpenRow (l : ℕ) (es : List Entry) : Type 0 where
    pub row : IsRow g a file_no m (below_all (g.image a) es)
    pub named : AreNamed (g.geometry a) file_no (g.image a) l es
    pub held : (p : ℕ) → 1 ≤ times p (heads es) → g.held a p ≡ true
    pub once : (p : ℕ) → times p (heads es) ≤ 1
    pub apart : (p : ℕ) → 1 ≤ times p (heads es) → times p (pages_among (g.image a) m (below_all (g.image a) es)) ≡ 0

  all_named : (es : List Entry) → AllByRecursion (λ (e : Entry). IsUnder (g.geometry a) file_no (g.image a) (suc m) (Some e.key) e.page.0) es → AreNamed (g.geometry a) file_no (g.image a) (suc m) es
  all_named [] h = tt
  all_named (e ∷ es) h = ((h.0.0, h.0.1), all_named es h.1)

  all_below : (es : List Entry) → AllByRecursion (λ (e : Entry). IsUnder (g.geometry a) file_no (g.image a) (suc m) (Some e.key) e.page.0) es
      → AllByRecursion (λ (e : Entry). IsUnder (g.geometry a) file_no (g.image a) m (Some e.key) e.page.0) (below_all (g.image a) es)
  all_below [] h = tt
  all_below (e ∷ es) h = each-append (λ (x : Entry). IsUnder (g.geometry a) file_no (g.image a) m (Some x.key) x.page.0) (entries_on (g.image a e.page.0)) (below_all (g.image a) es) h.0.2 (all_below es h.1)

  open_at : (es : List Entry) → IsRow g a file_no (suc m) es → OpenRow (suc m) es
  open_at es row = record {
    row = record {
      under = all_below es row.under;
      rising = subst (Rises 0) (keys_open (g.image a) m es) row.rising;
      once = λ p. omega (arith, pages_open (g.image a) m p es, row.once p);
    };
    named = all_named es row.under;
    held = λ p h. is_counted (g.held a p) (omega (arith, h, pages_open (g.image a) m p es, row.once p));
    once = λ p. omega (arith, pages_open (g.image a) m p es, row.once p, count_most (g.held a p));
    apart = λ p h. omega (arith, h, pages_open (g.image a) m p es, row.once p, count_most (g.held a p));
  }

  pub open_row : (l : ℕ) (es : List Entry) → suc m ≡ l → IsRow g a file_no l es → OpenRow l es
  open_row l es is = subst (λ (k : ℕ). IsRow g a file_no k es → OpenRow k es) is (open_at es)
