-- Entries are replaced by others, between entries that stay.
use Rattle.std.proofs.Common.{◌≡◌, ◌≤◌, ◌+◌, ℕ, List, [], ◌∷◌, ◌++◌, Some, sym, ap, subst, ◌∙◌, arith}
use Rattle.std.specs.List.{AllByRecursion}
use Rattle.std.proofs.lemmas.List.Concat.{flat_map-append}
use Rattle.ex_base.specs.declared.ground.Ground as ground
use Rattle.ex_base.specs.declared.geometry.Geometry.{Geometry}
use Rattle.ex_base.specs.Ports.{times}
use Rattle.ex_base.proofs.Rows.{each-append}
use Rattle.ex_base.proofs.Counts.{times-append}
use Rattle.file_index.specs.declared.Entry.{Entry}
use Rattle.file_index.specs.Changes.{count_of, Changes}
use Rattle.file_index.specs.Index.{IsUnder, Rises, keys_under, pages_under}
use Rattle.file_index.specs.Edits.{keys_among, pages_among, IsRow, Becomes}
use Rattle.file_index.proofs.Counts.{is_counted, count_most, changes_more}
use Rattle.file_index.proofs.Frame.{same_row, SameRow}

pub each_front : (P : Entry → Type 0) (xs ys : List Entry) → AllByRecursion P (xs ++ ys) → AllByRecursion P xs
each_front P [] ys h = tt
each_front P (x ∷ xs) ys h = (h.0, each_front P xs ys h.1)

pub each_back : (P : Entry → Type 0) (xs ys : List Entry) → AllByRecursion P (xs ++ ys) → AllByRecursion P ys
each_back P [] ys h = h
each_back P (x ∷ xs) ys h = each_back P xs ys h.1

pub keys_split : (image : ℕ → List ℕ) (level : ℕ) (xs ys zs : List Entry) → keys_among image level (xs ++ (ys ++ zs)) ≡ keys_among image level xs ++ (keys_among image level ys ++ keys_among image level zs)
keys_split image level xs ys zs =
    let f : Entry → List ℕ = λ e. keys_under image level e.page.0 in
    flat_map-append f xs (ys ++ zs) ∙ ap (λ (t : List ℕ). keys_among image level xs ++ t) (flat_map-append f ys zs)

pub pages_split : (image : ℕ → List ℕ) (level p : ℕ) (xs ys zs : List Entry) → times p (pages_among image level (xs ++ (ys ++ zs))) ≡ times p (pages_among image level xs) + (times p (pages_among image level ys) + times p (pages_among image level zs))
pages_split image level p xs ys zs =
    let f : Entry → List ℕ = λ e. pages_under image level e.page.0 in
    ap (times p) (flat_map-append f xs (ys ++ zs) ∙ ap (λ (t : List ℕ). pages_among image level xs ++ t) (flat_map-append f ys zs))
    ∙ times-append p (pages_among image level xs) (pages_among image level ys ++ pages_among image level zs)
    ∙ ap (λ (n : ℕ). times p (pages_among image level xs) + n) (times-append p (pages_among image level ys) (pages_among image level zs))

module _ {S : Type 0} (g : ground.Ghosts S) (a c : S) (file_no level : ℕ) where
  -- entries beside those whose pages change are what they were
  pub beside : (M N es : List Entry) → ((p : ℕ) → times p (pages_among (g.image a) level es) + times p (pages_among (g.image a) level M) ≤ count_of (g.held a p))
      → Changes g a c (pages_among (g.image a) level M) (pages_among (g.image c) level N) → SameRow (g.geometry a) file_no (g.image a) (g.image c) level es
  beside M N es apart changes =
      same_row (g.geometry a) file_no (g.image a) (g.image c) level es
      (λ p h. changes.images p (is_counted (g.held a p) (omega (arith, h, apart p))) (omega (arith, h, apart p, count_most (g.held a p))))

  pub moved : (es : List Entry) → g.leads a c → SameRow (g.geometry a) file_no (g.image a) (g.image c) level es → AllByRecursion (λ (e : Entry). IsUnder (g.geometry a) file_no (g.image a) level (Some e.key) e.page.0) es
      → AllByRecursion (λ (e : Entry). IsUnder (g.geometry c) file_no (g.image c) level (Some e.key) e.page.0) es
  moved es leads same h = subst (λ (y : Geometry). AllByRecursion (λ (e : Entry). IsUnder y file_no (g.image c) level (Some e.key) e.page.0) es) (sym (g.leads_geometry a c leads)) (same.under h)

  pub replaced : (edit : List ℕ → List ℕ) (A M N B : List Entry) → ((xs : List ℕ) → Rises 0 xs → Rises 0 (edit xs)) → IsRow g a file_no level (A ++ (M ++ B)) → Becomes g a c file_no level edit M N
      → (Rises 0 (keys_among (g.image a) level A ++ (keys_among (g.image a) level M ++ keys_among (g.image a) level B))
      → edit (keys_among (g.image a) level A ++ (keys_among (g.image a) level M ++ keys_among (g.image a) level B)) ≡ keys_among (g.image a) level A ++ (edit (keys_among (g.image a) level M) ++ keys_among (g.image a) level B))
      → Becomes g a c file_no level edit (A ++ (M ++ B)) (A ++ (N ++ B))
  replaced edit A M N B edit_rises row becomes middle =
      let P : Entry → Type 0 = λ e. IsUnder (g.geometry a) file_no (g.image a) level (Some e.key) e.page.0 in
      let Q : Entry → Type 0 = λ e. IsUnder (g.geometry c) file_no (g.image c) level (Some e.key) e.page.0 in
      let same_a = beside M N A (λ p. omega (arith, pages_split (g.image a) level p A M B, row.once p)) becomes.changes in
      let same_b = beside M N B (λ p. omega (arith, pages_split (g.image a) level p A M B, row.once p)) becomes.changes in
      let before = keys_split (g.image a) level A M B in
      let rises : Rises 0 (keys_among (g.image a) level A ++ (keys_among (g.image a) level M ++ keys_among (g.image a) level B)) = subst (Rises 0) before row.rising in
      let keys : keys_among (g.image c) level (A ++ (N ++ B)) ≡ edit (keys_among (g.image a) level (A ++ (M ++ B))) =
      keys_split (g.image c) level A N B
      ∙ ap (λ (t : List ℕ). t ++ (keys_among (g.image c) level N ++ keys_among (g.image c) level B)) same_a.keys
      ∙ ap (λ (t : List ℕ). keys_among (g.image a) level A ++ (keys_among (g.image c) level N ++ t)) same_b.keys
      ∙ ap (λ (t : List ℕ). keys_among (g.image a) level A ++ (t ++ keys_among (g.image a) level B)) becomes.keys
      ∙ sym (middle rises)
      ∙ ap edit (sym before) in
      let after : (p : ℕ) → times p (pages_among (g.image c) level (A ++ (N ++ B))) ≡ times p (pages_among (g.image a) level A) + (times p (pages_among (g.image c) level N) + times p (pages_among (g.image a) level B)) =
      λ p. pages_split (g.image c) level p A N B
      ∙ ap (λ (t : List ℕ). times p t + (times p (pages_among (g.image c) level N) + times p (pages_among (g.image c) level B))) same_a.pages
      ∙ ap (λ (t : List ℕ). times p (pages_among (g.image a) level A) + (times p (pages_among (g.image c) level N) + times p t)) same_b.pages in
      record {
        row = record {
          under = each-append Q A (N ++ B) (moved A becomes.changes.leads same_a (each_front P A (M ++ B) row.under))
              (each-append Q N B becomes.row.under (moved B becomes.changes.leads same_b (each_back P M B (each_back P A (M ++ B) row.under))));
          rising = subst (Rises 0) (sym keys) (edit_rises (keys_among (g.image a) level (A ++ (M ++ B))) row.rising);
          once = λ p. omega (arith, after p, pages_split (g.image a) level p A M B, row.once p, becomes.changes.counted p);
        };
        keys = keys;
        changes = changes_more g a c (pages_among (g.image a) level M) (pages_among (g.image c) level N) (pages_among (g.image a) level (A ++ (M ++ B))) (pages_among (g.image c) level (A ++ (N ++ B)))
            (λ p. times p (pages_among (g.image a) level A) + times p (pages_among (g.image a) level B)) becomes.changes (λ p. omega (arith, pages_split (g.image a) level p A M B)) (λ p. omega (arith, after p));
      }
