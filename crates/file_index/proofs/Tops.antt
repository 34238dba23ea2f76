-- An index whose top page has entries that became others.
use Rattle.std.proofs.Common.{◌≡◌, ◌≢◌, ◌≤◌, ◌+◌, ◌/◌, ℕ, zero, suc, true, List, [], ◌∷◌, ◌++◌, length, Option, Some, None, refl, sym, ap, subst, ◌∙◌, arith}
use Rattle.ex_base.specs.declared.ground.Ground as ground
use Rattle.ex_base.specs.declared.names.PageNo.{PageNo}
use Rattle.ex_base.specs.declared.geometry.Geometry.{Geometry}
use Rattle.ex_base.specs.Ports.{times, Keeps, GivesPage}
use Rattle.ex_base.proofs.Counts.{times-append, times_here}
use Rattle.file_index.specs.declared.Entry.{Entry}
use Rattle.file_index.specs.IndexPage.{entries_on, most_entries}
use Rattle.ex_base.specs.declared.names.Index.{Index}
use Rattle.file_index.specs.Changes.{Changes, count_of}
use Rattle.file_index.specs.Index.{IsFilesPage, IsNamed, IsUnder, HasLeast, Rises, keys_under, pages_under}
use Rattle.file_index.specs.Nodes.{IsWritten, Stored, heads, first_key, leaves_of}
use Rattle.file_index.specs.Edits.{pages_among, keys_among, IsRow, Becomes, HasIndex, EditsIndex, put_in}
use Rattle.std.specs.Prelude.{slice_index_or}
use Rattle.std.proofs.lemmas.List.{append-nil}
use Rattle.file_index.proofs.Leaves.{two_leaves, leaves_two}
use Rattle.file_index.proofs.Closing.{new_root, row_rises}
use Rattle.file_index.proofs.Counts.{count_most, is_counted, count_is, changes_same, give_changes, changes_more, changes_trans}
use Rattle.file_index.proofs.Picking.{rising_of}
use Rattle.file_index.proofs.Placing.{row_kept, turns_kept}
use Rattle.file_index.proofs.Rewriting.{raised, still_below}
use Rattle.file_index.proofs.Roots.{Root, open_root, Topped, topped, edited, index_of}
use Rattle.file_index.proofs.Stepping.{news}

some_least : (least : ℕ) (entries : List Entry) → HasLeast (Some least) entries → HasLeast None entries
some_least least [] h = absurd h
some_least least (e ∷ entries) h = tt

-- a page below another serves as a root
as_root : (g : Geometry) (file_no : ℕ) (image : ℕ → List ℕ) (m key page : ℕ) → IsUnder g file_no image m (Some key) page → IsUnder g file_no image m None page
as_root g file_no image zero key page h = (h.0, tt)
as_root g file_no image (suc m) key page h = (
  h.0,
  record { spelled = h.1.spelled; two = h.1.two; enough = h.1.two; least_is = some_least key (entries_on (image page)) h.1.least_is },
  h.2,
)

-- a list of one entry
pub single : (es : List Entry) (e : Entry) → length es ≡ 1 → e ≡ slice_index_or es 0 e → es ≡ e ∷ []
single [] e one item = absurd (omega arith)
single (x ∷ []) e one item = ap (λ (y : Entry). y ∷ []) (sym item)
single (x ∷ y ∷ es) e one item = absurd (omega arith)

module _ {S : Type 0} (g : ground.Ghosts S) (a : S) (before : Index) (root : PageNo) (m : ℕ) (is : before.root ≡ Some root) (step : suc m ≡ before.level) (has : HasIndex g a before) where
  pub top : Root g a before.file_no m root
  top =
      let at_root : HasIndex g a (index_of root before.level before.file_no) = subst (λ (r : Option PageNo). HasIndex g a (record { root = r; level = before.level; file_no = before.file_no })) is has in
      open_root g a before.file_no m root (subst (λ (k : ℕ). HasIndex g a (index_of root k before.file_no)) (sym step) at_root)

  -- a root that isn't held, or isn't what the index says of it, is none of a whole index
  pub root_read : (IsFilesPage (g.geometry a) root.0 → g.held a root.0 ≡ true → IsNamed (g.geometry a).page_size (g.image a root.0) before.level before.file_no None → ⊥) → ⊥
  root_read never = never top.files top.held (subst (λ (k : ℕ). IsNamed (g.geometry a).page_size (g.image a root.0) k before.file_no None) step top.named)

  back : (c : S) (edit : List ℕ → List ℕ) (l : ℕ) (new : PageNo) → Topped g a c before.file_no l edit (keys_under (g.image a) (suc m) root.0) (pages_under (g.image a) (suc m) root.0) new → EditsIndex g a c edit before (index_of new l before.file_no)
  back c edit l new t = edited g a c edit before root new l before.file_no is refl (subst (λ (k : ℕ). Topped g a c before.file_no l edit (keys_under (g.image a) k root.0) (pages_under (g.image a) k root.0) new) step t)

  -- the same root
  stays : (c : S) (edit : List ℕ → List ℕ) → Topped g a c before.file_no (suc m) edit (keys_under (g.image a) (suc m) root.0) (pages_under (g.image a) (suc m) root.0) root → EditsIndex g a c edit before before
  stays c edit t =
      subst (λ (r : Option PageNo). EditsIndex g a c edit before (record { root = r; level = before.level; file_no = before.file_no })) (sym is)
      (subst (λ (k : ℕ). EditsIndex g a c edit before (index_of root k before.file_no)) step (back c edit (suc m) root t))

  module _ (b : S) (es : List Entry) (kept : Keeps g a b) (read : es ≡ entries_on (g.image a root.0)) where
    pub row_top : IsRow g b before.file_no m es
    row_top = row_kept g a before.file_no m b es kept (subst (IsRow g a before.file_no m) (sym read) top.row)

    module _ (c : S) (edit : List ℕ → List ℕ) (N : List Entry) (below : Becomes g b c before.file_no m edit es N) where
      was : Becomes g a c before.file_no m edit (entries_on (g.image a root.0)) N
      was = subst (λ (t : List Entry). Becomes g a c before.file_no m edit t N) read (turns_kept g a before.file_no m b c edit es N kept below)

      none : times root.0 (pages_among (g.image a) m (entries_on (g.image a root.0))) ≡ 0
      none = omega (arith, top.once root.0, times_here root.0 root.0 [] refl, count_most (g.held a root.0))

      pub held_top : g.held c root.0 ≡ true
      held_top = is_counted (g.held c root.0) (omega (arith, was.changes.counted root.0, none, count_is (g.held a root.0) top.held))

      pub same_top : N ≡ es → EditsIndex g a c edit before before
      same_top same =
          let image : g.image c root.0 ≡ g.image a root.0 = was.changes.images root.0 top.held none in
          stays c edit (topped g a c c before.file_no m edit (keys_among (g.image a) m (entries_on (g.image a root.0))) (pages_among (g.image a) m (entries_on (g.image a root.0))) (root.0 ∷ []) root N was top.once (changes_same g c (root.0 ∷ [])) (record {
            files = subst (λ (y : Geometry). IsFilesPage y root.0) (sym (g.leads_geometry a c was.changes.leads)) top.files;
            named = subst (λ (y : Geometry). IsNamed y.page_size (g.image c root.0) (suc m) before.file_no None) (sym (g.leads_geometry a c was.changes.leads))
                (subst (λ (t : List ℕ). IsNamed (g.geometry a).page_size t (suc m) before.file_no None) (sym image) top.named);
            has = ap entries_on image ∙ sym read ∙ sym same;
          }))

      pub written_top : (d : S) → Changes g c d (root.0 ∷ []) (root.0 ∷ []) → IsWritten g d root.0 before.level before.file_no N → 2 ≤ length N → EditsIndex g a d edit before before
      written_top d changes written some =
          let w : IsWritten g d root.0 (suc m) before.file_no N = subst (λ (k : ℕ). IsWritten g d root.0 k before.file_no N) (sym step) written in
          stays d edit (topped g a c d before.file_no m edit (keys_among (g.image a) m (entries_on (g.image a root.0))) (pages_among (g.image a) m (entries_on (g.image a root.0))) (root.0 ∷ []) root N was top.once changes
          (new_root g d root.0 (suc m) before.file_no N w (row_rises g c before.file_no m N below.row) some))

      -- a page over the root and a second page
      pub raised_top : (d e : S) (first second : Entry) (page : PageNo) → Changes g c d (root.0 ∷ []) (root.0 ∷ second.page.0 ∷ []) → Stored g d root.0 before.level before.file_no N (Some second)
          → first.page.0 ≡ root.0 → first.key ≡ first_key N
          → Changes g d e [] (page.0 ∷ []) → IsWritten g e page.0 (before.level + 1) before.file_no (first ∷ second ∷ []) → EditsIndex g a e edit before (index_of page (before.level + 1) before.file_no)
      raised_top d e first second page changes stored same_page same_key taken written =
          let KO : List ℕ = keys_among (g.image a) m (entries_on (g.image a root.0)) in
          let enough : most_entries (g.geometry d).page_size / 2 ≤ length N = omega (arith, stored.0) in
          let here : Stored g d root.0 (suc m) before.file_no N (Some second) = subst (λ (k : ℕ). Stored g d root.0 k before.file_no N (Some second)) (sym step) stored in
          let n = news g d root.0 (suc m) before.file_no first (Some second) N here (row_rises g c before.file_no m N below.row) enough same_page same_key in
          let write : Changes g c d (root.0 ∷ []) (heads (first ∷ second ∷ [])) = subst (λ (p : ℕ). Changes g c d (root.0 ∷ []) (p ∷ second.page.0 ∷ [])) (sym same_page) changes in
          let up = raised g a c d before.file_no m edit (keys_among (g.image a) m (entries_on (g.image a root.0))) (pages_among (g.image a) m (entries_on (g.image a root.0))) (root.0 ∷ []) (first ∷ second ∷ []) N was top.once write n.named n.parts in
          let next : before.level + 1 ≡ suc (suc m) = omega arith in
          let w : IsWritten g e page.0 (suc (suc m)) before.file_no (first ∷ second ∷ []) = subst (λ (k : ℕ). IsWritten g e page.0 k before.file_no (first ∷ second ∷ [])) next written in
          let t = topped g a d e before.file_no (suc m) edit (keys_among (g.image a) m (entries_on (g.image a root.0))) ((root.0 ∷ []) ++ pages_among (g.image a) m (entries_on (g.image a root.0))) [] page (first ∷ second ∷ []) up
          (λ p. omega (arith, top.once p)) taken (new_root g e page.0 (suc (suc m)) before.file_no (first ∷ second ∷ []) w (row_rises g d before.file_no (suc m) (first ∷ second ∷ []) up.row) (omega arith)) in
          subst (λ (k : ℕ). EditsIndex g a e edit before (index_of page k before.file_no)) (sym next) (back e edit (suc (suc m)) page t)

      -- the root names one page alone, and is given back
      pub lowered_top : (d : S) (only : Entry) → N ≡ only ∷ [] → GivesPage g c d root.0 → g.leads c d → EditsIndex g a d edit before (index_of only.page m before.file_no)
      lowered_top d only one give leads =
          let KO : List ℕ = keys_among (g.image a) m (entries_on (g.image a root.0)) in
          let give_back = give_changes g c d root.0 give held_top leads in
          let here : Becomes g a c before.file_no m edit (entries_on (g.image a root.0)) (only ∷ []) = subst (λ (t : List Entry). Becomes g a c before.file_no m edit (entries_on (g.image a root.0)) t) one was in
          let still = still_below g a c d before.file_no m edit (keys_among (g.image a) m (entries_on (g.image a root.0))) (pages_among (g.image a) m (entries_on (g.image a root.0))) (root.0 ∷ []) [] (only ∷ []) here top.once give_back in
          let keys : keys_under (g.image d) m only.page.0 ≡ keys_among (g.image c) m (only ∷ []) = sym (append-nil (keys_under (g.image d) m only.page.0)) ∙ still.same.keys in
          let pages : pages_under (g.image d) m only.page.0 ≡ pages_among (g.image c) m (only ∷ []) = sym (append-nil (pages_under (g.image d) m only.page.0)) ∙ still.same.pages in
          let held_d : (p : ℕ) → times p (pages_under (g.image d) m only.page.0) ≤ count_of (g.held d p) = λ p. omega (arith, ap (times p) pages, top.once p, here.changes.counted p, give_back.counted p) in
          let first = changes_more g a c (pages_among (g.image a) m (entries_on (g.image a root.0))) (pages_among (g.image c) m (only ∷ [])) ((root.0 ∷ []) ++ pages_among (g.image a) m (entries_on (g.image a root.0))) ((root.0 ∷ []) ++ pages_among (g.image c) m (only ∷ []))
          (λ p. times p (root.0 ∷ [])) here.changes (λ p. times-append p (root.0 ∷ []) (pages_among (g.image a) m (entries_on (g.image a root.0)))) (λ p. times-append p (root.0 ∷ []) (pages_among (g.image c) m (only ∷ []))) in
          let second = changes_more g c d (root.0 ∷ []) [] ((root.0 ∷ []) ++ pages_among (g.image c) m (only ∷ [])) (pages_under (g.image d) m only.page.0) (λ p. times p (pages_among (g.image c) m (only ∷ []))) give_back
          (λ p. omega (arith, times-append p (root.0 ∷ []) (pages_among (g.image c) m (only ∷ [])))) (λ p. omega (arith, ap (times p) pages)) in
          back d edit m only.page (record {
            index = record {
              whole = record {
                whole = as_root (g.geometry d) before.file_no (g.image d) m only.key only.page.0 still.under.0;
                rising = rising_of 0 (keys_under (g.image d) m only.page.0) (subst (Rises 0) (sym keys) here.row.rising);
                once = λ p. omega (arith, held_d p, count_most (g.held d p));
              };
              held = λ p h. is_counted (g.held d p) (omega (arith, h, held_d p));
            };
            keys = keys ∙ here.keys;
            changes = changes_trans g a c d ((root.0 ∷ []) ++ pages_among (g.image a) m (entries_on (g.image a root.0))) ((root.0 ∷ []) ++ pages_among (g.image c) m (only ∷ [])) (pages_under (g.image d) m only.page.0) first second;
          })

-- the first index page, over two pages of a file
pub second_added : {S : Type 0} (g : ground.Ghosts S) (a c : S) (before : Index) (root page : PageNo) (key : ℕ) → before.root ≡ Some root → before.level ≡ 0 → root.0 ≢ key → HasIndex g a before → IsFilesPage (g.geometry a) key
    → Changes g a c [] (page.0 ∷ []) → IsWritten g c page.0 1 before.file_no (leaves_of key (record { key = root.0; page = root })) → EditsIndex g a c (put_in key) before (index_of page 1 before.file_no)
second_added g a c before root page key is flat differ has files taken written =
    let beside : Entry = record { key = root.0; page = root } in
    let file_no : ℕ = before.file_no in
    let at_root : HasIndex g a (index_of root before.level before.file_no) = subst (λ (r : Option PageNo). HasIndex g a (record { root = r; level = before.level; file_no = before.file_no })) is has in
    let at_zero : HasIndex g a (index_of root 0 before.file_no) = subst (λ (k : ℕ). HasIndex g a (index_of root k before.file_no)) flat at_root in
    let row : IsRow g a before.file_no 0 (record { key = root.0; page = root } ∷ []) = record { under = ((at_zero.whole.whole.0, refl), tt); rising = (omega arith, tt); once = λ p. omega arith } in
    let becomes = two_leaves g a before.file_no key (record { key = root.0; page = root }) differ files row in
    let new = new_root g c page.0 1 before.file_no (leaves_of key (record { key = root.0; page = root })) written (row_rises g a before.file_no 0 (leaves_of key (record { key = root.0; page = root })) becomes.row) (omega (arith, leaves_two key (record { key = root.0; page = root }))) in
    let t = topped g a a c before.file_no 0 (put_in key) (root.0 ∷ []) [] [] page (leaves_of key (record { key = root.0; page = root })) becomes (λ p. omega arith) taken new in
    edited g a c (put_in key) before root page 1 before.file_no is refl (subst (λ (k : ℕ). Topped g a c before.file_no 1 (put_in key) (keys_under (g.image a) k root.0) (pages_under (g.image a) k root.0) page) (sym flat) t)
