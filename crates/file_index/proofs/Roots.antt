-- The top of an index: opened, written again, raised and lowered.
use Rattle.std.proofs.Common.{◌≡◌, ◌≤◌, ◌+◌, ℕ, suc, true, List, [], ◌∷◌, ◌++◌, Option, Some, None, refl, sym, ap, subst, ◌∙◌, arith}
use Rattle.std.specs.List.{AllByRecursion}
use Rattle.ex_base.specs.declared.ground.Ground as ground
use Rattle.ex_base.specs.declared.names.PageNo.{PageNo}
use Rattle.ex_base.specs.Ports.{times}
use Rattle.ex_base.proofs.Counts.{times-append, times_here}
use Rattle.file_index.specs.declared.Entry.{Entry}
use Rattle.file_index.specs.IndexPage.{entries_on}
use Rattle.ex_base.specs.declared.names.Index.{Index}
use Rattle.file_index.specs.Changes.{Changes, count_of}
use Rattle.file_index.specs.Index.{IsFilesPage, IsNamed, IsUnder, Rises, keys_under, pages_under, keys_of, pages_of}
use Rattle.file_index.specs.Edits.{keys_among, pages_among, IsRow, Turns, HasIndex, EditsIndex}
use Rattle.file_index.proofs.Closing.{IsNew}
use Rattle.file_index.proofs.Counts.{count_most, is_counted, counted_once, changes_trans, changes_more}
use Rattle.file_index.proofs.Picking.{rises_of, rising_of}
use Rattle.file_index.proofs.Rewriting.{still_below}

abbrev pub index_of : PageNo → ℕ → ℕ → Index
index_of page level file_no = record { root = Some page; level = level; file_no = file_no }

module _ {S : Type 0} (g : ground.Ghosts S) where
  -- what stands under a root
  pub record Root (a : S) (file_no m : ℕ) (page : PageNo) : Type 0 where
    pub row : IsRow g a file_no m (entries_on (g.image a page.0))
    pub files : IsFilesPage (g.geometry a) page.0
    pub named : IsNamed (g.geometry a).page_size (g.image a page.0) (suc m) file_no None
    pub once : (p : ℕ) → times p (page.0 ∷ []) + times p (pages_among (g.image a) m (entries_on (g.image a page.0))) ≤ count_of (g.held a p)
    pub held : g.held a page.0 ≡ true

  pub open_root : (a : S) (file_no m : ℕ) (page : PageNo) → HasIndex g a (index_of page (suc m) file_no) → Root a file_no m page
  open_root a file_no m page has =
      let entries : List Entry = entries_on (g.image a page.0) in
      let all : (p : ℕ) → times p (page.0 ∷ pages_among (g.image a) m (entries_on (g.image a page.0))) ≤ count_of (g.held a p) = λ p. counted_once (times p (page.0 ∷ pages_among (g.image a) m (entries_on (g.image a page.0)))) (g.held a p) (has.whole.once p) (has.held p) in
      let split : (p : ℕ) → times p (page.0 ∷ pages_among (g.image a) m (entries_on (g.image a page.0))) ≡ times p (page.0 ∷ []) + times p (pages_among (g.image a) m (entries_on (g.image a page.0))) = λ p. times-append p (page.0 ∷ []) (pages_among (g.image a) m (entries_on (g.image a page.0))) in
      record {
        row = record {
          under = has.whole.whole.2;
          rising = rises_of (keys_under (g.image a) (suc m) page.0) has.whole.rising;
          once = λ p. omega (arith, all p, split p);
        };
        files = has.whole.whole.0;
        named = has.whole.whole.1;
        once = λ p. omega (arith, all p, split p);
        held = has.held page.0 (omega (arith, times_here page.0 page.0 (pages_among (g.image a) m (entries_on (g.image a page.0))) refl));
      }

  -- what a page that was written over entries makes of them
  pub record Topped (a c : S) (file_no l : ℕ) (edit : List ℕ → List ℕ) (keys_before pages_before : List ℕ) (page : PageNo) : Type 0 where
    pub index : HasIndex g c (index_of page l file_no)
    pub keys : keys_under (g.image c) l page.0 ≡ edit keys_before
    pub changes : Changes g a c pages_before (pages_under (g.image c) l page.0)

  pub topped : (a b c : S) (file_no m : ℕ) (edit : List ℕ → List ℕ) (keys_before pages_before olds : List ℕ) (page : PageNo) (N : List Entry) → Turns g a b file_no m edit keys_before pages_before N
      → ((p : ℕ) → times p olds + times p pages_before ≤ count_of (g.held a p)) → Changes g b c olds (page.0 ∷ []) → IsNew g c page.0 (suc m) file_no None N
      → Topped a c file_no (suc m) edit keys_before (olds ++ pages_before) page
  topped a b c file_no m edit keys_before pages_before olds page N below once write new =
      let one = below.changes in
      let still = still_below g a b c file_no m edit keys_before pages_before olds (page.0 ∷ []) N below once write in
      let keys : keys_under (g.image c) (suc m) page.0 ≡ keys_among (g.image b) m N = ap (keys_among (g.image c) m) new.has ∙ still.same.keys in
      let count_c : (p : ℕ) → times p (pages_under (g.image c) (suc m) page.0) ≡ times p (page.0 ∷ []) + times p (pages_among (g.image b) m N) =
      λ p. times-append p (page.0 ∷ []) (pages_among (g.image c) m (entries_on (g.image c page.0)))
      ∙ ap (λ (t : List Entry). times p (page.0 ∷ []) + times p (pages_among (g.image c) m t)) new.has ∙ ap (λ (t : List ℕ). times p (page.0 ∷ []) + times p t) still.same.pages in
      let held_c : (p : ℕ) → times p (pages_under (g.image c) (suc m) page.0) ≤ count_of (g.held c p) = λ p. omega (arith, count_c p, once p, one.counted p, write.counted p) in
      let first = changes_more g a b pages_before (pages_among (g.image b) m N) (olds ++ pages_before) (olds ++ pages_among (g.image b) m N)
      (λ p. times p olds) one (λ p. times-append p olds pages_before) (λ p. times-append p olds (pages_among (g.image b) m N)) in
      let second = changes_more g b c olds (page.0 ∷ []) (olds ++ pages_among (g.image b) m N) (pages_under (g.image c) (suc m) page.0) (λ p. times p (pages_among (g.image b) m N)) write
      (λ p. omega (arith, times-append p olds (pages_among (g.image b) m N))) (λ p. omega (arith, count_c p)) in
      record {
        index = record {
          whole = record {
            whole = (new.files, new.named, subst (AllByRecursion (λ (x : Entry). IsUnder (g.geometry c) file_no (g.image c) m (Some x.key) x.page.0)) (sym new.has) still.under);
            rising = rising_of 0 (keys_under (g.image c) (suc m) page.0) (subst (Rises 0) (sym keys) below.row.rising);
            once = λ p. omega (arith, held_c p, count_most (g.held c p));
          };
          held = λ p h. is_counted (g.held c p) (omega (arith, h, held_c p));
        };
        keys = keys ∙ below.keys;
        changes = changes_trans g a b c (olds ++ pages_before) (olds ++ pages_among (g.image b) m N) (pages_under (g.image c) (suc m) page.0) first second;
      }

  -- the index of a root, from what it was to what its new top is
  pub edited : (a c : S) (edit : List ℕ → List ℕ) (before : Index) (old new : PageNo) (l file_no : ℕ) → before.root ≡ Some old → before.file_no ≡ file_no
      → Topped a c file_no l edit (keys_under (g.image a) before.level old.0) (pages_under (g.image a) before.level old.0) new → EditsIndex g a c edit before (index_of new l file_no)
  edited a c edit before old new l file_no is same top = record {
    index = top.index;
    same_file = sym same;
    keys = top.keys ∙ ap (λ (r : Option PageNo). edit (keys_of (g.image a) before.level r)) (sym is);
    changes = subst (λ (r : Option PageNo). Changes g a c (pages_of (g.image a) before.level r) (pages_under (g.image c) l new.0)) (sym is) top.changes;
  }
