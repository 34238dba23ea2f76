-- One level of a call: the page of a child is read, its entries become others, and they are written.
use Rattle.std.proofs.Common.{◌≡◌, ◌≤◌, ◌/◌, ℕ, zero, suc, true, List, [], ◌∷◌, ◌++◌, length, take, drop, Option, Some, None, refl, sym, ap, subst, ◌∙◌, arith}
use Rattle.std.specs.Prelude.{option_to_list}
use Rattle.std.proofs.lemmas.List.{append-nil, take-append-drop, length-take, length-drop}
use Rattle.ex_base.specs.declared.ground.Ground as ground
use Rattle.ex_base.specs.Ports.{times, Keeps}
use Rattle.ex_base.specs.declared.geometry.Geometry.{Geometry}
use Rattle.ex_base.proofs.Counts.{times_here}
use Rattle.file_index.specs.declared.Entry.{Entry}
use Rattle.file_index.specs.IndexPage.{entries_on, most_entries, RiseFrom}
use Rattle.file_index.specs.Changes.{Changes}
use Rattle.file_index.specs.Index.{IsFilesPage, IsNamed}
use Rattle.file_index.specs.Nodes.{heads, first_key, left_part, Stored}
use Rattle.file_index.specs.Edits.{pages_among, IsRow, Becomes}
use Rattle.file_index.proofs.Counts.{changes_same, is_counted, count_is}
use Rattle.file_index.proofs.Closing.{new_node, rise_take, rise_drop}
use Rattle.file_index.proofs.Rewriting.{below_all, AreNamed, rewritten, OpenRow, open_row}
use Rattle.file_index.proofs.Placing.{row_kept, turns_kept}

module _ {S : Type 0} (g : ground.Ghosts S) where
  -- the pages that were written are what the new entries say, and have all the entries
  pub record News (c : S) (level file_no : ℕ) (first : Entry) (second : Option Entry) (N : List Entry) : Type 0 where
    pub named : AreNamed (g.geometry c) file_no (g.image c) level (first ∷ option_to_list second)
    pub parts : below_all (g.image c) (first ∷ option_to_list second) ≡ N

  pub news : (c : S) (page level file_no : ℕ) (first : Entry) (second : Option Entry) (N : List Entry) → Stored g c page level file_no N second → RiseFrom 0 N → most_entries (g.geometry c).page_size / 2 ≤ length N
      → first.page.0 ≡ page → first.key ≡ first_key N → News c level file_no first second N
  news c page level file_no first None N stored rises half at key =
      let n = new_node g c page level file_no N stored rises half in
      record {
        named = (
          (
            subst (λ (p : ℕ). IsFilesPage (g.geometry c) p) (sym at) n.files,
            subst (λ (k : ℕ). IsNamed (g.geometry c).page_size (g.image c first.page.0) level file_no (Some k)) (sym key) (subst (λ (p : ℕ). IsNamed (g.geometry c).page_size (g.image c p) level file_no (Some (first_key N))) (sym at) n.named),
          ),
          tt,
        );
        parts = append-nil (entries_on (g.image c first.page.0)) ∙ ap (λ (p : ℕ). entries_on (g.image c p)) at ∙ n.has;
      }
  news c page level file_no first (Some second) N stored rises half at key =
      let n : ℕ = left_part (length N) in
      let L : List Entry = take (left_part (length N)) N in
      let R : List Entry = drop (left_part (length N)) N in
      let long_l = length-take (left_part (length N)) N in
      let long_r = length-drop (left_part (length N)) N in
      let l = new_node g c page level file_no (take (left_part (length N)) N) stored.2 (rise_take (left_part (length N)) N rises) (omega (arith, stored.0, long_l, half)) in
      let r = new_node g c second.page.0 level file_no (drop (left_part (length N)) N) stored.3 (rise_drop (left_part (length N)) N rises) (omega (arith, stored.0, long_r, half)) in
      let front : first_key N ≡ first_key (take (left_part (length N)) N) = first_taken N (left_part (length N)) (omega (arith, stored.2.some, long_l)) in
      record {
        named = (
          (
            subst (λ (p : ℕ). IsFilesPage (g.geometry c) p) (sym at) l.files,
            subst (λ (k : ℕ). IsNamed (g.geometry c).page_size (g.image c first.page.0) level file_no (Some k)) (sym (key ∙ front)) (subst (λ (p : ℕ). IsNamed (g.geometry c).page_size (g.image c p) level file_no (Some (first_key (take (left_part (length N)) N)))) (sym at) l.named),
          ),
          ((r.files, subst (λ (k : ℕ). IsNamed (g.geometry c).page_size (g.image c second.page.0) level file_no (Some k)) (sym stored.1) r.named), tt),
        );
        parts = ap (λ (t : List Entry). entries_on (g.image c first.page.0) ++ t) (append-nil (entries_on (g.image c second.page.0)))
            ∙ ap (λ (p : ℕ). entries_on (g.image c p) ++ entries_on (g.image c second.page.0)) at
            ∙ ap (λ (t : List Entry). t ++ entries_on (g.image c second.page.0)) l.has
            ∙ ap (λ (t : List Entry). take (left_part (length N)) N ++ t) r.has
            ∙ take-append-drop (left_part (length N)) N;
      }
    where
      first_taken : (es : List Entry) (n : ℕ) → 1 ≤ n → first_key es ≡ first_key (take n es)
      first_taken [] zero some = refl
      first_taken [] (suc n) some = refl
      first_taken (e ∷ es) zero some = absurd (omega arith)
      first_taken (e ∷ es) (suc n) some = refl

  -- a child whose page was read
  pub record Child (a b : S) (file_no l m : ℕ) (child : Entry) (es : List Entry) : Type 0 where
    pub step : suc m ≡ l
    pub row : IsRow g a file_no l (child ∷ [])
    pub kept : Keeps g a b
    pub read : es ≡ entries_on (g.image a child.page.0)

  child_open : (a b : S) (file_no l m : ℕ) (child : Entry) (es : List Entry) → Child a b file_no l m child es → OpenRow g a file_no m l (child ∷ [])
  child_open a b file_no l m child es ch = open_row g a file_no m l (child ∷ []) ch.step ch.row

  entries_are : (a b : S) (file_no l m : ℕ) (child : Entry) (es : List Entry) → Child a b file_no l m child es → below_all (g.image a) (child ∷ []) ≡ es
  entries_are a b file_no l m child es ch = append-nil (entries_on (g.image a child.page.0)) ∙ sym ch.read

  -- the entries on it are a row
  pub child_row : (a b : S) (file_no l m : ℕ) (child : Entry) (es : List Entry) → Child a b file_no l m child es → IsRow g b file_no m es
  child_row a b file_no l m child es ch =
      row_kept g a file_no m b es ch.kept (subst (IsRow g a file_no m) (entries_are a b file_no l m child es ch) (child_open a b file_no l m child es ch).row)

  -- what a parent says of it holds
  pub child_named : (a b : S) (file_no l m : ℕ) (child : Entry) (es : List Entry) → Child a b file_no l m child es → IsNamed (g.geometry a).page_size (g.image a child.page.0) l file_no (Some child.key)
  child_named a b file_no l m child es ch = (child_open a b file_no l m child es ch).named.0.1

  -- the working state still has its page once its entries became others
  pub child_held : (a b c : S) (file_no l m : ℕ) (edit : List ℕ → List ℕ) (child : Entry) (es N : List Entry) → Child a b file_no l m child es → Becomes g b c file_no m edit es N → g.held c child.page.0 ≡ true
  child_held a b c file_no l m edit child es N ch becomes =
      let o = child_open a b file_no l m child es ch in
      let p : ℕ = child.page.0 in
      let here : 1 ≤ times child.page.0 (heads (child ∷ [])) = omega (arith, times_here child.page.0 child.page.0 [] refl) in
      let was = turns_kept g a file_no m b c edit es N ch.kept becomes in
      let none : times child.page.0 (pages_among (g.image a) m es) ≡ 0 = ap (λ (t : List Entry). times child.page.0 (pages_among (g.image a) m t)) (sym (entries_are a b file_no l m child es ch)) ∙ o.apart child.page.0 here in
      is_counted (g.held c child.page.0) (omega (arith, was.changes.counted child.page.0, none, count_is (g.held a child.page.0) (o.held child.page.0 here)))

  -- the child becomes the entries that name the pages that were written
  pub child_written : (a b c d : S) (file_no l m : ℕ) (edit : List ℕ → List ℕ) (child first : Entry) (second : Option Entry) (es N : List Entry) → Child a b file_no l m child es → Becomes g b c file_no m edit es N
      → Changes g c d (child.page.0 ∷ []) (child.page.0 ∷ heads (option_to_list second)) → first.page.0 ≡ child.page.0 → News d l file_no first second N → Becomes g a d file_no l edit (child ∷ []) (first ∷ option_to_list second)
  child_written a b c d file_no l m edit child first second es N ch becomes changes at n =
      let was : Becomes g a c file_no m edit (below_all (g.image a) (child ∷ [])) N =
      subst (λ (t : List Entry). Becomes g a c file_no m edit t N) (sym (entries_are a b file_no l m child es ch)) (turns_kept g a file_no m b c edit es N ch.kept becomes) in
      let write : Changes g c d (heads (child ∷ [])) (heads (first ∷ option_to_list second)) =
      subst (λ (p : ℕ). Changes g c d (child.page.0 ∷ []) (p ∷ heads (option_to_list second))) (sym at) changes in
      rewritten g a c d file_no m l edit (child ∷ []) (first ∷ option_to_list second) N ch.step ch.row was write n.named n.parts

  -- a child whose entries stay is not written
  pub child_same : (a b c : S) (file_no l m : ℕ) (edit : List ℕ → List ℕ) (child : Entry) (es : List Entry) → Child a b file_no l m child es → Becomes g b c file_no m edit es es → Becomes g a c file_no l edit (child ∷ []) (child ∷ [])
  child_same a b c file_no l m edit child es ch becomes =
      let o = child_open a b file_no l m child es ch in
      let here : 1 ≤ times child.page.0 (heads (child ∷ [])) = omega (arith, times_here child.page.0 child.page.0 [] refl) in
      let were = entries_are a b file_no l m child es ch in
      let was = turns_kept g a file_no m b c edit es es ch.kept becomes in
      let none : times child.page.0 (pages_among (g.image a) m es) ≡ 0 = ap (λ (t : List Entry). times child.page.0 (pages_among (g.image a) m t)) (sym were) ∙ o.apart child.page.0 here in
      let image : g.image c child.page.0 ≡ g.image a child.page.0 = was.changes.images child.page.0 (o.held child.page.0 here) none in
      child_written a b c c file_no l m edit child child None es es ch becomes (changes_same g c (child.page.0 ∷ [])) refl (record {
        named = (
          (
            subst (λ (y : Geometry). IsFilesPage y child.page.0) (sym (g.leads_geometry a c was.changes.leads)) o.named.0.0,
            subst (λ (y : Geometry). IsNamed y.page_size (g.image c child.page.0) l file_no (Some child.key)) (sym (g.leads_geometry a c was.changes.leads))
                (subst (λ (t : List ℕ). IsNamed (g.geometry a).page_size t l file_no (Some child.key)) (sym image) o.named.0.1),
          ),
          tt,
        );
        parts = append-nil (entries_on (g.image c child.page.0)) ∙ ap entries_on image ∙ sym ch.read;
      })
