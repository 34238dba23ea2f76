-- The pairs of a node read in one pass: the row of those that are read, while their counts rise.
use Rattle.std.proofs.Common.{◌≡◌, ℕ, ◌+◌, ◌-◌, ◌*◌, ◌<◌, ◌≤◌, ◌↔◌, List, [], ◌∷◌, ◌++◌, drop, sym, ap, subst, ◌∙◌, arith, append_assoc}
use Rattle.std.proofs.lemmas.List.{append-nil}
use Rattle.ex_base.specs.declared.geometry.Geometry.{Geometry}
use Rattle.ex_base.specs.Bytes.{IsBytes}
use Rattle.ex_base.specs.Fields.{number_at}
use Rattle.trees.specs.declared.Pair.{Pair}
use Rattle.trees.specs.declared.width.Width.{Width}
use Rattle.trees.specs.declared.rows.Part.{Part}
use Rattle.trees.specs.Node.{Node, PairsOf, count_len, pair_len, read_pairs, RiseFrom, level_on, pairs_on, node_on, total_of}
use Rattle.trees.specs.Reads.{NodeReads}
use Rattle.trees.specs.Rows.{parts_of, IsRowOn}
use Rattle.trees.proofs.NodeLaws.{reads_spelled}
use Rattle.trees.proofs.PairLaws.{made_pair, pair_read, read_step, goes_on}

-- all counts rise exactly where those that are left rise from the last one, and all children are those in the row and those that are left
pub record RowSoFar (w : Width) (n i last : ℕ) (bytes : List ℕ) (row : List Part) : Type 0 where
  pub rise : RiseFrom 0 (read_pairs w n bytes) ↔ RiseFrom last (read_pairs w (n - i) (drop (pair_len w * i) bytes))
  pub parts : parts_of 0 (read_pairs w n bytes) ≡ row ++ parts_of last (read_pairs w (n - i) (drop (pair_len w * i) bytes))

pub row_more : (w : Width) (n i last count page : ℕ) (bytes : List ℕ) (row : List Part) → i < n → count ≡ number_at (count_len w) bytes (pair_len w * i) → page ≡ number_at 4 bytes (pair_len w * i + count_len w) → last < count
    → RowSoFar w n i last bytes row → RowSoFar w n (i + 1) count bytes (row ++ (record { size = count - last; page = record { 0 = page } } ∷ []))
row_more w n i last count page bytes row lt a b rises h =
    let rest : List Pair = read_pairs w (n - (i + 1)) (drop (pair_len w * (i + 1)) bytes) in
    let part : Part = record { size = count - last; page = record { 0 = page } } in
    let step : read_pairs w (n - i) (drop (pair_len w * i) bytes) ≡ made_pair count page ∷ rest =
    read_step w n i bytes lt ∙ ap (λ (p : Pair). p ∷ rest) (pair_read w bytes (pair_len w * i) count page a b) in
    record {
      rise = goes_on w (RiseFrom 0 (read_pairs w n bytes)) n i last count bytes lt a rises h.rise;
      parts = h.parts ∙ ap (λ (ps : List Pair). row ++ parts_of last ps) step ∙ sym (append_assoc row (part ∷ []) (parts_of count rest));
    }

-- no pair is left
pub row_all : (w : Width) (n i last : ℕ) (bytes : List ℕ) (row : List Part) → n ≤ i → RowSoFar w n i last bytes row → RiseFrom 0 (read_pairs w n bytes) × (row ≡ parts_of 0 (read_pairs w n bytes))
row_all w n i last bytes row end h =
    let none : n - i ≡ 0 = omega arith in (
      h.rise.1 (subst (λ (k : ℕ). RiseFrom last (read_pairs w k (drop (pair_len w * i) bytes))) (sym none) tt),
      sym (h.parts ∙ ap (λ (k : ℕ). row ++ parts_of last (read_pairs w k (drop (pair_len w * i) bytes))) none ∙ append-nil row),
    )

-- ---- a page that reads as a node

pub row_reads : (g : Geometry) (page : List ℕ) (level total : ℕ) (row : List Part) (node : Node) → IsBytes page → NodeReads g.fan page → node ≡ node_on page → node.level ≡ level → total_of node.pairs ≡ total → row ≡ parts_of 0 (pairs_on page) → IsRowOn g page level total row
row_reads g page level total row node bytes reads is same sum parts =
    let at : level_on page ≡ level = sym (ap (λ (n : Node). n.level) is) ∙ same in
    record {
      fits = subst (λ (l : ℕ). PairsOf g.fan page l (pairs_on page)) at (reads_spelled g.fan page bytes reads);
      sum = sym (ap (λ (n : Node). total_of n.pairs) is) ∙ sum;
      parts = parts;
    }
