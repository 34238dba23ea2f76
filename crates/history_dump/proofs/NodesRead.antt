-- The item of a node that is read.
use Rattle.std.proofs.Common.{◌≡◌, ◌≤◌, ◌+◌, ◌-◌, ◌*◌, ℕ, List, [], ◌∷◌, ◌++◌, length, take, refl, sym, subst, ap, ◌∙◌, arith}
use Rattle.std.specs.List.{AllZip}
use Rattle.std.proofs.lemmas.List.{length-append}
use Rattle.std.proofs.lemmas.Option.{same_Some}
use Rattle.std.proofs.Math.Seq.{take-append_seam}
use Rattle.ex_base.specs.declared.geometry.Geometry.{Geometry}
use Rattle.trees.specs.declared.Pair.{Pair}
use Rattle.trees.specs.Node.{Node, PairsOf}
use Rattle.trees.proofs.NodeLaws.{spelled_reads}
use Rattle.trees.proofs.Parts.{narrow}
use Rattle.history_model.specs.Stream.{node_item}
use Rattle.history_model.proofs.ItemReadings.{pairs_few}
use Rattle.history_model.proofs.Lengths.{length-node}
use Rattle.history_plans.specs.Plans.{StreamPlan, pages_at}
use Rattle.history_dump.specs.Items.{IsNumbered}
use Rattle.history_dump.proofs.Steps.{zip_long}

-- the node of a level and pairs
abbrev pub node_of : ℕ → List Pair → Node
node_of level pairs = record { level = level; pairs = pairs }

one_pair : (a b : Pair) → a.count ≡ b.count → a.page.0 ≡ b.page.0 → a ≡ b
one_pair a b count page = ap (λ (n : ℕ). let p : Pair = record { count = n; page = a.page } in p) count ∙ ap (λ (n : ℕ). let p : Pair = record { count = b.count; page = record { 0 = n } } in p) page

one_numbered : (pages : List ℕ) (on a b : List Pair) → AllZip (IsNumbered pages) on a → AllZip (IsNumbered pages) on b → a ≡ b
one_numbered pages [] [] [] one two = refl
one_numbered pages [] [] (y ∷ b) one two = absurd two
one_numbered pages [] (x ∷ a) b one two = absurd one
one_numbered pages (p ∷ on) [] b one two = absurd one
one_numbered pages (p ∷ on) (x ∷ a) [] one two = absurd two
one_numbered pages (p ∷ on) (x ∷ a) (y ∷ b) one two =
    let here : x ≡ y = one_pair x y (one.0.count ∙ sym two.0.count) (same_Some x.page.0 y.page.0 (sym one.0.number ∙ two.0.number)) in
    ap (λ (z : Pair). z ∷ a) here ∙ ap (λ (zs : List Pair). y ∷ zs) (one_numbered pages on a b one.1 two.1)

module _ (g : Geometry) (plan : StreamPlan) (bytes : List ℕ) where
  abbrev IsNumberedBy : ℕ → List Pair → List Pair → Type 0
  IsNumberedBy level on pairs = AllZip (IsNumbered (pages_at (level - 1) plan)) on pairs

  pub few_numbered : (level : ℕ) (on pairs : List Pair) → PairsOf g.fan bytes level on → IsNumberedBy level on pairs → 12 * length pairs + 5 ≤ g.page_size
  few_numbered level on pairs spelled numbered =
      omega (arith, pairs_few g on spelled.fits.few, zip_long (IsNumbered (pages_at (level - 1) plan)) on pairs numbered)

  pub one_node : (level : ℕ) (on pairs : List Pair) (node : Node) (other : List Pair) → PairsOf g.fan bytes level on → IsNumberedBy level on pairs → PairsOf g.fan bytes node.level other → IsNumberedBy node.level other node.pairs
      → node_of level pairs ≡ node
  one_node level on pairs node other spelled numbered again named =
      let one = spelled_reads g.fan bytes level on (narrow g) spelled in
      let two = spelled_reads g.fan bytes node.level other (narrow g) again in
      let level_is : level ≡ node.level = sym one.same_level ∙ two.same_level in
      let on_is : on ≡ other = sym one.same_pairs ∙ two.same_pairs in
      let there : AllZip (IsNumbered (pages_at (node.level - 1) plan)) other pairs =
      subst (λ (l : ℕ). AllZip (IsNumbered (pages_at (l - 1) plan)) other pairs) level_is (subst (λ (ps : List Pair). AllZip (IsNumbered (pages_at (level - 1) plan)) ps pairs) on_is numbered) in
      ap (λ (l : ℕ). node_of l pairs) level_is ∙ ap (node_of node.level) (one_numbered (pages_at (node.level - 1) plan) other pairs node.pairs there named)

-- what is written in front of the bytes that were there
pub node_taken : (node : Node) (out rest : List ℕ) (n : ℕ) → out ≡ node_item node ++ rest → n ≡ 3 + 12 * length node.pairs → take n out ≡ node_item node
node_taken node out rest n is len = ap (λ (k : ℕ). take k out) (len ∙ sym (length-node node)) ∙ ap (take (length (node_item node))) is ∙ take-append_seam (node_item node) rest

pub node_inside : (node : Node) (out rest : List ℕ) (n : ℕ) → out ≡ node_item node ++ rest → n ≡ 3 + 12 * length node.pairs → n ≤ length out
node_inside node out rest n is len = omega (arith, ap length is, length-append (node_item node) rest, len, length-node node)
