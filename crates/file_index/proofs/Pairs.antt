-- Two pages side by side whose entries are spread, as the calls below name them and as their pair does.
use Rattle.std.proofs.Common.{◌≡◌, ◌≢◌, ◌≤◌, ◌*◌, ◌/◌, ℕ, Bool, true, false, List, [], ◌∷◌, length, Option, Some, sym, ap, subst, ◌∙◌, arith}
use Rattle.std.specs.Prelude.{if◌then◌else◌, option_to_list}
use Rattle.ex_base.specs.declared.ground.Ground as ground
use Rattle.ex_base.specs.declared.geometry.Geometry.{Geometry}
use Rattle.ex_base.specs.declared.faults.PortFault.{PortFault}
use Rattle.ex_base.specs.Ports.{Keeps}
use Rattle.file_index.specs.declared.Entry.{Entry}
use Rattle.file_index.specs.declared.named.Named.{Named}
use Rattle.file_index.specs.declared.spreading.Pair.{Pair}
use Rattle.file_index.specs.IndexPage.{entries_on, most_entries}
use Rattle.file_index.specs.Changes.{Changes}
use Rattle.file_index.specs.Index.{IsFilesPage, IsNamed, least_entries}
use Rattle.file_index.specs.Damage.{IsPageFault}
use Rattle.file_index.specs.Nodes.{Stored, heads, joined, thin_of, beside_of}
use Rattle.file_index.proofs.Halves.{changes_since}
use Rattle.file_index.proofs.LaterStates.{page_after}
use Rattle.file_index.proofs.Parts.{joined_length}
use Rattle.file_index.proofs.Rooms.{some_entries}

-- what names a page of the pair
abbrev pub named_for : Pair → Entry → Named
named_for pair entry = record { page = entry.page; level = pair.level; least = Some entry.key; file_no = pair.file_no }

-- what holds of the thin page and of the one beside it holds of both
both_of : (P : Entry → Type 0) (pair : Pair) → P (thin_of pair) → P (beside_of pair) → P pair.left × P pair.right
both_of P pair thin beside = (elim pair.thin_is_left as (λ t. P (if t then pair.left else pair.right) → P (if t then pair.right else pair.left) → P pair.left
    × P pair.right) [
      | true ↦ λ own other. (own, other)
      | false ↦ λ own other. (other, own)
    ]) thin beside

-- ---- how many entries both pages have

module _ (g : Geometry) (own_is_left : Bool) (own other all : List Entry) (is : all ≡ joined own_is_left own other) where
  pub joined_some : (least : Option ℕ) → least_entries g.page_size least ≤ length other → 1 ≤ length all
  joined_some least few = some_entries g least (length other) (length all) few (omega (arith, ap length is, joined_length own_is_left own other))

  pub joined_few : length own ≤ most_entries g.page_size → length other ≤ most_entries g.page_size → length all ≤ 2 * most_entries g.page_size
  joined_few one two = omega (arith, ap length is, joined_length own_is_left own other, one, two)

enough_joined : (own_is_left : Bool) (own other : List Entry) (n : ℕ) → n ≤ length other → n ≤ length (joined own_is_left own other)
enough_joined own_is_left own other n le = omega (arith, joined_length own_is_left own other, le)

-- ---- the pages of the pair, over the call that read the entries beside

module _ {S : Type 0} (g : ground.Ghosts S) (a b : S) (pair : Pair) (left right beside : Named) (entry : Entry) (left_is : left ≡ named_for pair pair.left)
    (right_is : right ≡ named_for pair pair.right)
    (beside_is : beside ≡ named_for pair entry) (entry_is : entry ≡ beside_of pair) (kept : Keeps g a b) where
  other_is : beside ≡ named_for pair (beside_of pair)
  other_is = beside_is ∙ ap (named_for pair) entry_is

  pub both_files : IsFilesPage (g.geometry a) (thin_of pair).page.0 → IsFilesPage (g.geometry a) beside.page.0
      → IsFilesPage (g.geometry b) left.page.0 × IsFilesPage (g.geometry b) right.page.0
  both_files thin other =
      let here = subst (λ (n : Named). IsFilesPage (g.geometry a) n.page.0) other_is other in
      let both = both_of (λ (e : Entry). IsFilesPage (g.geometry b) e.page.0) pair (page_after g a b kept.leads (thin_of pair).page.0 thin)
      (page_after g a b kept.leads (beside_of pair).page.0 here) in (
        subst (λ (n : Named). IsFilesPage (g.geometry b) n.page.0) (sym left_is) both.0,
        subst (λ (n : Named). IsFilesPage (g.geometry b) n.page.0)
            (sym right_is) both.1,
      )

  pub both_held : g.held a (thin_of pair).page.0 ≡ true → g.held a beside.page.0 ≡ true → (g.held b left.page.0 ≡ true) × (g.held b right.page.0 ≡ true)
  both_held thin other =
      let here = subst (λ (n : Named). g.held a n.page.0 ≡ true) other_is other in
      let both = both_of (λ (e : Entry). g.held a e.page.0 ≡ true) pair thin here in
      let now : (p : ℕ) → g.held a p ≡ true → g.held b p ≡ true = λ p held. ap (λ (f : ℕ → Bool). f p) kept.held ∙ held in (
        subst (λ (n : Named). g.held b n.page.0 ≡ true) (sym left_is) (now pair.left.page.0 both.0),
        subst (λ (n : Named). g.held b n.page.0 ≡ true)
            (sym right_is) (now pair.right.page.0 both.1),
      )

  pub both_same : (right.level ≡ left.level) × (right.file_no ≡ left.file_no)
  both_same = (
    ap (λ (n : Named). n.level) right_is ∙ sym (ap (λ (n : Named). n.level) left_is),
    ap (λ (n : Named). n.file_no) right_is ∙ sym
        (ap (λ (n : Named). n.file_no) left_is),
  )

  pub left_level : 1 ≤ pair.level → 1 ≤ left.level
  left_level some = subst (λ (n : Named). 1 ≤ n.level) (sym left_is) some

  pub pair_changes : (c : S) (second : Option Entry) → Changes g b c (left.page.0 ∷ right.page.0 ∷ []) (left.page.0 ∷ heads (option_to_list second))
      → Changes g a c (pair.left.page.0 ∷ pair.right.page.0 ∷ []) (pair.left.page.0 ∷ heads (option_to_list second))
  pair_changes c second changes =
      changes_since g a b c (pair.left.page.0 ∷ pair.right.page.0 ∷ []) (pair.left.page.0 ∷ heads (option_to_list second)) kept
      (subst (λ (n : Named). Changes g b c (pair.left.page.0 ∷ n.page.0 ∷ []) (pair.left.page.0 ∷ heads (option_to_list second))) right_is
      (subst (λ (n : Named). Changes g b c (n.page.0 ∷ right.page.0 ∷ []) (n.page.0 ∷ heads (option_to_list second))) left_is changes))

  module _ (thin other : List Entry) (read : g.tells a → other ≡ entries_on (g.image a beside.page.0)) where
    read_beside : g.tells a → other ≡ entries_on (g.image a (beside_of pair).page.0)
    read_beside told = read told ∙ ap (λ (n : Named). entries_on (g.image a n.page.0)) other_is

    pub pair_stored : (c : S) (all now : List Entry) (second : Option Entry) → now ≡ all → all ≡ joined pair.thin_is_left thin other
        → (g.tells b → left.page.0 ≢ right.page.0 → Stored g c left.page.0 left.level left.file_no now second)
        → g.tells a → pair.left.page.0 ≢ pair.right.page.0 → Stored g c pair.left.page.0 pair.level pair.file_no
        (joined pair.thin_is_left thin (entries_on (g.image a (beside_of pair).page.0))) second
    pair_stored c all now second now_is all_is stored told differ =
        let apart : left.page.0 ≢ right.page.0 = λ same. differ (sym (ap (λ (n : Named). n.page.0) left_is) ∙ same ∙ ap (λ (n : Named). n.page.0) right_is) in
        let whole : now ≡ joined pair.thin_is_left thin (entries_on (g.image a (beside_of pair).page.0)) = now_is ∙ all_is ∙ ap
        (joined pair.thin_is_left thin) (read_beside told) in
        subst (λ (l : List Entry). Stored g c pair.left.page.0 pair.level pair.file_no l second) whole
        (subst (λ (n : Named). Stored g c n.page.0 n.level n.file_no now second) left_is (stored (g.leads_told a b kept.leads told) apart))

    pub pair_enough : least_entries (g.geometry a).page_size beside.least ≤ length other → g.tells a
        → most_entries (g.geometry a).page_size / 2 ≤ length (joined pair.thin_is_left thin (entries_on (g.image a (beside_of pair).page.0)))
    pair_enough few told =
        let half : most_entries (g.geometry a).page_size / 2 ≤ length other = subst
        (λ (n : Named). least_entries (g.geometry a).page_size n.least ≤ length other) other_is few in
        subst (λ (l : List Entry). most_entries (g.geometry a).page_size / 2 ≤ length (joined pair.thin_is_left thin l)) (read_beside told)
        (enough_joined pair.thin_is_left thin other (most_entries (g.geometry a).page_size / 2) half)

  -- what is told of the page beside
  pub beside_fault : (fault : PortFault)
      → IsPageFault (g.geometry a) (g.held a) (g.image a beside.page.0) beside.level beside.file_no beside.least beside.page.0 fault
      → IsPageFault (g.geometry a) (g.held b) (g.image b (beside_of pair).page.0) pair.level pair.file_no (Some (beside_of pair).key) (beside_of pair).page.0
      fault
  beside_fault fault told =
      subst (λ (n : Named). IsPageFault (g.geometry a) (g.held b) (g.image b n.page.0) n.level n.file_no n.least n.page.0 fault) other_is
      (subst (λ (f : ℕ → List ℕ). IsPageFault (g.geometry a) (g.held b) (f beside.page.0) beside.level beside.file_no beside.least beside.page.0 fault)
      (sym kept.images)
      (subst (λ (h : ℕ → Bool). IsPageFault (g.geometry a) h (g.image a beside.page.0) beside.level beside.file_no beside.least beside.page.0 fault)
      (sym kept.held) told))

  pub beside_sound : (IsFilesPage (g.geometry a) beside.page.0 → g.held a beside.page.0 ≡ true → IsNamed (g.geometry a).page_size (g.image a beside.page.0) beside.level beside.file_no beside.least → ⊥)
      → IsFilesPage (g.geometry a) (beside_of pair).page.0 → g.held a (beside_of pair).page.0 ≡ true
      → IsNamed (g.geometry a).page_size (g.image a (beside_of pair).page.0) pair.level pair.file_no (Some (beside_of pair).key) → ⊥
  beside_sound = subst (λ (n : Named). IsFilesPage (g.geometry a) n.page.0 → g.held a n.page.0 ≡ true → IsNamed (g.geometry a).page_size (g.image a n.page.0)
      n.level n.file_no n.least → ⊥) other_is
