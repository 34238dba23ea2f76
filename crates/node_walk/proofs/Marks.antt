-- The marks of leaves after one is set.
use Rattle.std.proofs.Common.{◌≡◌, ◌≢◌, ℕ, ◌+◌, ◌*◌, ◌/◌, ◌%◌, ◌^◌, Bool, true, false, cond, eqb, refl, ap, sym, ◌∙◌, inl, inr, arith}
use Rattle.std.specs.Prelude.{bit_or, unwrap_or}
use Rattle.std.specs.HashMap.{get}
use Rattle.std.specs.Int.{bit_at, w64}
use Rattle.std.proofs.lemmas.Bool.{cases_eq, eq-eqb, ne_eqb}
use Rattle.std.proofs.lemmas.Nat.{div-add-mod', mod_below}
use Rattle.std.proofs.lemmas.Nat.Bits.{bit_at_set_same, bit_at_set_other}
use Rattle.node_walk.specs.declared.notes.TreeNotes.{TreeNotes}
use Rattle.node_walk.specs.Notes.{marks_of}

-- the marks of a group, with that of one of its pages
abbrev pub more_marks : ℕ → ℕ → ℕ
more_marks marks page = bit_or marks (1 * 2 ^ (page % 64) % 2 ^ 64)

-- whether a page has its mark, by the marks of each group
abbrev pub marked_by : (ℕ → ℕ) → ℕ → Bool
marked_by marks page = eqb (bit_at (marks (page / 64)) (page % 64)) 1

pub marked_here : (old new : ℕ → ℕ) (page : ℕ) → new (page / 64) ≡ more_marks (old (page / 64)) page → marked_by new page ≡ true
marked_here old new page is =
    let bit : bit_at (more_marks (old (page / 64)) page) (page % 64) ≡ 1 = bit_at_set_same w64 (old (page / 64)) (page % 64) (mod_below page 64 (omega arith)) in
    ap (λ w. eqb (bit_at w (page % 64)) 1) is ∙ eq-eqb _ _ bit

-- pages of one group have places of their own in it
apart_in_group : (page q : ℕ) → q ≢ page → q / 64 ≡ page / 64 → q % 64 ≢ page % 64
apart_in_group page q other same place =
    let a : page / 64 * 64 + page % 64 ≡ page = div-add-mod' page 64 in
    let b : q / 64 * 64 + q % 64 ≡ q = div-add-mod' q 64 in
    other (omega arith)

pub marked_else : (old new : ℕ → ℕ) (page q : ℕ) → new (page / 64) ≡ more_marks (old (page / 64)) page → ((g : ℕ) → g ≢ page / 64 → new g ≡ old g) → q ≢ page → marked_by new q ≡ marked_by old q
marked_else old new page q is others other = elim (cases_eq (q / 64) (page / 64)) [
  | inl same ↦
      let marks : new (q / 64) ≡ more_marks (old (q / 64)) page = ap new same ∙ (is ∙ ap (λ g. more_marks (old g) page) (sym same)) in
      ap (λ w. eqb (bit_at w (q % 64)) 1) marks ∙ ap (λ b. eqb b 1) (bit_at_set_other w64 (old (q / 64)) (page % 64) (mod_below page 64 (omega arith)) (q % 64) (apart_in_group page q other same))
  | inr apart ↦ ap (λ w. eqb (bit_at w (q % 64)) 1) (others (q / 64) apart)
]

-- other marks at hand are those of the group at hand
pub marks_at_hand : (notes : TreeNotes) (group marks : ℕ) → notes.group ≡ group → marks_of (record notes { marks = marks }) group ≡ marks
marks_at_hand notes group marks at =
    let yes : eqb group notes.group ≡ true = eq-eqb group notes.group (sym at) in
    ap (λ b. cond b marks (unwrap_or (get eqb notes.leaves group) 0)) yes

pub marks_elsewhere : (notes : TreeNotes) (group marks g : ℕ) → notes.group ≡ group → g ≢ group → marks_of (record notes { marks = marks }) g ≡ marks_of notes g
marks_elsewhere notes group marks g at apart =
    let no : eqb g notes.group ≡ false = ne_eqb g notes.group (λ same. apart (same ∙ at)) in
    rw no refl
