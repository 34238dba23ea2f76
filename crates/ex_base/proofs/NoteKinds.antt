-- The kinds of notes and their numbers.
use Rattle.std.proofs.Common.{◌≡◌, ◌+◌, ◌<◌, ◌≤◌, ◌∙◌, ℕ, List, length, drop, get_or, Contains, ⊎_elim, ap, subst, arith}
use Rattle.std.proofs.lemmas.List.{drop_more, length-drop}
use Rattle.ex_base.specs.declared.notes.NoteKind.{NoteKind}
use Rattle.ex_base.specs.NoteKinds.{kind_number}
use Rattle.ex_base.proofs.Members.{contains_cases}

-- A number stands for one kind at most.
pub one_kind : (a b : NoteKind) → kind_number a ≡ kind_number b → a ≡ b
one_kind a b same = grind arith

-- A kind that is not the next one is among those behind it.
pub kind_later : (kinds : List NoteKind) (i : ℕ) (d kind : NoteKind) (number seen : ℕ) → i < length kinds → seen ≡ kind_number (get_or kinds i d) → (seen ≡ number → ⊥) → kind_number kind ≡ number → Contains (drop i kinds) kind → Contains (drop (i + 1) kinds) kind
kind_later kinds i d kind number seen within is other same here =
    ⊎_elim (λ next. absurd (other (is ∙ ap kind_number next ∙ same))) (λ later. later)
    (contains_cases (get_or kinds i d) kind (drop (i + 1) kinds) (subst (λ (l : List NoteKind). Contains l kind) (drop_more kinds i d within) here))

-- Behind the last one there is none.
pub no_kind_left : (kinds : List NoteKind) (i : ℕ) (kind : NoteKind) → length kinds ≤ i → Contains (drop i kinds) kind → ⊥
no_kind_left kinds i kind over here = omega (arith, here.1, length-drop i kinds)
