-- The first part that fails is one.
use Rattle.std.proofs.Common.{◌≡◌, inl, inr, ℕ, zero, suc, ◌+◌, ◌≤◌, List, [], ◌∷◌, take, Some, refl, sym, ap, ◌∙◌, arith}
use Rattle.std.specs.Prelude.{slice_get}
use Rattle.std.specs.List.{AllByRecursion}
use Rattle.std.proofs.lemmas.Bool.{cases_lt}
use Rattle.session_views.specs.declared.Part.{Part}
use Rattle.session_views.specs.declared.Part.TheVariants.{Super, Log, Catalog, File, Page, Body, Node, Balance, Unique}
use Rattle.volume_model.specs.Parts.{Holds, FirstBad, FirstHold, all_parts, rank}

fewer : {A : Type 0} (P : A → Type 0) (n m : ℕ) (xs : List A) → n ≤ m → AllByRecursion P (take m xs) → AllByRecursion P (take n xs)
fewer P zero m xs le h = tt
fewer P (suc n) zero xs le h = absurd (omega arith)
fewer P (suc n) (suc m) [] le h = tt
fewer P (suc n) (suc m) (x ∷ xs) le h = (h.0, fewer P n m xs (omega (arith, le)) h.1)

fewer_hold : (disk : List ℕ) (n m : ℕ) → n ≤ m → FirstHold disk m → FirstHold disk n
fewer_hold disk n m le h = (h.0, fewer (Holds disk h.0) n m all_parts le h.1)

at_rank : (p : Part) → slice_get all_parts (rank p) ≡ Some p
at_rank Super = refl
at_rank Log = refl
at_rank Catalog = refl
at_rank File = refl
at_rank Page = refl
at_rank Body = refl
at_rank Node = refl
at_rank Balance = refl
at_rank Unique = refl

of_one_rank : (a b : Part) → rank a ≡ rank b → a ≡ b
of_one_rank a b same =
    let found : Some a ≡ Some b = sym (at_rank a) ∙ ap (λ (n : ℕ). slice_get all_parts n) same ∙ at_rank b in
    cc

pub one_part : (disk : List ℕ) (a b : Part) → FirstBad disk a → FirstBad disk b → a ≡ b
one_part disk a b p q = elim (cases_lt (rank a) (rank b)) [
  | inl lt ↦ absurd (p.fails (fewer_hold disk (rank a + 1) (rank b) (omega (arith, lt)) q.earlier))
  | inr le ↦ elim (cases_lt (rank b) (rank a)) [
    | inl lt ↦ absurd (q.fails (fewer_hold disk (rank b + 1) (rank a) (omega (arith, lt)) p.earlier))
    | inr ge ↦ of_one_rank a b (omega (arith, le, ge))
  ]
]
