-- The entries of a catalog, one after the other.
use Rattle.std.proofs.Common.{◌≡◌, ◌∙◌, ℕ, zero, suc, ◌+◌, Bool, true, false, cond, List, [], ◌∷◌, ◌++◌, map, take, Some, None, refl, sym, ap, add-one}
use Rattle.std.specs.Prelude.{find, slice_get, bytes_eq}
use Rattle.object_files.specs.Catalog.{FileEntry, name_of}
use Rattle.object_files.specs.Edits.{has_name}

module _ {A : Type 0} where
  next_taken : (xs : List A) (i : ℕ) (x : A) → slice_get xs i ≡ Some x → take (suc i) xs ≡ take i xs ++ x ∷ []
  next_taken [] i x is = absurd (cc)
  next_taken (y ∷ xs) zero x is = let same : y ≡ x = cc in ap (λ (z : A). z ∷ []) same
  next_taken (y ∷ xs) (suc i) x is = ap (λ (l : List A). y ∷ l) (next_taken xs i x is)

  module _ (p : A → Bool) where
    found_here : (xs : List A) (i : ℕ) (x : A) → find p (take i xs) ≡ None → slice_get xs i ≡ Some x → p x ≡ true → find p xs ≡ Some x
    found_here [] i x none is passes = absurd (cc)
    found_here (y ∷ xs) zero x none is passes = let same : y ≡ x = cc in let here : p y ≡ true = ap p same ∙ passes in rw here (ap Some same)
    found_here (y ∷ xs) (suc i) x none is passes = (elim (p y) as (λ b. cond b (Some y) (find p (take i xs)) ≡ None → cond b (Some y) (find p xs) ≡ Some x) [
      | true ↦ λ not. absurd (cc)
      | false ↦ λ rest. found_here xs i x rest is passes
    ]) none

    found_later : (xs : List A) (i : ℕ) (x : A) → find p (take i xs) ≡ None → slice_get xs i ≡ Some x → p x ≡ false → find p (take (suc i) xs) ≡ None
    found_later [] i x none is isnt = absurd (cc)
    found_later (y ∷ xs) zero x none is isnt = let same : y ≡ x = cc in let here : p y ≡ false = ap p same ∙ isnt in rw here refl
    found_later (y ∷ xs) (suc i) x none is isnt = (elim (p y) as (λ b. cond b (Some y) (find p (take i xs)) ≡ None → cond b (Some y) (find p (take (suc i) xs)) ≡ None) [
      | true ↦ λ not. absurd (cc)
      | false ↦ λ rest. found_later xs i x rest is isnt
    ]) none

pub entry_here : (name : List ℕ) (es : List FileEntry) (i : ℕ) (e : FileEntry) → find (has_name name) (take i es) ≡ None → slice_get es i ≡ Some e → bytes_eq e.name name ≡ true → Some e ≡ find (has_name name) es
entry_here name es i e none is passes = sym (found_here (has_name name) es i e none is passes)

pub entry_later : (name : List ℕ) (es : List FileEntry) (i : ℕ) (e : FileEntry) → find (has_name name) (take i es) ≡ None → slice_get es i ≡ Some e → bytes_eq e.name name ≡ false → find (has_name name) (take (i + 1) es) ≡ None
entry_later name es i e none is isnt = rw (add-one i) (found_later (has_name name) es i e none is isnt)

pub names_next : (es : List FileEntry) (i : ℕ) (e : FileEntry) → slice_get es i ≡ Some e → map name_of (take (i + 1) es) ≡ map name_of (take i es) ++ e.name ∷ []
names_next es i e is = ap (λ (n : ℕ). map name_of (take n es)) (add-one i) ∙ ap (λ (l : List FileEntry). map name_of l) (next_taken es i e is) ∙ pushed (take i es)
  where
    pushed : (l : List FileEntry) → map name_of (l ++ e ∷ []) ≡ map name_of l ++ e.name ∷ []
    pushed [] = refl
    pushed (x ∷ l) = ap (λ (ns : List (List ℕ)). x.name ∷ ns) (pushed l)

pub names_more : (es : List FileEntry) (i : ℕ) (e : FileEntry) (names pushed : List (List ℕ)) (copy : List ℕ) → slice_get es i ≡ Some e → names ≡ map name_of (take i es) → copy ≡ e.name → pushed ≡ names ++ copy ∷ []
    → pushed ≡ map name_of (take (i + 1) es)
names_more es i e names pushed copy is so_far same put = let next = names_next es i e is in put ∙ cc (so_far, same, next)
