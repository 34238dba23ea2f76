-- Two lists that grow side by side, and the record at an older place.
use Rattle.std.proofs.Common.{◌≡◌, ◌≤◌, ◌+◌, ℕ, zero, suc, List, [], ◌∷◌, ◌++◌, length, take, Option, Some, None, sym, subst, ap, ◌∙◌, arith}
use Rattle.std.specs.Prelude.{slice_get}
use Rattle.std.specs.List.{AllZip}
use Rattle.std.proofs.lemmas.List.{take_all}
use Rattle.std.proofs.lemmas.Option.{none-some, same_Some}
use Rattle.ex_base.specs.declared.ground.Ground as ground
use Rattle.ex_base.specs.declared.names.Index.{Index}
use Rattle.ex_base.specs.declared.names.Place.{Place}
use Rattle.file_bodies.specs.Files.{HasBody}
use Rattle.object_records.specs.declared.Head.{Head}
use Rattle.object_records.specs.Record.{Record}
use Rattle.object_records.specs.Reads.{record_on}
use Rattle.object_records.proofs.RecordLaws.{record_read}
use Rattle.trees.specs.declared.Pair.{Pair}
use Rattle.history_volumes.specs.Transcribed.{number_in}
use Rattle.history_dump.specs.Items.{IsNumbered, IsOlderNumber}

pub take_next : {A : Type 0} (xs : List A) (i : ℕ) (x : A) → slice_get xs i ≡ Some x → take (suc i) xs ≡ take i xs ++ x ∷ []
take_next [] i x is = absurd (none-some x is)
take_next (y ∷ xs) zero x is = ap (λ (z : _). z ∷ []) (same_Some y x is)
take_next (y ∷ xs) (suc i) x is = ap (λ (zs : List _). y ∷ zs) (take_next xs i x is)

zip_push : {A B : Type 0} (R : A → B → Type 0) (xs : List A) (ys : List B) (x : A) (y : B) → AllZip R xs ys → R x y → AllZip R (xs ++ x ∷ []) (ys ++ y ∷ [])
zip_push R [] [] x y both here = (here, tt)
zip_push R [] (b ∷ ys) x y both here = absurd both
zip_push R (a ∷ xs) [] x y both here = absurd both
zip_push R (a ∷ xs) (b ∷ ys) x y both here = (both.0, zip_push R xs ys x y both.1 here)

zip_there : {A B : Type 0} (R : A → B → Type 0) (xs : List A) (ys : List B) (i : ℕ) (x : A) → AllZip R xs ys → slice_get xs i ≡ Some x → (y : B) × R x y
zip_there R [] ys i x both is = absurd (none-some x is)
zip_there R (a ∷ xs) [] i x both is = absurd both
zip_there R (a ∷ xs) (b ∷ ys) zero x both is = (b, subst (λ (z : _). R z b) (same_Some a x is) both.0)
zip_there R (a ∷ xs) (b ∷ ys) (suc i) x both is = zip_there R xs ys i x both.1 is

module _ (pages : List ℕ) where
  pub pair_more : (pairs numbered more : List Pair) (i : ℕ) (pair made : Pair) → AllZip (IsNumbered pages) (take i pairs) numbered → slice_get pairs i ≡ Some pair → IsNumbered pages pair made → more ≡ numbered ++ made ∷ []
      → AllZip (IsNumbered pages) (take (i + 1) pairs) more
  pair_more pairs numbered more i pair made so_far is here put =
      subst (λ (ps : List Pair). AllZip (IsNumbered pages) ps more) (sym (ap (λ (k : ℕ). take k pairs) (let e : i + 1 ≡ suc i = omega arith in e) ∙ take_next pairs i pair is))
      (subst (AllZip (IsNumbered pages) (take i pairs ++ pair ∷ [])) (sym put) (zip_push (IsNumbered pages) (take i pairs) numbered pair made so_far here))

  pub pair_none : (pairs numbered : List Pair) (i : ℕ) (pair : Pair) → AllZip (IsNumbered pages) pairs numbered → slice_get pairs i ≡ Some pair → (found : Option ℕ) → found ≡ number_in pages pair.page.0 → found ≡ None → ⊥
  pair_none pairs numbered i pair all is found e none = let y = zip_there (IsNumbered pages) pairs numbered i pair all is in none-some y.0.page.0 (sym none ∙ e ∙ y.1.number)

  pub pair_all : (pairs numbered : List Pair) (i : ℕ) → length pairs ≤ i → AllZip (IsNumbered pages) (take i pairs) numbered → AllZip (IsNumbered pages) pairs numbered
  pair_all pairs numbered i past so_far = subst (λ (ps : List Pair). AllZip (IsNumbered pages) ps numbered) (take_all i pairs past) so_far

module _ {S : Type 0} (g : ground.Ghosts S) (s : S) (index : Index) where
  pub older_read : (place : Place) (is : Option ℕ) (head : Head) → ((body : List ℕ) → HasBody g s index place body → head ≡ (record_on body).head) → IsOlderNumber g s index (Some place) is → is ≡ Some head.unique
  older_read place is head read (body, r, has, spelled, number) =
      number ∙ ap (λ (x : Head). Some x.unique) (sym (read body has ∙ ap (λ (x : Record). x.head) (record_read body r spelled)))
