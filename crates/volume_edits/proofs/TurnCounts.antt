-- Records that turn are as many as before, with the one that is made and without the one that goes.
use Rattle.std.proofs.Common.{◌≡◌, ℕ, ◌+◌, ◌≤◌, List, [], ◌∷◌, ◌++◌, map, Option, Some, refl, sym, ap, subst, ◌∙◌, arith, inl, inr, ◌⊎◌}
use Rattle.std.specs.List.{sum_by}
use Rattle.std.specs.List.Sorted.{IsPermutation}
use Rattle.std.proofs.lemmas.List.Concat.{flat_map-append}
use Rattle.std.proofs.lemmas.List.Sorted.{sum_by-IsPermutation}
use Rattle.std.proofs.lemmas.List.Sums.{sum_by-cons}
use Rattle.ex_base.specs.declared.names.Place.{Place}
use Rattle.ex_base.specs.declared.names.Root.{Root}
use Rattle.ex_base.specs.Ports.{times}
use Rattle.ex_base.proofs.Counts.{times-append}
use Rattle.ex_base.proofs.Members.{In, contains_in, in_contains}
use Rattle.version_lists.proofs.Lists.{Has, contains_has, has_back, has_contains, has_either, has_front, has_map, has_map_from}
use Rattle.object_records.specs.Record.{Content}
use Rattle.trees.specs.Owners.{page_here, root_pages}
use Rattle.volume_model.specs.Volume.{Stored, root_in, roots_in, unique_of}
use Rattle.volume_model.proofs.Places.{Sep, sep_map, sep_one, sep_to}
use Rattle.volume_edits.proofs.Lists.{permuted}
use Rattle.volume_edits.proofs.Turning.{Came, Turn, gone_or_not, later_differ, turned}

-- ---- items of which something differs, in two lists

pub sep_front : {A B : Type 0} (f : A → B) (xs ys : List A) → Sep f (xs ++ ys) → Sep f xs
sep_front f [] ys s = tt
sep_front f (x ∷ xs) ys s = (λ y m e. s.0 y (has_front xs ys y m) e, sep_front f xs ys s.1)

pub sep_back : {A B : Type 0} (f : A → B) (xs ys : List A) → Sep f (xs ++ ys) → Sep f ys
sep_back f [] ys s = s
sep_back f (x ∷ xs) ys s = sep_back f xs ys s.1

pub sep_cross : {A B : Type 0} (f : A → B) (xs ys : List A) (x y : A) → Sep f (xs ++ ys) → Has xs x → Has ys y → f x ≡ f y → ⊥
sep_cross f [] ys x y s h k e = absurd h
sep_cross f (z ∷ xs) ys x y s (inl is) k e = s.0 y (has_back xs ys y k) (ap f is ∙ e)
sep_cross f (z ∷ xs) ys x y s (inr h) k e = sep_cross f xs ys x y s.1 h k e

pub sep_both : {A B : Type 0} (f : A → B) (xs ys : List A) → Sep f xs → Sep f ys → ((x y : A) → Has xs x → Has ys y → f x ≡ f y → ⊥) → Sep f (xs ++ ys)
sep_both f [] ys s t cross = t
sep_both {A} f (x ∷ xs) ys s t cross = (
  (λ y m e. elim (has_either xs ys y m) [ inl a ↦ s.0 y a e | inr b ↦ cross x y (inl refl) b e ]),
  sep_both f xs ys s.1 t (λ z y h k e. cross z y (inr h) k e),
)

pub has_in : {A : Type 0} (xs : List A) (x : A) → Has xs x → In x xs
has_in xs x h = in_contains x xs (has_contains xs x h)

pub in_has : {A : Type 0} (xs : List A) (x : A) → In x xs → Has xs x
in_has xs x h = contains_has xs x (contains_in x xs h)

-- ---- the roots that records have

-- how often they name a page as that of a root
abbrev pub named_root : ℕ → List Stored → ℕ
named_root p stored = times p (root_pages (roots_in stored))

pub named_append : (p : ℕ) (xs ys : List Stored) → named_root p (xs ++ ys) ≡ named_root p xs + named_root p ys
named_append p xs ys =
    ap (λ (rs : List Root). times p (root_pages rs)) (flat_map-append (λ (s : Stored). root_in s.body.content) xs ys)
    ∙ ap (times p) (flat_map-append (λ (root : Root). page_here root.page) (roots_in xs) (roots_in ys)) ∙ times-append p (root_pages (roots_in xs)) (root_pages (roots_in ys))

named_sum : (p : ℕ) (xs : List Stored) → named_root p xs ≡ sum_by (λ s. named_root p (s ∷ [])) xs
named_sum p [] = refl
named_sum p (x ∷ xs) = named_append p (x ∷ []) xs ∙ (let rest = named_sum p xs in omega (arith, rest, sum_by-cons (λ s. named_root p (s ∷ [])) x xs))

pub named_has : (p : ℕ) (xs : List Stored) (x : Stored) → Has xs x → named_root p (x ∷ []) ≤ named_root p xs
named_has p [] x h = absurd h
named_has p (y ∷ ys) x (inl e) = omega (arith, ap (λ (s : Stored). named_root p (s ∷ [])) e, named_append p (y ∷ []) ys)
named_has p (y ∷ ys) x (inr h) = omega (arith, named_has p ys x h, named_append p (y ∷ []) ys)

pub named_permuted : (p : ℕ) (xs ys : List Stored) → IsPermutation xs ys → named_root p ys ≡ named_root p xs
named_permuted p xs ys h = named_sum p ys ∙ sum_by-IsPermutation (λ s. named_root p (s ∷ [])) xs ys h ∙ sym (named_sum p xs)

abbrev pub own_content : Stored → Content
own_content s = s.body.content

pub roots_same : (older newer : Stored → Option Place) (stored : List Stored) → roots_in (map (turned older newer own_content) stored) ≡ roots_in stored
roots_same older newer [] = refl
roots_same older newer (s ∷ stored) = ap (λ (rest : List Root). root_in s.body.content ++ rest) (roots_same older newer stored)

module _ (stored later : List Stored) (older newer : Stored → Option Place) (gone : Option Place) (made : List Stored) (turn : Turn stored later older newer own_content gone made) (lost : List Stored)
    (lost_here : (s : Stored) → Has lost s → Has stored s × (gone ≡ Some s.place)) (all_lost : (s : Stored) → Has stored s → gone ≡ Some s.place → Has lost s) (lost_apart : Sep unique_of lost)
    (differ : Sep unique_of stored) (fresh : (s t : Stored) → Has stored s → Has made t → unique_of s ≡ unique_of t → ⊥) (made_apart : Sep unique_of made) where
  abbrev now : Stored → Stored
  now s = turned older newer own_content s

  abbrev left : List Stored
  left = map now lost ++ later

  abbrev right : List Stored
  right = map now stored ++ made

  left_apart : Sep unique_of left
  left_apart = sep_both unique_of (map now lost) later (sep_map now unique_of lost lost_apart) (later_differ stored later older newer own_content gone made turn differ fresh) (λ x t h k e. let s = has_map_from now lost x h in not_lost s.0 t s.1 (turn.from t k) (ap unique_of s.2 ∙ e))
    where
      not_lost : (s t : Stored) → Has lost s → Has made t ⊎ Came stored older newer own_content gone t → unique_of s ≡ unique_of t → ⊥
      not_lost s t h (inl m) e = fresh s t (lost_here s h).0 m e
      not_lost s t h (inr c) e =
          let l = lost_here s h in
          let same : c.was ≡ s = sep_one unique_of stored c.was s differ c.there l.0 (ap unique_of c.is ∙ sym e) in
          c.stays (l.1 ∙ ap (λ (x : Stored). Some x.place) (sym same))

  right_apart : Sep unique_of right
  right_apart = sep_both unique_of (map now stored) made (sep_map now unique_of stored differ) made_apart (λ x t h k e. let s = has_map_from now stored x h in fresh s.0 t s.1 k (ap unique_of s.2 ∙ e))

  to_right : (x : Stored) → Has left x → Has right x
  to_right x h = elim (has_either (map now lost) later x h) [
    | inl a ↦ (let s = has_map_from now lost x a in has_front (map now stored) made x (subst (Has (map now stored)) s.2 (has_map now stored s.0 (lost_here s.0 s.1).0)))
    | inr b ↦ elim (turn.from x b) [
      | inl m ↦ has_back (map now stored) made x m
      | inr c ↦ has_front (map now stored) made x (subst (Has (map now stored)) c.is (has_map now stored c.was c.there))
    ]
  ]

  to_left : (x : Stored) → Has right x → Has left x
  to_left x h = elim (has_either (map now stored) made x h) [
    | inr m ↦ has_back (map now lost) later x (turn.put x m)
    | inl a ↦ (let s = has_map_from now stored x a in subst (Has left) s.2 (elim (gone_or_not gone s.0) [
      | inl g ↦ has_front (map now lost) later (now s.0) (has_map now lost s.0 (all_lost s.0 s.1 g))
      | inr n ↦ has_back (map now lost) later (now s.0) (turn.to s.0 s.1 n)
    ]))
  ]

  pub as_many : IsPermutation left right
  as_many = permuted unique_of left right (sep_to unique_of left left_apart) (sep_to unique_of right right_apart) (λ z k. has_in right z (to_right z (in_has left z k))) (λ z k. has_in left z (to_left z (in_has right z k)))

  -- the roots are as many, with those of the one that is made and without those of the one that goes
  pub roots_counted : (p : ℕ) → named_root p lost + named_root p later ≡ named_root p stored + named_root p made
  roots_counted p = omega (
    arith,
    named_permuted p left right as_many,
    named_append p (map now lost) later,
    named_append p (map now stored) made,
    ap (λ (rs : List Root). times p (root_pages rs)) (roots_same older newer lost),
    ap (λ (rs : List Root). times p (root_pages rs)) (roots_same older newer stored),
  )
