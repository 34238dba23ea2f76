-- The values that options get, in what the scan reads and in items, and what clap found.
use Rattle.std.proofs.Common.{ℕ, ◌≡◌, ◌∙◌, ◌≤◌, ◌+◌, suc, sym, ap, refl, Bool, true, false, true≢false, ◌||◌, List, [], ◌∷◌, ◌++◌, Option, Some, None, map, arith, length, option_map}
use Rattle.std.specs.Prelude.{option_and_then, find, slice_get}
use Rattle.std.specs.List.{AllByRecursion}
use Rattle.std.specs.Str.{bytes_eq}
use Rattle.std.specs.Str.Parse.{digits_value}
use Rattle.std.specs.Borrow.{Bor}
use Rattle.std.proofs.lemmas.Slice.Eq.{bytes_eq-Decides}
use Rattle.clap.specs.Facts.{Entry}
use Rattle.clap.specs.Matches.{first_value}
use Rattle.clap.specs.Walk.{first_of, row_of, rows_of, texts}
use Rattle.clap.specs.declared.parser.matches.Found.{Found}
use Rattle.command_words.specs.Items.{Item, volume, apart, joined, first_number, value_if, values_of, volumes_of}
use Rattle.command_words.proofs.Scan.{Text, Given, has_id, volume_id}
use Rattle.command_words.proofs.ScanSpells.{FitItem, Fresh, given, has_id-push}
use Rattle.command_words.proofs.WalkAsScan.{row}
use Rattle.command_words.proofs.OptionFacts.{AreNames, has_name, is_name, option_name}

-- ---- the values of an id

abbrev pub values_in : Text → List Given → List Text
values_in id [] = []
values_in id (p ∷ g) = value_if (bytes_eq p.0 id) p.1 (values_in id g)

abbrev pub first_text : List Text → Option Text
first_text [] = None
first_text (v ∷ vs) = Some v

abbrev pub as_list : Option Text → List Text
as_list None = []
as_list (Some v) = v ∷ []

pub number_of_first : (vs : List Text) → first_number vs ≡ option_map (digits_value 10) (first_text vs)
number_of_first [] = refl
number_of_first (v ∷ vs) = refl

pub first_in : (id : Text) (g : List Given) → first_of id (map row g) ≡ first_text (values_in id g)
first_in id [] = refl
first_in id (p ∷ g) = go (bytes_eq p.0 id) refl (first_in id g)
  where
    go : (b : Bool) → bytes_eq p.0 id ≡ b → first_of id (map row g) ≡ first_text (values_in id g) → first_of id (map row (p ∷ g)) ≡ first_text (values_in id (p ∷ g))
    go true e rest = rw e refl
    go false e rest = rw e rest

first_of_texts : (xs : List (Bor Text)) → option_map (λ s. s.now) (slice_get xs 0) ≡ slice_get (texts xs) 0
first_of_texts [] = refl
first_of_texts (x ∷ xs) = refl

first_of_entries : (xs : List Entry) (id : Text) → option_and_then (λ a. option_map (λ s. s.now) (slice_get a.vals.items 0)) (option_map (λ e. e.1) (find (λ e. bytes_eq e.0.now id) xs))
    ≡ option_and_then (λ r. slice_get r.values 0) (find (λ r. bytes_eq r.id id) (map row_of xs))
first_of_entries [] id = refl
first_of_entries (x ∷ xs) id = go (bytes_eq x.0.now id) refl (first_of_entries xs id)
  where
    go : (b : Bool) → bytes_eq x.0.now id ≡ b
        → option_and_then (λ a. option_map (λ s. s.now) (slice_get a.vals.items 0)) (option_map (λ e. e.1) (find (λ e. bytes_eq e.0.now id) xs)) ≡ option_and_then (λ r. slice_get r.values 0) (find (λ r. bytes_eq r.id id) (map row_of xs))
        → option_and_then (λ a. option_map (λ s. s.now) (slice_get a.vals.items 0)) (option_map (λ e. e.1) (find (λ e. bytes_eq e.0.now id) (x ∷ xs))) ≡ option_and_then (λ r. slice_get r.values 0) (find (λ r. bytes_eq r.id id) (map row_of (x ∷ xs)))
    go true e rest = rw e (first_of_texts x.1.vals.items)
    go false e rest = rw e rest

-- `get_str`, by the rows
pub first_value_is : (f : Found) (id : Text) → first_value f id ≡ first_of id (rows_of f)
first_value_is f id = first_of_entries f.entries.items id

pub option_values : (name : Text) → bytes_eq volume_id name ≡ false → (items : List Item) → values_in name (map given items) ≡ values_of name items
option_values name other [] = refl
option_values name other (volume w ∷ items) = rw other (option_values name other items)
option_values name other (apart n v ∷ items) = ap (λ vs. value_if (bytes_eq n name) v vs) (option_values name other items)
option_values name other (joined n v ∷ items) = ap (λ vs. value_if (bytes_eq n name) v vs) (option_values name other items)

-- an option of one of the names isn't the volume
pub not_volume : (names : List Text) → AreNames names → (n : Text) → is_name names n ≡ true → bytes_eq n volume_id ≡ false
not_volume names all n h = (option_name names n all (has_name names n h)).not_volume

pub volume_values : (names : List Text) → AreNames names → (items : List Item) → AllByRecursion (FitItem (is_name names)) items → values_in volume_id (map given items) ≡ volumes_of items
volume_values names all [] fit = refl
volume_values names all (volume w ∷ items) fit = ap (λ vs. w ∷ vs) (volume_values names all items fit.1)
volume_values names all (apart n v ∷ items) fit = rw (not_volume names all n fit.0.0) (volume_values names all items fit.1)
volume_values names all (joined n v ∷ items) fit = rw (not_volume names all n fit.0) (volume_values names all items fit.1)

-- ---- given once

or_true : (b : Bool) → (b || true) ≡ true
or_true true = refl
or_true false = refl

pushed_new : (id : Text) (g : List Given) (p : Given) → bytes_eq p.0 id ≡ true → has_id id (g ++ p ∷ []) ≡ true
pushed_new id g p e = has_id-push id g p ∙ ap (λ b. has_id id g || b) e ∙ or_true (has_id id g)

pushed_old : (id : Text) (g : List Given) (p : Given) → has_id id g ≡ true → has_id id (g ++ p ∷ []) ≡ true
pushed_old id g p e = has_id-push id g p ∙ ap (λ b. b || bytes_eq p.0 id) e

gone : (id : Text) (g xs : List Given) → Fresh g xs → has_id id g ≡ true → values_in id xs ≡ []
gone id g [] f has = refl
gone id g (p ∷ ps) f has = go (bytes_eq p.0 id) refl (gone id (g ++ p ∷ []) ps f.1 (pushed_old id g p has))
  where
    go : (b : Bool) → bytes_eq p.0 id ≡ b → values_in id ps ≡ [] → values_in id (p ∷ ps) ≡ []
    go true e rest =
        let same : p.0 ≡ id = (bytes_eq-Decides p.0 id).0 e in
        absurd (true≢false (sym has ∙ ap (λ x. has_id x g) (sym same) ∙ f.0))
    go false e rest = rw e rest

pub single : (id : Text) (g xs : List Given) → Fresh g xs → values_in id xs ≡ as_list (first_text (values_in id xs))
single id g [] f = refl
single id g (p ∷ ps) f = go (bytes_eq p.0 id) refl (single id (g ++ p ∷ []) ps f.1) (gone id (g ++ p ∷ []) ps f.1)
  where
    go : (b : Bool) → bytes_eq p.0 id ≡ b → values_in id ps ≡ as_list (first_text (values_in id ps)) → (has_id id (g ++ p ∷ []) ≡ true → values_in id ps ≡ [])
        → values_in id (p ∷ ps) ≡ as_list (first_text (values_in id (p ∷ ps)))
    go true e rest none = rw e (ap (λ vs. p.1 ∷ vs) (none (pushed_new id g p e)))
    go false e rest none = rw e rest

pub few : (o : Option Text) → length (as_list o) ≤ 1
few None = omega arith
few (Some v) = omega arith

abbrev pub count : Text → List Given → ℕ
count id g = length (values_in id g)

count_first : (id : Text) (p : Given) (ps : List Given) → count id (p ∷ ps) ≡ count id (p ∷ []) + count id ps
count_first id p ps = go (bytes_eq p.0 id) refl
  where
    go : (b : Bool) → bytes_eq p.0 id ≡ b → count id (p ∷ ps) ≡ count id (p ∷ []) + count id ps
    go true e = rw e (omega arith)
    go false e = rw e (omega arith)

count-push : (id : Text) (g : List Given) (p : Given) → count id (g ++ p ∷ []) ≡ count id g + count id (p ∷ [])
count-push id [] p = omega arith
count-push id (q ∷ g) p =
    let rest = count-push id g p in
    let left = count_first id q (g ++ p ∷ []) in
    let right = count_first id q g in
    omega arith

no_count : (id : Text) (g : List Given) → count id g ≡ 0 → has_id id g ≡ false
no_count id [] h = refl
no_count id (p ∷ g) h = go (bytes_eq p.0 id) refl (no_count id g)
  where
    go : (b : Bool) → bytes_eq p.0 id ≡ b → (count id g ≡ 0 → has_id id g ≡ false) → has_id id (p ∷ g) ≡ false
    go true e rest = let bad : suc (count id g) ≡ 0 = rw e at h in absurd (omega arith)
    go false e rest = rw e (rest (rw e at h))

own_count : (p : Given) → count p.0 (p ∷ []) ≡ 1
own_count p = rw ((bytes_eq-Decides p.0 p.0).1 refl) refl

pub fresh_from : (xs g : List Given) → ((id : Text) → count id g + count id xs ≤ 1) → Fresh g xs
fresh_from [] g h = tt
fresh_from (p ∷ ps) g h =
    let own = own_count p in
    let here = h p.0 in
    let first = count_first p.0 p ps in (
      no_count p.0 g (omega arith),
      fresh_from ps (g ++ p ∷ []) (λ id.
          let some = h id in
          let first = count_first id p ps in
          let push = count-push id g p in
          omega arith),
    )

other_name : (names : List Text) (id n : Text) → is_name names id ≡ false → is_name names n ≡ true → bytes_eq n id ≡ false
other_name names id n none h = go (bytes_eq n id) refl
  where
    go : (d : Bool) → bytes_eq n id ≡ d → d ≡ false
    go true e = absurd (true≢false (sym h ∙ ap (is_name names) ((bytes_eq-Decides n id).0 e) ∙ none))
    go false e = refl

-- what no name has, no item gives
pub others : (names : List Text) (id : Text) (items : List Item) → AllByRecursion (FitItem (is_name names)) items → bytes_eq volume_id id ≡ false → is_name names id ≡ false → count id (map given items) ≡ 0
others names id [] fit a b = refl
others names id (volume w ∷ items) fit a b = rw a (others names id items fit.1 a b)
others names id (apart n v ∷ items) fit a b = rw (other_name names id n b fit.0.0) (others names id items fit.1 a b)
others names id (joined n v ∷ items) fit a b = rw (other_name names id n b fit.0) (others names id items fit.1 a b)
