-- Where the scan reads words with a number for each option, they are in the grammar, and nowhere else.
use Rattle.std.proofs.Common.{ℕ, ◌≡◌, ◌≢◌, inl, inr, ◌∙◌, ◌==◌, ◌<◌, ◌≤◌, ◌+◌, sym, ap, refl, subst, Bool, true, false, true≢false, not, List, [], ◌∷◌, Option, Some, None, is_some, map, arith, eqb-true, length, option_map}
use Rattle.std.specs.Prelude.{IfSome, IsTrue, unwrap_or}
use Rattle.std.specs.List.{AllByRecursion, flat_map}
use Rattle.std.specs.Str.{bytes_eq}
use Rattle.std.specs.Str.Parse.{digits_value}
use Rattle.std.proofs.lemmas.Slice.Eq.{bytes_eq-Decides}
use Rattle.clap.specs.Lexer.{long_of}
use Rattle.command_words.specs.ClapCommand.{is_fit}
use Rattle.command_words.specs.Items.{Item, volume, apart, joined, spelling, HasName, IsItem, Itemed, number_given, value_if, values_of, volumes_of}
use Rattle.command_words.specs.Numerals.{IsNumber, is_volume}
use Rattle.command_words.proofs.Scan.{Text, Given, between, scan, volume_id}
use Rattle.command_words.proofs.ScanSpells.{FitItem, given, reads, spelled_is_read}
use Rattle.command_words.proofs.WalkAsScan.{IsFit}
use Rattle.command_words.proofs.OptionFacts.{AreNames, has_name, is_name, is_named, names_are, option_name, swapped}
use Rattle.command_words.proofs.Values.{as_list, count, few, first_text, fresh_from, number_of_first, option_values, others, single, values_in, volume_values}

-- ---- single words

differs : (x : ℕ) → x ≢ 45 → (x == 45) ≡ false
differs x h = go (x == 45) refl
  where
    go : (b : Bool) → (x == 45) ≡ b → (x == 45) ≡ false
    go true e = absurd (h (eqb-true x 45 e))
    go false e = e

plain_fits : (x : ℕ) (xs : List ℕ) → (x == 45) ≡ false → is_fit (x ∷ xs) ≡ true
plain_fits x [] e = rw e refl
plain_fits x (y ∷ []) e = rw e refl
plain_fits x (y ∷ z ∷ zs) e = rw e refl

plain_is_short : (x : ℕ) (xs : List ℕ) → (x == 45) ≡ false → long_of (x ∷ xs) ≡ None
plain_is_short x xs e = rw e refl

-- begins with another byte than `-`
abbrev Plain : Text → Type 0
Plain w = (x : ℕ) × (xs : List ℕ) × (w ≡ x ∷ xs) × ((x == 45) ≡ false)

no_dash : (x : ℕ) → IsTrue (not (x == 45)) → (x == 45) ≡ false
no_dash x h = go (x == 45) refl
  where
    go : (b : Bool) → (x == 45) ≡ b → b ≡ false
    go true e = let bad : false ≡ true = rw e at h in absurd (true≢false (sym bad))
    go false e = refl

volume_plain : (w : Text) → IsTrue (is_volume w) → Plain w
volume_plain [] h = absurd (true≢false (sym h))
volume_plain (x ∷ xs) h = (x, xs, refl, no_dash x h)

number_plain : (w : Text) → IsNumber w → Plain w
number_plain [] h = absurd (omega (arith, h.2.digits.0))
number_plain (x ∷ xs) h = (x, xs, refl, differs x (λ e. let bad : 36 < 10 = rw e at h.2.digits.1.0 in absurd (omega arith)))

fits_of_plain : (w : Text) → Plain w → is_fit w ≡ true
fits_of_plain w (x, xs, e, h) = rw e (plain_fits x xs h)

short_of_plain : (w : Text) → Plain w → long_of w ≡ None
short_of_plain w (x, xs, e, h) = rw e (plain_is_short x xs h)

abbrev pub AllFit : List Text → Type 0
AllFit ws = AllByRecursion (λ w. is_fit w ≡ true) ws

is_plain_volume : (x : ℕ) (xs : List ℕ) → (x == 45) ≡ false → IsTrue (is_volume (x ∷ xs))
is_plain_volume x xs e = rw e refl

word_is_volume : (w : Text) → is_fit w ≡ true → long_of w ≡ None → IsTrue (is_volume w)
word_is_volume [] fit short = absurd (true≢false (sym fit))
word_is_volume (x ∷ []) fit short = go (x == 45) refl
  where
    go : (b : Bool) → (x == 45) ≡ b → IsTrue (is_volume (x ∷ []))
    go true e = let bad : false ≡ true = rw e at fit in absurd (true≢false (sym bad))
    go false e = is_plain_volume x [] e
word_is_volume (x ∷ y ∷ []) fit short = go (x == 45) refl
  where
    go : (b : Bool) → (x == 45) ≡ b → IsTrue (is_volume (x ∷ y ∷ []))
    go true e = let bad : false ≡ true = rw e at fit in absurd (true≢false (sym bad))
    go false e = is_plain_volume x (y ∷ []) e
word_is_volume (x ∷ y ∷ z ∷ zs) fit short = go (x == 45) refl
  where
    go : (b : Bool) → (x == 45) ≡ b → IsTrue (is_volume (x ∷ y ∷ z ∷ zs))
    go true e =
        let second : (y == 45) ≡ true = rw e at fit in
        let bad : is_some (long_of (x ∷ y ∷ z ∷ zs)) ≡ true = rw (e, second) refl in
        let no : false ≡ true = rw short at bad in absurd (true≢false (sym no))
    go false e = is_plain_volume x (y ∷ z ∷ zs) e

-- a word that fits is one of those of which the walk is known
word_fits : (w : Text) → is_fit w ≡ true → IsFit w
word_fits [] fit = absurd (true≢false (sym fit))
word_fits (x ∷ []) fit = go (x == 45) refl
  where
    go : (b : Bool) → (x == 45) ≡ b → IsFit (x ∷ [])
    go true e = let bad : false ≡ true = rw e at fit in absurd (true≢false (sym bad))
    go false e = record { not_dashes = rw e refl; not_short = λ n. rw e refl }
word_fits (x ∷ y ∷ []) fit = go (x == 45) refl
  where
    go : (b : Bool) → (x == 45) ≡ b → IsFit (x ∷ y ∷ [])
    go true e = let bad : false ≡ true = rw e at fit in absurd (true≢false (sym bad))
    go false e = record { not_dashes = rw e refl; not_short = λ n. rw e refl }
word_fits (x ∷ y ∷ z ∷ zs) fit = go (x == 45) refl
  where
    go : (b : Bool) → (x == 45) ≡ b → IsFit (x ∷ y ∷ z ∷ zs)
    go true e =
        let second : (y == 45) ≡ true = rw e at fit in
        let long : is_some (long_of (x ∷ y ∷ z ∷ zs)) ≡ true = rw (e, second) refl in
        record { not_dashes = rw (e, second) refl; not_short = λ n. let no : false ≡ true = rw n at long in absurd (true≢false (sym no)) }
    go false e = record { not_dashes = rw e refl; not_short = λ n. rw e refl }

pub all_fit : (ws : List Text) → AllFit ws → AllByRecursion IsFit ws
all_fit [] h = tt
all_fit (w ∷ ws) h = (word_fits w h.0, all_fit ws h.1)

-- ---- items

abbrev pub read_of : List Text → List Text → Option (List Given)
read_of names ws = scan (is_name names) [] (between None) false ws

items_fit : (names : List Text) → AreNames names → (items : List Item) → AllByRecursion (IsItem names) items → AllByRecursion (FitItem (is_name names)) items × AllFit (flat_map spelling items)
items_fit names all [] h = (tt, tt)
items_fit names all (volume w ∷ items) h =
    let rest = items_fit names all items h.1 in
    let plain = volume_plain w h.0 in
    ((short_of_plain w plain, rest.0), (fits_of_plain w plain, rest.1))
items_fit names all (apart n v ∷ items) h =
    let rest = items_fit names all items h.1 in
    let plain = number_plain v h.0.1 in (
      ((is_named names n h.0.0, short_of_plain v plain), rest.0),
      ((option_name names n all h.0.0).apart_fits, (fits_of_plain v plain, rest.1)),
    )
items_fit names all (joined n v ∷ items) h =
    let rest = items_fit names all items h.1 in (
      (is_named names n h.0.0, rest.0),
      ((option_name names n all h.0.0).joined_fits v, rest.1),
    )

-- The options get numbers.
abbrev pub NumbersIn : List Text → List Item → Type 0
NumbersIn names items = (name : Text) → HasName names name → AllByRecursion IsNumber (values_of name items)

tail_if : (b : Bool) (v : Text) (vs : List Text) → AllByRecursion IsNumber (value_if b v vs) → AllByRecursion IsNumber vs
tail_if true v vs h = h.1
tail_if false v vs h = h

own_value : (n v : Text) (vs : List Text) → AllByRecursion IsNumber (value_if (bytes_eq n n) v vs) → IsNumber v
own_value n v vs h = let now : AllByRecursion IsNumber (v ∷ vs) = rw ((bytes_eq-Decides n n).1 refl) at h in now.0

allowed : (names : List Text) (items : List Item) → AllByRecursion (FitItem (is_name names)) items → AllFit (flat_map spelling items) → NumbersIn names items → AllByRecursion (IsItem names) items
allowed names [] fit words numbers = tt
allowed names (volume w ∷ items) fit words numbers = (word_is_volume w words.0 fit.0, allowed names items fit.1 words.1 numbers)
allowed names (apart n v ∷ items) fit words numbers =
    let has = has_name names n fit.0.0 in
    ((has, own_value n v _ (numbers n has)), allowed names items fit.1 words.1.1 (λ name is. tail_if (bytes_eq n name) v _ (numbers name is)))
allowed names (joined n v ∷ items) fit words numbers =
    let has = has_name names n fit.0 in
    ((has, own_value n v _ (numbers n has)), allowed names items fit.1 words.1 (λ name is. tail_if (bytes_eq n name) v _ (numbers name is)))

-- ---- what is in the grammar is read

pub each_of : (P : Text → Type 0) (names : List Text) (name : Text) → AllByRecursion P names → HasName names name → P name
each_of P [] name all h = absurd h
each_of P (n ∷ names) name all (inl e) = subst P (sym e) all.0
each_of P (n ∷ names) name all (inr h) = each_of P names name all.1 h

pub each_from : (P : Text → Type 0) (names : List Text) → ((name : Text) → HasName names name → P name) → AllByRecursion P names
each_from P [] h = tt
each_from P (n ∷ names) h = (h n (inl refl), each_from P names (λ name is. h name (inr is)))

pub not_option : (names : List Text) → AreNames names → (name : Text) → HasName names name → bytes_eq volume_id name ≡ false
not_option names all name h = swapped name volume_id (option_name names name all h).not_volume

pub record IsRead (names ws : List Text) (items : List Item) : Type 0 where
  pub fits : AllFit ws
  pub scanned : read_of names ws ≡ Some (map given items)
  pub fit : AllByRecursion (FitItem (is_name names)) items

pub itemed_is_read : (names : List Text) → AreNames names → (ws : List Text) (it : Itemed names ws) → IsRead names ws it.items
itemed_is_read names all ws it =
    let fit = items_fit names all it.items it.allowed in
    let xs = map given it.items in
    let volumes : values_in volume_id xs ≡ volumes_of it.items = volume_values names all it.items fit.0 in
    let one : count volume_id xs ≤ 1 = rw volumes (omega (arith, it.one_volume)) in
    let fresh = fresh_from xs [] (at_most fit.0 one) in
    record {
      fits = subst AllFit (sym it.spelled) fit.1;
      scanned = ap (read_of names) it.spelled ∙ spelled_is_read (is_name names) (names_are names all) it.items fit.0 [] None false fresh refl;
      fit = fit.0;
    }
  where
    at_most : AllByRecursion (FitItem (is_name names)) it.items → count volume_id (map given it.items) ≤ 1 → (id : Text) → 0 + count id (map given it.items) ≤ 1
    at_most fit one id = go (bytes_eq volume_id id) refl (is_name names id) refl
      where
        go : (a : Bool) → bytes_eq volume_id id ≡ a → (b : Bool) → is_name names id ≡ b → 0 + count id (map given it.items) ≤ 1
        go true a b b-is = let same : volume_id ≡ id = (bytes_eq-Decides volume_id id).0 a in rw (← same) (omega arith)
        go false a true b =
            let once = each_of (λ name. length (values_of name it.items) ≤ 1) names id it.each_once (has_name names id b) in
            rw (option_values id a it.items) (omega arith)
        go false a false b = let none = others names id it.items fit a b in omega arith

-- and what is read is in the grammar
pub record InGrammar (names ws : List Text) (r : List Given) (w : Text) : Type 0 where
  pub after : Itemed names ws
  pub same : r ≡ map given after.items
  pub volume_is : volumes_of after.items ≡ w ∷ []

numbers_of : (o : Option Text) → IfSome o IsNumber → AllByRecursion IsNumber (as_list o)
numbers_of None h = tt
numbers_of (Some v) h = (h, tt)

pub read_is_itemed : (names : List Text) → AreNames names → (ws : List Text) (r : List Given) (w : Text) → AllFit ws → read_of names ws ≡ Some r
    → first_text (values_in volume_id r) ≡ Some w → ((name : Text) → HasName names name → IfSome (first_text (values_in name r)) IsNumber) → InGrammar names ws r w
read_is_itemed names all ws r w fits e first numbers =
    let got = reads (is_name names) ws r [] (between None) false tt e in
    let xs = map given got.items in
    let all_of : r ≡ xs = got.all in
    let volumes : volumes_of got.items ≡ w ∷ [] =
    sym (volume_values names all got.items got.fit) ∙ single volume_id [] xs got.fresh ∙ ap (λ g. as_list (first_text (values_in volume_id g))) (sym all_of) ∙ ap as_list first in
    let values = λ (name : Text) (h : HasName names name).
    sym (option_values name (not_option names all name h) got.items) ∙ single name [] xs got.fresh ∙ ap (λ g. as_list (first_text (values_in name g))) (sym all_of) in
    let itemed : Itemed names ws = record {
      items = got.items;
      spelled = got.spelled;
      allowed = allowed names got.items got.fit (subst AllFit got.spelled fits) (λ name h. subst (AllByRecursion IsNumber) (sym (values name h)) (numbers_of _ (numbers name h)));
      one_volume = rw volumes refl;
      each_once = each_from (λ name. length (values_of name got.items) ≤ 1) names (λ name h. rw (values name h) (few (first_text (values_in name r))));
    } in
    record { after = itemed; same = all_of; volume_is = volumes }

-- ---- one reading

pub number_is : (names : List Text) → AreNames names → (items : List Item) (name : Text) → HasName names name → number_given name items ≡ option_map (digits_value 10) (first_text (values_in name (map given items)))
number_is names all items name h = number_of_first (values_of name items) ∙ ap (λ vs. option_map (digits_value 10) (first_text vs)) (sym (option_values name (not_option names all name h) items))

one_reading : (names : List Text) → AreNames names → (ws : List Text) (a b : Itemed names ws) → map given a.items ≡ map given b.items
one_reading names all ws a b = ap (λ o. unwrap_or o (map given a.items)) (sym (itemed_is_read names all ws a).scanned ∙ (itemed_is_read names all ws b).scanned)

-- Words that are in the grammar in two ways give each option the same number in both,
pub one_number : (names : List Text) → AreNames names → {ws vs : List Text} → ws ≡ vs → (a : Itemed names ws) (b : Itemed names vs) (name : Text) → HasName names name
    → number_given name a.items ≡ number_given name b.items
one_number names all {ws} {vs} same a b name h =
    let c : Itemed names vs = record { items = a.items; spelled = sym same ∙ a.spelled; allowed = a.allowed; one_volume = a.one_volume; each_once = a.each_once } in
    number_is names all a.items name h ∙ ap (λ g. option_map (digits_value 10) (first_text (values_in name g))) (one_reading names all vs c b) ∙ sym (number_is names all b.items name h)

numbers_same : (f g : Text → Option ℕ) (names : List Text) → ((name : Text) → HasName names name → f name ≡ g name) → map f names ≡ map g names
numbers_same f g [] h = refl
numbers_same f g (n ∷ names) h = λ i. h n (inl refl) i ∷ numbers_same f g names (λ name is. h name (inr is)) i

pub one_list : (names : List Text) → AreNames names → {ws vs : List Text} → ws ≡ vs → (a : Itemed names ws) (b : Itemed names vs)
    → map (λ name. number_given name a.items) names ≡ map (λ name. number_given name b.items) names
one_list names all same a b = numbers_same (λ name. number_given name a.items) (λ name. number_given name b.items) names (one_number names all same a b)

more_if : (b : Bool) (v : Text) (vs : List Text) → IsNumber v → AllByRecursion IsNumber vs → AllByRecursion IsNumber (value_if b v vs)
more_if true v vs is h = (is, h)
more_if false v vs is h = h

pub values_are_numbers : (names : List Text) (items : List Item) → AllByRecursion (IsItem names) items → (name : Text) → AllByRecursion IsNumber (values_of name items)
values_are_numbers names [] h name = tt
values_are_numbers names (volume w ∷ items) h name = values_are_numbers names items h.1 name
values_are_numbers names (apart n v ∷ items) h name = more_if (bytes_eq n name) v _ h.0.1 (values_are_numbers names items h.1 name)
values_are_numbers names (joined n v ∷ items) h name = more_if (bytes_eq n name) v _ h.0.1 (values_are_numbers names items h.1 name)

pub first_is_number : (vs : List Text) → AllByRecursion IsNumber vs → IfSome (first_text vs) IsNumber
first_is_number [] h = tt
first_is_number (v ∷ vs) h = h.0
