-- Spellings that can be read in one way only, whatever follows them.
use Rattle.std.proofs.Common.{◌≡◌, ℕ, ◌^◌, ◌<◌, List, [], ◌∷◌, ◌++◌, length, Option, Some, None, refl, sym, ap, ◌∙◌, arith, append_assoc, lit<}
use Rattle.std.specs.List.{flat_map, AllByRecursion}
use Rattle.std.proofs.lemmas.List.{length-append}
use Rattle.ex_base.specs.declared.names.PageNo.{PageNo}
use Rattle.ex_base.specs.declared.names.Place.{Place}
use Rattle.ex_base.specs.Fields.{field_bytes, two_bytes, four_bytes, zeros, page_field, place_field, IsPageField, IsPlaceField}
use Rattle.ex_base.proofs.FieldLaws.{same_front, same_two, same_four, four_is}

-- no spelling begins another
abbrev pub OneReading : {A : Type 0} → (A → Type 0) → (A → List ℕ) → Type 0
OneReading {A} Fits spell = (a b : A) (x y : List ℕ) → Fits a → Fits b → spell a ++ x ≡ spell b ++ y → (a ≡ b) × (x ≡ y)

-- nor do as many of them
pub one_list : {A : Type 0} (Fits : A → Type 0) (spell : A → List ℕ) → OneReading Fits spell → (xs zs : List A) (x y : List ℕ) → AllByRecursion Fits xs → AllByRecursion Fits zs → length xs ≡ length zs → flat_map spell xs ++ x ≡ flat_map spell zs ++ y → (xs ≡ zs) × (x ≡ y)
one_list Fits spell one [] [] x y p q len e = (refl, e)
one_list Fits spell one [] (b ∷ zs) x y p q len e = absurd (omega arith)
one_list Fits spell one (a ∷ xs) [] x y p q len e = absurd (omega arith)
one_list Fits spell one (a ∷ xs) (b ∷ zs) x y p q len e =
    let heads = one a b (flat_map spell xs ++ x) (flat_map spell zs ++ y) p.0 q.0 (sym (append_assoc (spell a) (flat_map spell xs) x) ∙ e ∙ append_assoc (spell b) (flat_map spell zs) y) in
    let rest = one_list Fits spell one xs zs x y p.1 q.1 (omega arith) heads.1 in
    (cc (heads.0, rest.0), rest.1)

-- ---- fields that may name nothing

no_page : page_field None ≡ four_bytes 0
no_page = refl

pub length-page_field : (page : Option PageNo) → length (page_field page) ≡ 4
length-page_field None = four_is.len 0
length-page_field (Some page) = four_is.len page.0

abbrev made_page : ℕ → Option PageNo
made_page n = Some (record { 0 = n })

pub one_page_field : OneReading IsPageField page_field
one_page_field None None x y p q e = (refl, (same_front (four_bytes 0) (four_bytes 0) x y refl e).1)
one_page_field None (Some b) x y p q e = let same = same_four 0 b.0 x y (lit< tt) q.1 e in absurd (omega (arith, same.0, q.0))
one_page_field (Some a) None x y p q e = let same = same_four a.0 0 x y p.1 (lit< tt) e in absurd (omega (arith, same.0, p.0))
one_page_field (Some a) (Some b) x y p q e =
    let same = same_four a.0 b.0 x y p.1 q.1 e in
    let pages : made_page a.0 ≡ made_page b.0 = ap made_page same.0 in
    (pages, same.1)

abbrev place_bytes : ℕ → ℕ → List ℕ
place_bytes page slot = four_bytes page ++ two_bytes slot

no_place : place_field None ≡ place_bytes 0 0
unfolding field_bytes
no_place = refl

same_places : (a s b t : ℕ) (x y : List ℕ) → a < 2 ^ 32 → s < 2 ^ 16 → b < 2 ^ 32 → t < 2 ^ 16 → place_bytes a s ++ x ≡ place_bytes b t ++ y → (a ≡ b) × (s ≡ t) × (x ≡ y)
same_places a s b t x y la ls lb lt e =
    let page = same_four a b (two_bytes s ++ x) (two_bytes t ++ y) la lb (sym (append_assoc (four_bytes a) (two_bytes s) x) ∙ e ∙ append_assoc (four_bytes b) (two_bytes t) y) in
    let slot = same_two s t x y ls lt page.1 in
    (page.0, slot.0, slot.1)

abbrev made_place : ℕ → ℕ → Option Place
made_place page slot = Some (record { page = record { 0 = page }; slot = slot })

pub one_place_field : OneReading IsPlaceField place_field
one_place_field None None x y p q e = (refl, (same_front (zeros 6) (zeros 6) x y refl e).1)
one_place_field None (Some b) x y p q e =
    let same = same_places 0 0 b.page.0 b.slot x y (lit< tt) (lit< tt) q.1 q.2 (ap (λ (t : List ℕ). t ++ x) (sym no_place) ∙ e) in absurd (omega (arith, same.0, same.1, q.0))
one_place_field (Some a) None x y p q e =
    let same = same_places a.page.0 a.slot 0 0 x y p.1 p.2 (lit< tt) (lit< tt) (e ∙ ap (λ (t : List ℕ). t ++ y) no_place) in absurd (omega (arith, same.0, same.1, p.0))
one_place_field (Some a) (Some b) x y p q e =
    let same = same_places a.page.0 a.slot b.page.0 b.slot x y p.1 p.2 q.1 q.2 e in
    let places : made_place a.page.0 a.slot ≡ made_place b.page.0 b.slot = cc (same.0, same.1) in
    (places, same.2)

-- ---- lists that end alike

pub same_back : {A : Type 0} (xs ys a b : List A) → length a ≡ length b → xs ++ a ≡ ys ++ b → (xs ≡ ys) × (a ≡ b)
same_back xs ys a b len e =
    let total : length (xs ++ a) ≡ length (ys ++ b) = ap length e in
    same_front xs ys a b (omega (arith, total, length-append xs a, length-append ys b)) e
