-- The working pages that have an image.
use Rattle.std.proofs.Common.{◌≡◌, ◌<◌, ◌+◌, ℕ, zero, suc, List, [], ◌∷◌, ◌++◌, length, take, get_or, All, Option, Some, None, refl, sym, ap, ◌∙◌, arith}
use Rattle.std.specs.Prelude.{slice_get, IfSome}
use Rattle.std.proofs.lemmas.List.{take_more, length-append}
use Rattle.std.proofs.lemmas.List.Elements.{All-head, All-tail}
use Rattle.std.proofs.lemmas.Option.{same_Some}
use Rattle.ex_base.specs.declared.geometry.Geometry.{Geometry}
use Rattle.meta_pages.specs.Entries.{imaged}
use Rattle.meta_pages.specs.Overlays.{IsWorkingRow}

abbrev Row : Type 0
Row = ℕ × Option (List ℕ)

imaged_append : (xs ys : List Row) → imaged (xs ++ ys) ≡ imaged xs ++ imaged ys
imaged_append [] ys = refl
imaged_append ((page, None) ∷ xs) ys = imaged_append xs ys
imaged_append ((page, Some image) ∷ xs) ys = ap (λ (l : List (ℕ × List ℕ)). (page, image) ∷ l) (imaged_append xs ys)

-- the row at an index is that of its image, behind those of the rows before it
pub image_here : (rows : List Row) (i : ℕ) (row : Row) (image : List ℕ) → i < length rows → row ≡ get_or rows i row → row.1 ≡ Some image → slice_get (imaged rows) (length (imaged (take i rows))) ≡ Some (row.0, image)
image_here [] i row image lt is some = absurd (omega (arith, lt))
image_here ((page, None) ∷ rows) zero row image lt is some = absurd (let none = sym some ∙ ap (λ (r : Row). r.1) is in cc)
image_here ((page, Some bytes) ∷ rows) zero row image lt is some = let same = sym some ∙ ap (λ (r : Row). r.1) is in let number = ap (λ (r : Row). r.0) is in cc
image_here ((page, None) ∷ rows) (suc i) row image lt is some = image_here rows i row image (omega (arith, lt)) is some
image_here ((page, Some bytes) ∷ rows) (suc i) row image lt is some = image_here rows i row image (omega (arith, lt)) is some

last_is : (row : Row) (o : Option (List ℕ)) → row.1 ≡ o → imaged (row ∷ []) ≡ imaged ((row.0, o) ∷ [])
last_is row o is = ap (λ (v : Option (List ℕ)). imaged ((row.0, v) ∷ [])) is

one_more : (rows : List Row) (i : ℕ) (row : Row) (o : Option (List ℕ)) → i < length rows → row ≡ get_or rows i row → row.1 ≡ o → length (imaged (take (i + 1) rows)) ≡ length (imaged (take i rows)) + length (imaged ((row.0, o) ∷ []))
one_more rows i row o lt is same =
    ap (λ (l : List Row). length (imaged l)) (take_more rows i row lt ∙ ap (λ (r : Row). take i rows ++ r ∷ []) (sym is)) ∙ ap length (imaged_append (take i rows) (row ∷ []))
    ∙ length-append (imaged (take i rows)) (imaged (row ∷ [])) ∙ ap (λ (l : List (ℕ × List ℕ)). length (imaged (take i rows)) + length l) (last_is row o same)

pub image_more : (rows : List Row) (i : ℕ) (row : Row) (image : List ℕ) → i < length rows → row ≡ get_or rows i row → row.1 ≡ Some image → length (imaged (take (i + 1) rows)) ≡ length (imaged (take i rows)) + 1
image_more rows i row image lt is some = one_more rows i row (Some image) lt is some

pub none_more : (rows : List Row) (i : ℕ) (row : Row) → i < length rows → row ≡ get_or rows i row → row.1 ≡ None → length (imaged (take (i + 1) rows)) ≡ length (imaged (take i rows))
none_more rows i row lt is none = omega (arith, one_more rows i row None lt is none)

-- an image is as long as a page
pub image_long : (g : Geometry) (rows : List Row) (i page : ℕ) (image : List ℕ) → All (IsWorkingRow g) rows → slice_get (imaged rows) i ≡ Some (page, image) → length image ≡ g.page_size
image_long g [] i page image all found = absurd (cc)
image_long g ((p, None) ∷ rows) i page image all found = image_long g rows i page image (All-tail (IsWorkingRow g) (p, None) rows all) found
image_long g ((p, Some bytes) ∷ rows) zero page image all found = let pairs = same_Some (p, bytes) (page, image) found in ap length (sym (ap (λ (row : ℕ × List ℕ). row.1) pairs)) ∙ (All-head (IsWorkingRow g) (p, Some bytes) rows all).1
image_long g ((p, Some bytes) ∷ rows) (suc i) page image all found = image_long g rows i page image (All-tail (IsWorkingRow g) (p, Some bytes) rows all) found

pub image_as_long : {A : Type 0} (bytes : A → List ℕ) (o : Option A) (g : Geometry) (rows r : List Row) (i page size : ℕ) (image : List ℕ) → All (IsWorkingRow g) rows → r ≡ rows → g.page_size ≡ size → slice_get (imaged r) i ≡ Some (page, image)
    → IfSome o (λ a. length (bytes a) ≡ size) → IfSome o (λ a. length (bytes a) ≡ length image)
image_as_long bytes None g rows r i page size image all same sized found long = tt
image_as_long bytes (Some a) g rows r i page size image all same sized found long = long ∙ sym sized ∙ sym (image_long g rows i page image all (ap (λ (l : List Row). slice_get (imaged l) i) (sym same) ∙ found))
