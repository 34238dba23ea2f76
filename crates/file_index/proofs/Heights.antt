-- How high an index can be: six levels would need more pages of the file than there are.
use Rattle.std.proofs.Common.{◌≡◌, ◌≤◌, ◌<◌, ◌+◌, ◌*◌, ◌/◌, ℕ, zero, suc, List, [], ◌∷◌, length, Option, Some, None, suc-mul, suc-add, ap, arith, lit≤, subst, ◌-◌, ◌⊎◌, inl, inr, nat_le, true, false, refl}
use Rattle.std.specs.List.{flat_map, AllByRecursion}
use Rattle.std.proofs.lemmas.List.{length-append}
use Rattle.std.proofs.lemmas.Nat.{mul-le}
use Rattle.std.proofs.lemmas.Bool.Decides.{nat_tests}
use Rattle.ex_base.specs.declared.geometry.Geometry.{Geometry}
use Rattle.ex_base.specs.declared.names.PageNo.{PageNo}
use Rattle.ex_base.specs.Sizes.{least_page, geometry_is}
use Rattle.ex_base.proofs.Each.{each_joined}
use Rattle.file_index.specs.declared.Entry.{Entry}
use Rattle.file_index.specs.IndexPage.{entries_on, most_entries}
use Rattle.file_index.specs.Index.{IsFilesPage, IsUnder, IsIndex, Rises, keys_under, keys_of, pages_under, pages_of}
use Rattle.file_index.proofs.Picking.{rises_of}

-- ---- the pages of the file are pages of the area

each_page : (P Q : Entry → Type 0) (es : List Entry) → ((e : Entry) → P e → Q e) → AllByRecursion P es → AllByRecursion Q es
each_page P Q [] f h = tt
each_page P Q (e ∷ es) f h = (f e h.0, each_page P Q es f h.1)

pub keys_are_pages : (g : Geometry) (file_no : ℕ) (image : ℕ → List ℕ) (level : ℕ) (least : Option ℕ) (page : ℕ) → IsUnder g file_no image level least page → AllByRecursion (IsFilesPage g) (keys_under image level page)
keys_are_pages g file_no image zero least page h = (h.0, tt)
keys_are_pages g file_no image (suc level) least page h =
    each_joined (IsFilesPage g) (λ (e : Entry). keys_under image level e.page.0) (entries_on (image page))
    (each_page (λ (e : Entry). IsUnder g file_no image level (Some e.key) e.page.0) (λ (e : Entry). AllByRecursion (IsFilesPage g) (keys_under image level e.page.0)) (entries_on (image page))
    (λ e under. keys_are_pages g file_no image level (Some e.key) e.page.0 under) h.2)

pub keys_of_pages : (g : Geometry) (file_no : ℕ) (image : ℕ → List ℕ) (level : ℕ) (root : Option PageNo) → IsIndex g image file_no level root → AllByRecursion (IsFilesPage g) (keys_of image level root)
keys_of_pages g file_no image level None h = tt
keys_of_pages g file_no image level (Some page) h = keys_are_pages g file_no image level None page.0 h.whole

-- and so are its index pages
index_are_pages : (g : Geometry) (file_no : ℕ) (image : ℕ → List ℕ) (level : ℕ) (least : Option ℕ) (page : ℕ) → IsUnder g file_no image level least page → AllByRecursion (IsFilesPage g) (pages_under image level page)
index_are_pages g file_no image zero least page h = tt
index_are_pages g file_no image (suc level) least page h = (
  h.0,
  each_joined (IsFilesPage g) (λ (e : Entry). pages_under image level e.page.0) (entries_on (image page))
      (each_page (λ (e : Entry). IsUnder g file_no image level (Some e.key) e.page.0) (λ (e : Entry). AllByRecursion (IsFilesPage g) (pages_under image level e.page.0)) (entries_on (image page))
      (λ e under. index_are_pages g file_no image level (Some e.key) e.page.0 under) h.2),
)

pub index_of_pages : (g : Geometry) (file_no : ℕ) (image : ℕ → List ℕ) (level : ℕ) (root : Option PageNo) → IsIndex g image file_no level root → AllByRecursion (IsFilesPage g) (pages_of image level root)
index_of_pages g file_no image level None h = tt
index_of_pages g file_no image level (Some page) h = index_are_pages g file_no image level None page.0 h.whole

-- ---- how many they are

-- thirty-one times as many for each level
abbrev pub many : ℕ → ℕ
many zero = 1
many (suc n) = 31 * many n

many_each : (f : Entry → List ℕ) (m : ℕ) (es : List Entry) → AllByRecursion (λ (e : Entry). m ≤ length (f e)) es → length es * m ≤ length (flat_map f es)
many_each f m [] h = omega arith
many_each f m (e ∷ es) h = omega (arith, suc-mul (length es) m, length-append (f e) (flat_map f es), many_each f m es h.1, h.0)

enough : (g : Geometry) → 31 ≤ most_entries g.page_size / 2
enough g = omega (arith, least_page g)

pub many_under : (g : Geometry) (file_no : ℕ) (image : ℕ → List ℕ) (level key page : ℕ) → IsUnder g file_no image level (Some key) page → many level ≤ length (keys_under image level page)
many_under g file_no image zero key page h = omega arith
many_under g file_no image (suc level) key page h =
    let f : Entry → List ℕ = λ e. keys_under image level e.page.0 in
    let each = each_page (λ (e : Entry). IsUnder g file_no image level (Some e.key) e.page.0) (λ (e : Entry). many level ≤ length (keys_under image level e.page.0)) (entries_on (image page))
    (λ e under. many_under g file_no image level e.key e.page.0 under) h.2 in
    let some : 31 ≤ length (entries_on (image page)) = omega (arith, enough g, h.1.enough) in
    omega (arith, many_each (λ (e : Entry). keys_under image level e.page.0) (many level) (entries_on (image page)) each, mul-le 31 (many level) (length (entries_on (image page))) (many level) some (omega arith))

many_root : (g : Geometry) (file_no : ℕ) (image : ℕ → List ℕ) (level page : ℕ) → IsUnder g file_no image (suc level) None page → 2 * many level ≤ length (keys_under image (suc level) page)
many_root g file_no image level page h =
    let each = each_page (λ (e : Entry). IsUnder g file_no image level (Some e.key) e.page.0) (λ (e : Entry). many level ≤ length (keys_under image level e.page.0)) (entries_on (image page))
    (λ e under. many_under g file_no image level e.key e.page.0 under) h.2 in
    omega (arith, many_each (λ (e : Entry). keys_under image level e.page.0) (many level) (entries_on (image page)) each, mul-le 2 (many level) (length (entries_on (image page))) (many level) h.1.two (omega arith))

-- numbers that rise are no more than there are numbers below a bound
few : (a : ℕ) (g : Geometry) (xs : List ℕ) → a ≤ 257 + g.pages → Rises a xs → AllByRecursion (IsFilesPage g) xs → a + length xs ≤ 257 + g.pages
few a g [] le rises each = omega arith
few a g (x ∷ xs) le rises each = omega (arith, rises.0, few (x + 1) g xs (omega (arith, each.0.0.1)) rises.1 each.1)

too_many : (n : ℕ) → 28629151 ≤ many (n + 5)
too_many zero = lit≤ tt
too_many (suc n) =
    let next : many (suc n + 5) ≡ 31 * many (n + 5) = ap many (suc-add n 5) in
    omega (arith, too_many n)

high : (g : Geometry) (file_no : ℕ) (image : ℕ → List ℕ) (n page : ℕ) → IsUnder g file_no image (suc (n + 5)) None page → Rises 0 (keys_under image (suc (n + 5)) page) → ⊥
high g file_no image n page under rises =
    absurd (omega (arith, too_many n, many_root g file_no image (n + 5) page under, few 0 g (keys_under image (suc (n + 5)) page) (omega arith) rises (keys_are_pages g file_no image (suc (n + 5)) None page under), (geometry_is g).pages))

le_or_gt : (m n : ℕ) → (m ≤ n) ⊎ (n < m)
le_or_gt m n = (elim (nat_le m n) as (λ t. nat_le m n ≡ t → (m ≤ n) ⊎ (n < m)) [
  | true ↦ λ t. inl (grind (arith, nat_tests))
  | false ↦ λ t. inr (grind (arith, nat_tests))
]) refl

pub five_levels : (g : Geometry) (image : ℕ → List ℕ) (file_no level : ℕ) (root : Option PageNo) → IsIndex g image file_no level root → level ≤ 5
five_levels g image file_no level None h = omega (arith, h.whole)
five_levels g image file_no level (Some page) h = elim (le_or_gt level 5) [
  | inl le ↦ le
  | inr gt ↦
      let same : level ≡ suc (level - 6 + 5) = omega arith in
      absurd (high g file_no image (level - 6) page.0 (subst (λ (k : ℕ). IsUnder g file_no image k None page.0) same h.whole)
      (subst (λ (k : ℕ). Rises 0 (keys_under image k page.0)) same (rises_of (keys_under image level page.0) h.rising)))
]
