-- An index that was written level by level is whole.
use Rattle.std.proofs.Common.{◌≡◌, ◌≤◌, ◌<◌, ◌+◌, ◌-◌, ◌/◌, ◌^◌, inl, inr, ℕ, zero, suc, List, [], ◌∷◌, ◌++◌, length, None, refl, sym, ap, subst, ◌∙◌, arith}
use Rattle.std.specs.List.{AllByRecursion}
use Rattle.std.proofs.lemmas.Bool.{cases_lt}
use Rattle.ex_base.specs.declared.geometry.Geometry.{Geometry}
use Rattle.ex_base.specs.declared.names.PageNo.{PageNo}
use Rattle.ex_base.specs.Even.{cut_by, evenly}
use Rattle.ex_base.specs.Ports.{times}
use Rattle.ex_base.specs.Sizes.{geometry_is, least_page}
use Rattle.ex_base.proofs.Counts.{times-append}
use Rattle.ex_base.proofs.Each.{each_as, split_each}
use Rattle.ex_base.proofs.Spread.{cut_count, cut_whole, evenly_one, just_one, least_row}
use Rattle.file_index.specs.declared.Entry.{Entry}
use Rattle.file_index.specs.IndexPage.{most_entries}
use Rattle.file_index.specs.Index.{HasLeast, IsFilesPage, IsUnder, Rises, keys_under, pages_under}
use Rattle.file_index.specs.Edits.{keys_among, pages_among}
use Rattle.file_index.specs.Nodes.{heads}
use Rattle.file_index.proofs.Picking.{rises_of, rising_of}
use Rattle.even_indexes.specs.Laws.{EvenIsWhole, IsEven, OneIsItself}
use Rattle.even_indexes.specs.Levels.{AreOver, IsOver, Written, leaves, pages_over, shares}
use Rattle.even_indexes.proofs.Sharing.{AreBelow, IsBelow, Raised, Stands, raised, stands}
use Rattle.even_indexes.proofs.Sizes.{few_below, few_written, high_levels, least_pages, length-over, many_entries, too_many}

-- the level so many levels above one
abbrev up : ℕ → ℕ → ℕ
up zero level = level
up (suc levels) level = up levels (suc level)

up_is : (levels level : ℕ) → up levels level ≡ levels + level
up_is zero level = omega arith
up_is (suc levels) level = up_is levels (suc level) ∙ omega arith

-- ---- a level that one page holds

one_share : (size : ℕ) (below : List Entry) → 512 ≤ size → 1 ≤ length below → length below ≤ most_entries size → shares size below ≡ below ∷ []
one_share size below large some fits =
    let one : pages_over size (length below) ≡ 1 = just_one (most_entries size) (length below) (pages_over size (length below)) (least_pages size large (length below)) (omega (arith, some)) fits in
    ap (λ (parts : ℕ). cut_by (evenly parts (length below)) below) one ∙ ap (λ (lens : List ℕ). cut_by lens below) (evenly_one (length below)) ∙ cut_whole below

-- the one page over it
record IsOne (size : ℕ) (image : ℕ → List ℕ) (file_no level : ℕ) (share : List Entry) (above : List Entry) : Type 0 where
  over : Entry
  is : above ≡ over ∷ []
  has : IsOver size image file_no level share over

one_over : (size : ℕ) (image : ℕ → List ℕ) (file_no level : ℕ) (share : List Entry) (above : List Entry) → AreOver size image file_no level (share ∷ []) above → IsOne size image file_no level share above
one_over size image file_no level share [] over = absurd over
one_over size image file_no level share (e ∷ []) over = record { over = e; is = refl; has = over.0 }
one_over size image file_no level share (e ∷ f ∷ above) over = absurd over.1

no_least : (entries : List Entry) → 1 ≤ length entries → HasLeast None entries
no_least [] some = absurd (omega (arith, some))
no_least (e ∷ entries) some = tt

-- ---- all levels

module _ (g : Geometry) (file_no : ℕ) (image : ℕ → List ℕ) (number : file_no < 2 ^ 32) where
  -- What stands under a root over entries of a level.
  record IsRootOver (top level : ℕ) (below : List Entry) (root : PageNo) (written : List ℕ) : Type 0 where
    under : IsUnder g file_no image top None root.0
    keys : keys_under image top root.0 ≡ keys_among image level below
    pages : (p : ℕ) → times p (pages_under image top root.0) ≡ times p written + times p (pages_among image level below)

  last_level : (levels level : ℕ) (below above : List Entry) (root : PageNo) (written rest : List ℕ) → level < 255 → 2 ≤ length below → length below ≤ most_entries g.page_size → AreBelow g file_no image number level below
      → AllByRecursion (IsFilesPage g) written → IsOne g.page_size image file_no (suc level) below above → written ≡ heads above ++ rest → Written g.page_size image file_no levels (suc level) above root rest
      → IsRootOver (up levels (suc level)) level below root written
  last_level zero level below above root written rest byte two fits is files one all top =
      let same : one.over ∷ [] ≡ record { key = top.key; page = root } ∷ [] = sym one.is ∙ top.one in
      let page : one.over.page ≡ root = cc in
      let now : written ≡ root.0 ∷ [] = all ∙ ap (λ (es : List Entry). heads es ++ rest) top.one ∙ ap (λ (l : List ℕ). root.0 ∷ l) top.none in
      let placed : IsFilesPage g root.0 = (subst (AllByRecursion (IsFilesPage g)) now files).0 in
      let found : Stands g file_no image number level None below root.0 =
      stands g file_no image number level None below root.0 byte placed is (no_least below (omega (arith, two))) two (omega (arith, two)) fits (ap (λ (n : PageNo). image n.0) (sym page) ∙ one.has.page) in
      record {
        under = found.under;
        keys = found.keys;
        pages = λ p. ap (times p) found.pages ∙ times-append p (root.0 ∷ []) (pages_among image level below) ∙ ap (λ (l : List ℕ). times p l + times p (pages_among image level below)) (sym now);
      }
  last_level (suc levels) level below above root written rest byte two fits is files one all next = absurd (omega (arith, next.two, ap length one.is))

  whole : (levels level : ℕ) (below : List Entry) (root : PageNo) (written : List ℕ) → levels + level < 255 → 2 ≤ length below → AreBelow g file_no image number level below → AllByRecursion (IsFilesPage g) written
      → Written g.page_size image file_no levels level below root written → IsRootOver (up levels level) level below root written
  whole zero level below root written byte two is files top = absurd (omega (arith, two, ap length top.one))
  whole (suc levels) level below root written byte two is files step = elim (cases_lt (most_entries g.page_size) (length below)) [
    | inr fits ↦
        let one = one_over g.page_size image file_no (suc level) below step.above (subst (λ (parts : List (List Entry)). AreOver g.page_size image file_no (suc level) parts step.above) (one_share g.page_size below (least_page g) (omega (arith, two)) fits) step.over) in
        last_level levels level below step.above root written step.later (omega (arith, byte)) two fits is files one step.all step.follows
    | inl more ↦
        let low : ℕ = most_entries g.page_size / 2 in
        let row = least_row (most_entries g.page_size) (most_entries g.page_size / 2) (length below) (omega (arith, many_entries g.page_size (least_page g))) (omega arith) more in
        let parts = split_each (IsFilesPage g) (heads step.above) step.later (subst (AllByRecursion (IsFilesPage g)) step.all files) in
        let next_row : Raised g file_no image number level below step.above =
        raised g file_no image number level (most_entries g.page_size / 2) (evenly (pages_over g.page_size (length below)) (length below)) below step.above (omega (arith, byte)) (omega arith) (omega (arith, many_entries g.page_size (least_page g))) row.each row.sum is parts.0 step.over in
        let count : length step.above ≡ length (evenly (pages_over g.page_size (length below)) (length below)) = length-over g.page_size image file_no (suc level) (shares g.page_size below) step.above step.over ∙ cut_count (evenly (pages_over g.page_size (length below)) (length below)) below in
        let later = whole levels (suc level) step.above root step.later (omega (arith, byte)) (omega (arith, count, row.many)) (record { under = next_row.under; rising = subst (Rises 0) (sym next_row.keys) is.rising }) parts.1 step.follows in
        record {
          under = later.under;
          keys = later.keys ∙ next_row.keys;
          pages = λ p. omega (arith, later.pages p, next_row.pages p, ap (times p) step.all, times-append p (heads step.above) step.later);
        }
  ]

-- ---- from the pages of the file

keys_of_leaves : (image : ℕ → List ℕ) (pages : List ℕ) → keys_among image 0 (leaves pages) ≡ pages
keys_of_leaves image [] = refl
keys_of_leaves image (p ∷ pages) = ap (λ (l : List ℕ). p ∷ l) (keys_of_leaves image pages)

no_pages : (image : ℕ → List ℕ) (pages : List ℕ) → pages_among image 0 (leaves pages) ≡ []
no_pages image [] = refl
no_pages image (p ∷ pages) = no_pages image pages

leaves_under : (g : Geometry) (file_no : ℕ) (image : ℕ → List ℕ) (number : file_no < 2 ^ 32) (pages : List ℕ) → AllByRecursion (IsFilesPage g) pages → AllByRecursion (IsBelow g file_no image number 0) (leaves pages)
leaves_under g file_no image number [] each = tt
leaves_under g file_no image number (p ∷ pages) each = ((each.0, refl), leaves_under g file_no image number pages each.1)

length_leaves : (pages : List ℕ) → length (leaves pages) ≡ length pages
length_leaves [] = refl
length_leaves (p ∷ pages) = omega (arith, length_leaves pages)

few_levels : (levels : ℕ) (g : Geometry) (image : ℕ → List ℕ) (file_no : ℕ) (pages : List ℕ) (root : PageNo) (written : List ℕ) → IsEven g image file_no levels pages root written → levels ≤ 4
few_levels levels g image file_no pages root written even = elim (cases_lt 4 levels) [
  | inr le ↦ le
  | inl more ↦
      let is : levels ≡ suc (levels - 5 + 4) = omega (arith, more) in
      let written_so = subst (λ (n : ℕ). Written g.page_size image file_no n 0 (leaves pages) root written) is even.levels_are in
      let enough = high_levels g.page_size (least_page g) image file_no (levels - 5 + 4) 0 (leaves pages) root written written_so in
      let bound = few_below (257 + g.pages) 0 pages (omega arith) (rises_of pages even.rising) (each_as (IsFilesPage g) (λ p. p < 257 + g.pages) pages (λ p files. files.0.1) even.files) in
      absurd (omega (arith, enough, too_many g.page_size (least_page g) (levels - 5), bound, length_leaves pages, (geometry_is g).pages))
]

few_pages : (levels : ℕ) (g : Geometry) (image : ℕ → List ℕ) (file_no : ℕ) (pages : List ℕ) (root : PageNo) (written : List ℕ) → IsEven g image file_no levels pages root written → length written ≤ length pages / 16 + 4
few_pages levels g image file_no pages root written even =
    omega (arith, few_written g.page_size (least_page g) image file_no levels 0 (leaves pages) root written even.levels_are, few_levels levels g image file_no pages root written even, length_leaves pages)

abbrev first_page : List Entry → ℕ
first_page [] = 0
first_page (e ∷ entries) = e.page.0

-- the leaf that is the only entry
only_leaf : (pages : List ℕ) (key : ℕ) (root : PageNo) → leaves pages ≡ record { key = key; page = root } ∷ [] → pages ≡ root.0 ∷ []
only_leaf [] key root is = absurd (omega (arith, ap length is))
only_leaf (p ∷ []) key root is = ap (λ (x : ℕ). x ∷ []) (ap first_page is)
only_leaf (p ∷ q ∷ pages) key root is = absurd (omega (arith, ap length is))

pub even_is_whole : EvenIsWhole
even_is_whole g image file_no zero pages root written even =
    let is : pages ≡ root.0 ∷ [] = only_leaf pages even.levels_are.key root even.levels_are.one in
    record {
      whole = record {
        whole = ((subst (AllByRecursion (IsFilesPage g)) is even.files).0, tt);
        rising = tt;
        once = λ p. omega arith;
      };
      keys = sym is;
      pages_are = λ p. ap (times p) (sym even.levels_are.none);
      few = few_pages zero g image file_no pages root written even;
      low = omega arith;
    }
even_is_whole g image file_no (suc levels) pages root written even =
    let low = few_levels (suc levels) g image file_no pages root written even in
    let keys = keys_of_leaves image pages in
    let rising : Rises 0 (keys_among image 0 (leaves pages)) = subst (Rises 0) (sym keys) (rises_of pages even.rising) in
    let found : IsRootOver g file_no image even.number (up (suc levels) 0) 0 (leaves pages) root written =
    whole g file_no image even.number (suc levels) 0 (leaves pages) root written (omega (arith, low)) even.levels_are.two (record { under = leaves_under g file_no image even.number pages even.files; rising = rising }) even.placed even.levels_are in
    let top : up (suc levels) 0 ≡ suc levels = up_is (suc levels) 0 ∙ omega arith in
    let root_is : IsRootOver g file_no image even.number (suc levels) 0 (leaves pages) root written = subst (λ (n : ℕ). IsRootOver g file_no image even.number n 0 (leaves pages) root written) top found in
    let all : keys_under image (suc levels) root.0 ≡ pages = root_is.keys ∙ keys in
    let count : (p : ℕ) → times p (pages_under image (suc levels) root.0) ≡ times p written = λ p. root_is.pages p ∙ ap (λ (l : List ℕ). times p written + times p l) (no_pages image pages) ∙ omega arith in
    record {
      whole = record {
        whole = root_is.under;
        rising = rising_of 0 (keys_under image (suc levels) root.0) (subst (Rises 0) (sym all) (rises_of pages even.rising));
        once = λ p. omega (arith, count p, even.once p);
      };
      keys = all;
      pages_are = count;
      few = few_pages (suc levels) g image file_no pages root written even;
      low = low;
    }

pub one_is_itself : OneIsItself
one_is_itself g image file_no page number files = record {
  number = number;
  rising = tt;
  files = (files, tt);
  placed = tt;
  once = λ p. omega arith;
  levels_are = record { key = page; one = refl; none = refl };
}
