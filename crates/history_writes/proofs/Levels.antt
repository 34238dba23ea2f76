-- The index of a file while its levels are written, one page after the other.
use Rattle.std.proofs.Common.{◌≡◌, ◌≢◌, ◌≤◌, ◌<◌, ◌+◌, ◌-◌, ◌*◌, ◌/◌, ◌^◌, ℕ, zero, suc, List, [], ◌∷◌, ◌++◌, length, take, get_or, Some, inl, inr, refl, sym, ap, subst, ◌∙◌, add-one, append_assoc, arith, lit≤, suc-add}
use Rattle.std.specs.List.{AllByRecursion}
use Rattle.std.proofs.lemmas.Bool.{cases_lt}
use Rattle.std.proofs.lemmas.Bool.Decides.{nat_tests}
use Rattle.std.proofs.lemmas.List.{append-nil, take_all}
use Rattle.std.proofs.Math.Nat.{mul-le-mul_left}
use Rattle.ex_base.specs.declared.geometry.Geometry.{Geometry}
use Rattle.ex_base.specs.declared.names.PageNo.{PageNo}
use Rattle.ex_base.specs.Area.{InPageArea, area_end, catalog_no}
use Rattle.ex_base.specs.Bytes.{repl}
use Rattle.ex_base.specs.Order.{Rising}
use Rattle.ex_base.specs.Ports.{times}
use Rattle.ex_base.specs.Sizes.{geometry_is, least_page, volume_bytes}
use Rattle.ex_base.proofs.Spread.{IsLeast, some_part}
use Rattle.disk_model.specs.Calls.{Wrote}
use Rattle.disk_model.specs.Changes.{ChangesWithin, changes_refl, changes_trans, changes_wider}
use Rattle.disk_model.specs.Outside.{IsWorld, Outside}
use Rattle.file_index.specs.declared.Entry.{Entry}
use Rattle.file_index.specs.Index.{IsFilesPage}
use Rattle.file_index.specs.IndexPage.{index_page, most_entries}
use Rattle.file_index.specs.Nodes.{first_key, heads}
use Rattle.even_indexes.specs.Laws.{IsEven, IsWholeOver}
use Rattle.even_indexes.specs.Levels.{AreOver, IsLevel, Written, leaf, leaves, pages_over, share_at, shares}
use Rattle.even_indexes.proofs.Filling.{over_more, over_same}
use Rattle.even_indexes.proofs.Sizes.{least_pages, length-shares, many_entries}
use Rattle.even_indexes.proofs.Whole.{even_is_whole}
use Rattle.tree_store.proofs.Taking.{held_whole}
use Rattle.volume_model.specs.Homes.{home}
use Rattle.history_writes.specs.Places.{InPagesFrom}
use Rattle.history_writes.proofs.Writing.{home_other}
use Rattle.history_writes.specs.declared.index.IndexEnd.{IndexEnd}
use Rattle.history_writes.specs.declared.index.Level.{Level}
use Rattle.history_writes.specs.Indexed.{Indexes, LevelWritten, from_on, leaves_from}
use Rattle.history_writes.proofs.RowLinks.{home_written, page_front}

-- ---- numbers in a row

pub from_more : (first n : ℕ) → from_on first (suc n) ≡ from_on first n ++ (first + n) ∷ []
from_more first zero = let same : first ≡ first + 0 = omega arith in ap (λ (p : ℕ). p ∷ []) same
from_more first (suc n) =
    let same : suc first + n ≡ first + suc n = omega arith in
    ap (λ (ps : List ℕ). first ∷ ps) (from_more (suc first) n ∙ ap (λ (p : ℕ). from_on (suc first) n ++ p ∷ []) same)

from_join : (first m n : ℕ) → from_on first m ++ from_on (first + m) n ≡ from_on first (m + n)
from_join first zero n =
    let same : first + 0 ≡ first = omega arith in
    let count : n ≡ 0 + n = omega arith in
    ap (λ (p : ℕ). from_on p n) same ∙ ap (from_on first) count
from_join first (suc m) n =
    let same : first + suc m ≡ suc first + m = omega arith in
    let count : suc (m + n) ≡ suc m + n = omega arith in
    ap (λ (ps : List ℕ). first ∷ ps) (ap (λ (p : ℕ). from_on (suc first) m ++ from_on p n) same ∙ from_join (suc first) m n) ∙ ap (from_on first) count

pub length-from_on : (first n : ℕ) → length (from_on first n) ≡ n
length-from_on first zero = refl
length-from_on first (suc n) = ap suc (length-from_on (suc first) n)

each_from : (P : ℕ → Type 0) (first n : ℕ) → ((page : ℕ) → first ≤ page → page < first + n → P page) → AllByRecursion P (from_on first n)
each_from P first zero each = tt
each_from P first (suc n) each = (each first (omega arith) (omega arith), each_from P (suc first) n (λ page from below. each page (omega (arith, from)) (omega (arith, below))))

rising_from : (first n : ℕ) → Rising (from_on first n)
rising_from first zero = tt
rising_from first (suc zero) = tt
rising_from first (suc (suc n)) = (omega arith, rising_from (suc first) (suc n))

none_from : (page first n : ℕ) → page < first → times page (from_on first n) ≡ 0
none_from page first zero below = refl
none_from page first (suc n) below = grind (arith, nat_tests, none_from page (suc first) n (omega arith))

once_from : (page first n : ℕ) → times page (from_on first n) ≤ 1
once_from page first zero = omega arith
once_from page first (suc n) = elim (cases_lt page (suc first)) [
  | inl below ↦ grind (arith, nat_tests, none_from page (suc first) n below)
  | inr above ↦ grind (arith, nat_tests, once_from page (suc first) n)
]

length_heads : (entries : List Entry) → length (heads entries) ≡ length entries
length_heads [] = refl
length_heads (e ∷ entries) = ap suc (length_heads entries)

pub heads_more : (entries : List Entry) (e : Entry) → heads (entries ++ e ∷ []) ≡ heads entries ++ e.page.0 ∷ []
heads_more [] e = refl
heads_more (x ∷ entries) e = ap (λ (ps : List ℕ). x.page.0 ∷ ps) (heads_more entries e)

leaves_append : (pages : List ℕ) (page : ℕ) → leaves (pages ++ page ∷ []) ≡ leaves pages ++ leaf page ∷ []
leaves_append [] page = refl
leaves_append (p ∷ pages) page = ap (λ (es : List Entry). leaf p ∷ es) (leaves_append pages page)

pub leaves_more : (first n : ℕ) → leaves_from first (n + 1) ≡ leaves_from first n ++ leaf (first + n) ∷ []
leaves_more first n = ap (leaves_from first) (add-one n) ∙ ap leaves (from_more first n) ∙ leaves_append (from_on first n) (first + n)

length_leaves : (pages : List ℕ) → length (leaves pages) ≡ length pages
length_leaves [] = refl
length_leaves (p ∷ pages) = ap suc (length_leaves pages)

pub length-leaves_from : (first n : ℕ) → length (leaves_from first n) ≡ n
length-leaves_from first n = length_leaves (from_on first n) ∙ length-from_on first n

-- ---- the pages of a level

-- So many pages of a level stand, and the pages before them are as they were.
pub record IsLevelTo (g : Geometry) (image later : List ℕ) (level : Level) (below above : List Entry) (n : ℕ) : Type 0 where
  pub over : AreOver g.page_size (home g later) level.file_no level.number (take n (shares g.page_size below)) above
  pub heads_are : heads above ≡ from_on level.first n
  pub before : (page : ℕ) → InPageArea g page → page < level.first → home g later page ≡ home g image page

abbrev pub LevelTo : Geometry → Outside → Outside → Level → List Entry → List Entry → ℕ → Type 0
LevelTo g was now level below above n = (image : List ℕ) → was.disk ≡ Some image → (later : List ℕ) × (now.disk ≡ Some later) × IsLevelTo g image later level below above n

pub no_level : (g : Geometry) (a : Outside) (level : Level) (below : List Entry) → LevelTo g a a level below [] 0
no_level g a level below image holds = (image, holds, record { over = tt; heads_are = refl; before = λ page area below. refl })

-- a page that was written for a share
pub record IsShare (g : Geometry) (mid now : Outside) (level : Level) (below : List Entry) (n : ℕ) (e : Entry) (page : List ℕ) : Type 0 where
  pub some : 1 ≤ length below
  pub within : n < pages_over g.page_size (length below)
  pub behind : catalog_no < level.first
  pub there : level.first + n < area_end g
  pub long : length page ≡ g.page_size
  pub wrote : Wrote ((level.first + n) * g.page_size) page mid now
  pub at : e.page.0 ≡ level.first + n
  pub key : e.key ≡ first_key (share_at g.page_size below n)
  pub is : page ≡ index_page g.page_size level.number level.file_no (share_at g.page_size below n)

pub more_level : (g : Geometry) (was mid now : Outside) (level : Level) (below above : List Entry) (n : ℕ) (e : Entry) (page : List ℕ) → IsWorld mid → volume_bytes g ≤ mid.size → IsShare g mid now level below n e page
    → LevelTo g was mid level below above n → LevelTo g was now level below (above ++ e ∷ []) (n + 1)
more_level g was mid now level below above n e page world large share level_to image holds =
    let so = level_to image holds in
    let at : ℕ = level.first + n in
    let area : InPageArea g (level.first + n) = (omega (arith, share.behind), share.there) in
    let front = page_front g (level.first + n) so.0 page area share.long (omega (arith, large, held_whole mid world so.0 so.1)) in
    let later : List ℕ = repl so.0 ((level.first + n) * g.page_size) page in
    let stays : (p : ℕ) → InPageArea g p → p ≢ level.first + n → home g later p ≡ home g so.0 p = λ p there differ. home_other g (level.first + n) p so.0 page front (inl there) differ in
    let same : AllByRecursion (λ (p : ℕ). home g later p ≡ home g so.0 p) (heads above) =
    subst (AllByRecursion (λ (p : ℕ). home g later p ≡ home g so.0 p)) (sym so.2.heads_are)
    (each_from (λ (p : ℕ). home g later p ≡ home g so.0 p) level.first n (λ p from under. stays p (omega (arith, share.behind, from), omega (arith, under, share.there)) (λ is. omega (arith, is, under)))) in
    let inside : n < length (shares g.page_size below) = omega (arith, share.within, length-shares g.page_size (least_page g) below share.some) in (
      later,
      share.wrote so.0 so.1,
      record {
        over = over_more g.page_size (home g later) level.file_no level.number n (shares g.page_size below) above e inside
            (over_same g.page_size (home g so.0) (home g later) level.file_no level.number (take n (shares g.page_size below)) above same so.2.over)
            (record { key = share.key; page = ap (home g later) share.at ∙ home_written g (level.first + n) so.0 page area share.long front ∙ share.is });
        heads_are = heads_more above e ∙ ap (λ (ps : List ℕ). ps ++ e.page.0 ∷ []) so.2.heads_are ∙ ap (λ (p : ℕ). from_on level.first n ++ p ∷ []) share.at ∙ sym (from_more level.first n) ∙ ap (from_on level.first) (sym (add-one n));
        before = λ p there under. stays p there (λ is. omega (arith, is, under)) ∙ so.2.before p there under;
      },
    )

pub all_level : (g : Geometry) (was now : Outside) (level : Level) (below above : List Entry) (n : ℕ) → 1 ≤ length below → pages_over g.page_size (length below) ≤ n → length above ≡ n → LevelTo g was now level below above n → LevelWritten g was now level below above
all_level g was now level below above n some end count level_to image holds =
    let so = level_to image holds in (
      so.0,
      so.1,
      record {
        over = subst (λ (parts : List (List Entry)). AreOver g.page_size (home g so.0) level.file_no level.number parts above) (take_all n (shares g.page_size below) (omega (arith, end, length-shares g.page_size (least_page g) below some))) so.2.over;
        heads_are = so.2.heads_are ∙ ap (from_on level.first) (sym count);
        before = so.2.before;
      },
    )

-- ---- the levels

-- So many levels stand, on so many pages behind those of the file: whatever levels are written over the entries that are left, they all are an index.
pub record IsRaisedTo (g : Geometry) (later : List ℕ) (file_no first count level k : ℕ) (entries : List Entry) : Type 0 where
  pub so : (units : ℕ → List ℕ) → ((page : ℕ) → InPageArea g page → page < first + count + k → units page ≡ home g later page) → (levels : ℕ) (root : PageNo) (written : List ℕ) → Written g.page_size units file_no levels level entries root written
      → Written g.page_size units file_no (level + levels) 0 (leaves_from first count) root (from_on (first + count) k ++ written)

abbrev pub RaisedTo : Geometry → Outside → Outside → ℕ → ℕ → ℕ → ℕ → ℕ → List Entry → Type 0
RaisedTo g was now file_no first count level k entries = (image : List ℕ) → was.disk ≡ Some image → (later : List ℕ) × (now.disk ≡ Some later) × IsRaisedTo g later file_no first count level k entries

pub none_raised : (g : Geometry) (a : Outside) (file_no first count : ℕ) (entries : List Entry) → entries ≡ leaves_from first count → RaisedTo g a a file_no first count 0 0 entries
none_raised g a file_no first count entries is image holds = (
  image,
  holds,
  record {
    so = λ units agree levels root written over.
        let same : levels ≡ 0 + levels = omega arith in
        subst (λ (n : ℕ). Written g.page_size units file_no n 0 (leaves_from first count) root written) same (subst (λ (es : List Entry). Written g.page_size units file_no levels 0 es root written) is over);
  },
)

-- a level that is written over entries that are left
pub record IsOnTop (g : Geometry) (level : Level) (file_no at number : ℕ) (entries above : List Entry) : Type 0 where
  pub file : level.file_no ≡ file_no
  pub first : level.first ≡ at
  pub number_is : level.number ≡ suc number
  pub behind : catalog_no < at
  pub there : at + length above ≤ area_end g
  pub two : 2 ≤ length entries

pub more_raised : (g : Geometry) (was mid now : Outside) (file_no first count number k : ℕ) (level : Level) (entries above : List Entry) → IsOnTop g level file_no (first + count + k) number entries above → RaisedTo g was mid file_no first count number k entries
    → LevelWritten g mid now level entries above → RaisedTo g was now file_no first count (number + 1) (k + length above) above
more_raised g was mid now file_no first count number k level entries above top raised written image holds =
    let so = raised image holds in
    let next = written so.0 so.1 in
    let heads_are : heads above ≡ from_on (first + count + k) (length above) = next.2.heads_are ∙ ap (λ (p : ℕ). from_on p (length above)) top.first in
    let over : AreOver g.page_size (home g next.0) file_no (suc number) (shares g.page_size entries) above =
    subst (λ (n : ℕ). AreOver g.page_size (home g next.0) file_no n (shares g.page_size entries) above) top.number_is (subst (λ (n : ℕ). AreOver g.page_size (home g next.0) n level.number (shares g.page_size entries) above) top.file next.2.over) in (
      next.0,
      next.1,
      record {
        so = λ units agree levels root rest is.
            let same : AllByRecursion (λ (p : ℕ). units p ≡ home g next.0 p) (heads above) =
            subst (AllByRecursion (λ (p : ℕ). units p ≡ home g next.0 p)) (sym heads_are)
            (each_from (λ (p : ℕ). units p ≡ home g next.0 p) (first + count + k) (length above) (λ p from under. agree p (omega (arith, from, top.behind), omega (arith, under, top.there)) (omega (arith, under)))) in
            let step : IsLevel g.page_size units file_no (suc number) entries (heads above ++ rest) (λ (es : List Entry) (ps : List ℕ). Written g.page_size units file_no levels (suc number) es root ps) = record {
              two = top.two;
              above = above;
              over = over_same g.page_size (home g next.0) units file_no (suc number) (shares g.page_size entries) above same over;
              later = rest;
              all = refl;
              follows = subst (λ (n : ℕ). Written g.page_size units file_no levels n above root rest) (add-one number) is;
            } in
            let whole = so.2.so units (λ p area under. agree p area (omega (arith, under)) ∙ next.2.before p area (omega (arith, under, top.first))) (suc levels) root (heads above ++ rest) step in
            let pages : from_on (first + count) k ++ (heads above ++ rest) ≡ from_on (first + count) (k + length above) ++ rest =
            ap (λ (ps : List ℕ). from_on (first + count) k ++ (ps ++ rest)) heads_are ∙ sym (append_assoc (from_on (first + count) k) (from_on (first + count + k) (length above)) rest)
            ∙ ap (λ (ps : List ℕ). ps ++ rest) (from_join (first + count) k (length above)) in
            let levels_are : number + suc levels ≡ number + 1 + levels = omega arith in
            subst (λ (ps : List ℕ). Written g.page_size units file_no (number + 1 + levels) 0 (leaves_from first count) root ps) pages
            (subst (λ (n : ℕ). Written g.page_size units file_no n 0 (leaves_from first count) root (from_on (first + count) k ++ (heads above ++ rest))) levels_are whole);
      },
    )

only_entry : (entries : List Entry) (d : Entry) → length entries ≡ 1 → entries ≡ get_or entries 0 d ∷ []
only_entry [] d one = absurd (omega (arith, one))
only_entry (e ∷ []) d one = refl
only_entry (e ∷ f ∷ entries) d one = absurd (omega (arith, one))

-- the end of an index over pages that a file may have
pub record IsEnd (g : Geometry) (file_no first count level k : ℕ) (entries : List Entry) (d : Entry) (end : IndexEnd) : Type 0 where
  pub number : file_no < 2 ^ 32
  pub behind : catalog_no < first
  pub there : first + count + k ≤ area_end g
  pub one : length entries ≡ 1
  pub root : end.root ≡ (get_or entries 0 d).page
  pub level_is : end.level ≡ level
  pub next : end.next ≡ first + count + k

pub indexed : (g : Geometry) (was now : Outside) (file_no first count level k : ℕ) (entries : List Entry) (d : Entry) (end : IndexEnd) → IsEnd g file_no first count level k entries d end → RaisedTo g was now file_no first count level k entries
    → Indexes g was now file_no first count end
indexed g was now file_no first count level k entries d end is raised image holds =
    let so = raised image holds in
    let root : PageNo = (get_or entries 0 d).page in
    let whole = so.2.so (home g so.0) (λ p area under. refl) 0 (get_or entries 0 d).page [] (record { key = (get_or entries 0 d).key; one = only_entry entries d is.one; none = refl }) in
    let levels : level + 0 ≡ level = omega arith in
    let written : Written g.page_size (home g so.0) file_no level 0 (leaves_from first count) (get_or entries 0 d).page (from_on (first + count) k) =
    subst (λ (n : ℕ). Written g.page_size (home g so.0) file_no n 0 (leaves_from first count) (get_or entries 0 d).page (from_on (first + count) k)) levels
    (subst (λ (ps : List ℕ). Written g.page_size (home g so.0) file_no (level + 0) 0 (leaves_from first count) (get_or entries 0 d).page ps) (append-nil (from_on (first + count) k)) whole) in
    let files : (p : ℕ) → first ≤ p → p < first + count + k → IsFilesPage g p = λ p from under. ((omega (arith, from, is.behind), omega (arith, under, is.there)), λ same. omega (arith, same, from, is.behind)) in
    let even : IsEven g (home g so.0) file_no level (from_on first count) (get_or entries 0 d).page (from_on (first + count) k) = record {
      number = is.number;
      rising = rising_from first count;
      files = each_from (IsFilesPage g) first count (λ p from under. files p from (omega (arith, under)));
      placed = each_from (IsFilesPage g) (first + count) k (λ p from under. files p (omega (arith, from)) under);
      once = λ p. once_from p (first + count) k;
      levels_are = written;
    } in
    let over = even_is_whole g (home g so.0) file_no level (from_on first count) (get_or entries 0 d).page (from_on (first + count) k) even in (
      so.0,
      so.1,
      record {
        index_pages = k;
        whole = subst (λ (n : ℕ). IsWholeOver g (home g so.0) file_no n (from_on first count) end.root (from_on (first + count) k)) (sym is.level_is)
            (subst (λ (r : PageNo). IsWholeOver g (home g so.0) file_no level (from_on first count) r (from_on (first + count) k)) (sym is.root) over);
        end_is = is.next;
      },
    )

-- ---- how many pages and levels there are

abbrev pub sixty_twos : ℕ → ℕ
sixty_twos zero = 1
sixty_twos (suc n) = 62 * sixty_twos n

too_high : (n : ℕ) → 14776336 ≤ sixty_twos (n + 4)
too_high zero = lit≤ tt
too_high (suc n) =
    let next : sixty_twos (suc n + 4) ≡ 62 * sixty_twos (n + 4) = ap sixty_twos (suc-add n 4) in
    omega (arith, too_high n, next)

-- What is left of the pages of a file after so many levels on so many pages: each level has a sixty-second as many entries.
pub record IsBounded (pages level k n : ℕ) : Type 0 where
  pub over : ℕ
  pub is : n ≡ suc over
  pub few : 61 * k + n ≤ pages + 61 * level
  pub high : sixty_twos level * over + 1 ≤ pages
  pub low : level ≤ 4

pub bounded_none : (pages : ℕ) → 1 ≤ pages → IsBounded pages 0 0 pages
bounded_none pages some = record { over = pages - 1; is = omega arith; few = omega arith; high = omega arith; low = omega arith }

pub bounded_low : (pages level k n : ℕ) → IsBounded pages level k n → 2 ≤ n → pages < 14776336 → level ≤ 3
bounded_low pages level k n is two few = elim (cases_lt 3 level) [
  | inr low ↦ low
  | inl more ↦
      let whole : level ≡ level - 4 + 4 = omega (arith, more) in
      let enough : 14776336 ≤ sixty_twos level = rw whole (too_high (level - 4)) in
      let some : 1 ≤ is.over = omega (arith, two, is.is) in
      let product : sixty_twos level * 1 ≤ sixty_twos level * is.over = mul-le-mul_left (sixty_twos level) some in
      absurd (omega (arith, enough, product, is.high, few))
]

pub bounded_more : (pages level k n m : ℕ) → IsBounded pages level k n → level ≤ 3 → 1 ≤ m → 62 * m ≤ n + 61 → IsBounded pages (level + 1) (k + m) m
bounded_more pages level k n m is low some fewer =
    let over : ℕ = m - 1 in
    let less : 62 * (m - 1) ≤ is.over = omega (arith, fewer, some, is.is) in
    let product : sixty_twos level * (62 * (m - 1)) ≤ sixty_twos level * is.over = mul-le-mul_left (sixty_twos level) less in
    let next : sixty_twos (level + 1) ≡ 62 * sixty_twos level = ap sixty_twos (add-one level) in
    let turned : sixty_twos (level + 1) * (m - 1) ≡ sixty_twos level * (62 * (m - 1)) = ap (λ (s : ℕ). s * (m - 1)) next ∙ turn (sixty_twos level) (m - 1) in
    record { over = m - 1; is = omega (arith, some); few = omega (arith, is.few, fewer); high = omega (arith, turned, product, is.high); low = omega (arith, low) }
  where
    turn : (s x : ℕ) → 62 * s * x ≡ s * (62 * x)
    turn s x = omega arith

pub bounded_room : (pages level k n : ℕ) → IsBounded pages level k n → k ≤ pages / 16 + 4
bounded_room pages level k n is = omega (arith, is.few, is.is, is.low)

-- so many pages over entries
pub fewer_over : (g : Geometry) (n : ℕ) → 1 ≤ n → (1 ≤ pages_over g.page_size n) × (62 * pages_over g.page_size n ≤ n + 61)
fewer_over g n some =
    let least : IsLeast (most_entries g.page_size) n (pages_over g.page_size n) = least_pages g.page_size (least_page g) n in
    let one : 1 ≤ pages_over g.page_size n = some_part (most_entries g.page_size) n (pages_over g.page_size n) least some in
    let is : pages_over g.page_size n ≡ (pages_over g.page_size n - 1) + 1 = omega (arith, one) in
    let fewer : (pages_over g.page_size n - 1) * 62 ≤ (pages_over g.page_size n - 1) * most_entries g.page_size = mul-le-mul_left (pages_over g.page_size n - 1) (many_entries g.page_size (least_page g)) in
    let whole : ((pages_over g.page_size n - 1) + 1) * most_entries g.page_size < n + most_entries g.page_size = rw (← is) least.least in
    (one, omega arith)

-- ---- all of it

-- pages of a file, with room for an index behind them
pub record HaveRoom (g : Geometry) (first count : ℕ) : Type 0 where
  pub some : 1 ≤ count
  pub behind : catalog_no < first
  pub there : first + (count + (count / 16 + 4)) ≤ area_end g

-- what holds while levels are written
pub record LevelsTo (g : Geometry) (was now : Outside) (file_no first count level next : ℕ) (entries : List Entry) : Type 0 where
  pub k : ℕ
  pub next_is : next ≡ first + count + k
  pub bounded : IsBounded count level k (length entries)
  pub raised : RaisedTo g was now file_no first count level k entries
  pub pages : AllByRecursion (λ (page : ℕ). first ≤ page) (heads entries)
  pub changes : ChangesWithin (InPagesFrom g (first + count)) was now

heads_leaves : (pages : List ℕ) → heads (leaves pages) ≡ pages
heads_leaves [] = refl
heads_leaves (p ∷ pages) = ap (λ (ps : List ℕ). p ∷ ps) (heads_leaves pages)

pub levels_begun : (g : Geometry) (a : Outside) (file_no first count next : ℕ) (entries : List Entry) → 1 ≤ count → next ≡ first + count → entries ≡ leaves_from first count → LevelsTo g a a file_no first count 0 next entries
levels_begun g a file_no first count next entries some at is = record {
  k = 0;
  next_is = omega (arith, at);
  bounded = subst (IsBounded count 0 0) (sym (ap length is ∙ length-leaves_from first count)) (bounded_none count some);
  raised = none_raised g a file_no first count entries is;
  pages = subst (AllByRecursion (λ (page : ℕ). first ≤ page)) (sym (ap heads is ∙ heads_leaves (from_on first count))) (each_from (λ (page : ℕ). first ≤ page) first count (λ page from under. from));
  changes = changes_refl (InPagesFrom g (first + count)) a;
}

-- the level over what is left
pub record IsLow (g : Geometry) (count level next k n : ℕ) : Type 0 where
  pub low : level ≤ 3
  pub some : 1 ≤ pages_over g.page_size n
  pub bounded : IsBounded count (level + 1) (k + pages_over g.page_size n) (pages_over g.page_size n)
  pub there : next + pages_over g.page_size n ≤ area_end g
  pub smaller : pages_over g.page_size n < n

pub next_level : (g : Geometry) (was now : Outside) (file_no first count level next : ℕ) (entries : List Entry) → HaveRoom g first count → (so : LevelsTo g was now file_no first count level next entries) → 2 ≤ length entries → IsLow g count level next so.k (length entries)
next_level g was now file_no first count level next entries room so two =
    let short : count < 14776336 = omega (arith, room.there, (geometry_is g).pages) in
    let low = bounded_low count level so.k (length entries) so.bounded two short in
    let over = fewer_over g (length entries) (omega (arith, two)) in
    let bounded = bounded_more count level so.k (length entries) (pages_over g.page_size (length entries)) so.bounded low over.0 over.1 in
    record {
      low = low;
      some = over.0;
      bounded = bounded;
      there = omega (arith, so.next_is, room.there, bounded_room count (level + 1) (so.k + pages_over g.page_size (length entries)) (pages_over g.page_size (length entries)) bounded);
      smaller = omega (arith, over.1, two);
    }

pub levels_more : (g : Geometry) (was mid now : Outside) (file_no first count number next : ℕ) (level : Level) (entries above : List Entry) → HaveRoom g first count → LevelsTo g was mid file_no first count number next entries → 2 ≤ length entries
    → level.file_no ≡ file_no → level.number ≡ number + 1 → level.first ≡ next → length above ≡ pages_over g.page_size (length entries) → heads above ≡ from_on level.first (length above) → LevelWritten g mid now level entries above → ChangesWithin (InPagesFrom g level.first) mid now
    → LevelsTo g was now file_no first count (number + 1) (next + length above) above
levels_more g was mid now file_no first count number next level entries above room so two file number_is at many heads_are written changes =
    let low = next_level g was mid file_no first count number next entries room so two in
    record {
      k = so.k + length above;
      next_is = omega (arith, so.next_is);
      bounded = subst (λ (n : ℕ). IsBounded count (number + 1) (so.k + n) n) (sym many) low.bounded;
      raised = more_raised g was mid now file_no first count number so.k level entries above
          (record { file = file; first = at ∙ so.next_is; number_is = number_is ∙ add-one number; behind = omega (arith, room.behind); there = omega (arith, low.there, many, so.next_is); two = two }) so.raised written;
      pages = subst (AllByRecursion (λ (page : ℕ). first ≤ page)) (sym heads_are) (each_from (λ (page : ℕ). first ≤ page) level.first (length above) (λ page from under. omega (arith, from, at, so.next_is)));
      changes = changes_trans so.changes (changes_wider (InPagesFrom g level.first) (InPagesFrom g (first + count)) changes (λ i here. (here.0, here.1, omega (arith, here.2, at, so.next_is), here.3)));
    }

pub index_end : (g : Geometry) (was now : Outside) (file_no first count level next : ℕ) (entries : List Entry) (d : Entry) (end : IndexEnd) → HaveRoom g first count → LevelsTo g was now file_no first count level next entries → file_no < 2 ^ 32 → length entries ≤ 1
    → end.root ≡ (get_or entries 0 d).page → end.level ≡ level → end.next ≡ next → Indexes g was now file_no first count end
index_end g was now file_no first count level next entries d end room so number one root level_is at =
    indexed g was now file_no first count level so.k entries d end
    (record {
      number = number;
      behind = room.behind;
      there = omega (arith, room.there, bounded_room count level so.k (length entries) so.bounded);
      one = omega (arith, one, so.bounded.is);
      root = root;
      level_is = level_is;
      next = at ∙ so.next_is;
    }) so.raised

pub next_most : (g : Geometry) (was now : Outside) (file_no first count level next : ℕ) (entries : List Entry) → LevelsTo g was now file_no first count level next entries → next ≤ first + (count + (count / 16 + 4))
next_most g was now file_no first count level next entries so = omega (arith, so.next_is, bounded_room count level so.k (length entries) so.bounded)

pub next_least : (g : Geometry) (was now : Outside) (file_no first count level next : ℕ) (entries : List Entry) → LevelsTo g was now file_no first count level next entries → first + count ≤ next
next_least g was now file_no first count level next entries so = omega (arith, so.next_is)

pub root_least : (g : Geometry) (was now : Outside) (file_no first count level next : ℕ) (entries : List Entry) (d : Entry) → LevelsTo g was now file_no first count level next entries → first ≤ (get_or entries 0 d).page.0
root_least g was now file_no first count level next [] d so = absurd (omega (arith, so.bounded.is))
root_least g was now file_no first count level next (e ∷ entries) d so = so.pages.0
