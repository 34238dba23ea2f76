-- Writing images home.
use Rattle.std.proofs.Common.{◌≡◌, ◌≤◌, ◌<◌, ◌+◌, ◌*◌, ℕ, true, false, cond, List, [], ◌∷◌, length, All, Option, Some, None, IsSome, nat_eq, refl, sym, ap, subst, ◌∙◌, eq-eqb, suc, ◌++◌, get_or, take, drop, arith, ◌≢◌, unwrap_or, eqb-true, Result, Ok, Err, OnOk, OnErr}
use Rattle.std.proofs.lemmas.List.{take_more, take-append-drop}
use Rattle.std.specs.Map.{lookup}
use Rattle.std.proofs.Math.Nat.{mul-le-mul_right, suc-mul}
use Rattle.std.proofs.lemmas.List.Elements.{All-head, All-tail, All-weaker, All-map, All-filter, All-contains}
use Rattle.ex_base.specs.Bytes.{part, repl, Apart, part-repl, length-repl, repl_same_outside}
use Rattle.ex_base.specs.Sizes.{volume_bytes}
use Rattle.ex_base.specs.Area.{InPageArea}
use Rattle.disk_model.specs.Outside.{IsWorld, Outside}
use Rattle.buffer_groups.specs.Frames.{Frames, page_of, forgotten, without}
use Rattle.buffer_groups.specs.Groups.{forgotten_in_all}
use Rattle.std.specs.Prelude.{not}
use Rattle.buffer_groups.proofs.Kept.{part_apart, pages_apart}
use Rattle.disk_model.specs.Calls.{Tears}
use Rattle.disk_model.specs.Changes.{ChangesWithin, InRange, changes_trans, changes_wider}
use Rattle.std.proofs.lemmas.Option.{same_Some}
use Rattle.lru.proofs.CallerLemmas.{Contains-lookup}
use Rattle.ex_base.specs.declared.geometry.Geometry.{Geometry}
use Rattle.meta_pages.specs.Rows.{with_row, without_row, IsRising}
use Rattle.meta_pages.specs.Overlays.{AreKept, IsPageRow, IsWorkingRow}
use Rattle.meta_pages.proofs.RowLists.{length-with_row, few_rising, none_above, rising_with, rising_without, All-with_row, All-without_row}
use Rattle.meta_pages.specs.Homes.{AreFrom, InHomes, homes_written, homes_forgotten}
use Rattle.std.proofs.lemmas.Bool.{both_ways}
use Rattle.ex_base.proofs.Options.{some_apart}

pub torn_page : (a b : Outside) (at size n : ℕ) → n ≡ size → Tears at n a b → Tears at size a b
torn_page a b at size n same tears = subst (λ m. Tears at m a b) same tears

-- ---- homes of the first rows

there_on : (page : ℕ) (xs ys : List (ℕ × List ℕ)) → IsSome (lookup (nat_eq page) xs) → IsSome (lookup (nat_eq page) (xs ++ ys))
there_on page [] ys there = absurd (cc)
there_on page (x ∷ xs) ys there =
    (elim (nat_eq page x.0) as (λ b. IsSome (cond b (Some x.1) (lookup (nat_eq page) xs)) → IsSome (cond b (Some x.1) (lookup (nat_eq page) (xs ++ ys)))) [
      | true ↦ λ _. refl
      | false ↦ λ here. there_on page xs ys here
    ]) there

there_last : (row : ℕ × List ℕ) (xs : List (ℕ × List ℕ)) → IsSome (lookup (nat_eq row.0) (xs ++ row ∷ []))
there_last row [] = rw (eq-eqb row.0 row.0 refl) refl
there_last row (x ∷ xs) = elim (nat_eq row.0 x.0) as (λ b. IsSome (cond b (Some x.1) (lookup (nat_eq row.0) (xs ++ row ∷ [])))) [ true ↦ refl | false ↦ there_last row xs ]

homes_wider : {a b : Outside} (size : ℕ) (xs ys all : List (ℕ × List ℕ)) → xs ++ ys ≡ all → ChangesWithin (InHomes size xs) a b → ChangesWithin (InHomes size all) a b
homes_wider {a} {b} size xs ys all is changes =
    subst (λ (l : List (ℕ × List ℕ)). ChangesWithin (InHomes size l) a b) is
    (changes_wider (InHomes size xs) (InHomes size (xs ++ ys)) changes (λ i at. (at.0, there_on at.0 xs ys at.1, at.2)))

-- one home more
module _ (rows : List (ℕ × List ℕ)) (at : ℕ) (row : ℕ × List ℕ) (within : at < length rows) (row_is : row ≡ get_or rows at row) where
  pub more_is : take (at + 1) rows ≡ take at rows ++ row ∷ []
  more_is = take_more rows at row within ∙ ap (λ (r : ℕ × List ℕ). take at rows ++ r ∷ []) (sym row_is)

  pub homes_next : {a b c : Outside} (size : ℕ) → ChangesWithin (InHomes size (take at rows)) a b → ChangesWithin (InRange (row.0 * size) size) b c
      → ChangesWithin (InHomes size (take (at + 1) rows)) a c
  homes_next {a} {b} {c} size one two =
      subst (λ (l : List (ℕ × List ℕ)). ChangesWithin (InHomes size l) a c) (sym more_is)
      (changes_trans (homes_wider size (take at rows) (row ∷ []) (take at rows ++ row ∷ []) refl one)
      (changes_wider (InRange (row.0 * size) size) (InHomes size (take at rows ++ row ∷ [])) two (λ i in_it. (row.0, there_last row (take at rows), in_it))))

-- Homes of the first rows are homes of all.
pub homes_all : {a b : Outside} (size n : ℕ) (rows : List (ℕ × List ℕ)) → ChangesWithin (InHomes size (take n rows)) a b → ChangesWithin (InHomes size rows) a b
homes_all size n rows changes = homes_wider size (take n rows) (drop n rows) rows (take-append-drop n rows) changes

pub written_push : (size : ℕ) (xs : List (ℕ × List ℕ)) (row : ℕ × List ℕ) (d : List ℕ) → homes_written size (xs ++ row ∷ []) d ≡ repl (homes_written size xs d) (row.0 * size) row.1
written_push size [] row d = refl
written_push size (x ∷ xs) row d = written_push size xs row (repl d (x.0 * size) x.1)

pub forgotten_push : (xs : List (ℕ × List ℕ)) (row : ℕ × List ℕ) (groups : List Frames) → homes_forgotten (xs ++ row ∷ []) groups ≡ forgotten_in_all row.0 (homes_forgotten xs groups)
forgotten_push [] row groups = refl
forgotten_push (x ∷ xs) row groups = forgotten_push xs row (forgotten_in_all x.0 groups)

pub page_row_len : (g : Geometry) (page : ℕ) (rows r : List (ℕ × List ℕ)) (b s : List ℕ) (n : ℕ) → r ≡ rows → All (IsPageRow g) rows → Some b ≡ lookup (nat_eq page) r → s ≡ b → g.page_size ≡ n → length s ≡ n
page_row_len g page rows r b s n same all found is size =
    let at = Contains-lookup (nat_eq page) rows b (ap (lookup (nat_eq page)) (sym same) ∙ sym found) in
    ap length is ∙ (All-contains (IsPageRow g) rows (at.0, b) all at.1).1 ∙ size

pub working_row_len : (g : Geometry) (page : ℕ) (rows r : List (ℕ × Option (List ℕ))) (b s : List ℕ) (n : ℕ) → r ≡ rows → All (IsWorkingRow g) rows → Some (Some b) ≡ lookup (nat_eq page) r → s ≡ b → g.page_size ≡ n → length s ≡ n
working_row_len g page rows r b s n same all found is size =
    let at = Contains-lookup (nat_eq page) rows (Some b) (ap (lookup (nat_eq page)) (sym same) ∙ sym found) in
    ap length is ∙ (All-contains (IsWorkingRow g) rows (at.0, Some b) all at.1).1 ∙ size

-- the invariant after a row was put, or not
pub kept_put : {T E : Type 0} (r : Result T E) (g : Geometry) (page cap cap' : ℕ) (b : List ℕ) (rows now : List (ℕ × List ℕ)) (working : List (ℕ × Option (List ℕ))) → AreKept g rows working cap
    → IsPageRow g (page, b) → OnOk r (now ≡ with_row page b rows) → OnErr r (now ≡ rows) → cap ≤ cap' → AreKept g now working cap'
kept_put (Ok x) g page cap cap' b rows now working kept here ok err more = rw ok (record {
  rising = rising_with page b rows kept.rising;
  working_rising = kept.working_rising;
  pages = All-with_row page (IsPageRow g) b rows here kept.pages;
  working_pages = kept.working_pages;
  room = omega (arith, kept.room, more);
})
kept_put (Err x) g page cap cap' b rows now working kept here ok err more = rw err (record {
  rising = kept.rising;
  working_rising = kept.working_rising;
  pages = kept.pages;
  working_pages = kept.working_pages;
  room = omega (arith, kept.room, more);
})

pub working_put : {T E : Type 0} (r : Result T E) (g : Geometry) (page cap : ℕ) (b : Option (List ℕ)) (rows : List (ℕ × List ℕ)) (working now : List (ℕ × Option (List ℕ))) → AreKept g rows working cap
    → IsWorkingRow g (page, b) → OnOk r (now ≡ with_row page b working) → OnErr r (now ≡ working) → AreKept g rows now cap
working_put (Ok x) g page cap b rows working now kept here ok err = rw ok (record {
  rising = kept.rising;
  working_rising = rising_with page b working kept.working_rising;
  pages = kept.pages;
  working_pages = All-with_row page (IsWorkingRow g) b working here kept.working_pages;
  room = kept.room;
})
working_put (Err x) g page cap b rows working now kept here ok err = rw err kept

-- a page more is touched at most
pub put_touches : {T E : Type 0} (r : Result T E) (page : ℕ) (b : Option (List ℕ)) (working now : List (ℕ × Option (List ℕ))) (n : ℕ) → length working ≡ n
    → OnOk r (now ≡ with_row page b working) → OnErr r (now ≡ working) → length now ≤ n + 1
put_touches (Ok x) page b working now n was ok err = omega (arith, was, ap length ok, length-with_row page b working)
put_touches (Err x) page b working now n was ok err = omega (arith, was, ap length err)

pub kept_taken : (g : Geometry) (page cap cap' : ℕ) (rows now : List (ℕ × List ℕ)) (working : List (ℕ × Option (List ℕ))) → AreKept g rows working cap
    → now ≡ without_row page rows → cap ≤ cap' → AreKept g now working cap'
kept_taken g page cap cap' rows now working kept is more = rw is (record {
  rising = rising_without page rows kept.rising;
  working_rising = kept.working_rising;
  pages = All-without_row page (IsPageRow g) rows kept.pages;
  working_pages = kept.working_pages;
  room = omega (arith, kept.room, more);
})

-- ---- what stands at the homes afterwards

-- each row lies inside the disk and is one page
abbrev pub AreInside : ℕ → ℕ → List (ℕ × List ℕ) → Type 0
AreInside size n rows = All (λ (row : ℕ × List ℕ). (row.0 * size + size ≤ n) × (length row.1 ≡ size)) rows

home_step : (size : ℕ) (row : ℕ × List ℕ) (d : List ℕ) (p : ℕ) → (row.0 * size + size ≤ length d) × (length row.1 ≡ size) → p ≢ row.0
    → page_of (repl d (row.0 * size) row.1) size p ≡ page_of d size p
home_step size row d p inside differ =
    let fits : row.0 * size + length row.1 ≤ length d = omega (arith, inside) in
    part_apart (row.0 * size) (length row.1) d (repl d (row.0 * size) row.1) (p * size) size (repl_same_outside d (row.0 * size) row.1 fits)
    (subst (λ n. Apart (p * size) size (row.0 * size) n) (sym inside.1) (pages_apart size row.0 p differ))

home_stays : (size : ℕ) (rows : List (ℕ × List ℕ)) (d : List ℕ) (p : ℕ) → AreInside size (length d) rows → lookup (nat_eq p) rows ≡ None → page_of (homes_written size rows d) size p ≡ page_of d size p
home_stays size [] d p inside none = refl
home_stays size (row ∷ rows) d p inside none =
    let first = All-head (λ (r : ℕ × List ℕ). (r.0 * size + size ≤ length d) × (length r.1 ≡ size)) row rows inside in
    let rest = All-tail (λ (r : ℕ × List ℕ). (r.0 * size + size ≤ length d) × (length r.1 ≡ size)) row rows inside in
    let long = length-repl d (row.0 * size) row.1 (omega (arith, first)) in
    let next : AreInside size (length (repl d (row.0 * size) row.1)) rows = subst (λ n. AreInside size n rows) (sym long) rest in
    (elim (nat_eq p row.0) as (λ b. nat_eq p row.0 ≡ b → cond b (Some row.1) (lookup (nat_eq p) rows) ≡ None → page_of (homes_written size rows (repl d (row.0 * size) row.1)) size p ≡ page_of d size p) [
      | true ↦ λ t gone. absurd (some_apart _ gone)
      | false ↦ λ t gone. home_stays size rows (repl d (row.0 * size) row.1) p next gone ∙ home_step size row d p first (λ same. let e = eq-eqb p row.0 same in both_ways _ t e)
    ]) refl none

home_is : (size : ℕ) (rows : List (ℕ × List ℕ)) (d : List ℕ) (p : ℕ) (image : List ℕ) → IsRising rows → AreInside size (length d) rows → lookup (nat_eq p) rows ≡ Some image → page_of (homes_written size rows d) size p ≡ image
home_is size [] d p image rising inside found = absurd (cc)
home_is size (row ∷ rows) d p image rising inside found =
    let first = All-head (λ (r : ℕ × List ℕ). (r.0 * size + size ≤ length d) × (length r.1 ≡ size)) row rows inside in
    let rest = All-tail (λ (r : ℕ × List ℕ). (r.0 * size + size ≤ length d) × (length r.1 ≡ size)) row rows inside in
    let fits : row.0 * size + length row.1 ≤ length d = omega (arith, first) in
    let long = length-repl d (row.0 * size) row.1 fits in
    let next : AreInside size (length (repl d (row.0 * size) row.1)) rows = subst (λ n. AreInside size n rows) (sym long) rest in
    (elim (nat_eq p row.0) as (λ b. nat_eq p row.0 ≡ b → cond b (Some row.1) (lookup (nat_eq p) rows) ≡ Some image → page_of (homes_written size rows (repl d (row.0 * size) row.1)) size p ≡ image) [
      | true ↦ λ t is.
          let same : p ≡ row.0 = eqb-true p row.0 t in
          let image_is : row.1 ≡ image = cc in
          home_stays size rows (repl d (row.0 * size) row.1) p next (none_above p row.0 rows (omega (arith, same)) rising.0)
          ∙ ap (λ q. page_of (repl d (row.0 * size) row.1) size q) same
          ∙ ap (λ n. part (repl d (row.0 * size) row.1) (row.0 * size) n) (sym first.1)
          ∙ part-repl d (row.0 * size) row.1 fits ∙ image_is
      | false ↦ λ t is. home_is size rows (repl d (row.0 * size) row.1) p image rising.1 next is
    ]) refl found

pub home_reads : (size : ℕ) (rows : List (ℕ × List ℕ)) (d : List ℕ) (p : ℕ) (o : Option (List ℕ)) → IsRising rows → AreInside size (length d) rows → lookup (nat_eq p) rows ≡ o → page_of (homes_written size rows d) size p ≡ unwrap_or o (page_of d size p)
home_reads size rows d p None rising inside found = home_stays size rows d p inside found
home_reads size rows d p (Some image) rising inside found = home_is size rows d p image rising inside found

pub rows_inside : (g : Geometry) (n : ℕ) (rows : List (ℕ × List ℕ)) → All (IsPageRow g) rows → volume_bytes g ≤ n → AreInside g.page_size n rows
rows_inside g n rows all fits = All-weaker (IsPageRow g) (λ (row : ℕ × List ℕ). (row.0 * g.page_size + g.page_size ≤ n) × (length row.1 ≡ g.page_size)) (λ row is. (inside row.0 is.0, is.1)) rows all
  where
    inside : (p : ℕ) → InPageArea g p → p * g.page_size + g.page_size ≤ n
    inside p area =
        let h : suc p * g.page_size ≤ (257 + g.pages + g.segs * g.seg_len) * g.page_size = mul-le-mul_right g.page_size (omega (arith, area.1)) in
        omega (arith, suc-mul p g.page_size, h, fits)

pub homes_read : (a b : Outside) (g : Geometry) (rows : List (ℕ × List ℕ)) → IsWorld a → IsRising rows → All (IsPageRow g) rows → volume_bytes g ≤ a.size
    → ((d : List ℕ) → a.disk ≡ Some d → b.disk ≡ Some (homes_written g.page_size rows d))
    → (d e : List ℕ) → a.disk ≡ Some d → b.disk ≡ Some e → (p : ℕ) → page_of e g.page_size p ≡ unwrap_or (lookup (nat_eq p) rows) (page_of d g.page_size p)
homes_read a b g rows world rising all fits written d e was is p =
    let long : length d ≡ a.size = world.whole d (world.held_may_stay d was) in
    let same : e ≡ homes_written g.page_size rows d = same_Some e (homes_written g.page_size rows d) (sym is ∙ written d was) in
    ap (λ l. page_of l g.page_size p) same ∙ home_reads g.page_size rows d p (lookup (nat_eq p) rows) rising (subst (λ n. AreInside g.page_size n rows) (sym long) (rows_inside g a.size rows all fits)) refl

-- there are no more touched pages than pages of the page area
pub few_touched : (g : Geometry) (committed : List (ℕ × List ℕ)) (working : List (ℕ × Option (List ℕ))) (capacity : ℕ) → AreKept g committed working capacity → length working ≤ g.pages
few_touched g committed working capacity kept =
    omega (arith, few_rising 256 (257 + g.pages) working (omega arith) kept.working_rising (All-weaker (IsWorkingRow g) (λ (row : ℕ × Option (List ℕ)). (suc 256 ≤ row.0) × (row.0 < 257 + g.pages)) (λ row is. is.0) working kept.working_pages))

-- frames that a group forgets leave the others
pub from_forgotten : (low page : ℕ) (gs : List Frames) → AreFrom low gs → AreFrom low (forgotten_in_all page gs)
from_forgotten low page gs all =
    All-map (λ (f : Frames). All (λ (e : ℕ × List ℕ). low ≤ e.0) f.entries) (forgotten page) gs
    (All-weaker (λ (f : Frames). All (λ (e : ℕ × List ℕ). low ≤ e.0) f.entries) (λ (f : Frames). All (λ (e : ℕ × List ℕ). low ≤ e.0) (without page f.entries))
    (λ f h. All-filter (λ (e : ℕ × List ℕ). not (nat_eq page e.0)) (λ (e : ℕ × List ℕ). low ≤ e.0) f.entries h) gs all)
