-- Working images that become the committed ones, the last one first.
use Rattle.std.proofs.Common.{◌≡◌, ◌≢◌, ◌≤◌, ◌<◌, ◌+◌, ◌++◌, ◌&&◌, ℕ, Bool, true, false, not, cond, List, [], ◌∷◌, length, Option, Some, None, is_some, if◌then◌else◌, nat_eq, nat_lt, refl, sym, ap, subst, ◌∙◌, arith, eqb-true, eq-eqb, ltb-true, All, Result, Ok, Err, OnOk, IsOk, is_err}
use Rattle.std.specs.List.{AllByRecursion}
use Rattle.std.specs.Map.{lookup}
use Rattle.meta_pages.specs.Rows.{IsAbove, IsRising, with_row, without_row, kept_row, kept_rows, is_fresh, fresh, named, ones}
use Rattle.std.proofs.lemmas.List.Elements.{All-nil, All-head, All-tail}
use Rattle.ex_base.specs.declared.geometry.Geometry.{Geometry}
use Rattle.ex_base.proofs.Lists.{lookup_off}
use Rattle.meta_pages.specs.Overlays.{AreKept, IsPageRow, IsWorkingRow, over}
use Rattle.meta_pages.proofs.RowLists.{lookup_other, lookup_gone, rising_with, rising_without, not_equal_above, none_above, All-with_row, All-without_row}
use Rattle.std.proofs.lemmas.Bool.{both_ways}

abbrev Row : Type 0
Row = ℕ × Option (List ℕ)

pub kept_push : (c : List (ℕ × List ℕ)) (ws : List Row) (w : Row) → kept_rows c (ws ++ w ∷ []) ≡ kept_rows (kept_row w.0 w.1 c) ws
kept_push c [] w = refl
kept_push c (v ∷ ws) w = ap (kept_row v.0 v.1) (kept_push c ws w)

fresh_push : (c : List (ℕ × List ℕ)) (ws : List Row) (w : Row) → fresh c (ws ++ w ∷ []) ≡ fresh c ws + ones (is_fresh c w)
fresh_push c [] w = omega arith
fresh_push c (v ∷ ws) w = omega (arith, fresh_push c ws w)

rising_front : (ws : List Row) (w : Row) → IsRising (ws ++ w ∷ []) → IsRising ws
rising_front [] w h = tt
rising_front (v ∷ ws) w h = (above_front ws h.0, rising_front ws w h.1)
  where
    above_front : (xs : List Row) → IsAbove v.0 (xs ++ w ∷ []) → IsAbove v.0 xs
    above_front [] above = tt
    above_front (x ∷ xs) above = (above.0, above_front xs above.1)

-- each number is below the last one
abbrev AllLess : ℕ → List Row → Type 0
AllLess p ws = AllByRecursion (λ (w : Row). w.0 < p) ws

less_front : (ws : List Row) (w : Row) → IsRising (ws ++ w ∷ []) → AllLess w.0 ws
less_front [] w h = tt
less_front (v ∷ ws) w h = (last ws h.0, less_front ws w h.1)
  where
    last : (xs : List Row) → IsAbove v.0 (xs ++ w ∷ []) → v.0 < w.0
    last [] above = above.0
    last (x ∷ xs) above = last xs above.1

-- ---- how many rows there are

is_there_with : (page p : ℕ) (b : List ℕ) (rows : List (ℕ × List ℕ)) → is_some (lookup (nat_eq p) rows) ≡ true → is_some (lookup (nat_eq p) (with_row page b rows)) ≡ true
is_there_with page p b [] h = absurd (apart h)
  where
    apart : is_some {T = List ℕ} None ≡ true → ⊥
    apart e = cc
is_there_with page p b (row ∷ rows) h = elim (nat_lt row.0 page) as (λ t. is_some (lookup (nat_eq p) (cond t (row ∷ with_row page b rows) (cond (nat_eq page row.0) ((page, b) ∷ rows) ((page, b) ∷ row ∷ rows)))) ≡ true) [
  | true ↦ (elim (nat_eq p row.0) as (λ t. is_some (cond t (Some row.1) (lookup (nat_eq p) rows)) ≡ true → is_some (cond t (Some row.1) (lookup (nat_eq p) (with_row page b rows))) ≡ true) [
    | true ↦ λ i. refl
    | false ↦ λ i. is_there_with page p b rows i
  ]) h
  | false ↦ (elim (nat_eq page row.0) as (λ t. nat_eq page row.0 ≡ t → is_some (lookup (nat_eq p) (cond t ((page, b) ∷ rows) ((page, b) ∷ row ∷ rows))) ≡ true) [
    | true ↦ λ e. let key = eqb-true page row.0 e in (elim (nat_eq p row.0) as (λ t. nat_eq p row.0 ≡ t → is_some (cond t (Some row.1) (lookup (nat_eq p) rows)) ≡ true → is_some (cond (nat_eq p page) (Some b) (lookup (nat_eq p) rows)) ≡ true) [
      | true ↦ λ s i. rw (eq-eqb p page (eqb-true p row.0 s ∙ sym key)) refl
      | false ↦ λ s i. elim (nat_eq p page) as (λ t. is_some (cond t (Some b) (lookup (nat_eq p) rows)) ≡ true) [ true ↦ refl | false ↦ i ]
    ]) refl h
    | false ↦ λ e. elim (nat_eq p page) as (λ t. is_some (cond t (Some b) (lookup (nat_eq p) (row ∷ rows))) ≡ true) [ true ↦ refl | false ↦ h ]
  ]) refl
]

fresh_with : (page : ℕ) (b : List ℕ) (c : List (ℕ × List ℕ)) (ws : List Row) → fresh (with_row page b c) ws ≤ fresh c ws
fresh_with page b c [] = omega arith
fresh_with page b c (w ∷ ws) = omega (arith, fresh_with page b c ws, one (is_some w.1) (is_some (lookup (nat_eq w.0) c)) (is_some (lookup (nat_eq w.0) (with_row page b c))) (is_there_with page w.0 b c))
  where
    one : (i old new : Bool) → (old ≡ true → new ≡ true) → ones (i && not new) ≤ ones (i && not old)
    one false old new h = omega arith
    one true true new h = rw (h refl) (omega arith)
    one true false true h = omega arith
    one true false false h = omega arith

length_with : (page : ℕ) (b : List ℕ) (rows : List (ℕ × List ℕ)) → IsRising rows → length (with_row page b rows) ≤ length rows + ones (not (is_some (lookup (nat_eq page) rows)))
length_with page b [] h = omega arith
length_with page b (row ∷ rows) h = (elim (nat_lt row.0 page) as (λ t. nat_lt row.0 page ≡ t
    → length (cond t (row ∷ with_row page b rows) (cond (nat_eq page row.0) ((page, b) ∷ rows) ((page, b) ∷ row ∷ rows))) ≤ length (row ∷ rows) + ones (not (is_some (lookup (nat_eq page) (row ∷ rows))))) [
      | true ↦ λ t. rw (below row.0 (ltb-true row.0 page t)) (omega (arith, length_with page b rows h.1))
      | false ↦ λ t. (elim (nat_eq page row.0) as (λ e. nat_eq page row.0 ≡ e
          → length (cond e ((page, b) ∷ rows) ((page, b) ∷ row ∷ rows)) ≤ length (row ∷ rows) + ones (not (is_some (cond e (Some row.1) (lookup (nat_eq page) rows))))) [
            | true ↦ λ e. omega arith
            | false ↦ λ e. rw (none_above page row.0 rows (let lt = not_equal_above page row.0 t e in omega (arith, lt)) h.0) (omega arith)
          ]) refl
    ]) refl
  where
    below : (k : ℕ) → k < page → nat_eq page k ≡ false
    below k lt = (elim (nat_eq page k) as (λ e. nat_eq page k ≡ e → e ≡ false) [ true ↦ λ t. absurd (omega (arith, lt, eqb-true page k t)) | false ↦ λ t. refl ]) refl

less_with : (c : List (ℕ × List ℕ)) (ws : List Row) (page : ℕ) (b : List ℕ) → IsRising c → named c (ws ++ (page, Some b) ∷ []) ≤ 256 → named (with_row page b c) ws ≤ 256
less_with c ws page b rising h =
    omega (arith, h, fresh_push c ws (page, Some b), fresh_with page b c ws, length_with page b c rising)

length_without : (page : ℕ) (rows : List (ℕ × List ℕ)) → length (without_row page rows) ≤ length rows
length_without page [] = omega arith
length_without page (row ∷ rows) = elim (nat_lt row.0 page) as (λ t. length (cond t (row ∷ without_row page rows) (cond (nat_eq page row.0) rows (row ∷ rows))) ≤ length (row ∷ rows)) [
  | true ↦ omega (arith, length_without page rows)
  | false ↦ elim (nat_eq page row.0) as (λ t. length (cond t rows (row ∷ rows)) ≤ length (row ∷ rows)) [ true ↦ omega arith | false ↦ omega arith ]
]

fresh_without : (page : ℕ) (c : List (ℕ × List ℕ)) (ws : List Row) → AllLess page ws → fresh (without_row page c) ws ≡ fresh c ws
fresh_without page c [] less = refl
fresh_without page c (w ∷ ws) less =
    let same : lookup (nat_eq w.0) (without_row page c) ≡ lookup (nat_eq w.0) c = lookup_other page c w.0 (λ e. omega (arith, less.0, e)) in
    ap (λ (o : Option (List ℕ)). ones (is_some w.1 && not (is_some o)) + fresh (without_row page c) ws) same ∙ ap (λ n. ones (is_fresh c w) + n) (fresh_without page c ws less.1)

less_without : (c : List (ℕ × List ℕ)) (ws : List Row) (page : ℕ) → IsRising (ws ++ (page, None) ∷ []) → named c (ws ++ (page, None) ∷ []) ≤ 256 → named (without_row page c) ws ≤ 256
less_without c ws page rising h =
    omega (arith, h, fresh_push c ws (page, None), length_without page c, fresh_without page c ws (less_front ws (page, None) rising))

pub room_for : (c : List (ℕ × List ℕ)) (ws : List Row) (page most : ℕ) (b : List ℕ) → named c (ws ++ (page, Some b) ∷ []) ≤ 256 → 256 ≤ most
    → length c + (if is_some (lookup (nat_eq page) c) then 0 else 1) ≤ most
room_for c ws page most b h room = by_case (is_some (lookup (nat_eq page) c)) (length c) (omega (arith, h, room, fresh_push c ws (page, Some b)))
  where
    by_case : (t : Bool) (n : ℕ) → n + ones (not t) ≤ most → n + (if t then 0 else 1) ≤ most
    by_case true n le = le
    by_case false n le = le

-- one step of the loop
pub record Kept (c0 : List (ℕ × List ℕ)) (w0 : List Row) (before : ℕ) (c : List (ℕ × List ℕ)) (ws : List Row) (after : ℕ) : Type 0 where
  pub same : kept_rows c ws ≡ kept_rows c0 w0
  pub named : named c ws ≤ 256
  pub rising : IsRising c
  pub working_rising : IsRising ws
  pub capacity : before ≤ after

pub keeps_image : (c0 c new : List (ℕ × List ℕ)) (w0 ws rest : List Row) (page before now after : ℕ) (image : Option (List ℕ)) (b : List ℕ)
    → Kept c0 w0 before c ws now → ws ≡ rest ++ (page, image) ∷ [] → image ≡ Some b → new ≡ with_row page b c → now ≤ after → Kept c0 w0 before new rest after
keeps_image c0 c new w0 ws rest page before now after image b kept is some made more =
    let was : ws ≡ rest ++ (page, Some b) ∷ [] = is ∙ ap (λ (o : Option (List ℕ)). rest ++ (page, o) ∷ []) some in
    rw made (record {
      same = sym (kept_push c rest (page, Some b)) ∙ ap (kept_rows c) (sym was) ∙ kept.same;
      named = less_with c rest page b kept.rising (subst (λ (l : List Row). named c l ≤ 256) was kept.named);
      rising = rising_with page b c kept.rising;
      working_rising = rising_front rest (page, Some b) (subst (λ (l : List Row). IsRising l) was kept.working_rising);
      capacity = omega (arith, kept.capacity, more);
    })

pub keeps_gone : (c0 c new : List (ℕ × List ℕ)) (w0 ws rest : List Row) (page before now after : ℕ) (image : Option (List ℕ))
    → Kept c0 w0 before c ws now → ws ≡ rest ++ (page, image) ∷ [] → image ≡ None → new ≡ without_row page c → now ≤ after → Kept c0 w0 before new rest after
keeps_gone c0 c new w0 ws rest page before now after image kept is none made more =
    let was : ws ≡ rest ++ (page, None) ∷ [] = is ∙ ap (λ (o : Option (List ℕ)). rest ++ (page, o) ∷ []) none in
    let rising : IsRising (rest ++ (page, None) ∷ []) = subst (λ (l : List Row). IsRising l) was kept.working_rising in
    rw made (record {
      same = sym (kept_push c rest (page, None)) ∙ ap (kept_rows c) (sym was) ∙ kept.same;
      named = less_without c rest page rising (subst (λ (l : List Row). named c l ≤ 256) was kept.named);
      rising = rising_without page c kept.rising;
      working_rising = rising_front rest (page, None) rising;
      capacity = omega (arith, kept.capacity, more);
    })

-- ---- the whole

kept_all : (g : Geometry) (c : List (ℕ × List ℕ)) (ws : List Row) → IsRising c → All (IsPageRow g) c → All (IsWorkingRow g) ws → IsRising (kept_rows c ws) × All (IsPageRow g) (kept_rows c ws)
kept_all g c [] rising pages all = (rising, pages)
kept_all g c ((page, None) ∷ ws) rising pages all =
    let rest = kept_all g c ws rising pages (All-tail (IsWorkingRow g) (page, None) ws all) in
    (rising_without page (kept_rows c ws) rest.0, All-without_row page (IsPageRow g) (kept_rows c ws) rest.1)
kept_all g c ((page, Some b) ∷ ws) rising pages all =
    let rest = kept_all g c ws rising pages (All-tail (IsWorkingRow g) (page, Some b) ws all) in
    let here = All-head (IsWorkingRow g) (page, Some b) ws all in
    (rising_with page b (kept_rows c ws) rest.0, All-with_row page (IsPageRow g) b (kept_rows c ws) here rest.1)

pub kept_meta : (g : Geometry) (c new : List (ℕ × List ℕ)) (ws rest : List Row) (before after : ℕ) → AreKept g c ws before → new ≡ kept_rows c ws → rest ≡ [] → before ≤ after → AreKept g new rest after
kept_meta g c new ws rest before after kept made none more =
    let all = kept_all g c ws kept.rising kept.pages kept.working_pages in
    rw (made, none) (record { rising = all.0; working_rising = tt; pages = all.1; working_pages = All-nil (IsWorkingRow g); room = omega (arith, kept.room, more) })

pub room_here : (c0 c : List (ℕ × List ℕ)) (w0 ws rest : List Row) (page before now : ℕ) (image : Option (List ℕ)) (b : List ℕ)
    → Kept c0 w0 before c ws now → 256 ≤ before → ws ≡ rest ++ (page, image) ∷ [] → image ≡ Some b → length c + (if is_some (lookup (nat_eq page) c) then 0 else 1) ≤ now
room_here c0 c w0 ws rest page before now image b kept room is some =
    let was : ws ≡ rest ++ (page, Some b) ∷ [] = is ∙ ap (λ (o : Option (List ℕ)). rest ++ (page, o) ∷ []) some in
    room_for c rest page now b (subst (λ (l : List Row). named c l ≤ 256) was kept.named) (omega (arith, room, kept.capacity))

pub never : {T E : Type 0} (r : Result T E) → IsOk r → is_err r ≡ true → ⊥
never (Ok x) ok err = cc
never (Err e) ok err = cc

-- ---- what each page's image is afterwards

lookup_put_here : (page : ℕ) (v : List ℕ) (rows : List (ℕ × List ℕ)) → lookup (nat_eq page) (with_row page v rows) ≡ Some v
lookup_put_here page v [] = rw (eq-eqb page page refl) refl
lookup_put_here page v (row ∷ rows) = (elim (nat_lt row.0 page) as (λ b. nat_lt row.0 page ≡ b → lookup (nat_eq page) (cond b (row ∷ with_row page v rows) (cond (nat_eq page row.0) ((page, v) ∷ rows) ((page, v) ∷ row ∷ rows))) ≡ Some v) [
  | true ↦ λ t. lookup_off row (with_row page v rows) page (λ same. absurd (omega (arith, same, ltb-true row.0 page t))) ∙ lookup_put_here page v rows
  | false ↦ λ t. elim (nat_eq page row.0) as (λ b. lookup (nat_eq page) (cond b ((page, v) ∷ rows) ((page, v) ∷ row ∷ rows)) ≡ Some v) [
    | true ↦ rw (eq-eqb page page refl) refl
    | false ↦ rw (eq-eqb page page refl) refl
  ]
]) refl

lookup_put_other : (page : ℕ) (v : List ℕ) (rows : List (ℕ × List ℕ)) (p : ℕ) → page ≢ p → lookup (nat_eq p) (with_row page v rows) ≡ lookup (nat_eq p) rows
lookup_put_other page v [] p differ = lookup_off (page, v) [] p differ
lookup_put_other page v (row ∷ rows) p differ = elim (nat_lt row.0 page) as (λ b. lookup (nat_eq p) (cond b (row ∷ with_row page v rows) (cond (nat_eq page row.0) ((page, v) ∷ rows) ((page, v) ∷ row ∷ rows))) ≡ lookup (nat_eq p) (row ∷ rows)) [
  | true ↦ ap (λ (o : Option (List ℕ)). cond (nat_eq p row.0) (Some row.1) o) (lookup_put_other page v rows p differ)
  | false ↦ (elim (nat_eq page row.0) as (λ b. nat_eq page row.0 ≡ b → lookup (nat_eq p) (cond b ((page, v) ∷ rows) ((page, v) ∷ row ∷ rows)) ≡ lookup (nat_eq p) (row ∷ rows)) [
    | true ↦ λ e. lookup_off (page, v) rows p differ ∙ sym (lookup_off row rows p (λ same. differ (eqb-true page row.0 e ∙ same)))
    | false ↦ λ e. lookup_off (page, v) (row ∷ rows) p differ
  ]) refl
]

rising_kept : (c : List (ℕ × List ℕ)) (ws : List Row) → IsRising c → IsRising (kept_rows c ws)
rising_kept c [] h = h
rising_kept c ((page, None) ∷ ws) h = rising_without page (kept_rows c ws) (rising_kept c ws h)
rising_kept c ((page, Some b) ∷ ws) h = rising_with page b (kept_rows c ws) (rising_kept c ws h)

kept_here : (page : ℕ) (o : Option (List ℕ)) (rows : List (ℕ × List ℕ)) → IsRising rows → lookup (nat_eq page) (kept_row page o rows) ≡ o
kept_here page None rows h = lookup_gone page rows h
kept_here page (Some b) rows h = lookup_put_here page b rows

kept_other : (page : ℕ) (o : Option (List ℕ)) (rows : List (ℕ × List ℕ)) (p : ℕ) → page ≢ p → lookup (nat_eq p) (kept_row page o rows) ≡ lookup (nat_eq p) rows
kept_other page None rows p differ = lookup_other page rows p differ
kept_other page (Some b) rows p differ = lookup_put_other page b rows p differ

pub kept_image : (c : List (ℕ × List ℕ)) (ws : List Row) (p : ℕ) → IsRising c → lookup (nat_eq p) (kept_rows c ws) ≡ over (lookup (nat_eq p) ws) (lookup (nat_eq p) c)
kept_image c [] p h = refl
kept_image c (w ∷ ws) p h = (elim (nat_eq p w.0) as (λ b. nat_eq p w.0 ≡ b → lookup (nat_eq p) (kept_row w.0 w.1 (kept_rows c ws)) ≡ over (cond b (Some w.1) (lookup (nat_eq p) ws)) (lookup (nat_eq p) c)) [
  | true ↦ λ t. let same : w.0 ≡ p = sym (eqb-true p w.0 t) in ap (λ q. lookup (nat_eq q) (kept_row w.0 w.1 (kept_rows c ws))) (sym same) ∙ kept_here w.0 w.1 (kept_rows c ws) (rising_kept c ws h)
  | false ↦ λ t. kept_other w.0 w.1 (kept_rows c ws) p (λ same. let e = eq-eqb p w.0 (sym same) in both_ways _ t e) ∙ kept_image c ws p h
]) refl

-- a committed image that was put
pub lookup_put : {T E : Type 0} (r : Result T E) (page : ℕ) (image : List ℕ) (rows now : List (ℕ × List ℕ)) → OnOk r (now ≡ with_row page image rows)
    → OnOk r ((p : ℕ) → lookup (nat_eq p) now ≡ cond (nat_eq page p) (Some image) (lookup (nat_eq p) rows))
lookup_put (Err e) page image rows now put = tt
lookup_put (Ok v) page image rows now put = λ p. ap (lookup (nat_eq p)) put ∙ put_at p (nat_eq page p) refl
  where
    put_at : (p : ℕ) (b : Bool) → nat_eq page p ≡ b → lookup (nat_eq p) (with_row page image rows) ≡ cond b (Some image) (lookup (nat_eq p) rows)
    put_at p true is = ap (λ (q : ℕ). lookup (nat_eq q) (with_row page image rows)) (sym (eqb-true page p is)) ∙ lookup_put_here page image rows
    put_at p false is = lookup_put_other page image rows p (λ same. let h = eq-eqb page p same in cc)

-- ---- how many they are afterwards

-- no more than had a committed or a working image
pub kept_few : (c : List (ℕ × List ℕ)) (ws : List Row) → IsRising c → IsRising ws → length (kept_rows c ws) ≤ named c ws
kept_few c [] rising working = omega arith
kept_few c ((page, None) ∷ ws) rising working = omega (arith, length_without page (kept_rows c ws), kept_few c ws rising working.1)
kept_few c ((page, Some b) ∷ ws) rising working =
    let unlike : lookup (nat_eq page) ws ≡ None = none_above page page ws (omega arith) working.0 in
    let same : lookup (nat_eq page) (kept_rows c ws) ≡ lookup (nat_eq page) c = kept_image c ws page rising ∙ ap (λ (row : Option (Option (List ℕ))). over row (lookup (nat_eq page) c)) unlike in
    omega (arith, length_with page b (kept_rows c ws) (rising_kept c ws rising), ap (λ (o : Option (List ℕ)). ones (not (is_some o))) same, kept_few c ws rising working.1)
