-- Groups that forgot the pages of a unit still lend the other pages after the unit was written.
use Rattle.std.proofs.Common.{◌≡◌, ◌≤◌, ◌<◌, ◌+◌, ◌*◌, ℕ, zero, suc, true, false, cond, not, List, [], ◌∷◌, length, All, Option, Some, is_some, nat_eq, refl, sym, ap, subst, ◌∙◌, arith, inl, inr, ⊎_elim, ◌⊎◌, eq-eqb}
use Rattle.std.proofs.Math.Nat.{mul-le-mul_right, suc-mul, add-mul}
use Rattle.std.proofs.lemmas.Bool.{cases_lt, both_ways}
use Rattle.std.proofs.lemmas.List.Elements.{All-nil, All-cons, All-head, All-tail, All-map, All-set, All-weaker, All-filter}
use Rattle.std.proofs.lemmas.Option.{same_Some}
use Rattle.ex_base.specs.Bytes.{Apart}
use Rattle.disk_model.specs.Outside.{Outside, Goes}
use Rattle.disk_model.specs.Calls.{Tears}
use Rattle.disk_model.specs.Runs.{told_value}
use Rattle.std.specs.Map.{lookup}
use Rattle.buffer_groups.specs.Frames.{Frames, Lends, without, with_room, forgotten, page_of, Brought, NotBrought}
use Rattle.buffer_groups.proofs.FrameLists.{All-with_room}
use Rattle.buffer_groups.proofs.Kept.{part_apart, sizes_forgotten}
use Rattle.buffer_groups.specs.Groups.{GroupBrought, GroupNotBrought, SameKinds}
use Rattle.buffer_groups.proofs.GroupLists.{at_index, kinds_forgotten}
use Rattle.ex_base.specs.Area.{catalog_no}
use Rattle.tree_store.specs.Stored.{AreFromCatalog, unit_forgotten}

-- ---- groups that forgot the pages of a unit

pub unit_forgotten_kinds : (p n : ℕ) (gs : List Frames) → SameKinds gs (unit_forgotten p n gs)
unit_forgotten_kinds p zero gs = refl
unit_forgotten_kinds p (suc n) gs = kinds_forgotten (p + n) (unit_forgotten p n gs) ∙ unit_forgotten_kinds p n gs

pub unit_forgotten_sizes : (p n size : ℕ) (gs : List Frames) → All (λ (f : Frames). f.page_size ≡ size) gs → All (λ (f : Frames). f.page_size ≡ size) (unit_forgotten p n gs)
unit_forgotten_sizes p zero size gs sizes = sizes
unit_forgotten_sizes p (suc n) size gs sizes = sizes_forgotten (p + n) size (unit_forgotten p n gs) (unit_forgotten_sizes p n size gs sizes)

-- ---- no frame is of the superblock or the log

abbrev IsFromCatalog : Frames → Type 0
IsFromCatalog f = All (λ (e : ℕ × List ℕ). catalog_no ≤ e.0) f.entries

without_behind : (page : ℕ) (f : Frames) → IsFromCatalog f → IsFromCatalog (forgotten page f)
without_behind page f all = All-filter (λ (e : ℕ × List ℕ). not (nat_eq page e.0)) (λ (e : ℕ × List ℕ). catalog_no ≤ e.0) f.entries all

pub unit_forgotten_behind : (p n : ℕ) (gs : List Frames) → AreFromCatalog gs → AreFromCatalog (unit_forgotten p n gs)
unit_forgotten_behind p zero gs all = all
unit_forgotten_behind p (suc n) gs all =
    All-map IsFromCatalog (forgotten (p + n)) (unit_forgotten p n gs)
    (All-weaker IsFromCatalog (λ f. IsFromCatalog (forgotten (p + n) f)) (without_behind (p + n)) (unit_forgotten p n gs) (unit_forgotten_behind p n gs all))

pub frame_brought : (disk : Option (List ℕ)) (f h : Frames) (page : ℕ) (bytes : List ℕ) → catalog_no ≤ page → Brought disk f h page bytes → IsFromCatalog f → IsFromCatalog h
frame_brought disk f h page bytes le brought all =
    let P = λ (e : ℕ × List ℕ). catalog_no ≤ e.0 in
    rw brought.frames (All-cons P (page, bytes) _ le
    (elim (is_some (lookup (nat_eq page) f.entries)) as (λ b. All P (cond b (without page f.entries) (with_room f.policy f.cap f.entries))) [
      | true ↦ without_behind page f all
      | false ↦ All-with_room P f.policy f.cap f.entries all
    ]))

pub frame_not_brought : (f h : Frames) (page : ℕ) → NotBrought f h page → IsFromCatalog f → IsFromCatalog h
frame_not_brought f h page none all = rw none.frames (All-with_room (λ (e : ℕ × List ℕ). catalog_no ≤ e.0) f.policy f.cap f.entries all)

pub groups_brought : (disk : Option (List ℕ)) (gs hs : List Frames) (index page : ℕ) → index < length gs → catalog_no ≤ page → GroupBrought disk gs hs index page → AreFromCatalog gs → AreFromCatalog hs
groups_brought disk gs hs index page lt le brought all =
    rw brought.groups (All-set IsFromCatalog gs index brought.after (frame_brought disk brought.before brought.after page brought.bytes le brought.brought (at_index IsFromCatalog gs index brought.before brought.at lt all)) all)

pub groups_not_brought : (gs hs : List Frames) (index page : ℕ) → index < length gs → GroupNotBrought gs hs index page → AreFromCatalog gs → AreFromCatalog hs
groups_not_brought gs hs index page lt none all =
    rw none.groups (All-set IsFromCatalog gs index none.after (frame_not_brought none.before none.after page none.unchanged (at_index IsFromCatalog gs index none.before none.at lt all)) all)

forgotten_lends : (disk : Option (List ℕ)) (page : ℕ) (f : Frames) → Lends disk f → Lends disk (forgotten page f)
forgotten_lends disk page f lends = λ held is. All-filter (λ (e : ℕ × List ℕ). not (nat_eq page e.0)) (λ e. e.1 ≡ page_of held f.page_size e.0) f.entries (lends held is)

unit_forgotten_lends : (disk : Option (List ℕ)) (p n : ℕ) (gs : List Frames) → All (Lends disk) gs → All (Lends disk) (unit_forgotten p n gs)
unit_forgotten_lends disk p zero gs all = all
unit_forgotten_lends disk p (suc n) gs all =
    All-map (Lends disk) (forgotten (p + n)) (unit_forgotten p n gs)
    (All-weaker (Lends disk) (λ f. Lends disk (forgotten (p + n) f)) (forgotten_lends disk (p + n)) (unit_forgotten p n gs) (unit_forgotten_lends disk p n gs all))

-- the page is none of n pages from p on
pub record IsNone (p n q : ℕ) : Type 0 where
  pub apart : (q < p) ⊎ (p + n ≤ q)

abbrev pub AreNone : ℕ → ℕ → Frames → Type 0
AreNone p n f = All (λ (e : ℕ × List ℕ). IsNone p n e.0) f.entries

none_at : (p q : ℕ) → IsNone p 0 q
none_at p q = record { apart = ⊎_elim (λ (lt : q < p). inl lt) (λ (le : p ≤ q). inr (omega (arith, le))) (cases_lt q p) }

none_start : (p : ℕ) (es : List (ℕ × List ℕ)) → All (λ (e : ℕ × List ℕ). IsNone p 0 e.0) es
none_start p [] = All-nil (λ (e : ℕ × List ℕ). IsNone p 0 e.0)
none_start p (e ∷ es) = All-cons (λ (f : ℕ × List ℕ). IsNone p 0 f.0) e es (none_at p e.0) (none_start p es)

none_on : (p n q : ℕ) → IsNone p n q → (q ≡ p + n → ⊥) → IsNone p (suc n) q
none_on p n q is differ = record { apart = ⊎_elim (λ (lt : q < p). inl lt) (λ (le : p + n ≤ q). inr (more le)) is.apart }
  where
    more : p + n ≤ q → p + suc n ≤ q
    more le = ⊎_elim (λ (lt : p + n < q). omega (arith, lt)) (λ (ge : q ≤ p + n). absurd (differ (omega (arith, le, ge)))) (cases_lt (p + n) q)

none_more : (p n : ℕ) (es : List (ℕ × List ℕ)) → All (λ (e : ℕ × List ℕ). IsNone p n e.0) es → All (λ (e : ℕ × List ℕ). IsNone p (suc n) e.0) (without (p + n) es)
none_more p n [] all = All-nil (λ (e : ℕ × List ℕ). IsNone p (suc n) e.0)
none_more p n (e ∷ es) all =
    let rest = none_more p n es (All-tail (λ (f : ℕ × List ℕ). IsNone p n f.0) e es all) in
    let first = All-head (λ (f : ℕ × List ℕ). IsNone p n f.0) e es all in
    (elim (nat_eq (p + n) e.0) as (λ t. nat_eq (p + n) e.0 ≡ t → All (λ (f : ℕ × List ℕ). IsNone p (suc n) f.0) (cond (not t) (e ∷ without (p + n) es) (without (p + n) es))) [
      | true ↦ λ t. rest
      | false ↦ λ t. All-cons (λ (f : ℕ × List ℕ). IsNone p (suc n) f.0) e (without (p + n) es)
          (none_on p n e.0 first (λ same. let h = eq-eqb (p + n) e.0 (sym same) in both_ways _ t h)) rest
    ]) refl

all_start : (p : ℕ) (gs : List Frames) → All (AreNone p 0) gs
all_start p [] = All-nil (AreNone p 0)
all_start p (f ∷ gs) = All-cons (AreNone p 0) f gs (none_start p f.entries) (all_start p gs)

pub unit_forgotten_none : (p n : ℕ) (gs : List Frames) → All (AreNone p n) (unit_forgotten p n gs)
unit_forgotten_none p zero gs = all_start p gs
unit_forgotten_none p (suc n) gs =
    All-map (AreNone p (suc n)) (forgotten (p + n)) (unit_forgotten p n gs)
    (All-weaker (AreNone p n) (λ f. AreNone p (suc n) (forgotten (p + n) f)) (λ f. none_more p n f.entries) (unit_forgotten p n gs) (unit_forgotten_none p n gs))

-- ---- frames of other pages lend as before

module _ (a b : Outside) (size p pages n : ℕ) (goes : Goes a b) (tears : Tears (p * size) n a b) (room : n ≤ pages * size) where
  away : (q : ℕ) → IsNone p pages q → Apart (q * size) size (p * size) n
  away q is = ⊎_elim
      (λ (before : q < p). inl (omega (arith, suc-mul q size, mul-le-mul_right {m = suc q} {n = p} size before)))
      (λ (after : p + pages ≤ q). inr (omega (arith, room, add-mul p pages size, mul-le-mul_right {m = p + pages} {n = q} size after)))
      is.apart

  other_page : (d held : List ℕ) → a.disk ≡ Some d → b.disk ≡ Some held → (q : ℕ) → IsNone p pages q → page_of held size q ≡ page_of d size q
  other_page d held was is q none =
      let torn = tears.disk d was in
      let same : torn.0 ≡ held = same_Some torn.0 held (sym torn.1 ∙ is) in
      ap (λ l. page_of l size q) (sym same) ∙ part_apart (p * size) n d torn.0 (q * size) size torn.2 (away q none)

  other_frames : (d held : List ℕ) → a.disk ≡ Some d → b.disk ≡ Some held → (es : List (ℕ × List ℕ)) → All (λ e. e.1 ≡ page_of d size e.0) es → All (λ (e : ℕ × List ℕ). IsNone p pages e.0) es
      → All (λ e. e.1 ≡ page_of held size e.0) es
  other_frames d held was is [] all none = All-nil (λ (e : ℕ × List ℕ). e.1 ≡ page_of held size e.0)
  other_frames d held was is (e ∷ es) all none =
      All-cons (λ (f : ℕ × List ℕ). f.1 ≡ page_of held size f.0) e es
      (All-head (λ (f : ℕ × List ℕ). f.1 ≡ page_of d size f.0) e es all ∙ sym (other_page d held was is e.0 (All-head (λ (f : ℕ × List ℕ). IsNone p pages f.0) e es none)))
      (other_frames d held was is es (All-tail (λ (f : ℕ × List ℕ). f.1 ≡ page_of d size f.0) e es all) (All-tail (λ (f : ℕ × List ℕ). IsNone p pages f.0) e es none))

  other_group : (f : Frames) → f.page_size ≡ size → Lends a.disk f → AreNone p pages f → Lends b.disk f
  other_group f sized lends none held is =
      let was = told_value a.disk (sym goes.disk_told ∙ ap is_some is) in
      subst (λ m. All (λ (e : ℕ × List ℕ). e.1 ≡ page_of held m e.0) f.entries) (sym sized)
      (other_frames was.0 held was.1 is f.entries (subst (λ m. All (λ (e : ℕ × List ℕ). e.1 ≡ page_of was.0 m e.0) f.entries) sized (lends was.0 was.1)) none)

  other_groups : (gs : List Frames) → All (λ (f : Frames). f.page_size ≡ size) gs → All (Lends a.disk) gs → All (AreNone p pages) gs → All (Lends b.disk) gs
  other_groups [] sizes all none = All-nil (Lends b.disk)
  other_groups (f ∷ gs) sizes all none =
      All-cons (Lends b.disk) f gs
      (other_group f (All-head (λ (h : Frames). h.page_size ≡ size) f gs sizes) (All-head (Lends a.disk) f gs all) (All-head (AreNone p pages) f gs none))
      (other_groups gs (All-tail (λ (h : Frames). h.page_size ≡ size) f gs sizes) (All-tail (Lends a.disk) f gs all) (All-tail (AreNone p pages) f gs none))

  pub unit_written : (gs : List Frames) → All (λ (f : Frames). f.page_size ≡ size) gs → All (Lends a.disk) gs → All (Lends b.disk) (unit_forgotten p pages gs)
  unit_written gs sizes all =
      other_groups (unit_forgotten p pages gs) (unit_forgotten_sizes p pages size gs sizes) (unit_forgotten_lends a.disk p pages gs all) (unit_forgotten_none p pages gs)
