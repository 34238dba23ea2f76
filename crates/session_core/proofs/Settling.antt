-- The logged pages row by row.
use Rattle.std.proofs.Common.{◌≡◌, ◌≢◌, ◌<◌, ◌+◌, ℕ, zero, suc, Bool, true, false, All, List, [], ◌∷◌, length, take, Option, Some, None, is_some, nat_eq, slice_get, slice_set, refl, sym, ap, subst, ◌∙◌, ⊎_elim, arith}
use Rattle.std.specs.List.{AllByRecursion}
use Rattle.std.specs.Map.{lookup}
use Rattle.std.specs.Option.{option_copied}
use Rattle.std.specs.Borrow.{Bor}
use Rattle.std.proofs.lemmas.Bool.{cases_eq, both_ways, false_from_ne_true}
use Rattle.std.proofs.lemmas.List.{get_or-set_same, get_or-set_other, length-set}
use Rattle.meta_pages.specs.Rows.{IsRising}
use Rattle.page_alloc.specs.UnitSet.{UnitSet, refs_at, used_at}
use Rattle.volume_model.specs.Shown.{WorkingRow}
use Rattle.volume_port.specs.Logged.{LoggedSet, is_held}
use Rattle.volume_port.proofs.FirstRows.{next_here, next_keeps, next_other, none_below}
use Rattle.volume_port.proofs.Frames.{each_of_all}
use Rattle.session_core.specs.Sessions.{OnlyGives, Settled, TakenBack, WasTaken, is_there, is_kept}
use Rattle.ex_base.specs.Area.{InPageArea}
use Rattle.meta_pages.specs.Overlays.{AreRows, IsWorkingRow, Overlays}
use Rattle.ex_base.proofs.Options.{none_from_test}

-- ---- units

pub gives_none : (stays : ℕ → Type 0) (u : UnitSet) → OnlyGives stays u u
gives_none stays u = record { geometry = refl; used = λ unit is. is; stays = λ unit is _. is; owned = λ unit is _. is; refs = λ unit. omega arith; free = λ area. omega arith }

pub gives_on : (P Q R : ℕ → Type 0) (u v w : UnitSet) → ((unit : ℕ) → R unit → P unit) → ((unit : ℕ) → R unit → Q unit) → OnlyGives P u v → OnlyGives Q v w → OnlyGives R u w
gives_on P Q R u v w p q one two = record {
  geometry = two.geometry ∙ one.geometry;
  used = λ unit is. one.used unit (two.used unit is);
  stays = λ unit is r. two.stays unit (one.stays unit is (p unit r)) (q unit r);
  owned = λ unit is some. two.owned unit (one.owned unit is (omega (arith, some, two.refs unit))) some;
  refs = λ unit. omega (arith, one.refs unit, two.refs unit);
  free = λ area. omega (arith, one.free area, two.free area);
}

-- a unit that is free is free after
pub free_still : (stays : ℕ → Type 0) (u v : UnitSet) → OnlyGives stays u v → (unit : ℕ) → used_at u unit ≡ false → used_at v unit ≡ false
free_still stays u v gives unit free = false_from_ne_true (used_at v unit) (λ is. both_ways _ free (gives.used unit is))

-- ---- an abort

-- what the rows up to one say of its page
pub image_next : (rows : List WorkingRow) (i : ℕ) (row : WorkingRow) → IsRising rows → slice_get rows i ≡ Some row → is_there (lookup (nat_eq row.0) (take (i + 1) rows)) ≡ is_some row.1
image_next rows i row rising is = ap is_there (next_here rows i row rising is)

pub image_below : (rows : List WorkingRow) (i : ℕ) (row : WorkingRow) → IsRising rows → slice_get rows i ≡ Some row → (p : ℕ) → is_there (lookup (nat_eq p) (take i rows)) ≡ true → is_there (lookup (nat_eq p) (take (i + 1) rows)) ≡ true
image_below rows i row rising is p has = ⊎_elim
    (λ (same : p ≡ row.0). absurd (both_ways _ (ap (λ (q : ℕ). is_there (lookup (nat_eq q) (take i rows))) same ∙ ap is_there (none_below rows i row rising is)) has))
    (λ (differ : p ≢ row.0). ap is_there (next_other rows i row rising is p differ) ∙ has) (cases_eq p row.0)

pub taken_back_next : (rows : List WorkingRow) (i : ℕ) (row : WorkingRow) (kept : List Bool) (old mid new : LoggedSet) (u v w : UnitSet) (image flag : Bool) → IsRising rows → slice_get rows i ≡ Some row
    → row.0 < length mid → image ≡ is_some row.1 → flag ≡ is_kept kept row.0 → TakenBack (take i rows) kept old mid u v
    → new ≡ slice_set mid row.0 flag → OnlyGives (λ unit. (unit ≡ row.0) × (image ≡ true) × (flag ≡ false) → ⊥) v w
    → (image ≡ true → flag ≡ false → refs_at v row.0 ≡ 0 → used_at w row.0 ≡ false) → TakenBack (take (i + 1) rows) kept old new u w
taken_back_next rows i row kept old mid new u v w image flag rising is inside with_image flagged back set gives frees = record {
  held_len = ap (λ (s : LoggedSet). length s) set ∙ length-set mid row.0 flag ∙ back.held_len;
  touched = λ page x has. ⊎_elim
      (λ (same : page ≡ row.0). ap (is_held new) same ∙ held_here ∙ flagged ∙ ap (is_kept kept) (sym same))
      (λ (differ : page ≢ row.0). held_other page differ ∙ back.touched page x (sym (next_other rows i row rising is page differ) ∙ has)) (cases_eq page row.0);
  others = λ page none. ⊎_elim
      (λ (same : page ≡ row.0). absurd (some_none (sym (next_here rows i row rising is) ∙ ap (λ (q : ℕ). lookup (nat_eq q) (take (i + 1) rows)) (sym same) ∙ none)))
      (λ (differ : page ≢ row.0). held_other page differ ∙ back.others page (sym (next_other rows i row rising is page differ) ∙ none)) (cases_eq page row.0);
  units = gives_on (λ unit. WasTaken (take i rows) kept unit → ⊥) (λ unit. (unit ≡ row.0) × (image ≡ true) × (flag ≡ false) → ⊥) (λ unit. WasTaken (take (i + 1) rows) kept unit → ⊥) u v w
      (λ unit stays (has, off). stays (image_below rows i row rising is unit has, off))
      (λ unit stays (same, some, off). stays (
        ap (λ (q : ℕ). is_there (lookup (nat_eq q) (take (i + 1) rows))) same ∙ image_next rows i row rising is ∙ sym with_image ∙ some,
        ap (is_kept kept) same ∙ sym flagged ∙ off,
      )) back.units gives;
  freed = λ page (has, off) unnamed. ⊎_elim
      (λ (same : page ≡ row.0). ap (used_at w) same ∙ frees (with_image ∙ sym (image_next rows i row rising is) ∙ ap (λ (q : ℕ). is_there (lookup (nat_eq q) (take (i + 1) rows))) (sym same) ∙ has)
      (flagged ∙ ap (is_kept kept) (sym same) ∙ off) (omega (arith, back.units.refs row.0, ap (refs_at u) same, unnamed)))
      (λ (differ : page ≢ row.0). free_still _ v w gives page (back.freed page (ap is_there (sym (next_other rows i row rising is page differ)) ∙ has, off) unnamed)) (cases_eq page row.0);
}
  where
    some_none : Some row.1 ≡ None → ⊥
    some_none e = cc

    held_here : is_held new row.0 ≡ flag
    held_here = ap (λ (s : LoggedSet). is_held s row.0) set ∙ get_or-set_same mid row.0 flag false inside

    held_other : (p : ℕ) → p ≢ row.0 → is_held new p ≡ is_held mid p
    held_other p differ = ap (λ (s : LoggedSet). is_held s p) set ∙ get_or-set_other mid row.0 p flag false differ

-- ---- a commit

abbrev pub StaysSettled : List WorkingRow → List Bool → ℕ → Type 0
StaysSettled rows kept unit = (lookup (nat_eq unit) rows ≡ Some None) × (is_kept kept unit ≡ true) → ⊥

pub settled_next : (rows : List WorkingRow) (i : ℕ) (row : WorkingRow) (kept mid_kept now : List Bool) (u v w : UnitSet) (flag : Bool) → IsRising rows → slice_get rows i ≡ Some row
    → row.0 < length mid_kept → flag ≡ is_some row.1 → Settled (take i rows) kept mid_kept u v → now ≡ slice_set mid_kept row.0 flag
    → OnlyGives (λ unit. (unit ≡ row.0) × (flag ≡ false) × (is_kept mid_kept unit ≡ true) → ⊥) v w
    → (flag ≡ false → is_kept mid_kept row.0 ≡ true → refs_at v row.0 ≡ 0 → used_at w row.0 ≡ false)
    → Settled (take (i + 1) rows) kept now u w
settled_next rows i row kept mid_kept now u v w flag rising is inside flagged done set gives frees =
    let was = done.others row.0 (none_below rows i row rising is) in
    record {
      kept_len = ap (λ (l : List Bool). length l) set ∙ length-set mid_kept row.0 flag ∙ done.kept_len;
      images = λ page image has. ⊎_elim
          (λ (same : page ≡ row.0). kept_here page same ∙ flagged ∙ ap is_some (row_is page (Some image) same has))
          (λ (differ : page ≢ row.0). kept_other page differ ∙ done.images page image (sym (next_other rows i row rising is page differ) ∙ has)) (cases_eq page row.0);
      gone = λ page has. ⊎_elim
          (λ (same : page ≡ row.0). kept_here page same ∙ flagged ∙ ap is_some (row_is page None same has))
          (λ (differ : page ≢ row.0). kept_other page differ ∙ done.gone page (sym (next_other rows i row rising is page differ) ∙ has)) (cases_eq page row.0);
      others = λ page none. ⊎_elim
          (λ (same : page ≡ row.0). absurd (some_none (sym (next_here rows i row rising is) ∙ ap (λ (q : ℕ). lookup (nat_eq q) (take (i + 1) rows)) (sym same) ∙ none)))
          (λ (differ : page ≢ row.0). kept_other page differ ∙ done.others page (sym (next_other rows i row rising is page differ) ∙ none)) (cases_eq page row.0);
      units = gives_on (StaysSettled (take i rows) kept) (λ unit. (unit ≡ row.0) × (flag ≡ false) × (is_kept mid_kept unit ≡ true) → ⊥) (StaysSettled (take (i + 1) rows) kept) u v w
          (λ unit stays (gone, flag_is). stays (next_keeps rows i row rising is unit None gone, flag_is))
          (λ unit stays (same, no_image, flag_is). stays (
            ap (λ (q : ℕ). lookup (nat_eq q) (take (i + 1) rows)) same ∙ next_here rows i row rising is ∙ ap (λ (o : Option (List ℕ)). Some o) (none_from_test row.1 (sym flagged ∙ no_image)),
            ap (is_kept kept) same ∙ sym was ∙ ap (is_kept mid_kept) (sym same) ∙ flag_is,
          )) done.units gives;
      freed = λ page has left unnamed. ⊎_elim
          (λ (same : page ≡ row.0). ap (used_at w) same ∙ frees (flagged ∙ ap is_some (row_is page None same has)) (was ∙ ap (is_kept kept) (sym same) ∙ left)
          (omega (arith, done.units.refs row.0, ap (refs_at u) same, unnamed)))
          (λ (differ : page ≢ row.0). free_still _ v w gives page (done.freed page (sym (next_other rows i row rising is page differ) ∙ has) left unnamed)) (cases_eq page row.0);
    }
  where
    some_none : Some row.1 ≡ None → ⊥
    some_none e = cc

    row_is : (page : ℕ) (x : Option (List ℕ)) → page ≡ row.0 → lookup (nat_eq page) (take (i + 1) rows) ≡ Some x → row.1 ≡ x
    row_is page x same has = (let both : Some row.1 ≡ Some x = sym (next_here rows i row rising is) ∙ ap (λ (q : ℕ). lookup (nat_eq q) (take (i + 1) rows)) (sym same) ∙ has in cc (both))

    kept_here : (p : ℕ) → p ≡ row.0 → is_kept now p ≡ flag
    kept_here p same = ap (is_kept now) same ∙ ap (λ (l : List Bool). is_kept l row.0) set ∙ get_or-set_same mid_kept row.0 flag false inside

    kept_other : (p : ℕ) → p ≢ row.0 → is_kept now p ≡ is_kept mid_kept p
    kept_other p differ = ap (λ (l : List Bool). is_kept l p) set ∙ get_or-set_other mid_kept row.0 p flag false differ

-- ---- rows as they are lent

pub copied_some : (o : Option (Bor (List ℕ))) → is_some o ≡ is_some (option_copied o)
copied_some None = refl
copied_some (Some x) = refl

pub at_row : (P : WorkingRow → Type 0) (rows : List WorkingRow) (i : ℕ) (row : WorkingRow) → All P rows → slice_get rows i ≡ Some row → P row
at_row P rows i row all is = each_row rows i (each_of_all P rows all) is
  where
    each_row : (rs : List WorkingRow) (j : ℕ) → AllByRecursion P rs → slice_get rs j ≡ Some row → P row
    each_row [] j each e = absurd (cc)
    each_row (r ∷ rs) zero each e = (let same : r ≡ row = cc (e) in subst P same each.0)
    each_row (r ∷ rs) (suc j) each e = each_row rs j each.1 e

-- the page of a row lies in the page area
pub row_area : (meta : Overlays) → AreRows meta → (i page : ℕ) (image : Option (List ℕ)) → slice_get meta.working i ≡ Some (page, image) → InPageArea meta.geometry page
row_area meta rows i page image at = (at_row (IsWorkingRow meta.geometry) meta.working i (page, image) rows.working_pages at).0
