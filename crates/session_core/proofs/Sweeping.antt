-- The pages that a transaction gave back, freed at the end of an update.
use Rattle.std.proofs.Common.{◌≡◌, ◌≢◌, ◌∙◌, ◌+◌, ⊎_elim, ℕ, Bool, false, List, take, Option, Some, None, is_some, nat_eq, slice_get, sym, ap, arith}
use Rattle.std.specs.Map.{lookup}
use Rattle.std.proofs.lemmas.Bool.{cases_eq}
use Rattle.ex_base.proofs.Options.{none_from_test}
use Rattle.meta_pages.specs.Rows.{IsRising}
use Rattle.page_alloc.specs.UnitSet.{UnitSet, refs_at, used_at}
use Rattle.volume_model.specs.Held.{WorkingRow}
use Rattle.session_core.specs.Sessions.{OnlyGives, Swept, WasGivenBack, is_kept}
use Rattle.session_core.proofs.Settling.{free_still, gives_on}
use Rattle.volume_port.proofs.FirstRows.{next_here, next_keeps, next_other}

pub swept_next : (rows : List WorkingRow) (i : ℕ) (row : WorkingRow) (kept : List Bool) (u v w : UnitSet) (image flag : Bool) → IsRising rows → slice_get rows i ≡ Some row
    → image ≡ is_some row.1 → flag ≡ is_kept kept row.0 → Swept (take i rows) kept u v
    → OnlyGives (λ unit. (unit ≡ row.0) × (image ≡ false) × (flag ≡ false) → ⊥) v w
    → (image ≡ false → flag ≡ false → refs_at v row.0 ≡ 0 → used_at w row.0 ≡ false) → Swept (take (i + 1) rows) kept u w
swept_next rows i row kept u v w image flag rising is with_image flagged so_far gives frees = record {
  units = gives_on (λ unit. WasGivenBack (take i rows) kept unit → ⊥) (λ unit. (unit ≡ row.0) × (image ≡ false) × (flag ≡ false) → ⊥) (λ unit. WasGivenBack (take (i + 1) rows) kept unit → ⊥) u v w
      (λ unit stays (gone, off). stays (next_keeps rows i row rising is unit None gone, off))
      (λ unit stays (same, none, off). stays (
        ap (λ (q : ℕ). lookup (nat_eq q) (take (i + 1) rows)) same ∙ next_here rows i row rising is ∙ ap (λ (o : Option (List ℕ)). Some o) (none_from_test row.1 (sym with_image ∙ none)),
        ap (is_kept kept) same ∙ sym flagged ∙ off,
      )) so_far.units gives;
  freed = λ page (gone, off) unnamed. ⊎_elim
      (λ (same : page ≡ row.0). ap (used_at w) same ∙ frees (with_image ∙ ap is_some (row_is page None same gone)) (flagged ∙ ap (is_kept kept) (sym same) ∙ off)
      (omega (arith, so_far.units.refs row.0, ap (refs_at u) same, unnamed)))
      (λ (differ : page ≢ row.0). free_still _ v w gives page (so_far.freed page (sym (next_other rows i row rising is page differ) ∙ gone, off) unnamed)) (cases_eq page row.0);
}
  where
    row_is : (page : ℕ) (x : Option (List ℕ)) → page ≡ row.0 → lookup (nat_eq page) (take (i + 1) rows) ≡ Some x → row.1 ≡ x
    row_is page x same has = (let both : Some row.1 ≡ Some x = sym (next_here rows i row rising is) ∙ ap (λ (q : ℕ). lookup (nat_eq q) (take (i + 1) rows)) (sym same) ∙ has in cc (both))
