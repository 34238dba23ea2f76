-- A session on a volume in which no transaction was opened yet.
use Rattle.std.proofs.Common.{◌≡◌, ◌≤◌, ℕ, Bool, true, List, [], length, ap, sym, subst, inl, arith}
use Rattle.ex_base.specs.declared.geometry.Geometry.{Geometry}
use Rattle.ex_base.specs.Area.{area_end, catalog_no}
use Rattle.volume_model.specs.Shown.{WorkingRow}
use Rattle.volume_port.specs.Logged.{LoggedSet, is_held}
use Rattle.session_core.specs.Sessions.{IsTracked}

-- an empty list is short
pub few_none : {A : Type 0} (xs : List A) (n : ℕ) → xs ≡ [] → length xs ≤ n
few_none xs n none = omega (arith, ap (λ (l : List _). length l) none)

-- where no page is touched, the working pages are the committed ones
pub untouched_tracked : (g : Geometry) (rows : List WorkingRow) (pages : LoggedSet) (kept : List Bool) → rows ≡ [] → kept ≡ pages → length pages ≡ area_end g → is_held pages catalog_no ≡ true → IsTracked g rows pages kept
untouched_tracked g rows pages kept none same len has =
    subst (λ (l : List WorkingRow). IsTracked g l pages kept) (sym none) (subst (λ (flags : List Bool). IsTracked g [] pages flags) (sym same) (record {
      held_len = len;
      kept_len = len;
      catalog = has;
      catalog_kept = has;
      images = λ page image there. absurd (cc);
      gone = λ page there. absurd (cc);
      known = λ page flag. inl flag;
      untouched = λ page here unnamed. here;
    }))
