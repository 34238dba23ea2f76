-- The flags of a session's logged pages go on being those of its pages.
use Rattle.std.proofs.Common.{◌≡◌, ◌≢◌, ◌∙◌, ℕ, Bool, true, false, List, [], Option, Some, None, nat_eq, refl, sym, ap, inl, inr, ⊎_elim, arith}
use Rattle.std.specs.Map.{lookup}
use Rattle.std.specs.Cmp as cmp
use Rattle.std.proofs.lemmas.Bool.{cases_eq, both_ways}
use Rattle.ex_base.specs.declared.geometry.Geometry.{Geometry}
use Rattle.ex_base.specs.Area.{catalog_no}
use Rattle.ex_base.proofs.Options.{some_apart_inside}
use Rattle.meta_pages.specs.Rows.{with_row}
use Rattle.page_alloc.specs.UnitSet.{UnitSet, refs_at, used_at}
use Rattle.tree_store.specs.Stored.{IsCounted}
use Rattle.volume_model.specs.Shown.{WorkingRow}
use Rattle.volume_port.specs.Logged.{LoggedSet, is_held}
use Rattle.volume_port.proofs.WorkingRows.{put_here, put_other}
use Rattle.session_core.specs.Sessions.{ArePagesUsed, IsTracked, OnlyGives, Settled, TakenBack, is_kept, is_there}

some_none : (x : Option (List ℕ)) → Some x ≡ None → ⊥
some_none x e = cc

-- a row, or none, or one that was given back
pub data RowOf (o : Option (Option (List ℕ))) : Type 0 where
  has_image : (image : List ℕ) → o ≡ Some (Some image) → RowOf o
  is_gone : o ≡ Some None → RowOf o
  has_none : o ≡ None → RowOf o

pub row_of : (o : Option (Option (List ℕ))) → RowOf o
row_of None = has_none refl
row_of (Some None) = is_gone refl
row_of (Some (Some image)) = has_image image refl

module _ (g : Geometry) (rows : List WorkingRow) (pages : LoggedSet) (kept : List Bool) (is : IsTracked g rows pages kept) where
  -- a working image of the catalog
  pub tracked_put : (page : List ℕ) → IsTracked g (with_row catalog_no (Some page) rows) pages kept
  tracked_put page = record {
    held_len = is.held_len;
    kept_len = is.kept_len;
    catalog = is.catalog;
    catalog_kept = is.catalog_kept;
    images = λ p image has. ⊎_elim
        (λ (same : p ≡ catalog_no). ap (is_held pages) same ∙ is.catalog)
        (λ (differ : p ≢ catalog_no). is.images p image (sym (put_other catalog_no (Some page) rows p (λ e. differ (sym e))) ∙ has)) (cases_eq p catalog_no);
    gone = λ p has. ⊎_elim
        (λ (same : p ≡ catalog_no). absurd (some_apart_inside page (sym (put_here catalog_no (Some page) rows) ∙ ap (λ (q : ℕ). lookup (nat_eq q) (with_row catalog_no (Some page) rows)) (sym same) ∙ has)))
        (λ (differ : p ≢ catalog_no). is.gone p (sym (put_other catalog_no (Some page) rows p (λ e. differ (sym e))) ∙ has)) (cases_eq p catalog_no);
    known = λ p flag. ⊎_elim
        (λ (same : p ≡ catalog_no). inl (ap (is_held pages) same ∙ is.catalog))
        (λ (differ : p ≢ catalog_no). ⊎_elim (λ held. inl held) (λ gone. inr (put_other catalog_no (Some page) rows p (λ e. differ (sym e)) ∙ gone)) (is.known p flag)) (cases_eq p catalog_no);
    untouched = λ p held none. ⊎_elim
        (λ (same : p ≡ catalog_no). ap (is_kept kept) same ∙ is.catalog_kept)
        (λ (differ : p ≢ catalog_no). is.untouched p held (sym (put_other catalog_no (Some page) rows p (λ e. differ (sym e))) ∙ none)) (cases_eq p catalog_no);
  }

  -- what was given back is still so, after it
  pub gone_put : (page : List ℕ) (p : ℕ) → lookup (nat_eq p) rows ≡ Some None → lookup (nat_eq p) (with_row catalog_no (Some page) rows) ≡ Some None
  gone_put page p gone = ⊎_elim
      (λ (same : p ≡ catalog_no). absurd (both_ways _ (is.gone p gone) (ap (is_held pages) same ∙ is.catalog)))
      (λ (differ : p ≢ catalog_no). put_other catalog_no (Some page) rows p (λ e. differ (sym e)) ∙ gone) (cases_eq p catalog_no)

  -- where a page has no row it is there exactly where the committed state has it
  pub same_flags : (p : ℕ) → lookup (nat_eq p) rows ≡ None → is_held pages p ≡ is_kept kept p
  same_flags p none = cmp.both_ways (is_held pages p) (is_kept kept p) (λ held. is.untouched p held none)
      (λ flag. ⊎_elim (λ held. held) (λ gone. absurd (some_none None (sym gone ∙ none))) (is.known p flag))

  -- ---- an abort

  module _ (new : LoggedSet) (u v : UnitSet) (back : TakenBack rows kept pages new u v) where
    pub held_back : (p : ℕ) → is_held new p ≡ is_kept kept p
    held_back p = elim (row_of (lookup (nat_eq p) rows)) [
      | has_image image is_row ↦ back.touched p (Some image) is_row
      | is_gone is_row ↦ back.touched p None is_row
      | has_none none ↦ back.others p none ∙ same_flags p none
    ]

    -- each page that the committed state hasn't is free
    pub freed_back : (p : ℕ) → is_held pages p ≡ true → is_kept kept p ≡ false → refs_at u p ≡ 0 → used_at v p ≡ false
    freed_back p held off unnamed = elim (row_of (lookup (nat_eq p) rows)) [
      | has_image image is_row ↦ back.freed p (ap is_there is_row, off) unnamed
      | is_gone is_row ↦ absurd (both_ways _ (is.gone p is_row) held)
      | has_none none ↦ absurd (both_ways _ off (is.untouched p held none))
    ]

    pub tracked_back : IsTracked g [] new kept
    tracked_back = record {
      held_len = back.held_len ∙ is.held_len;
      kept_len = is.kept_len;
      catalog = held_back catalog_no ∙ is.catalog_kept;
      catalog_kept = is.catalog_kept;
      images = λ p image has. absurd (some_none (Some image) (sym has));
      gone = λ p has. absurd (some_none None (sym has));
      known = λ p flag. inl (held_back p ∙ flag);
      untouched = λ p held none. sym (held_back p) ∙ held;
    }

    -- a page that is there again is one of the committed state, which stayed used
    pub used_back : ArePagesUsed (used_at u) pages kept → ArePagesUsed (used_at v) new kept
    used_back was =
        let stays : (p : ℕ) → is_kept kept p ≡ true → used_at v p ≡ true = λ p flag. back.units.stays p (was.committed p flag) (λ (_, off). both_ways _ off flag) in
        record { working = λ p held. stays p (sym (held_back p) ∙ held); committed = stays }

  -- ---- a commit

  module _ (now : List Bool) (u v : UnitSet) (done : Settled rows kept now u v) where
    pub kept_settled : (p : ℕ) → is_kept now p ≡ is_held pages p
    kept_settled p = elim (row_of (lookup (nat_eq p) rows)) [
      | has_image image is_row ↦ done.images p image is_row ∙ sym (is.images p image is_row)
      | is_gone is_row ↦ done.gone p is_row ∙ sym (is.gone p is_row)
      | has_none none ↦ done.others p none ∙ sym (same_flags p none)
    ]

    pub tracked_settled : IsTracked g [] pages now
    tracked_settled = record {
      held_len = is.held_len;
      kept_len = done.kept_len ∙ is.kept_len;
      catalog = is.catalog;
      catalog_kept = kept_settled catalog_no ∙ is.catalog;
      images = λ p image has. absurd (some_none (Some image) (sym has));
      gone = λ p has. absurd (some_none None (sym has));
      known = λ p flag. inl (sym (kept_settled p) ∙ flag);
      untouched = λ p held none. kept_settled p ∙ held;
    }

    -- a page that is there was not given back
    pub used_settled : ArePagesUsed (used_at u) pages kept → ArePagesUsed (used_at v) pages now
    used_settled was =
        let stays : (p : ℕ) → is_held pages p ≡ true → used_at v p ≡ true = λ p held. done.units.stays p (was.working p held) (λ (gone, flag). both_ways _ (is.gone p gone) held) in
        record { working = stays; committed = λ p flag. stays p (sym (kept_settled p) ∙ flag) }

pub counted_gives : (g : Geometry) (stays : ℕ → Type 0) (u v : UnitSet) → IsCounted g u → OnlyGives stays u v → IsCounted g v
counted_gives g stays u v is gives = record {
  geometry = gives.geometry ∙ is.geometry;
  named = λ p used. is.named p (gives.used p used);
  owned = λ p some. gives.owned p (is.owned p (omega (arith, some, gives.refs p))) some;
  few = λ p. omega (arith, gives.refs p, is.few p);
}
