-- Which bytes a page has, and what stays where other bytes change.
use Rattle.std.proofs.Common.{◌≡◌, ◌≤◌, ◌<◌, ◌+◌, ◌*◌, ℕ, suc, ⊎_elim, List, refl, sym, ◌∙◌, arith, lt-ltb, le-ltb}
use Rattle.std.proofs.Math.Nat.{suc-mul, mul-le-mul_right}
use Rattle.std.proofs.lemmas.Bool.{cases_lt}
use Rattle.ex_base.specs.declared.geometry.Geometry.{Geometry}
use Rattle.ex_base.specs.Area.{catalog_no, area_end, page_at, leaf_at}
use Rattle.ex_base.specs.Bytes.{Apart}
use Rattle.ex_base.specs.Sizes.{leaf_bytes}
use Rattle.disk_model.specs.Changes.{InRange, SameBut}
use Rattle.trees.specs.Trees.{units_from}
use Rattle.volume_model.specs.CrashImage.{same_part}

-- a page that isn't before another begins at its first byte or behind it
pub begins_behind : (size low page : ℕ) → low ≤ page → low * size ≤ page * size
begins_behind size low page le = mul-le-mul_right {m = low} {n = page} size le

-- and one that is before it ends there
pub ends_before : (size page end : ℕ) → page < end → page * size + size ≤ end * size
ends_before size page end lt = omega (arith, suc-mul page size, mul-le-mul_right {m = suc page} {n = end} size lt)

pub not_in_both : (p m q n i : ℕ) → Apart p m q n → InRange p m i → InRange q n i → ⊥
not_in_both p m q n i apart one two = ⊎_elim (λ (before : p + m ≤ q). absurd (omega (arith, before, one.1, two.0))) (λ (behind : q + n ≤ p). absurd (omega (arith, behind, one.0, two.1))) apart

-- a byte of a page from the catalog on is behind the log
pub behind_log : (size page i : ℕ) → catalog_no ≤ page → page * size ≤ i → 257 * size ≤ i
behind_log size page i le at = omega (arith, begins_behind size catalog_no page le, at)

-- a page or a leaf where nothing was changed
pub page_stays : (g : Geometry) (R : ℕ → Type 0) (disk image : List ℕ) (page : ℕ) → SameBut R disk image → ((i : ℕ) → InRange (page * g.page_size) g.page_size i → R i → ⊥) → page_at g image page ≡ page_at g disk page
page_stays g R disk image page same apart = same_part image disk (page * g.page_size) g.page_size same.same_length (λ i from to. same.each i (apart i (from, to)))

pub leaf_stays : (g : Geometry) (R : ℕ → Type 0) (disk image : List ℕ) (page : ℕ) → SameBut R disk image → ((i : ℕ) → InRange (page * g.page_size) (leaf_bytes g) i → R i → ⊥) → leaf_at g image page ≡ leaf_at g disk page
leaf_stays g R disk image page same apart = same_part image disk (page * g.page_size) (leaf_bytes g) same.same_length (λ i from to. same.each i (apart i (from, to)))

-- a unit of the page area is a page, any other is a leaf
pub unit_page : (g : Geometry) (pages : ℕ → List ℕ) (disk : List ℕ) (unit : ℕ) → unit < area_end g → units_from g pages disk unit ≡ pages unit
unit_page g pages disk unit lt = let e = lt-ltb unit (area_end g) lt in rw e refl

pub unit_leaf : (g : Geometry) (pages : ℕ → List ℕ) (disk : List ℕ) (unit : ℕ) → area_end g ≤ unit → units_from g pages disk unit ≡ leaf_at g disk unit
unit_leaf g pages disk unit le = let e = le-ltb unit (area_end g) le in rw e refl

-- two units that are the same as pages and as leaves
pub same_unit : (g : Geometry) (old new : ℕ → List ℕ) (disk image : List ℕ) (unit : ℕ) → (unit < area_end g → new unit ≡ old unit) → (area_end g ≤ unit → leaf_at g image unit ≡ leaf_at g disk unit)
    → units_from g new image unit ≡ units_from g old disk unit
same_unit g old new disk image unit page leaf =
    ⊎_elim (λ (lt : unit < area_end g). unit_page g new image unit lt ∙ page lt ∙ sym (unit_page g old disk unit lt))
    (λ (le : area_end g ≤ unit). unit_leaf g new image unit le ∙ leaf le ∙ sym (unit_leaf g old disk unit le)) (cases_lt unit (area_end g))
