-- A volume in memory after a write.
use Rattle.std.proofs.Common.{◌≡◌, ◌≢◌, ◌≤◌, ◌+◌, ◌*◌, ℕ, zero, suc, Bool, true, false, List, [], ◌++◌, length, take, drop, refl, sym, ap, subst, ◌∙◌, arith, take_all, replicate, ⊎_elim}
use Rattle.std.proofs.Math.Nat.{mul-le-mul_right, suc-mul}
use Rattle.std.proofs.lemmas.Bool.{cases_Bool, both_ways}
use Rattle.std.proofs.lemmas.List.{append-nil, drop_all}
use Rattle.ex_base.specs.declared.geometry.Geometry.{Geometry}
use Rattle.ex_base.specs.Area.{InPageArea, area_end, catalog_no}
use Rattle.ex_base.specs.Bytes.{Apart, part, repl, part-repl, repl_same_outside}
use Rattle.buffer_groups.proofs.Kept.{part_apart, pages_apart}
use Rattle.page_alloc.specs.UnitSet.{UnitSet, used_at}
use Rattle.tree_store.specs.Stored.{IsCounted}
use Rattle.memory_ports.specs.InMemory.{AreInUse, Follows, flag_in, image_in}

-- a list that was written back whole
pub written_back : (xs ys : List ℕ) (n : ℕ) → length ys ≡ length xs → length xs ≡ n → take n (ys ++ drop (length ys) xs) ≡ ys
written_back xs ys n same len =
    let none : drop (length ys) xs ≡ [] = drop_all (length ys) xs (omega (arith, same)) in
    ap (λ (l : List ℕ). take n (ys ++ l)) none ∙ ap (take n) (append-nil ys) ∙ take_all n ys (omega (arith, same, len))

-- the parts keep their lengths and the units their counts, and each page whose flag is set is used still
pub follows_on_parts : (g : Geometry) (u v : UnitSet) (a b images later : List ℕ) (flags set : List Bool) → (IsCounted g u → IsCounted g v)
    → length b ≡ length a → length later ≡ length images → length set ≡ length flags
    → flag_in set catalog_no ≡ flag_in flags catalog_no → (AreInUse u flags → AreInUse v set) → Follows g g u v a b images later flags set
follows_on_parts g u v a b images later flags set counted bytes_len images_len flags_len catalog in_use = record {
  geometry = refl;
  ready = λ is. record {
    counted = counted is.counted;
    bytes_len = bytes_len ∙ is.bytes_len;
    images_len = images_len ∙ is.images_len;
    flags_len = flags_len ∙ is.flags_len;
    catalog = catalog ∙ is.catalog;
    in_use = in_use is.in_use;
  };
}

-- where the flags stay, and the used units go on being used
pub follows_on_units : (g : Geometry) (u v : UnitSet) (a b images later : List ℕ) (flags : List Bool) → (IsCounted g u → IsCounted g v)
    → length b ≡ length a → length later ≡ length images → ((p : ℕ) → used_at u p ≡ true → used_at v p ≡ true) → Follows g g u v a b images later flags flags
follows_on_units g u v a b images later flags counted bytes_len images_len used =
    follows_on_parts g u v a b images later flags flags counted bytes_len images_len refl refl (λ is p set. used p (is p set))

-- no flag of a fresh list is set
pub none_set : (n p : ℕ) → flag_in (replicate n false) p ≡ false
none_set zero p = refl
none_set (suc n) zero = refl
none_set (suc n) (suc p) = none_set n p

-- a page that is not used has no flag
pub free_unset : (u : UnitSet) (flags : List Bool) (p : ℕ) → AreInUse u flags → used_at u p ≡ false → flag_in flags p ≡ false
free_unset u flags p is free = ⊎_elim (λ set. absurd (both_ways _ free (is p set))) (λ unset. unset) (cases_Bool (flag_in flags p))

-- a page's image lies inside the images
pub image_fits : (g : Geometry) (p n size : ℕ) → InPageArea g p → n ≡ g.page_size → size ≡ area_end g * g.page_size → p * g.page_size + n ≤ size
image_fits g p n size area is len =
    let h : suc p * g.page_size ≤ area_end g * g.page_size = mul-le-mul_right g.page_size (omega (arith, area.1)) in
    omega (arith, is, suc-mul p g.page_size, h, len)

pub image_put : (g : Geometry) (p : ℕ) (images x : List ℕ) → length x ≡ g.page_size → p * g.page_size + length x ≤ length images → image_in g (repl images (p * g.page_size) x) p ≡ x
image_put g p images x len fits = ap (part (repl images (p * g.page_size) x) (p * g.page_size)) (sym len) ∙ part-repl images (p * g.page_size) x fits

pub image_stays : (g : Geometry) (p q : ℕ) (images x : List ℕ) → q ≢ p → length x ≡ g.page_size → p * g.page_size + length x ≤ length images
    → image_in g (repl images (p * g.page_size) x) q ≡ image_in g images q
image_stays g p q images x differ len fits =
    part_apart (p * g.page_size) (length x) images (repl images (p * g.page_size) x) (q * g.page_size) g.page_size (repl_same_outside images (p * g.page_size) x fits)
    (subst (λ n. Apart (q * g.page_size) g.page_size (p * g.page_size) n) (sym len) (pages_apart g.page_size p q differ))
