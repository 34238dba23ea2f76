-- An image that agrees with a disk on the bytes that no crash may change decodes as the disk does.
use Rattle.std.proofs.Common.{◌≡◌, inl, inr, ℕ, ◌+◌, ◌-◌, ◌*◌, ◌<◌, ◌≤◌, Bool, true, false, cond, ltb, List, length, drop, slice_index, min, Option, Some, None, refl, sym, subst, ◌∙◌, arith}
use Rattle.std.specs.Prelude.{Contains, unwrap_or}
use Rattle.std.proofs.lemmas.Bool.{ltb-true, ltb-false}
use Rattle.std.proofs.lemmas.List.{ext_get_or, length-take, length-drop}
use Rattle.ex_base.specs.Area.{area_end, page_at, leaf_at}
use Rattle.ex_base.specs.Bytes.{part, get-part}
use Rattle.ex_base.specs.Sizes.{volume_bytes, least_volume, leaf_bytes}
use Rattle.ex_base.specs.Superblock.{IsSuper}
use Rattle.ex_base.proofs.Each.{each_from}
use Rattle.op_log.specs.AfterLog.{logged, after_log}
use Rattle.op_log.specs.Gates.{front_of, front_kept, says_of}
use Rattle.op_log.specs.Log.{SaysLog}
use Rattle.trees.proofs.SameUnits.{Kept}
use Rattle.volume_model.specs.Durable.{Agrees}
use Rattle.volume_model.specs.Parts.{SuperOf, Decodes, StandsFor}
use Rattle.volume_model.specs.SameVolume.{kept_from_reach, parts_kept, table_kept}
use Rattle.volume_model.specs.Volume.{Decoded, units_of, reach_of, table_of}

length-part_within : (l : List ℕ) (at n : ℕ) → length (part l at n) ≡ min n (length l - at)
unfolding part
length-part_within l at n = omega (arith, length-take n (drop at l), length-drop at l)

-- two lists of one length have the same part where their bytes there are the same
pub same_part : (b c : List ℕ) (p n : ℕ) → length b ≡ length c → ((i : ℕ) → p ≤ i → i < p + n → slice_index b i ≡ slice_index c i) → part b p n ≡ part c p n
same_part b c p n long same =
    let one = length-part_within b p n in
    let other = length-part_within c p n in
    ext_get_or 0 (part b p n) (part c p n) (omega (arith, one, other, long))
    (λ i lt. let inside : i < n = omega (arith, lt, one) in get-part b p n i inside ∙ same (p + i) (omega arith) (omega (arith, inside)) ∙ sym (get-part c p n i inside))

pub either_way : {A : Type 0} (b : Bool) (x y u v : A) → (b ≡ true → x ≡ u) → (b ≡ false → y ≡ v) → cond b x y ≡ cond b u v
either_way true x y u v f g = f refl
either_way false x y u v f g = g refl

pub from_home : (logged : Option (List ℕ)) (a b : List ℕ) → (logged ≡ None → a ≡ b) → unwrap_or logged a ≡ unwrap_or logged b
from_home None a b h = h refl
from_home (Some image) a b h = refl

reach_kept : (d : Decoded) (disk image : List ℕ) → Agrees d disk image → Kept (units_of d disk) (units_of d image) (reach_of (units_of d disk) d.volume)
reach_kept d disk image agrees = each_from (λ u. units_of d image u ≡ units_of d disk u) (reach_of (units_of d disk) d.volume) (λ u reached.
    either_way (ltb u (area_end d.geometry)) (after_log d.geometry d.records image u) (leaf_at d.geometry image u) (after_log d.geometry d.records disk u) (leaf_at d.geometry disk u)
    (λ e. from_home (logged d.records u) (page_at d.geometry image u) (page_at d.geometry disk u) (λ none. home u reached (ltb-true u (area_end d.geometry) e) none))
    (λ e. leaf u reached (ltb-false u (area_end d.geometry) e)))
  where
    home : (u : ℕ) → Contains (reach_of (units_of d disk) d.volume) u → u < area_end d.geometry → logged d.records u ≡ None → page_at d.geometry image u ≡ page_at d.geometry disk u
    home u reached is_page none =
        same_part image disk (u * d.geometry.page_size) d.geometry.page_size agrees.size
        (λ i from to. agrees.each i (inr (inl (record { page = u; reached = reached; is_page = is_page; at_home = none; inside = (from, to) }))))

    leaf : (u : ℕ) → Contains (reach_of (units_of d disk) d.volume) u → area_end d.geometry ≤ u → leaf_at d.geometry image u ≡ leaf_at d.geometry disk u
    leaf u reached is_leaf =
        same_part image disk (u * d.geometry.page_size) (leaf_bytes d.geometry) agrees.size
        (λ i from to. agrees.each i (inr (inr (record { leaf = u; reached = reached; is_leaf = is_leaf; inside = (from, to) }))))

log_kept : (d : Decoded) (disk image : List ℕ) → Agrees d disk image → volume_bytes d.geometry ≤ length disk → SaysLog d.geometry d.records disk → SaysLog d.geometry d.records image
log_kept d disk image agrees large says =
    let front = front_of d.geometry d.records disk (omega (arith, large, least_volume d.geometry)) says in
    says_of d.geometry d.records image says.each says.follow (front_kept d.geometry d.records disk image agrees.size (λ i from to. agrees.each i (inl (omega (arith, to)))) front)

super_kept : (d : Decoded) (disk image : List ℕ) → Agrees d disk image → SuperOf disk d.geometry → SuperOf image d.geometry
super_kept d disk image agrees super = record {
  spelled = subst (λ (page : List ℕ). IsSuper page d.geometry) (sym (same_part image disk 0 d.geometry.page_size agrees.size (λ i from to. agrees.each i (inl (omega (arith, to)))))) super.spelled;
  large = omega (arith, super.large, agrees.size);
}

pub agrees_decodes : (d : Decoded) (disk image : List ℕ) → Decodes disk d → Agrees d disk image → Decodes image d
agrees_decodes d disk image (super, (log, content)) agrees =
    let kept = kept_from_reach (units_of d disk) (units_of d image) d.volume (reach_kept d disk image agrees) in
    (super_kept d disk image agrees super, (record { says = log_kept d disk image agrees super.large log.says; apply = log.apply }, parts_kept d.geometry d.records (units_of d disk) (units_of d image) d.volume kept content))

pub agrees_table : (d : Decoded) (disk image : List ℕ) → Agrees d disk image → table_of (units_of d image) d.volume ≡ table_of (units_of d disk) d.volume
agrees_table d disk image agrees = table_kept (units_of d disk) (units_of d image) d.volume (kept_from_reach (units_of d disk) (units_of d image) d.volume (reach_kept d disk image agrees))

-- Such an image stands for the disk's table.
pub agrees_stands : (disk image : List ℕ) (d : Decoded) → Decodes disk d → Agrees d disk image → StandsFor image (table_of (units_of d disk) d.volume)
agrees_stands disk image d parts agrees = record { decoded = d; parts = agrees_decodes d disk image parts agrees; same = sym (agrees_table d disk image agrees) }
