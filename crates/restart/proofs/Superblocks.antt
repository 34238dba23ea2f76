-- What a superblock on a disk says.
use Rattle.std.proofs.Common.{◌≡◌, ◌≤◌, ◌++◌, ◌^◌, ◌*◌, ℕ, List, [], length, take, drop, Some, append-nil, sym, ap, subst, ◌∙◌, arith}
use Rattle.std.proofs.Common.{Result, Err}
use Rattle.std.proofs.lemmas.List.{take_at}
use Rattle.ex_base.specs.declared.geometry.Geometry.{Geometry}
use Rattle.ex_base.specs.Bytes.{part}
use Rattle.ex_base.specs.Fields.{four_bytes, number_at, length-field_bytes}
use Rattle.ex_base.specs.Sizes.{volume_bytes, least_volume, least_page, most_page}
use Rattle.ex_base.specs.Superblock.{IsSuper, length-super_page}
use Rattle.ex_base.proofs.FieldLaws.{four_is}
use Rattle.ex_base.proofs.Places.{number_there}
use Rattle.disk_model.specs.Outside.{Outside, IsWorld}
use Rattle.session_views.specs.declared.OpenFault.{OpenFault}
use Rattle.session_views.specs.declared.OpenFault.TheVariants.{BadVolume}
use Rattle.session_views.specs.declared.Part.{Part}
use Rattle.session_views.specs.declared.Part.TheVariants.{Super}
use Rattle.volume_model.proofs.OneVolume.{same_super, super_fields, super_front}
use Rattle.volume_model.specs.Parts.{SuperOf, FirstBad}
use Rattle.restart.proofs.BadParts.{super_bad}

-- the number in the field of the page's size
pub page_size_on : (image : List ℕ) (g : Geometry) (field : List ℕ) → SuperOf image g → field ≡ part image 8 4 → number_at 4 field 0 ≡ g.page_size
unfolding part
page_size_on image g field super is =
    let whole = sym (super_fields super.spelled.format g (drop g.page_size image)) ∙ super_front image g super in
    let tail = ap (drop 8) whole in
    let there : field ≡ four_bytes g.page_size = is ∙ ap (take 4) (sym tail) ∙ take_at (four_bytes g.page_size) _ 4 (length-field_bytes 4 g.page_size) in
    number_there 4 (2 ^ 32) four_bytes four_is field [] 0 g.page_size (there ∙ sym (append-nil (four_bytes g.page_size))) (omega (arith, most_page g))

-- how long what a disk holds is
pub held_long : (w : Outside) (image : List ℕ) → IsWorld w → w.disk ≡ Some image → length image ≡ w.size
held_long w image world holds = world.whole image (world.held_may_stay image holds)

-- a disk that is too small for the least volume has no superblock
pub too_small : (image : List ℕ) (g : Geometry) → SuperOf image g → (258 * g.page_size ≤ length image) × (512 ≤ g.page_size) × (g.page_size ≤ 8192)
too_small image g super = (omega (arith, super.large, least_volume g), least_page g, most_page g)

-- a page that is no superblock
pub not_super : (image page : List ℕ) (size : ℕ) (g : Geometry) → SuperOf image g → size ≡ g.page_size → page ≡ part image 0 size → IsSuper page g
not_super image page size g super same is = subst (λ (s : List ℕ). IsSuper s g) (sym (is ∙ ap (λ (n : ℕ). part image 0 n) same)) super.spelled

-- the superblock of another geometry
pub same_page_same : (page : List ℕ) (a b : Geometry) → IsSuper page a → IsSuper page b → a ≡ b
same_page_same page a b one two = same_super _ _ a b [] [] (ap (λ (l : List ℕ). l ++ []) (sym one.spelled ∙ two.spelled))

pub is_super : (image page : List ℕ) (n : ℕ) (g : Geometry) → IsSuper page g → page ≡ part image 0 n → n ≡ length page → volume_bytes g ≤ length image → SuperOf image g
is_super image page n g is read long large = record {
  spelled = subst (λ (s : List ℕ). IsSuper s g) (sym (ap (λ (k : ℕ). part image 0 k) (sym (long ∙ ap length is.spelled ∙ length-super_page is.format g)) ∙ sym read)) is;
  large = large;
}

-- ---- answers

-- an answer that names a part
abbrev pub failed : (T : Type 0) → Part → Result T OpenFault
failed T part = Err (BadVolume part)

-- the first part is bad where no geometry fits
pub super_is_bad : (T : Type 0) (part : Part) (image : List ℕ) → failed T Super ≡ failed T part → ((g : Geometry) → SuperOf image g → ⊥) → FirstBad image part
super_is_bad T part image is none = let same : part ≡ Super = cc in subst (FirstBad image) (sym same) (super_bad image none)

-- a fault that is handed on
abbrev pub fault_of : (T : Type 0) → OpenFault → Result T OpenFault
fault_of T fault = Err fault

pub same_fault : (T : Type 0) (a b : OpenFault) → fault_of T a ≡ fault_of T b → a ≡ b
same_fault T a b is = cc

pub part_is_bad : (T : Type 0) (named part : Part) (image : List ℕ) → failed T named ≡ failed T part → FirstBad image named → FirstBad image part
part_is_bad T named part image is bad = let same : part ≡ named = cc in subst (FirstBad image) (sym same) bad
