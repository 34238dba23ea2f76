-- What is read in a superblock, and what is spelled by what is read.
use Rattle.std.proofs.Common.{◌≡◌, ℕ, ◌+◌, ◌-◌, ◌^◌, ◌≤◌, List, [], ◌++◌, length, take, drop, Some, None, refl, sym, ap, subst, ◌∙◌, arith}
use Rattle.std.proofs.lemmas.Bool.Decides.{nat_tests}
use Rattle.std.proofs.lemmas.List.{length-drop, take-append-drop}
use Rattle.byteorder.specs.Numbers.{big_number-reads_back}
use Rattle.ex_base.specs.declared.geometry.Geometry.{Geometry}
use Rattle.ex_base.specs.declared.geometry.GeometryFault.{GeometryFault}
use Rattle.ex_base.specs.Bytes.{IsBytes}
use Rattle.ex_base.specs.Fault.{first_fault}
use Rattle.ex_base.specs.Fields.{number_at, field_bytes, four_bytes, zeros, AreZero}
use Rattle.ex_base.specs.Sizes.{most_page}
use Rattle.ex_base.specs.Superblock.{magic, super_page, super_rest, IsFormat, IsSuper, length-super_page}
use Rattle.ex_base.proofs.FieldLaws.{four_is}
use Rattle.ex_base.proofs.Places.{number_spelled, zero_run, AreZero-as}

-- What a superblock shows in each of its fields.
pub record SuperReads (format : ℕ) (g : Geometry) (s : List ℕ) : Type 0 where
  pub long : length s ≡ g.page_size
  pub begins : take 8 s ≡ magic
  pub page_size : number_at 4 s 8 ≡ g.page_size
  pub pages : number_at 4 s 12 ≡ g.pages
  pub segs : number_at 4 s 16 ≡ g.segs
  pub seg_len : number_at 4 s 20 ≡ g.seg_len
  pub fan : number_at 4 s 24 ≡ g.fan
  pub number : number_at 4 s 28 ≡ format
  pub rest : AreZero (drop 32 s)

page_reads : (format : ℕ) (g : Geometry) → IsFormat format → SuperReads format g (super_page format g)
unfolding super_page super_rest field_bytes number_at
page_reads format g known = record {
  long = length-super_page format g;
  begins = refl;
  page_size = big_number-reads_back 4 g.page_size [] (omega (arith, most_page g));
  pages = big_number-reads_back 4 g.pages [] (omega (arith, g.few_pages));
  segs = big_number-reads_back 4 g.segs [] (omega (arith, g.few_segs));
  seg_len = big_number-reads_back 4 g.seg_len [] (omega (arith, g.short));
  fan = big_number-reads_back 4 g.fan [] (omega (arith, g.narrow, most_page g));
  number = big_number-reads_back 4 format [] (omega (arith, known.1));
  rest = AreZero-as (zeros (g.page_size - 32)) (g.page_size - 32) refl;
}

pub super_reads : (g : Geometry) (s : List ℕ) (is : IsSuper s g) → SuperReads is.format g s
super_reads g s is = subst (SuperReads is.format g) (sym is.spelled) (page_reads is.format g is.known)

-- the fields of a superblock one behind the other
pub fields_spelled : (s : List ℕ) → IsBytes s → 32 ≤ length s → AreZero (drop 32 s)
    → drop 8 s ≡ four_bytes (number_at 4 s 8) ++ (four_bytes (number_at 4 s 12) ++ (four_bytes (number_at 4 s 16) ++ (four_bytes (number_at 4 s 20) ++ (four_bytes (number_at 4 s 24) ++ (four_bytes (number_at 4 s 28) ++ zeros (length s - 32))))))
fields_spelled s bytes long zero =
    let field : (at next : ℕ) → at + 4 ≡ next → next ≤ 32 → drop at s ≡ four_bytes (number_at 4 s at) ++ drop next s =
    λ at next step low. number_spelled 4 (2 ^ 32) four_bytes four_is s at next bytes step (omega arith) in
    let rest : drop 32 s ≡ zeros (length s - 32) = zero_run (drop 32 s) zero ∙ ap zeros (length-drop 32 s) in
    let six = field 28 32 refl (omega arith) ∙ ap (λ (t : List ℕ). four_bytes (number_at 4 s 28) ++ t) rest in
    let five = field 24 28 refl (omega arith) ∙ ap (λ (t : List ℕ). four_bytes (number_at 4 s 24) ++ t) six in
    let four = field 20 24 refl (omega arith) ∙ ap (λ (t : List ℕ). four_bytes (number_at 4 s 20) ++ t) five in
    let three = field 16 20 refl (omega arith) ∙ ap (λ (t : List ℕ). four_bytes (number_at 4 s 16) ++ t) four in
    let two = field 12 16 refl (omega arith) ∙ ap (λ (t : List ℕ). four_bytes (number_at 4 s 12) ++ t) three in
    field 8 12 refl (omega arith) ∙ ap (λ (t : List ℕ). four_bytes (number_at 4 s 8) ++ t) two

-- what reads as a superblock is the superblock of what it shows
pub reads_super : (format : ℕ) (g : Geometry) (s : List ℕ) → IsBytes s → 32 ≤ length s → SuperReads format g s → s ≡ super_page format g
unfolding super_page super_rest field_bytes
reads_super format g s bytes long reads =
    let whole : take 8 s ++ drop 8 s ≡ magic ++ drop 8 s = ap (λ (t : List ℕ). t ++ drop 8 s) reads.begins in
    let rest = fields_spelled s bytes long reads.rest in
    sym (take-append-drop 8 s) ∙ whole ∙ ap (λ (t : List ℕ). magic ++ t) rest
    ∙ ap (λ (n : ℕ). magic ++ (four_bytes n ++ (four_bytes (number_at 4 s 12) ++ (four_bytes (number_at 4 s 16) ++ (four_bytes (number_at 4 s 20) ++ (four_bytes (number_at 4 s 24) ++ (four_bytes (number_at 4 s 28) ++ zeros (length s - 32)))))))) reads.page_size
    ∙ ap (λ (n : ℕ). magic ++ (four_bytes g.page_size ++ (four_bytes n ++ (four_bytes (number_at 4 s 16) ++ (four_bytes (number_at 4 s 20) ++ (four_bytes (number_at 4 s 24) ++ (four_bytes (number_at 4 s 28) ++ zeros (length s - 32)))))))) reads.pages
    ∙ ap (λ (n : ℕ). magic ++ (four_bytes g.page_size ++ (four_bytes g.pages ++ (four_bytes n ++ (four_bytes (number_at 4 s 20) ++ (four_bytes (number_at 4 s 24) ++ (four_bytes (number_at 4 s 28) ++ zeros (length s - 32)))))))) reads.segs
    ∙ ap (λ (n : ℕ). magic ++ (four_bytes g.page_size ++ (four_bytes g.pages ++ (four_bytes g.segs ++ (four_bytes n ++ (four_bytes (number_at 4 s 24) ++ (four_bytes (number_at 4 s 28) ++ zeros (length s - 32)))))))) reads.seg_len
    ∙ ap (λ (n : ℕ). magic ++ (four_bytes g.page_size ++ (four_bytes g.pages ++ (four_bytes g.segs ++ (four_bytes g.seg_len ++ (four_bytes n ++ (four_bytes (number_at 4 s 28) ++ zeros (length s - 32)))))))) reads.fan
    ∙ ap (λ (n : ℕ). magic ++ (four_bytes g.page_size ++ (four_bytes g.pages ++ (four_bytes g.segs ++ (four_bytes g.seg_len ++ (four_bytes g.fan ++ (four_bytes n ++ zeros (length s - 32)))))))) reads.number
    ∙ ap (λ (n : ℕ). magic ++ (four_bytes g.page_size ++ (four_bytes g.pages ++ (four_bytes g.segs ++ (four_bytes g.seg_len ++ (four_bytes g.fan ++ (four_bytes format ++ zeros (n - 32)))))))) reads.long

-- a geometry has no fault
pub no_fault : (g : Geometry) → first_fault g.page_size g.pages g.segs g.seg_len g.fan ≡ None
no_fault g =
    let size = g.a_page_size in
    let pages = g.some_pages in
    let few = g.few_pages in
    let segs = g.few_segs in
    let some = g.some_length in
    let short = g.short in
    let two = g.two in
    let narrow = g.narrow in
    grind (arith, nat_tests)

-- so a page whose numbers have a fault is no superblock
pub faulty : (g : Geometry) (s : List ℕ) (fault : GeometryFault) → IsSuper s g
    → first_fault (number_at 4 s 8) (number_at 4 s 12) (number_at 4 s 16) (number_at 4 s 20) (number_at 4 s 24) ≡ Some fault → ⊥
faulty g s fault is found =
    let reads = super_reads g s is in
    let none : first_fault (number_at 4 s 8) (number_at 4 s 12) (number_at 4 s 16) (number_at 4 s 20) (number_at 4 s 24) ≡ None =
    rw (reads.page_size, reads.pages, reads.segs, reads.seg_len, reads.fan) (no_fault g) in
    cc (none, found)
