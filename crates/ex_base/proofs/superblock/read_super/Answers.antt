use Rattle.std.proofs.Common.{◌≡◌, sym, ◌∙◌, List, ℕ, ◌-◌, length, take, drop, Some, refl, subst, arith}
use Rattle.std.proofs.lemmas.List.{take_all, length-drop}
use Rattle.ex_base.specs.Bytes.{IsBytes}
use Rattle.ex_base.specs.Fault.{first_fault}
use Rattle.ex_base.specs.Fields.{AreZero, number_at}
use Rattle.ex_base.specs.Sizes.{least_page}
use Rattle.ex_base.specs.Superblock.{IsFormat}
use Rattle.ex_base.proofs.Supers.{SuperReads, super_reads, reads_super, faulty}
use Rattle.ex_base.proofs.superblock.read_super.Goals as goal
use Rattle.ex_base.proofs.superblock.read_super.Goals.{then-page-lt-HEAD-via-then-page-lt-HEAD, then-page-lt-HEAD-via-else-page-lt-HEAD+then-not-has_magic, then-page-lt-HEAD-via-else-page-lt-HEAD+else-not-has_magic+then-not-is_format, then-page-page_size-via-then-page-page_size, then-page-page_size-via-else-page-page_size+then-not-is_zero}

-- the slice behind the head is what stands behind the head
tail_is : (s : List ℕ) → take (length s - 32) (drop 32 s) ≡ drop 32 s
tail_is s = take_all (length s - 32) (drop 32 s) (omega (arith, length-drop 32 s))

pub returns-then-page-lt-HEAD-clause-none : goal.returns-then-page-lt-HEAD-clause-none
returns-then-page-lt-HEAD-clause-none c g is =
    let reads = super_reads g c.args.page.now is in
    elim c.then-page-lt-HEAD.branch [
      | then-page-lt-HEAD-via-then-page-lt-HEAD w ↦ absurd (omega (arith, w.if-page-lt-HEAD.true, reads.long, least_page g))
      | then-page-lt-HEAD-via-else-page-lt-HEAD+then-not-has_magic w ↦ let no_magic = w.has_magic.ensures.1 reads.begins in let none = w.if-not-has_magic.true in cc
      | then-page-lt-HEAD-via-else-page-lt-HEAD+else-not-has_magic+then-not-is_format w ↦ let known = w.is_format.ensures.1 (subst IsFormat (sym (w.get_u32.ensures ∙ reads.number)) is.known) in let other = w.if-not-is_format.true in cc
    ]

pub returns-then-page-page_size-clause-none : goal.returns-then-page-page_size-clause-none
returns-then-page-page_size-clause-none c g is =
    let reads = super_reads g c.args.page.now is in
    elim c.then-page-page_size.branch [
      | then-page-page_size-via-then-page-page_size w ↦ absurd (w.if-page-page_size.true (reads.long ∙ sym (c.get_u32-page_size.ensures ∙ reads.page_size)))
      | then-page-page_size-via-else-page-page_size+then-not-is_zero w ↦ let zero = w.is_zero.ensures.1 (subst AreZero (sym (tail_is c.args.page.now)) reads.rest) in let other = w.if-not-is_zero.true in cc
    ]

pub returns-in-Ok-clause-found : goal.returns-in-Ok-clause-found
returns-in-Ok-clause-found c =
    let g = c.in-Ok.geometry in
    let bytes : IsBytes c.args.page.now = λ i. omega (arith, c.type_inv.page i) in
    let reads : SuperReads (number_at 4 c.args.page.now 28) c.in-Ok.geometry c.args.page.now = record {
      long = c.if-page-page_size.false ∙ sym c.in-Ok.ensures.page_size;
      begins = c.if-not-has_magic.ensures.0 refl;
      page_size = sym (c.in-Ok.ensures.page_size ∙ c.get_u32-page_size.ensures);
      pages = sym (c.in-Ok.ensures.pages ∙ c.get_u32-pages.ensures);
      segs = sym (c.in-Ok.ensures.segs ∙ c.get_u32-segs.ensures);
      seg_len = sym (c.in-Ok.ensures.seg_len ∙ c.get_u32-seg_len.ensures);
      fan = sym (c.in-Ok.ensures.fan ∙ c.get_u32-fan.ensures);
      number = refl;
      rest = subst AreZero (tail_is c.args.page.now) (c.if-not-is_zero.ensures.0 refl);
    } in
    record {
      format = number_at 4 c.args.page.now 28;
      known = subst IsFormat c.get_u32.ensures (c.is_format.ensures.0 (c.if-not-is_format.false));
      spelled = reads_super _ g c.args.page.now bytes (omega (arith, c.if-page-lt-HEAD.false)) reads;
    }

pub returns-in-Err-clause-none : goal.returns-in-Err-clause-none
returns-in-Err-clause-none c g is =
    let s = c.args.page.now in
    let found : first_fault (number_at 4 s 8) (number_at 4 s 12) (number_at 4 s 16) (number_at 4 s 20) (number_at 4 s 24) ≡ Some c.in-Err.field-0 =
    rw (← c.get_u32-page_size.ensures, ← c.get_u32-pages.ensures, ← c.get_u32-segs.ensures, ← c.get_u32-seg_len.ensures, ← c.get_u32-fan.ensures) c.in-Err.ensures.refused in
    faulty g s c.in-Err.field-0 is found
