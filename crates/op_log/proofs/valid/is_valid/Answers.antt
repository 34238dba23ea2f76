use Rattle.std.proofs.Common.{sym, subst, refl, List, map}
use Rattle.std.specs.List.{AllByRecursion}
use Rattle.std.proofs.lemmas.Bool.{false≢true}
use Rattle.ex_base.specs.Area.{area_end}
use Rattle.ex_base.specs.declared.names.PageNo.{PageNo}
use Rattle.page_entries.specs.declared.entry.PageEntry.{PageEntry}
use Rattle.op_log.specs.Records.{page_of, number_of}
use Rattle.op_log.specs.Decoding.{RisesIn, IsApart}
use Rattle.op_log.proofs.Validity.{entries_rise_of, numbers_rise_of, valid_of}
use Rattle.op_log.proofs.valid.is_valid.Goals as goal

pub returns-then-not-entries_rise : goal.returns-then-not-entries_rise
returns-then-not-entries_rise c = (
  λ t. absurd (false≢true t),
  λ is. c.if-not-entries_rise.ensures.1 (subst (λ (l : List PageEntry). RisesIn 256 (area_end c.args.geometry.now) (map page_of l)) (sym c.as_slice.ensures) (entries_rise_of c.args.geometry.now c.args.item.now is)),
)

pub returns-then-not-numbers_rise : goal.returns-then-not-numbers_rise
returns-then-not-numbers_rise c = (
  λ t. absurd (false≢true t),
  λ is. c.if-not-numbers_rise.ensures.1 (subst (λ (l : List PageNo). RisesIn 256 (area_end c.args.geometry.now) (map number_of l)) (sym c.as_slice-2.ensures) (numbers_rise_of c.args.geometry.now c.args.item.now is)),
)

pub returns-then-not-lie_apart : goal.returns-then-not-lie_apart
returns-then-not-lie_apart c = (
  λ t. absurd (false≢true t),
  λ is. c.if-not-lie_apart.ensures.1 (rw (c.as_slice-3.ensures, c.as_slice-4.ensures) is.apart),
)

pub returns : goal.returns
returns c =
    let g = c.args.geometry.now in
    let r = c.args.item.now in
    let pages : RisesIn 256 (area_end g) (map page_of r.pages) = rw c.as_slice.ensures at (c.if-not-entries_rise.ensures.0 refl) in
    let freed : RisesIn 256 (area_end g) (map number_of r.freed) = rw c.as_slice-2.ensures at (c.if-not-numbers_rise.ensures.0 refl) in
    let apart : AllByRecursion (IsApart r.pages) r.freed = rw (c.as_slice-3.ensures, c.as_slice-4.ensures) at (c.if-not-lie_apart.ensures.0 refl) in (
      λ t. valid_of g r c.requires pages freed apart (rw c.as_slice-5.ensures at (c.has_page.ensures.0 t)),
      λ is. c.has_page.ensures.1 (rw c.as_slice-5.ensures is.catalog),
    )
