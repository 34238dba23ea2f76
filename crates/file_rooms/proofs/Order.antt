-- The order of pages of files tells each two apart.
use Rattle.std.proofs.Common.{◌≡◌, ℕ, ap, Ordering}
use Rattle.std.specs.Ordering.{nat_cmp, ordering_then}
use Rattle.std.specs.Cmp.{IsTotalOrder, then_total, on_total, nat_cmp_total}
use Rattle.std.proofs.lemmas.Map.Lookups.{CmpEqualImpliesEq, exact_pairs, exact_unsigned}
use Rattle.file_rooms.specs.declared.rooms.FilePage.{FilePage}
use Rattle.file_rooms.specs.Rooms.{page_of}

abbrev pub page_order : FilePage → FilePage → Ordering
page_order a b = ordering_then (nat_cmp a.file_no b.file_no) (nat_cmp a.page.0 b.page.0)

pub total : IsTotalOrder page_order
total = then_total (on_total (λ (p : FilePage). p.file_no) nat_cmp_total) (on_total (λ (p : FilePage). p.page.0) nat_cmp_total)

pub exact : CmpEqualImpliesEq page_order
exact a b e =
    let same = exact_pairs nat_cmp nat_cmp exact_unsigned exact_unsigned (a.file_no, a.page.0) (b.file_no, b.page.0) e in
    ap (λ (p : ℕ × ℕ). page_of p.0 p.1) same
