use Rattle.std.proofs.Common.{◌≡◌, ◌∙◌, sym, ap, Option, Some, None}
use Rattle.std.specs.Prelude.{unwrap_or}
use Rattle.ex_base.specs.Fault.{first_fault}
use Rattle.ex_base.specs.Limits.{fan_most}
use Rattle.ex_base.specs.declared.geometry.GeometryFault.{GeometryFault}
use Rattle.ex_base.proofs.Supers.{no_fault}
use Rattle.command_words.proofs.request.geometry_of.Goals as goal

pub returns-in-Err : goal.returns-in-Err
returns-in-Err c g is =
    let page_size : g.page_size ≡ c.in_ok-page_size.page_size = is.page_size_is ∙ sym c.in_ok-page_size.ensures in
    let pages : g.pages ≡ c.in_ok-pages.pages = is.pages_are ∙ sym c.in_ok-pages.ensures in
    let segs : g.segs ≡ c.in_ok-segs.segs = is.segs_are ∙ sym c.in_ok-segs.ensures in
    let seg_len : g.seg_len ≡ c.in_ok-seg_len.seg_len = is.seg_len_is ∙ sym c.in_ok-seg_len.ensures in
    let fan : g.fan ≡ c.in_ok-fan.fan = is.fan_is ∙ ap (unwrap_or c.args.fan) (ap fan_most (page_size ∙ sym c.in-Ok.ensures.page_size) ∙ sym c.fan_max.ensures) ∙ sym c.in_ok-fan.ensures in
    let fault : first_fault g.page_size g.pages g.segs g.seg_len g.fan ≡ Some c.in-Err.field-0 = (λ i. first_fault (page_size i) (pages i) (segs i) (seg_len i) (fan i)) ∙ c.in-Err.ensures.refused in
    let bad : ◌≡◌ {A = Option GeometryFault} None (Some c.in-Err.field-0) = sym (no_fault g) ∙ fault in
    cc
