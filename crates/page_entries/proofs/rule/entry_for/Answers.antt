use Rattle.std.proofs.Common.{◌≡◌, ℕ, List, length, Option, ap, arith, Bor}
use Rattle.std.specs.Option.{option_map}
use Rattle.ex_base.proofs.Options.{at_some, at_none}
use Rattle.ex_base.proofs.Results.{if_ok_both}
use Rattle.page_entries.specs.declared.entry.PageEntry.{PageEntry}
use Rattle.page_entries.specs.declared.form.EntryForm.TheVariants.{Image}
use Rattle.page_entries.proofs.RuleLaws.{entry_none, entry_other, entry_long, entry_short}
use Rattle.page_entries.proofs.rule.entry_for.Goals as goal

abbrev held : Option (Bor (List ℕ)) → Option (List ℕ)
held old = option_map (λ (before : Bor (List ℕ)). before.now) old

pub returns-in-None : goal.returns-in-None
returns-in-None c = if_ok_both c.whole_page.result _ (λ (e : PageEntry). (e.form ≡ Image) × (e.fields ≡ c.args.new.now)) _ (λ e p q. entry_none c.args.page (held c.args.old) c.args.new.now e p q.0 q.1 (ap held c.in-None.is)) c.whole_page.ensures.page
    (if_ok_both c.whole_page.result _ _ (λ (e : PageEntry). (e.form ≡ Image) × (e.fields ≡ c.args.new.now)) (λ e p q. (p, q)) c.whole_page.ensures.form c.whole_page.ensures.fields)

pub returns-in-None-2 : goal.returns-in-None-2
returns-in-None-2 c =
    if_ok_both c.whole_page-in-None-2.result _ (λ (e : PageEntry). (e.form ≡ Image) × (e.fields ≡ c.args.new.now)) _ (λ e p q. entry_other c.args.page (held c.args.old) c.in-Some.before.now c.args.new.now e p q.0 q.1 (ap held c.in-Some.is)
    (at_none c.in_ok-differences-in-Some.field-0 _ c.in-None-2.is c.in_ok-differences-in-Some.ensures.none)) c.whole_page-in-None-2.ensures.page
    (if_ok_both c.whole_page-in-None-2.result _ _ (λ (e : PageEntry). (e.form ≡ Image) × (e.fields ≡ c.args.new.now)) (λ e p q. (p, q)) c.whole_page-in-None-2.ensures.form c.whole_page-in-None-2.ensures.fields)

pub returns-then-as_slice-new : goal.returns-then-as_slice-new
returns-then-as_slice-new c =
    entry_short c.args.page (held c.args.old) c.in-Some.before.now c.args.new.now c.in-Some-2.entry
    (at_some c.in_ok-differences-in-Some.field-0 c.in-Some-2.entry _ c.in-Some-2.is c.in_ok-differences-in-Some.ensures.page) (ap held c.in-Some.is)
    (at_some c.in_ok-differences-in-Some.field-0 c.in-Some-2.entry _ c.in-Some-2.is c.in_ok-differences-in-Some.ensures.differ)
    (at_some c.in_ok-differences-in-Some.field-0 c.in-Some-2.entry _ c.in-Some-2.is c.in_ok-differences-in-Some.ensures.fields) (omega (arith, c.if-as_slice-new.true, ap length c.as_slice.ensures))

pub returns-else-as_slice-new : goal.returns-else-as_slice-new
returns-else-as_slice-new c =
    if_ok_both c.whole_page-else-as_slice-new.result _ (λ (e : PageEntry). (e.form ≡ Image) × (e.fields ≡ c.args.new.now)) _ (λ e p q. entry_long c.args.page (held c.args.old) c.in-Some.before.now c.args.new.now e c.in-Some-2.entry p q.0 q.1 (ap held c.in-Some.is)
    (at_some c.in_ok-differences-in-Some.field-0 c.in-Some-2.entry _ c.in-Some-2.is c.in_ok-differences-in-Some.ensures.differ)
    (at_some c.in_ok-differences-in-Some.field-0 c.in-Some-2.entry _ c.in-Some-2.is c.in_ok-differences-in-Some.ensures.fields) (omega (arith, c.if-as_slice-new.false, ap length c.as_slice.ensures))) c.whole_page-else-as_slice-new.ensures.page
    (if_ok_both c.whole_page-else-as_slice-new.result _ _ (λ (e : PageEntry). (e.form ≡ Image) × (e.fields ≡ c.args.new.now)) (λ e p q. (p, q)) c.whole_page-else-as_slice-new.ensures.form c.whole_page-else-as_slice-new.ensures.fields)
