use Rattle.std.proofs.Common.{rules, ◌≡◌, Some, sym, ap, ◌∙◌, arith}
use Rattle.std.specs.Prelude.{filter}
use Rattle.std.proofs.lemmas.Fn.{filter_same}
use Rattle.versions.specs.Versions.{place_of}
use Rattle.version_tree.specs.Removals.{leads_elsewhere, only_lead}
use Rattle.version_tree.proofs.TakenOut.{many_lead, one_lead}
use Rattle.version_tree.proofs.taking_out.only_lead.Goals as goal

pub returns-then-len-ne1 : goal.returns-then-len-ne1
returns-then-len-ne1 c =
    let all : c.retain.new.self.items ≡ filter (leads_elsewhere c.args.gone) c.args.oids.items = filter_same _ (leads_elsewhere c.args.gone) _ (λ x b f' k. search rules) _ _ c.retain.ensures.filtered in
    sym (ap only_lead (sym all) ∙ many_lead c.retain.new.self.items (λ one. omega (arith, c.if-len-ne1.true, c.len.ensures, one)))

pub returns : goal.returns
returns c =
    let all : c.retain.new.self.items ≡ filter (leads_elsewhere c.args.gone) c.args.oids.items = filter_same _ (leads_elsewhere c.args.gone) _ (λ x b f' k. search rules) _ _ c.retain.ensures.filtered in
    ap Some (c.place_of.ensures ∙ ap place_of c.index.ensures)
    ∙ sym (ap only_lead (sym all) ∙ one_lead c.retain.new.self.items c.index.result.now (omega (arith, c.if-len-ne1.false, c.len.ensures)))
