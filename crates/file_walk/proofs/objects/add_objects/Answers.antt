use Rattle.std.proofs.Common.{◌≡◌, ◌∙◌, ◌++◌, List, ℕ, length, ap, sym, subst}
use Rattle.ex_base.proofs.Options.{at_some}
use Rattle.record_links.specs.declared.Linked.{Linked}
use Rattle.record_links.specs.Labels.{AreLabels}
use Rattle.record_links.specs.Links.{InPlaceOrder}
use Rattle.file_walk.specs.declared.Found.{Found}
use Rattle.file_walk.specs.Objects.{found_by, links_of}
use Rattle.file_walk.proofs.Labelled.{labelled}
use Rattle.file_walk.proofs.objects.add_objects.Goals as goal

pub label_records-requires : goal.label_records-requires
label_records-requires c = record { ordered = subst InPlaceOrder (sym (c.deref.ensures.value ∙ c.in_ok-links.ensures)) c.requires }

pub returns-clause-numbered : goal.returns-clause-numbered
returns-clause-numbered c = λ is.
    let links : c.deref.result.now ≡ links_of c.args.records.now = c.deref.ensures.value ∙ c.in_ok-links.ensures in
    labelled c.args.found.now.items c.add_labelled.new.found.items c.args.records.now c.in-Some.labels.items c.requires
    (subst (λ (rs : List Linked). AreLabels rs c.in-Some.labels.items) links (at_some c.in_ok-label_records.field-0 c.in-Some.labels _ c.in-Some.is c.in_ok-label_records.ensures.labels))
    (c.in_ok-add_labelled-in-Some.ensures ∙ ap (λ (labels : List ℕ). c.args.found.now.items ++ found_by (length c.args.found.now.items) c.args.records.now labels) c.deref-in-Some.ensures.value)
