use Rattle.std.proofs.Common.{◌≡◌, List, map, Err, sym, ap, subst, ◌∙◌, refl}
use Rattle.std.specs.List.{AllByRecursion}
use Rattle.disk_model.specs.Changes.{changes_refl}
use Rattle.history_writes.specs.Linked.{HaveFields, HasNoRows, LinksPages}
use Rattle.history_links.specs.declared.Links.{Links}
use Rattle.history_links.specs.declared.PlacedVersion.{PlacedVersion}
use Rattle.history_links.specs.Linked.{links_of}
use Rattle.history_writes.specs.Places.{InPagesFrom}
use Rattle.history_load.specs.AtHand.{CantLink}
use Rattle.history_load.proofs.Causes.{link_bad, link_cause}
use Rattle.history_load.proofs.FileEnds.{cant_link, linked_by, linked_plain}
use Rattle.history_load.proofs.Plain.{links_fields}
use Rattle.ex_base.proofs.Results.{if_err_handed}
use Rattle.history_load.specs.Faults.{LoadCause, WhereBad, fault_of_link}
use Rattle.history_load.specs.declared.faults.LoadFault.TheVariants.{Memory}
use Rattle.ex_base.proofs.Handed.{not_given}
use Rattle.history_load.proofs.files_at_hand.FilesAtHand.link_file.Goals as goal

pub returns-then-not-has_links-clause-linked : goal.returns-then-not-has_links-clause-linked
returns-then-not-has_links-clause-linked g c = linked_plain c.args.geometry.now (g.D.World.outside c.args.disk.now) c.args.self.now (sym c.has_links.ensures ∙ c.if-not-has_links.true)

pub returns-then-not-has_links-clause-changes : goal.returns-then-not-has_links-clause-changes
returns-then-not-has_links-clause-changes g c = changes_refl (InPagesFrom c.args.geometry.now c.args.self.now.next) (g.D.World.outside c.args.disk.now)

pub link_pages-requires-clause-fields : goal.link_pages-requires-clause-fields
link_pages-requires-clause-fields g c =
    let same : c.deref-2.result.now ≡ map (links_of c.args.self.now.versions.items) c.args.self.now.versions.items =
    c.deref-2.ensures.value ∙ c.in_ok-links.ensures ∙ ap (λ (vs : List PlacedVersion). map (links_of vs) vs) c.deref.ensures.value in
    subst (λ (links : List Links). AllByRecursion HaveFields links) (sym same) (links_fields c.args.self.now.versions.items c.requires.file.places)

pub returns-in_err-link_pages-clause-bad : goal.returns-in_err-link_pages-clause-bad
returns-in_err-link_pages-clause-bad g c =
    let same : c.deref-2.result.now ≡ map (links_of c.args.self.now.versions.items) c.args.self.now.versions.items =
    c.deref-2.ensures.value ∙ c.in_ok-links.ensures ∙ ap (λ (vs : List PlacedVersion). map (links_of vs) vs) c.deref.ensures.value in
    link_bad c.from_residual-in_err-link_pages.result c.in_err-link_pages.field-0.0 (CantLink c.args.geometry.now (g.D.World.outside c.args.disk.now) c.args.self.now) c.from_residual-in_err-link_pages.ensures.1 (λ bad.
    cant_link c.args.geometry.now (g.D.World.outside c.args.disk.now) c.args.self.now
    (subst (λ (links : List Links). HasNoRows c.args.geometry.now (g.D.World.outside c.args.disk.now) c.args.self.now.pages.first c.args.self.now.pages.written links) same (c.link_pages.ensures.bad (c.in_err-link_pages.was ∙ ap Err bad))))

pub returns-clause-linked : goal.returns-clause-linked
returns-clause-linked g c =
    let same : c.deref-2.result.now ≡ map (links_of c.args.self.now.versions.items) c.args.self.now.versions.items =
    c.deref-2.ensures.value ∙ c.in_ok-links.ensures ∙ ap (λ (vs : List PlacedVersion). map (links_of vs) vs) c.deref.ensures.value in
    linked_by c.args.geometry.now (g.D.World.outside c.args.disk.now) (g.D.World.outside c.link_pages.new.disk) c.args.self.now
    (subst (λ (links : List Links). LinksPages c.args.geometry.now (g.D.World.outside c.args.disk.now) (g.D.World.outside c.link_pages.new.disk) c.args.self.now.pages.first c.args.self.now.pages.written links) same c.in_ok-link_pages.ensures.linked)

-- ---- what else is promised

pub returns-then-not-has_links-clause-bad : goal.returns-then-not-has_links-clause-bad
returns-then-not-has_links-clause-bad g c = tt

pub returns-then-not-has_links-clause-only : goal.returns-then-not-has_links-clause-only
returns-then-not-has_links-clause-only g c = record { catalog = refl; pages = refl; versions = refl; next = refl; count = refl }

pub returns-then-not-has_links-clause-desk : goal.returns-then-not-has_links-clause-desk
returns-then-not-has_links-clause-desk g c = c.requires.file.ready.desk

pub returns-then-not-has_links-clause-cause : goal.returns-then-not-has_links-clause-cause
returns-then-not-has_links-clause-cause g c = tt

pub returns-in_err-links-clause-linked : goal.returns-in_err-links-clause-linked
returns-in_err-links-clause-linked g c = not_given c.from_residual.result _ Memory c.from_residual.ensures.1

pub returns-in_err-links-clause-bad : goal.returns-in_err-links-clause-bad
returns-in_err-links-clause-bad g c = if_err_handed c.from_residual.result (WhereBad (CantLink c.args.geometry.now (g.D.World.outside c.args.disk.now) c.args.self.now)) Memory c.from_residual.ensures.1 tt

pub returns-in_err-links-clause-only : goal.returns-in_err-links-clause-only
returns-in_err-links-clause-only g c = record { catalog = refl; pages = refl; versions = refl; next = refl; count = refl }

pub returns-in_err-links-clause-desk : goal.returns-in_err-links-clause-desk
returns-in_err-links-clause-desk g c = c.requires.file.ready.desk

pub returns-in_err-links-clause-changes : goal.returns-in_err-links-clause-changes
returns-in_err-links-clause-changes g c = changes_refl (InPagesFrom c.args.geometry.now c.args.self.now.next) (g.D.World.outside c.args.disk.now)

pub returns-in_err-links-clause-cause : goal.returns-in_err-links-clause-cause
returns-in_err-links-clause-cause g c = if_err_handed c.from_residual.result (LoadCause (g.D.World.outside c.args.disk.now) (g.D.World.outside c.args.disk.now)) Memory c.from_residual.ensures.1 tt

pub returns-in_err-link_pages-clause-linked : goal.returns-in_err-link_pages-clause-linked
returns-in_err-link_pages-clause-linked g c = not_given c.from_residual-in_err-link_pages.result _ (fault_of_link c.in_err-link_pages.field-0.0) c.from_residual-in_err-link_pages.ensures.1

pub returns-in_err-link_pages-clause-only : goal.returns-in_err-link_pages-clause-only
returns-in_err-link_pages-clause-only g c = record { catalog = refl; pages = refl; versions = refl; next = refl; count = refl }

pub returns-in_err-link_pages-clause-desk : goal.returns-in_err-link_pages-clause-desk
returns-in_err-link_pages-clause-desk g c = c.link_pages.ensures.desk

pub returns-in_err-link_pages-clause-cause : goal.returns-in_err-link_pages-clause-cause
returns-in_err-link_pages-clause-cause g c = if_err_handed c.from_residual-in_err-link_pages.result (LoadCause (g.D.World.outside c.args.disk.now) (g.D.World.outside c.link_pages.new.disk)) (fault_of_link c.in_err-link_pages.field-0.0) c.from_residual-in_err-link_pages.ensures.1 (link_cause (g.D.World.outside c.args.disk.now) (g.D.World.outside c.link_pages.new.disk) c.in_err-link_pages.field-0.0 (λ disk. c.in_err-link_pages.ensures.cause (ap Err disk)))

pub returns-clause-bad : goal.returns-clause-bad
returns-clause-bad g c = tt

pub returns-clause-only : goal.returns-clause-only
returns-clause-only g c = record { catalog = refl; pages = refl; versions = refl; next = refl; count = refl }

pub returns-clause-desk : goal.returns-clause-desk
returns-clause-desk g c = c.link_pages.ensures.desk

pub returns-clause-cause : goal.returns-clause-cause
returns-clause-cause g c = tt
