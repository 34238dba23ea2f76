use Rattle.std.proofs.Common.{◌≡◌, ◌≤◌, ℕ, Option, Some, length, ap, subst, ◌∙◌, arith, ◌<◌, ◌*◌, List, refl, sym}
use Rattle.file_index.specs.declared.Entry.{Entry}
use Rattle.file_index.specs.IndexPage.{entries_on, most_entries}
use Rattle.ex_base.specs.Sizes.{least_page}
use Rattle.file_index.specs.declared.named.Named.{Named}
use Rattle.file_index.specs.Index.{least_entries}
use Rattle.file_index.specs.Nodes.{first_key, joined, beside_of}
use Rattle.file_index.proofs.Descending.{first_key_is}
use Rattle.file_index.proofs.Parts.{joined_length}
use Rattle.ex_base.proofs.Handed.{cause_after}
use Rattle.ex_base.specs.Area.{catalog_no}
use Rattle.ex_base.specs.declared.names.Area.{Area}
use Rattle.ex_base.specs.declared.names.Area.TheVariants.{Page}
use Rattle.file_index.proofs.Blame.{other_fault}
use Rattle.file_index.proofs.LaterStates.{size_after, two_pages_after}
use Rattle.file_index.proofs.Chains.{gives_on, keeps_gives, free_on, le_from, more_since}
use Rattle.file_index.proofs.Pairs.{both_files, both_held, both_same, left_level, pair_changes, pair_stored, pair_enough, beside_fault, beside_sound, joined_some, joined_few}
use Rattle.file_index.proofs.spreading.spread.Goals as goal

pub returns-in-Err-join-clause-cause : goal.returns-in-Err-join-clause-cause
returns-in-Err-join-clause-cause g c = c.in-Err-join.ensures.cause _ _

pub returns-clause-key : goal.returns-clause-key
returns-clause-key g c = λ told.
    let least : c.named-beside.result.least ≡ Some c.beside.result.key = ap (λ (n : Named). n.least) c.named-beside.ensures in
    let few : least_entries (g.P.Ground.geometry c.args.pages.now).page_size (Some c.beside.result.key) ≤ length c.in-Ok.other.items =
    subst (λ (o : Option ℕ). least_entries (g.P.Ground.geometry c.args.pages.now).page_size o ≤ length c.in-Ok.other.items) least c.in-Ok.ensures.few in
    let some = joined_length c.args.pair.now.thin_is_left c.args.thin.items c.in-Ok.other.items in
    let page : c.named-beside.result.page.0 ≡ (beside_of c.args.pair.now).page.0 = ap (λ (n : Named). n.page.0) c.named-beside.ensures ∙ ap (λ (e : Entry). e.page.0) c.beside.ensures in
    let read : c.in-Ok.other.items ≡ entries_on (g.P.Ground.image c.args.pages.now (beside_of c.args.pair.now).page.0) = c.in-Ok.ensures.entries told ∙ ap (λ (p : ℕ). entries_on (g.P.Ground.image c.args.pages.now p)) page in
    first_key_is c.in-Ok-join.all.items c.index.result.now (omega (arith, ap length c.in-Ok-join.ensures.all, few, some, least_page (g.P.Ground.geometry c.args.pages.now))) c.index.ensures
    ∙ ap first_key (c.in-Ok-join.ensures.all ∙ ap (joined c.args.pair.now.thin_is_left c.args.thin.items) read)

pub even_out-requires-clause-ready : goal.even_out-requires-clause-ready
even_out-requires-clause-ready g c = g.P.Ground.leads_ready _ _ c.entries_at.ensures.kept.leads c.requires.ready

pub returns-in-Err-even_out-clause-leads : goal.returns-in-Err-even_out-clause-leads
returns-in-Err-even_out-clause-leads g c = g.P.Ground.leads_trans _ _ _ c.entries_at.ensures.kept.leads c.even_out.ensures.leads

pub returns-in-Err-even_out-clause-cause : goal.returns-in-Err-even_out-clause-cause
returns-in-Err-even_out-clause-cause g c = cause_after g.P.Ground _ _ c.entries_at.ensures.kept.leads c.even_out.new.pages c.in-Err-even_out.fault c.in-Err-even_out.ensures.cause

pub returns-clause-leads : goal.returns-clause-leads
returns-clause-leads g c = g.P.Ground.leads_trans _ _ _ c.entries_at.ensures.kept.leads c.even_out.ensures.leads

pub returns-in-Err-clause-stored : goal.returns-in-Err-clause-stored
returns-in-Err-clause-stored g c = tt

pub returns-in-Err-clause-page : goal.returns-in-Err-clause-page
returns-in-Err-clause-page g c = tt

pub returns-in-Err-clause-key : goal.returns-in-Err-clause-key
returns-in-Err-clause-key g c = tt

pub returns-in-Err-clause-enough : goal.returns-in-Err-clause-enough
returns-in-Err-clause-enough g c = tt

pub returns-in-Err-clause-changes : goal.returns-in-Err-clause-changes
returns-in-Err-clause-changes g c = tt

pub returns-in-Err-clause-free : goal.returns-in-Err-clause-free
returns-in-Err-clause-free g c = tt

pub returns-in-Err-clause-gives : goal.returns-in-Err-clause-gives
returns-in-Err-clause-gives g c = tt

pub returns-in-Err-clause-catalog : goal.returns-in-Err-clause-catalog
returns-in-Err-clause-catalog g c = tt

pub returns-in-Err-clause-touches : goal.returns-in-Err-clause-touches
returns-in-Err-clause-touches g c = tt

pub returns-in-Err-join-clause-stored : goal.returns-in-Err-join-clause-stored
returns-in-Err-join-clause-stored g c = tt

pub returns-in-Err-join-clause-page : goal.returns-in-Err-join-clause-page
returns-in-Err-join-clause-page g c = tt

pub returns-in-Err-join-clause-key : goal.returns-in-Err-join-clause-key
returns-in-Err-join-clause-key g c = tt

pub returns-in-Err-join-clause-enough : goal.returns-in-Err-join-clause-enough
returns-in-Err-join-clause-enough g c = tt

pub returns-in-Err-join-clause-changes : goal.returns-in-Err-join-clause-changes
returns-in-Err-join-clause-changes g c = tt

pub returns-in-Err-join-clause-free : goal.returns-in-Err-join-clause-free
returns-in-Err-join-clause-free g c = tt

pub returns-in-Err-join-clause-gives : goal.returns-in-Err-join-clause-gives
returns-in-Err-join-clause-gives g c = tt

pub returns-in-Err-join-clause-catalog : goal.returns-in-Err-join-clause-catalog
returns-in-Err-join-clause-catalog g c = tt

pub returns-in-Err-join-clause-touches : goal.returns-in-Err-join-clause-touches
returns-in-Err-join-clause-touches g c = tt

pub returns-in-Err-even_out-clause-stored : goal.returns-in-Err-even_out-clause-stored
returns-in-Err-even_out-clause-stored g c = tt

pub returns-in-Err-even_out-clause-page : goal.returns-in-Err-even_out-clause-page
returns-in-Err-even_out-clause-page g c = tt

pub returns-in-Err-even_out-clause-key : goal.returns-in-Err-even_out-clause-key
returns-in-Err-even_out-clause-key g c = tt

pub returns-in-Err-even_out-clause-enough : goal.returns-in-Err-even_out-clause-enough
returns-in-Err-even_out-clause-enough g c = tt

pub returns-in-Err-even_out-clause-changes : goal.returns-in-Err-even_out-clause-changes
returns-in-Err-even_out-clause-changes g c = tt

pub returns-in-Err-even_out-clause-free : goal.returns-in-Err-even_out-clause-free
returns-in-Err-even_out-clause-free g c = tt

pub returns-in-Err-even_out-clause-gives : goal.returns-in-Err-even_out-clause-gives
returns-in-Err-even_out-clause-gives g c = tt

pub returns-in-Err-even_out-clause-catalog : goal.returns-in-Err-even_out-clause-catalog
returns-in-Err-even_out-clause-catalog g c = tt

pub returns-in-Err-even_out-clause-touches : goal.returns-in-Err-even_out-clause-touches
returns-in-Err-even_out-clause-touches g c = tt

pub returns-clause-sound : goal.returns-clause-sound
returns-clause-sound g c = tt

pub returns-clause-fault : goal.returns-clause-fault
returns-clause-fault g c = tt

pub returns-clause-cause : goal.returns-clause-cause
returns-clause-cause g c = tt

pub returns-in-Err-clause-cause : goal.returns-in-Err-clause-cause
returns-in-Err-clause-cause g c = c.in-Err.ensures.cause

pub returns-in-Err-clause-leads : goal.returns-in-Err-clause-leads
returns-in-Err-clause-leads g c = c.entries_at.ensures.kept.leads

pub returns-in-Err-join-clause-leads : goal.returns-in-Err-join-clause-leads
returns-in-Err-join-clause-leads g c = c.entries_at.ensures.kept.leads

pub returns-in-Err-join-clause-sound : goal.returns-in-Err-join-clause-sound
returns-in-Err-join-clause-sound g c = λ damage told area held named. c.in-Err-join.ensures.no_damage damage

pub returns-in-Err-even_out-clause-sound : goal.returns-in-Err-even_out-clause-sound
returns-in-Err-even_out-clause-sound g c = λ damage told area held named. c.in-Err-even_out.ensures.no_damage damage

pub entries_at-requires : goal.entries_at-requires
entries_at-requires g c = c.requires.ready

pub returns-clause-page : goal.returns-clause-page
returns-clause-page g c = refl

pub returns-clause-changes : goal.returns-clause-changes
returns-clause-changes g c =
    pair_changes g.P.Ground c.args.pages.now c.entries_at.new.pages c.args.pair.now c.named-left.result c.named-right.result c.named-beside.result
    c.beside.result c.named-left.ensures c.named-right.ensures c.named-beside.ensures c.beside.ensures c.entries_at.ensures.kept c.even_out.new.pages
    c.in-Ok-even_out.second c.in-Ok-even_out.ensures.changes

pub index-requires : goal.index-requires
index-requires g c =
    subst (λ (n : ℕ). 0 < n) (sym c.in-Ok-join.all.ok.0) (joined_some (g.P.Ground.geometry c.args.pages.now) c.args.pair.now.thin_is_left c.args.thin.items
    c.in-Ok.other.items c.in-Ok-join.all.items c.in-Ok-join.ensures.all c.named-beside.result.least c.in-Ok.ensures.few)

pub even_out-requires-clause-some : goal.even_out-requires-clause-some
even_out-requires-clause-some g c =
    subst (λ (l : List Entry). 1 ≤ length l) (sym c.deref.ensures.value)
    (joined_some (g.P.Ground.geometry c.args.pages.now) c.args.pair.now.thin_is_left c.args.thin.items c.in-Ok.other.items c.in-Ok-join.all.items
    c.in-Ok-join.ensures.all c.named-beside.result.least c.in-Ok.ensures.few)

pub even_out-requires-clause-many : goal.even_out-requires-clause-many
even_out-requires-clause-many g c =
    two_pages_after g.P.Ground _ _ c.entries_at.ensures.kept.leads _
    (subst (λ (l : List Entry). length l ≤ 2 * most_entries (g.P.Ground.geometry c.args.pages.now).page_size) (sym c.deref.ensures.value)
    (joined_few (g.P.Ground.geometry c.args.pages.now) c.args.pair.now.thin_is_left c.args.thin.items c.in-Ok.other.items c.in-Ok-join.all.items
    c.in-Ok-join.ensures.all c.requires.many c.in-Ok.ensures.many))

pub even_out-requires-clause-buffer : goal.even_out-requires-clause-buffer
even_out-requires-clause-buffer g c = size_after g.P.Ground _ _ c.entries_at.ensures.kept.leads _ c.requires.buffer

pub even_out-requires-clause-left : goal.even_out-requires-clause-left
even_out-requires-clause-left g c =
    (both_files g.P.Ground c.args.pages.now c.entries_at.new.pages c.args.pair.now c.named-left.result c.named-right.result c.named-beside.result
    c.beside.result c.named-left.ensures c.named-right.ensures c.named-beside.ensures c.beside.ensures c.entries_at.ensures.kept c.requires.page
    c.in-Ok.ensures.area).0

pub even_out-requires-clause-right : goal.even_out-requires-clause-right
even_out-requires-clause-right g c =
    (both_files g.P.Ground c.args.pages.now c.entries_at.new.pages c.args.pair.now c.named-left.result c.named-right.result c.named-beside.result
    c.beside.result c.named-left.ensures c.named-right.ensures c.named-beside.ensures c.beside.ensures c.entries_at.ensures.kept c.requires.page
    c.in-Ok.ensures.area).1

pub even_out-requires-clause-held : goal.even_out-requires-clause-held
even_out-requires-clause-held g c =
    both_held g.P.Ground c.args.pages.now c.entries_at.new.pages c.args.pair.now c.named-left.result c.named-right.result c.named-beside.result
    c.beside.result c.named-left.ensures c.named-right.ensures c.named-beside.ensures c.beside.ensures c.entries_at.ensures.kept c.requires.held
    c.in-Ok.ensures.held

pub even_out-requires-clause-same : goal.even_out-requires-clause-same
even_out-requires-clause-same g c =
    both_same g.P.Ground c.args.pages.now c.entries_at.new.pages c.args.pair.now c.named-left.result c.named-right.result c.named-beside.result
    c.beside.result c.named-left.ensures c.named-right.ensures c.named-beside.ensures c.beside.ensures c.entries_at.ensures.kept

pub even_out-requires-clause-level : goal.even_out-requires-clause-level
even_out-requires-clause-level g c =
    left_level g.P.Ground c.args.pages.now c.entries_at.new.pages c.args.pair.now c.named-left.result c.named-right.result c.named-beside.result
    c.beside.result c.named-left.ensures c.named-right.ensures c.named-beside.ensures c.beside.ensures c.entries_at.ensures.kept c.requires.level

pub returns-clause-enough : goal.returns-clause-enough
returns-clause-enough g c =
    pair_enough g.P.Ground c.args.pages.now c.entries_at.new.pages c.args.pair.now c.named-left.result c.named-right.result c.named-beside.result
    c.beside.result c.named-left.ensures c.named-right.ensures c.named-beside.ensures c.beside.ensures c.entries_at.ensures.kept c.args.thin.items
    c.in-Ok.other.items c.in-Ok.ensures.entries c.in-Ok.ensures.few

pub returns-clause-stored : goal.returns-clause-stored
returns-clause-stored g c =
    pair_stored g.P.Ground c.args.pages.now c.entries_at.new.pages c.args.pair.now c.named-left.result c.named-right.result c.named-beside.result
    c.beside.result c.named-left.ensures c.named-right.ensures c.named-beside.ensures c.beside.ensures c.entries_at.ensures.kept c.args.thin.items
    c.in-Ok.other.items c.in-Ok.ensures.entries c.even_out.new.pages c.in-Ok-join.all.items c.deref.result.now c.in-Ok-even_out.second c.deref.ensures.value
    c.in-Ok-join.ensures.all c.in-Ok-even_out.ensures.stored

pub returns-in-Err-join-clause-fault : goal.returns-in-Err-join-clause-fault
returns-in-Err-join-clause-fault g c =
    λ told. other_fault (g.P.Ground.geometry c.args.pages.now) (g.P.Ground.held c.entries_at.new.pages)
    (g.P.Ground.image c.entries_at.new.pages (beside_of c.args.pair.now).page.0) c.args.pair.now.level c.args.pair.now.file_no
    (Some (beside_of c.args.pair.now).key) (beside_of c.args.pair.now).page.0 c.in-Err-join.fault c.in-Err-join.ensures.no_damage

pub returns-in-Err-even_out-clause-fault : goal.returns-in-Err-even_out-clause-fault
returns-in-Err-even_out-clause-fault g c =
    λ told. other_fault (g.P.Ground.geometry c.args.pages.now) (g.P.Ground.held c.even_out.new.pages)
    (g.P.Ground.image c.even_out.new.pages (beside_of c.args.pair.now).page.0) c.args.pair.now.level c.args.pair.now.file_no
    (Some (beside_of c.args.pair.now).key) (beside_of c.args.pair.now).page.0 c.in-Err-even_out.fault c.in-Err-even_out.ensures.no_damage

pub returns-in-Err-clause-fault : goal.returns-in-Err-clause-fault
returns-in-Err-clause-fault g c =
    λ told. beside_fault g.P.Ground c.args.pages.now c.entries_at.new.pages c.args.pair.now c.named-left.result c.named-right.result c.named-beside.result
    c.beside.result c.named-left.ensures c.named-right.ensures c.named-beside.ensures c.beside.ensures c.entries_at.ensures.kept c.in-Err.fault
    (c.in-Err.ensures.fault told)

pub returns-in-Err-clause-sound : goal.returns-in-Err-clause-sound
returns-in-Err-clause-sound g c =
    λ damage told. beside_sound g.P.Ground c.args.pages.now c.entries_at.new.pages c.args.pair.now c.named-left.result c.named-right.result
    c.named-beside.result c.beside.result c.named-left.ensures c.named-right.ensures c.named-beside.ensures c.beside.ensures c.entries_at.ensures.kept
    (c.in-Err.ensures.sound damage told)

pub returns-clause-free : goal.returns-clause-free
returns-clause-free g c = free_on _ _ _ _ (ap (λ (f : Area → ℕ). f Page) c.entries_at.ensures.kept.free) (le_from refl) c.in-Ok-even_out.ensures.free

pub returns-clause-gives : goal.returns-clause-gives
returns-clause-gives g c = gives_on g.P.Ground _ _ _ (keeps_gives g.P.Ground _ _ c.entries_at.ensures.kept) c.in-Ok-even_out.ensures.gives

pub returns-clause-catalog : goal.returns-clause-catalog
returns-clause-catalog g c = c.in-Ok-even_out.ensures.catalog ∙ ap (λ (f : ℕ → List ℕ). f catalog_no) c.entries_at.ensures.kept.images

pub returns-clause-touches : goal.returns-clause-touches
returns-clause-touches g c = more_since _ _ _ 2 c.entries_at.ensures.kept.touched c.in-Ok-even_out.ensures.touches
