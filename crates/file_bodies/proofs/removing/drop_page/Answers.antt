use Rattle.std.proofs.Common.{subst, sym, List, ap, ℕ, ◌∙◌}
use Rattle.std.proofs.lemmas.Result.{on_ok_weaker, IfErr-weaker}
use Rattle.std.specs.Prelude.{Contains}
use Rattle.ex_base.specs.declared.names.Index.{Index}
use Rattle.file_index.specs.Edits.{take_out}
use Rattle.file_bodies.specs.Bodies.{pages_in}
use Rattle.file_bodies.specs.Removing.{LeavesFile}
use Rattle.file_bodies.proofs.Moving.{has_index}
use Rattle.file_bodies.proofs.Belonging.{the_index, found_file}
use Rattle.file_bodies.proofs.Indexing.{root_placed, reindexed, still_whole, still_index}
use Rattle.file_bodies.proofs.Leaving.{left, kept_leaves}
use Rattle.ex_base.specs.declared.geometry.Geometry.{Geometry}
use Rattle.ex_base.proofs.Counts.{contains_times}
use Rattle.file_index.specs.Index.{HasPlacedRoot}
use Rattle.file_index.specs.Damage.{IsLeft, IsRemovalFault, HasWay}
use Rattle.file_bodies.specs.Damage.{listed, removing, bad_root, IsFileFault, lost_entry, unlisted}
use Rattle.file_bodies.proofs.Blame.{carried_held, carried}
use Rattle.ex_base.proofs.Handed.{cause_after, cause_of}
use Rattle.file_bodies.proofs.PagesGone.{gave_gives, gave_pages, gave_segments}
use Rattle.file_index.proofs.LaterStates.{page_after}
use Rattle.file_bodies.proofs.LaterSizes.{size_after}
use Rattle.ex_base.specs.Area.{catalog_no}
use Rattle.file_bodies.proofs.OwnFaults.{own_file}
use Rattle.ex_base.proofs.Results.{on_ok_from}
use Rattle.file_bodies.proofs.TouchedPages.{level_lower, touched_old, free_left}
use Rattle.ex_base.specs.declared.names.Area.TheVariants.{Page, Segment}
use Rattle.ex_base.specs.declared.names.Area.{Area}
use Rattle.file_bodies.proofs.removing.drop_page.Goals as goal

pub returns-in-Err-remove-clause-sound : goal.returns-in-Err-remove-clause-sound
returns-in-Err-remove-clause-sound g c = λ damage told index file number.
    let kept = c.index_of.ensures.kept in
    let told_b = g.P.Ground.leads_told c.args.pages.now c.index_of.new.pages kept.leads told in
    let here = found_file g.P.Ground c.args.pages.now c.index_of.new.pages index c.in-Ok.index c.args.file_no file number (c.in-Ok.ensures.found told) kept in
    c.in-Err-remove.ensures.sound damage told_b (has_index g.P.Ground c.index_of.new.pages c.in-Ok.index here)

pub returns-in-Err-change_index-clause-sound : goal.returns-in-Err-change_index-clause-sound
returns-in-Err-change_index-clause-sound g c = λ damage told index file number.
    let kept = c.index_of.ensures.kept in
    let told_b = g.P.Ground.leads_told c.args.pages.now c.index_of.new.pages kept.leads told in
    let told_c = g.P.Ground.leads_told c.index_of.new.pages c.remove.new.pages c.remove.ensures.leads told_b in
    let here = found_file g.P.Ground c.args.pages.now c.index_of.new.pages index c.in-Ok.index c.args.file_no file number (c.in-Ok.ensures.found told) kept in
    let edits = c.in-Ok-remove.ensures.removes told_b (has_index g.P.Ground c.index_of.new.pages c.in-Ok.index here) in
    c.in-Err-change_index.ensures.sound damage told_c
    (root_placed (g.P.Ground.geometry c.remove.new.pages) (g.P.Ground.image c.remove.new.pages) c.in-Ok-remove.left.file_no c.in-Ok-remove.left.level c.in-Ok-remove.left.root edits.index.whole)
    (still_whole g.P.Ground c.index_of.new.pages c.remove.new.pages (take_out c.args.page.0) c.in-Ok.index c.in-Ok-remove.left here edits)
    (still_index g.P.Ground c.index_of.new.pages c.remove.new.pages (take_out c.args.page.0) c.in-Ok.index c.in-Ok-remove.left here edits)

pub returns-clause-leaves : goal.returns-clause-leaves
returns-clause-leaves g c = on_ok_weaker c.give_page.result (λ given told index file number named.
    let kept = c.index_of.ensures.kept in
    let told_b = g.P.Ground.leads_told c.args.pages.now c.index_of.new.pages kept.leads told in
    let told_c = g.P.Ground.leads_told c.index_of.new.pages c.remove.new.pages c.remove.ensures.leads told_b in
    let at = c.in-Ok.ensures.found told in
    let same = the_index g.P.Ground c.args.pages.now index c.in-Ok.index c.args.file_no file number at in
    let here = found_file g.P.Ground c.args.pages.now c.index_of.new.pages index c.in-Ok.index c.args.file_no file number at kept in
    let edits = c.in-Ok-remove.ensures.removes told_b (has_index g.P.Ground c.index_of.new.pages c.in-Ok.index here) in
    let sets = c.in-Ok-change_index.ensures.sets told_c
    (still_whole g.P.Ground c.index_of.new.pages c.remove.new.pages (take_out c.args.page.0) c.in-Ok.index c.in-Ok-remove.left here edits)
    (still_index g.P.Ground c.index_of.new.pages c.remove.new.pages (take_out c.args.page.0) c.in-Ok.index c.in-Ok-remove.left here edits) in
    let r = reindexed g.P.Ground c.index_of.new.pages c.remove.new.pages c.change_index.new.pages (take_out c.args.page.0) c.in-Ok.index c.in-Ok-remove.left (has_index g.P.Ground c.index_of.new.pages c.in-Ok.index here) here.catalog.held edits sets in
    let named_found : Contains (pages_in (g.P.Ground.image c.args.pages.now) c.in-Ok.index) c.args.page.0 = subst (λ (i : Index). Contains (pages_in (g.P.Ground.image c.args.pages.now) i) c.args.page.0) same named in
    let named_b : Contains (pages_in (g.P.Ground.image c.index_of.new.pages) c.in-Ok.index) c.args.page.0 = rw kept.images named_found in
    subst (λ (i : Index). LeavesFile g.P.Ground c.args.pages.now c.give_page.new.self i c.args.page.0) (sym same)
    (kept_leaves g.P.Ground c.args.pages.now c.index_of.new.pages c.give_page.new.self c.in-Ok.index c.args.page.0 kept
    (left g.P.Ground c.index_of.new.pages c.change_index.new.pages c.give_page.new.self c.in-Ok.index c.in-Ok-remove.left c.args.page.0 here
    (contains_times c.args.page.0 (pages_in (g.P.Ground.image c.index_of.new.pages) c.in-Ok.index) named_b) r given c.give_page.ensures.leads))) c.give_page.ensures.given

pub returns-in-Err-remove-clause-fault : goal.returns-in-Err-remove-clause-fault
returns-in-Err-remove-clause-fault g c = λ told.
    listed c.in-Ok.index (c.in-Ok.ensures.lists told)
    (removing (carried_held g.P.Ground c.args.pages.now c.index_of.new.pages (λ y k u. IsRemovalFault y k u (g.P.Ground.held c.remove.new.pages) (g.P.Ground.image c.remove.new.pages) c.in-Ok.index c.args.page.0 c.in-Err-remove.fault) c.index_of.ensures.kept c.in-Err-remove.ensures.fault told))

pub returns-then-not-has_placed_root-clause-sound : goal.returns-then-not-has_placed_root-clause-sound
returns-then-not-has_placed_root-clause-sound g c = λ damage told index file number.
    let kept = c.index_of.ensures.kept in
    let told_b = g.P.Ground.leads_told c.args.pages.now c.index_of.new.pages kept.leads told in
    let here = found_file g.P.Ground c.args.pages.now c.index_of.new.pages index c.in-Ok.index c.args.file_no file number (c.in-Ok.ensures.found told) kept in
    let edits = c.in-Ok-remove.ensures.removes told_b (has_index g.P.Ground c.index_of.new.pages c.in-Ok.index here) in
    c.has_placed_root.ensures.other c.if-not-has_placed_root.true
    (root_placed (g.P.Ground.geometry c.remove.new.pages) (g.P.Ground.image c.remove.new.pages) c.in-Ok-remove.left.file_no c.in-Ok-remove.left.level c.in-Ok-remove.left.root edits.index.whole)

pub returns-then-not-has_placed_root-clause-fault : goal.returns-then-not-has_placed_root-clause-fault
returns-then-not-has_placed_root-clause-fault g c = λ told.
    let leads = g.P.Ground.leads_trans c.args.pages.now c.index_of.new.pages c.remove.new.pages c.index_of.ensures.kept.leads c.remove.ensures.leads in
    listed c.in-Ok.index (c.in-Ok.ensures.lists told)
    (bad_root c.in-Ok-remove.left
    (carried g.P.Ground c.args.pages.now c.index_of.new.pages (λ y u. IsLeft u c.in-Ok.index c.in-Ok-remove.left) c.index_of.ensures.kept c.in-Ok-remove.ensures.left told)
    (c.no_root.ensures.fault (g.P.Ground.geometry c.args.pages.now) (λ placed. c.has_placed_root.ensures.other c.if-not-has_placed_root.true
    (subst (λ (y : Geometry). HasPlacedRoot y c.in-Ok-remove.left.root) (sym (g.P.Ground.leads_geometry c.args.pages.now c.remove.new.pages leads)) placed))))

pub returns-then-not-has_placed_root-clause-cause : goal.returns-then-not-has_placed_root-clause-cause
returns-then-not-has_placed_root-clause-cause g c = c.no_root.ensures.cause _ _

pub returns-clause-leads : goal.returns-clause-leads
returns-clause-leads g c =
    g.P.Ground.leads_trans _ _ _ c.index_of.ensures.kept.leads
    (g.P.Ground.leads_trans _ _ _ c.remove.ensures.leads (g.P.Ground.leads_trans _ _ _ c.change_index.ensures.leads c.give_page.ensures.leads))

pub returns-in-Err-change_index-clause-leads : goal.returns-in-Err-change_index-clause-leads
returns-in-Err-change_index-clause-leads g c =
    g.P.Ground.leads_trans _ _ _ c.index_of.ensures.kept.leads (g.P.Ground.leads_trans _ _ _ c.remove.ensures.leads c.change_index.ensures.leads)

pub returns-then-not-has_placed_root-clause-leads : goal.returns-then-not-has_placed_root-clause-leads
returns-then-not-has_placed_root-clause-leads g c = g.P.Ground.leads_trans _ _ _ c.index_of.ensures.kept.leads c.remove.ensures.leads

pub returns-in-Err-remove-clause-leads : goal.returns-in-Err-remove-clause-leads
returns-in-Err-remove-clause-leads g c = g.P.Ground.leads_trans _ _ _ c.index_of.ensures.kept.leads c.remove.ensures.leads

pub give_page-requires-clause-ready : goal.give_page-requires-clause-ready
give_page-requires-clause-ready g c =
    g.P.Ground.leads_ready _ _
    (g.P.Ground.leads_trans _ _ _ c.index_of.ensures.kept.leads (g.P.Ground.leads_trans _ _ _ c.remove.ensures.leads c.change_index.ensures.leads))
    c.requires.ready

pub change_index-requires-clause-ready : goal.change_index-requires-clause-ready
change_index-requires-clause-ready g c =
    g.P.Ground.leads_ready _ _ (g.P.Ground.leads_trans _ _ _ c.index_of.ensures.kept.leads c.remove.ensures.leads) c.requires.ready

pub remove-requires-clause-ready : goal.remove-requires-clause-ready
remove-requires-clause-ready g c = g.P.Ground.leads_ready _ _ c.index_of.ensures.kept.leads c.requires.ready

pub has_placed_root-requires : goal.has_placed_root-requires
has_placed_root-requires g c = g.P.Ground.leads_ready _ _ (g.P.Ground.leads_trans _ _ _ c.index_of.ensures.kept.leads c.remove.ensures.leads) c.requires.ready

pub give_page-requires-clause-page : goal.give_page-requires-clause-page
give_page-requires-clause-page g c =
    (page_after g.P.Ground _ _ (g.P.Ground.leads_trans _ _ _ c.index_of.ensures.kept.leads
    (g.P.Ground.leads_trans _ _ _ c.remove.ensures.leads c.change_index.ensures.leads)) _ c.requires.page).0

pub give_page-requires-clause-other : goal.give_page-requires-clause-other
give_page-requires-clause-other g c = c.requires.page.1

pub change_index-requires-clause-buffer : goal.change_index-requires-clause-buffer
change_index-requires-clause-buffer g c =
    size_after g.P.Ground _ _ (g.P.Ground.leads_trans _ _ _ c.index_of.ensures.kept.leads c.remove.ensures.leads) _ c.requires.buffer

pub change_index-requires-clause-usable : goal.change_index-requires-clause-usable
change_index-requires-clause-usable g c = record {
  same_file = c.in-Ok-remove.ensures.shrinks.same_file;
  level = level_lower _ _ c.in-Ok-remove.ensures.shrinks.no_more c.in-Ok.ensures.usable.level;
  root = c.in-Ok-remove.ensures.shrinks.root;
}

pub change_index-requires-clause-placed : goal.change_index-requires-clause-placed
change_index-requires-clause-placed g c = c.has_placed_root.ensures.placed c.if-not-has_placed_root.false

pub returns-clause-way : goal.returns-clause-way
returns-clause-way g c = on_ok_from c.give_page.result _ (λ x is told. record {
  index = c.in-Ok.index;
  lists = c.in-Ok.ensures.lists told;
  holds = carried g.P.Ground c.args.pages.now c.index_of.new.pages (λ y u. HasWay y u c.in-Ok.index c.args.page.0) c.index_of.ensures.kept
      c.in-Ok-remove.ensures.way told;
})

pub returns-in-Err-change_index-clause-fault : goal.returns-in-Err-change_index-clause-fault
returns-in-Err-change_index-clause-fault g c = λ told.
    let kept = c.index_of.ensures.kept in
    let told_c = g.P.Ground.leads_told _ _ (g.P.Ground.leads_trans _ _ _ kept.leads c.remove.ensures.leads) told in
    listed c.in-Ok.index (c.in-Ok.ensures.lists told)
    (lost_entry (subst (λ (t : List ℕ). IsFileFault t c.in-Ok.index.file_no c.in-Err-change_index.fault)
    (c.in-Ok-remove.ensures.catalog ∙ ap (λ (f : ℕ → List ℕ). f catalog_no) kept.images) (c.in-Err-change_index.ensures.fault told_c)))

pub returns-clause-sound : goal.returns-clause-sound
returns-clause-sound g c = IfErr-weaker c.give_page.result _ _ (λ fault never damage told index file number. never damage) c.give_page.ensures.no_damage

pub returns-clause-fault : goal.returns-clause-fault
returns-clause-fault g c = IfErr-weaker c.give_page.result _ _ (λ fault never told. unlisted (own_file _ _ fault never)) c.give_page.ensures.no_damage

pub returns-clause-cause : goal.returns-clause-cause
returns-clause-cause g c =
    cause_of g.P.Ground _ _
    (g.P.Ground.leads_trans _ _ _ c.index_of.ensures.kept.leads (g.P.Ground.leads_trans _ _ _ c.remove.ensures.leads c.change_index.ensures.leads))
    c.give_page.new.self c.give_page.result c.give_page.ensures.cause

pub returns-in-Err-change_index-clause-cause : goal.returns-in-Err-change_index-clause-cause
returns-in-Err-change_index-clause-cause g c =
    cause_after g.P.Ground _ _ (g.P.Ground.leads_trans _ _ _ c.index_of.ensures.kept.leads c.remove.ensures.leads) c.change_index.new.pages
    c.in-Err-change_index.fault c.in-Err-change_index.ensures.cause

pub returns-in-Err-remove-clause-cause : goal.returns-in-Err-remove-clause-cause
returns-in-Err-remove-clause-cause g c =
    cause_after g.P.Ground _ _ c.index_of.ensures.kept.leads c.remove.new.pages c.in-Err-remove.fault c.in-Err-remove.ensures.cause

pub returns-clause-gives : goal.returns-clause-gives
returns-clause-gives g c = on_ok_weaker c.give_page.result (λ given.
    gave_gives g.P.Ground c.args.pages.now c.index_of.new.pages c.remove.new.pages c.change_index.new.pages c.give_page.new.self c.args.page.0
    c.index_of.ensures.kept c.in-Ok-remove.ensures.gives
    c.in-Ok-change_index.ensures.held.0 c.in-Ok-change_index.ensures.held.1 given c.requires.held) c.give_page.ensures.given

pub returns-clause-touches : goal.returns-clause-touches
returns-clause-touches g c =
    on_ok_from c.give_page.result _
    (λ x is. touched_old _ _ _ _ _ c.index_of.ensures.kept.touched c.in-Ok-remove.ensures.touches c.in-Ok-change_index.ensures.touches
    c.give_page.ensures.touched)

pub returns-in-Err-clause-fault : goal.returns-in-Err-clause-fault
returns-in-Err-clause-fault g c = λ told. unlisted (c.in-Err.ensures.fault told)

pub returns-clause-segments : goal.returns-clause-segments
returns-clause-segments g c = on_ok_weaker c.give_page.result (λ given. gave_segments g.P.Ground _ _ c.args.page.0 given _
    (ap (λ (f : Area → ℕ). f Segment) c.in-Ok-change_index.ensures.free ∙ c.in-Ok-remove.ensures.leaves ∙ ap (λ (f : Area → ℕ). f Segment)
    c.index_of.ensures.kept.free)) c.give_page.ensures.given

pub returns-clause-free : goal.returns-clause-free
returns-clause-free g c = on_ok_weaker c.give_page.result (λ given. gave_pages g.P.Ground _ _ c.args.page.0 given _
    (free_left _ _ _ _ (ap (λ (f : Area → ℕ). f Page) c.index_of.ensures.kept.free) c.in-Ok-remove.ensures.free
    (ap (λ (f : Area → ℕ). f Page) c.in-Ok-change_index.ensures.free))) c.give_page.ensures.given

pub returns-in-Err-clause-cause : goal.returns-in-Err-clause-cause
returns-in-Err-clause-cause g c = c.in-Err.ensures.cause

pub returns-in-Err-clause-leads : goal.returns-in-Err-clause-leads
returns-in-Err-clause-leads g c = c.index_of.ensures.kept.leads

pub remove-requires-clause-root : goal.remove-requires-clause-root
remove-requires-clause-root g c = c.in-Ok.ensures.usable.root

pub remove-requires-clause-level : goal.remove-requires-clause-level
remove-requires-clause-level g c = c.in-Ok.ensures.usable.level

pub returns-in-Err-change_index-clause-leaves : goal.returns-in-Err-change_index-clause-leaves
returns-in-Err-change_index-clause-leaves g c = tt

pub returns-in-Err-change_index-clause-way : goal.returns-in-Err-change_index-clause-way
returns-in-Err-change_index-clause-way g c = tt
