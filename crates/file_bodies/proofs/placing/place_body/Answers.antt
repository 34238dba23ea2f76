use Rattle.std.proofs.Common.{ℕ, Bool, true, length, subst, sym, ap, ◌∙◌, ◌≤◌, Some, ◌≡◌, refl, arith}
use Rattle.ex_base.specs.declared.names.Index.{Index}
use Rattle.file_bodies.specs.Places.{NoRoom, PlacesBody, PutsBody}
use Rattle.file_bodies.specs.Placing.{start_of}
use Rattle.file_bodies.proofs.Belonging.{the_index, found_file}
use Rattle.file_bodies.proofs.Placed.{kept_places, kept_puts, none_kept, room_serves}
use Rattle.file_bodies.specs.Damage.{listed, IsPlacing, IsPlacingFault, unlisted}
use Rattle.file_bodies.proofs.Blame.{carried, carried_held}
use Rattle.file_bodies.proofs.PagesGone.{kept_takes}
use Rattle.file_bodies.proofs.LaterSizes.{fits_after}
use Rattle.ex_base.specs.declared.names.Area.TheVariants.{Page, Segment}
use Rattle.ex_base.specs.declared.names.Area.{Area}
use Rattle.ex_base.proofs.Handed.{cause_after}
use Rattle.file_bodies.proofs.TouchedPages.{free_since, most_since}
use Rattle.file_bodies.specs.Touches.{body_pages}
use Rattle.file_bodies.specs.Files.{index_at}
use Rattle.file_bodies.proofs.PageNumbers.{short_body}
use Rattle.file_bodies.proofs.placing.place_body.Goals as goal

pub returns-in-Ok-place_from-clause-placed : goal.returns-in-Ok-place_from-clause-placed
returns-in-Ok-place_from-clause-placed g c = λ told index file number is.
    let kept = c.index_of.ensures.kept in
    let at = c.in-Ok.ensures.found told in
    let told_b = g.P.Ground.leads_told c.args.pages.now c.index_of.new.pages kept.leads told in
    let same = the_index g.P.Ground c.args.pages.now index c.in-Ok.index c.args.room.now.file_no file number at in
    let here = found_file g.P.Ground c.args.pages.now c.index_of.new.pages index c.in-Ok.index c.args.room.now.file_no file number at kept in
    let serves = room_serves g.P.Ground c.args.pages.now index c.args.room.now (length c.args.body.now) is in
    let from : NoRoom g.P.Ground c.args.pages.now c.in-Ok.index (length c.args.body.now) 0 c.start-from.result =
    subst (λ (n : ℕ). NoRoom g.P.Ground c.args.pages.now c.in-Ok.index (length c.args.body.now) 0 n) (sym c.start-from.ensures) (subst (λ (i : Index). NoRoom g.P.Ground c.args.pages.now i (length c.args.body.now) 0 (start_of c.args.room.now (length c.args.body.now))) same serves) in
    let placed = c.in-Ok-place_from.ensures.placed told_b here (none_kept g.P.Ground c.args.pages.now c.index_of.new.pages c.in-Ok.index (length c.args.body.now) 0 c.start-from.result kept from) in
    subst (λ (i : Index). PlacesBody g.P.Ground c.args.pages.now c.place_from.new.pages i c.in-Ok-place_from.place c.args.body.now) (sym same)
    (kept_places g.P.Ground c.args.pages.now c.index_of.new.pages c.place_from.new.pages c.in-Ok.index c.in-Ok-place_from.place c.args.body.now kept placed)

pub returns-in-Ok-place_from-clause-anywhere : goal.returns-in-Ok-place_from-clause-anywhere
returns-in-Ok-place_from-clause-anywhere g c = λ told index file number.
    let kept = c.index_of.ensures.kept in
    let at = c.in-Ok.ensures.found told in
    let told_b = g.P.Ground.leads_told c.args.pages.now c.index_of.new.pages kept.leads told in
    let same = the_index g.P.Ground c.args.pages.now index c.in-Ok.index c.args.room.now.file_no file number at in
    let here = found_file g.P.Ground c.args.pages.now c.index_of.new.pages index c.in-Ok.index c.args.room.now.file_no file number at kept in
    subst (λ (i : Index). PutsBody g.P.Ground c.args.pages.now c.place_from.new.pages i c.in-Ok-place_from.place c.args.body.now) (sym same)
    (kept_puts g.P.Ground c.args.pages.now c.index_of.new.pages c.place_from.new.pages c.in-Ok.index c.in-Ok-place_from.place c.args.body.now kept (c.in-Ok-place_from.ensures.puts told_b here))

pub returns-in-Err-place_from-clause-sound : goal.returns-in-Err-place_from-clause-sound
returns-in-Err-place_from-clause-sound g c = λ damage told index file number.
    let kept = c.index_of.ensures.kept in
    let told_b = g.P.Ground.leads_told c.args.pages.now c.index_of.new.pages kept.leads told in
    c.in-Err-place_from.ensures.sound damage told_b (found_file g.P.Ground c.args.pages.now c.index_of.new.pages index c.in-Ok.index c.args.room.now.file_no file number (c.in-Ok.ensures.found told) kept)

pub returns-in-Err-place_from-clause-fault : goal.returns-in-Err-place_from-clause-fault
returns-in-Err-place_from-clause-fault g c = λ told.
    listed c.in-Ok.index (c.in-Ok.ensures.lists told)
    (carried_held g.P.Ground c.args.pages.now c.index_of.new.pages (λ y k u. IsPlacingFault y k u c.in-Ok.index (start_of c.args.room.now (length c.args.body.now)) c.in-Err-place_from.fault) c.index_of.ensures.kept
    (λ told_b. subst (λ (n : ℕ). IsPlacingFault (g.P.Ground.geometry c.index_of.new.pages) (g.P.Ground.held c.index_of.new.pages) (g.P.Ground.image c.index_of.new.pages) c.in-Ok.index n c.in-Err-place_from.fault) c.start-from.ensures (c.in-Err-place_from.ensures.fault told_b)) told)

pub returns-in-Ok-place_from-clause-way : goal.returns-in-Ok-place_from-clause-way
returns-in-Ok-place_from-clause-way g c = λ told. record {
  index = c.in-Ok.index;
  lists = c.in-Ok.ensures.lists told;
  holds = carried g.P.Ground c.args.pages.now c.index_of.new.pages (λ y u. IsPlacing y u c.in-Ok.index (start_of c.args.room.now (length c.args.body.now)) c.in-Ok-place_from.place.page) c.index_of.ensures.kept
      (λ told_b. subst (λ (n : ℕ). IsPlacing (g.P.Ground.geometry c.index_of.new.pages) (g.P.Ground.image c.index_of.new.pages) c.in-Ok.index n c.in-Ok-place_from.place.page) c.start-from.ensures (c.in-Ok-place_from.ensures.way told_b)) told;
}

pub place_from-requires-clause-fits : goal.place_from-requires-clause-fits
place_from-requires-clause-fits g c = fits_after g.P.Ground _ _ c.index_of.ensures.kept.leads _ c.requires.fits

pub returns-in-Ok-place_from-clause-leads : goal.returns-in-Ok-place_from-clause-leads
returns-in-Ok-place_from-clause-leads g c = g.P.Ground.leads_trans _ _ _ c.index_of.ensures.kept.leads c.place_from.ensures.leads

pub returns-in-Err-place_from-clause-leads : goal.returns-in-Err-place_from-clause-leads
returns-in-Err-place_from-clause-leads g c = g.P.Ground.leads_trans _ _ _ c.index_of.ensures.kept.leads c.place_from.ensures.leads

pub returns-in-Err-place_from-clause-cause : goal.returns-in-Err-place_from-clause-cause
returns-in-Err-place_from-clause-cause g c =
    cause_after g.P.Ground _ _ c.index_of.ensures.kept.leads c.place_from.new.pages c.in-Err-place_from.fault c.in-Err-place_from.ensures.cause

pub place_from-requires-clause-ready : goal.place_from-requires-clause-ready
place_from-requires-clause-ready g c = g.P.Ground.leads_ready _ _ c.index_of.ensures.kept.leads c.requires.ready

pub returns-in-Ok-place_from-clause-free : goal.returns-in-Ok-place_from-clause-free
returns-in-Ok-place_from-clause-free g c = free_since _ _ _ _ c.in-Ok-place_from.ensures.free (ap (λ (f : Area → ℕ). f Page) c.index_of.ensures.kept.free)

pub returns-in-Ok-place_from-clause-leaves : goal.returns-in-Ok-place_from-clause-leaves
returns-in-Ok-place_from-clause-leaves g c = c.in-Ok-place_from.ensures.leaves ∙ ap (λ (f : Area → ℕ). f Segment) c.index_of.ensures.kept.free

pub returns-in-Err-clause-fault : goal.returns-in-Err-clause-fault
returns-in-Err-clause-fault g c = λ told. unlisted (c.in-Err.ensures.fault told)

pub returns-in-Ok-place_from-clause-takes : goal.returns-in-Ok-place_from-clause-takes
returns-in-Ok-place_from-clause-takes g c =
    kept_takes g.P.Ground c.args.pages.now c.index_of.new.pages c.place_from.new.pages c.index_of.ensures.kept c.in-Ok-place_from.ensures.takes

pub place_from-requires-clause-free : goal.place_from-requires-clause-free
place_from-requires-clause-free g c = subst (λ (f : Area → ℕ). body_pages ≤ f Page) (sym c.index_of.ensures.kept.free) c.requires.free

pub returns-in-Ok-place_from-clause-touches : goal.returns-in-Ok-place_from-clause-touches
returns-in-Ok-place_from-clause-touches g c = most_since _ _ _ _ c.in-Ok-place_from.ensures.touches c.index_of.ensures.kept.touched

pub place_from-requires-clause-some : goal.place_from-requires-clause-some
place_from-requires-clause-some g c = c.requires.some

pub returns-in-Err-clause-cause : goal.returns-in-Err-clause-cause
returns-in-Err-clause-cause g c = c.in-Err.ensures.cause

pub returns-in-Err-clause-leads : goal.returns-in-Err-clause-leads
returns-in-Err-clause-leads g c = c.index_of.ensures.kept.leads

pub returns-in-Err-clause-sound : goal.returns-in-Err-clause-sound
returns-in-Err-clause-sound g c = λ damage told index file number.
    c.in-Err.ensures.sound damage told file.catalog.whole index (subst (λ (n : ℕ). index_at (g.P.Ground.image c.args.pages.now) n ≡ Some index) number
    file.entry)

pub returns-in-Err-place_from-clause-anywhere : goal.returns-in-Err-place_from-clause-anywhere
returns-in-Err-place_from-clause-anywhere g c = tt

pub returns-in-Err-place_from-clause-placed : goal.returns-in-Err-place_from-clause-placed
returns-in-Err-place_from-clause-placed g c = tt

pub returns-in-Err-place_from-clause-way : goal.returns-in-Err-place_from-clause-way
returns-in-Err-place_from-clause-way g c = tt

pub overflow_cast-room : goal.overflow_cast-room
overflow_cast-room g c = omega (arith, short_body (g.P.Ground.geometry c.args.pages.now) (length c.args.body.now) c.requires.fits)

pub place_from-requires-clause-usable : goal.place_from-requires-clause-usable
place_from-requires-clause-usable g c = record { same_file = refl; level = c.in-Ok.ensures.usable.level; root = c.in-Ok.ensures.usable.root }

pub returns-in-Err-place_from-clause-unplaced : goal.returns-in-Err-place_from-clause-unplaced
returns-in-Err-place_from-clause-unplaced g c = refl

pub returns-in-Ok-place_from-clause-grows : goal.returns-in-Ok-place_from-clause-grows
returns-in-Ok-place_from-clause-grows g c = λ held.
    c.in-Ok-place_from.ensures.grows (subst (λ (h : ℕ → Bool). h c.in-Ok-place_from.place.page.0 ≡ true) (sym c.index_of.ensures.kept.held) held)
    ∙ c.index_of.ensures.kept.free
