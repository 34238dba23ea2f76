use Rattle.std.proofs.Common.{◌≢◌, ◌<◌, ℕ, Bool, true, length, refl, sym, ap, ◌∙◌, arith}
use Rattle.std.proofs.lemmas.Bool.{both_ways}
use Rattle.ex_base.specs.declared.names.Area.TheVariants.{Page, Segment}
use Rattle.ex_base.specs.Area.{catalog_no}
use Rattle.page_alloc.specs.UnitSet.{used_at}
use Rattle.tree_store.specs.Stored.{NoUnit, unit_bytes}
use Rattle.tree_store.proofs.Places.{area_unit}
use Rattle.tree_store.proofs.Taking.{counts_frees, taken_area, taken_counted, updated_here, updated_other}
use Rattle.volume_port.specs.Logged.{is_held}
use Rattle.volume_port.proofs.Moving.{free_apart, held_here, held_other, store_moves, take_grows, take_moves}
use Rattle.volume_port.proofs.WorkingRows.{image_put, images_put}
use Rattle.volume_port.proofs.pages.VolumePortPages.take_page.Goals as goal

pub returns-in_err-edit-clause-leads : goal.returns-in_err-edit-clause-leads
returns-in_err-edit-clause-leads g c =
    let s = c.args.self.now in
    let store = s.store in
    let page = c.take-page.result.0 in
    let took = c.take-page.ensures in
    let area = taken_area store.geometry store.units.now Page page c.requires.ready.ready.counted.geometry took.lowest in
    let free = took.lowest.free in
    let frees = counts_frees g.D.World.outside NoUnit store.disk store.units _ store.groups store.index store.geometry refl
    (λ p is stays. take_grows store.units.now c.take-page.new.self page took.used free p is)
    (λ before. taken_counted store.geometry store.units.now c.take-page.new.self page before (area_unit store.geometry Page page area) took.geometry took.used took.refs) in
    rw c.in_err-edit.ensures.err (store_moves _ store _ s.meta s.pages s.room s.room refl frees (λ p is stays. take_grows store.units.now c.take-page.new.self page took.used free p is))

pub returns-clause-leaves : goal.returns-clause-leaves
returns-clause-leaves g c = c.take-page.ensures.other_free Segment (λ same. cc)

pub returns-clause-taken : goal.returns-clause-taken
returns-clause-taken g c =
    let s = c.args.self.now in
    let store = s.store in
    let page = c.take-page.result.0 in
    let took = c.take-page.ensures in
    let area = taken_area store.geometry store.units.now Page page c.requires.ready.ready.counted.geometry took.lowest in
    let free = took.lowest.free in
    let apart = free_apart (used_at store.units.now) s.pages.now page c.requires.ready.in_use free in
    let other : page ≢ catalog_no = λ same. both_ways _ (ap (is_held s.pages.now) (sym same) ∙ apart) c.requires.ready.catalog in
    let inside : page < length s.pages.now = omega (arith, area.1, c.requires.ready.held_len) in
    let unit = unit_bytes store.geometry (g.D.World.outside store.disk.now).disk in
    record {
      area = area;
      other = other;
      was_free = free;
      now_used = ap (λ (f : ℕ → Bool). f page) took.used ∙ updated_here (used_at store.units.now) page true;
      was_not_held = apart;
      now_held = held_here s.pages.now c.adopt.new.self page true c.adopt.ensures inside;
      image = λ told. image_put store.geometry s.meta.now c.edit.new.self unit page c.args.image.now area c.in_ok-edit.ensures.ok;
      images = λ p differ. images_put store.geometry s.meta.now c.edit.new.self unit page p _ differ c.in_ok-edit.ensures.ok;
      held = λ p differ. held_other s.pages.now c.adopt.new.self page true c.adopt.ensures p differ;
      used = λ p differ. ap (λ (f : ℕ → Bool). f p) took.used ∙ updated_other (used_at store.units.now) page true p differ;
      units = λ p is. refl;
      refs = took.refs;
    }

pub returns-clause-leads : goal.returns-clause-leads
returns-clause-leads g c =
    let s = c.args.self.now in
    let store = s.store in
    let page = c.take-page.result.0 in
    let took = c.take-page.ensures in
    let area = taken_area store.geometry store.units.now Page page c.requires.ready.ready.counted.geometry took.lowest in
    let free = took.lowest.free in
    let frees = counts_frees g.D.World.outside NoUnit store.disk store.units _ store.groups store.index store.geometry refl
    (λ p is stays. take_grows store.units.now c.take-page.new.self page took.used free p is)
    (λ before. taken_counted store.geometry store.units.now c.take-page.new.self page before (area_unit store.geometry Page page area) took.geometry took.used took.refs) in
    let apart = free_apart (used_at store.units.now) s.pages.now page c.requires.ready.in_use free in
    let other : page ≢ catalog_no = λ same. both_ways _ (ap (is_held s.pages.now) (sym same) ∙ apart) c.requires.ready.catalog in
    let inside : page < length s.pages.now = omega (arith, area.1, c.requires.ready.held_len) in
    take_moves _ store _ s.meta _ s.pages _ s.room page c.args.image.now refl refl other inside frees free
    (ap (λ (f : ℕ → Bool). f page) took.used ∙ updated_here (used_at store.units.now) page true)
    (λ p differ. ap (λ (f : ℕ → Bool). f p) took.used ∙ updated_other (used_at store.units.now) page true p differ) c.in_ok-edit.ensures.ok c.adopt.ensures
