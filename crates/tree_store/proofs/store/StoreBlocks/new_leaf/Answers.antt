use Rattle.std.proofs.Common.{◌≤◌, ◌+◌, ◌*◌, ℕ, Bool, true, length, refl, ap, ◌∙◌, arith}
use Rattle.ex_base.specs.declared.names.Area.TheVariants.{Page, Segment}
use Rattle.page_alloc.specs.UnitSet.{used_at}
use Rattle.tree_store.specs.Stored.{unit_len}
use Rattle.tree_store.specs.Whole.{leaf_len, leaf_range}
use Rattle.tree_store.proofs.Places.{area_unit}
use Rattle.tree_store.proofs.Taking.{differ_used, other_unit, taken_area, taken_bytes, taken_counted, taken_leads, updated_here, updated_other}
use Rattle.tree_store.proofs.store.StoreBlocks.new_leaf.Goals as goal

pub returns-clause-pages : goal.returns-clause-pages
returns-clause-pages g c = c.take-page.ensures.other_free Page (λ same. cc)

pub returns-in_err-write_unit-clause-leads : goal.returns-in_err-write_unit-clause-leads
returns-in_err-write_unit-clause-leads g c =
    let s = c.args.self.now in
    let p = c.take-page.result.0 in
    let took = c.take-page.ensures in
    let area = taken_area s.geometry s.units.now Segment p c.requires.ready.counted.geometry took.lowest in
    let unit = area_unit s.geometry Segment p area in
    let used = took.used in
    let free = took.lowest.free in
    let room : length c.args.bytes.now ≤ unit_len s.geometry p = omega (arith, c.requires.fits, leaf_len s.geometry p area) in
    taken_leads g.D.World.outside s.disk _ s.units _ s.groups _ s.index s.geometry p (length c.args.bytes.now) refl refl refl used
    (λ before. taken_counted s.geometry s.units.now c.take-page.new.self p before unit took.geometry took.used took.refs) unit free room
    c.write_unit.ensures.changes c.write_unit.ensures.kinds c.write_unit.ensures.sizes c.write_unit.ensures.lends c.write_unit.ensures.behind

pub returns-clause-leads : goal.returns-clause-leads
returns-clause-leads g c =
    let s = c.args.self.now in
    let p = c.take-page.result.0 in
    let took = c.take-page.ensures in
    let area = taken_area s.geometry s.units.now Segment p c.requires.ready.counted.geometry took.lowest in
    let unit = area_unit s.geometry Segment p area in
    let used = took.used in
    let free = took.lowest.free in
    let room : length c.args.bytes.now ≤ unit_len s.geometry p = omega (arith, c.requires.fits, leaf_len s.geometry p area) in
    taken_leads g.D.World.outside s.disk _ s.units _ s.groups _ s.index s.geometry p (length c.args.bytes.now) refl refl refl used
    (λ before. taken_counted s.geometry s.units.now c.take-page.new.self p before unit took.geometry took.used took.refs) unit free room
    c.write_unit.ensures.changes c.write_unit.ensures.kinds c.write_unit.ensures.sizes c.write_unit.ensures.lends c.write_unit.ensures.behind

pub returns-clause-taken : goal.returns-clause-taken
returns-clause-taken g c =
    let s = c.args.self.now in
    let p = c.take-page.result.0 in
    let took = c.take-page.ensures in
    let area = taken_area s.geometry s.units.now Segment p c.requires.ready.counted.geometry took.lowest in
    let unit = area_unit s.geometry Segment p area in
    let used = took.used in
    let free = took.lowest.free in
    let room : length c.args.bytes.now ≤ unit_len s.geometry p = omega (arith, c.requires.fits, leaf_len s.geometry p area) in
    let was = g.D.World.outside s.disk.now in
    let is = g.D.World.outside c.write_unit.new.disk in
    let fits : p * s.geometry.page_size + length c.args.bytes.now ≤ was.size = omega (arith, leaf_range s.geometry p 0 (length c.args.bytes.now) was.size area (omega (arith, c.requires.fits)) c.requires.ready.disk) in
    let world = g.D.World.is_world s.disk.now in
    record {
      named = area;
      was_free = free;
      now_used = ap (λ (f : ℕ → Bool). f p) used ∙ updated_here (used_at s.units.now) p true;
      bytes = λ told. taken_bytes was is s.geometry p c.args.bytes.now told.1 c.in_ok-write_unit.ensures.written room fits world;
      units = λ q held. other_unit was is s.geometry p q c.args.bytes.now was.disk refl c.write_unit.ensures.changes.only.goes c.in_ok-write_unit.ensures.written unit
          (c.requires.ready.counted.named q held) (differ_used (used_at s.units.now) p q free held) room fits world;
      images = λ q differ. refl;
      used = λ q differ. ap (λ (f : ℕ → Bool). f q) used ∙ updated_other (used_at s.units.now) p true q differ;
      held = refl;
    }

pub returns-clause-others : goal.returns-clause-others
returns-clause-others g c =
    let s = c.args.self.now in
    let p = c.take-page.result.0 in
    let took = c.take-page.ensures in
    let area = taken_area s.geometry s.units.now Segment p c.requires.ready.counted.geometry took.lowest in
    let unit = area_unit s.geometry Segment p area in
    let used = took.used in
    let free = took.lowest.free in
    let room : length c.args.bytes.now ≤ unit_len s.geometry p = omega (arith, c.requires.fits, leaf_len s.geometry p area) in
    let was = g.D.World.outside s.disk.now in
    let is = g.D.World.outside c.write_unit.new.disk in
    let fits : p * s.geometry.page_size + length c.args.bytes.now ≤ was.size = omega (arith, leaf_range s.geometry p 0 (length c.args.bytes.now) was.size area (omega (arith, c.requires.fits)) c.requires.ready.disk) in
    let world = g.D.World.is_world s.disk.now in
    λ q other differ. other_unit was is s.geometry p q c.args.bytes.now was.disk refl c.write_unit.ensures.changes.only.goes c.in_ok-write_unit.ensures.written unit other differ room fits world
