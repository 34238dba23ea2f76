use Rattle.std.proofs.Common.{◌≤◌, ◌+◌, ◌*◌, ℕ, Bool, List, Some, true, length, take, refl, ap, ◌∙◌, arith}
use Rattle.ex_base.specs.declared.names.Area.TheVariants.{Page, Segment}
use Rattle.ex_base.specs.Bytes.{length-repl}
use Rattle.page_alloc.specs.UnitSet.{used_at}
use Rattle.tree_store.specs.Stored.{unit_bytes, unit_len}
use Rattle.tree_store.specs.Whole.{leaf_len, leaf_range}
use Rattle.tree_store.proofs.Places.{area_unit}
use Rattle.tree_store.proofs.Taking.{differ_used, front_written, grows, other_written, taken_area, taken_counted, updated_here, updated_other}
use Rattle.memory_ports.proofs.Writing.{follows_on_units}
use Rattle.memory_ports.proofs.volume.MemoryVolumeBlocks.new_leaf.Goals as goal

pub put_part-requires : goal.put_part-requires
put_part-requires c =
    let m = c.args.self.now in
    let g = m.geometry in
    let p = c.take-page.result.0 in
    let area = taken_area g m.units Segment p c.requires.ready.counted.geometry c.take-page.ensures.lowest in
    omega (arith, leaf_range g p 0 (length c.args.bytes.now) (length m.bytes.items) area (omega (arith, c.requires.fits)) (omega (arith, c.requires.ready.bytes_len)))

pub returns-clause-pages : goal.returns-clause-pages
returns-clause-pages c = c.take-page.ensures.other_free Page (λ same. cc)

pub returns-clause-leads : goal.returns-clause-leads
returns-clause-leads c =
    let m = c.args.self.now in
    let g = m.geometry in
    let p = c.take-page.result.0 in
    let took = c.take-page.ensures in
    let area = taken_area g m.units Segment p c.requires.ready.counted.geometry took.lowest in
    let unit = area_unit g Segment p area in
    let fits : p * g.page_size + length c.args.bytes.now ≤ length m.bytes.items = omega (arith, leaf_range g p 0 (length c.args.bytes.now) (length m.bytes.items) area (omega (arith, c.requires.fits)) (omega (arith, c.requires.ready.bytes_len))) in
    follows_on_units g m.units c.take-page.new.self m.bytes.items c.put_part.new.bytes.items m.images.items m.images.items m.held.items (λ before. taken_counted g m.units c.take-page.new.self p before unit took.geometry took.used took.refs)
    (ap length c.put_part.ensures ∙ length-repl m.bytes.items (p * g.page_size) c.args.bytes.now fits) refl (grows (used_at m.units) (used_at c.take-page.new.self) p took.used took.lowest.free)

pub returns-clause-taken : goal.returns-clause-taken
returns-clause-taken c =
    let m = c.args.self.now in
    let g = m.geometry in
    let p = c.take-page.result.0 in
    let took = c.take-page.ensures in
    let area = taken_area g m.units Segment p c.requires.ready.counted.geometry took.lowest in
    let unit = area_unit g Segment p area in
    let fits : p * g.page_size + length c.args.bytes.now ≤ length m.bytes.items = omega (arith, leaf_range g p 0 (length c.args.bytes.now) (length m.bytes.items) area (omega (arith, c.requires.fits)) (omega (arith, c.requires.ready.bytes_len))) in
    let used = took.used in
    let free = took.lowest.free in
    let room : length c.args.bytes.now ≤ unit_len g p = omega (arith, c.requires.fits, leaf_len g p area) in
    record {
      named = area;
      was_free = free;
      now_used = ap (λ (f : ℕ → Bool). f p) used ∙ updated_here (used_at m.units) p true;
      bytes = λ told. ap (λ (l : List ℕ). take (length c.args.bytes.now) (unit_bytes g (Some l) p)) c.put_part.ensures ∙ front_written g p m.bytes.items c.args.bytes.now room fits;
      units = λ q is. ap (λ (l : List ℕ). unit_bytes g (Some l) q) c.put_part.ensures
          ∙ other_written g p q m.bytes.items c.args.bytes.now unit (c.requires.ready.counted.named q is) (differ_used (used_at m.units) p q free is) room fits;
      images = λ q differ. refl;
      used = λ q differ. ap (λ (f : ℕ → Bool). f q) used ∙ updated_other (used_at m.units) p true q differ;
      held = refl;
    }
