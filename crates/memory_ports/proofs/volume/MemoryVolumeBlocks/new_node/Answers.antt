use Rattle.std.proofs.Common.{◌≡◌, ◌≤◌, ◌*◌, ℕ, Bool, List, Some, true, false, length, take, refl, ap, sym, ◌∙◌, arith}
use Rattle.ex_base.specs.declared.names.Area.TheVariants.{Page, Segment}
use Rattle.ex_base.specs.Bytes.{length-repl}
use Rattle.page_alloc.specs.UnitSet.{used_at, updated}
use Rattle.tree_store.specs.Stored.{unit_bytes, unit_len}
use Rattle.tree_store.proofs.Places.{area_unit, node_fits, page_len}
use Rattle.tree_store.proofs.Taking.{differ_used, front_written, grows, other_written, same_free, taken_area, taken_counted, updated_here, updated_other, whole_written}
use Rattle.memory_ports.proofs.Writing.{follows_on_units}
use Rattle.memory_ports.proofs.volume.MemoryVolumeBlocks.new_node.Goals as goal

pub take-page-requires : goal.take-page-requires
take-page-requires c =
    let m = c.args.self.now in
    let named = c.count_names.ensures in
    omega (arith, c.requires.free, same_free m.geometry m.units c.count_names.new.units Page c.requires.ready.counted named.counted named.used)

pub returns-clause-pages : goal.returns-clause-pages
returns-clause-pages c =
    let m = c.args.self.now in
    let named = c.count_names.ensures in
    c.take-page.ensures.free ∙ same_free m.geometry m.units c.count_names.new.units Page c.requires.ready.counted named.counted named.used

pub returns-clause-leaves : goal.returns-clause-leaves
returns-clause-leaves c =
    let m = c.args.self.now in
    let named = c.count_names.ensures in
    c.take-page.ensures.other_free Segment (λ same. cc) ∙ same_free m.geometry m.units c.count_names.new.units Segment c.requires.ready.counted named.counted named.used

pub returns-clause-references : goal.returns-clause-references
returns-clause-references c = λ p. ap (λ (f : ℕ → ℕ). f p) c.take-page.ensures.refs ∙ c.count_names.ensures.refs p

pub returns-clause-leads : goal.returns-clause-leads
returns-clause-leads c =
    let m = c.args.self.now in
    let g = m.geometry in
    let p = c.take-page.result.0 in
    let took = c.take-page.ensures in
    let named = c.count_names.ensures in
    let area = taken_area g c.count_names.new.units Page p named.counted.geometry took.lowest in
    let unit = area_unit g Page p area in
    let fits = node_fits g p (length c.args.bytes.now) (length m.bytes.items) area c.requires.page (omega (arith, c.requires.ready.bytes_len)) in
    let used : used_at c.take-page.new.self ≡ updated (used_at m.units) p true = took.used ∙ ap (λ (f : ℕ → Bool). updated f p true) named.used in
    let free : used_at m.units p ≡ false = ap (λ (f : ℕ → Bool). f p) (sym named.used) ∙ took.lowest.free in
    follows_on_units g m.units c.take-page.new.self m.bytes.items c.put_part.new.bytes.items m.images.items m.images.items m.held.items (λ before. taken_counted g c.count_names.new.units c.take-page.new.self p named.counted unit took.geometry took.used took.refs)
    (ap length c.put_part.ensures ∙ length-repl m.bytes.items (p * g.page_size) c.args.bytes.now fits) refl (grows (used_at m.units) (used_at c.take-page.new.self) p used free)

pub returns-clause-taken : goal.returns-clause-taken
returns-clause-taken c =
    let m = c.args.self.now in
    let g = m.geometry in
    let p = c.take-page.result.0 in
    let took = c.take-page.ensures in
    let named = c.count_names.ensures in
    let area = taken_area g c.count_names.new.units Page p named.counted.geometry took.lowest in
    let unit = area_unit g Page p area in
    let fits = node_fits g p (length c.args.bytes.now) (length m.bytes.items) area c.requires.page (omega (arith, c.requires.ready.bytes_len)) in
    let used : used_at c.take-page.new.self ≡ updated (used_at m.units) p true = took.used ∙ ap (λ (f : ℕ → Bool). updated f p true) named.used in
    let free : used_at m.units p ≡ false = ap (λ (f : ℕ → Bool). f p) (sym named.used) ∙ took.lowest.free in
    let room : length c.args.bytes.now ≤ unit_len g p = omega (arith, c.requires.page, page_len g p area) in
    record {
      named = area;
      was_free = free;
      now_used = ap (λ (f : ℕ → Bool). f p) used ∙ updated_here (used_at m.units) p true;
      bytes = λ told. ap (λ (l : List ℕ). take (length c.args.bytes.now) (unit_bytes g (Some l) p)) c.put_part.ensures ∙ front_written g p m.bytes.items c.args.bytes.now room fits;
      units = λ q is. ap (λ (l : List ℕ). unit_bytes g (Some l) q) c.put_part.ensures
          ∙ other_written g p q m.bytes.items c.args.bytes.now unit (c.requires.ready.counted.named q is) (differ_used (used_at m.units) p q free is) room fits;
      images = λ q differ. refl;
      used = λ q differ. ap (λ (f : ℕ → Bool). f q) used ∙ updated_other (used_at m.units) p true q differ;
      held = refl;
    }

pub returns-clause-whole : goal.returns-clause-whole
returns-clause-whole c = λ told.
    let m = c.args.self.now in
    let g = m.geometry in
    let p = c.take-page.result.0 in
    let took = c.take-page.ensures in
    let named = c.count_names.ensures in
    let area = taken_area g c.count_names.new.units Page p named.counted.geometry took.lowest in
    let unit = area_unit g Page p area in
    let fits = node_fits g p (length c.args.bytes.now) (length m.bytes.items) area c.requires.page (omega (arith, c.requires.ready.bytes_len)) in
    ap (λ (l : List ℕ). unit_bytes g (Some l) p) c.put_part.ensures ∙ whole_written g p m.bytes.items c.args.bytes.now (page_len g p area ∙ sym c.requires.page) fits
