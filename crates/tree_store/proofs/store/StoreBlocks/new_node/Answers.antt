use Rattle.std.proofs.Common.{◌≡◌, ◌≤◌, ◌*◌, ℕ, Bool, true, false, List, length, refl, ap, sym, subst, ◌∙◌, arith}
use Rattle.disk_model.specs.Calls.{Wrote}
use Rattle.ex_base.specs.declared.names.Area.TheVariants.{Page, Segment}
use Rattle.page_alloc.specs.UnitSet.{used_at, updated}
use Rattle.tree_store.specs.Stored.{unit_len}
use Rattle.tree_store.proofs.Places.{area_unit, node_fits, page_len}
use Rattle.tree_store.proofs.Taking.{differ_used, other_unit, same_free, taken_area, taken_bytes, taken_counted, taken_leads, taken_whole, updated_here, updated_other}
use Rattle.tree_store.proofs.store.StoreBlocks.new_node.Goals as goal

pub take-page-requires : goal.take-page-requires
take-page-requires g c =
    let s = c.args.self.now in
    let named = c.count_names.ensures in
    omega (arith, c.requires.free, same_free s.geometry s.units.now c.count_names.new.units Page c.requires.ready.counted named.counted named.used)

pub returns-clause-pages : goal.returns-clause-pages
returns-clause-pages g c =
    let s = c.args.self.now in
    let named = c.count_names.ensures in
    c.take-page.ensures.free ∙ same_free s.geometry s.units.now c.count_names.new.units Page c.requires.ready.counted named.counted named.used

pub returns-clause-leaves : goal.returns-clause-leaves
returns-clause-leaves g c =
    let s = c.args.self.now in
    let named = c.count_names.ensures in
    c.take-page.ensures.other_free Segment (λ same. cc) ∙ same_free s.geometry s.units.now c.count_names.new.units Segment c.requires.ready.counted named.counted named.used

pub returns-clause-references : goal.returns-clause-references
returns-clause-references g c = λ p. ap (λ (f : ℕ → ℕ). f p) c.take-page.ensures.refs ∙ c.count_names.ensures.refs p

pub returns-in_err-write_node-clause-leads : goal.returns-in_err-write_node-clause-leads
returns-in_err-write_node-clause-leads g c =
    let s = c.args.self.now in
    let p = c.take-page.result.0 in
    let took = c.take-page.ensures in
    let named = c.count_names.ensures in
    let area = taken_area s.geometry c.count_names.new.units Page p named.counted.geometry took.lowest in
    let unit = area_unit s.geometry Page p area in
    let used : used_at c.take-page.new.self ≡ updated (used_at s.units.now) p true = took.used ∙ ap (λ (f : ℕ → Bool). updated f p true) named.used in
    let free : used_at s.units.now p ≡ false = ap (λ (f : ℕ → Bool). f p) (sym named.used) ∙ took.lowest.free in
    let room : s.geometry.page_size ≤ unit_len s.geometry p = omega (arith, page_len s.geometry p area) in
    let counted = taken_counted s.geometry c.count_names.new.units c.take-page.new.self p named.counted unit took.geometry took.used took.refs in
    taken_leads g.D.World.outside s.disk _ s.units _ s.groups _ s.index s.geometry p s.geometry.page_size refl refl refl used (λ before. counted) unit free room
    c.write_node.ensures.changes c.write_node.ensures.kinds c.write_node.ensures.sizes c.write_node.ensures.lends c.write_node.ensures.behind

pub returns-clause-leads : goal.returns-clause-leads
returns-clause-leads g c =
    let s = c.args.self.now in
    let p = c.take-page.result.0 in
    let took = c.take-page.ensures in
    let named = c.count_names.ensures in
    let area = taken_area s.geometry c.count_names.new.units Page p named.counted.geometry took.lowest in
    let unit = area_unit s.geometry Page p area in
    let used : used_at c.take-page.new.self ≡ updated (used_at s.units.now) p true = took.used ∙ ap (λ (f : ℕ → Bool). updated f p true) named.used in
    let free : used_at s.units.now p ≡ false = ap (λ (f : ℕ → Bool). f p) (sym named.used) ∙ took.lowest.free in
    let room : s.geometry.page_size ≤ unit_len s.geometry p = omega (arith, page_len s.geometry p area) in
    let counted = taken_counted s.geometry c.count_names.new.units c.take-page.new.self p named.counted unit took.geometry took.used took.refs in
    taken_leads g.D.World.outside s.disk _ s.units _ s.groups _ s.index s.geometry p s.geometry.page_size refl refl refl used (λ before. counted) unit free room
    c.write_node.ensures.changes c.write_node.ensures.kinds c.write_node.ensures.sizes c.write_node.ensures.lends c.write_node.ensures.behind

pub returns-clause-taken : goal.returns-clause-taken
returns-clause-taken g c =
    let s = c.args.self.now in
    let p = c.take-page.result.0 in
    let took = c.take-page.ensures in
    let named = c.count_names.ensures in
    let area = taken_area s.geometry c.count_names.new.units Page p named.counted.geometry took.lowest in
    let unit = area_unit s.geometry Page p area in
    let used : used_at c.take-page.new.self ≡ updated (used_at s.units.now) p true = took.used ∙ ap (λ (f : ℕ → Bool). updated f p true) named.used in
    let free : used_at s.units.now p ≡ false = ap (λ (f : ℕ → Bool). f p) (sym named.used) ∙ took.lowest.free in
    let room : length c.args.bytes.now ≤ unit_len s.geometry p = omega (arith, c.requires.page, page_len s.geometry p area) in
    let counted = taken_counted s.geometry c.count_names.new.units c.take-page.new.self p named.counted unit took.geometry took.used took.refs in
    let was = g.D.World.outside s.disk.now in
    let is = g.D.World.outside c.write_node.new.disk in
    let fits = node_fits s.geometry p (length c.args.bytes.now) was.size area c.requires.page c.requires.ready.disk in
    let world = g.D.World.is_world s.disk.now in
    let wrote = subst (λ (l : List ℕ). Wrote (p * s.geometry.page_size) l was is) c.in_ok-image.ensures c.in_ok-write_node.ensures.written in
    record {
      named = area;
      was_free = free;
      now_used = ap (λ (f : ℕ → Bool). f p) used ∙ updated_here (used_at s.units.now) p true;
      bytes = λ told. taken_bytes was is s.geometry p c.args.bytes.now told.1 wrote room fits world;
      units = λ q held. other_unit was is s.geometry p q c.args.bytes.now was.disk refl c.write_node.ensures.changes.only.goes wrote unit
          (c.requires.ready.counted.named q held) (differ_used (used_at s.units.now) p q free held) room fits world;
      images = λ q differ. refl;
      used = λ q differ. ap (λ (f : ℕ → Bool). f q) used ∙ updated_other (used_at s.units.now) p true q differ;
      held = refl;
    }

pub returns-clause-whole : goal.returns-clause-whole
returns-clause-whole g c = λ told.
    let s = c.args.self.now in
    let p = c.take-page.result.0 in
    let area = taken_area s.geometry c.count_names.new.units Page p c.count_names.ensures.counted.geometry c.take-page.ensures.lowest in
    let was = g.D.World.outside s.disk.now in
    let is = g.D.World.outside c.write_node.new.disk in
    let fits = node_fits s.geometry p (length c.args.bytes.now) was.size area c.requires.page c.requires.ready.disk in
    let wrote = subst (λ (l : List ℕ). Wrote (p * s.geometry.page_size) l was is) c.in_ok-image.ensures c.in_ok-write_node.ensures.written in
    taken_whole was is s.geometry p c.args.bytes.now told.1 wrote (page_len s.geometry p area ∙ sym c.requires.page) fits (g.D.World.is_world s.disk.now)

pub returns-clause-others : goal.returns-clause-others
returns-clause-others g c =
    let s = c.args.self.now in
    let p = c.take-page.result.0 in
    let took = c.take-page.ensures in
    let named = c.count_names.ensures in
    let area = taken_area s.geometry c.count_names.new.units Page p named.counted.geometry took.lowest in
    let unit = area_unit s.geometry Page p area in
    let used : used_at c.take-page.new.self ≡ updated (used_at s.units.now) p true = took.used ∙ ap (λ (f : ℕ → Bool). updated f p true) named.used in
    let free : used_at s.units.now p ≡ false = ap (λ (f : ℕ → Bool). f p) (sym named.used) ∙ took.lowest.free in
    let room : length c.args.bytes.now ≤ unit_len s.geometry p = omega (arith, c.requires.page, page_len s.geometry p area) in
    let counted = taken_counted s.geometry c.count_names.new.units c.take-page.new.self p named.counted unit took.geometry took.used took.refs in
    let was = g.D.World.outside s.disk.now in
    let is = g.D.World.outside c.write_node.new.disk in
    let fits = node_fits s.geometry p (length c.args.bytes.now) was.size area c.requires.page c.requires.ready.disk in
    let world = g.D.World.is_world s.disk.now in
    let wrote = subst (λ (l : List ℕ). Wrote (p * s.geometry.page_size) l was is) c.in_ok-image.ensures c.in_ok-write_node.ensures.written in
    λ q other differ. other_unit was is s.geometry p q c.args.bytes.now was.disk refl c.write_node.ensures.changes.only.goes wrote unit other differ room fits world
