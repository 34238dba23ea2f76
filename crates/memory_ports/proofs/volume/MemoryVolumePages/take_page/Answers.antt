use Rattle.std.proofs.Common.{◌≡◌, ◌≢◌, ◌<◌, ◌*◌, ℕ, Bool, List, true, false, length, refl, sym, ap, ◌∙◌, arith, ⊎_elim}
use Rattle.std.proofs.lemmas.Bool.{cases_eq, both_ways}
use Rattle.std.proofs.lemmas.List.{get_or-set_same, get_or-set_other, length-set}
use Rattle.ex_base.specs.declared.names.Area.TheVariants.{Page, Segment}
use Rattle.ex_base.specs.Bytes.{length-repl}
use Rattle.ex_base.specs.Area.{catalog_no}
use Rattle.page_alloc.specs.UnitSet.{used_at, updated}
use Rattle.tree_store.specs.Stored.{IsCounted}
use Rattle.tree_store.proofs.Places.{area_unit}
use Rattle.tree_store.proofs.Taking.{grows, taken_area, taken_counted, updated_here, updated_other}
use Rattle.memory_ports.specs.InMemory.{flag_in, image_in}
use Rattle.memory_ports.proofs.Writing.{follows_on_parts, free_unset, image_fits, image_put, image_stays}
use Rattle.memory_ports.proofs.volume.MemoryVolumePages.take_page.Goals as goal

pub returns-clause-leaves : goal.returns-clause-leaves
returns-clause-leaves c = c.take-page.ensures.other_free Segment (λ same. cc)

pub returns-clause-leads : goal.returns-clause-leads
returns-clause-leads c =
    let m = c.args.self.now in
    let g = m.geometry in
    let p = c.take-page.result.0 in
    let took = c.take-page.ensures in
    let area = taken_area g m.units Page p c.requires.ready.counted.geometry took.lowest in
    let counted = λ (before : IsCounted g m.units). taken_counted g m.units c.take-page.new.self p before (area_unit g Page p area) took.geometry took.used took.refs in
    let apart = free_unset m.units m.held.items p c.requires.ready.in_use took.lowest.free in
    let other : p ≢ catalog_no = λ same. both_ways _ (ap (flag_in m.held.items) (sym same) ∙ apart) c.requires.ready.catalog in
    let x = c.args.image.now in
    let fits = image_fits g p (length x) (length m.images.items) area c.requires.len c.requires.ready.images_len in
    follows_on_parts g m.units c.take-page.new.self m.bytes.items m.bytes.items m.images.items c.put_part.new.bytes.items m.held.items _ counted
    refl (ap length c.put_part.ensures ∙ length-repl m.images.items (p * g.page_size) x fits) (length-set m.held.items p true)
    (get_or-set_other m.held.items p catalog_no true false (λ same. other (sym same)))
    (λ is q set. ⊎_elim
    (λ (here : q ≡ p). ap (λ (f : ℕ → Bool). f q) took.used ∙ ap (updated (used_at m.units) p true) here ∙ updated_here (used_at m.units) p true)
    (λ (differ : q ≢ p). grows (used_at m.units) (used_at c.take-page.new.self) p took.used took.lowest.free q (is q (sym (get_or-set_other m.held.items p q true false differ) ∙ set))) (cases_eq q p))

pub returns-clause-taken : goal.returns-clause-taken
returns-clause-taken c =
    let m = c.args.self.now in
    let g = m.geometry in
    let p = c.take-page.result.0 in
    let took = c.take-page.ensures in
    let area = taken_area g m.units Page p c.requires.ready.counted.geometry took.lowest in
    let apart = free_unset m.units m.held.items p c.requires.ready.in_use took.lowest.free in
    let other : p ≢ catalog_no = λ same. both_ways _ (ap (flag_in m.held.items) (sym same) ∙ apart) c.requires.ready.catalog in
    let x = c.args.image.now in
    let fits = image_fits g p (length x) (length m.images.items) area c.requires.len c.requires.ready.images_len in
    let inside : p < length m.held.items = omega (arith, area.1, c.requires.ready.flags_len) in
    record {
      area = area;
      other = other;
      was_free = took.lowest.free;
      now_used = ap (λ (f : ℕ → Bool). f p) took.used ∙ updated_here (used_at m.units) p true;
      was_not_held = apart;
      now_held = get_or-set_same m.held.items p true false inside;
      image = λ told. ap (λ (l : List ℕ). image_in g l p) c.put_part.ensures ∙ image_put g p m.images.items x c.requires.len fits;
      images = λ q differ. ap (λ (l : List ℕ). image_in g l q) c.put_part.ensures ∙ image_stays g p q m.images.items x differ c.requires.len fits;
      held = λ q differ. get_or-set_other m.held.items p q true false differ;
      used = λ q differ. ap (λ (f : ℕ → Bool). f q) took.used ∙ updated_other (used_at m.units) p true q differ;
      units = λ q is. refl;
      refs = took.refs;
    }
