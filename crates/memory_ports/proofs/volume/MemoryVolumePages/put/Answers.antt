use Rattle.std.proofs.Common.{◌*◌, List, ℕ, length, refl, ap, ◌∙◌}
use Rattle.memory_ports.specs.InMemory.{image_in}
use Rattle.ex_base.specs.Bytes.{length-repl}
use Rattle.memory_ports.proofs.Writing.{follows_on_units, image_fits, image_put, image_stays}
use Rattle.memory_ports.proofs.volume.MemoryVolumePages.put.Goals as goal

pub returns-clause-put : goal.returns-clause-put
returns-clause-put c =
    let m = c.args.self.now in
    let g = m.geometry in
    let p = c.args.page.0 in
    let x = c.args.image.now in
    let fits = image_fits g p (length x) (length m.images.items) c.requires.page c.requires.len c.requires.ready.images_len in
    record {
      image = λ told. ap (λ (l : List ℕ). image_in g l p) c.put_part.ensures ∙ image_put g p m.images.items x c.requires.len fits;
      images = λ q differ. ap (λ (l : List ℕ). image_in g l q) c.put_part.ensures ∙ image_stays g p q m.images.items x differ c.requires.len fits;
      units = refl;
      used = refl;
      refs = refl;
      held = refl;
      free = refl;
    }

pub returns-clause-leads : goal.returns-clause-leads
returns-clause-leads c =
    let m = c.args.self.now in
    let g = m.geometry in
    let p = c.args.page.0 in
    let x = c.args.image.now in
    let fits = image_fits g p (length x) (length m.images.items) c.requires.page c.requires.len c.requires.ready.images_len in
    follows_on_units g m.units m.units m.bytes.items m.bytes.items m.images.items c.put_part.new.bytes.items m.held.items (λ is. is)
    refl (ap length c.put_part.ensures ∙ length-repl m.images.items (p * g.page_size) x fits) (λ q is. is)
