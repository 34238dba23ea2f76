use Rattle.std.proofs.Common.{◌≡◌, ◌≢◌, ◌<◌, false, length, refl, sym, ap, ◌∙◌, arith, ⊎_elim}
use Rattle.std.proofs.lemmas.Bool.{cases_eq, both_ways}
use Rattle.std.proofs.lemmas.List.{get_or-set_same, get_or-set_other, length-set}
use Rattle.ex_base.specs.Area.{catalog_no}
use Rattle.memory_ports.specs.InMemory.{flag_in}
use Rattle.memory_ports.proofs.Writing.{follows_on_parts}
use Rattle.memory_ports.proofs.volume.MemoryVolumePages.give_page.Goals as goal

pub returns-clause-leads : goal.returns-clause-leads
returns-clause-leads c =
    let m = c.args.self.now in
    let p = c.args.page.0 in
    let inside : p < length m.held.items = omega (arith, c.requires.page.1, c.requires.ready.flags_len) in
    follows_on_parts m.geometry m.units m.units m.bytes.items m.bytes.items m.images.items m.images.items m.held.items _ (λ is. is) refl refl (length-set m.held.items p false)
    (get_or-set_other m.held.items p catalog_no false false (λ same. c.requires.other (sym same)))
    (λ is q set. ⊎_elim
    (λ (here : q ≡ p). absurd (both_ways _ (get_or-set_same m.held.items p false false inside) (sym (ap (flag_in _) here) ∙ set)))
    (λ (differ : q ≢ p). is q (sym (get_or-set_other m.held.items p q false false differ) ∙ set)) (cases_eq q p))
