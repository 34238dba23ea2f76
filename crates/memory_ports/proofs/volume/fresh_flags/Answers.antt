use Rattle.std.proofs.Common.{◌<◌, Bool, List, true, false, length, ap, ◌∙◌, arith}
use Rattle.std.proofs.lemmas.List.{get_or-set_same, get_or-set_other}
use Rattle.ex_base.specs.Area.{catalog_no}
use Rattle.memory_ports.specs.InMemory.{flag_in}
use Rattle.memory_ports.proofs.Writing.{none_set}
use Rattle.memory_ports.proofs.volume.fresh_flags.Goals as goal

pub returns-clause-catalog : goal.returns-clause-catalog
returns-clause-catalog c =
    let flags = c.in_ok-held.held.items in
    let inside : catalog_no < length flags = omega (arith, c.in_ok-held.held.ok.0, c.in_ok-held.ensures.len) in
    get_or-set_same flags catalog_no true false inside

pub returns-clause-others : goal.returns-clause-others
returns-clause-others c = λ p differ.
    let flags = c.in_ok-held.held.items in
    get_or-set_other flags catalog_no p true false differ ∙ ap (λ (l : List Bool). flag_in l p) (c.in_ok-held.ensures.items_if_clones_equal (λ y same. same)) ∙ none_set _ p
