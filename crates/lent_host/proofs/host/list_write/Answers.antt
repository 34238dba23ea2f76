use Rattle.lent_host.proofs.host.list_write.Goals as goal

pub returns-clause-done : goal.returns-clause-done
returns-clause-done c told = (c.in-Ok.copy, c.in-Ok.ensures.items_if_clones_equal (λ x y e. e), c.if-not-list.ensures, c.write_over.ensures)
