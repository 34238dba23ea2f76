use Rattle.std.proofs.Common.{ap, sym, ◌∙◌, ◌≡◌, List, ℕ}
use Rattle.ex_base.specs.Bytes.{repl, length-repl}
use Rattle.memory_ports.proofs.Writing.{written_back}
use Rattle.std.proofs.Common.{length}
use Rattle.memory_ports.proofs.bytes.put_part.Goals as goal

pub returns : goal.returns
returns c =
    let old = c.args.bytes.now.items in
    let put : c.put_bytes.new.bytes ≡ repl old c.args.at c.args.new.now = c.put_bytes.ensures ∙ ap (λ (l : List ℕ). repl l c.args.at c.args.new.now) c.deref_mut.ensures.value in
    written_back old c.put_bytes.new.bytes c.args.bytes.now.len (ap length put ∙ length-repl old c.args.at c.args.new.now c.requires) (ap length (sym c.deref_mut.ensures.value) ∙ c.deref_mut.ensures.len) ∙ put
