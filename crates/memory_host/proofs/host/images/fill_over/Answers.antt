use Rattle.std.proofs.Common.{ap, ◌∙◌, ℕ, ◌+◌, ◌-◌, ◌≡◌, take, drop, replicate, length, arith}
use Rattle.std.proofs.lemmas.List.{length-replicate, length-take, length-drop}
use Rattle.ex_base.specs.Bytes.{copied_slice}
use Rattle.memory_host.proofs.host.images.fill_over.Goals as goal

pub returns : goal.returns
returns c =
    let long : length (take (c.args.at + c.args.count - c.args.at) (drop c.args.at c.args.disk.now)) ≡ c.args.count =
    omega (arith, c.requires, length-take (c.args.at + c.args.count - c.args.at) (drop c.args.at c.args.disk.now), length-drop c.args.at c.args.disk.now) in
    copied_slice c.args.disk.now c.args.at c.args.count (replicate c.args.count c.args.byte) c.fill.new.self (length-replicate c.args.count c.args.byte) c.requires
    (c.fill.ensures.after (λ y is. is) ∙ ap (λ (n : ℕ). replicate n c.args.byte) long)
