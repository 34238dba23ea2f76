use Rattle.std.proofs.Common.{arith}
use Rattle.script_lines.proofs.Buffers.{between_inside}
use Rattle.script_lines.proofs.lines.part.Goals as goal

pub returns : goal.returns
returns c = between_inside c.args.buffer.now c.args.from c.args.to _ _ c.requires (λ h. grind (arith, h)) (λ h. grind (arith, h)) (λ h. grind (arith, h)) (λ h. grind (arith, h))
