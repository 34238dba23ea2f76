use Rattle.std.proofs.Common.{List, ℕ, ◌+◌, ◌-◌, length, ap, ◌∙◌, arith}
use Rattle.ex_base.specs.Bytes.{bytes_at, written}
use Rattle.ex_base.specs.Fields.{zeros}
use Rattle.ex_base.proofs.Places.{length-bytes_at}
use Rattle.ex_base.proofs.Splices.{replaced}
use Rattle.ex_base.proofs.splice.replace_bytes.Goals as goal

pub returns : goal.returns
returns c =
    c.clear_bytes.ensures
    ∙ ap (λ (t : List ℕ). written t (c.args.start + length c.args.body.now + (c.args.end - c.args.old_end)) (zeros (c.args.limit - (c.args.start + length c.args.body.now + (c.args.end - c.args.old_end))))) (c.put_bytes.ensures ∙ ap (λ (t : List ℕ). written t c.args.start c.args.body.now) c.move_bytes.ensures)
    ∙ replaced c.args.image.now c.args.body.now (bytes_at c.args.image.now c.args.old_end (c.args.end - c.args.old_end)) c.args.start (c.args.end - c.args.old_end) c.args.limit (length-bytes_at c.args.image.now c.args.old_end (c.args.end - c.args.old_end) (omega (arith, c.requires.tail, c.requires.end, c.requires.room))) c.requires.fits c.requires.room
