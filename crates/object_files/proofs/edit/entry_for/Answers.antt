use Rattle.std.proofs.Common.{List, ℕ, ap, ◌∙◌}
use Rattle.ex_base.specs.Bytes.{written}
use Rattle.ex_base.specs.Fields.{four_bytes}
use Rattle.object_files.proofs.EntryEdits.{entry_made}
use Rattle.object_files.proofs.edit.entry_for.Goals as goal

pub returns : goal.returns
returns c = c.put_u32.ensures ∙ ap (λ (t : List ℕ). written t 40 (four_bytes c.args.file_no)) c.put_bytes.ensures ∙ entry_made c.args.name.now c.args.file_no c.requires
