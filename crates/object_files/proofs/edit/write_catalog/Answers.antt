use Rattle.std.proofs.Common.{ℕ, List, ◌+◌, ◌-◌, ◌/◌, ◌++◌, length, ap, ◌∙◌, arith}
use Rattle.ex_base.specs.Bytes.{written}
use Rattle.ex_base.specs.Fields.{two_bytes, eight_bytes, zeros}
use Rattle.object_files.specs.Catalog.{headed}
use Rattle.object_files.proofs.WholePages.{page_written}
use Rattle.object_files.proofs.edit.write_catalog.Goals as goal

pub returns : goal.returns
returns c =
    let n : ℕ = length c.args.entries.now / 48 in
    c.put_bytes.ensures
    ∙ ap (λ (t : List ℕ). written t 32 c.args.entries.now) (c.put_u64-2.ensures ∙ ap (λ (t : List ℕ). written t 16 (eight_bytes c.args.last_txn)) (c.put_u64.ensures ∙ ap (λ (t : List ℕ). written t 8 (eight_bytes c.args.next_unique)) c.put_u16.ensures))
    ∙ page_written c.empty_catalog.new.image c.args.entries.now n c.args.next_unique c.args.last_txn c.empty_catalog.ensures (omega arith)
    ∙ ap (λ (k : ℕ). headed n c.args.next_unique c.args.last_txn (c.args.entries.now ++ zeros (k - (32 + length c.args.entries.now)))) c.empty_catalog.auto.image
