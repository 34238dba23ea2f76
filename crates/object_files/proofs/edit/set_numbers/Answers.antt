use Rattle.std.proofs.Common.{List, ℕ, sym, ap, subst, ◌∙◌, arith}
use Rattle.ex_base.specs.Bytes.{written}
use Rattle.ex_base.specs.Fields.{eight_bytes}
use Rattle.object_files.specs.Catalog.{CatalogOf}
use Rattle.object_files.specs.Reads.{catalog_on, with_numbers}
use Rattle.object_files.proofs.EditLaws.{numbers_changed}
use Rattle.object_files.proofs.edit.set_numbers.Goals as goal

pub returns : goal.returns
returns c =
    subst (λ (x : List ℕ). CatalogOf x (with_numbers (catalog_on c.args.image.now) c.args.next_unique c.args.last_txn))
    (sym (c.put_u64-2.ensures ∙ ap (λ (t : List ℕ). written t 16 (eight_bytes c.args.last_txn)) c.put_u64.ensures))
    (numbers_changed c.args.image.now (catalog_on c.args.image.now) c.args.next_unique c.args.last_txn c.requires.page c.requires.next (omega arith) (omega arith))
