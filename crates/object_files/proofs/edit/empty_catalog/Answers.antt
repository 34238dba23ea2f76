use Rattle.std.proofs.Common.{List, ℕ, length, sym, ap, subst, ◌∙◌}
use Rattle.std.specs.Prelude.{slice_set}
use Rattle.ex_base.specs.Bytes.{written}
use Rattle.ex_base.specs.Fields.{eight_bytes}
use Rattle.object_files.specs.Catalog.{CatalogOf, fresh_catalog}
use Rattle.object_files.proofs.EditLaws.{emptied}
use Rattle.object_files.proofs.edit.empty_catalog.Goals as goal

pub returns : goal.returns
returns c =
    subst (λ (x : List ℕ). CatalogOf x fresh_catalog)
    (sym (c.put_u64.ensures ∙ ap (λ (t : List ℕ). written (slice_set t 0 1) 8 (eight_bytes 1)) (c.fill.ensures.after (λ y e. e))))
    (emptied (length c.args.image.now) c.requires.head c.requires.size)
