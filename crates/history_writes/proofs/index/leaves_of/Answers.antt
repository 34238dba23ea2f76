use Rattle.std.proofs.Common.{◌≡◌, ◌+◌, ◌++◌, ◌∷◌, [], List, sym, ap, ◌∙◌, arith}
use Rattle.file_index.specs.declared.Entry.{Entry}
use Rattle.even_indexes.specs.Levels.{leaf}
use Rattle.history_writes.specs.Indexed.{leaves_from}
use Rattle.history_writes.proofs.Levels.{leaves_more}
use Rattle.history_writes.proofs.index.leaves_of.Goals as goal

pub pages-preserved : goal.pages-preserved
pages-preserved c = c.in_ok-push.ensures.items ∙ ap (λ (es : List Entry). es ++ leaf (c.args.first + c.pages.index) ∷ []) c.pages.invariant ∙ sym (leaves_more c.args.first c.pages.index)

pub returns : goal.returns
returns c =
    let end : c.pages.index ≡ c.args.pages = omega (arith, c.pages-test.false, c.pages.auto.index-end) in
    c.pages.invariant ∙ ap (leaves_from c.args.first) end
