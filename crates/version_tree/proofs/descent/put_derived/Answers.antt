use Rattle.std.proofs.Common.{◌≡◌, ◌++◌, ◌∷◌, [], List, true, false, sym, ap, ◌∙◌}
use Rattle.std.proofs.lemmas.List.{append-nil}
use Rattle.ex_base.specs.declared.names.Oid.{Oid}
use Rattle.version_tree.proofs.RowsGathered.{is_linked, not_linked}
use Rattle.std.proofs.lemmas.Bool.{false≢true}
use Rattle.version_tree.proofs.descent.put_derived.Goals as goal

pub returns-then-not-is_at-clause-put : goal.returns-then-not-is_at-clause-put
returns-then-not-is_at-clause-put c =
    let never = not_linked c.args.from c.args.place c.args.head.now (λ is. absurd (let yes : c.is_at.result ≡ true = c.is_at.ensures.1 is in let no : c.is_at.result ≡ false = c.if-not-is_at.true in false≢true (sym no ∙ yes))) in
    sym (ap (λ (t : List Oid). c.args.oids.now.items ++ t) never ∙ append-nil c.args.oids.now.items)

pub returns-in-Ok-clause-put : goal.returns-in-Ok-clause-put
returns-in-Ok-clause-put c =
    let linked = is_linked c.args.from c.args.place c.args.head.now (c.is_at.ensures.0 c.if-not-is_at.false) in
    c.in-Ok.ensures.items ∙ ap (λ (o : Oid). c.args.oids.now.items ++ o ∷ []) c.oid_at.ensures ∙ sym (ap (λ (t : List Oid). c.args.oids.now.items ++ t) linked)
