use Rattle.std.proofs.Common.{◌≡◌, ◌∙◌, ◌++◌, ◌∷◌, [], ℕ, List, ap, None, true, false}
use Rattle.std.specs.Prelude.{bytes_eq}
use Rattle.std.specs.Map.{lookup}
use Rattle.indexmap.proofs.CallerLemmas.{insert_entry-new}
use Rattle.table_model.specs.declared.machine.BoundName.{BoundName}
use Rattle.bound_names.specs.Bindings.{is_bound, rows_of}
use Rattle.bound_names.proofs.Rows.{bound_oid-rows_of, none_bound, rows_of-push}
use Rattle.bound_names.proofs.names.NameMap.bind.Goals as goal

pub returns-clause-ok : goal.returns-clause-ok
returns-clause-ok c =
    let name = c.args.name.now in
    let es = c.self.inside.oids.entries in
    let n = c.self.inside.settled in
    let key = c.in_ok-key.key in
    let same : key.items ≡ name = (c.in_ok-key.ensures {u = tt}).items in
    let free : is_bound (rows_of (λ k. k.items) n es) name ≡ false = ap (λ (rows : List BoundName). is_bound rows name) c.self.view_is ∙ c.requires in
    let none : lookup (λ k. bytes_eq name k.items) es ≡ None = none_bound _ _ name (bound_oid-rows_of (λ k. k.items) name n es) free in
    let none_of_key : lookup (λ k. bytes_eq key.items k.items) es ≡ None = ap (λ (q : List ℕ). lookup (λ k. bytes_eq q k.items) es) same ∙ none in
    let put = insert_entry-new (λ x y. bytes_eq x.items y.items) c.self.inside.oids key c.args.oid none_of_key in
    let entries = (c.in_ok-insert.ensures {u = tt}).entries ∙ put in
    ap (rows_of (λ k. k.items) n) entries
    ∙ rows_of-push (λ k. k.items) n es (key, c.args.oid) c.self.invariant
    ∙ (λ i. c.self.view_is i ++ record { name = same i; oid = c.args.oid; marked = true } ∷ [])
