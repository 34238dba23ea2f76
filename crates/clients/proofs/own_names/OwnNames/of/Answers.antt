use Rattle.std.proofs.Common.{◌∙◌, ap, ℕ, List, IsTrue}
use Rattle.table_model.specs.Requests.{request_of}
use Rattle.table_model.specs.Words.{is_name}
use Rattle.clients.specs.Names.{group_in, name_in, own_if, subject_in}
use Rattle.clients.proofs.Names.{group_spelled, if_mapped, name_spelled, named_as, subject_spelled}
use Rattle.clients.proofs.own_names.OwnNames.of.Goals as goal

pub own_or_main-requires-clause-name : goal.own_or_main-requires-clause-name
own_or_main-requires-clause-name c =
    let r = request_of c.args.command.now in
    if_mapped c.subject_of.result (λ name. name.now) (subject_in r) (λ (name : List ℕ). IsTrue (is_name name)) c.subject_of.ensures (subject_spelled r c.requires.names)

pub own_or_main-requires-2-clause-name : goal.own_or_main-requires-2-clause-name
own_or_main-requires-2-clause-name c =
    let r = request_of c.args.command.now in
    if_mapped c.name_of.result (λ name. name.now) (name_in r) (λ (name : List ℕ). IsTrue (is_name name)) c.name_of.ensures (name_spelled r c.requires.names)

pub own_or_main-requires-3-clause-name : goal.own_or_main-requires-3-clause-name
own_or_main-requires-3-clause-name c =
    let r = request_of c.args.command.now in
    if_mapped c.group_of.result (λ name. name.now) (group_in r) (λ (name : List ℕ). IsTrue (is_name name)) c.group_of.ensures (group_spelled r c.requires.names)

pub returns : goal.returns
returns c =
    let own = own_if c.args.client in
    named_as c.args.client (request_of c.args.command.now) c.own_or_main.result c.own_or_main-2.result c.own_or_main-3.result (c.own_or_main.ensures ∙ ap own c.subject_of.ensures)
    (c.own_or_main-2.ensures ∙ ap own c.name_of.ensures) (c.own_or_main-3.ensures ∙ ap own c.group_of.ensures)
