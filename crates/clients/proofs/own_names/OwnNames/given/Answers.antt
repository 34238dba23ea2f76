use Rattle.std.proofs.Common.{◌≡◌, sym, subst, true}
use Rattle.table_model.specs.Requests.{Request, is_request, request_of}
use Rattle.clients.proofs.Names.{renamed_form}
use Rattle.clients.proofs.own_names.OwnNames.given.Goals as goal

pub returns-clause-form : goal.returns-clause-form
returns-clause-form c =
    subst (λ (r : Request). is_request r ≡ true) (sym c.renamed.ensures)
    (renamed_form c.as_slice.result.now c.as_slice-2.result.now c.as_slice-3.result.now (rw c.as_slice.ensures.bytes c.as_slice.ensures.kept) (rw c.as_slice-2.ensures.bytes c.as_slice-2.ensures.kept)
    (rw c.as_slice-3.ensures.bytes c.as_slice-3.ensures.kept) (request_of c.args.command) c.requires)
