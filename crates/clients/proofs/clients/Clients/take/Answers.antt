use Rattle.std.proofs.Common.{◌≡◌, sym, subst}
use Rattle.table_model.specs.Requests.{Request, request_of}
use Rattle.script_lang.specs.LineWords.{words_of}
use Rattle.script_lang.specs.Reading.{Asks, Fails}
use Rattle.clients.specs.Names.{owned}
use Rattle.clients.specs.Prepared.{with_names}
use Rattle.clients.proofs.Fronts.{asks_loud}
use Rattle.clients.proofs.Nameless.{nameless_renamed}
use Rattle.clients.proofs.clients.Clients.take.Goals as goal

pub returns-then-not-may_name-clause-names : goal.returns-then-not-may_name-clause-names
returns-then-not-may_name-clause-names c r says =
    nameless_renamed c.args.client c.args.self.now.names.subject c.args.self.now.names.name c.args.self.now.names.group r (c.may_name.ensures.none c.if-not-may_name.true r says)

pub returns-in-Ok-Some-clause-names : goal.returns-in-Ok-Some-clause-names
returns-in-Ok-Some-clause-names c r says =
    let one = rw c.in-Ok-Some.field-0-is at c.in-Ok-Some.ensures.one in
    let same : Asks r ≡ Asks (request_of c.in-Ok-Some.command) = one (Asks r) says in
    let request : r ≡ request_of c.in-Ok-Some.command = cc in
    subst (λ (x : Request). with_names c.of-self.result x ≡ owned c.args.client x) (sym request) c.of-self.ensures

pub returns-in-Ok-Some-clause-quiet : goal.returns-in-Ok-Some-clause-quiet
returns-in-Ok-Some-clause-quiet c silent =
    absurd (asks_loud (words_of c.args.said.now) (request_of c.in-Ok-Some.command) (rw c.in-Ok-Some.field-0-is at c.in-Ok-Some.ensures.one) silent)

pub returns-in-Err-clause-names : goal.returns-in-Err-clause-names
returns-in-Err-clause-names c r says =
    let other : Asks r ≡ Fails c.in-Err.field-0 = c.in-Err.ensures.one (Asks r) says in
    absurd (cc)
