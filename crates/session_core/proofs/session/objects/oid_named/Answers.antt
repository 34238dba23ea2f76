use Rattle.std.proofs.Common.{refl, ap, inr}
use Rattle.table_model.specs.declared.command.Subject.{Subject}
use Rattle.table_model.specs.Requests.{reference_of}
use Rattle.session_core.specs.Finding.{oid_among}
use Rattle.session_core.proofs.session.objects.oid_named.Goals as goal

pub returns-in-None-oid_of : goal.returns-in-None-oid_of
returns-in-None-oid_of c = let named = ap (λ (s : Subject). oid_among c.args.names.now (reference_of s)) c.in-Number.is in inr (refl, (_, named, c.in-None-oid_of.ensures.none refl))
