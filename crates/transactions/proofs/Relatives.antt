-- How a line is answered that lists the versions of an object.
use Rattle.std.proofs.Common.{◌∙◌, List, [], Ok, Err, refl, sym, ap}
use Rattle.ex_base.specs.declared.names.Oid.{Oid}
use Rattle.disk_model.specs.Outside.{Outside}
use Rattle.table_model.specs.declared.reply.Refusal.{Refusal}
use Rattle.table_model.specs.declared.reply.Reply.TheVariants as reply
use Rattle.table_model.specs.Machines.{shown}
use Rattle.table_model.specs.Requests.{Reference}
use Rattle.table_model.specs.Requests as request
use Rattle.table_model.specs.Steps.{oids, versions_if}
use Rattle.table_model.specs.Tables.{object_at}
use Rattle.version_lists.specs.Versions.{listed}
use Rattle.session_views.specs.declared.stop.Stop.{Stop}
use Rattle.session_core.specs.declared.session.objects.Named.{Named}
use Rattle.session_core.specs.declared.session.relatives.Relation.TheVariants as relation
use Rattle.session_core.specs.Finding.{AreRelatives, IfShown, IfVersion, IsMissing, IsOutside, LineStops, NamesVersion}
use Rattle.session_core.specs.Sessions.{IsSession, SessionState}
use Rattle.session_core.specs.Steps.{OnlyFrames}
use Rattle.session_core.proofs.Naming.{frames_twice, later_stops}
use Rattle.session_core.proofs.Quiet.{same_view, with_groups}
use Rattle.transactions.specs.Lines.{ReadsLine}
use Rattle.transactions.proofs.Naming.{answers_so, missing_refused, names_pass, refuses_missing, the_oid_named}

pub versions_refused : {a b : Outside} {old new : SessionState} (x : Reference) (why : Refusal) → OnlyFrames a b old new → IsSession old → IfShown a old (λ before. IsMissing before.machine x why)
    → ReadsLine a b old new (request.Versions x) (Ok (reply.No why))
versions_refused x why only is missing = missing_refused (request.Versions x) x why only is missing (λ m q. refuses_missing m x why [])

module _ {a b c : Outside} {old mid new : SessionState} (x : Reference) (named : Named) (one : OnlyFrames a b old mid) (two : OnlyFrames b c mid new) (is : IsSession old)
    (names : IfShown a old (λ before. NamesVersion before x named)) where
  pub versions_line : (found : List Oid) → IfShown b mid (λ before. IfVersion before named.oid (λ version. AreRelatives before.machine version relation.Object found)) → ReadsLine a c old new (request.Versions x) (Ok (reply.Versions found))
  versions_line found told = record {
    only = frames_twice one two;
    stops = tt;
    sound = tt;
    stepped = λ before same now.
        let n = names before same now in
        let t = n.told in
        let m = before.machine in
        answers_so (request.Versions x) (reply.Versions found) (frames_twice one two) is before same now
        (λ q. sym (names_pass m x named.oid t.version [] n.named_by t.is))
        (λ q. ap (λ (l : List Oid). reply.Versions l) (told (with_groups before mid) refl (same_view before same now one is.sizes) t.version t.is)
        ∙ ap (λ (o : Oid). reply.Versions (oids (listed (versions_if (object_at (shown m) o))))) (t.named ∙ sym (the_oid_named before x named n)))
        (λ q. refl)
        (λ q. (tt, λ update. absurd (cc)));
  }

  pub versions_stopped : (why : Stop) → LineStops b c why → IfShown b mid (λ before. IfVersion before named.oid (λ version. IsOutside why)) → ReadsLine a c old new (request.Versions x) (Err why)
  versions_stopped why stops sound = record {
    only = frames_twice one two;
    stops = later_stops a b c why one.reads stops;
    sound = λ before same now.
        let t = (names before same now).told in
        sound (with_groups before mid) refl (same_view before same now one is.sizes) t.version t.is;
    stepped = tt;
  }
