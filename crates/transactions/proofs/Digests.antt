-- How a line is answered that asks for the digest of a version.
use Rattle.std.proofs.Common.{◌≡◌, ◌∙◌, ◌≤◌, ℕ, List, [], length, Option, Ok, Err, refl, sym, ap, arith}
use Rattle.sha2.specs.Sha256.{sha256}
use Rattle.disk_model.specs.Outside.{Outside}
use Rattle.session_views.specs.declared.stop.Stop.{Stop}
use Rattle.table_model.specs.declared.reply.Refusal.{Refusal}
use Rattle.table_model.specs.declared.reply.Reply.TheVariants as reply
use Rattle.version_lists.specs.declared.version.Version.{Version}
use Rattle.table_model.specs.Machines.{bytes_if}
use Rattle.table_model.specs.Requests.{Reference}
use Rattle.table_model.specs.Requests as request
use Rattle.session_core.specs.declared.session.objects.Named.{Named}
use Rattle.session_core.specs.Finding.{IfLive, IfShown, IsMissing, IsOutside, LineStops, NamesVersion}
use Rattle.transactions.specs.Lines.{ReadsLine}
use Rattle.session_core.specs.Sessions.{SessionState, IsSession}
use Rattle.session_core.specs.Steps.{OnlyFrames}
use Rattle.transactions.proofs.Naming.{answers_so, missing_refused, names_pass, refuses_missing, the_version}
use Rattle.session_core.proofs.Naming.{frames_twice, later_stops}
use Rattle.session_core.proofs.Quiet.{same_view, with_groups}

-- ---- the line

pub digest_refused : {a b : Outside} {old new : SessionState} (x : Reference) (why : Refusal) → OnlyFrames a b old new → IsSession old → IfShown a old (λ before. IsMissing before.machine x why)
    → ReadsLine a b old new (request.Digest x) (Ok (reply.No why))
digest_refused x why only is missing = missing_refused (request.Digest x) x why only is missing (λ m q. refuses_missing m x why [])

module _ {a b c : Outside} {old mid new : SessionState} (x : Reference) (named : Named) (one : OnlyFrames a b old mid) (two : OnlyFrames b c mid new) (is : IsSession old)
    (names : IfShown a old (λ before. NamesVersion before x named)) where
  pub digest_line : (hash : List ℕ) → IfShown b mid (λ before. IfLive before named.oid (λ bytes. length bytes ≡ named.found.size → hash ≡ sha256 bytes)) → ReadsLine a c old new (request.Digest x) (Ok (reply.Digest hash))
  digest_line hash told = record {
    only = frames_twice one two;
    stops = tt;
    sound = tt;
    stepped = λ before same now.
        let n = names before same now in
        let t = n.told in
        let m = before.machine in
        answers_so (request.Digest x) (reply.Digest hash) (frames_twice one two) is before same now
        (λ q. sym (names_pass m x named.oid t.version [] n.named_by t.is))
        (λ q. ap reply.Digest (told (with_groups before mid) refl (same_view before same now one is.sizes) t.version t.is (sym t.size)
        ∙ ap (λ (o : Option Version). sha256 (bytes_if o)) (sym (the_version m x named.oid t.version n.named_by t.is))))
        (λ q. refl)
        (λ q. (tt, λ update. absurd (cc)));
  }

  pub digest_stopped : (why : Stop) → LineStops b c why → IfShown b mid (λ before. IfLive before named.oid (λ bytes. named.found.size ≤ length bytes → IsOutside why)) → ReadsLine a c old new (request.Digest x) (Err why)
  digest_stopped why stops sound = record {
    only = frames_twice one two;
    stops = later_stops a b c why one.reads stops;
    sound = λ before same now.
        let t = (names before same now).told in
        sound (with_groups before mid) refl (same_view before same now one is.sizes) t.version t.is (omega (arith, t.size));
    stepped = tt;
  }
