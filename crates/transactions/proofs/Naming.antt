-- How a line that names a version is answered.
use Rattle.std.proofs.Common.{◌≡◌, ◌∙◌, ℕ, ◌<◌, ◌≤◌, ◌+◌, Bool, true, false, List, [], ◌∷◌, ◌++◌, length, Option, Some, None, Result, Ok, Err, refl, sym, ap, subst, arith, inl, inr}
use Rattle.std.proofs.lemmas.Bool.{le-ltb, lt-ltb}
use Rattle.std.proofs.Math.Seq.{take-append_seam}
use Rattle.std.specs.Prelude.{is_none, nat_lt, take}
use Rattle.std.specs.Option.{option_or}
use Rattle.ex_base.specs.declared.names.Oid.{Oid}
use Rattle.ex_base.specs.Bytes.{bytes_at}
use Rattle.disk_model.specs.Outside.{Outside}
use Rattle.table_model.specs.declared.machine.Machine.{Machine}
use Rattle.table_model.specs.declared.machine.Pick.{Pick}
use Rattle.table_model.specs.declared.reply.Refusal.{Refusal}
use Rattle.table_model.specs.declared.reply.Refusal.TheVariants as refusal
use Rattle.table_model.specs.declared.reply.Reply.{Reply}
use Rattle.table_model.specs.declared.reply.Reply.TheVariants as reply
use Rattle.version_lists.specs.declared.version.Version.{Version}
use Rattle.table_model.specs.Machines.{oid_of, shown, version_if, version_of, bytes_if, oid_if, size_of, the_oid}
use Rattle.table_model.specs.Refusals.{first, no_name, no_object, range, refusal_of, when}
use Rattle.table_model.specs.Requests.{Request, Reference}
use Rattle.table_model.specs.Requests as request
use Rattle.table_model.specs.Steps.{IsAllowed, IfAccepted, reply_to, machine_after}
use Rattle.table_model.specs.Tables.{version_at}
use Rattle.table_model.proofs.Stepping.{accepted, refused}
use Rattle.session_views.specs.declared.stop.Stop.{Stop}
use Rattle.session_views.specs.View.{View, ShowsNow, Stepped}
use Rattle.versions.specs.Found.{root_of}
use Rattle.session_core.specs.declared.session.objects.Named.{Named}
use Rattle.session_core.specs.Sessions.{SessionState, IsSession}
use Rattle.session_core.specs.Meant.{meant, pick_of, held_view}
use Rattle.session_core.specs.Steps.{OnlyFrames}
use Rattle.session_core.specs.Finding.{IfFound, IfShown, IsMissing, IsNamed, IsOutside, LineStops, NamesVersion, content_named}
use Rattle.transactions.specs.Lines.{ReadsLine}
use Rattle.session_core.proofs.Quiet.{same_view, with_groups}
use Rattle.session_core.proofs.Naming.{frames_twice, later_stops}

-- ---- its first two refusals

-- and that of a name that it gives, between them, where a version is found or not
unfoldable pub named_first : Option Oid → Option Version → Bool → Option Refusal → Option Refusal
named_first oid version taken last = option_or (when (is_none oid) refusal.NoName) (option_or (when taken refusal.NameTaken) (option_or (when (is_none version) refusal.NoObject) last))

pub refuses_missing : (m : Machine) (x : Reference) (why : Refusal) (rest : List (Option Refusal)) → IsMissing m x why → first (no_name m x ∷ no_object m x ∷ rest) ≡ Some why
refuses_missing m x why rest (inl (is, none)) =
    ap (λ (o : Option Oid). option_or (when (is_none o) refusal.NoName) (first (no_object m x ∷ rest))) none ∙ ap (λ (w : Refusal). Some w) (sym is)
refuses_missing m x why rest (inr (is, (oid, named, none))) =
    ap (λ (o : Option Oid). option_or (when (is_none o) refusal.NoName) (option_or (when (is_none (version_if (shown m) o)) refusal.NoObject) (first rest))) named
    ∙ ap (λ (v : Option Version). option_or (when (is_none v) refusal.NoObject) (first rest)) none
    ∙ ap (λ (w : Refusal). Some w) (sym is)

pub the_version : (m : Machine) (x : Reference) (oid : Oid) (version : Version) → oid_of m x ≡ Some oid → version_at (shown m) oid ≡ Some version → version_of m x ≡ Some version
the_version m x oid version named is = ap (λ (o : Option Oid). version_if (shown m) o) named ∙ is

-- the version that is named is the one that it stands for
pub the_oid_named : (before : View SessionState) (x : Reference) (named : Named) → NamesVersion before x named → the_oid before.machine x ≡ named.oid
the_oid_named before x named names = ap oid_if (the_version before.machine x named.oid names.told.version names.named_by names.told.is) ∙ names.told.named

pub the_size_named : (before : View SessionState) (x : Reference) (named : Named) → NamesVersion before x named → size_of before.machine x ≡ named.found.size
the_size_named before x named names = ap (λ (o : Option Version). length (bytes_if o)) (the_version before.machine x named.oid names.told.version names.named_by names.told.is) ∙ sym names.told.size

pub names_pass : (m : Machine) (x : Reference) (oid : Oid) (version : Version) (rest : List (Option Refusal)) → oid_of m x ≡ Some oid → version_at (shown m) oid ≡ Some version
    → first (no_name m x ∷ no_object m x ∷ rest) ≡ first rest
names_pass m x oid version rest named is =
    ap (λ (o : Option Oid). option_or (when (is_none o) refusal.NoName) (option_or (when (is_none (version_of m x)) refusal.NoObject) (first rest))) named
    ∙ ap (λ (v : Option Version). option_or (when (is_none v) refusal.NoObject) (first rest)) (the_version m x oid version named is)

pub names_so : {w : Outside} {old : SessionState} (x : Reference) (named : Named) (told : Result Named Refusal) → told ≡ Ok named → IfShown w old (λ before. IsNamed before x told) → IfShown w old (λ before. NamesVersion before x named)
names_so x named told is names = λ before same now. subst (λ (r : Result Named Refusal). IsNamed before x r) is (names before same now)

pub misses_so : {w : Outside} {old : SessionState} (x : Reference) (why : Refusal) (told : Result Named Refusal) → told ≡ Err why → IfShown w old (λ before. IsNamed before x told) → IfShown w old (λ before. IsMissing before.machine x why)
misses_so x why told is names = λ before same now. subst (λ (r : Result Named Refusal). IsNamed before x r) is (names before same now)

-- ---- a line that only reads

-- it is answered by the machine's reply, and the machine stays
pub answers_so : {a b : Outside} {old new : SessionState} (r : Request) (told : Reply) → OnlyFrames a b old new → IsSession old → (before : View SessionState) → before.session ≡ old → ShowsNow meant a before
    → ((q : Pick) → None ≡ refusal_of before.machine r q) → ((q : Pick) → told ≡ reply_to before.machine r q) → ((q : Pick) → before.machine ≡ machine_after before.machine r q) → ((q : Pick) → IsAllowed before.machine r q)
    → Stepped meant before r told new b
answers_so {a} {b} {old} {new} r told only is before same now accepts replies stays allowed =
    let q = pick_of (held_view before) r (held_view (with_groups before new)) in
    record {
      after = with_groups before new;
      is = refl;
      shows = same_view before same now only is.sizes;
      step = accepted before.machine r q told before.machine (accepts q) (replies q) (stays q) (subst (λ (o : Option Refusal). IfAccepted o (IsAllowed before.machine r q)) (accepts q) (allowed q));
    }

pub refuses_so : {a b : Outside} {old new : SessionState} (r : Request) (why : Refusal) → OnlyFrames a b old new → IsSession old → (before : View SessionState) → before.session ≡ old → ShowsNow meant a before
    → ((q : Pick) → refusal_of before.machine r q ≡ Some why) → Stepped meant before r (reply.No why) new b
refuses_so {a} {b} {old} {new} r why only is before same now refuses =
    let q = pick_of (held_view before) r (held_view (with_groups before new)) in
    record {
      after = with_groups before new;
      is = refl;
      shows = same_view before same now only is.sizes;
      step = refused before.machine r q why (reply.No why) before.machine (sym (refuses q)) refl refl (subst (λ (o : Option Refusal). IfAccepted o (IsAllowed before.machine r q)) (sym (refuses q)) tt);
    }

-- where the version that it names is missing
pub missing_refused : {a b : Outside} {old new : SessionState} (r : Request) (x : Reference) (why : Refusal) → OnlyFrames a b old new → IsSession old → IfShown a old (λ before. IsMissing before.machine x why)
    → ((m : Machine) (q : Pick) → IsMissing m x why → refusal_of m r q ≡ Some why) → ReadsLine a b old new r (Ok (reply.No why))
missing_refused r x why only is missing refuses = record {
  only = only;
  stops = tt;
  sound = tt;
  stepped = λ before same now. refuses_so r why only is before same now (λ q. refuses before.machine q (missing before same now));
}

pub line_stops : {a b : Outside} {old new : SessionState} (r : Request) (why : Stop) → OnlyFrames a b old new → LineStops a b why → IfShown a old (λ before. IsOutside why) → ReadsLine a b old new r (Err why)
line_stops r why only stops sound = record { only = only; stops = stops; sound = sound; stepped = tt }

-- ---- the bytes of a version

pub size_line : {a b : Outside} {old new : SessionState} (x : Reference) (named : Named) → OnlyFrames a b old new → IsSession old → IfShown a old (λ before. NamesVersion before x named)
    → ReadsLine a b old new (request.Size x) (Ok (reply.Size named.found.size))
size_line x named only is names = record {
  only = only;
  stops = tt;
  sound = tt;
  stepped = λ before same now.
      let n = names before same now in
      let t = n.told in
      let m = before.machine in
      answers_so (request.Size x) (reply.Size named.found.size) only is before same now
      (λ q. sym (names_pass m x named.oid t.version [] n.named_by t.is))
      (λ q. ap reply.Size (t.size ∙ ap (λ (o : Option Version). length (bytes_if o)) (sym (the_version m x named.oid t.version n.named_by t.is))))
      (λ q. refl)
      (λ q. (tt, λ update. absurd (cc)));
}

pub size_refused : {a b : Outside} {old new : SessionState} (x : Reference) (why : Refusal) → OnlyFrames a b old new → IsSession old → IfShown a old (λ before. IsMissing before.machine x why)
    → ReadsLine a b old new (request.Size x) (Ok (reply.No why))
size_refused x why only is missing = missing_refused (request.Size x) x why only is missing (λ m q. refuses_missing m x why [])

-- ---- bytes of a version

-- where the line's bytes end, against the bytes of the version
pub range_of : (m : Machine) (x : Reference) (oid : Oid) (version : Version) (end : ℕ) (b : Bool) → oid_of m x ≡ Some oid → version_at (shown m) oid ≡ Some version → nat_lt (length version.bytes) end ≡ b
    → range m x end ≡ when b refusal.Range
range_of m x oid version end b named is lt =
    ap (λ (v : Option Version). when (nat_lt (length (bytes_if v)) end) refusal.Range) (the_version m x oid version named is) ∙ ap (λ (t : Bool). when t refusal.Range) lt

pub read_refused : {a b : Outside} {old new : SessionState} (x : Reference) (pos len : ℕ) (why : Refusal) → OnlyFrames a b old new → IsSession old → IfShown a old (λ before. IsMissing before.machine x why)
    → ReadsLine a b old new (request.Read x pos len) (Ok (reply.No why))
read_refused x pos len why only is missing = missing_refused (request.Read x pos len) x why only is missing (λ m q. refuses_missing m x why (range m x (pos + len) ∷ []))

pub read_outside : {a b : Outside} {old new : SessionState} (x : Reference) (pos len : ℕ) (named : Named) → OnlyFrames a b old new → IsSession old → IfShown a old (λ before. NamesVersion before x named)
    → named.found.size < pos + len → ReadsLine a b old new (request.Read x pos len) (Ok (reply.No refusal.Range))
read_outside x pos len named only is names outside = record {
  only = only;
  stops = tt;
  sound = tt;
  stepped = λ before same now.
      let n = names before same now in
      let t = n.told in
      let m = before.machine in
      refuses_so (request.Read x pos len) refusal.Range only is before same now (λ q.
      names_pass m x named.oid t.version (range m x (pos + len) ∷ []) n.named_by t.is
      ∙ ap (λ (o : Option Refusal). first (o ∷ [])) (range_of m x named.oid t.version (pos + len) true n.named_by t.is (lt-ltb (length t.version.bytes) (pos + len) (omega (arith, outside, t.size)))));
}

module _ {a b c : Outside} {old mid new : SessionState} (x : Reference) (pos len : ℕ) (named : Named) (one : OnlyFrames a b old mid) (two : OnlyFrames b c mid new) (is : IsSession old)
    (names : IfShown a old (λ before. NamesVersion before x named)) (inside : pos + len ≤ named.found.size) where
  -- it has the root that was told, where it is read
  rooted_still : (before : View SessionState) → before.session ≡ old → NamesVersion before x named → named.found.root ≡ root_of (content_named (held_view (with_groups before mid)) named.oid)
  rooted_still before same n =
      let sessions : mid ≡ record before.session { groups = mid.groups } = one.same ∙ ap (λ (s : SessionState). record s { groups = mid.groups }) (sym same) in
      subst (λ (s : SessionState). named.found.root ≡ root_of (content_named (held_view (with_groups before s)) named.oid)) (sym sessions) n.told.root

  pub read_line : (out : List ℕ) → IfShown b mid (λ before. IfFound before named (λ bytes. out ≡ bytes_at bytes pos len)) → ReadsLine a c old new (request.Read x pos len) (Ok (reply.Read out))
  read_line out read = record {
    only = frames_twice one two;
    stops = tt;
    sound = tt;
    stepped = λ before same now.
        let n = names before same now in
        let t = n.told in
        let m = before.machine in
        answers_so (request.Read x pos len) (reply.Read out) (frames_twice one two) is before same now
        (λ q. sym (names_pass m x named.oid t.version (range m x (pos + len) ∷ []) n.named_by t.is
        ∙ ap (λ (o : Option Refusal). first (o ∷ [])) (range_of m x named.oid t.version (pos + len) false n.named_by t.is (le-ltb (length t.version.bytes) (pos + len) (omega (arith, inside, t.size))))))
        (λ q. ap reply.Read (read (with_groups before mid) refl (same_view before same now one is.sizes) t.version t.is (rooted_still before same n)
        ∙ ap (λ (o : Option Version). bytes_at (bytes_if o) pos len) (sym (the_version m x named.oid t.version n.named_by t.is))))
        (λ q. refl)
        (λ q. (tt, λ update. absurd (cc)));
  }

  pub read_stopped : (why : Stop) → LineStops b c why → IfShown b mid (λ before. IfFound before named (λ bytes. pos + len ≤ length bytes → IsOutside why)) → ReadsLine a c old new (request.Read x pos len) (Err why)
  read_stopped why stops sound = record {
    only = frames_twice one two;
    stops = later_stops a b c why one.reads stops;
    sound = λ before same now.
        let n = names before same now in
        let t = n.told in
        sound (with_groups before mid) refl (same_view before same now one is.sizes) t.version t.is (rooted_still before same n) (omega (arith, inside, t.size));
    stepped = tt;
  }

-- what was read into a list that is as long is what the list has
pub taken_back : (n : ℕ) (out rest : List ℕ) → length out ≡ n → take n (out ++ rest) ≡ out
taken_back n out rest same = subst (λ (m : ℕ). take m (out ++ rest) ≡ out) same (take-append_seam out rest)
