-- How a line is answered that asks how a version lies.
use Rattle.std.proofs.Common.{◌≡◌, ◌∙◌, ℕ, ◌+◌, Bool, true, false, cond, List, [], ◌++◌, length, take, drop, min, Option, Some, None, Ok, Err, refl, sym, ap, subst, arith}
use Rattle.std.specs.Prelude.{is_none, nat_le, ◌&&◌}
use Rattle.std.proofs.lemmas.List.{length-take, take_at}
use Rattle.ex_base.specs.declared.names.Oid.{Oid}
use Rattle.ex_base.specs.declared.names.Root.{Root}
use Rattle.disk_model.specs.Outside.{Outside}
use Rattle.table_model.specs.declared.machine.Machine.{Machine}
use Rattle.table_model.specs.declared.machine.Pick.{Pick}
use Rattle.table_model.specs.declared.reply.Refusal.{Refusal}
use Rattle.table_model.specs.declared.reply.Reply.{Reply}
use Rattle.table_model.specs.declared.reply.Reply.TheVariants as reply
use Rattle.table_model.specs.Machines.{size_of, the_oid}
use Rattle.table_model.specs.Requests.{Reference}
use Rattle.table_model.specs.Requests as request
use Rattle.table_model.specs.Steps.{reply_to, stat_reply}
use Rattle.session_views.specs.View.{View, ShowsNow, Stepped}
use Rattle.session_views.specs.declared.stop.Stop.{Stop}
use Rattle.versions.specs.Found as found_words
use Rattle.versions.specs.Found.{root_of}
use Rattle.versions.specs.Versions.{record_len}
use Rattle.versions.proofs.Standing.{large_content}
use Rattle.volume_model.specs.Shown.{Held}
use Rattle.session_core.specs.declared.session.objects.Named.{Named}
use Rattle.session_core.specs.Needs.{fits_beside, root_height, room_beside}
use Rattle.session_core.specs.Finding.{IfRoot, IfShown, IsMissing, IsOutside, LineStops, NamesVersion, TellsShape, content_named, lengths_named}
use Rattle.transactions.specs.Lines.{ReadsLine}
use Rattle.session_core.specs.Meant.{content_at, fits_small, height_of, held_view, meant, pick_of, slots_at}
use Rattle.session_core.specs.Sessions.{SessionState, IsSession}
use Rattle.session_core.specs.Steps.{OnlyFrames}
use Rattle.session_core.proofs.Accepted.{took_place}
use Rattle.session_core.proofs.Naming.{frames_twice, later_stops}
use Rattle.transactions.proofs.Naming.{missing_refused, names_pass, refuses_missing, the_oid_named, the_size_named}
use Rattle.session_core.proofs.Picking.{pick_height, pick_small}
use Rattle.session_core.proofs.Quiet.{same_view, with_groups}

-- ---- what the machine answers

at_least : (n room : ℕ) → nat_le n (n + room) ≡ true
at_least n room = grind arith

small_reply : (size : ℕ) (q : Pick) → q.small ≡ true → stat_reply size q ≡ reply.StatSmall size
small_reply size q small = ap (λ (b : Bool). cond b (reply.StatSmall size) (reply.StatLarge size q.height (length q.leaves) (take 16 q.leaves))) small

large_reply : (size : ℕ) (q : Pick) (root : Root) (lengths : List ℕ) → q.small ≡ false → size ≡ root.size → q.height ≡ root.height → q.leaves ≡ lengths
    → stat_reply size q ≡ reply.StatLarge root.size root.height (length lengths) (take 16 lengths)
large_reply size q root lengths small same tall leaves =
    ap (λ (b : Bool). cond b (reply.StatSmall size) (reply.StatLarge size q.height (length q.leaves) (take 16 q.leaves))) small
    ∙ ap (λ (n : ℕ). reply.StatLarge n q.height (length q.leaves) (take 16 q.leaves)) same
    ∙ ap (λ (n : ℕ). reply.StatLarge root.size n (length q.leaves) (take 16 q.leaves)) tall
    ∙ ap (λ (l : List ℕ). reply.StatLarge root.size root.height (length l) (take 16 l)) leaves

module _ {before : View SessionState} (x : Reference) (named : Named) (names : NamesVersion before x named) (after : View Held) where
  abbrev m : Machine
  m = before.machine

  abbrev hv : View Held
  hv = held_view before

  abbrev q : Pick
  q = pick_of hv (request.Stat x) after

  oid_is : the_oid m x ≡ named.oid
  oid_is = the_oid_named before x named names

  size_is : size_of m x ≡ named.found.size
  size_is = the_size_named before x named names

  small_is : q.small ≡ fits_beside before named named.found.size
  small_is =
      ap (λ (oid : Oid). fits_small before.session.geometry.page_size (slots_at hv oid) (size_of m x) (content_at hv oid)) oid_is
      ∙ ap (λ (n : ℕ). fits_small before.session.geometry.page_size (slots_at hv named.oid) n (content_at hv named.oid)) size_is
      ∙ sym (pick_small before named named.found.size names.told)

  abbrev has_room : Option Root → Bool
  has_room root = is_none root && nat_le (record_len named.found.size) (record_len named.found.size + room_beside before named.oid)

  pub answers_small : named.found.root ≡ None → reply.StatSmall named.found.size ≡ reply_to m (request.Stat x) q
  answers_small none =
      let small : q.small ≡ true = small_is ∙ ap has_room none ∙ at_least (record_len named.found.size) (room_beside before named.oid) in
      ap reply.StatSmall (sym size_is) ∙ sym (small_reply (size_of m x) q small)

  module _ (root : Root) (rooted : named.found.root ≡ Some root) where
    pub root_here : root_of (content_named hv named.oid) ≡ Some root
    root_here = sym names.told.root ∙ rooted

    bytes_here : size_of m x ≡ root.size
    bytes_here = size_is ∙ names.told.content ∙ ap found_words.size_of (large_content (content_named hv named.oid) root root_here)

    abbrev height_at : Oid → ℕ
    height_at oid = height_of (content_at hv oid)

    pub answers_large : reply.StatLarge root.size root.height (length (lengths_named before named.oid)) (take 16 (lengths_named before named.oid)) ≡ reply_to m (request.Stat x) q
    answers_large =
        let tall : q.height ≡ root.height = ap height_at oid_is ∙ sym (pick_height before named names.told) ∙ ap root_height rooted in
        sym (large_reply (size_of m x) q root (lengths_named before named.oid) (small_is ∙ ap has_room rooted) bytes_here tall (ap (lengths_named before) oid_is))

-- ---- the line

pub stat_refused : {a b : Outside} {old new : SessionState} (x : Reference) (why : Refusal) → OnlyFrames a b old new → IsSession old → IfShown a old (λ before. IsMissing before.machine x why)
    → ReadsLine a b old new (request.Stat x) (Ok (reply.No why))
stat_refused x why only is missing = missing_refused (request.Stat x) x why only is missing (λ m q. refuses_missing m x why [])

-- it is answered by the machine's reply, with what the volume decides
answers_stat : {a b : Outside} {old new : SessionState} (x : Reference) (told : Reply) → OnlyFrames a b old new → IsSession old → (before : View SessionState) → before.session ≡ old → ShowsNow meant a before
    → (named : Named) → NamesVersion before x named → told ≡ reply_to before.machine (request.Stat x) (pick_of (held_view before) (request.Stat x) (held_view (with_groups before new))) → Stepped meant before (request.Stat x) told new b
answers_stat {a} {b} {old} {new} x told only is before same now named names replies =
    let q = pick_of (held_view before) (request.Stat x) (held_view (with_groups before new)) in
    record {
      after = with_groups before new;
      is = refl;
      shows = same_view before same now only is.sizes;
      step = took_place before.machine before.machine (request.Stat x) q told (names_pass before.machine x named.oid names.told.version [] names.named_by names.told.is) replies refl (tt, λ update. absurd (cc));
    }

pub stat_small : {a b : Outside} {old new : SessionState} (x : Reference) (named : Named) → OnlyFrames a b old new → IsSession old → IfShown a old (λ before. NamesVersion before x named)
    → named.found.root ≡ None → ReadsLine a b old new (request.Stat x) (Ok (reply.StatSmall named.found.size))
stat_small {a} {b} {old} {new} x named only is names none = record {
  only = only;
  stops = tt;
  sound = tt;
  stepped = λ before same now.
      answers_stat x (reply.StatSmall named.found.size) only is before same now named (names before same now) (answers_small x named (names before same now) (held_view (with_groups before new)) none);
}

-- the lengths that are told are the first 16
front_told : (leaves : ℕ) (lengths room first told : List ℕ) → length room ≡ 16 → leaves ≡ length lengths → first ≡ take (length room) lengths ++ drop (length lengths) room → told ≡ take (min leaves 16) first
    → told ≡ take 16 lengths
front_told leaves lengths room first told long count filled front =
    let len : length (take 16 lengths) ≡ min leaves 16 = omega (arith, length-take 16 lengths, count) in
    front
    ∙ ap (take (min leaves 16)) (filled ∙ ap (λ (n : ℕ). take n lengths ++ drop (length lengths) room) long)
    ∙ take_at (take 16 lengths) (drop (length lengths) room) (min leaves 16) len

module _ {a b c : Outside} {old mid new : SessionState} (x : Reference) (named : Named) (root : Root) (one : OnlyFrames a b old mid) (two : OnlyFrames b c mid new) (is : IsSession old)
    (names : IfShown a old (λ before. NamesVersion before x named)) (rooted : named.found.root ≡ Some root) where
  -- what is told of the root after the version was found
  then_told : (P : View SessionState → Oid → Type 0) → IfShown b mid (λ before. IfRoot before root (P before)) → (before : View SessionState) → before.session ≡ old → ShowsNow meant a before
      → P (with_groups before (record before.session { groups = mid.groups })) named.oid
  then_told P told before same now =
      let sessions : mid ≡ record before.session { groups = mid.groups } = one.same ∙ ap (λ (s : SessionState). record s { groups = mid.groups }) (sym same) in
      let n = names before same now in
      subst (λ (s : SessionState). IfRoot (with_groups before s) root (P (with_groups before s))) sessions (told (with_groups before mid) refl (same_view before same now one is.sizes))
      named.oid n.told.version n.told.is (root_here x named n (held_view before) root rooted)

  pub stat_large : (leaves : ℕ) (room first told : List ℕ) → length room ≡ 16 → told ≡ take (min leaves 16) first → IfShown b mid (λ before. IfRoot before root (λ oid. TellsShape before oid leaves room first))
      → ReadsLine a c old new (request.Stat x) (Ok (reply.StatLarge root.size root.height leaves told))
  stat_large leaves room first told long front shape = record {
    only = frames_twice one two;
    stops = tt;
    sound = tt;
    stepped = λ before same now.
        let n = names before same now in
        let it = then_told (λ v oid. TellsShape v oid leaves room first) shape before same now in
        let lengths : told ≡ take 16 (lengths_named before named.oid) = front_told leaves (lengths_named before named.oid) room first told long it.count it.lengths front in
        answers_stat x (reply.StatLarge root.size root.height leaves told) (frames_twice one two) is before same now named n
        (ap (λ (k : ℕ). reply.StatLarge root.size root.height k told) it.count ∙ ap (reply.StatLarge root.size root.height (length (lengths_named before named.oid))) lengths
        ∙ answers_large x named n (held_view (with_groups before new)) root rooted);
  }

  pub stat_stopped : (why : Stop) → LineStops b c why → IfShown b mid (λ before. IfRoot before root (λ oid. IsOutside why)) → ReadsLine a c old new (request.Stat x) (Err why)
  stat_stopped why stops sound = record {
    only = frames_twice one two;
    stops = later_stops a b c why one.reads stops;
    sound = λ before same now. then_told (λ v oid. IsOutside why) sound before same now;
    stepped = tt;
  }
