use Rattle.history_items.specs.Gathering.{item_most}
use Rattle.std.proofs.Common.{false, ◌≡◌, ◌+◌, length, refl, rules, sym, ap, ◌∙◌, arith}
use Rattle.ex_base.proofs.Keeping.{keeps_on, keeps_refl}
use Rattle.history_model.specs.Stream.{stream_of}
use Rattle.history_dump.proofs.GivenOn.{back, given_all, given_more, given_none, moved, nothing, same_stream, there}
use Rattle.history_dump.proofs.Results.{never_ok}
use Rattle.ex_base.proofs.Handed.{cause_after}
use Rattle.history_dump.proofs.dumper.Dumper.next.Goals as goal

pub given-init : goal.given-init
given-init g c = record {
  inside = omega arith;
  kept = keeps_refl g.V.Ground c.args.volume.now;
  room = refl;
  given = λ told v h at is. given_none g.V.Ground c.args.volume.now v h c.args.self.now at is;
  uncalled = λ told v h is. refl;
}

pub returns-in-Err-clause-at_end : goal.returns-in-Err-clause-at_end
returns-in-Err-clause-at_end g c = λ told v h is.
    let was = c.args.volume.now in
    let now = c.given.volume in
    let kept = c.given.invariant.kept in
    let s = stream_of (g.V.Ground.geometry was) h in
    let w = c.given.invariant.given told v h (length s) is in
    let at : length s + c.given.len ≡ length s = omega (arith, w.1.gives.inside) in
    let here = there g.V.Ground was now kept v h c.given.self (length s) (moved g.V.Ground was v h c.given.self (length s + c.given.len) (length s) w.1 at) in
    let end = moved g.V.Ground now v h c.given.self (length s) (length (stream_of (g.V.Ground.geometry now) h)) here (sym (ap length (same_stream g.V.Ground was now kept v h))) in
    absurd (never_ok c.in-Err.fault false (c.in-Err.ensures.at_end (g.V.Ground.leads_told was now kept.leads told) v h end))

pub returns-in-Err-clause-sound : goal.returns-in-Err-clause-sound
returns-in-Err-clause-sound g c = λ damage told v h at is.
    let was = c.args.volume.now in
    let now = c.given.volume in
    let kept = c.given.invariant.kept in
    let w = c.given.invariant.given told v h at is in
    c.in-Err.ensures.sound damage (g.V.Ground.leads_told was now kept.leads told) v h (at + c.given.len) (there g.V.Ground was now kept v h c.given.self (at + c.given.len) w.1)

pub returns-then-not-more-clause-given : goal.returns-then-not-more-clause-given
returns-then-not-more-clause-given g c = λ told v h at is.
    let was = c.args.volume.now in
    let now = c.given.volume in
    let kept = c.given.invariant.kept in
    let w = c.given.invariant.given told v h at is in
    let made = c.in-Ok.ensures.made (g.V.Ground.leads_told was now kept.leads told) v h (at + c.given.len) (there g.V.Ground was now kept v h c.given.self (at + c.given.len) w.1) in
    let here = back g.V.Ground was now kept v h c.advance.new.self (at + c.given.len) made in
    let none = c.in-Ok.ensures.none (search rules) in
    let all = given_all g.V.Ground was v h c.advance.new.self (at + c.given.len) here none.0 none.1 in
    (w.0, here, omega (arith, all, c.given.invariant.inside, c.given.auto.out))

pub returns-then-not-more-clause-at_end : goal.returns-then-not-more-clause-at_end
returns-then-not-more-clause-at_end g c = λ told v h is.
    let s = stream_of (g.V.Ground.geometry c.args.volume.now) h in
    let w = c.given.invariant.given told v h (length s) is in
    nothing c.given.len (omega (arith, w.1.gives.inside))

pub given-preserved : goal.given-preserved
given-preserved g c = record {
  inside = search rules;
  kept = keeps_on g.V.Ground c.args.volume.now c.given.volume c.advance.new.volume c.given.invariant.kept c.advance.ensures.kept;
  room = c.give-len.ensures.room ∙ c.advance.ensures.room ∙ c.given.invariant.room;
  given = λ told v h at is.
      let was = c.args.volume.now in
      let now = c.given.volume in
      let kept = c.given.invariant.kept in
      let w = c.given.invariant.given told v h at is in
      let made = c.in-Ok.ensures.made (g.V.Ground.leads_told was now kept.leads told) v h (at + c.given.len) (there g.V.Ground was now kept v h c.given.self (at + c.given.len) w.1) in
      let here = back g.V.Ground was now kept v h c.advance.new.self (at + c.given.len) made in
      given_more g.V.Ground was v h c.advance.new.self c.give-len.new.self at c.given.len c.give-len.result c.given.out c.give-len.new.out _ here w.0 c.given.invariant.inside
      (omega (arith, c.give-len.ensures.n)) (omega (arith, c.give-len.ensures.n, c.give-len.auto.out)) c.give-len.ensures.given c.give-len.ensures.left c.give-len.ensures.rest.0 c.give-len.ensures.rest.1;
  uncalled = λ told v h is.
      let was = c.args.volume.now in
      let now = c.given.volume in
      let kept = c.given.invariant.kept in
      let s = stream_of (g.V.Ground.geometry was) h in
      let w = c.given.invariant.given told v h (length s) is in
      let at : length s + c.given.len ≡ length s = omega (arith, w.1.gives.inside) in
      let here = there g.V.Ground was now kept v h c.given.self (length s) (moved g.V.Ground was v h c.given.self (length s + c.given.len) (length s) w.1 at) in
      let end = moved g.V.Ground now v h c.given.self (length s) (length (stream_of (g.V.Ground.geometry now) h)) here (sym (ap length (same_stream g.V.Ground was now kept v h))) in
      c.advance.ensures.uncalled (g.V.Ground.leads_told was now kept.leads told) v h end ∙ c.given.invariant.uncalled told v h is;
}

pub returns-clause-given : goal.returns-clause-given
returns-clause-given g c = λ told v h at is.
    let w = c.given.invariant.given told v h at is in
    (w.0, w.1, omega (arith, w.1.gives.inside, c.given.invariant.inside, c.given-test.false, c.given.auto.out))

pub returns-clause-at_end : goal.returns-clause-at_end
returns-clause-at_end g c = λ told v h is.
    let s = stream_of (g.V.Ground.geometry c.args.volume.now) h in
    let w = c.given.invariant.given told v h (length s) is in
    nothing c.given.len (omega (arith, w.1.gives.inside))

pub advance-requires-clause-ready : goal.advance-requires-clause-ready
advance-requires-clause-ready g c = g.V.Ground.leads_ready c.args.volume.now c.given.volume c.given.invariant.kept.leads c.requires.ready

pub returns-in-Err-clause-given : goal.returns-in-Err-clause-given
returns-in-Err-clause-given g c = tt

pub returns-in-Err-clause-few : goal.returns-in-Err-clause-few
returns-in-Err-clause-few g c = tt

pub returns-in-Err-clause-room : goal.returns-in-Err-clause-room
returns-in-Err-clause-room g c = c.in-Err.ensures.room ∙ c.given.invariant.room

pub returns-in-Err-clause-kept : goal.returns-in-Err-clause-kept
returns-in-Err-clause-kept g c = keeps_on g.V.Ground c.args.volume.now c.given.volume c.advance.new.volume c.given.invariant.kept c.in-Err.ensures.kept

pub returns-in-Err-clause-cause : goal.returns-in-Err-clause-cause
returns-in-Err-clause-cause g c = cause_after g.V.Ground c.args.volume.now c.given.volume c.given.invariant.kept.leads c.advance.new.volume c.in-Err.fault c.in-Err.ensures.cause

pub returns-then-not-more-clause-sound : goal.returns-then-not-more-clause-sound
returns-then-not-more-clause-sound g c = tt

pub returns-then-not-more-clause-cause : goal.returns-then-not-more-clause-cause
returns-then-not-more-clause-cause g c = tt

pub returns-then-not-more-clause-room : goal.returns-then-not-more-clause-room
returns-then-not-more-clause-room g c = c.in-Ok.ensures.room ∙ c.given.invariant.room

pub returns-then-not-more-clause-kept : goal.returns-then-not-more-clause-kept
returns-then-not-more-clause-kept g c = keeps_on g.V.Ground c.args.volume.now c.given.volume c.advance.new.volume c.given.invariant.kept c.in-Ok.ensures.kept

pub returns-clause-sound : goal.returns-clause-sound
returns-clause-sound g c = tt

pub returns-clause-kept : goal.returns-clause-kept
returns-clause-kept g c = c.given.invariant.kept

pub returns-clause-cause : goal.returns-clause-cause
returns-clause-cause g c = tt

pub returns-clause-room : goal.returns-clause-room
returns-clause-room g c = c.given.invariant.room

pub advance-requires-clause-room : goal.advance-requires-clause-room
advance-requires-clause-room g c =
    let same = g.V.Ground.leads_geometry c.args.volume.now c.given.volume c.given.invariant.kept.leads in
    omega (arith, c.requires.room, ap item_most same, c.given.invariant.room)

-- ---- at the end nothing is called

pub returns-in-Err-clause-uncalled : goal.returns-in-Err-clause-uncalled
returns-in-Err-clause-uncalled g c = λ told v h is.
    let was = c.args.volume.now in
    let now = c.given.volume in
    let kept = c.given.invariant.kept in
    let s = stream_of (g.V.Ground.geometry was) h in
    let w = c.given.invariant.given told v h (length s) is in
    let at : length s + c.given.len ≡ length s = omega (arith, w.1.gives.inside) in
    let here = there g.V.Ground was now kept v h c.given.self (length s) (moved g.V.Ground was v h c.given.self (length s + c.given.len) (length s) w.1 at) in
    let end = moved g.V.Ground now v h c.given.self (length s) (length (stream_of (g.V.Ground.geometry now) h)) here (sym (ap length (same_stream g.V.Ground was now kept v h))) in
    c.advance.ensures.uncalled (g.V.Ground.leads_told was now kept.leads told) v h end ∙ c.given.invariant.uncalled told v h is

pub returns-then-not-more-clause-uncalled : goal.returns-then-not-more-clause-uncalled
returns-then-not-more-clause-uncalled g c = λ told v h is.
    let was = c.args.volume.now in
    let now = c.given.volume in
    let kept = c.given.invariant.kept in
    let s = stream_of (g.V.Ground.geometry was) h in
    let w = c.given.invariant.given told v h (length s) is in
    let at : length s + c.given.len ≡ length s = omega (arith, w.1.gives.inside) in
    let here = there g.V.Ground was now kept v h c.given.self (length s) (moved g.V.Ground was v h c.given.self (length s + c.given.len) (length s) w.1 at) in
    let end = moved g.V.Ground now v h c.given.self (length s) (length (stream_of (g.V.Ground.geometry now) h)) here (sym (ap length (same_stream g.V.Ground was now kept v h))) in
    c.advance.ensures.uncalled (g.V.Ground.leads_told was now kept.leads told) v h end ∙ c.given.invariant.uncalled told v h is

pub returns-clause-uncalled : goal.returns-clause-uncalled
returns-clause-uncalled g c = c.given.invariant.uncalled
