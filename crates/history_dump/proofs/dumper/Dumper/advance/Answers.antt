use Rattle.std.proofs.Common.{◌≡◌, ℕ, true, false, List, ◌++◌, length, take, refl, sym, subst, ap, ◌∙◌, arith}
use Rattle.std.proofs.lemmas.List.{with_items_is}
use Rattle.history_dump.specs.Positions.{IsAt, is_end, position_after, stream_from}
use Rattle.history_dump.specs.declared.items.Items.{Items}
use Rattle.history_dump.specs.declared.position.Position.{Position}
use Rattle.history_dump.proofs.Giving.{end_left, end_settled, ended, left_len, left_none, made_on, settled_is, shown_by}
use Rattle.ex_base.proofs.Keeping.{keeps_refl}
use Rattle.history_dump.proofs.dumper.Dumper.advance.Goals as goal

pub returns-then-self-clause-at_end : goal.returns-then-self-clause-at_end
returns-then-self-clause-at_end g c = λ told v h is.
    absurd (omega (arith, end_left g.V.Ground c.args.volume.now v h c.args.self.now is, left_len c.args.self.now, c.if-self.true))

pub returns-then-is_end-clause-made : goal.returns-then-is_end-clause-made
returns-then-is_end-clause-made g c = λ told v h at is. ended g.V.Ground c.args.volume.now v h c.args.self.now _ at is refl refl c.settled-position.ensures.is

pub returns-in-Err-clause-at_end : goal.returns-in-Err-clause-at_end
returns-in-Err-clause-at_end g c = λ told v h is.
    absurd (let e : false ≡ true = sym (sym c.is_end.ensures ∙ c.if-is_end.false) ∙ ap is_end c.settled-position.ensures.is ∙ end_settled g.V.Ground c.args.volume.now v h c.args.self.now is in cc)

pub returns-in-Err-clause-sound : goal.returns-in-Err-clause-sound
returns-in-Err-clause-sound g c = λ damage told v h at is.
    let shows = shown_by g.V.Ground c.args.volume.now v h c.args.self.now at is in
    let there = settled_is g.V.Ground c.args.volume.now v h c.args.self.now at is in
    c.in-Err.ensures.sound damage told h shows
    (subst (λ (p : Position). IsAt (g.V.Ground.image c.args.volume.now) h p c.args.self.now.items.records.items) (sym c.settled-position.ensures.is) there)

pub returns-clause-made : goal.returns-clause-made
returns-clause-made g c = λ told v h at is.
    let shows = shown_by g.V.Ground c.args.volume.now v h c.args.self.now at is in
    let there = settled_is g.V.Ground c.args.volume.now v h c.args.self.now at is in
    let geo = g.V.Ground.geometry c.args.volume.now in
    let put = c.in-Ok.ensures.item told h shows (subst (λ (p : Position). IsAt (g.V.Ground.image c.args.volume.now) h p c.args.self.now.items.records.items) (sym c.settled-position.ensures.is) there) in
    let len : length c.put.new.out ≡ c.args.self.now.room.len = omega (arith, c.put.auto.out, c.args.self.now.room.ok.0) in
    let bytes = subst (λ (xs : List ℕ). stream_from geo h c.settled-position.result ≡ take c.in-Ok.end xs ++ stream_from geo h (position_after c.settled-position.result)) (sym (c.hold.ensures.bytes ∙ with_items_is c.args.self.now.room c.put.new.out len)) put.0 in
    let records = subst (λ (x : Items). IsAt (g.V.Ground.image c.args.volume.now) h (position_after c.settled-position.result) x.records.items) (sym c.hold.ensures.items) put.1 in
    made_on g.V.Ground c.args.volume.now v h c.args.self.now c.hold.new.self at c.in-Ok.end c.settled-position.result is (left_none c.args.self.now c.if-self.false) c.settled-position.ensures.is
    (ap (λ (x : Items). x.plan) c.hold.ensures.items ∙ c.in-Ok.ensures.plan) c.hold.ensures.given c.hold.ensures.end (c.hold.ensures.position ∙ c.after.ensures) (bytes, records)

pub returns-clause-at_end : goal.returns-clause-at_end
returns-clause-at_end g c = λ told v h is.
    absurd (let e : false ≡ true = sym (sym c.is_end.ensures ∙ c.if-is_end.false) ∙ ap is_end c.settled-position.ensures.is ∙ end_settled g.V.Ground c.args.volume.now v h c.args.self.now is in cc)

pub returns-then-self-clause-sound : goal.returns-then-self-clause-sound
returns-then-self-clause-sound g c = tt

pub returns-then-self-clause-kept : goal.returns-then-self-clause-kept
returns-then-self-clause-kept g c = keeps_refl g.V.Ground c.args.volume.now

pub returns-then-self-clause-cause : goal.returns-then-self-clause-cause
returns-then-self-clause-cause g c = tt

pub returns-then-is_end-clause-sound : goal.returns-then-is_end-clause-sound
returns-then-is_end-clause-sound g c = tt

pub returns-then-is_end-clause-kept : goal.returns-then-is_end-clause-kept
returns-then-is_end-clause-kept g c = keeps_refl g.V.Ground c.args.volume.now

pub returns-then-is_end-clause-cause : goal.returns-then-is_end-clause-cause
returns-then-is_end-clause-cause g c = tt

pub returns-then-self-clause-made : goal.returns-then-self-clause-made
returns-then-self-clause-made g c = λ told v h at is. is

pub put-requires-clause-ready : goal.put-requires-clause-ready
put-requires-clause-ready g c = c.requires.ready

pub returns-in-Err-clause-made : goal.returns-in-Err-clause-made
returns-in-Err-clause-made g c = tt

pub returns-in-Err-clause-some : goal.returns-in-Err-clause-some
returns-in-Err-clause-some g c = tt

pub returns-in-Err-clause-none : goal.returns-in-Err-clause-none
returns-in-Err-clause-none g c = tt

pub returns-in-Err-clause-kept : goal.returns-in-Err-clause-kept
returns-in-Err-clause-kept g c = c.in-Err.ensures.kept

pub returns-in-Err-clause-cause : goal.returns-in-Err-clause-cause
returns-in-Err-clause-cause g c = c.in-Err.ensures.cause

pub returns-clause-sound : goal.returns-clause-sound
returns-clause-sound g c = tt

pub returns-clause-kept : goal.returns-clause-kept
returns-clause-kept g c = c.in-Ok.ensures.kept

pub returns-clause-cause : goal.returns-clause-cause
returns-clause-cause g c = tt

pub returns-then-is_end-clause-none : goal.returns-then-is_end-clause-none
returns-then-is_end-clause-none g c = λ no. (left_none c.args.self.now (omega (arith, c.if-self.false)), sym c.is_end.ensures ∙ c.if-is_end.true)

pub returns-then-self-clause-uncalled : goal.returns-then-self-clause-uncalled
returns-then-self-clause-uncalled g c = λ told v h is.
    absurd (omega (arith, end_left g.V.Ground c.args.volume.now v h c.args.self.now is, left_len c.args.self.now, c.if-self.true))

pub returns-in-Err-clause-uncalled : goal.returns-in-Err-clause-uncalled
returns-in-Err-clause-uncalled g c = λ told v h is.
    absurd (let e : false ≡ true = sym (sym c.is_end.ensures ∙ c.if-is_end.false) ∙ ap is_end c.settled-position.ensures.is ∙ end_settled g.V.Ground c.args.volume.now v h c.args.self.now is in cc)

pub returns-clause-uncalled : goal.returns-clause-uncalled
returns-clause-uncalled g c = λ told v h is.
    absurd (let e : false ≡ true = sym (sym c.is_end.ensures ∙ c.if-is_end.false) ∙ ap is_end c.settled-position.ensures.is ∙ end_settled g.V.Ground c.args.volume.now v h c.args.self.now is in cc)

pub returns-then-is_end-clause-uncalled : goal.returns-then-is_end-clause-uncalled
returns-then-is_end-clause-uncalled g c = λ told v h is. refl
