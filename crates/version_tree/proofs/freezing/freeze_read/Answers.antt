use Rattle.std.proofs.Common.{ℕ, ap, arith, inl, inr, ◌∙◌}
use Rattle.ex_base.specs.declared.names.Area.{Area}
use Rattle.ex_base.specs.declared.names.Area.TheVariants.{Page, Segment}
use Rattle.ex_base.proofs.Results.{if_err_handed}
use Rattle.file_bodies.specs.Bodies.{bodies_of}
use Rattle.version_tree.specs.Bodies.{frozen_head, with_head}
use Rattle.version_tree.specs.Copies.{uncopied}
use Rattle.version_tree.proofs.Copying.{behind_fits, copied_stands, copy_head, copy_named, froze, frozen_fits, just_stand, moved_head, older_frozen}
use Rattle.ex_base.proofs.Handed.{no_value, not_given, cause_here, handed_after}
use Rattle.version_tree.proofs.Takings.{takes_before}
use Rattle.version_tree.proofs.freezing.freeze_read.Goals as goal

pub returns-clause-frozen : goal.returns-clause-frozen
returns-clause-frozen g c = λ told index is read current file.
    let a = c.args.volume.now in
    let b = c.put_copy.new.volume in
    let d = c.put_head.new.volume in
    let was = c.args.was.now in
    let older = c.args.older.now in
    let place = c.in_ok-place.place in
    let told_b = g.V.Ground.leads_told c.args.volume.now c.put_copy.new.volume c.put_copy.ensures.leads told in
    let copied = c.in_ok-place.ensures.copies told index is read.has.file file read.spelled in
    let put = c.in_ok-put_head.ensures.put told_b copied.puts.after is
    (copied_stands g.V.Ground c.args.volume.now c.put_copy.new.volume index c.in_ok-place.place (with_head (frozen_head c.args.unique c.args.was.now.place c.args.was.now.head) is) copied c.args.was.now read.has) read.spelled in
    let told_d = g.V.Ground.leads_told c.put_copy.new.volume c.put_head.new.volume c.put_head.ensures.leads told_b in
    let frozen = older_frozen g.V.Ground c.args.volume.now c.put_copy.new.volume index c.args.was.now c.args.older.now is read current c.args.unique c.in_ok-place.place copied c.put_head.new.volume put in
    let turned = c.in_ok-turn_older.ensures.turned told_d copied.puts.after (bodies_of (g.V.Ground.image c.args.volume.now) index) is.head.older put.edit.file read.link
    (just_stand g.V.Ground c.put_head.new.volume copied.puts.after c.args.older.now frozen) in
    froze g.V.Ground c.args.volume.now c.put_copy.new.volume index c.args.was.now c.args.older.now is read current c.args.unique c.in_ok-place.place copied c.put_head.new.volume put c.turn_older.new.volume turned

pub returns-clause-pages : goal.returns-clause-pages
returns-clause-pages g c = omega (arith, c.in_ok-place.ensures.pages, ap (λ (f : Area → ℕ). f Page) c.in_ok-put_head.ensures.free, ap (λ (f : Area → ℕ). f Page) c.in_ok-turn_older.ensures.free)

pub returns-in_err-place-clause-sound : goal.returns-in_err-place-clause-sound
returns-in_err-place-clause-sound g c = if_err_handed c.from_residual.result _ _ c.from_residual.ensures.1 (λ damage told index is read current file.
    c.in_err-place.ensures.sound damage told index is read.has file read.fits read.spelled
    (copy_head g.V.Ground c.args.volume.now c.args.volume.now index c.args.was.now c.args.older.now is read current c.args.unique c.args.was.now.place))

pub returns-in_err-place-clause-fault : goal.returns-in_err-place-clause-fault
returns-in_err-place-clause-fault g c = if_err_handed c.from_residual.result _ _ c.from_residual.ensures.1 (λ told. inl (
  c.in_err-place.ensures.fault told,
  λ damage index is v file.
      c.in_err-place.ensures.sound damage told index is v.has file v.fits v.spelled (frozen_fits g.V.Ground c.args.volume.now index c.args.was.now is c.args.unique v),
))

pub returns-in_err-put_head-clause-sound : goal.returns-in_err-put_head-clause-sound
returns-in_err-put_head-clause-sound g c = if_err_handed c.from_residual-in_err-put_head.result _ _ c.from_residual-in_err-put_head.ensures.1 (λ damage told index is read current file.
    let told_b = g.V.Ground.leads_told c.args.volume.now c.put_copy.new.volume c.put_copy.ensures.leads told in
    let copied = c.in_ok-place.ensures.copies told index is read.has.file file read.spelled in
    let stands = copied_stands g.V.Ground c.args.volume.now c.put_copy.new.volume index c.in_ok-place.place (with_head (frozen_head c.args.unique c.args.was.now.place c.args.was.now.head) is) copied c.args.was.now read.has in
    c.in_err-put_head.ensures.sound damage told_b copied.puts.after is stands read.spelled
    (moved_head g.V.Ground c.args.volume.now c.put_copy.new.volume index c.args.was.now c.args.older.now is read current c.args.unique c.in_ok-place.place
    (copy_named g.V.Ground c.args.volume.now c.put_copy.new.volume index c.in_ok-place.place (with_head (frozen_head c.args.unique c.args.was.now.place c.args.was.now.head) is) copied)))

pub returns-in_err-put_head-clause-fault : goal.returns-in_err-put_head-clause-fault
returns-in_err-put_head-clause-fault g c = if_err_handed c.from_residual-in_err-put_head.result _ _ c.from_residual-in_err-put_head.ensures.1 (λ told.
    let told_b = g.V.Ground.leads_told c.args.volume.now c.put_copy.new.volume c.put_copy.ensures.leads told in
    inl (
      uncopied (c.in_err-put_head.ensures.fault told_b),
      λ damage index is v file.
          let copied = c.in_ok-place.ensures.copies told index is v.has.file file v.spelled in
          let stands = copied_stands g.V.Ground c.args.volume.now c.put_copy.new.volume index c.in_ok-place.place (with_head (frozen_head c.args.unique c.args.was.now.place c.args.was.now.head) is) copied c.args.was.now v.has in
          c.in_err-put_head.ensures.sound damage told_b copied.puts.after is stands v.spelled
          (behind_fits g.V.Ground c.args.volume.now index c.args.was.now is c.in_ok-place.place v
          (copy_named g.V.Ground c.args.volume.now c.put_copy.new.volume index c.in_ok-place.place (with_head (frozen_head c.args.unique c.args.was.now.place c.args.was.now.head) is) copied)),
    ))

pub returns-in_err-turn_older-clause-sound : goal.returns-in_err-turn_older-clause-sound
returns-in_err-turn_older-clause-sound g c = if_err_handed c.from_residual-in_err-turn_older.result _ _ c.from_residual-in_err-turn_older.ensures.1 (λ damage told index is read current file.
    let told_b = g.V.Ground.leads_told c.args.volume.now c.put_copy.new.volume c.put_copy.ensures.leads told in
    let copied = c.in_ok-place.ensures.copies told index is read.has.file file read.spelled in
    let put = c.in_ok-put_head.ensures.put told_b copied.puts.after is
    (copied_stands g.V.Ground c.args.volume.now c.put_copy.new.volume index c.in_ok-place.place (with_head (frozen_head c.args.unique c.args.was.now.place c.args.was.now.head) is) copied c.args.was.now read.has) read.spelled in
    let told_d = g.V.Ground.leads_told c.put_copy.new.volume c.put_head.new.volume c.put_head.ensures.leads told_b in
    c.in_err-turn_older.ensures.sound damage told_d copied.puts.after
    (older_frozen g.V.Ground c.args.volume.now c.put_copy.new.volume index c.args.was.now c.args.older.now is read current c.args.unique c.in_ok-place.place copied c.put_head.new.volume put)
    (copy_named g.V.Ground c.args.volume.now c.put_copy.new.volume index c.in_ok-place.place (with_head (frozen_head c.args.unique c.args.was.now.place c.args.was.now.head) is) copied))

pub returns-in_err-turn_older-clause-fault : goal.returns-in_err-turn_older-clause-fault
returns-in_err-turn_older-clause-fault g c = if_err_handed c.from_residual-in_err-turn_older.result _ _ c.from_residual-in_err-turn_older.ensures.1 (λ told.
    let told_b = g.V.Ground.leads_told c.args.volume.now c.put_copy.new.volume c.put_copy.ensures.leads told in
    let told_d = g.V.Ground.leads_told c.put_copy.new.volume c.put_head.new.volume c.put_head.ensures.leads told_b in
    inr (c.in_err-turn_older.ensures.fault told_d))

pub returns-in_err-place-clause-frozen : goal.returns-in_err-place-clause-frozen
returns-in_err-place-clause-frozen g c = no_value c.from_residual.result _ c.in_err-place.field-0.0 c.from_residual.ensures.1

pub returns-in_err-place-clause-chosen : goal.returns-in_err-place-clause-chosen
returns-in_err-place-clause-chosen g c = no_value c.from_residual.result _ c.in_err-place.field-0.0 c.from_residual.ensures.1

pub returns-in_err-place-clause-room : goal.returns-in_err-place-clause-room
returns-in_err-place-clause-room g c = no_value c.from_residual.result _ c.in_err-place.field-0.0 c.from_residual.ensures.1

pub returns-in_err-place-clause-pages : goal.returns-in_err-place-clause-pages
returns-in_err-place-clause-pages g c = not_given c.from_residual.result _ c.in_err-place.field-0.0 c.from_residual.ensures.1

pub returns-in_err-place-clause-takes : goal.returns-in_err-place-clause-takes
returns-in_err-place-clause-takes g c = not_given c.from_residual.result _ c.in_err-place.field-0.0 c.from_residual.ensures.1

pub returns-in_err-place-clause-leaves : goal.returns-in_err-place-clause-leaves
returns-in_err-place-clause-leaves g c = not_given c.from_residual.result _ c.in_err-place.field-0.0 c.from_residual.ensures.1

pub returns-in_err-place-clause-touches : goal.returns-in_err-place-clause-touches
returns-in_err-place-clause-touches g c = not_given c.from_residual.result _ c.in_err-place.field-0.0 c.from_residual.ensures.1

pub returns-in_err-place-clause-leads : goal.returns-in_err-place-clause-leads
returns-in_err-place-clause-leads g c = c.put_copy.ensures.leads

pub returns-in_err-place-clause-cause : goal.returns-in_err-place-clause-cause
returns-in_err-place-clause-cause g c =
    cause_here (g.V.Ground.faults c.args.volume.now) (g.V.Ground.faults c.put_copy.new.volume) c.from_residual.result c.in_err-place.field-0.0
    c.from_residual.ensures.1 c.in_err-place.ensures.cause

pub returns-in_err-put_head-clause-frozen : goal.returns-in_err-put_head-clause-frozen
returns-in_err-put_head-clause-frozen g c =
    no_value c.from_residual-in_err-put_head.result _ c.in_err-put_head.field-0.0 c.from_residual-in_err-put_head.ensures.1

pub returns-in_err-put_head-clause-chosen : goal.returns-in_err-put_head-clause-chosen
returns-in_err-put_head-clause-chosen g c =
    no_value c.from_residual-in_err-put_head.result _ c.in_err-put_head.field-0.0 c.from_residual-in_err-put_head.ensures.1

pub returns-in_err-put_head-clause-room : goal.returns-in_err-put_head-clause-room
returns-in_err-put_head-clause-room g c =
    no_value c.from_residual-in_err-put_head.result _ c.in_err-put_head.field-0.0 c.from_residual-in_err-put_head.ensures.1

pub returns-in_err-put_head-clause-pages : goal.returns-in_err-put_head-clause-pages
returns-in_err-put_head-clause-pages g c =
    not_given c.from_residual-in_err-put_head.result _ c.in_err-put_head.field-0.0 c.from_residual-in_err-put_head.ensures.1

pub returns-in_err-put_head-clause-takes : goal.returns-in_err-put_head-clause-takes
returns-in_err-put_head-clause-takes g c =
    not_given c.from_residual-in_err-put_head.result _ c.in_err-put_head.field-0.0 c.from_residual-in_err-put_head.ensures.1

pub returns-in_err-put_head-clause-leaves : goal.returns-in_err-put_head-clause-leaves
returns-in_err-put_head-clause-leaves g c =
    not_given c.from_residual-in_err-put_head.result _ c.in_err-put_head.field-0.0 c.from_residual-in_err-put_head.ensures.1

pub returns-in_err-put_head-clause-touches : goal.returns-in_err-put_head-clause-touches
returns-in_err-put_head-clause-touches g c =
    not_given c.from_residual-in_err-put_head.result _ c.in_err-put_head.field-0.0 c.from_residual-in_err-put_head.ensures.1

pub returns-in_err-put_head-clause-leads : goal.returns-in_err-put_head-clause-leads
returns-in_err-put_head-clause-leads g c =
    g.V.Ground.leads_trans c.args.volume.now c.put_copy.new.volume c.put_head.new.volume c.put_copy.ensures.leads c.put_head.ensures.leads

pub returns-in_err-put_head-clause-cause : goal.returns-in_err-put_head-clause-cause
returns-in_err-put_head-clause-cause g c =
    handed_after g.V.Ground c.args.volume.now c.put_copy.new.volume c.put_copy.ensures.leads c.put_head.new.volume c.from_residual-in_err-put_head.result
    c.in_err-put_head.field-0.0 c.from_residual-in_err-put_head.ensures.1 c.in_err-put_head.ensures.cause

pub returns-in_err-turn_older-clause-frozen : goal.returns-in_err-turn_older-clause-frozen
returns-in_err-turn_older-clause-frozen g c =
    no_value c.from_residual-in_err-turn_older.result _ c.in_err-turn_older.field-0.0 c.from_residual-in_err-turn_older.ensures.1

pub returns-in_err-turn_older-clause-chosen : goal.returns-in_err-turn_older-clause-chosen
returns-in_err-turn_older-clause-chosen g c =
    no_value c.from_residual-in_err-turn_older.result _ c.in_err-turn_older.field-0.0 c.from_residual-in_err-turn_older.ensures.1

pub returns-in_err-turn_older-clause-room : goal.returns-in_err-turn_older-clause-room
returns-in_err-turn_older-clause-room g c =
    no_value c.from_residual-in_err-turn_older.result _ c.in_err-turn_older.field-0.0 c.from_residual-in_err-turn_older.ensures.1

pub returns-in_err-turn_older-clause-pages : goal.returns-in_err-turn_older-clause-pages
returns-in_err-turn_older-clause-pages g c =
    not_given c.from_residual-in_err-turn_older.result _ c.in_err-turn_older.field-0.0 c.from_residual-in_err-turn_older.ensures.1

pub returns-in_err-turn_older-clause-takes : goal.returns-in_err-turn_older-clause-takes
returns-in_err-turn_older-clause-takes g c =
    not_given c.from_residual-in_err-turn_older.result _ c.in_err-turn_older.field-0.0 c.from_residual-in_err-turn_older.ensures.1

pub returns-in_err-turn_older-clause-leaves : goal.returns-in_err-turn_older-clause-leaves
returns-in_err-turn_older-clause-leaves g c =
    not_given c.from_residual-in_err-turn_older.result _ c.in_err-turn_older.field-0.0 c.from_residual-in_err-turn_older.ensures.1

pub returns-in_err-turn_older-clause-touches : goal.returns-in_err-turn_older-clause-touches
returns-in_err-turn_older-clause-touches g c =
    not_given c.from_residual-in_err-turn_older.result _ c.in_err-turn_older.field-0.0 c.from_residual-in_err-turn_older.ensures.1

pub returns-in_err-turn_older-clause-leads : goal.returns-in_err-turn_older-clause-leads
returns-in_err-turn_older-clause-leads g c =
    g.V.Ground.leads_trans c.args.volume.now c.put_head.new.volume c.turn_older.new.volume
    (g.V.Ground.leads_trans c.args.volume.now c.put_copy.new.volume c.put_head.new.volume c.put_copy.ensures.leads c.put_head.ensures.leads)
    c.turn_older.ensures.leads

pub returns-in_err-turn_older-clause-cause : goal.returns-in_err-turn_older-clause-cause
returns-in_err-turn_older-clause-cause g c =
    handed_after g.V.Ground c.args.volume.now c.put_head.new.volume
    (g.V.Ground.leads_trans c.args.volume.now c.put_copy.new.volume c.put_head.new.volume c.put_copy.ensures.leads c.put_head.ensures.leads)
    c.turn_older.new.volume c.from_residual-in_err-turn_older.result c.in_err-turn_older.field-0.0 c.from_residual-in_err-turn_older.ensures.1
    c.in_err-turn_older.ensures.cause

pub returns-clause-sound : goal.returns-clause-sound
returns-clause-sound g c = tt

pub returns-clause-fault : goal.returns-clause-fault
returns-clause-fault g c = tt

pub returns-clause-leads : goal.returns-clause-leads
returns-clause-leads g c =
    g.V.Ground.leads_trans c.args.volume.now c.put_head.new.volume c.turn_older.new.volume
    (g.V.Ground.leads_trans c.args.volume.now c.put_copy.new.volume c.put_head.new.volume c.put_copy.ensures.leads c.put_head.ensures.leads)
    c.turn_older.ensures.leads

pub returns-clause-cause : goal.returns-clause-cause
returns-clause-cause g c = tt

pub put_copy-requires-clause-ready : goal.put_copy-requires-clause-ready
put_copy-requires-clause-ready g c = c.requires.ready

pub put_head-requires : goal.put_head-requires
put_head-requires g c = g.V.Ground.leads_ready c.args.volume.now c.put_copy.new.volume c.put_copy.ensures.leads c.requires.ready

pub turn_older-requires : goal.turn_older-requires
turn_older-requires g c =
    g.V.Ground.leads_ready c.args.volume.now c.put_head.new.volume
    (g.V.Ground.leads_trans c.args.volume.now c.put_copy.new.volume c.put_head.new.volume c.put_copy.ensures.leads c.put_head.ensures.leads) c.requires.ready

pub returns-clause-leaves : goal.returns-clause-leaves
returns-clause-leaves g c = ap (λ (f : Area → ℕ). f Segment) (c.in_ok-turn_older.ensures.free ∙ c.in_ok-put_head.ensures.free) ∙ c.in_ok-place.ensures.leaves

pub returns-clause-takes : goal.returns-clause-takes
returns-clause-takes g c = takes_before g.V.Ground c.args.volume.now c.put_head.new.volume c.turn_older.new.volume
    (takes_before g.V.Ground c.args.volume.now c.put_copy.new.volume c.put_head.new.volume c.in_ok-place.ensures.takes
    c.in_ok-put_head.ensures.units) c.in_ok-turn_older.ensures.units

pub returns-clause-touches : goal.returns-clause-touches
returns-clause-touches g c = omega (arith, c.in_ok-place.ensures.touches, c.in_ok-put_head.ensures.touches, c.in_ok-turn_older.ensures.touches)

pub returns-clause-room : goal.returns-clause-room
returns-clause-room g c = c.in_ok-place.ensures.room

pub returns-clause-chosen : goal.returns-clause-chosen
returns-clause-chosen g c = c.in_ok-place.ensures.chosen

pub put_copy-requires-clause-free : goal.put_copy-requires-clause-free
put_copy-requires-clause-free g c = c.requires.free
