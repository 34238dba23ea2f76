use Rattle.std.proofs.Common.{rules, [], ap, refl, subst, sym, ◌∙◌}
use Rattle.std.proofs.lemmas.Result.{IfOk-weaker, IfErr-weaker}
use Rattle.history_dump.specs.Sending.{KeepsRest}
use Rattle.history_dump.proofs.PortShown.{keeps_of, rest_shows}
use Rattle.history_dump.proofs.sending.fill_piece.Goals as goal

pub returns-clause-keeps : goal.returns-clause-keeps
returns-clause-keeps g c =
    let l = c.next-filled.ensures.kept.leads in
    subst (λ (d : g.row.D.Denot). KeepsRest (g.D.World.outside c.args.disk.now) (g.D.World.outside d) c.args.volume.now (record c.args.volume.now { groups = c.next-filled.new.volume.groups.now })) (search rules)
    (keeps_of (g.D.World.outside c.args.disk.now) (g.D.World.outside c.next-filled.new.volume.disk.now) c.args.volume.now c.next-filled.new.volume.groups.now l.only l.kinds l.sizes l.behind l.told c.requires.ready)

pub returns-clause-given : goal.returns-clause-given
returns-clause-given g c = IfOk-weaker c.next-filled.result _ _
    (λ n given d image h at rests is.
    let w = given (rests.told.1, rests.told.2) d.volume h at
    (record {
      records = [];
      shows = rest_shows _ _ (g.D.World.outside c.args.disk.now) c.args.volume.now (record { geometry = refl; unit = refl; image = refl; held = refl }) d image rests;
      gives = is;
    }) in
    (w.0, w.1.gives, w.2)) c.next-filled.ensures.given

pub returns-clause-at_end : goal.returns-clause-at_end
returns-clause-at_end g c = λ d image h rests is.
    c.next-filled.ensures.at_end (rests.told.1, rests.told.2) d.volume h
    (record {
      records = [];
      shows = rest_shows _ _ (g.D.World.outside c.args.disk.now) c.args.volume.now (record { geometry = refl; unit = refl; image = refl; held = refl }) d image rests;
      gives = is;
    })

pub returns-clause-sound : goal.returns-clause-sound
returns-clause-sound g c = IfErr-weaker c.next-filled.result _ _
    (λ fault never damage d image h at rests is.
    never damage (rests.told.1, rests.told.2) d.volume h at
    (record {
      records = [];
      shows = rest_shows _ _ (g.D.World.outside c.args.disk.now) c.args.volume.now (record { geometry = refl; unit = refl; image = refl; held = refl }) d image rests;
      gives = is;
    })) c.next-filled.ensures.sound

pub returns-clause-few : goal.returns-clause-few
returns-clause-few g c = c.next-filled.ensures.few

pub returns-clause-room : goal.returns-clause-room
returns-clause-room g c = c.next-filled.ensures.room

pub returns-then-faults-clause-keeps : goal.returns-then-faults-clause-keeps
returns-then-faults-clause-keeps g c =
    let l = c.next-filled.ensures.kept.leads in
    subst (λ (d : g.row.D.Denot). KeepsRest (g.D.World.outside c.args.disk.now) (g.D.World.outside d) c.args.volume.now (record c.args.volume.now { groups = c.next-filled.new.volume.groups.now })) (search rules)
    (keeps_of (g.D.World.outside c.args.disk.now) (g.D.World.outside c.next-filled.new.volume.disk.now) c.args.volume.now c.next-filled.new.volume.groups.now l.only l.kinds l.sizes l.behind l.told c.requires.ready)

pub returns-then-faults-clause-at_end : goal.returns-then-faults-clause-at_end
returns-then-faults-clause-at_end g c = λ d image h rests is.
    let same = c.next-filled.ensures.uncalled (rests.told.1, rests.told.2) d.volume h
    (record {
      records = [];
      shows = rest_shows _ _ (g.D.World.outside c.args.disk.now) c.args.volume.now (record { geometry = refl; unit = refl; image = refl; held = refl }) d image rests;
      gives = is;
    }) in
    absurd (c.if-faults.true (c.faults.ensures ∙ ap (λ (disk : g.row.D.Denot). (g.D.World.outside disk).disk_faults) (search rules ∙ ap (λ p. p.disk.now) same) ∙ sym c.faults-faults.ensures))
