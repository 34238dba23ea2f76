use Rattle.std.proofs.Common.{Option, Some, subst, sym, None, refl}
use Rattle.ex_base.specs.declared.names.Place.{Place}
use Rattle.file_bodies.specs.Bodies.{bodies_of}
use Rattle.version_tree.specs.Links.{ReadOn, StoredAt}
use Rattle.version_tree.proofs.Linking.{older_at}
use Rattle.version_tree.proofs.ReadPlaces.{older_on}
use Rattle.ex_base.proofs.Keeping.{keeps_refl}
use Rattle.versions.proofs.Results.{at_nothing}
use Rattle.version_tree.proofs.links.linked_older.Goals as goal

pub returns-in-Ok-clause-older : goal.returns-in-Ok-clause-older
returns-in-Ok-clause-older g c = λ told linked index place body has is.
    let o = older_at g.V.Ground c.args.volume.now index place body c.args.stored.now.head c.in-Some.at linked has is.head c.in-Some.is in
    subst (λ (link : Option Place). StoredAt (bodies_of (g.V.Ground.image c.args.volume.now) index) link (Some c.in-Ok.older)) (sym c.in-Some.is)
    (record { body = o.body; there = o.there; is = c.in-Ok.ensures.stored told index o.body o.has })

pub returns-in-Err-clause-sound : goal.returns-in-Err-clause-sound
returns-in-Err-clause-sound g c = λ damage told linked index place body has is.
    let o = older_at g.V.Ground c.args.volume.now index place body c.args.stored.now.head c.in-Some.at linked has is.head c.in-Some.is in
    c.in-Err.ensures.sound damage told index o.body o.is o.has o.spelled o.frozen o.lower

pub returns-in-Ok-clause-reads : goal.returns-in-Ok-clause-reads
returns-in-Ok-clause-reads g c = λ told. subst (λ (link : Option Place). ReadOn (g.V.Ground.image c.args.volume.now) link (Some c.in-Ok.older)) (sym c.in-Some.is) (c.in-Ok.ensures.reads told)

pub returns-in-Err-clause-fault : goal.returns-in-Err-clause-fault
returns-in-Err-clause-fault g c = λ told. c.in-Err.ensures.fault told c.in-Some.is

pub returns-in-Ok-clause-link : goal.returns-in-Ok-clause-link
returns-in-Ok-clause-link g c = λ told. older_on (g.V.Ground.image c.args.volume.now) c.args.stored.now.head c.in-Some.at c.in-Ok.older c.in-Some.is (c.in-Ok.ensures.reads told) c.in-Ok.ensures.frozen c.in-Ok.ensures.lower

pub returns-in-None-clause-sound : goal.returns-in-None-clause-sound
returns-in-None-clause-sound g c = tt

pub returns-in-None-clause-fault : goal.returns-in-None-clause-fault
returns-in-None-clause-fault g c = tt

pub returns-in-None-clause-kept : goal.returns-in-None-clause-kept
returns-in-None-clause-kept g c = keeps_refl g.V.Ground c.args.volume.now

pub returns-in-None-clause-cause : goal.returns-in-None-clause-cause
returns-in-None-clause-cause g c = tt

pub returns-in-Ok-clause-sound : goal.returns-in-Ok-clause-sound
returns-in-Ok-clause-sound g c = tt

pub returns-in-Ok-clause-fault : goal.returns-in-Ok-clause-fault
returns-in-Ok-clause-fault g c = tt

pub returns-in-Ok-clause-kept : goal.returns-in-Ok-clause-kept
returns-in-Ok-clause-kept g c = c.read_older.ensures.kept

pub returns-in-Ok-clause-cause : goal.returns-in-Ok-clause-cause
returns-in-Ok-clause-cause g c = tt

pub returns-in-Err-clause-older : goal.returns-in-Err-clause-older
returns-in-Err-clause-older g c = tt

pub returns-in-Err-clause-reads : goal.returns-in-Err-clause-reads
returns-in-Err-clause-reads g c = tt

pub returns-in-Err-clause-link : goal.returns-in-Err-clause-link
returns-in-Err-clause-link g c = tt

pub returns-in-Err-clause-kept : goal.returns-in-Err-clause-kept
returns-in-Err-clause-kept g c = c.read_older.ensures.kept

pub returns-in-Err-clause-cause : goal.returns-in-Err-clause-cause
returns-in-Err-clause-cause g c = c.in-Err.ensures.cause

pub read_older-requires : goal.read_older-requires
read_older-requires g c = c.requires

pub returns-in-None-clause-older : goal.returns-in-None-clause-older
returns-in-None-clause-older g c = λ told linked index place body has is.
    subst (λ (link : Option Place). StoredAt (bodies_of (g.V.Ground.image c.args.volume.now) index) link None) (sym c.in-None.is) refl

pub returns-in-None-clause-reads : goal.returns-in-None-clause-reads
returns-in-None-clause-reads g c = λ told. subst (λ (link : Option Place). ReadOn (g.V.Ground.image c.args.volume.now) link None) (sym c.in-None.is) refl

pub returns-in-None-clause-link : goal.returns-in-None-clause-link
returns-in-None-clause-link g c = λ told. at_nothing c.args.stored.now.head.older _ c.in-None.is
