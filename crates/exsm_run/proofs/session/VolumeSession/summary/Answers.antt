use Rattle.std.proofs.Common.{◌∙◌, ap, arith, sym, subst}
use Rattle.ex_base.specs.Sizes.{volume_bytes}
use Rattle.volume_port.specs.Reading.{TellsBytes}
use Rattle.session_core.specs.Damage.{IsSessionDamage, no_version}
use Rattle.session_core.specs.Sessions.{SessionState}
use Rattle.exsm_run.proofs.session.VolumeSession.summary.Goals as goal

pub returns-clause-stands : goal.returns-clause-stands
returns-clause-stands g c page want got is tells =
    let a = g.H.World.outside c.args.host.now in
    let b = g.H.World.outside c.summarize.new.host in
    subst (λ (s : SessionState). IsSessionDamage a b s no_version page want got) c.self.view_is
    (c.summarize.ensures.stands page want got is (subst (λ (s : SessionState). TellsBytes a s.groups) (sym c.self.view_is) tells))

pub returns-clause-sound : goal.returns-clause-sound
returns-clause-sound g c before stop same shows is = c.summarize.ensures.sound before stop (same ∙ sym c.self.view_is) shows is

pub returns-clause-room : goal.returns-clause-room
returns-clause-room g c =
    omega (
      arith,
      c.requires.room,
      ap (λ (s : SessionState). volume_bytes s.geometry) c.self.view_is,
      ap (λ (s : SessionState). volume_bytes s.geometry) c.summarize.ensures.frames.same,
      c.summarize.ensures.only.nothing.only.goes.size,
    )

pub returns-clause-sums : goal.returns-clause-sums
returns-clause-sums g c = λ before same shows. c.summarize.ensures.sums before (same ∙ sym c.self.view_is) shows

pub returns-clause-shows : goal.returns-clause-shows
returns-clause-shows g c = λ before same shows. c.summarize.ensures.shows before (same ∙ sym c.self.view_is) shows
