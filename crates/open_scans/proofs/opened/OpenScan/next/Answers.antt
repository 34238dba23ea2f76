use Rattle.std.proofs.Common.{◌∙◌, ap, subst}
use Rattle.scans.specs.Scans.{Position}
use Rattle.open_scans.specs.OpenScans.{HasSoundRest, IsNextFault, OpenRow, position_of}
use Rattle.open_scans.proofs.opened.OpenScan.next.Goals as goal
use Rattle.open_scans.proofs.opened.OpenScan.next.Goals.{in-Ok, in-Err}

pub returns-clause-sound : goal.returns-clause-sound
returns-clause-sound g c = elim c.match-copy_next.branch [
  | in-Ok w ↦ rw w.result-is tt
  | in-Err w ↦ rw w.result-is (λ damage told root is whole. w.in-Err.ensures.sound damage told root (ap (λ (r : OpenRow). r.scan.root) c.self.view_is ∙ is) whole)
]

pub returns-clause-fault : goal.returns-clause-fault
returns-clause-fault g c = elim c.match-copy_next.branch [
  | in-Ok w ↦ rw w.result-is tt
  | in-Err w ↦ rw w.result-is (λ told.
      subst (λ (place : Position). IsNextFault (g.B.Ground.geometry c.args.blocks.now) (g.B.Ground.unit c.args.blocks.now) c.args.n place w.in-Err.fault) (ap (λ (r : OpenRow). position_of r.scan) c.self.view_is) (w.in-Err.ensures.fault told))
]

pub returns-clause-way : goal.returns-clause-way
returns-clause-way g c = elim c.match-copy_next.branch [
  | in-Ok w ↦ rw w.result-is (λ told.
      subst (λ (place : Position). HasSoundRest (g.B.Ground.geometry c.args.blocks.now) (g.B.Ground.unit c.args.blocks.now) c.args.n place) (ap (λ (r : OpenRow). position_of r.scan) c.self.view_is) (w.in-Ok.ensures.way told))
  | in-Err w ↦ rw w.result-is tt
]
