use Rattle.std.proofs.Common.{Option, length, sym, subst}
use Rattle.std.proofs.lemmas.Result.{IfErr-weaker, on_ok_weaker}
use Rattle.ex_base.specs.declared.names.PageNo.{PageNo}
use Rattle.trees.specs.Damage.{IsReadFault, root_row_at}
use Rattle.ex_base.specs.Area.{NamesLeaf}
use Rattle.tree_insert.proofs.SoundWays.{root_way}
use Rattle.trees.proofs.ReadFaults.{root_read_walks}
use Rattle.trees.proofs.Sound.{sound_root}
use Rattle.tree_insert.proofs.root_read.read.Goals as goal

pub returns-clause-fault : goal.returns-clause-fault
returns-clause-fault g c =
    IfErr-weaker c.read_row.result _ _ (λ f h told.
    subst (λ (p : Option PageNo). IsReadFault (g.B.Ground.geometry c.args.blocks.now) (g.B.Ground.unit c.args.blocks.now) c.args.root.now.height 2 (root_row_at c.args.root.now.size p) c.args.pos (length c.args.out.now) f) (sym c.in-Some.is) (h told)) c.read_row.ensures.fault

pub returns-clause-sound : goal.returns-clause-sound
returns-clause-sound g c =
    IfErr-weaker c.read_row.result _ _ (λ f h told whole.
    sound_root (g.B.Ground.geometry c.args.blocks.now) (g.B.Ground.unit c.args.blocks.now) c.args.root.now f whole
    (root_read_walks (g.B.Ground.geometry c.args.blocks.now) (g.B.Ground.unit c.args.blocks.now) c.args.root.now c.args.pos (length c.args.out.now) f
    (subst (λ (p : Option PageNo). IsReadFault (g.B.Ground.geometry c.args.blocks.now) (g.B.Ground.unit c.args.blocks.now) c.args.root.now.height 2 (root_row_at c.args.root.now.size p) c.args.pos (length c.args.out.now) f) (sym c.in-Some.is) (h told)))) c.read_row.ensures.fault

pub returns-clause-way : goal.returns-clause-way
returns-clause-way g c =
    on_ok_weaker c.read_row.result (λ way told byte low high. root_way (g.B.Ground.geometry c.args.blocks.now) (g.B.Ground.unit c.args.blocks.now) (NamesLeaf (g.B.Ground.geometry c.args.blocks.now)) c.args.root.now c.in-Some.page byte byte c.in-Some.is (way told byte low high)) c.read_row.ensures.way
