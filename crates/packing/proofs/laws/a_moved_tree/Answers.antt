use Rattle.packing.proofs.Sharing.{tree_moves}
use Rattle.packing.proofs.laws.a_moved_tree.Goals as goal

pub returns : goal.returns
returns g c = λ old new records v index oid head dense moves after root made bytes vol geometry apart has shared moved differ. tree_moves g.P.Ground old new records v vol index oid head dense moves after root made bytes geometry apart has shared moved differ
