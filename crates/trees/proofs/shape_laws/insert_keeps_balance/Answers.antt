use Rattle.trees.proofs.Balance.{inserted}
use Rattle.trees.proofs.shape_laws.insert_keeps_balance.Goals as goal

pub returns-clause-balanced : goal.returns-clause-balanced
returns-clause-balanced c = λ fan full shape pos n wide roomy inside balanced. (inserted fan full shape pos n (record { wide = wide; roomy = roomy }) balanced).balanced

pub returns-clause-bytes : goal.returns-clause-bytes
returns-clause-bytes c = λ fan full shape pos n wide roomy inside balanced. (inserted fan full shape pos n (record { wide = wide; roomy = roomy }) balanced).size
