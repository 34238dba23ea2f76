use Rattle.trees.proofs.Balance.{appended}
use Rattle.trees.proofs.shape_laws.append_keeps_balance.Goals as goal

pub returns-clause-balanced : goal.returns-clause-balanced
returns-clause-balanced c = λ fan full shape n wide roomy balanced. (appended fan full shape n (record { wide = wide; roomy = roomy }) balanced).balanced

pub returns-clause-bytes : goal.returns-clause-bytes
returns-clause-bytes c = λ fan full shape n wide roomy balanced. (appended fan full shape n (record { wide = wide; roomy = roomy }) balanced).size
