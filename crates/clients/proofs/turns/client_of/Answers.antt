use Rattle.std.proofs.Common.{arith, ⊎_elim}
use Rattle.clients.proofs.Words.{number_reads, one_digit, two_digits}
use Rattle.clients.proofs.turns.client_of.Goals as goal

pub returns-in-len1 : goal.returns-in-len1
returns-in-len1 c = ((omega arith, omega arith), one_digit c.args.word.now (omega arith) (omega arith) (omega arith))

pub returns-in-len2 : goal.returns-in-len2
returns-in-len2 c = ((omega arith, omega arith), two_digits c.args.word.now (omega arith) (omega arith) (omega arith) (omega arith))

pub returns-in_default : goal.returns-in_default
returns-in_default c k few is = ⊎_elim (λ one. omega arith) (λ two. omega arith) (number_reads c.args.word.now k few is)

pub returns-in_default-2 : goal.returns-in_default-2
returns-in_default-2 c k few is = ⊎_elim (λ one. omega arith) (λ two. omega arith) (number_reads c.args.word.now k few is)

pub returns-in_default-3 : goal.returns-in_default-3
returns-in_default-3 c k few is = ⊎_elim (λ one. omega arith) (λ two. omega arith) (number_reads c.args.word.now k few is)

pub returns-in_default-4 : goal.returns-in_default-4
returns-in_default-4 c k few is = ⊎_elim (λ one. omega arith) (λ two. omega arith) (number_reads c.args.word.now k few is)

pub returns-in_default-5 : goal.returns-in_default-5
returns-in_default-5 c k few is = ⊎_elim (λ one. omega arith) (λ two. omega arith) (number_reads c.args.word.now k few is)

pub returns-in_default-6 : goal.returns-in_default-6
returns-in_default-6 c k few is = ⊎_elim (λ one. omega arith) (λ two. omega arith) (number_reads c.args.word.now k few is)

pub returns-in_default-7 : goal.returns-in_default-7
returns-in_default-7 c k few is = ⊎_elim (λ one. omega arith) (λ two. omega arith) (number_reads c.args.word.now k few is)
