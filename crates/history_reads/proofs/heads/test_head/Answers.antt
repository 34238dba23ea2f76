use Rattle.std.proofs.Common.{◌≡◌, ◌<◌, None, sym, subst, arith}
use Rattle.history_model.specs.Stream.{StreamHead, lack_of, misfit_of}
use Rattle.history_items.specs.Heads.{stream_head}
use Rattle.history_fronts.specs.Fronts.{IsDumpHead}
use Rattle.history_reads.proofs.HeadTests.{head_refused, one_head_of}
use Rattle.history_reads.proofs.heads.test_head.Goals as goal
use Rattle.history_reads.proofs.heads.test_head.Goals.{then-head-lt1-via-then-head-lt1, then-head-lt1-via-else-head-lt1+then-head-most_files}

pub returns-in_default-clause-bad : goal.returns-in_default-clause-bad
returns-in_default-clause-bad c = λ e. head_refused c.args.geometry.now c.args.bytes.now c.requires (λ head has is. c.in_default.ensures.none head has)

pub returns-then-head-lt1-clause-refused : goal.returns-then-head-lt1-clause-refused
returns-then-head-lt1-clause-refused c = λ head has.
    let same : head ≡ stream_head c.in-Some.head = one_head_of c.args.bytes.now head (stream_head c.in-Some.head) c.requires has c.in-Some.ensures.found in (
      subst (λ (h : StreamHead). misfit_of c.args.geometry.now h ≡ None) (sym same) c.in_default-misfit.ensures,
      subst (λ (h : StreamHead). lack_of c.args.pages c.args.segs h ≡ None) (sym same) c.in_default-lack.ensures,
      λ is.
          let here : IsDumpHead c.args.geometry.now (stream_head c.in-Some.head) = subst (IsDumpHead c.args.geometry.now) same is in
          elim c.then-head-lt1.branch [
            | then-head-lt1-via-then-head-lt1 w ↦ omega (arith, here.some)
            | then-head-lt1-via-else-head-lt1+then-head-most_files w ↦ omega (arith, here.few)
          ],
    )

pub returns-then-head-lt1-clause-bad : goal.returns-then-head-lt1-clause-bad
returns-then-head-lt1-clause-bad c = λ e. head_refused c.args.geometry.now c.args.bytes.now c.requires (λ head has is. (returns-then-head-lt1-clause-refused c head has).2 is)
