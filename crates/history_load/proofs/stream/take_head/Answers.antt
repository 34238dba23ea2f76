use Rattle.std.proofs.Common.{◌≡◌, ◌≤◌, ◌∙◌, ℕ, Some, Err, drop, length, take, ap, subst, arith}
use Rattle.std.proofs.lemmas.List.{length-take}
use Rattle.history_items.specs.Heads.{stream_head}
use Rattle.history_load.specs.Streams.{StreamRefused}
use Rattle.history_reads.specs.declared.heads.HeadFault.{HeadFault}
use Rattle.history_reads.specs.declared.heads.HeadFault.TheVariants.{Bad}
use Rattle.history_load.specs.declared.faults.LoadFault.TheVariants.{Stream}
use Rattle.history_load.proofs.Causes.{stream_same}
use Rattle.history_load.proofs.EndedBy.{ends_with}
use Rattle.history_load.proofs.HeadsTaken.{head_on, long_enough, refused_on, short_refused}
use Rattle.history_load.proofs.stream.take_head.Goals as goal

pub returns-then-branch-lt-HEAD_LEN-clause-refused : goal.returns-then-branch-lt-HEAD_LEN-clause-refused
returns-then-branch-lt-HEAD_LEN-clause-refused g c fault was is has =
    let n = c.in_ok-take_all.field-0 in
    let came : take n c.take_all.new.out ≡ take 52 was = (c.in_ok-take_all.ensures.bytes was has).0 in
    let same : Bad ≡ fault = stream_same Bad fault (ends_with _ (Stream fault) is) in
    subst (StreamRefused c.args.geometry.now was) same
    (short_refused c.args.geometry.now was (omega (arith, ap length came, length-take n c.take_all.new.out, length-take 52 was, c.if-branch-lt-HEAD_LEN.true)))

pub returns-in-Ok-clause-head : goal.returns-in-Ok-clause-head
returns-in-Ok-clause-head g c was has =
    let n = c.in_ok-take_all.field-0 in
    let came : take n c.take_all.new.out ≡ take 52 was = (c.in_ok-take_all.ensures.bytes was has).0 in
    let long : length c.take_all.new.out ≡ 52 = c.take_all.ensures.size in
    let few : n ≤ 52 = c.in_ok-take_all.ensures.count in
    let whole : n ≡ 52 = omega (arith, few, c.if-branch-lt-HEAD_LEN.false) in (
      head_on c.take_all.new.out was n long whole came (stream_head c.in-Ok.head) c.in-Ok.ensures.has,
      long_enough c.take_all.new.out was n long whole came,
      (c.in_ok-take_all.ensures.bytes was has).1 ∙ ap (λ (k : ℕ). Some (drop k was)) whole,
    )

pub returns-in-Err-clause-refused : goal.returns-in-Err-clause-refused
returns-in-Err-clause-refused g c fault was is has =
    let n = c.in_ok-take_all.field-0 in
    let came : take n c.take_all.new.out ≡ take 52 was = (c.in_ok-take_all.ensures.bytes was has).0 in
    let long : length c.take_all.new.out ≡ 52 = c.take_all.ensures.size in
    let few : n ≤ 52 = c.in_ok-take_all.ensures.count in
    let whole : n ≡ 52 = omega (arith, few, c.if-branch-lt-HEAD_LEN.false) in
    let same : c.in-Err.fault ≡ fault = stream_same c.in-Err.fault fault (ends_with _ (Stream fault) is) in
    subst (StreamRefused c.args.geometry.now was) same
    (refused_on c.take_all.new.out was n long whole came c.args.geometry.now c.in-Err.fault c.in-Err.ensures.refused (λ bad. c.in-Err.ensures.bad (ap (λ (f : HeadFault). Err f) bad)))
