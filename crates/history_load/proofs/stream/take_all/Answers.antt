use Rattle.std.proofs.Common.{◌≡◌, ◌-◌, ◌∙◌, ℕ, List, ◌++◌, Some, drop, length, length-drop, take, ap, arith, refl}
use Rattle.std.proofs.lemmas.List.{length-append, length-take}
use Rattle.disk_model.specs.Runs.{source_trans, source_refl}
use Rattle.history_load.proofs.Feeding.{dropped, filled, longer}
use Rattle.ex_base.proofs.Results.{if_err_handed}
use Rattle.history_load.specs.Faults.{LoadCause}
use Rattle.ex_base.proofs.Handed.{no_value}
use Rattle.history_load.proofs.Causes.{cause_since}
use Rattle.history_load.specs.declared.faults.LoadFault.TheVariants.{Source}
use Rattle.history_load.proofs.stream.take_all.Goals as goal

pub returns-then-n-eq0-clause-draws : goal.returns-then-n-eq0-clause-draws
returns-then-n-eq0-clause-draws g c = (
  c.takes.at,
  c.takes.invariant.within,
  λ was has.
      let came = c.in_ok-n.ensures.bytes (drop c.takes.at was) (c.takes.invariant.taken was has).2 in
      came.2 ∙ ap (λ (k : ℕ). Some (drop k (drop c.takes.at was))) c.if-n-eq0.true,
)

pub takes-preserved : goal.takes-preserved
takes-preserved g c =
    let at = c.takes.at in
    let n = c.in_ok-n.n in
    let out = c.takes.out in
    let ys = c.take_some.new.out in
    let inv = c.takes.invariant in
    let part : length (drop at out) ≡ length out - at = length-drop at out in
    let front : length (take at out) ≡ at = omega (arith, length-take at out, inv.within, inv.size) in
    let behind : length (drop (length out - at) (drop at out)) ≡ 0 = omega (arith, length-drop (length out - at) (drop at out), part) in
    record {
      size = omega (arith, length-append (take at out) (ys ++ drop (length out - at) (drop at out)), length-append ys (drop (length out - at) (drop at out)), front, behind, c.take_some.ensures.size, part, inv.within, inv.size);
      within = omega (arith, c.in_ok-n.ensures.count, part, inv.within, inv.size);
      only = source_trans inv.only c.take_some.ensures.only;
      taken = λ was has.
          let so_far = inv.taken was has in
          let came = c.in_ok-n.ensures.bytes (drop at was) so_far.2 in (
            omega (arith, came.0, length-drop at was, so_far.0),
            filled at n (length out - at) out ys (drop (length out - at) (drop at out)) (omega (arith, inv.within, inv.size)) (omega (arith, c.in_ok-n.ensures.count, c.take_some.ensures.size))
                ∙ (λ i. so_far.1 i ++ came.1 i) ∙ longer at n was,
            came.2 ∙ ap (λ (l : List ℕ). Some l) (dropped at n was),
          );
    }

-- ---- what else is promised

pub takes-init : goal.takes-init
takes-init g c = record { size = refl; within = omega arith; only = source_refl (g.S.World.outside c.args.source.now); taken = λ was has. (omega arith, refl, has) }

pub returns-in_err-n-clause-bytes : goal.returns-in_err-n-clause-bytes
returns-in_err-n-clause-bytes g c = no_value c.from_residual.result _ c.in_err-n.field-0.0 c.from_residual.ensures.1

pub returns-in_err-n-clause-count : goal.returns-in_err-n-clause-count
returns-in_err-n-clause-count g c = no_value c.from_residual.result _ c.in_err-n.field-0.0 c.from_residual.ensures.1

pub returns-in_err-n-clause-only : goal.returns-in_err-n-clause-only
returns-in_err-n-clause-only g c = source_trans c.takes.invariant.only c.take_some.ensures.only

pub returns-in_err-n-clause-draws : goal.returns-in_err-n-clause-draws
returns-in_err-n-clause-draws g c = (c.takes.at, c.takes.invariant.within, λ was has. c.in_err-n.ensures.failed ∙ (c.takes.invariant.taken was has).2)

pub returns-in_err-n-clause-source : goal.returns-in_err-n-clause-source
returns-in_err-n-clause-source g c = if_err_handed c.from_residual.result (λ fault. fault ≡ Source) c.in_err-n.field-0.0 c.from_residual.ensures.1 c.in_err-n.ensures.source

pub returns-in_err-n-clause-cause : goal.returns-in_err-n-clause-cause
returns-in_err-n-clause-cause g c = if_err_handed c.from_residual.result (LoadCause (g.S.World.outside c.args.source.now) (g.S.World.outside c.take_some.new.source)) c.in_err-n.field-0.0 c.from_residual.ensures.1 (cause_since (g.S.World.outside c.args.source.now) (g.S.World.outside c.takes.source) (g.S.World.outside c.take_some.new.source) c.in_err-n.field-0.0 c.takes.invariant.only.goes.disk_faults c.takes.invariant.only.goes.read_faults c.in_err-n.ensures.cause)

pub returns-in_err-n-clause-size : goal.returns-in_err-n-clause-size
returns-in_err-n-clause-size g c =
    let at = c.takes.at in
    let out = c.takes.out in
    let ys = c.take_some.new.out in
    let inv = c.takes.invariant in
    let part : length (drop at out) ≡ length out - at = length-drop at out in
    let front : length (take at out) ≡ at = omega (arith, length-take at out, inv.within, inv.size) in
    let behind : length (drop (length out - at) (drop at out)) ≡ 0 = omega (arith, length-drop (length out - at) (drop at out), part) in
    omega (arith, length-append (take at out) (ys ++ drop (length out - at) (drop at out)), length-append ys (drop (length out - at) (drop at out)), front, behind, c.take_some.ensures.size, part, inv.within, inv.size)

pub returns-then-n-eq0-clause-only : goal.returns-then-n-eq0-clause-only
returns-then-n-eq0-clause-only g c = source_trans c.takes.invariant.only c.take_some.ensures.only

pub returns-then-n-eq0-clause-count : goal.returns-then-n-eq0-clause-count
returns-then-n-eq0-clause-count g c = c.takes.invariant.within

pub returns-then-n-eq0-clause-source : goal.returns-then-n-eq0-clause-source
returns-then-n-eq0-clause-source g c = tt

pub returns-then-n-eq0-clause-cause : goal.returns-then-n-eq0-clause-cause
returns-then-n-eq0-clause-cause g c = tt

pub returns-then-n-eq0-clause-size : goal.returns-then-n-eq0-clause-size
returns-then-n-eq0-clause-size g c =
    let at = c.takes.at in
    let out = c.takes.out in
    let ys = c.take_some.new.out in
    let inv = c.takes.invariant in
    let part : length (drop at out) ≡ length out - at = length-drop at out in
    let front : length (take at out) ≡ at = omega (arith, length-take at out, inv.within, inv.size) in
    let behind : length (drop (length out - at) (drop at out)) ≡ 0 = omega (arith, length-drop (length out - at) (drop at out), part) in
    omega (arith, length-append (take at out) (ys ++ drop (length out - at) (drop at out)), length-append ys (drop (length out - at) (drop at out)), front, behind, c.take_some.ensures.size, part, inv.within, inv.size)

pub returns-clause-only : goal.returns-clause-only
returns-clause-only g c = c.takes.invariant.only

pub returns-clause-size : goal.returns-clause-size
returns-clause-size g c = c.takes.invariant.size

pub returns-clause-count : goal.returns-clause-count
returns-clause-count g c = c.takes.invariant.within

pub returns-clause-draws : goal.returns-clause-draws
returns-clause-draws g c = (c.takes.at, c.takes.invariant.within, λ was has. (c.takes.invariant.taken was has).2)

pub returns-clause-source : goal.returns-clause-source
returns-clause-source g c = tt

pub returns-clause-cause : goal.returns-clause-cause
returns-clause-cause g c = tt
