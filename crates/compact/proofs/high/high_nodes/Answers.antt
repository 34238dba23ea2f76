use Rattle.std.proofs.Common.{◌≡◌, ◌≤◌, ◌∙◌, ℕ, List, length, rules, arith, subst, sym}
use Rattle.ex_base.proofs.Keeping.{keeps_on}
use Rattle.ex_base.proofs.Results.{cause_handed, if_err_handed}
use Rattle.compact.specs.Found.{seen_in}
use Rattle.compact.proofs.Handed.{no_value}
use Rattle.compact.proofs.RootCounts.{RootsSoFar, all_counted, next_root, no_roots, whole_now}
use Rattle.compact.proofs.high.high_nodes.Goals as goal

pub loop-root-init : goal.loop-root-init
loop-root-init g c =
    subst (λ (xs : List ℕ). RootsSoFar g.B.Ground c.args.blocks.now c.args.blocks.now c.args.dense (seen_in c.start-found.result) xs c.args.roots.now 0) (sym c.start-found.ensures.above)
    (no_roots g.B.Ground c.args.blocks.now c.args.dense (seen_in c.start-found.result) c.args.roots.now c.start-found.ensures.seen)

pub loop-root-preserved : goal.loop-root-preserved
loop-root-preserved g c =
    next_root g.B.Ground c.args.blocks.now c.loop-root.blocks c.find_root.new.blocks c.args.dense (seen_in c.loop-root.found) (seen_in c.find_root.new.found) c.loop-root.found.above.items c.find_root.new.found.above.items c.args.roots.now c.loop-root.root-index c.in_ok-find_root.field-0 c.loop-root-test.true
    c.loop-root.invariant c.in_ok-find_root.ensures.kept c.in_ok-find_root.ensures.grows c.in_ok-find_root.ensures.found

pub returns-in_err-find_root-clause-sound : goal.returns-in_err-find_root-clause-sound
returns-in_err-find_root-clause-sound g c =
    if_err_handed c.from_residual.result _ c.in_err-find_root.field-0.0 c.from_residual.ensures.1 (λ told whole damage.
    c.in_err-find_root.ensures.sound (g.B.Ground.leads_told c.args.blocks.now c.loop-root.blocks c.loop-root.invariant.kept.leads told)
    (whole_now g.B.Ground c.args.blocks.now c.loop-root.blocks c.args.dense (seen_in c.loop-root.found) c.loop-root.found.above.items c.args.roots.now c.loop-root.root-index c.loop-root-test.true c.loop-root.invariant whole) damage)

pub returns-clause-count : goal.returns-clause-count
returns-clause-count g c = λ told named.
    let end : length c.args.roots.now ≤ c.loop-root.root-index = omega arith in
    let len : c.len.result ≡ length c.loop-root.found.above.items = search rules in
    len ∙ all_counted g.B.Ground c.args.blocks.now c.loop-root.blocks c.args.dense (seen_in c.loop-root.found) c.loop-root.found.above.items c.args.roots.now c.loop-root.root-index end c.loop-root.invariant told named

pub offset_bounds-roots-root-index : goal.offset_bounds-roots-root-index
offset_bounds-roots-root-index g c = omega arith

pub find_root-requires : goal.find_root-requires
find_root-requires g c = record { ready = g.B.Ground.leads_ready c.args.blocks.now c.loop-root.blocks c.loop-root.invariant.kept.leads c.requires.ready }

pub returns-in_err-find_root-clause-count : goal.returns-in_err-find_root-clause-count
returns-in_err-find_root-clause-count g c = no_value c.from_residual.result _ c.in_err-find_root.field-0.0 c.from_residual.ensures.1

pub returns-in_err-find_root-clause-kept : goal.returns-in_err-find_root-clause-kept
returns-in_err-find_root-clause-kept g c = keeps_on g.B.Ground c.args.blocks.now c.loop-root.blocks c.find_root.new.blocks c.loop-root.invariant.kept c.find_root.ensures.kept

pub returns-in_err-find_root-clause-cause : goal.returns-in_err-find_root-clause-cause
returns-in_err-find_root-clause-cause g c =
    cause_handed (g.B.Ground.faults c.args.blocks.now) (g.B.Ground.faults c.loop-root.blocks) (g.B.Ground.faults c.find_root.new.blocks) c.from_residual.result c.in_err-find_root.field-0.0 c.from_residual.ensures.1
    (g.B.Ground.leads_faults c.args.blocks.now c.loop-root.blocks c.loop-root.invariant.kept.leads) c.in_err-find_root.ensures.cause

pub returns-clause-sound : goal.returns-clause-sound
returns-clause-sound g c = tt

pub returns-clause-kept : goal.returns-clause-kept
returns-clause-kept g c = c.loop-root.invariant.kept

pub returns-clause-cause : goal.returns-clause-cause
returns-clause-cause g c = tt
