use Rattle.std.proofs.Common.{◌≡◌, ◌<◌, ◌∷◌, [], ap, subst, arith, length, ℕ, List, refl}
use Rattle.std.proofs.lemmas.List.{nil_from_length}
use Rattle.disk_model.specs.Changes.{ChangesWithin, InRange}
use Rattle.disk_model.specs.Calls.{Wrote}
use Rattle.disk_model.specs.Outside.{Leaves}
use Rattle.disk_model.specs.Runs.{honest_on, no_calls, calls_at_most, at_most_wider}
use Rattle.op_log.specs.declared.record.LogRecord.{LogRecord}
use Rattle.op_log.specs.Log.{SaysLog, SaysEither, KeepsLog, DiskSays}
use Rattle.op_log.specs.Gates.{image_says, has_log}
use Rattle.op_log.specs.State.{LogState}
use Rattle.op_log.proofs.Moments.{close_leaves, closed_says, none_leaves, keeps_settled, settled_says}
use Rattle.op_log.proofs.log.OpLog.close_all.Given as given
use Rattle.ex_base.proofs.Handed.{not_given}
use Rattle.op_log.proofs.Outcomes.{err_of}
use Rattle.op_log.proofs.log.OpLog.close_all.Goals as goal
use Rattle.op_log.proofs.log.OpLog.close_all.Goals.{After-write_settled, In_ok-write_settled}

-- while the gate is closed
leaves : (g : given.Over) (c : After-write_settled g) (rs : List LogRecord) → c.args.self.now.count ≡ length rs → KeepsLog c.args.self.now.geometry (g.D.World.outside c.args.disk.now) rs
    → Leaves (g.D.World.outside c.args.disk.now) (g.D.World.outside c.write_settled.new.disk) (SaysEither c.args.self.now.geometry rs [])
leaves g c rs count keeps =
    let s = c.args.self.now in
    let a = g.D.World.outside c.args.disk.now in
    let b = g.D.World.outside c.write_settled.new.disk in
    let page : c.self.inside.geometry.page_size ≡ s.geometry.page_size = ap (λ (t : LogState). t.geometry.page_size) c.self.view_is in
    let counts : c.self.inside.count ≡ s.count = ap (λ (t : LogState). t.count) c.self.view_is in
    let changes : ChangesWithin (InRange s.geometry.page_size 1) a b = subst (λ (p : ℕ). ChangesWithin (InRange p 1) a b) page c.write_settled.ensures.changes in
    let some : 0 < length rs = omega (arith, c.if-self-eq0.false, counts, count) in
    close_leaves a b (g.D.World.is_world c.args.disk.now) (has_log s.geometry a c.requires.room) keeps some changes

pub returns-then-self-eq0-clause-any_moment : goal.returns-then-self-eq0-clause-any_moment
returns-then-self-eq0-clause-any_moment g c rs count keeps =
    none_leaves (g.D.World.outside c.args.disk.now) (g.D.World.is_world c.args.disk.now) (has_log c.args.self.now.geometry (g.D.World.outside c.args.disk.now) c.requires.room) keeps

pub returns-then-self-eq0-clause-after : goal.returns-then-self-eq0-clause-after
returns-then-self-eq0-clause-after g c rs count keeps x here =
    let s = c.args.self.now in
    let a = g.D.World.outside c.args.disk.now in
    let counts : c.self.inside.count ≡ s.count = ap (λ (t : LogState). t.count) c.self.view_is in
    let none : rs ≡ [] = nil_from_length rs (omega (arith, c.if-self-eq0.true, counts, count)) in
    subst (λ (qs : List LogRecord). SaysLog s.geometry qs x) none (image_says a x (g.D.World.is_world c.args.disk.now) (has_log s.geometry a c.requires.room) keeps here)

pub returns-in_err-write_settled-clause-any_moment : goal.returns-in_err-write_settled-clause-any_moment
returns-in_err-write_settled-clause-any_moment g c = leaves g (goal.at.returns-in_err-write_settled-clause-any_moment g c).After-write_settled

pub returns-clause-any_moment : goal.returns-clause-any_moment
returns-clause-any_moment g c = leaves g (goal.at.returns-clause-any_moment g c).After-write_settled

-- what the disk says once it is closed
says_none : (g : given.Over) (c : In_ok-write_settled g) (rs : List LogRecord) → DiskSays c.args.self.now.geometry (g.D.World.outside c.args.disk.now) rs
    → DiskSays c.args.self.now.geometry (g.D.World.outside c.write_settled.new.disk) []
says_none g c rs says =
    let s = c.args.self.now in
    let a = g.D.World.outside c.args.disk.now in
    let b = g.D.World.outside c.write_settled.new.disk in
    let page : c.self.inside.geometry.page_size ≡ s.geometry.page_size = ap (λ (t : LogState). t.geometry.page_size) c.self.view_is in
    let wrote : Wrote s.geometry.page_size (0 ∷ []) a b = subst (λ (p : ℕ). Wrote p (0 ∷ []) a b) page c.in_ok-write_settled.ensures.written in
    closed_says a b (g.D.World.is_world c.args.disk.now) (has_log s.geometry a c.requires.room) says wrote

pub returns-clause-says : goal.returns-clause-says
returns-clause-says g c rs count says = says_none g (goal.at.returns-clause-says g c).In_ok-write_settled rs says

pub returns-clause-keeps : goal.returns-clause-keeps
returns-clause-keeps g c rs count keeps =
    let says = says_none g (goal.at.returns-clause-keeps g c).In_ok-write_settled rs keeps.on_disk in
    keeps_settled (g.D.World.outside c.write_settled.new.disk) (honest_on c.write_settled.ensures.changes.only.goes keeps.honest) says (c.in_ok-write_settled.ensures.settled keeps.honest)

pub returns-clause-after : goal.returns-clause-after
returns-clause-after g c rs count keeps x here =
    let says = says_none g (goal.at.returns-clause-after g c).In_ok-write_settled rs keeps.on_disk in
    settled_says (g.D.World.outside c.write_settled.new.disk) x says (c.in_ok-write_settled.ensures.settled keeps.honest) here

pub returns-then-self-eq0-clause-at_most_twice : goal.returns-then-self-eq0-clause-at_most_twice
returns-then-self-eq0-clause-at_most_twice g c = at_most_wider 2 (omega arith) (calls_at_most (no_calls (g.D.World.outside c.args.disk.now)))

pub returns-then-self-eq0-clause-twice : goal.returns-then-self-eq0-clause-twice
returns-then-self-eq0-clause-twice g c = λ some.
    let counts : c.self.inside.count ≡ c.args.self.now.count = ap (λ (t : LogState). t.count) c.self.view_is in
    absurd (let none : ⊥ = omega (arith, c.if-self-eq0.true, counts, some) in none)

pub returns-then-self-eq0-clause-cause : goal.returns-then-self-eq0-clause-cause
returns-then-self-eq0-clause-cause g c = tt

pub returns-then-self-eq0-clause-no_call : goal.returns-then-self-eq0-clause-no_call
returns-then-self-eq0-clause-no_call g c = λ none. refl

pub returns-then-self-eq0-clause-no_fault : goal.returns-then-self-eq0-clause-no_fault
returns-then-self-eq0-clause-no_fault g c = λ none. refl

pub returns-then-self-eq0-clause-failed : goal.returns-then-self-eq0-clause-failed
returns-then-self-eq0-clause-failed g c = tt

pub returns-in_err-write_settled-clause-twice : goal.returns-in_err-write_settled-clause-twice
returns-in_err-write_settled-clause-twice g c = not_given c.from_residual.result _ _ c.from_residual.ensures.1

pub returns-in_err-write_settled-clause-counts : goal.returns-in_err-write_settled-clause-counts
returns-in_err-write_settled-clause-counts g c = not_given c.from_residual.result _ _ c.from_residual.ensures.1

pub returns-in_err-write_settled-clause-says : goal.returns-in_err-write_settled-clause-says
returns-in_err-write_settled-clause-says g c = not_given c.from_residual.result _ _ c.from_residual.ensures.1

pub returns-in_err-write_settled-clause-keeps : goal.returns-in_err-write_settled-clause-keeps
returns-in_err-write_settled-clause-keeps g c = not_given c.from_residual.result _ _ c.from_residual.ensures.1

pub returns-in_err-write_settled-clause-after : goal.returns-in_err-write_settled-clause-after
returns-in_err-write_settled-clause-after g c = not_given c.from_residual.result _ _ c.from_residual.ensures.1

pub returns-in_err-write_settled-clause-settled : goal.returns-in_err-write_settled-clause-settled
returns-in_err-write_settled-clause-settled g c = not_given c.from_residual.result _ _ c.from_residual.ensures.1

pub returns-in_err-write_settled-clause-cause : goal.returns-in_err-write_settled-clause-cause
returns-in_err-write_settled-clause-cause g c = err_of c.from_residual.result _ c.in_err-write_settled.ensures.cause

pub returns-in_err-write_settled-clause-no_call : goal.returns-in_err-write_settled-clause-no_call
returns-in_err-write_settled-clause-no_call g c = λ none. let counts : c.self.inside.count ≡ c.args.self.now.count = ap (λ (t : LogState). t.count) c.self.view_is in absurd (omega (arith, c.if-self-eq0.false, counts, none))

pub returns-in_err-write_settled-clause-no_fault : goal.returns-in_err-write_settled-clause-no_fault
returns-in_err-write_settled-clause-no_fault g c = λ none. let counts : c.self.inside.count ≡ c.args.self.now.count = ap (λ (t : LogState). t.count) c.self.view_is in absurd (omega (arith, c.if-self-eq0.false, counts, none))

pub returns-in_err-write_settled-clause-at_most_twice : goal.returns-in_err-write_settled-clause-at_most_twice
returns-in_err-write_settled-clause-at_most_twice g c = c.write_settled.ensures.at_most_twice

pub returns-in_err-write_settled-clause-changes : goal.returns-in_err-write_settled-clause-changes
returns-in_err-write_settled-clause-changes g c =
    let page : c.self.inside.geometry.page_size ≡ c.args.self.now.geometry.page_size = ap (λ (t : LogState). t.geometry.page_size) c.self.view_is in
    subst (λ (p : ℕ). ChangesWithin (InRange p 1) (g.D.World.outside c.args.disk.now) (g.D.World.outside c.write_settled.new.disk)) page c.write_settled.ensures.changes

pub returns-clause-cause : goal.returns-clause-cause
returns-clause-cause g c = tt

pub returns-clause-no_fault : goal.returns-clause-no_fault
returns-clause-no_fault g c = λ none. refl

pub returns-clause-failed : goal.returns-clause-failed
returns-clause-failed g c = tt

pub returns-clause-no_call : goal.returns-clause-no_call
returns-clause-no_call g c = λ none. let counts : c.self.inside.count ≡ c.args.self.now.count = ap (λ (t : LogState). t.count) c.self.view_is in absurd (omega (arith, c.if-self-eq0.false, counts, none))

pub returns-clause-at_most_twice : goal.returns-clause-at_most_twice
returns-clause-at_most_twice g c = c.write_settled.ensures.at_most_twice

pub returns-clause-twice : goal.returns-clause-twice
returns-clause-twice g c = λ some. c.in_ok-write_settled.ensures.twice

pub returns-clause-settled : goal.returns-clause-settled
returns-clause-settled g c = λ some. c.in_ok-write_settled.ensures.settled

pub returns-clause-changes : goal.returns-clause-changes
returns-clause-changes g c =
    let page : c.self.inside.geometry.page_size ≡ c.args.self.now.geometry.page_size = ap (λ (t : LogState). t.geometry.page_size) c.self.view_is in
    subst (λ (p : ℕ). ChangesWithin (InRange p 1) (g.D.World.outside c.args.disk.now) (g.D.World.outside c.write_settled.new.disk)) page c.write_settled.ensures.changes
