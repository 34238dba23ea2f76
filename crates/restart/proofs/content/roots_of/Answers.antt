use Rattle.std.proofs.Common.{◌≡◌, ℕ, ◌+◌, Vec, Global, List, take, None, ap, sym, subst, ◌∙◌}
use Rattle.std.specs.List.{AllByRecursion}
use Rattle.std.proofs.lemmas.List.{take_all}
use Rattle.file_walk.specs.declared.Found.{Found}
use Rattle.node_walk.specs.declared.ObjectRoot.{ObjectRoot}
use Rattle.restart.specs.Content.{roots_found}
use Rattle.restart.proofs.Adopting.{HasRoot, none_more, some_more}
use Rattle.restart.proofs.content.roots_of.Goals as goal
use Rattle.restart.proofs.content.roots_of.Goals.{in-Some+in_ok-push, in_default}

abbrev none : Found
none = record { place = record { page = record { 0 = 0 }; slot = 0 }; unique = 0; object = 0; root = None }

abbrev MoreFound : List Found → ℕ → List ObjectRoot → Type 0
MoreFound records i roots = (roots ≡ roots_found (take (i + 1) records)) × AllByRecursion HasRoot roots

pub loop-record-init : goal.loop-record-init
loop-record-init c = (c.new-roots.ensures.items, subst (AllByRecursion HasRoot) (sym c.new-roots.ensures.items) tt)

pub loop-record-preserved : goal.loop-record-preserved
loop-record-preserved c = elim c.match-record.branch [
  | in-Some+in_ok-push w ↦
      subst (MoreFound c.args.records.now c.loop-record.record-index) (sym (ap (λ (roots : Vec ObjectRoot Global). roots.items) w.roots-is ∙ w.in_ok-push.ensures.items))
      (some_more c.args.records.now c.loop-record.record-index none w.in-Some.root c.loop-record.roots.items c.loop-record-test.true c.requires w.in-Some.is c.loop-record.invariant)
  | in_default w ↦
      subst (MoreFound c.args.records.now c.loop-record.record-index) (sym (ap (λ (roots : Vec ObjectRoot Global). roots.items) w.roots-is))
      (none_more c.args.records.now c.loop-record.record-index none c.loop-record.roots.items c.loop-record-test.true w.in_default.is c.loop-record.invariant)
]

pub returns-clause-roots : goal.returns-clause-roots
returns-clause-roots c = c.loop-record.invariant.0 ∙ ap roots_found (take_all c.loop-record.record-index c.args.records.now c.loop-record-test.false)

pub returns-clause-fields : goal.returns-clause-fields
returns-clause-fields c = c.loop-record.invariant.1
