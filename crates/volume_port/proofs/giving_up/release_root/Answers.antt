use Rattle.std.proofs.Common.{◌≡◌, ◌≤◌, ℕ, Bool, arith, rules, OnOk, ◌∷◌, []}
use Rattle.std.proofs.lemmas.List.Elements.{Contains-get_or}
use Rattle.std.proofs.lemmas.Result.{IfErr-weaker, on_ok_weaker}
use Rattle.ex_base.specs.Ports.{IsDamage}
use Rattle.page_alloc.specs.UnitSet.{used_at, refs_at}
use Rattle.trees.specs.Owners.{IsOwned}
use Rattle.volume_model.specs.Homes.{home}
use Rattle.volume_port.specs.Giving.{is_logged}
use Rattle.volume_port.specs.GivingUp.{GivesTrees, IsGivingFault, OwnRoots}
use Rattle.volume_port.proofs.GivingUp.{giving_keeps, gives_trees, left_under, not_damaged}
use Rattle.volume_port.proofs.giving_up.release_root.Goals as goal

pub returns-clause-gives : goal.returns-clause-gives
returns-clause-gives g c =
    let outside = g.D.World.outside in
    let port = c.give_up_once.new.port in
    let given : GivesTrees (is_logged c.args.pages.now c.args.kept.now) c.args.geometry.now (outside c.args.disk.now) (outside port.disk.now) c.args.units.now port.units.now c.args.groups.now port.groups.now =
    gives_trees outside _ _ _ _ _ _ _ _ _ _ _ _ _ _ c.give_up_once.ensures.gives.frees c.requires.ready in
    search rules

pub returns-clause-released : goal.returns-clause-released
returns-clause-released g c =
    let outside = g.D.World.outside in
    let port = c.give_up_once.new.port in
    let x = c.give_up_once.ensures.gives.frees in
    let released : (used : ℕ → Bool) (refs : ℕ → ℕ) → used ≡ used_at port.units.now → refs ≡ refs_at port.units.now
    → OnOk c.give_up_once.result ((own : OwnRoots c.args.pages.now c.args.kept.now c.args.geometry.now (outside c.args.disk.now) c.args.groups.now c.args.units.now (c.args.root.now ∷ []))
    → IsOwned c.args.geometry.now (home c.args.geometry.now own.disk) used refs own.logged own.others) = λ used refs same counted.
    on_ok_weaker c.give_up_once.result (λ released own. left_under c.args.geometry.now (outside c.args.disk.now) c.args.groups.now c.args.units.now c.args.pages.now c.args.kept.now c.args.root.now own
    port.geometry (outside port.disk.now) port.units.now port.pages.now port.kept.now x.store.geometry x.only.nothing.disk x.pages x.kept x.refs released used refs same counted) c.give_up_once.ensures.released in
    search rules

pub returns-clause-refs : goal.returns-clause-refs
returns-clause-refs g c =
    let fewer : (unit : ℕ) → refs_at c.give_up_once.new.port.units.now unit ≤ refs_at c.args.units.now unit = c.give_up_once.ensures.gives.frees.refs in
    search rules

pub returns-clause-sound : goal.returns-clause-sound
returns-clause-sound g c =
    let outside = g.D.World.outside in
    IfErr-weaker c.give_up_once.result _ (λ fault. IsDamage fault → OwnRoots c.args.pages.now c.args.kept.now c.args.geometry.now (outside c.args.disk.now) c.args.groups.now c.args.units.now (c.args.root.now ∷ []) → ⊥)
    (λ fault blames damage own. not_damaged c.args.geometry.now (outside c.args.disk.now) c.args.groups.now c.args.units.now c.args.pages.now c.args.kept.now c.args.root.now own fault blames damage)
    c.give_up_once.ensures.fault

pub returns-clause-fault : goal.returns-clause-fault
returns-clause-fault g c =
    let root = c.args.root.now in
    IfErr-weaker c.give_up_once.result _ (IsGivingFault c.args.geometry.now (g.D.World.outside c.args.disk.now) c.args.groups.now (root ∷ []))
    (λ fault blames told. record { root = root; one = Contains-get_or (root ∷ []) 0 root (omega arith); way = blames (λ a b gives. giving_keeps g.D.World.outside gives.frees) told })
    c.give_up_once.ensures.way
