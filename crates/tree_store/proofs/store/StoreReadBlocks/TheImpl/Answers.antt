-- What a store says of `node` itself gives what the port asks of it.
use Rattle.std.proofs.Common.{◌≡◌, [], length, IfOk, IfErr}
use Rattle.std.specs.Prelude.{⊤}
use mathlib.Core.Option.{none}
use seplogic.Ra.Ura.{Ura}
use base.Logic.{ent, id⊢, ex_i, ex_e, mono_r}
use base.Fml.{GName}
use contract.Monad.{fact, fact_i}
use types.Logic.{Logic, sem}
use borrow.Fn.Refines.{by_parts}
use denote.Follow.{such_by, follows_by, follows_so}
use denote.RattleType.{RattleType}
use denote.Param.{param}
use Rattle.ex_base.specs.Ports.{IsDamage}
use Rattle.tree_store.specs.Lending.{store_row}
use Rattle.tree_store.specs.Stored.{Tells, unit_bytes}
use Rattle.tree_store.proofs.store.StoreReadBlocks.TheImpl.Goals as goal

-- What rests with P rests with what follows from P.
rests_weaker : {M : Type 1} {𝓤 : Ura M} (𝓛 : Logic 𝓤) (R : RattleType) (γ : GName) (P Q : R.Denot → Type 0) → ((n : R.Denot) → P n → Q n)
    → ent 𝓤 (sem 𝓛 (follows_so R R γ none (λ _ _. ⊤) P)) (sem 𝓛 (follows_so R R γ none (λ _ _. ⊤) Q))
unfolding such_by
rests_weaker {𝓤 = 𝓤} 𝓛 R γ P Q wider =
    ex_e 𝓤 _ (λ s.
    ex_i 𝓤 (λ (t : (f : (R.Denot → R.Denot) × R.Denot) × ((w : R.Denot) → ⊤) × Q f.1). sem 𝓛 (follows_by R.Denot R.Denot R.coded.code R.coded.code γ none t.0.0 t.0.1))
    (s.0, s.1, wider s.0.1 s.2))

pub node-meets : goal.node-meets
node-meets g c =
    let 𝓤 = g.world.𝓤 in
    let s = c.args.self.now in
    let held = g.D.World.outside s.disk.now in
    by_parts 𝓤 [] [] _ _ _ _ (λ r e. []) (λ r e. []) _ _
    (fact_i 𝓤 (Unit {0}) _ tt) (λ _. id⊢ 𝓤 _) (λ r e. fact_i 𝓤 (Unit {0}) _ tt)
    (λ r e _. mono_r 𝓤 (fact 𝓤 (IfOk r (λ b. Tells held s.groups.now → b.now ≡ unit_bytes s.geometry held.disk c.args.page.0)))
    (mono_r 𝓤 (fact 𝓤 (IfOk r (λ b. length b.now ≡ s.geometry.page_size)))
    (mono_r 𝓤 (fact 𝓤 (IfErr r (λ fault. IsDamage fault → ⊥)))
    (rests_weaker g.world.𝓛 (store_row (param 0 g.row.D)) c.args.self.ghost_name _ _ (λ new said. (said.0, said.1))))))
    (λ _. tt) (λ _ r e _. tt)
