use Rattle.std.proofs.Common.{ℕ, List, refl, ap, ◌∙◌}
use Rattle.ex_base.specs.declared.geometry.Geometry.{Geometry}
use Rattle.tree_store.proofs.store.StoreReadBlocks.node.Goals as goal

pub returns : goal.returns
returns g c =
    let kept = c.bring.ensures.kept in (
      (refl, λ _. tt, (kept, tt, record { hit = c.bring.ensures.hit; miss = c.in_ok-bring.ensures.miss })),
      record {
        bytes = λ told. c.frame.ensures.bytes (kept.leads.told told) ∙ ap (λ (f : ℕ → List ℕ). f c.args.page.0) kept.units;
        len = c.frame.ensures.len ∙ ap (λ (x : Geometry). x.page_size) kept.leads.geometry;
        no_damage = tt;
        after = tt;
      },
    )
