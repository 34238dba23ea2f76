use Rattle.std.proofs.Common.{ℕ, List, refl, ap, ◌∙◌}
use Rattle.ex_base.specs.declared.geometry.Geometry.{Geometry}
use Rattle.volume_port.proofs.pages.VolumePortReadPages.get.Goals as goal

pub returns : goal.returns
returns g c =
    let kept = c.reach.ensures.kept in (
      (refl, λ _. tt, (kept, tt)),
      record {
        bytes = λ told. c.shown.ensures.bytes (kept.leads.store.told told) ∙ ap (λ (f : ℕ → List ℕ). f c.args.page.0) kept.images;
        len = c.shown.ensures.len ∙ ap (λ (x : Geometry). x.page_size) kept.leads.store.geometry;
        no_damage = tt;
        after = tt;
      },
    )
