use Rattle.std.proofs.Common.{rules, ℕ, List, refl, ap, ◌∙◌}
use Rattle.ex_base.specs.declared.geometry.Geometry.{Geometry}
use Rattle.volume_port.proofs.Moving.{store_moves}
use Rattle.volume_port.proofs.WorkingRows.{image_same}
use Rattle.volume_port.proofs.blocks.VolumePortReadBlocks.node.Goals as goal

pub returns-in_err-bring : goal.returns-in_err-bring
returns-in_err-bring g c =
    let s = c.args.self.now in
    let kept = c.bring.ensures.kept in (
      (
        refl,
        λ _. tt,
        (
          record {
            units = kept.units;
            images = image_same s.store.geometry c.bring.new.self.geometry s.meta.now _ _ kept.leads.geometry kept.units;
            used = kept.used;
            refs = kept.refs;
            held = refl;
            free = kept.free;
            touched = refl;
            leads = store_moves _ s.store c.bring.new.self s.meta s.pages s.room s.room refl kept.leads (λ p is stays. kept.leads.used p is stays);
          },
          search rules,
        ),
      ),
      search rules,
    )

pub returns : goal.returns
returns g c =
    let s = c.args.self.now in
    let kept = c.bring.ensures.kept in (
      (
        refl,
        λ _. tt,
        (
          record {
            units = kept.units;
            images = image_same s.store.geometry c.bring.new.self.geometry s.meta.now _ _ kept.leads.geometry kept.units;
            used = kept.used;
            refs = kept.refs;
            held = refl;
            free = kept.free;
            touched = refl;
            leads = store_moves _ s.store c.bring.new.self s.meta s.pages s.room s.room refl kept.leads (λ p is stays. kept.leads.used p is stays);
          },
          tt,
        ),
      ),
      record {
        bytes = λ told. c.frame.ensures.bytes (kept.leads.told told) ∙ ap (λ (f : ℕ → List ℕ). f c.args.page.0) kept.units;
        len = c.frame.ensures.len ∙ ap (λ (x : Geometry). x.page_size) kept.leads.geometry;
        no_damage = tt;
        after = tt;
      },
    )
