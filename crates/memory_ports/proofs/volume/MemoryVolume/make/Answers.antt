use Rattle.std.proofs.Common.{◌≡◌, ◌≢◌, ℕ, Bool, eqb, ap, ◌∙◌, arith, ⊎_elim}
use Rattle.std.proofs.lemmas.Bool.{cases_eq, both_ways}
use Rattle.ex_base.specs.Area.{catalog_no}
use Rattle.tree_store.proofs.Taking.{fresh_counted}
use Rattle.memory_ports.proofs.volume.MemoryVolume.make.Goals as goal

pub returns-clause-ready : goal.returns-clause-ready
returns-clause-ready c = record {
  counted = fresh_counted c.args.geometry.now c.in_ok-make.field-0 c.in_ok-make.ensures.geometry c.in_ok-make.ensures.used c.in_ok-make.ensures.refs;
  bytes_len = omega (arith, c.in_ok-vec.field-0.ok.0, c.in_ok-vec.ensures.len, c.volume_bytes.ensures);
  images_len = omega (arith, c.in_ok-vec-2.field-0.ok.0, c.in_ok-vec-2.ensures.len);
  flags_len = c.in_ok-fresh_flags.ensures.len;
  catalog = c.in_ok-fresh_flags.ensures.catalog;
  in_use = λ page set. ⊎_elim
      (λ (here : page ≡ catalog_no). ap (λ (f : ℕ → Bool). f page) c.in_ok-make.ensures.used ∙ ap (λ q. eqb q catalog_no) here)
      (λ (differ : page ≢ catalog_no). absurd (both_ways _ (c.in_ok-fresh_flags.ensures.others page differ) set)) (cases_eq page catalog_no);
}
