-- The gate at the front of the log, by the one byte that is read.
use Rattle.std.proofs.Common.{◌≡◌, ℕ, ◌+◌, ◌*◌, ◌<◌, ◌≤◌, List, [], length, slice_index, slice_index_or, nat_eq, Some, IsFalse, refl, sym, ◌∙◌, ap, subst, arith, add-zero}
use Rattle.std.proofs.lemmas.Bool.{eqb-false, ne_eqb}
use Rattle.ex_base.specs.declared.geometry.Geometry.{Geometry}
use Rattle.ex_base.specs.Bytes.{part}
use Rattle.ex_base.specs.Sizes.{volume_bytes, least_page}
use Rattle.disk_model.specs.Outside.{Outside, IsWorld}
use Rattle.op_log.specs.Log.{SaysLog}
use Rattle.op_log.specs.Gates.{Front, front_of, says_of, has_log, part_one}

-- It is closed exactly where no record counts.
pub first_gate : (g : Geometry) (w : Outside) (d out : List ℕ) → IsWorld w → volume_bytes g ≤ w.size → w.disk ≡ Some d → out ≡ part d g.page_size 1
    → (IsFalse (nat_eq (slice_index_or out 0 0) 1) → SaysLog g [] d) × (SaysLog g [] d → IsFalse (nat_eq (slice_index_or out 0 0) 1))
unfolding part
first_gate g w d out world room holds read =
    let large : 257 * g.page_size ≤ length d = omega (arith, has_log g w room, world.whole d (world.held_may_stay d holds)) in
    let is : slice_index_or out 0 0 ≡ slice_index d g.page_size = ap (λ (l : List ℕ). slice_index_or l 0 0) (read ∙ part_one d g.page_size (omega (arith, large, least_page g))) in
    let place : slice_index d (g.page_size + 0) ≡ slice_index d g.page_size = ap (slice_index d) (add-zero g.page_size) in (
      λ closed. says_of g [] d tt tt (record {
        large = large;
        room = omega (arith, least_page g);
        records = refl;
        closed = λ opened. eqb-false (slice_index_or out 0 0) 1 closed (is ∙ sym place ∙ opened);
      }),
      λ says. ne_eqb (slice_index_or out 0 0) 1 (λ opened. (front_of g [] d large says).closed (place ∙ sym is ∙ opened)),
    )
