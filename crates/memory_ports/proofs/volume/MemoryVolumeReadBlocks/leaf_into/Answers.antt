use Rattle.std.proofs.Common.{arith, ◌≡◌, ◌+◌, ◌*◌, List, ℕ, Some, length, refl, ap, ◌∙◌}
use Rattle.ex_base.specs.Bytes.{part}
use Rattle.tree_store.specs.Whole.{leaf_range}
use Rattle.tree_store.proofs.Places.{leaf_part}
use Rattle.memory_ports.proofs.volume.MemoryVolumeReadBlocks.leaf_into.Goals as goal

pub part_of-requires : goal.part_of-requires
part_of-requires c =
    let m = c.args.self.now in
    let g = m.geometry in
    let n = length c.args.out.now in
    omega (arith, leaf_range g c.args.page.0 c.args.from n (length m.bytes.items) c.requires.page c.requires.range (omega (arith, c.requires.ready.bytes_len)), ap length c.deref.ensures.value)

pub returns-clause-bytes : goal.returns-clause-bytes
returns-clause-bytes c = λ told.
    let m = c.args.self.now in
    let n = length c.args.out.now in
    let at = c.args.page.0 * m.geometry.page_size + c.args.from in
    let read : c.copy_from_slice.new.self ≡ part m.bytes.items at n = c.copy_from_slice.ensures.after ∙ c.part_of.ensures.value ∙ ap (λ (l : List ℕ). part l at n) c.deref.ensures.value in
    leaf_part m.geometry (Some m.bytes.items) c.args.page.0 c.args.from n c.copy_from_slice.new.self c.requires.page c.requires.range refl
    (λ d is. let same : m.bytes.items ≡ d = cc in read ∙ ap (λ (l : List ℕ). part l at n) same)
