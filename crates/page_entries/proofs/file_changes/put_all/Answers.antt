use Rattle.std.proofs.Common.{◌<◌, ℕ, List, ◌-◌, length, drop, slice_get, subst, sym, ap, ◌∙◌, arith}
use Rattle.object_files.specs.Catalog.{FileEntry}
use Rattle.page_entries.specs.FilesAfter.{Lists, files_put}
use Rattle.page_entries.proofs.Listing.{put_step, first_file}
use Rattle.page_entries.proofs.file_changes.put_all.Goals as goal

pub loop-k-preserved : goal.loop-k-preserved
loop-k-preserved c = λ es h.
    let lt : c.loop-k.k < length c.args.put.now.entries = omega (arith, c.loop-k-test.true, c.len-k-end.ensures) in
    let e = first_file c.args.put.now.entries (length c.args.put.now.entries - 1 - c.loop-k.k) (omega (arith, lt)) in
    subst (λ (t : List FileEntry). Lists c.put_in.new.files.items (files_put t es)) (sym (put_step c.args.put.now.entries c.loop-k.k e.0 lt e.1))
    (c.in_ok-put_in.ensures (files_put (drop (length c.args.put.now.entries - c.loop-k.k) c.args.put.now.entries) es) e.0 (c.loop-k.invariant es h) (c.file_of.ensures e.0 (ap (λ (n : ℕ). slice_get c.args.put.now.entries (n - 1 - c.loop-k.k)) c.len.ensures ∙ e.1)))
