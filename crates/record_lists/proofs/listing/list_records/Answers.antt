use Rattle.std.proofs.Common.{◌≡◌, ℕ, List, Some, subst, sym}
use Rattle.ex_base.specs.declared.names.Index.{Index}
use Rattle.ex_base.proofs.Results.{if_err_handed}
use Rattle.file_bodies.specs.Bodies.{bodies_of}
use Rattle.file_bodies.specs.Files.{index_at}
use Rattle.file_bodies.proofs.Belonging.{found_file}
use Rattle.versions.proofs.Results.{same_some}
use Rattle.versions.specs.Listed.{AreReadable}
use Rattle.record_lists.proofs.listing.list_records.Goals as goal

pub returns-in_err-list_index-clause-sound : goal.returns-in_err-list_index-clause-sound
returns-in_err-list_index-clause-sound g c = if_err_handed c.from_residual-in_err-list_index.result _ c.in_err-list_index.field-0.0 c.from_residual-in_err-list_index.ensures.1 (λ damage told index file number readable.
    let kept = c.index_of.ensures.kept in
    let found = c.in_ok-index.ensures.found told in
    let entry = subst (λ (n : ℕ). index_at (g.V.Ground.image c.args.volume.now) n ≡ Some index) number file.entry in
    let same = same_some (index_at (g.V.Ground.image c.args.volume.now) c.args.file_no) index c.in_ok-index.index entry found in
    c.in_err-list_index.ensures.sound damage (g.V.Ground.leads_told c.args.volume.now c.index_of.new.volume kept.leads told)
    (found_file g.V.Ground c.args.volume.now c.index_of.new.volume index c.in_ok-index.index c.args.file_no file number found kept)
    (subst (λ (i : Index). AreReadable (bodies_of (g.V.Ground.image c.index_of.new.volume) i)) same
    (subst (λ (f : ℕ → List ℕ). AreReadable (bodies_of f index)) (sym kept.images) readable)))
