use Rattle.std.proofs.Common.{ℕ, ◌≡◌, ◌∙◌, ◌*◌, [], refl, sym, ap}
use Rattle.std.specs.Prelude.{unwrap_or}
use Rattle.ex_base.specs.Bytes.{part}
use Rattle.buffer_groups.specs.Frames.{Frames}
use Rattle.buffer_groups.proofs.GroupLists.{at_index}
use Rattle.tree_store.proofs.Places.{page_len}
use Rattle.volume_port.proofs.LeafPieces.{frame_home}
use Rattle.volume_port.proofs.giving_port.GivingPort.frame.Goals as goal

pub returns-clause-bytes : goal.returns-clause-bytes
returns-clause-bytes g c =
    let s = c.args.self.now in
    let o = g.D.World.outside s.disk.now in
    λ told.
    frame_home s.geometry o o.disk s.groups.now s.index c.args.page.0 c.get.result.now c.frame.result.now refl c.requires.ready.fits.group c.requires.ready.fits.frames c.get.ensures c.frame.ensures.found told
    ∙ ap (λ (n : ℕ). part (unwrap_or o.disk []) (c.args.page.0 * s.geometry.page_size) n) (sym (page_len s.geometry c.args.page.0 c.requires.page))

pub returns-clause-len : goal.returns-clause-len
returns-clause-len g c =
    let s = c.args.self.now in
    c.frame.ensures.len ∙ at_index (λ (f : Frames). f.page_size ≡ s.geometry.page_size) s.groups.now s.index c.get.result.now c.get.ensures c.requires.ready.fits.group c.requires.ready.fits.frames
