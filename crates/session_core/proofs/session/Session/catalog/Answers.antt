use Rattle.session_core.specs.contracts.session.Session as session
use Rattle.session_core.proofs.Sessions.{seen, main_there}
use Rattle.session_core.proofs.Reading.{other_frames, only_frames, bytes_read}
use Rattle.std.proofs.Common.{◌≡◌, All, subst, sym}
use Rattle.ex_base.specs.declared.geometry.Geometry.{Geometry}
use Rattle.buffer_groups.specs.Frames.{Frames}
use Rattle.session_core.proofs.session.Session.catalog.Goals as goal

pub invariant_of-self : goal.invariant_of-self
invariant_of-self g c = other_frames (session.the_view c.self.inside) c.read_catalog.new.groups _ c.read_catalog.ensures.keeps c.read_catalog.ensures.behind c.self.invariant

pub returns-clause-session : goal.returns-clause-session
returns-clause-session g c = seen c.self.view_is c.self.invariant

pub returns-clause-frames : goal.returns-clause-frames
returns-clause-frames g c = only_frames (session.the_view c.self.inside) c.args.self.now c.read_catalog.new.groups c.self.view_is c.read_catalog.ensures.only c.read_catalog.ensures.keeps

pub returns-clause-read : goal.returns-clause-read
returns-clause-read g c = bytes_read c.read_catalog.result (λ page. page.items) (g.D.World.outside c.args.disk.now) (session.the_view c.self.inside) c.args.self.now c.self.view_is c.self.invariant.meta c.read_catalog.ensures.read

pub read_catalog-requires-clause-main : goal.read_catalog-requires-clause-main
read_catalog-requires-clause-main g c = main_there c.self.inside.group_rows c.self.inside.volume.groups c.self.invariant.groups

pub read_catalog-requires-clause-sizes : goal.read_catalog-requires-clause-sizes
read_catalog-requires-clause-sizes g c = subst (λ (h : Geometry). All (λ (f : Frames). f.page_size ≡ h.page_size) c.self.inside.volume.groups) (sym c.self.invariant.meta) c.self.invariant.sizes
