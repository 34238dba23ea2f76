use Rattle.std.proofs.Common.{◌≡◌, ◌∙◌, ℕ, List, ap, subst}
use Rattle.std.specs.Prelude.{slice_get, slice_set}
use Rattle.std.proofs.lemmas.Result.{IfErr-weaker, IfOk-weaker, on_ok_weaker}
use Rattle.ex_base.specs.Bytes.{bytes_at}
use Rattle.scans.specs.Scans.{Opened}
use Rattle.open_scans.specs.OpenScans.{HasSoundRest, IsNextFault, OpenRow, given_len, position_of, row_after}
use Rattle.open_scans.proofs.Rows.{lent_there}
use Rattle.open_scans.proofs.opened.OpenScans.next.Goals as goal

pub returns-clause-moved : goal.returns-clause-moved
returns-clause-moved g c = on_ok_weaker c.next.result (λ moved row at.
    ap (λ (l : List OpenRow). slice_set l c.args.index c.next.new.self) c.self.view_is
    ∙ ap (λ (r : OpenRow). slice_set c.args.self.now c.args.index r)
    (moved ∙ ap (row_after c.args.n) (lent_there c.self.inside.items.items c.args.self.now c.args.index c.index_mut-open.result.now row c.self.view_is c.requires.there c.index_mut-open.ensures.value at))) c.next.ensures.moved

pub returns-clause-bytes : goal.returns-clause-bytes
returns-clause-bytes g c = IfOk-weaker c.next.result _ _ (λ given bytes told row at.
    subst (λ (r : OpenRow). (opened : List ℕ) → Opened (g.B.Ground.geometry c.args.blocks.now) (g.B.Ground.unit c.args.blocks.now) (position_of r.scan) opened → given.items ≡ bytes_at opened r.scan.pos (given_len c.args.n r))
    (lent_there c.self.inside.items.items c.args.self.now c.args.index c.index_mut-open.result.now row c.self.view_is c.requires.there c.index_mut-open.ensures.value at) (bytes told)) c.next.ensures.bytes

pub returns-clause-len : goal.returns-clause-len
returns-clause-len g c = IfOk-weaker c.next.result _ _ (λ given len row at.
    len ∙ ap (given_len c.args.n) (lent_there c.self.inside.items.items c.args.self.now c.args.index c.index_mut-open.result.now row c.self.view_is c.requires.there c.index_mut-open.ensures.value at)) c.next.ensures.len

pub returns-clause-sound : goal.returns-clause-sound
returns-clause-sound g c = IfErr-weaker c.next.result _ _ (λ fault sound damage told row at root is.
    sound damage told root (ap (λ (r : OpenRow). r.scan.root) (lent_there c.self.inside.items.items c.args.self.now c.args.index c.index_mut-open.result.now row c.self.view_is c.requires.there c.index_mut-open.ensures.value at) ∙ is)) c.next.ensures.sound

pub returns-clause-held : goal.returns-clause-held
returns-clause-held g c = λ row at none.
    c.next.ensures.held (ap (λ (r : OpenRow). r.scan.root) (lent_there c.self.inside.items.items c.args.self.now c.args.index c.index_mut-open.result.now row c.self.view_is c.requires.there c.index_mut-open.ensures.value at) ∙ none)

pub returns-clause-fault : goal.returns-clause-fault
returns-clause-fault g c = IfErr-weaker c.next.result _ _ (λ fault told tells row at.
    subst (λ (r : OpenRow). IsNextFault (g.B.Ground.geometry c.args.blocks.now) (g.B.Ground.unit c.args.blocks.now) c.args.n (position_of r.scan) fault)
    (lent_there c.self.inside.items.items c.args.self.now c.args.index c.index_mut-open.result.now row c.self.view_is c.requires.there c.index_mut-open.ensures.value at) (told tells)) c.next.ensures.fault

pub returns-clause-way : goal.returns-clause-way
returns-clause-way g c = on_ok_weaker c.next.result (λ way told row at.
    subst (λ (r : OpenRow). HasSoundRest (g.B.Ground.geometry c.args.blocks.now) (g.B.Ground.unit c.args.blocks.now) c.args.n (position_of r.scan))
    (lent_there c.self.inside.items.items c.args.self.now c.args.index c.index_mut-open.result.now row c.self.view_is c.requires.there c.index_mut-open.ensures.value at) (way told)) c.next.ensures.way
