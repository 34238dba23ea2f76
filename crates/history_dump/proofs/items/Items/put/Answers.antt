use Rattle.std.proofs.Common.{◌≡◌, ◌++◌, length, take, refl, sym, subst}
use Rattle.std.proofs.lemmas.Option.{slice_get_read}
use Rattle.std.proofs.lemmas.Result.{IfOk-weaker, IfErr-weaker}
use Rattle.history_dump.proofs.Results.{ok_both}
use Rattle.history_dump.specs.Positions.{IsAt, IsThere, position_after, stream_from}
use Rattle.history_dump.specs.declared.position.Position.{Position}
use Rattle.history_dump.proofs.Putting.{file_put, file_there, head_put, leaf_put, leaf_there, node_put, node_there, version_put, version_there}
use Rattle.ex_base.proofs.Keeping.{keeps_refl}
use Rattle.history_dump.proofs.items.Items.put.Goals as goal

pub returns-in-Head-clause-item : goal.returns-in-Head-clause-item
returns-in-Head-clause-item g c = λ told h shows at.
    subst (λ (p : Position). (stream_from (g.V.Ground.geometry c.args.volume.now) h p ≡ take 52 c.write.new.out ++ stream_from (g.V.Ground.geometry c.args.volume.now) h (position_after p))
    × IsAt (g.V.Ground.image c.args.volume.now) h (position_after p) c.args.self.now.records.items) (sym c.in-Head.is)
    (head_put g.V.Ground c.args.volume.now c.args.self.now.plan h shows _ c.write.new.out _ c.head.ensures c.write.ensures)

pub returns-in-Leaf-clause-item : goal.returns-in-Leaf-clause-item
returns-in-Leaf-clause-item g c = IfOk-weaker c.put_leaf.result _ _ (λ n made told h shows at.
    subst (λ (p : Position). (stream_from (g.V.Ground.geometry c.args.volume.now) h p ≡ take n c.put_leaf.new.out ++ stream_from (g.V.Ground.geometry c.args.volume.now) h (position_after p))
    × IsAt (g.V.Ground.image c.args.volume.now) h (position_after p) c.args.self.now.records.items) (sym c.in-Leaf.is)
    (leaf_put g.V.Ground c.args.volume.now c.args.self.now.plan h shows c.in-Leaf.at _ (take n c.put_leaf.new.out) c.leaf.ensures (made told))) c.put_leaf.ensures.item

pub returns-in-Leaf-clause-sound : goal.returns-in-Leaf-clause-sound
returns-in-Leaf-clause-sound g c = IfErr-weaker c.put_leaf.result _ _ (λ fault never damage told h shows at.
    let leaf = leaf_there g.V.Ground c.args.volume.now c.args.self.now.plan h shows c.in-Leaf.at _ c.leaf.ensures in
    never damage told leaf.0 leaf.1) c.put_leaf.ensures.sound

pub returns-in-Node-clause-item : goal.returns-in-Node-clause-item
returns-in-Node-clause-item g c = IfOk-weaker c.put_node.result _ _ (λ n made told h shows at.
    subst (λ (p : Position). (stream_from (g.V.Ground.geometry c.args.volume.now) h p ≡ take n c.put_node.new.out ++ stream_from (g.V.Ground.geometry c.args.volume.now) h (position_after p))
    × IsAt (g.V.Ground.image c.args.volume.now) h (position_after p) c.args.self.now.records.items) (sym c.in-Node.is)
    (node_put g.V.Ground c.args.volume.now c.args.self.now.plan h shows c.in-Node.at _ (take n c.put_node.new.out) c.node-page.ensures (made told))) c.put_node.ensures.item

pub returns-in-Node-clause-sound : goal.returns-in-Node-clause-sound
returns-in-Node-clause-sound g c = IfErr-weaker c.put_node.result _ _ (λ fault never damage told h shows at.
    let node = node_there g.V.Ground c.args.volume.now c.args.self.now.plan h shows c.in-Node.at _ c.node-page.ensures in
    never damage told node.0 node.1) c.put_node.ensures.sound

pub returns-in-File-clause-item : goal.returns-in-File-clause-item
returns-in-File-clause-item g c =
    let there = subst (λ (p : Position). IsThere c.args.self.now.plan (length c.args.self.now.records.items) p) c.in-File.is c.requires.there in
    IfOk-weaker c.put_file.result _ _ (λ n made told h shows at.
    subst (λ (p : Position). (stream_from (g.V.Ground.geometry c.args.volume.now) h p ≡ take n c.put_file.new.out ++ stream_from (g.V.Ground.geometry c.args.volume.now) h (position_after p))
    × IsAt (g.V.Ground.image c.args.volume.now) h (position_after p) c.put_file.new.records.items) (sym c.in-File.is)
    (file_put g.V.Ground c.args.volume.now c.args.self.now.plan h shows c.in-File.at (take n c.put_file.new.out) c.put_file.new.records.items there
    (λ f listed. made.0 told c.args.self.now.plan f listed)
    (λ f listed. made.1 told c.args.self.now.plan f listed)))
    (ok_both c.put_file.result _ _ c.put_file.ensures.item c.put_file.ensures.listed)

pub returns-in-File-clause-sound : goal.returns-in-File-clause-sound
returns-in-File-clause-sound g c =
    let there = subst (λ (p : Position). IsThere c.args.self.now.plan (length c.args.self.now.records.items) p) c.in-File.is c.requires.there in
    IfErr-weaker c.put_file.result _ _ (λ fault never damage told h shows at.
    let file = file_there g.V.Ground c.args.volume.now c.args.self.now.plan h shows c.in-File.at there in
    never damage told c.args.self.now.plan file.0 file.2) c.put_file.ensures.sound

pub returns-in-Version-clause-item : goal.returns-in-Version-clause-item
returns-in-Version-clause-item g c =
    let there = subst (λ (p : Position). IsThere c.args.self.now.plan (length c.args.self.now.records.items) p) c.in-Version.is c.requires.there in
    let row = slice_get_read c.args.self.now.records.items (length c.args.self.now.records.items) c.in-Version.at c.index.result.now refl there c.index.ensures in
    IfOk-weaker c.put_version.result _ _ (λ n made told h shows at.
    subst (λ (p : Position). (stream_from (g.V.Ground.geometry c.args.volume.now) h p ≡ take n c.put_version.new.out ++ stream_from (g.V.Ground.geometry c.args.volume.now) h (position_after p))
    × IsAt (g.V.Ground.image c.args.volume.now) h (position_after p) c.args.self.now.records.items) (sym c.in-Version.is)
    (version_put g.V.Ground c.args.volume.now c.args.self.now.plan h shows c.in-Version.next c.in-Version.at c.args.self.now.records.items c.index.result.now (take n c.put_version.new.out)
    (subst (λ (p : Position). IsAt (g.V.Ground.image c.args.volume.now) h p c.args.self.now.records.items) c.in-Version.is at) row
    (made told))) c.put_version.ensures.item

pub returns-in-Version-clause-sound : goal.returns-in-Version-clause-sound
returns-in-Version-clause-sound g c =
    let there = subst (λ (p : Position). IsThere c.args.self.now.plan (length c.args.self.now.records.items) p) c.in-Version.is c.requires.there in
    let row = slice_get_read c.args.self.now.records.items (length c.args.self.now.records.items) c.in-Version.at c.index.result.now refl there c.index.ensures in
    IfErr-weaker c.put_version.result _ _ (λ fault never damage told h shows at.
    let v = version_there g.V.Ground c.args.volume.now c.args.self.now.plan h shows c.in-Version.next c.in-Version.at c.args.self.now.records.items c.index.result.now
    (subst (λ (p : Position). IsAt (g.V.Ground.image c.args.volume.now) h p c.args.self.now.records.items) c.in-Version.is at) row in
    never damage told v.0 v.1 v.3) c.put_version.ensures.sound

pub put_leaf-requires-clause-ready : goal.put_leaf-requires-clause-ready
put_leaf-requires-clause-ready g c = c.requires.ready

pub put_leaf-requires-clause-room : goal.put_leaf-requires-clause-room
put_leaf-requires-clause-room g c = c.requires.room

pub returns-in-Leaf-clause-some : goal.returns-in-Leaf-clause-some
returns-in-Leaf-clause-some g c = c.put_leaf.ensures.some

pub returns-in-Leaf-clause-inside : goal.returns-in-Leaf-clause-inside
returns-in-Leaf-clause-inside g c = c.put_leaf.ensures.inside

pub returns-in-Leaf-clause-kept : goal.returns-in-Leaf-clause-kept
returns-in-Leaf-clause-kept g c = c.put_leaf.ensures.kept

pub returns-in-Leaf-clause-cause : goal.returns-in-Leaf-clause-cause
returns-in-Leaf-clause-cause g c = c.put_leaf.ensures.cause

pub put_node-requires-clause-ready : goal.put_node-requires-clause-ready
put_node-requires-clause-ready g c = c.requires.ready

pub put_node-requires-clause-room : goal.put_node-requires-clause-room
put_node-requires-clause-room g c = c.requires.room

pub returns-in-Node-clause-some : goal.returns-in-Node-clause-some
returns-in-Node-clause-some g c = c.put_node.ensures.some

pub returns-in-Node-clause-inside : goal.returns-in-Node-clause-inside
returns-in-Node-clause-inside g c = c.put_node.ensures.inside

pub returns-in-Node-clause-kept : goal.returns-in-Node-clause-kept
returns-in-Node-clause-kept g c = c.put_node.ensures.kept

pub returns-in-Node-clause-cause : goal.returns-in-Node-clause-cause
returns-in-Node-clause-cause g c = c.put_node.ensures.cause

pub put_file-requires-clause-ready : goal.put_file-requires-clause-ready
put_file-requires-clause-ready g c = c.requires.ready

pub put_file-requires-clause-room : goal.put_file-requires-clause-room
put_file-requires-clause-room g c = c.requires.room

pub returns-in-File-clause-some : goal.returns-in-File-clause-some
returns-in-File-clause-some g c = c.put_file.ensures.some

pub returns-in-File-clause-inside : goal.returns-in-File-clause-inside
returns-in-File-clause-inside g c = c.put_file.ensures.inside

pub returns-in-File-clause-kept : goal.returns-in-File-clause-kept
returns-in-File-clause-kept g c = c.put_file.ensures.kept

pub returns-in-File-clause-cause : goal.returns-in-File-clause-cause
returns-in-File-clause-cause g c = c.put_file.ensures.cause

pub put_version-requires-clause-ready : goal.put_version-requires-clause-ready
put_version-requires-clause-ready g c = c.requires.ready

pub put_version-requires-clause-room : goal.put_version-requires-clause-room
put_version-requires-clause-room g c = c.requires.room

pub returns-in-Version-clause-some : goal.returns-in-Version-clause-some
returns-in-Version-clause-some g c = c.put_version.ensures.some

pub returns-in-Version-clause-inside : goal.returns-in-Version-clause-inside
returns-in-Version-clause-inside g c = c.put_version.ensures.inside

pub returns-in-Version-clause-kept : goal.returns-in-Version-clause-kept
returns-in-Version-clause-kept g c = c.put_version.ensures.kept

pub returns-in-Version-clause-cause : goal.returns-in-Version-clause-cause
returns-in-Version-clause-cause g c = c.put_version.ensures.cause

pub returns-in-Head-clause-sound : goal.returns-in-Head-clause-sound
returns-in-Head-clause-sound g c = tt

pub returns-in-Head-clause-kept : goal.returns-in-Head-clause-kept
returns-in-Head-clause-kept g c = keeps_refl g.V.Ground c.args.volume.now

pub returns-in-Head-clause-cause : goal.returns-in-Head-clause-cause
returns-in-Head-clause-cause g c = tt
