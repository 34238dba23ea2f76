use Rattle.std.proofs.Common.{◌≡◌, sym, ap, subst, ◌∙◌, arith}
use Rattle.std.specs.Prelude.{OnOk}
use Rattle.std.specs.List.{AllByRecursion}
use Rattle.ex_base.specs.Bytes.{IsBytes}
use Rattle.trees.specs.Node.{Node, RiseFrom}
use Rattle.history_model.specs.History.{HistoryVersion}
use Rattle.history_model.specs.Items.{IsChild, IsContentItem, IsNodeItem, IsVersionItem}
use Rattle.history_items.specs.ItemLaws.{FileFront}
use Rattle.history_items.specs.Reads.{node_read, version_read}
use Rattle.history_fronts.specs.declared.turns.Turn.TheVariants.{Node as NodeTurn, Version as VersionTurn}
use Rattle.history_fronts.specs.Fronts.{AFile, ANode, AVersion}
use Rattle.history_reads.specs.Kept.{Refuses, Takes}
use Rattle.history_reads.proofs.Accepting.{leaf_reads_on, names_file, names_node, names_version, ok_asks, ok_reads, reads_on, refuses_on}
use Rattle.history_reads.proofs.Behind.{asking_none}
use Rattle.history_reads.proofs.Items.{front_read, made_front, need_turn, node_children, the_node, the_version}
use Rattle.history_reads.proofs.progress.Progress.accept.Goals as goal

pub accept_node-requires-clause-rising : goal.accept_node-requires-clause-rising
accept_node-requires-clause-rising c =
    let p = c.args.self.now in
    let bytes : IsBytes c.args.item.now = λ i. omega (arith, c.type_inv.item i) in
    let is : IsNodeItem p.geometry p.head.leaves p.nodes (node_read c.args.item.now) = the_node p.geometry p.head.leaves p.nodes c.args.item.now bytes (need_turn p NodeTurn c.args.item.now (sym c.in-Node.ensures) c.requires) in
    subst (λ (n : Node). RiseFrom 0 n.pairs) (sym c.over.ensures) is.is.rising

pub accept_node-requires-clause-children : goal.accept_node-requires-clause-children
accept_node-requires-clause-children c = λ level.
    let p = c.args.self.now in
    let bytes : IsBytes c.args.item.now = λ i. omega (arith, c.type_inv.item i) in
    let is : IsNodeItem p.geometry p.head.leaves p.nodes (node_read c.args.item.now) = the_node p.geometry p.head.leaves p.nodes c.args.item.now bytes (need_turn p NodeTurn c.args.item.now (sym c.in-Node.ensures) c.requires) in
    subst (λ (n : Node). AllByRecursion (IsChild p.head.leaves) n.pairs) (sym c.over.ensures)
    (node_children p.geometry p.head.leaves p.nodes (node_read c.args.item.now) is (ap (λ (n : Node). n.level) (sym c.over.ensures) ∙ level))

pub accept_version-requires-clause-content : goal.accept_version-requires-clause-content
accept_version-requires-clause-content c =
    let p = c.args.self.now in
    let bytes : IsBytes c.args.item.now = λ i. omega (arith, c.type_inv.item i) in
    let is : IsVersionItem p.geometry p.head.leaves p.nodes (version_read c.args.item.now) = the_version p.geometry p.head.leaves p.nodes c.args.item.now bytes (need_turn p VersionTurn c.args.item.now (sym c.in-Version.ensures) c.requires) in
    subst (λ (v : HistoryVersion). IsContentItem p.geometry p.head.leaves p.nodes v.content) (sym c.read_version.ensures) is.content

pub returns-in-Leaf-clause-read : goal.returns-in-Leaf-clause-read
returns-in-Leaf-clause-read c = leaf_reads_on c.args.self.now c.accept_leaf.new.self c.args.item.now (sym c.in-Leaf.ensures) (λ leaf e. c.accept_leaf.ensures.takes leaf e)

pub returns-in-Leaf-clause-asking : goal.returns-in-Leaf-clause-asking
returns-in-Leaf-clause-asking c = asking_none c.accept_leaf.new.self

pub returns-in-Node-clause-read : goal.returns-in-Node-clause-read
returns-in-Node-clause-read c =
    reads_on c.args.self.now c.accept_node.new.self c.args.item.now (ANode (node_read c.args.item.now)) (subst (λ (n : Node). Takes c.args.self.now c.accept_node.new.self (ANode n)) c.over.ensures c.accept_node.ensures.takes)
    (names_node c.args.self.now c.args.item.now (sym c.in-Node.ensures))

pub returns-in-Node-clause-asking : goal.returns-in-Node-clause-asking
returns-in-Node-clause-asking c = asking_none c.accept_node.new.self

pub returns-in-Version-clause-read : goal.returns-in-Version-clause-read
returns-in-Version-clause-read c =
    ok_reads c.accept_version.result c.args.self.now c.accept_version.new.self c.args.item.now (AVersion (version_read c.args.item.now))
    (subst (λ (v : HistoryVersion). OnOk c.accept_version.result (Takes c.args.self.now c.accept_version.new.self (AVersion v))) c.read_version.ensures c.accept_version.ensures.takes)
    (names_version c.args.self.now c.args.item.now (sym c.in-Version.ensures))

pub returns-in-Version-clause-refused : goal.returns-in-Version-clause-refused
returns-in-Version-clause-refused c = λ e.
    refuses_on c.args.self.now c.args.item.now (AVersion (version_read c.args.item.now)) (subst (λ (v : HistoryVersion). Refuses c.args.self.now (AVersion v)) c.read_version.ensures (c.accept_version.ensures.refused e))
    (names_version c.args.self.now c.args.item.now (sym c.in-Version.ensures))

pub returns-in-Version-clause-asking : goal.returns-in-Version-clause-asking
returns-in-Version-clause-asking c = ok_asks c.accept_version.result c.accept_version.new.self

pub returns-in-File-clause-read : goal.returns-in-File-clause-read
returns-in-File-clause-read c =
    let same : made_front c.read_file_head.result.name.now c.read_file_head.result.versions ≡ front_read c.args.item.now = cc (c.read_file_head.ensures.name, c.read_file_head.ensures.versions) in
    ok_reads c.accept_file.result c.args.self.now c.accept_file.new.self c.args.item.now (AFile (front_read c.args.item.now))
    (subst (λ (f : FileFront). OnOk c.accept_file.result (Takes c.args.self.now c.accept_file.new.self (AFile f))) same c.accept_file.ensures.takes)
    (names_file c.args.self.now c.args.item.now (sym c.in-File.ensures))

pub returns-in-File-clause-refused : goal.returns-in-File-clause-refused
returns-in-File-clause-refused c = λ e.
    let same : made_front c.read_file_head.result.name.now c.read_file_head.result.versions ≡ front_read c.args.item.now = cc (c.read_file_head.ensures.name, c.read_file_head.ensures.versions) in
    refuses_on c.args.self.now c.args.item.now (AFile (front_read c.args.item.now)) (subst (λ (f : FileFront). Refuses c.args.self.now (AFile f)) same (c.accept_file.ensures.refused e))
    (names_file c.args.self.now c.args.item.now (sym c.in-File.ensures))

pub returns-in-File-clause-asking : goal.returns-in-File-clause-asking
returns-in-File-clause-asking c = ok_asks c.accept_file.result c.accept_file.new.self
