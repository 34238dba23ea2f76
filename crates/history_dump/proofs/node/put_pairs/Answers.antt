use Rattle.std.proofs.Common.{◌≡◌, ◌-◌, ℕ, List, length, sym, subst, ap, ◌∙◌, arith}
use Rattle.std.specs.List.{AllZip}
use Rattle.ex_base.specs.Sizes.{most_page}
use Rattle.ex_base.proofs.Geometries.{page_le}
use Rattle.trees.specs.declared.Pair.{Pair}
use Rattle.trees.proofs.NodeLaws.{spelled_reads}
use Rattle.trees.proofs.Parts.{narrow}
use Rattle.history_model.specs.Stream.{node_item}
use Rattle.history_plans.specs.Plans.{pages_at}
use Rattle.history_dump.specs.Items.{IsNumbered}
use Rattle.history_dump.proofs.NodesRead.{few_numbered, node_inside, node_of, node_taken, one_node}
use Rattle.history_dump.proofs.node.put_pairs.Goals as goal

pub returns-in_default-clause-sound : goal.returns-in_default-clause-sound
returns-in_default-clause-sound c = λ damage node on pairs numbered. c.in_default.ensures.none node.level on pairs

pub write_node-requires-clause-few : goal.write_node-requires-clause-few
write_node-requires-clause-few c =
    let g = c.args.geometry.now in
    omega (arith, few_numbered g c.args.plan.now c.args.bytes.now c.in-Some.node.level c.in-Some.node.pairs c.number_pairs.new.pairs.items c.in-Some.ensures.found c.in-Ok.ensures.numbered, most_page g, ap length c.deref.ensures.value)

pub write_node-requires-clause-room : goal.write_node-requires-clause-room
write_node-requires-clause-room c =
    let g = c.args.geometry.now in
    omega (arith, few_numbered g c.args.plan.now c.args.bytes.now c.in-Some.node.level c.in-Some.node.pairs c.number_pairs.new.pairs.items c.in-Some.ensures.found c.in-Ok.ensures.numbered, page_le g, c.requires.room, ap length c.deref.ensures.value)

pub returns-in-Ok-clause-item : goal.returns-in-Ok-clause-item
returns-in-Ok-clause-item c = λ node on pairs numbered.
    let same : node_of c.level.result c.deref.result.now ≡ node =
    ap (λ (l : ℕ). node_of l c.deref.result.now) c.level.ensures ∙ ap (node_of c.in-Some.node.level) c.deref.ensures.value
    ∙ one_node c.args.geometry.now c.args.plan.now c.args.bytes.now c.in-Some.node.level c.in-Some.node.pairs c.number_pairs.new.pairs.items node on c.in-Some.ensures.found c.in-Ok.ensures.numbered pairs numbered in
    node_taken (node_of c.level.result c.deref.result.now) c.write_node.new.out _ c.write_node.result c.write_node.ensures.written c.write_node.ensures.len ∙ ap node_item same

pub returns-in-Ok-clause-inside : goal.returns-in-Ok-clause-inside
returns-in-Ok-clause-inside c =
    omega (arith, node_inside (node_of c.level.result c.deref.result.now) c.write_node.new.out _ c.write_node.result c.write_node.ensures.written c.write_node.ensures.len, c.write_node.auto.out)

pub returns-in-Err-clause-sound : goal.returns-in-Err-clause-sound
returns-in-Err-clause-sound c = λ damage node on pairs numbered.
    let one = spelled_reads c.args.geometry.now.fan c.args.bytes.now node.level on (narrow c.args.geometry.now) pairs in
    let two = spelled_reads c.args.geometry.now.fan c.args.bytes.now c.in-Some.node.level c.in-Some.node.pairs (narrow c.args.geometry.now) c.in-Some.ensures.found in
    c.in-Err.ensures.sound damage node.pairs
    (subst (λ (l : ℕ). AllZip (IsNumbered (pages_at (l - 1) c.args.plan.now)) c.in-Some.node.pairs node.pairs) (sym one.same_level ∙ two.same_level)
    (subst (λ (ps : List Pair). AllZip (IsNumbered (pages_at (node.level - 1) c.args.plan.now)) ps node.pairs) (sym one.same_pairs ∙ two.same_pairs) numbered))
