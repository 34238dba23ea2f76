use Rattle.std.proofs.Common.{◌≡◌, List, ℕ, drop, take, length, sym, ap, subst, ◌∙◌, arith}
use Rattle.std.proofs.lemmas.List.{length-take-le, take_at}
use Rattle.ex_base.specs.Sizes.{least_page}
use Rattle.ex_base.specs.declared.names.Root.{Root}
use Rattle.object_records.specs.declared.Head.{Head}
use Rattle.object_records.specs.declared.Payload.{Payload}
use Rattle.object_records.specs.Reads.{content_of, large_record}
use Rattle.object_records.specs.Record.{BodyOf, Record}
use Rattle.history_items.specs.Reads.{version_of}
use Rattle.history_volumes.specs.Histories.{content_placed}
use Rattle.history_writes.specs.Places.{leaf_place, node_place}
use Rattle.history_writes.specs.Records.{unlinked, unlinked_head}
use Rattle.history_writes.proofs.records.write_record.Goals as goal

pub slice_bounds-write_large-end-in-Large : goal.slice_bounds-write_large-end-in-Large
slice_bounds-write_large-end-in-Large c = omega (arith, length-take-le 36 c.args.out.now (omega (arith, least_page c.args.geometry.now, c.requires.room)))

pub write_large-requires-clause-room : goal.write_large-requires-clause-room
write_large-requires-clause-room c = length-take-le 36 c.args.out.now (omega (arith, least_page c.args.geometry.now, c.requires.room))

pub returns-in-Large-clause-record : goal.returns-in-Large-clause-record
returns-in-Large-clause-record c =
    let geo = c.args.geometry.now in
    let long : length c.write_large.new.out ≡ 36 = omega (arith, c.write_large.auto.out, length-take-le 36 c.args.out.now (omega (arith, least_page c.args.geometry.now, c.requires.room))) in
    let front = take_at c.write_large.new.out (drop 36 c.args.out.now) 36 long in
    let same : large_record c.unlinked_head-head.result c.place_root-root.result ≡ unlinked geo (version_of c.args.version.now) =
    ap (λ (h : Head). large_record h c.place_root-root.result) c.unlinked_head-head.ensures
    ∙ ap (λ (r : Root). large_record (unlinked_head (version_of c.args.version.now)) r) c.place_root-root.ensures
    ∙ ap (λ (p : Payload). let made : Record = record { head = unlinked_head (version_of c.args.version.now); content = content_placed (leaf_place geo) node_place (content_of p) } in made) (sym c.in-Large.is) in
    subst (BodyOf (take 36 _)) same (subst (λ (b : List ℕ). BodyOf b (large_record c.unlinked_head-head.result c.place_root-root.result)) (sym front) c.write_large.ensures)
