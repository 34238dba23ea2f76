use Rattle.std.proofs.Common.{ap, ◌∙◌, arith}
use Rattle.object_files.specs.Catalog.{FileEntry}
use Rattle.history_items.specs.Reads.{file_front}
use Rattle.history_dump.proofs.Catalogs.{front_inside, front_taken, one_entry}
use Rattle.history_dump.proofs.file.put_entry.Goals as goal

pub returns-in-Ok-clause-item : goal.returns-in-Ok-clause-item
returns-in-Ok-clause-item c = λ catalog entry spelled is.
    let there = c.in-Ok.ensures.entry in
    front_taken c.in-Ok.entry.name.now c.args.versions c.write_file_head.new.out _ c.write_file_head.result c.write_file_head.ensures.written c.write_file_head.ensures.len
    ∙ ap (λ (e : FileEntry). file_front e.name c.args.versions) (one_entry c.args.page.now there.0 catalog there.1 spelled c.args.at _ entry there.2 is)

pub returns-in-Ok-clause-inside : goal.returns-in-Ok-clause-inside
returns-in-Ok-clause-inside c =
    omega (arith, front_inside c.in-Ok.entry.name.now c.args.versions c.write_file_head.new.out _ c.write_file_head.result c.write_file_head.ensures.written c.write_file_head.ensures.len, c.write_file_head.auto.out)
