use Rattle.std.proofs.Common.{◌≡◌, ◌++◌, ◌-◌, ℕ, List, ap, map, subst, sym, ◌∙◌}
use Rattle.std.proofs.lemmas.List.{drop_more}
use Rattle.ex_base.specs.declared.geometry.Geometry.{Geometry}
use Rattle.ex_base.proofs.Keeping.{same_geometry}
use Rattle.ex_base.proofs.Results.{if_err_handed}
use Rattle.file_index.specs.declared.Entry.{Entry}
use Rattle.file_index.specs.IndexPage.{entries_on}
use Rattle.file_index.proofs.Under.{under_open}
use Rattle.file_bodies.specs.Bodies.{Row}
use Rattle.std.specs.Prelude.{slice_index_or}
use Rattle.record_lists.specs.Listed.{listed_of}
use Rattle.record_lists.specs.Under.{IsReadable}
use Rattle.record_lists.proofs.Under.{AreReadableEntries, child_of, readable_entries, rows_above, rows_among}
use Rattle.record_lists.proofs.indexes.+list_under.Goals as goal

pub returns-in_err-entries-clause-sound : goal.returns-in_err-entries-clause-sound
returns-in_err-entries-clause-sound g t c = if_err_handed c.from_residual.result _ c.in_err-entries.field-0.0 c.from_residual.ensures.1 (λ damage told readable.
    let opened = under_open (g.V.Ground.geometry c.args.volume.now) c.args.named.file_no (g.V.Ground.image c.args.volume.now) c.args.named.level c.args.named.least c.args.named.page.0 c.if-named-eq0.false readable.index in
    c.in_err-entries.ensures.sound damage told opened.files opened.named)

pub loop-entry-init : goal.loop-entry-init
loop-entry-init g t c = record {
  kept = c.entries_at.ensures.kept;
  listed = λ told.
      let read : c.deref-entry-items.result.now ≡ entries_on (g.V.Ground.image c.args.volume.now c.args.named.page.0) = c.deref-entry-items.ensures.value ∙ c.in_ok-entries.ensures.entries told in
      ap (λ (rows : List Row). c.args.records.now.items ++ map listed_of rows)
      (rows_above (g.V.Ground.image c.args.volume.now) c.args.named.level c.args.named.page.0 c.if-named-eq0.false ∙ ap (rows_among (g.V.Ground.image c.args.volume.now) (c.args.named.level - 1)) (sym read));
  readable = λ told readable.
      let read : c.deref-entry-items.result.now ≡ entries_on (g.V.Ground.image c.args.volume.now c.args.named.page.0) = c.deref-entry-items.ensures.value ∙ c.in_ok-entries.ensures.entries told in
      subst (AreReadableEntries (g.V.Ground.geometry c.args.volume.now) (g.V.Ground.image c.args.volume.now) c.args.named) (sym read)
      (readable_entries (g.V.Ground.geometry c.args.volume.now) (g.V.Ground.image c.args.volume.now) c.args.named c.if-named-eq0.false readable);
}

pub returns-in_err-list_under-clause-sound : goal.returns-in_err-list_under-clause-sound
returns-in_err-list_under-clause-sound g t c = if_err_handed c.from_residual-in_err-list_under.result _ c.in_err-list_under.field-0.0 c.from_residual-in_err-list_under.ensures.1 (λ damage told readable.
    let kept = c.loop-entry.invariant.kept in
    let entry : Entry = slice_index_or c.deref-entry-items.result.now c.loop-entry.entry-index (record { key = 0; page = record { 0 = 0 } }) in
    let left = subst (AreReadableEntries (g.V.Ground.geometry c.args.volume.now) (g.V.Ground.image c.args.volume.now) c.args.named)
    (drop_more c.deref-entry-items.result.now c.loop-entry.entry-index (record { key = 0; page = record { 0 = 0 } }) c.loop-entry-test.true) (c.loop-entry.invariant.readable told readable) in
    c.in_err-list_under.ensures.sound damage (g.V.Ground.leads_told c.args.volume.now c.loop-entry.volume kept.leads told)
    (subst (λ (h : Geometry). IsReadable h (g.V.Ground.image c.loop-entry.volume) (child_of c.args.named entry)) (sym (same_geometry g.V.Ground c.args.volume.now c.loop-entry.volume kept))
    (subst (λ (f : ℕ → List ℕ). IsReadable (g.V.Ground.geometry c.args.volume.now) f (child_of c.args.named entry)) (sym kept.images) left.0)))
