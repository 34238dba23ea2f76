use Rattle.std.proofs.Common.{Bool, List, sym, ap, subst, ◌∙◌, All, false, length, refl}
use Rattle.open_scans.specs.GroupRows.{AreGroupsOf}
use Rattle.session_core.specs.Sessions.{is_kept}
use Rattle.table_model.specs.declared.machine.GroupRow.{GroupRow}
use Rattle.std.specs.List.{AllByRecursion}
use Rattle.std.proofs.lemmas.Bool.{both_ways}
use Rattle.std.proofs.lemmas.List.Elements.{All-nil}
use Rattle.ex_base.specs.declared.names.OpNote.{OpNote}
use Rattle.op_log.specs.Records.{IsNote}
use Rattle.meta_pages.specs.Rows.{IsRising}
use Rattle.open_scans.specs.OpenScans.{IsOpenScan, OpenRow}
use Rattle.table_model.specs.Machines.{groups_most, scans_most, touched_most, updates_most}
use Rattle.session_core.proofs.Fresh.{few_none, untouched_tracked}
use Rattle.session_core.proofs.session.Session.make.Goals as goal

pub invariant_of-result : goal.invariant_of-result
invariant_of-result c = record {
  log = c.requires.log;
  meta = c.requires.meta;
  units = c.requires.units;
  pages = untouched_tracked c.args.volume.geometry c.args.volume.meta.working c.args.volume.pages c.args.volume.kept c.requires.untouched c.requires.kept c.requires.held c.requires.catalog;
  in_use = record { working = c.requires.in_use; committed = λ page flag. c.requires.in_use page (sym (ap (λ (flags : List Bool). is_kept flags page) c.requires.kept) ∙ flag) };
  sizes = c.requires.sizes;
  groups = subst (λ (rows : List GroupRow). AreGroupsOf rows c.args.volume.groups) (sym c.make.ensures) c.requires.groups;
  few_groups = few_none c.make.result groups_most c.make.ensures;
  scans = subst (λ (rows : List OpenRow). All (IsOpenScan c.args.volume.geometry (length c.make.result)) rows) (sym c.new-6.ensures) (All-nil (IsOpenScan c.args.volume.geometry (length c.make.result)));
  few_scans = few_none c.new-6.result scans_most c.new-6.ensures;
  logged = c.requires.logged;
  behind = c.requires.behind;
  few_notes = few_none c.new-2.result.items updates_most c.new-2.ensures.items;
  notes = subst (λ (notes : List OpNote). AllByRecursion IsNote notes) (sym c.new-2.ensures.items) tt;
  few_gained = few_none c.new-3.result.items (length c.new-2.result.items) c.new-3.ensures.items;
  few_lost = few_none c.new-4.result.items (length c.new-2.result.items) c.new-4.ensures.items;
  few_pages = few_none c.args.volume.meta.working touched_most c.requires.untouched;
  in_order = subst IsRising (sym c.requires.untouched) tt;
  work = λ opened. absurd (both_ways false refl opened);
  up = λ opened. refl;
  idle = λ closed up. (c.requires.untouched, c.new-3.ensures.items, c.new-4.ensures.items);
}
