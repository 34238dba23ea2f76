use Rattle.std.proofs.Common.{◌*◌, ℕ, length, ap, subst, ◌∙◌, arith}
use Rattle.std.specs.Prelude.{IsTrue}
use Rattle.ex_base.specs.Bytes.{part}
use Rattle.disk_model.specs.Calls.{Tears, Wrote}
use Rattle.disk_model.specs.Changes.{changes_nothing, changes_trans}
use Rattle.tree_store.specs.Stored.{InUnit}
use Rattle.history_writes.proofs.RowLinks.{page_changes, page_linked}
use Rattle.history_writes.specs.declared.rows.LinkFault.TheVariants.{Disk}
use Rattle.ex_base.proofs.Handed.{not_given, no_value}
use Rattle.history_writes.proofs.rows.link_page.Goals as goal

pub returns-in_err-write-clause-changes : goal.returns-in_err-write-clause-changes
returns-in_err-write-clause-changes g c =
    let mid = g.D.World.outside c.read.new.self in
    let b = g.D.World.outside c.write.new.self in
    changes_trans (changes_nothing (InUnit c.args.geometry.now c.args.page.0) c.read.ensures.only.nothing)
    (page_changes c.args.geometry.now mid b c.args.page.0 (length c.copy_linked.new.into) c.write.ensures.only (subst (λ (k : ℕ). IsTrue mid.honest → Tears k (length c.copy_linked.new.into) mid b) c.home-2.ensures c.write.ensures.tears) c.requires.area
    (omega (arith, c.copy_linked.auto.into, c.requires.into)))

pub returns-clause-changes : goal.returns-clause-changes
returns-clause-changes g c =
    let mid = g.D.World.outside c.read.new.self in
    let b = g.D.World.outside c.write.new.self in
    changes_trans (changes_nothing (InUnit c.args.geometry.now c.args.page.0) c.read.ensures.only.nothing)
    (page_changes c.args.geometry.now mid b c.args.page.0 (length c.copy_linked.new.into) c.write.ensures.only (subst (λ (k : ℕ). IsTrue mid.honest → Tears k (length c.copy_linked.new.into) mid b) c.home-2.ensures c.write.ensures.tears) c.requires.area
    (omega (arith, c.copy_linked.auto.into, c.requires.into)))

pub returns-clause-linked : goal.returns-clause-linked
returns-clause-linked g c =
    let a = g.D.World.outside c.args.disk.now in
    let mid = g.D.World.outside c.read.new.self in
    let b = g.D.World.outside c.write.new.self in
    page_linked c.args.geometry.now a mid b c.args.page.0 c.read.new.out c.copy_linked.new.into c.args.links.now (g.D.World.is_world c.read.new.self) (omega (arith, c.requires.room, c.read.ensures.only.nothing.only.goes.size))
    (record {
      area = c.requires.area;
      same = c.read.ensures.only.nothing.disk;
      bytes = λ d holds.
          c.in_ok-read.ensures.bytes d holds ∙ ap (λ (k : ℕ). part d k (length c.args.read.now)) c.home.ensures ∙ ap (λ (n : ℕ). part d (c.args.page.0 * c.args.geometry.now.page_size) n) c.requires.read;
    }) (omega (arith, c.copy_linked.auto.into, c.requires.into)) (subst (λ (k : ℕ). Wrote k c.copy_linked.new.into mid b) c.home-2.ensures c.in_ok-write.ensures.written) c.in-Some.ensures.copied

-- ---- what else is promised

pub returns-in_err-read-clause-linked : goal.returns-in_err-read-clause-linked
returns-in_err-read-clause-linked g c = not_given c.from_residual.result _ Disk c.from_residual.ensures.1

pub returns-in_err-read-clause-count : goal.returns-in_err-read-clause-count
returns-in_err-read-clause-count g c = no_value c.from_residual.result _ Disk c.from_residual.ensures.1

pub returns-in_err-read-clause-few : goal.returns-in_err-read-clause-few
returns-in_err-read-clause-few g c = no_value c.from_residual.result _ Disk c.from_residual.ensures.1

pub returns-in_err-write-clause-linked : goal.returns-in_err-write-clause-linked
returns-in_err-write-clause-linked g c = not_given c.from_residual-in_err-write.result _ Disk c.from_residual-in_err-write.ensures.1

pub returns-in_err-write-clause-count : goal.returns-in_err-write-clause-count
returns-in_err-write-clause-count g c = no_value c.from_residual-in_err-write.result _ Disk c.from_residual-in_err-write.ensures.1

pub returns-in_err-write-clause-few : goal.returns-in_err-write-clause-few
returns-in_err-write-clause-few g c = no_value c.from_residual-in_err-write.result _ Disk c.from_residual-in_err-write.ensures.1
