use Rattle.std.proofs.Common.{◌≡◌, ◌≤◌, ◌+◌, List, ℕ, drop, take, refl, sym, ap, subst, ◌∙◌, arith}
use Rattle.std.proofs.lemmas.List.{length-drop, take_all}
use Rattle.disk_model.specs.Changes.{ChangesWithin, changes_refl, changes_trans}
use Rattle.ex_base.specs.declared.geometry.Geometry.{Geometry}
use Rattle.ex_base.specs.Sizes.{volume_bytes}
use Rattle.ex_base.proofs.Results.{if_err_handed}
use Rattle.history_items.specs.Gathering.{item_most}
use Rattle.history_reads.specs.declared.steps.Filled.TheVariants.{More, Refused, Whole}
use Rattle.history_writes.specs.Places.{IsBehindCatalog}
use Rattle.history_load.specs.Faults.{WhereBad, LoadCause}
use Rattle.history_load.specs.Loading.{HasWholeItem, IsLoader, LoadsPiece, RefusesItem, RefusesPiece, TakesItem}
use Rattle.history_load.proofs.Causes.{where_as, cause_since}
use Rattle.history_load.specs.declared.loader.Loader.{Loader}
use Rattle.history_load.proofs.Wholeness.{made_anew}
use Rattle.history_load.proofs.PiecesFed.{asks_more, loader_more, loads_item, loads_more, loads_none, refused_fill, refilled, refused_item, rest_filled, unfilled, whole_more}
use Rattle.ex_base.proofs.Handed.{not_given}
use Rattle.history_load.proofs.loader.Loader.feed.Goals as goal

pub items-init : goal.items-init
items-init g c = record {
  within = omega arith;
  is = c.requires.is;
  stream = (refl, refl);
  changes = changes_refl (IsBehindCatalog c.args.self.now.progress.geometry) (g.D.World.outside c.args.disk.now);
  loads = loads_none c.args.self.now.progress.geometry (g.D.World.outside c.args.disk.now) c.args.self.now;
}

pub fill-requires-clause-asking : goal.fill-requires-clause-asking
fill-requires-clause-asking g c = asks_more c.args.self.now.progress.geometry c.items.self c.items.invariant.is

pub fill-requires-clause-room : goal.fill-requires-clause-room
fill-requires-clause-room g c = c.items.invariant.is.of.gathered ∙ ap item_most (sym c.items.invariant.stream.0)

pub items-preserved-in-More : goal.items-preserved-in-More
items-preserved-in-More g c =
    let step = rest_filled c.items.self.progress c.items.self.gathered.held c.fill.new.gathered.held c.args.piece.now c.items.at (More c.in-More.taken) c.in-More.ensures.filled c.in-More.ensures.read in
    let inv = c.items.invariant in
    record {
      within = omega (arith, step.0.0.few, length-drop c.items.at c.args.piece.now, inv.within);
      is = refilled IsLoader c.args.self.now.progress.geometry c.args.self.now.progress.geometry c.items.self _ c.fill.new.gathered refl (made_anew c.items.self.progress _ _ _ _)
          (loader_more c.args.self.now.progress.geometry c.items.self c.fill.new.gathered (take c.in-More.taken (drop c.items.at c.args.piece.now)) step.0.0.held inv.is c.fill.ensures.room (λ joined read. step.1 c.args.self.now.progress.geometry joined read));
      stream = inv.stream;
      changes = inv.changes;
      loads = refilled (λ (h : Geometry) (loader : Loader). LoadsPiece h (g.D.World.outside c.args.disk.now) (g.D.World.outside c.items.disk) c.args.self.now loader (take (c.items.at + c.in-More.taken) c.args.piece.now)) c.args.self.now.progress.geometry c.args.self.now.progress.geometry c.items.self _ c.fill.new.gathered refl (made_anew c.items.self.progress _ _ _ _)
          (loads_more c.args.self.now.progress.geometry (g.D.World.outside c.args.disk.now) (g.D.World.outside c.items.disk) c.args.self.now c.items.self c.args.piece.now c.items.at inv.loads c.fill.new.gathered c.in-More.taken step.0.0.held step.1);
    }

pub take_item-requires-clause-room : goal.take_item-requires-clause-room
take_item-requires-clause-room g c =
    subst (λ (h : Geometry). volume_bytes h ≤ (g.D.World.outside c.items.disk).size) (sym c.items.invariant.stream.0) (omega (arith, c.requires.room, c.items.invariant.changes.only.goes.size))

pub take_item-requires-clause-is : goal.take_item-requires-clause-is
take_item-requires-clause-is g c =
    let step = rest_filled c.items.self.progress c.items.self.gathered.held c.fill.new.gathered.held c.args.piece.now c.items.at (Whole c.in-Whole.taken) c.in-Whole.ensures.filled c.in-Whole.ensures.read in
    let inv = c.items.invariant in
    refilled HasWholeItem c.args.self.now.progress.geometry c.items.self.progress.geometry c.items.self _ c.fill.new.gathered inv.stream.0 (made_anew c.items.self.progress _ _ _ _)
    (whole_more c.args.self.now.progress.geometry c.items.self c.fill.new.gathered (take c.in-Whole.taken (drop c.items.at c.args.piece.now)) step.0.0.held inv.is c.fill.ensures.room (λ joined read. step.1 c.args.self.now.progress.geometry joined read))

pub returns-in_err-take_item-in-Whole-clause-refused : goal.returns-in_err-take_item-in-Whole-clause-refused
returns-in_err-take_item-in-Whole-clause-refused g c =
    let step = rest_filled c.items.self.progress c.items.self.gathered.held c.fill.new.gathered.held c.args.piece.now c.items.at (Whole c.in-Whole.taken) c.in-Whole.ensures.filled c.in-Whole.ensures.read in
    let inv = c.items.invariant in
    if_err_handed c.from_residual.result (WhereBad (RefusesPiece c.args.self.now.progress.geometry (g.D.World.outside c.args.disk.now) c.args.self.now c.args.piece.now)) c.in_err-take_item-in-Whole.field-0.0 c.from_residual.ensures.1
    (where_as (RefusesItem c.items.self.progress.geometry (g.D.World.outside c.items.disk) _) (RefusesPiece c.args.self.now.progress.geometry (g.D.World.outside c.args.disk.now) c.args.self.now c.args.piece.now) c.in_err-take_item-in-Whole.field-0.0
    (λ refuses. refused_item c.args.self.now.progress.geometry (g.D.World.outside c.args.disk.now) (g.D.World.outside c.items.disk) c.args.self.now c.items.self c.args.piece.now c.items.at inv.loads c.fill.new.gathered c.in-Whole.taken step.0.0.held inv.changes.only.goes step.1
    (unfilled (λ (h : Geometry) (loader : Loader). RefusesItem h (g.D.World.outside c.items.disk) loader) c.args.self.now.progress.geometry c.items.self.progress.geometry c.items.self _ c.fill.new.gathered inv.stream.0 (made_anew c.items.self.progress _ _ _ _) refuses))
    c.in_err-take_item-in-Whole.ensures.refused)

pub returns-in_err-take_item-in-Whole-clause-changes : goal.returns-in_err-take_item-in-Whole-clause-changes
returns-in_err-take_item-in-Whole-clause-changes g c =
    changes_trans c.items.invariant.changes (subst (λ (h : Geometry). ChangesWithin (IsBehindCatalog h) (g.D.World.outside c.items.disk) (g.D.World.outside c.take_item.new.disk)) c.items.invariant.stream.0 c.take_item.ensures.changes)

pub items-preserved : goal.items-preserved
items-preserved g c =
    let step = rest_filled c.items.self.progress c.items.self.gathered.held c.fill.new.gathered.held c.args.piece.now c.items.at (Whole c.in-Whole.taken) c.in-Whole.ensures.filled c.in-Whole.ensures.read in
    let inv = c.items.invariant in
    let stream = c.take_item.ensures.stream in
    let takes : TakesItem c.args.self.now.progress.geometry (g.D.World.outside c.items.disk) (g.D.World.outside c.take_item.new.disk) (record c.items.self { gathered = c.fill.new.gathered }) c.take_item.new.self =
    unfilled (λ (h : Geometry) (loader : Loader). TakesItem h (g.D.World.outside c.items.disk) (g.D.World.outside c.take_item.new.disk) loader c.take_item.new.self) c.args.self.now.progress.geometry c.items.self.progress.geometry c.items.self _ c.fill.new.gathered inv.stream.0 (made_anew c.items.self.progress _ _ _ _) c.in_ok-take_item-in-Whole.ensures.took in
    record {
      within = omega (arith, step.0.0.few, length-drop c.items.at c.args.piece.now, inv.within);
      is = takes.is;
      stream = (stream.0 ∙ inv.stream.0, stream.1 ∙ inv.stream.1);
      changes = changes_trans inv.changes (subst (λ (h : Geometry). ChangesWithin (IsBehindCatalog h) (g.D.World.outside c.items.disk) (g.D.World.outside c.take_item.new.disk)) inv.stream.0 c.take_item.ensures.changes);
      loads = loads_item c.args.self.now.progress.geometry (g.D.World.outside c.args.disk.now) (g.D.World.outside c.items.disk) c.args.self.now c.items.self c.args.piece.now c.items.at inv.loads c.fill.new.gathered c.in-Whole.taken step.0.0.held (g.D.World.outside c.take_item.new.disk) c.take_item.new.self inv.changes.only.goes step.1 takes;
    }

pub returns-in-Refused-clause-refused : goal.returns-in-Refused-clause-refused
returns-in-Refused-clause-refused g c =
    let step = rest_filled c.items.self.progress c.items.self.gathered.held c.fill.new.gathered.held c.args.piece.now c.items.at Refused c.in-Refused.ensures.filled c.in-Refused.ensures.read in
    (refl, refused_fill c.args.self.now.progress.geometry (g.D.World.outside c.args.disk.now) (g.D.World.outside c.items.disk) c.args.self.now c.items.self c.args.piece.now c.items.at c.fill.new.gathered.held c.items.invariant.loads step.1)

pub returns-clause-loads : goal.returns-clause-loads
returns-clause-loads g c =
    let all : take c.items.at c.args.piece.now ≡ c.args.piece.now = take_all c.items.at c.args.piece.now (omega (arith, c.items-test.false)) in
    subst (λ (bytes : List ℕ). LoadsPiece c.args.self.now.progress.geometry (g.D.World.outside c.args.disk.now) (g.D.World.outside c.items.disk) c.args.self.now c.items.self bytes) all c.items.invariant.loads

-- ---- what else is promised

pub returns-in_err-take_item-in-Whole-clause-loads : goal.returns-in_err-take_item-in-Whole-clause-loads
returns-in_err-take_item-in-Whole-clause-loads g c = not_given c.from_residual.result _ c.in_err-take_item-in-Whole.field-0.0 c.from_residual.ensures.1

pub returns-in_err-take_item-in-Whole-clause-is : goal.returns-in_err-take_item-in-Whole-clause-is
returns-in_err-take_item-in-Whole-clause-is g c = not_given c.from_residual.result _ c.in_err-take_item-in-Whole.field-0.0 c.from_residual.ensures.1

pub returns-in_err-take_item-in-Whole-clause-stream : goal.returns-in_err-take_item-in-Whole-clause-stream
returns-in_err-take_item-in-Whole-clause-stream g c = (c.take_item.ensures.stream.0 ∙ c.items.invariant.stream.0, c.take_item.ensures.stream.1 ∙ c.items.invariant.stream.1)

pub returns-in_err-take_item-in-Whole-clause-cause : goal.returns-in_err-take_item-in-Whole-clause-cause
returns-in_err-take_item-in-Whole-clause-cause g c = if_err_handed c.from_residual.result (LoadCause (g.D.World.outside c.args.disk.now) (g.D.World.outside c.take_item.new.disk)) c.in_err-take_item-in-Whole.field-0.0 c.from_residual.ensures.1 (cause_since (g.D.World.outside c.args.disk.now) (g.D.World.outside c.items.disk) (g.D.World.outside c.take_item.new.disk) c.in_err-take_item-in-Whole.field-0.0 c.items.invariant.changes.only.goes.disk_faults c.items.invariant.changes.only.goes.read_faults c.in_err-take_item-in-Whole.ensures.cause)

pub returns-in-Refused-clause-loads : goal.returns-in-Refused-clause-loads
returns-in-Refused-clause-loads g c = tt

pub returns-in-Refused-clause-is : goal.returns-in-Refused-clause-is
returns-in-Refused-clause-is g c = tt

pub returns-in-Refused-clause-stream : goal.returns-in-Refused-clause-stream
returns-in-Refused-clause-stream g c = c.items.invariant.stream

pub returns-in-Refused-clause-changes : goal.returns-in-Refused-clause-changes
returns-in-Refused-clause-changes g c = c.items.invariant.changes

pub returns-in-Refused-clause-cause : goal.returns-in-Refused-clause-cause
returns-in-Refused-clause-cause g c = tt

pub returns-clause-refused : goal.returns-clause-refused
returns-clause-refused g c = tt

pub returns-clause-is : goal.returns-clause-is
returns-clause-is g c = c.items.invariant.is

pub returns-clause-stream : goal.returns-clause-stream
returns-clause-stream g c = c.items.invariant.stream

pub returns-clause-changes : goal.returns-clause-changes
returns-clause-changes g c = c.items.invariant.changes

pub returns-clause-cause : goal.returns-clause-cause
returns-clause-cause g c = tt
