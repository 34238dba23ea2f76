use Rattle.std.proofs.Common.{rules, ◌≡◌, ℕ, Bool, true, Some, None, sym, subst, ap, ◌∙◌, inr}
use Rattle.node_walk.specs.Notes.{notes_in}
use Rattle.page_alloc.specs.UnitSet.{used_at}
use Rattle.node_walk.proofs.Facts.{same_part, handed_err, updated_here, updated_else}
use Rattle.node_walk.proofs.Levels.{same_level}
use Rattle.node_walk.proofs.Tracking.{still_updated, tracked_first}
use Rattle.node_walk.proofs.walk.note.Goals as goal

pub returns-then-met-level-clause-bad : goal.returns-then-met-level-clause-bad
returns-then-met-level-clause-bad g c = λ part is told bytes shows notes.
    let there : notes_in c.args.known.now c.args.page.0 ≡ Some c.in-Some.met = search rules in
    (same_part _ _ is, λ named own. c.if-met-level.true (same_level c.args.geometry.now bytes c.in-Some.met.level c.args.level c.args.page.0 (notes c.args.page.0 c.in-Some.met there).at named))

pub returns-in_err-node-clause-bad : goal.returns-in_err-node-clause-bad
returns-in_err-node-clause-bad g c = λ part is told bytes shows notes.
    let none : notes_in c.args.known.now c.args.page.0 ≡ None = search rules in
    let bad = c.in_err-node.ensures.bad part (handed_err c.from_residual.result _ _ c.from_residual.ensures.1 is) told bytes shows in (
      bad.0,
      λ named own.
          let met = own (bad.1 named) in
          let clash : Some met.0 ≡ None = sym met.1 ∙ none in
          absurd cc,
    )

pub returns-in-Ok-clause-met : goal.returns-in-Ok-clause-met
returns-in-Ok-clause-met g c = λ told bytes shows.
    let none : notes_in c.args.known.now c.args.page.0 ≡ None = search rules in
    inr (record {
      first = c.in_ok-node.ensures.first told bytes shows;
      unknown = none;
      noted_as = c.in-Ok.ensures.here;
      other_notes = c.in-Ok.ensures.others;
      taken = subst (λ (f : ℕ → Bool). f c.args.page.0 ≡ true) (sym c.adopt.ensures.used) (updated_here (used_at c.args.units.now) c.args.page.0 true);
      other_units = λ q apart. ap (λ (f : ℕ → Bool). f q) c.adopt.ensures.used ∙ updated_else (used_at c.args.units.now) c.args.page.0 true q apart;
    })

pub returns-in-Some-clause-unit : goal.returns-in-Some-clause-unit
returns-in-Some-clause-unit g c =
    let there : notes_in c.args.known.now c.args.page.0 ≡ Some c.in-Some.met = search rules in
    (c.requires.tracked.noted c.args.page.0 (c.in-Some.met, there)).0

pub returns-in-Ok-clause-tracked : goal.returns-in-Ok-clause-tracked
returns-in-Ok-clause-tracked g c =
    tracked_first c.args.geometry.now c.args.units.now c.adopt.new.self (notes_in c.args.known.now) (notes_in c.insert.new.self) c.args.page.0 c.in_ok-node.node.met c.requires.tracked c.in_ok-node.ensures.unit
    c.adopt.ensures.used c.adopt.ensures.refs c.in-Ok.ensures.here c.in-Ok.ensures.others

pub returns-in-Ok-clause-noted : goal.returns-in-Ok-clause-noted
returns-in-Ok-clause-noted g c = (c.in_ok-node.node.met, c.in-Ok.ensures.here)

pub returns-in-Ok-clause-uses : goal.returns-in-Ok-clause-uses
returns-in-Ok-clause-uses g c = record {
  geometry = c.adopt.ensures.geometry;
  stays = λ unit is. ap (λ (f : ℕ → Bool). f unit) c.adopt.ensures.used ∙ still_updated (used_at c.args.units.now) c.args.page.0 unit is;
  refs = c.adopt.ensures.refs;
}

pub returns-in-Err-clause-uses : goal.returns-in-Err-clause-uses
returns-in-Err-clause-uses g c = record {
  geometry = c.adopt.ensures.geometry;
  stays = λ unit is. ap (λ (f : ℕ → Bool). f unit) c.adopt.ensures.used ∙ still_updated (used_at c.args.units.now) c.args.page.0 unit is;
  refs = c.adopt.ensures.refs;
}
