use Rattle.std.proofs.Common.{Bool, subst, true, false}
use Rattle.std.proofs.lemmas.Map.Views.{btree_set_contains_iff}
use Rattle.file_rooms.specs.Rooms.{Marks, IsRefused}
use Rattle.file_rooms.proofs.GoingBack.{goes_on, goes_lost}
use Rattle.file_rooms.proofs.Marked.{marks_of}
use Rattle.file_rooms.proofs.Order.{total, exact}
use Rattle.file_rooms.proofs.rooms.Rooms.go_back.Goals as goal

pub pages-preserved-in-Ok : goal.pages-preserved-in-Ok
pages-preserved-in-Ok c =
    let set = c.pages.self-inside.changed in
    let page = c.in-Some.page in (
      c.pages.invariant.0,
      c.pages.invariant.1,
      goes_on c.args.kept.now c.args.self.now c.pages.self-inside.roomy.keys c.mark.new.pages.keys set.keys c.pop_first.new.self.keys c.pages.is_lost page c.pages.invariant.2
          ((btree_set_contains_iff total exact set page).0 c.in-Some.ensures.member) (marks_of set c.pop_first.new.self page false c.in-Some.ensures.updates)
          (subst (Marks c.pages.self-inside.roomy.keys c.mark.new.pages.keys page) c.has.ensures c.in-Ok.ensures.marked),
    )

pub pages-preserved : goal.pages-preserved
pages-preserved c =
    let set = c.pages.self-inside.changed in
    let page = c.in-Some.page in (
      c.pages.invariant.0,
      c.pages.invariant.1,
      goes_lost c.args.kept.now c.args.self.now c.pages.self-inside.roomy.keys c.mark.new.pages.keys set.keys c.pop_first.new.self.keys c.pages.is_lost page c.pages.invariant.2
          ((btree_set_contains_iff total exact set page).0 c.in-Some.ensures.member) (marks_of set c.pop_first.new.self page false c.in-Some.ensures.updates)
          (subst (IsRefused c.pages.self-inside.roomy.keys c.mark.new.pages.keys page) c.has.ensures c.in-Err.ensures.refused),
    )
