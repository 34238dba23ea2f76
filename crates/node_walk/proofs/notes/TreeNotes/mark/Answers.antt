use Rattle.std.proofs.Common.{◌≡◌, ◌/◌, ap, sym, ◌∙◌}
use Rattle.std.proofs.lemmas.Bool.{eqb-false}
use Rattle.node_walk.specs.Notes.{marks_of}
use Rattle.node_walk.proofs.Marks.{marked_here, marked_else, marks_at_hand, marks_elsewhere, more_marks}
use Rattle.node_walk.proofs.notes.TreeNotes.mark.Goals as goal

pub returns-clause-here : goal.returns-clause-here
returns-clause-here c =
    let page = c.args.page.0 in
    let group = page / 64 in
    let mid = c.turn_to.new.self in
    let done = c.in_ok-turn_to.ensures in
    let had : mid.marks ≡ marks_of c.args.self.now group = sym (marks_at_hand mid group mid.marks done.at) ∙ done.marks group in
    let put : marks_of (record mid { marks = more_marks mid.marks page }) group ≡ more_marks (marks_of c.args.self.now group) page = marks_at_hand mid group (more_marks mid.marks page) done.at ∙ ap (λ m. more_marks m page) had in
    marked_here (marks_of c.args.self.now) (marks_of (record mid { marks = more_marks mid.marks page })) page put

pub returns-clause-others : goal.returns-clause-others
returns-clause-others c = λ q other.
    let page = c.args.page.0 in
    let group = page / 64 in
    let mid = c.turn_to.new.self in
    let done = c.in_ok-turn_to.ensures in
    let had : mid.marks ≡ marks_of c.args.self.now group = sym (marks_at_hand mid group mid.marks done.at) ∙ done.marks group in
    let put : marks_of (record mid { marks = more_marks mid.marks page }) group ≡ more_marks (marks_of c.args.self.now group) page = marks_at_hand mid group (more_marks mid.marks page) done.at ∙ ap (λ m. more_marks m page) had in
    marked_else (marks_of c.args.self.now) (marks_of (record mid { marks = more_marks mid.marks page })) page q put
    (λ g apart. marks_elsewhere mid group (more_marks mid.marks page) g done.at apart ∙ done.marks g) (λ same. eqb-false page q other (sym same))
