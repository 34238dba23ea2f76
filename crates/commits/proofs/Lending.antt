-- Frames go on lending while the log is written.
use Rattle.std.proofs.Common.{◌≡◌, ◌≤◌, ◌<◌, ◌*◌, ℕ, List, All, IsTrue, is_some, sym, ap, ◌∙◌, arith}
use Rattle.std.proofs.lemmas.Option.{same_Some}
use Rattle.std.specs.Prelude.{slice_index_or}
use Rattle.ex_base.specs.Area.{catalog_no}
use Rattle.disk_model.specs.Outside.{Outside}
use Rattle.disk_model.specs.Changes.{ChangesWithin}
use Rattle.disk_model.specs.Runs.{told_value}
use Rattle.buffer_groups.specs.Frames.{Frames, Lends, page_of}
use Rattle.volume_model.specs.CrashImage.{same_part}
use Rattle.commits.proofs.Places.{begins_behind}
use Rattle.commits.specs.Room.{AreBehindLog, BeforeCatalog}

pub lends_on : (a b : Outside) (size : ℕ) (groups : List Frames) → IsTrue a.honest → AreBehindLog groups → All (λ (f : Frames). f.page_size ≡ size) groups → ChangesWithin (BeforeCatalog size) a b
    → All (Lends a.disk) groups → All (Lends b.disk) groups
lends_on a b size groups honest behind sizes changes lends k f0 lt held is j e0 in_group =
    let f = slice_index_or groups k f0 in
    let e = slice_index_or f.entries j e0 in
    let was = told_value a.disk (sym changes.only.goes.disk_told ∙ ap is_some is) in
    let now = changes.disk honest was.0 was.1 in
    let same : now.0 ≡ held = same_Some now.0 held (sym now.1 ∙ is) in
    let from : catalog_no ≤ e.0 = behind k f0 lt j e0 in_group in
    let sized : f.page_size ≡ size = sizes k f0 lt in
    lends k f0 lt was.0 was.1 j e0 in_group
    ∙ sym (same_part now.0 was.0 (e.0 * f.page_size) f.page_size now.2.same_length (λ i low high. now.2.each i (λ (inside : i < 257 * size). absurd (omega (arith, inside, low, sized, begins_behind f.page_size catalog_no e.0 from)))))
    ∙ ap (λ (l : List ℕ). page_of l f.page_size e.0) same
