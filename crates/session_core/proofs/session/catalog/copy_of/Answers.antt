use Rattle.std.proofs.Common.{◌≡◌, ℕ, ◌≤◌, List, ◌∙◌, ap, length, ◌+◌, ◌*◌, subst, sym}
use Rattle.ex_base.specs.Area.{catalog_no}
use Rattle.buffer_groups.specs.Frames.{Frames, Lends, page_of}
use Rattle.buffer_groups.proofs.GroupLists.{groups_keep, at_index}
use Rattle.session_core.proofs.Reading.{all_read, behind_read}
use Rattle.session_core.proofs.session.catalog.copy_of.Goals as goal

pub returns-in_err-bytes-clause-keeps : goal.returns-in_err-bytes-clause-keeps
returns-in_err-bytes-clause-keeps g c = groups_keep (g.D.World.outside c.args.disk.now).disk c.args.groups.now 0 c.at.result.now c.image.follows.lender-at-none c.at.ensures.value c.requires.main c.image.follows.holds-at-none.0

pub returns-in_err-bytes-clause-behind : goal.returns-in_err-bytes-clause-behind
returns-in_err-bytes-clause-behind g c = λ far behind.
    behind_read c.args.groups.now c.at.result.now c.image.follows.lender-at-none c.at.ensures.value c.requires.main
    (all_read (λ (e : ℕ × List ℕ). catalog_no ≤ e.0) _ c.image.result (λ s. s.now) (g.D.World.outside c.args.disk.now).disk c.at.result.now c.image.follows.lender-at-none c.args.page.0 c.image.follows.holds-at-none.1 (λ b. far))
    behind

pub returns-in_err-to_vec-clause-keeps : goal.returns-in_err-to_vec-clause-keeps
returns-in_err-to_vec-clause-keeps g c = groups_keep (g.D.World.outside c.args.disk.now).disk c.args.groups.now 0 c.at.result.now c.image.follows.lender-at-none c.at.ensures.value c.requires.main c.image.follows.holds-at-none.0

pub returns-clause-keeps : goal.returns-clause-keeps
returns-clause-keeps g c = groups_keep (g.D.World.outside c.args.disk.now).disk c.args.groups.now 0 c.at.result.now c.image.follows.lender-at-none c.at.ensures.value c.requires.main c.image.follows.holds-at-none.0

pub returns-in_err-to_vec-clause-behind : goal.returns-in_err-to_vec-clause-behind
returns-in_err-to_vec-clause-behind g c = λ far behind.
    behind_read c.args.groups.now c.at.result.now c.image.follows.lender-at-none c.at.ensures.value c.requires.main
    (all_read (λ (e : ℕ × List ℕ). catalog_no ≤ e.0) _ c.image.result (λ s. s.now) (g.D.World.outside c.args.disk.now).disk c.at.result.now c.image.follows.lender-at-none c.args.page.0 c.image.follows.holds-at-none.1 (λ b. far))
    behind

pub returns-clause-behind : goal.returns-clause-behind
returns-clause-behind g c = λ far behind.
    behind_read c.args.groups.now c.at.result.now c.image.follows.lender-at-none c.at.ensures.value c.requires.main
    (all_read (λ (e : ℕ × List ℕ). catalog_no ≤ e.0) _ c.image.result (λ s. s.now) (g.D.World.outside c.args.disk.now).disk c.at.result.now c.image.follows.lender-at-none c.args.page.0 c.image.follows.holds-at-none.1 (λ b. far))
    behind

pub returns-clause-home : goal.returns-clause-home
returns-clause-home g c = λ none lends held holds.
    let size = at_index (λ (f : Frames). f.page_size ≡ c.args.meta.now.geometry.page_size) c.args.groups.now 0 c.at.result.now c.at.ensures.value c.requires.main c.requires.sizes in
    c.in_ok-to_vec.ensures.items_if_clones_equal (λ x y is. is)
    ∙ c.in_ok-bytes.ensures.home none (at_index (Lends (g.D.World.outside c.args.disk.now).disk) c.args.groups.now 0 c.at.result.now c.at.ensures.value c.requires.main lends) held holds
    ∙ ap (λ (n : ℕ). page_of held n c.args.page.0) size

pub returns-clause-len : goal.returns-clause-len
returns-clause-len g c =
    let size = at_index (λ (f : Frames). f.page_size ≡ c.args.meta.now.geometry.page_size) c.args.groups.now 0 c.at.result.now c.at.ensures.value c.requires.main c.requires.sizes in
    ap (λ (l : List ℕ). length l) (c.in_ok-to_vec.ensures.items_if_clones_equal (λ x y is. is)) ∙ c.in_ok-bytes.ensures.len ∙ size

pub image-requires-clause-sizes : goal.image-requires-clause-sizes
image-requires-clause-sizes g c = at_index (λ (f : Frames). f.page_size ≡ c.args.meta.now.geometry.page_size) c.args.groups.now 0 c.at.result.now c.at.ensures.value c.requires.main c.requires.sizes

pub image-requires-clause-range : goal.image-requires-clause-range
image-requires-clause-range g c =
    let size = at_index (λ (f : Frames). f.page_size ≡ c.args.meta.now.geometry.page_size) c.args.groups.now 0 c.at.result.now c.at.ensures.value c.requires.main c.requires.sizes in
    subst (λ (n : ℕ). (c.args.page.0 + 1) * n ≤ (g.D.World.outside c.args.disk.now).size) (sym size) c.requires.room
