use Rattle.std.proofs.Common.{◌≡◌, ℕ, List, length, Some, ◌∙◌, sym, ap, arith}
use Rattle.std.proofs.lemmas.List.{take_at}
use Rattle.ex_base.specs.Bytes.{part}
use Rattle.ex_base.specs.Sizes.{volume_bytes}
use Rattle.ex_base.specs.declared.geometry.Geometry.{Geometry}
use Rattle.node_walk.proofs.Facts.{handed_err}
use Rattle.restart.proofs.Superblocks.{held_long, is_super, not_super, same_page_same, super_is_bad}
use Rattle.restart.proofs.geometry.read_geometry.Given as given
use Rattle.restart.proofs.geometry.read_geometry.Goals as goal
use Rattle.restart.proofs.geometry.read_geometry.Goals.{After-read_super}

-- what was read
page_now : (g : given.Over) (c : After-read_super g) → c.deref.result.now ≡ c.read.new.out
page_now g c = c.deref.ensures.value ∙ take_at c.read.new.out _ c.in-Ok.page.len (omega (arith, c.read.auto.out, c.deref_mut.ensures.len))

page_is : (g : given.Over) (c : After-read_super g) (image : List ℕ) → (g.D.World.outside c.args.disk.now).disk ≡ Some image → c.deref.result.now ≡ part image 0 (length c.deref_mut.result.now)
page_is g c image holds = page_now g c ∙ c.in-Ok-read.ensures.bytes image (c.page_size.ensures.only.nothing.disk ∙ holds)

long : (g : given.Over) (c : After-read_super g) → length c.deref_mut.result.now ≡ c.in_ok-size.size
long g c = omega (arith, c.deref_mut.ensures.len, c.in-Ok.ensures.len)

pub returns-in_err-size-clause-bad : goal.returns-in_err-size-clause-bad
returns-in_err-size-clause-bad g c part is image holds = c.in_err-size.ensures.bad part (handed_err c.from_residual.result _ _ c.from_residual.ensures.1 is) image holds

pub returns-in_default-read_super-clause-bad : goal.returns-in_default-read_super-clause-bad
returns-in_default-read_super-clause-bad g c part is image holds =
    let after = (goal.at.returns-in_default-read_super-clause-bad g c).After-read_super in
    super_is_bad Geometry part image is (λ h super.
    c.in_default-read_super.ensures.none h (not_super image c.deref.result.now (length c.deref_mut.result.now) h super (long g after ∙ c.in_ok-size.ensures.found image holds h super) (page_is g after image holds)))

pub returns-then-size-volume_bytes-clause-bad : goal.returns-then-size-volume_bytes-clause-bad
returns-then-size-volume_bytes-clause-bad g c part is image holds =
    let after = (goal.at.returns-then-size-volume_bytes-clause-bad g c).After-read_super in
    let w = g.D.World.outside c.read.new.self in
    let here = c.read.ensures.only.nothing.disk ∙ (c.page_size.ensures.only.nothing.disk ∙ holds) in
    super_is_bad Geometry part image is (λ h super.
    let page = not_super image c.deref.result.now (length c.deref_mut.result.now) h super (long g after ∙ c.in_ok-size.ensures.found image holds h super) (page_is g after image holds) in
    let same = ap volume_bytes (same_page_same c.deref.result.now c.in-Some.geometry h c.in-Some.ensures.found page) in
    omega (arith, super.large, same, held_long w image (g.D.World.is_world c.read.new.self) here, c.size.ensures, c.volume_bytes.ensures, c.if-size-volume_bytes.true))

pub returns-clause-found : goal.returns-clause-found
returns-clause-found g c image holds =
    let after = (goal.at.returns-clause-found g c).After-read_super in
    let w = g.D.World.outside c.read.new.self in
    let here = c.read.ensures.only.nothing.disk ∙ (c.page_size.ensures.only.nothing.disk ∙ holds) in
    is_super image c.deref.result.now (length c.deref_mut.result.now) c.in-Some.geometry c.in-Some.ensures.found (page_is g after image holds) (sym (ap length (page_now g after) ∙ c.read.auto.out))
    (omega (arith, held_long w image (g.D.World.is_world c.read.new.self) here, c.size.ensures, c.volume_bytes.ensures, c.if-size-volume_bytes.false))
