-- What is shown of a port that a walk keeps.
use Rattle.std.proofs.Common.{◌≡◌, ℕ, List, sym, subst}
use Rattle.ex_base.specs.declared.geometry.Geometry.{Geometry}
use Rattle.ex_base.specs.declared.ground.Ground as ground
use Rattle.ex_base.specs.Area.{InPageArea, area_end}
use Rattle.ex_base.specs.Ports.{Keeps}
use Rattle.file_walk.specs.Walk.{Tells, page_numbers}
use Rattle.ex_base.specs.declared.names.PageNo.{PageNo}
use Rattle.node_walk.specs.TreesNamed.{ShowsPages}
use Rattle.std.proofs.Common.{◌<◌, [], ◌∷◌}
use Rattle.std.specs.List.{AllByRecursion}
use Rattle.trees.specs.Trees.{Units}

module _ {S : Type 0} (g : ground.Ghosts S) where
  pub tells_of : (h : Geometry) (s : S) (units : Units) → h ≡ g.geometry s → g.tells s → ShowsPages h (g.image s) units → Tells g s units
  tells_of h s units same told shows = record { tells = told; same = λ p inside. shows p (subst (λ (k : Geometry). InPageArea k p) (sym same) inside) }

  pub shows_on : (h : Geometry) (a b : S) (units : Units) → Keeps g a b → ShowsPages h (g.image a) units → ShowsPages h (g.image b) units
  shows_on h a b units kept shows = subst (λ (pages : ℕ → List ℕ). ShowsPages h pages units) (sym kept.images) shows

-- pages of the page area lie before its end
pub inside_of : (g h : Geometry) (pages : List PageNo) → h ≡ g → AllByRecursion (InPageArea g) (page_numbers pages) → AllByRecursion (λ (page : PageNo). page.0 < area_end h) pages
inside_of g h [] same inside = tt
inside_of g h (page ∷ pages) same inside = (subst (λ (k : Geometry). page.0 < area_end k) (sym same) inside.0.1, inside_of g h pages same inside.1)
