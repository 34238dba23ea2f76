-- How many owners a unit has at most: so few that no count of references reaches its end.
use Rattle.std.proofs.Common.{ℕ, ◌+◌, ◌*◌, ◌<◌, ◌≤◌, Bool, List, [], ◌∷◌, length, arith}
use Rattle.std.specs.List.{AllByRecursion}
use Rattle.std.proofs.lemmas.List.{length-append, length-map}
use Rattle.std.proofs.Math.Nat.{mul-le-mul, mul-le-mul_right}
use Rattle.ex_base.specs.declared.geometry.Geometry.{Geometry}
use Rattle.ex_base.specs.Ports.{times, refs_most}
use Rattle.ex_base.proofs.Counts.{times_most, few_once}
use Rattle.trees.specs.Names.{page_of_pair}
use Rattle.trees.specs.Node.{pairs_on}
use Rattle.trees.specs.Split.{most_pairs}
use Rattle.trees.specs.Trees.{Units}
use Rattle.trees.specs.Owners.{IsInner, IsOwned, named_on, all_named}
use Rattle.trees.proofs.Parts.{narrow}

-- nodes name no more units than they have room for
few_named : (g : Geometry) (units : Units) (nodes : List ℕ) → AllByRecursion (IsInner g units) nodes → length (all_named units nodes) ≤ length nodes * most_pairs g.fan
few_named g units [] inner = omega arith
few_named g units (page ∷ nodes) inner =
    omega (arith, length-append (named_on units page) (all_named units nodes), length-map (pairs_on (units page)) page_of_pair, inner.0.stands.1.fits.few, few_named g units nodes inner.1)

-- the nodes are pages of the page area, none of them twice
few_nodes : (g : Geometry) (units : Units) (nodes : List ℕ) → AllByRecursion (IsInner g units) nodes → ((page : ℕ) → times page nodes ≤ 1) → length nodes ≤ g.pages
few_nodes g units nodes inner once = few_once 257 g.pages nodes (in_area nodes inner) once
  where
    in_area : (pages : List ℕ) → AllByRecursion (IsInner g units) pages → AllByRecursion (λ page. (257 ≤ page) × (page < 257 + g.pages)) pages
    in_area [] each = tt
    in_area (page ∷ pages) each = (each.0.stands.0, in_area pages each.1)

-- a unit has no more references than there are roots, and pairs that a node has on each page
pub few_references : (g : Geometry) (units : Units) (used : ℕ → Bool) (refs : ℕ → ℕ) (logged roots : List ℕ) (unit : ℕ) → IsOwned g units used refs logged roots
    → refs unit ≤ length roots + g.pages * most_pairs g.fan
few_references g units used refs logged roots unit owned =
    let names = few_named g units owned.nodes owned.inner in
    let pages = mul-le-mul_right (most_pairs g.fan) (few_nodes g units owned.nodes owned.inner owned.once) in
    omega (arith, owned.owners unit, times_most unit roots, times_most unit (all_named units owned.nodes), names, pages)

-- So many roots leave room: a volume has 4,000,000 pages at most, and a node 681 pairs.
pub references_below_end : (g : Geometry) (units : Units) (used : ℕ → Bool) (refs : ℕ → ℕ) (logged roots : List ℕ) (unit : ℕ) → IsOwned g units used refs logged roots
    → length roots ≤ 1500000000 → refs unit < refs_most
references_below_end g units used refs logged roots unit owned few =
    let room = mul-le-mul {n₁ = g.pages} {m₁ = most_pairs g.fan} {n₂ = 4000000} {m₂ = 681} g.few_pages (omega (arith, narrow g)) in
    omega (arith, few_references g units used refs logged roots unit owned, room, few)
