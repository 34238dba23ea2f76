-- Counting over the trees of roots.
use Rattle.std.proofs.Common.{◌≡◌, ℕ, ◌+◌, ◌<◌, ◌≤◌, Bool, List, [], ◌∷◌, ◌++◌, take, take_all, length, get_or, Option, Some, None, sym, ap, subst, ◌∙◌, arith}
use Rattle.std.specs.List.{AllByRecursion, flat_map}
use Rattle.std.proofs.lemmas.Grind.{flat_map-append}
use Rattle.std.proofs.lemmas.List.{append-nil, take_more}
use Rattle.ex_base.specs.declared.faults.PortFault.{PortFault}
use Rattle.ex_base.specs.declared.geometry.Geometry.{Geometry}
use Rattle.ex_base.specs.declared.ground.Ground as ground
use Rattle.ex_base.specs.declared.names.PageNo.{PageNo}
use Rattle.ex_base.specs.declared.names.Root.{Root}
use Rattle.ex_base.specs.Ports.{IsDamage, Keeps}
use Rattle.ex_base.proofs.Each.{each_as, each_at, each_parted}
use Rattle.ex_base.proofs.Keeping.{keeps_on, keeps_refl}
use Rattle.ex_base.proofs.Rows.{each-append}
use Rattle.trees.specs.Damage.{IsWalkFault, IsWhole}
use Rattle.trees.specs.Made.{Has}
use Rattle.trees.specs.Owners.{page_here}
use Rattle.trees.specs.Trees.{Units, IsNamed, RootNamed}
use Rattle.trees.proofs.Over.{all_has}
use Rattle.trees.proofs.Sound.{sound_root}
use Rattle.compact.specs.High.{need_of, root_nodes_above}
use Rattle.compact.specs.Found.{AreFound, CanCount, IsFound, StayListed}
use Rattle.compact.proofs.Counting.{same_count}

abbrev pub no_root : Root
no_root = record { height = 0; page = None; size = 0 }

named_here : (g : Geometry) (u : Units) (height : ℕ) (page : Option PageNo) → RootNamed g u height page → AllByRecursion (IsNamed g u height) (page_here page)
named_here g u height None named = tt
named_here g u height (Some page) named = (named, tt)

-- nothing was seen
pub nothing_found : (g : Geometry) (dense : ℕ) (u : Units) (seen : ℕ → Option Bool) (nodes : List ℕ) → ((p : ℕ) → seen p ≡ None) → IsFound g dense u seen [] nodes
nothing_found g dense u seen nodes none = record {
  once = λ p. omega arith;
  marked = tt;
  right = λ l p high sent named. absurd (let e : Some high ≡ None = sym sent ∙ none p in cc);
  inside = tt;
}

-- no damage is told of a whole tree
pub sound_count : (g : Geometry) (u : Units) (root : Root) (page : PageNo) (fault : PortFault) → root.page ≡ Some page → IsWhole g u root → IsWalkFault g u root.height 2 (record { size = root.size; page = page } ∷ []) fault → IsDamage fault → ⊥
sound_count g u root page fault is whole walk damage =
    let same : root ≡ record { height = root.height; page = Some page; size = root.size } = ap (λ (o : Option PageNo). record { height = root.height; page = o; size = root.size }) is in
    sound_root g u (record { height = root.height; page = Some page; size = root.size }) fault (subst (IsWhole g u) same whole) walk damage

-- the trees of the roots up to an index were counted
pub record RootsSoFar {S : Type 0} (g : ground.Ghosts S) (old now : S) (dense : ℕ) (seen : ℕ → Option Bool) (above : List ℕ) (roots : List Root) (i : ℕ) : Type 0 where
  pub kept : Keeps g old now
  pub found : g.tells old → AllByRecursion (λ (root : Root). RootNamed (g.geometry old) (g.unit old) root.height root.page) roots
      → IsFound (g.geometry old) dense (g.unit old) seen above (flat_map (root_nodes_above (g.geometry old) dense (g.unit old)) roots)
      × AllByRecursion (Has above) (flat_map (root_nodes_above (g.geometry old) dense (g.unit old)) (take i roots))

module _ {S : Type 0} (g : ground.Ghosts S) where
  pub no_roots : (old : S) (dense : ℕ) (seen : ℕ → Option Bool) (roots : List Root) → ((p : ℕ) → seen p ≡ None) → RootsSoFar g old old dense seen [] roots 0
  no_roots old dense seen roots none = record {
    kept = keeps_refl g old;
    found = λ told named. (nothing_found (g.geometry old) dense (g.unit old) seen (flat_map (root_nodes_above (g.geometry old) dense (g.unit old)) roots) none, tt);
  }

  pub next_root : (old now new : S) (dense : ℕ) (seen after : ℕ → Option Bool) (above later : List ℕ) (roots : List Root) (i : ℕ) (high : Bool) → i < length roots → RootsSoFar g old now dense seen above roots i → Keeps g now new → StayListed above later
      → (g.tells now → (nodes : List ℕ) → CanCount (g.geometry now) dense (g.unit now) (get_or roots i no_root).height (page_here (get_or roots i no_root).page) seen above nodes
      → AreFound (g.geometry now) dense (g.unit now) (get_or roots i no_root).height (page_here (get_or roots i no_root).page) high after later nodes)
      → RootsSoFar g old new dense after later roots (i + 1)
  next_root old now new dense seen after above later roots i high lt x k stay one =
      let root : Root = get_or roots i no_root in
      let geo : g.geometry now ≡ g.geometry old = g.leads_geometry old now x.kept.leads in
      record {
        kept = keeps_on g old now new x.kept k;
        found = λ told named.
            let so_far = x.found told named in
            let all = flat_map (root_nodes_above (g.geometry old) dense (g.unit old)) roots in
            let there : CanCount (g.geometry old) dense (g.unit old) root.height (page_here root.page) seen above all = record {
              named = named_here (g.geometry old) (g.unit old) root.height root.page (each_at (λ (r : Root). RootNamed (g.geometry old) (g.unit old) r.height r.page) roots i no_root lt named);
              nodes_in = each_at (λ (r : Root). AllByRecursion (Has all) (root_nodes_above (g.geometry old) dense (g.unit old) r)) roots i no_root lt (each_parted (Has all) (root_nodes_above (g.geometry old) dense (g.unit old)) roots (all_has all));
              found = so_far.0;
            } in
            let was = subst (λ (v : Units). CanCount (g.geometry now) dense v root.height (page_here root.page) seen above all) (sym x.kept.units) (subst (λ (h : Geometry). CanCount h dense (g.unit old) root.height (page_here root.page) seen above all) (sym geo) there) in
            let got = one (g.leads_told old now x.kept.leads told) all was in
            let is = subst (λ (h : Geometry). AreFound h dense (g.unit old) root.height (page_here root.page) high after later all) geo (subst (λ (v : Units). AreFound (g.geometry now) dense v root.height (page_here root.page) high after later all) x.kept.units got) in
            let front = flat_map (root_nodes_above (g.geometry old) dense (g.unit old)) (take i roots) in
            let more : flat_map (root_nodes_above (g.geometry old) dense (g.unit old)) (take (i + 1) roots) ≡ front ++ root_nodes_above (g.geometry old) dense (g.unit old) root =
            ap (flat_map (root_nodes_above (g.geometry old) dense (g.unit old))) (take_more roots i no_root lt) ∙ flat_map-append (root_nodes_above (g.geometry old) dense (g.unit old)) (take i roots) (root ∷ [])
            ∙ ap (λ (xs : List ℕ). front ++ xs) (append-nil (root_nodes_above (g.geometry old) dense (g.unit old) root)) in
            (is.found, subst (AllByRecursion (Has later)) (sym more) (each-append (Has later) front (root_nodes_above (g.geometry old) dense (g.unit old) root) (each_as (Has above) (Has later) front stay so_far.1) is.listed));
      }

  -- all nodes that lead to high leaves are listed, each once
  pub all_counted : (old now : S) (dense : ℕ) (seen : ℕ → Option Bool) (above : List ℕ) (roots : List Root) (i : ℕ) → length roots ≤ i → RootsSoFar g old now dense seen above roots i → g.tells old
      → AllByRecursion (λ (root : Root). RootNamed (g.geometry old) (g.unit old) root.height root.page) roots → length above ≡ need_of (g.geometry old) dense (g.unit old) roots
  all_counted old now dense seen above roots i end x told named =
      let so_far = x.found told named in
      let all = flat_map (root_nodes_above (g.geometry old) dense (g.unit old)) roots in
      same_count above all so_far.0.once so_far.0.inside (subst (λ (rs : List Root). AllByRecursion (Has above) (flat_map (root_nodes_above (g.geometry old) dense (g.unit old)) rs)) (take_all i roots end) so_far.1)

  -- a whole tree stays whole
  pub whole_now : (old now : S) (dense : ℕ) (seen : ℕ → Option Bool) (above : List ℕ) (roots : List Root) (i : ℕ) → i < length roots → RootsSoFar g old now dense seen above roots i → AllByRecursion (IsWhole (g.geometry old) (g.unit old)) roots
      → IsWhole (g.geometry now) (g.unit now) (get_or roots i no_root)
  whole_now old now dense seen above roots i lt x whole =
      subst (λ (v : Units). IsWhole (g.geometry now) v (get_or roots i no_root)) (sym x.kept.units)
      (subst (λ (h : Geometry). IsWhole h (g.unit old) (get_or roots i no_root)) (sym (g.leads_geometry old now x.kept.leads)) (each_at (IsWhole (g.geometry old) (g.unit old)) roots i no_root lt whole))
