-- The trees of roots over a port, one after the other.
use Rattle.std.proofs.Common.{◌≡◌, ◌⊎◌, ◌≤◌, ◌<◌, ◌+◌, ℕ, Bool, true, false, List, [], ◌∷◌, ◌++◌, length, take, drop, get_or, None, inl, inr, arith, refl, sym, ap, subst, ◌∙◌}
use Rattle.std.proofs.lemmas.Grind.{flat_map-append}
use Rattle.std.proofs.lemmas.List.{append-nil, drop_all, drop_more, get_or-drop, get_or_default, length-drop, map-append, take_all, take_more}
use Rattle.std.specs.Prelude.{Contains}
use Rattle.ex_base.specs.declared.geometry.Geometry.{Geometry}
use Rattle.ex_base.specs.declared.names.Root.{Root}
use Rattle.ex_base.specs.declared.ground.Ground as ground
use Rattle.ex_base.specs.Ports.{Keeps}
use Rattle.ex_base.proofs.Keeping.{keeps_refl, keeps_on}
use Rattle.ex_base.proofs.Members.{contains_later}
use Rattle.object_records.specs.Record.{IsRootField}
use Rattle.page_alloc.specs.UnitSet.{UnitSet, used_at, refs_at}
use Rattle.trees.specs.Owners.{page_here, root_pages}
use Rattle.trees.specs.Trees.{Units}
use Rattle.node_walk.specs.declared.ObjectRoot.{ObjectRoot}
use Rattle.node_walk.specs.Counts.{AreCounted, AreTracked, CountsMet, CountsTrees}
use Rattle.node_walk.specs.TreesNamed.{AreGrouped, AreNamed, ShowsPages, tree_in, trees_in}
use Rattle.node_walk.specs.Walk.{AreNoted, CanWalk, IsKnown, Notes, RootWalked, StayUsed, TurnsTo, root_row}
use Rattle.node_walk.proofs.CountedTrees.{trees_counted, trees_none}
use Rattle.node_walk.proofs.Grouped.{StartAt, TreesFound, TreesSoFar, false_by, known_turn, next_can, trees_end, trees_more, trees_start, trees_turn}
use Rattle.node_walk.proofs.Loops.{shows_on}
use Rattle.node_walk.proofs.Whole.{none_noted}

abbrev pub no_root : ObjectRoot
no_root = record { object = 0; root = record { height = 0; page = None; size = 0 } }

-- ---- roots that are grouped

grouped_from : (roots : List ObjectRoot) (i : ℕ) → AreGrouped roots → i < length roots → StartAt (get_or roots i no_root).object (drop i roots)
grouped_from roots i grouped lt r there =
    let at : get_or roots (i + there.0) r ≡ r = sym (get_or-drop i roots there.0 r) ∙ there.2 in
    let inside : i + there.0 < length roots = omega (arith, there.1, length-drop i roots, lt) in
    let first : get_or roots i r ≡ get_or roots i no_root = get_or_default roots i r no_root lt in
    omega (arith, grouped i (i + there.0) r (omega arith) inside, ap (λ (x : ObjectRoot). x.object) at, ap (λ (x : ObjectRoot). x.object) first)

later_roots : (object : ℕ) (roots : List ObjectRoot) (i : ℕ) → i < length roots → StartAt object (drop i roots) → StartAt object (drop (i + 1) roots)
later_roots object roots i lt start r there =
    start r (subst (λ (xs : List ObjectRoot). Contains xs r) (sym (drop_more roots i no_root lt)) (contains_later (get_or roots i no_root) r (drop (i + 1) roots) there))

pages_more : (roots : List ObjectRoot) (i : ℕ) → i < length roots → root_pages (trees_in (take (i + 1) roots)) ≡ root_pages (trees_in (take i roots)) ++ page_here (get_or roots i no_root).root.page
pages_more roots i lt =
    let r = get_or roots i no_root in
    ap (λ (xs : List ObjectRoot). root_pages (trees_in xs)) (take_more roots i no_root lt)
    ∙ ap root_pages (map-append tree_in (take i roots) (r ∷ []))
    ∙ flat_map-append (λ (root : Root). page_here root.page) (trees_in (take i roots)) (r.root ∷ [])
    ∙ ap (λ (xs : List ℕ). root_pages (trees_in (take i roots)) ++ xs) (append-nil (page_here r.root.page))

-- ---- over a port

module _ {S : Type 0} (p : ground.Ghosts S) where
  pub record RootsSoFar (geo : Geometry) (old now : S) (before units : UnitSet) (object : ℕ) (known : Notes) (roots : List ObjectRoot) (i : ℕ) (balanced : Bool) : Type 0 where
    pub kept : Keeps p old now
    pub geometry : units.geometry ≡ before.geometry
    pub stays : StayUsed before units
    pub tracked : AreTracked geo units known
    pub low : StartAt object (drop i roots)
    pub free : p.tells old → (bytes : Units) → ShowsPages geo (p.image old) bytes → (q : ℕ) → IsKnown known q → used_at before q ≡ false
    pub counts : p.tells old → (bytes : Units) → ShowsPages geo (p.image old) bytes
        → CountsTrees geo bytes (root_pages (trees_in (take i roots))) (used_at before) (refs_at before) (used_at units) (refs_at units)
    pub found : p.tells old → (bytes : Units) → ShowsPages geo (p.image old) bytes → TreesSoFar geo bytes roots (drop i roots) (used_at before) (used_at units) known object balanced

  pub roots_start : (geo : Geometry) (old : S) (before : UnitSet) (known : Notes) (roots : List ObjectRoot) → ((q : ℕ) → known q ≡ None) → AreCounted before → RootsSoFar geo old old before before 0 known roots 0 true
  roots_start geo old before known roots none counted = record {
    kept = keeps_refl p old;
    geometry = refl;
    stays = λ unit is. is;
    tracked = record { counted = counted; noted = λ unit is. absurd (none_noted known none unit is.0 is.1) };
    low = λ r there. omega arith;
    free = λ told bytes shows q is. absurd (none_noted known none q is.0 is.1);
    counts = λ told bytes shows. trees_none geo bytes (used_at before) (refs_at before) counted.few;
    found = λ told bytes shows. trees_start geo bytes roots (used_at before) known none;
  }

  -- the notes turn to the object of the next root
  pub roots_turn : (geo : Geometry) (old now : S) (before units : UnitSet) (object : ℕ) (known : Notes) (next : ℕ) (turned : Notes) (roots : List ObjectRoot) (i : ℕ) (b : Bool) → i < length roots → AreGrouped roots
      → next ≡ (get_or roots i no_root).object → TurnsTo object known (get_or roots i no_root).object turned → RootsSoFar geo old now before units object known roots i b → RootsSoFar geo old now before units next turned roots i b
  roots_turn geo old now before units object known next turned roots i b lt grouped same turns_there h =
      let turns : TurnsTo object known next turned = subst (λ (n : ℕ). TurnsTo object known n turned) (sym same) turns_there in
      let start : StartAt next (drop i roots) = subst (λ (n : ℕ). StartAt n (drop i roots)) (sym same) (grouped_from roots i grouped lt) in
      let first : object ≤ next = omega (arith, h.low (get_or roots i no_root) (first_left roots i lt), same) in
      record {
        kept = h.kept;
        geometry = h.geometry;
        stays = h.stays;
        tracked = record { counted = h.tracked.counted; noted = λ unit is. h.tracked.noted unit (known_turn geo (λ unit. []) object known next turned turns unit is) };
        low = start;
        free = λ told bytes shows q is. h.free told bytes shows q (known_turn geo (λ unit. []) object known next turned turns q is);
        counts = h.counts;
        found = λ told bytes shows. trees_turn geo bytes roots (drop i roots) (used_at before) (used_at units) known object turned next b turns first start (h.found told bytes shows);
      }
    where
      first_left : (roots : List ObjectRoot) (i : ℕ) → i < length roots → Contains (drop i roots) (get_or roots i no_root)
      first_left roots i lt = subst (λ (xs : List ObjectRoot). Contains xs (get_or roots i no_root)) (sym (drop_more roots i no_root lt)) (0, omega arith, refl)

  pub roots_more : (geo : Geometry) (old now new : S) (before mid units : UnitSet) (object : ℕ) (known noted : Notes) (roots : List ObjectRoot) (i : ℕ) (b c all : Bool)
      → i < length roots → object ≡ (get_or roots i no_root).object → IsRootField (get_or roots i no_root).root
      → (all ≡ true → (b ≡ true) × (c ≡ true)) → (all ≡ false → (b ≡ false) ⊎ (c ≡ false))
      → RootsSoFar geo old now before mid object known roots i b → Keeps p now new → units.geometry ≡ mid.geometry → StayUsed mid units → AreTracked geo units noted
      → (p.tells now → (bytes : Units) → ShowsPages geo (p.image now) bytes → AreNoted geo bytes known → CountsMet geo bytes (page_here (get_or roots i no_root).root.page) (used_at mid) (refs_at mid) (used_at units) (refs_at units) noted)
      → (p.tells now → (bytes : Units) → ShowsPages geo (p.image now) bytes → AreNoted geo bytes known → RootWalked geo bytes (get_or roots i no_root).root (used_at mid) known (used_at units) noted c)
      → RootsSoFar geo old new before units object noted roots (i + 1) all
  roots_more geo old now new before mid units object known noted roots i b c all lt same field both either h k geometry stays tracked counts walked = record {
    kept = keeps_on p old now new h.kept k;
    geometry = geometry ∙ h.geometry;
    stays = λ unit is. stays unit (h.stays unit is);
    tracked = tracked;
    low = later_roots object roots i lt h.low;
    free = free;
    counts = λ told bytes shows.
        let told_now = p.leads_told old now h.kept.leads told in
        let shows_now = shows_on p geo bytes old now h.kept shows in
        let more = found_more told bytes shows in
        let notes = (h.found told bytes shows).holds.notes in
        subst (λ (xs : List ℕ). CountsTrees geo bytes xs (used_at before) (refs_at before) (used_at units) (refs_at units)) (sym (pages_more roots i lt))
        (trees_counted geo bytes (root_pages (trees_in (take i roots))) (get_or roots i no_root).root (used_at before) (used_at mid) (used_at units) (refs_at before) (refs_at mid) (refs_at units) known noted all c
        more.holds (h.counts told bytes shows) (walked told_now bytes shows_now notes) (counts told_now bytes shows_now notes) (free told bytes shows) tracked.noted);
    found = found_more;
  }
    where
      free : p.tells old → (bytes : Units) → ShowsPages geo (p.image old) bytes → (q : ℕ) → IsKnown noted q → used_at before q ≡ false
      free told bytes shows q is =
          let one = walked (p.leads_told old now h.kept.leads told) bytes (shows_on p geo bytes old now h.kept shows) (h.found told bytes shows).holds.notes in
          elim (one.walked.fresh q is.0 is.1) [
            | inl was ↦ h.free told bytes shows q (is.0, was)
            | inr new ↦ false_by (used_at before q) (λ then. let clash : true ≡ false = sym (h.stays q then) ∙ new.free in cc)
          ]

      found_more : p.tells old → (bytes : Units) → ShowsPages geo (p.image old) bytes → TreesSoFar geo bytes roots (drop (i + 1) roots) (used_at before) (used_at units) noted object all
      found_more told bytes shows =
          let r = get_or roots i no_root in
          subst (λ (o : ℕ). TreesSoFar geo bytes roots (drop (i + 1) roots) (used_at before) (used_at units) noted o all) (sym same)
          (trees_more geo bytes roots r (drop (i + 1) roots) (used_at before) (used_at mid) (used_at units) known noted b c all both either field
          (λ q is. (h.tracked.noted q is).1) (λ q is. (tracked.noted q is).1)
          (subst (λ (o : ℕ). TreesSoFar geo bytes roots (r ∷ drop (i + 1) roots) (used_at before) (used_at mid) known o b) same
          (subst (λ (rest : List ObjectRoot). TreesSoFar geo bytes roots rest (used_at before) (used_at mid) known object b) (drop_more roots i no_root lt) (h.found told bytes shows)))
          (walked (p.leads_told old now h.kept.leads told) bytes (shows_on p geo bytes old now h.kept shows) (h.found told bytes shows).holds.notes))

  pub roots_end : (geo : Geometry) (old now : S) (before units : UnitSet) (object : ℕ) (known : Notes) (roots : List ObjectRoot) (i : ℕ) (b : Bool) → length roots ≤ i → RootsSoFar geo old now before units object known roots i b
      → p.tells old → (bytes : Units) → ShowsPages geo (p.image old) bytes → TreesFound geo bytes roots (used_at before) (used_at units) b
  roots_end geo old now before units object known roots i b done h told bytes shows = trees_end geo bytes roots (drop i roots) (used_at before) (used_at units) known object b (drop_all i roots done) (h.found told bytes shows)

  pub counts_end : (geo : Geometry) (old now : S) (before units : UnitSet) (object : ℕ) (known : Notes) (roots : List ObjectRoot) (i : ℕ) (b : Bool) → length roots ≤ i → RootsSoFar geo old now before units object known roots i b
      → p.tells old → (bytes : Units) → ShowsPages geo (p.image old) bytes → CountsTrees geo bytes (root_pages (trees_in roots)) (used_at before) (refs_at before) (used_at units) (refs_at units)
  counts_end geo old now before units object known roots i b done h told bytes shows =
      subst (λ (rs : List ObjectRoot). CountsTrees geo bytes (root_pages (trees_in rs)) (used_at before) (refs_at before) (used_at units) (refs_at units)) (take_all i roots done) (h.counts told bytes shows)

  -- where all trees are named, the next one can be walked
  pub next_named : (geo : Geometry) (bytes : Units) (old now : S) (before mid : UnitSet) (object : ℕ) (known : Notes) (roots : List ObjectRoot) (i : ℕ) (b : Bool) → i < length roots → object ≡ (get_or roots i no_root).object
      → RootsSoFar geo old now before mid object known roots i b → p.tells old → ShowsPages geo (p.image old) bytes → AreNamed geo bytes (used_at before) roots
      → CanWalk geo bytes (used_at mid) known (get_or roots i no_root).root.height (root_row (get_or roots i no_root).root)
  next_named geo bytes old now before mid object known roots i b lt same h told shows named =
      let r = get_or roots i no_root in
      let found = subst (λ (rest : List ObjectRoot). TreesSoFar geo bytes roots rest (used_at before) (used_at mid) known object b) (drop_more roots i no_root lt) (h.found told bytes shows) in
      let found_here = subst (λ (o : ℕ). TreesSoFar geo bytes roots (r ∷ drop (i + 1) roots) (used_at before) (used_at mid) known o b) same found in
      next_can geo bytes (used_at mid) known r (drop (i + 1) roots) (found_here.still_named named)
