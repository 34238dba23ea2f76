-- The walk of the trees below a node, one after the other.
use Rattle.std.proofs.Common.{◌≡◌, ◌⊎◌, ◌<◌, ◌+◌, ◌-◌, ℕ, Bool, true, false, List, [], ◌∷◌, ◌++◌, length, take, get_or, refl, sym, ap, subst, ◌∙◌}
use Rattle.std.proofs.lemmas.List.{take_more}
use Rattle.ex_base.specs.declared.geometry.Geometry.{Geometry}
use Rattle.ex_base.specs.declared.ground.Ground as ground
use Rattle.ex_base.specs.Ports.{Keeps}
use Rattle.page_alloc.specs.UnitSet.{UnitSet, used_at, refs_at}
use Rattle.trees.specs.Trees.{Units}
use Rattle.trees.specs.declared.rows.Part.{Part}
use Rattle.ex_base.proofs.Keeping.{keeps_refl, keeps_on}
use Rattle.trees.proofs.Reading.{no_part}
use Rattle.node_walk.specs.Counts.{AreTracked, CountsMet}
use Rattle.node_walk.specs.TreesNamed.{ShowsPages}
use Rattle.node_walk.specs.Walk.{Notes, AreNoted, Walked, CanWalk, StayUsed, level_below, below_least}
use Rattle.node_walk.proofs.Counting.{met_more, met_none, row_pages, row_pages-append}
use Rattle.node_walk.proofs.Levels.{minus_one}
use Rattle.node_walk.proofs.Steps.{walked_none, walked_more, can_on, can_at}

module _ {S : Type 0} (p : ground.Ghosts S) where
  -- pages that are shown are shown later on
  pub shows_on : (geo : Geometry) (bytes : Units) (a b : S) → Keeps p a b → ShowsPages geo (p.image a) bytes → ShowsPages geo (p.image b) bytes
  shows_on geo bytes a b k shows = subst (λ images. ShowsPages geo images bytes) (sym k.images) shows

  pub record WalkSoFar (geo : Geometry) (old now : S) (before units : UnitSet) (known noted : Notes) (level : ℕ) (row : List Part) (i : ℕ) (balanced : Bool) : Type 0 where
    pub kept : Keeps p old now
    pub geometry : units.geometry ≡ before.geometry
    pub stays : StayUsed before units
    pub tracked : AreTracked geo units noted
    pub walked : p.tells old → (bytes : Units) → ShowsPages geo (p.image old) bytes → AreNoted geo bytes known
        → Walked geo bytes (level_below level) (below_least geo) (take i row) (used_at before) known (used_at units) noted balanced
    pub counts : p.tells old → (bytes : Units) → ShowsPages geo (p.image old) bytes → AreNoted geo bytes known
        → CountsMet geo bytes (row_pages (take i row)) (used_at before) (refs_at before) (used_at units) (refs_at units) noted

  pub walk_start : (geo : Geometry) (old : S) (before : UnitSet) (known : Notes) (level : ℕ) (row : List Part) → AreTracked geo before known → WalkSoFar geo old old before before known known level row 0 true
  walk_start geo old before known level row tracked = record {
    kept = keeps_refl p old;
    geometry = refl;
    stays = λ unit is. is;
    tracked = tracked;
    walked = λ told bytes shows notes. walked_none geo bytes (level_below level) (below_least geo) (used_at before) known notes;
    counts = λ told bytes shows notes. met_none geo bytes (used_at before) (refs_at before) known tracked.counted.few;
  }

  pub walk_more : (geo : Geometry) (old now new : S) (before mid units : UnitSet) (known noted last : Notes) (level : ℕ) (row : List Part) (i : ℕ) (b c r : Bool)
      → i < length row → (r ≡ true → (b ≡ true) × (c ≡ true)) → (r ≡ false → (b ≡ false) ⊎ (c ≡ false))
      → WalkSoFar geo old now before mid known noted level row i b → Keeps p now new → units.geometry ≡ mid.geometry → StayUsed mid units → AreTracked geo units last
      → (p.tells now → (bytes : Units) → ShowsPages geo (p.image now) bytes → AreNoted geo bytes noted
      → Walked geo bytes (level - 1) (below_least geo) (get_or row i no_part ∷ []) (used_at mid) noted (used_at units) last c)
      → (p.tells now → (bytes : Units) → ShowsPages geo (p.image now) bytes → AreNoted geo bytes noted
      → CountsMet geo bytes ((get_or row i no_part).page.0 ∷ []) (used_at mid) (refs_at mid) (used_at units) (refs_at units) last)
      → WalkSoFar geo old new before units known last level row (i + 1) r
  walk_more geo old now new before mid units known noted last level row i b c r lt holds fails h k same stays tracked child counted = record {
    kept = keeps_on p old now new h.kept k;
    geometry = same ∙ h.geometry;
    stays = λ unit is. stays unit (h.stays unit is);
    tracked = tracked;
    walked = λ told bytes shows notes.
        let front = h.walked told bytes shows notes in
        let next = child (p.leads_told old now h.kept.leads told) bytes (shows_on geo bytes old now h.kept shows) front.notes in
        subst (λ (xs : List Part). Walked geo bytes (level_below level) (below_least geo) xs (used_at before) known (used_at units) last r) (sym (take_more row i no_part lt))
        (walked_more geo bytes (level_below level) (below_least geo) (take i row) (get_or row i no_part ∷ []) (used_at before) (used_at mid) (used_at units) known noted last b c r holds fails front
        (subst (λ (l : ℕ). Walked geo bytes l (below_least geo) (get_or row i no_part ∷ []) (used_at mid) noted (used_at units) last c) (minus_one level) next));
    counts = λ told bytes shows notes.
        let front = h.walked told bytes shows notes in
        let told_now = p.leads_told old now h.kept.leads told in
        let shows_now = shows_on geo bytes old now h.kept shows in
        let next = child told_now bytes shows_now front.notes in
        let names : row_pages (take (i + 1) row) ≡ row_pages (take i row) ++ (get_or row i no_part).page.0 ∷ [] =
        ap row_pages (take_more row i no_part lt) ∙ row_pages-append (take i row) (get_or row i no_part ∷ []) in
        subst (λ (xs : List ℕ). CountsMet geo bytes xs (used_at before) (refs_at before) (used_at units) (refs_at units) last) (sym names)
        (met_more geo bytes (row_pages (take i row)) ((get_or row i no_part).page.0 ∷ []) (used_at before) (used_at mid) (used_at units) (refs_at before) (refs_at mid) (refs_at units) noted last
        (λ q is. (is.0, next.kept q is.0 is.1)) (h.counts told bytes shows notes) (counted told_now bytes shows_now front.notes));
  }

  -- where the trees of a row can be walked, the next one can
  pub can_next : (geo : Geometry) (bytes : Units) (old now : S) (before mid : UnitSet) (known noted : Notes) (level : ℕ) (row : List Part) (i : ℕ) (b : Bool)
      → i < length row → WalkSoFar geo old now before mid known noted level row i b → p.tells old → ShowsPages geo (p.image old) bytes → AreNoted geo bytes known
      → CanWalk geo bytes (used_at before) known (level_below level) row → CanWalk geo bytes (used_at mid) noted (level - 1) (get_or row i no_part ∷ [])
  can_next geo bytes old now before mid known noted level row i b lt h told shows notes can =
      subst (λ (l : ℕ). CanWalk geo bytes (used_at mid) noted l (get_or row i no_part ∷ [])) (sym (minus_one level))
      (can_at geo bytes (level_below level) row i no_part (used_at mid) noted lt
      (can_on geo bytes (level_below level) (below_least geo) (level_below level) (take i row) row (used_at before) (used_at mid) known noted b (h.walked told bytes shows notes) can))
