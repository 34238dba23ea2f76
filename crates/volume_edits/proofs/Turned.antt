-- How the roots of a volume turn where the records of one file change.
use Rattle.std.proofs.Common.{◌≡◌, ◌≢◌, ℕ, ◌+◌, ◌≤◌, Bool, true, false, true≢false, List, [], ◌∷◌, ◌++◌, Option, None, refl, sym, ap, subst, ◌∙◌, arith, inl, inr}
use Rattle.std.specs.Prelude.{Contains}
use Rattle.std.specs.List.{AllByRecursion}
use Rattle.std.proofs.lemmas.Bool.{cases_Bool}
use Rattle.std.proofs.lemmas.List.{append-nil}
use Rattle.ex_base.specs.declared.ground.Ground as ground
use Rattle.ex_base.specs.declared.geometry.Geometry.{Geometry}
use Rattle.ex_base.specs.declared.names.Root.{Root}
use Rattle.ex_base.specs.Area.{InPageArea, catalog_no}
use Rattle.ex_base.specs.Ports.{Keeps, times}
use Rattle.ex_base.proofs.Each.{each_as}
use Rattle.ex_base.proofs.Members.{contains_in, in_contains, in_left}
use Rattle.object_records.specs.Record.{Content, Small, Large}
use Rattle.ex_base.specs.declared.names.Index.{Index}
use Rattle.file_index.specs.Taking.{OnlyTakes, OnlyGives}
use Rattle.trees.specs.Damage.{IsWhole}
use Rattle.trees.specs.Made.{IsTaken}
use Rattle.trees.specs.Owners.{all_named, root_pages}
use Rattle.trees.specs.Trees.{Units, root_units}
use Rattle.op_log.specs.declared.record.LogRecord.{LogRecord}
use Rattle.volume_model.specs.Shown.{root_here}
use Rattle.volume_model.specs.Volume.{Stored, Volume, file_pages, reach_of, root_in, roots_in, stored_in}
use Rattle.versions.specs.Versions.{AreInUse, IsTreeUnit, Spells, content_units, root_of}
use Rattle.volume_edits.specs.Ported.{IsVolume, units_in}
use Rattle.volume_edits.specs.Edits.{IsOwnUnit, IsShared, TurnsRoots, trees_of, units_under}
use Rattle.volume_edits.proofs.TurnCounts.{named_append, named_root}
use Rattle.volume_edits.proofs.Holes.{Hole, filled, stored_filled, stored_first, stored_last}

-- ---- the root of a content

pub root_there : (content : Content) → root_in content ++ [] ≡ root_here (root_of content)
root_there (Small bytes) = refl
root_there (Large root) = refl

pub units_there : (units : Units) (content : Content) → units_under units (root_of content) ≡ content_units units content
units_there units (Small bytes) = refl
units_there units (Large root) = append-nil (root_units units root)

-- ---- the roots of a volume in which one file's records change

pub named_filled : (h : Hole) (image : ℕ → List ℕ) (index : Index) (stored : List Stored) (p : ℕ)
    → named_root p (stored_in (filled h image index stored)) ≡ named_root p stored + (named_root p (stored_first h) + named_root p (stored_last h))
named_filled h image index stored p =
    omega (arith, ap (named_root p) (stored_filled h image index stored), named_append p (stored_first h) (stored ++ stored_last h), named_append p stored (stored_last h))

-- one root goes, and one comes
pub roots_turned : (h : Hole) (a b : ℕ → List ℕ) (index after : Index) (was is : List Stored) (went come : Option Root)
    → ((p : ℕ) → times p (root_pages (root_here went)) + named_root p is ≡ named_root p was + times p (root_pages (root_here come)))
    → (p : ℕ) → named_root p (stored_in (filled h b after is)) + times p (root_pages (root_here went)) ≡ named_root p (stored_in (filled h a index was)) + times p (root_pages (root_here come))
roots_turned h a b index after was is went come counted p = omega (arith, counted p, named_filled h a index was p, named_filled h b after is p)

-- ---- what an edit takes

-- no tree has units
no_units : (units : Units) (p : ℕ) → Contains (units_under units None) p → ⊥
no_units units p c = in_contains p [] c

module _ {S : Type 0} (g : ground.Ghosts S) where
  -- each logged page of a volume is in use
  pub volume_in_use : (s : S) (records : List LogRecord) (v : Volume) → IsVolume g s records v → AreInUse g s
  volume_in_use s records v vol p held =
      vol.used p (contains_in p (reach_of (units_in g s) v) (in_left p (catalog_no ∷ file_pages v) (trees_of (units_in g s) v) (in_contains p (catalog_no ∷ file_pages v) ((vol.shows.held p).0 held))))

  -- the tree of a version is whole
  pub whole_there : (s : S) (content : Content) (bytes : List ℕ) → Spells (g.geometry s) (g.unit s) content bytes → AllByRecursion (IsTreeUnit g s) (content_units (g.unit s) content) → g.held s catalog_no ≡ true
      → AllByRecursion (IsWhole (g.geometry s) (g.unit s)) (root_here (root_of content))
  whole_there s (Small held) bytes spells units catalog = tt
  whole_there s (Large root) bytes spells units catalog = (
    record {
      bytes = bytes;
      spells = spells.0;
      avoids = each_as (IsTreeUnit g s) (λ p. p ≢ catalog_no) (root_units (g.unit s) root) (λ p tree same. true≢false (sym (ap (g.held s) same ∙ catalog) ∙ tree.1)) units;
    },
    tt,
  )

  -- what was taken is no logged page where no logged page came
  pub nodes_apart : (a b : S) → AreInUse g a → g.held b ≡ g.held a → (p : ℕ) → IsTaken g a b p → g.held b p ≡ false
  nodes_apart a b in_use held p taken = elim (cases_Bool (g.held b p)) [
    | inl is ↦ absurd (true≢false (sym (in_use p (ap (λ (f : ℕ → Bool). f p) (sym held) ∙ is)) ∙ taken.0))
    | inr isnt ↦ isnt
  ]

  pub all_held : (a b : S) → OnlyTakes g a b → (p : ℕ) → IsTaken g a b p → g.held b p ≡ true
  all_held a b takes p is = takes.taken p is.0 is.1

  pub none_taken : (a b : S) → OnlyGives g a b → AreInUse g a → (p : ℕ) → IsTaken g a b p → g.held b p ≡ true
  none_taken a b gives in_use p is = absurd (true≢false (sym (in_use p (gives.was p is.0 is.1)) ∙ is.0))

  -- where no root comes and what was taken are logged pages
  pub turned_away : (a b : S) (v now : Volume) (gone : Option Root) → ((p : ℕ) → times p (root_pages (roots_in (stored_in now))) + times p (root_pages (root_here gone)) ≡ times p (root_pages (roots_in (stored_in v))))
      → AllByRecursion (IsWhole (g.geometry a) (g.unit a)) (root_here gone) → ((p : ℕ) → IsTaken g a b p → g.held b p ≡ true) → g.refs b ≡ g.refs a → TurnsRoots g a b v now gone None
  turned_away a b v now was roots named held same = record {
    roots = λ p. omega (arith, roots p);
    there = λ p. omega (arith, roots p);
    went = named;
    came = tt;
    counts = λ names. record {
      nodes = [];
      taken = tt;
      pages = tt;
      once = λ p. omega arith;
      all = λ p is area away. absurd (true≢false (sym (held p is) ∙ away));
      refs = λ p fits. omega (arith, ap (λ (f : ℕ → ℕ). f p) same);
    };
    apart = λ names. tt;
    own = λ p c. absurd (no_units (g.unit b) p c);
    tree = λ p taken away. absurd (true≢false (sym (held p taken) ∙ away));
  }

  -- where a root comes that is shared, and what was taken are logged pages
  pub turned_shared : (a b : S) (v now : Volume) (come : Option Root) → ((p : ℕ) → times p (root_pages (roots_in (stored_in now))) ≡ times p (root_pages (roots_in (stored_in v))) + times p (root_pages (root_here come)))
      → IsShared g a v come → AllByRecursion (IsWhole (g.geometry b) (g.unit b)) (root_here come)
      → ((p : ℕ) → Contains (units_under (g.unit b) come) p → (g.used b p ≡ true) × (g.held b p ≡ false) × Contains (units_under (g.unit a) come) p)
      → ((p : ℕ) → IsTaken g a b p → g.held b p ≡ true) → g.refs b ≡ g.refs a → TurnsRoots g a b v now None come
  turned_shared a b v now come roots of_volume whole own held same = record {
    roots = λ p. omega (arith, roots p);
    there = λ p. omega arith;
    went = tt;
    came = whole;
    counts = λ names. record {
      nodes = [];
      taken = tt;
      pages = tt;
      once = λ p. omega arith;
      all = λ p is area away. absurd (true≢false (sym (held p is) ∙ away));
      refs = λ p fits. omega (arith, ap (λ (f : ℕ → ℕ). f p) same);
    };
    apart = λ names. tt;
    own = λ p c. (let is = own p c in (is.0, is.1, IsOwnUnit.shared of_volume is.2));
    tree = λ p is away. absurd (true≢false (sym (held p is) ∙ away));
  }

  pub turned_kept : (a b : S) (v : Volume) → Keeps g a b → TurnsRoots g a b v v None None
  turned_kept a b v k = turned_away a b v v None (λ p. omega arith) tt (λ p is. absurd (true≢false (sym is.1 ∙ ap (λ (f : ℕ → Bool). f p) k.used ∙ is.0))) k.refs

  -- ---- one call after the other

  -- what turns from a later state on, where an earlier one has the same roots, units and counts
  pub turned_before : (a b c : S) (v w now : Volume) (gone come : Option Root) → roots_in (stored_in w) ≡ roots_in (stored_in v) → g.geometry b ≡ g.geometry a → g.used b ≡ g.used a → g.refs b ≡ g.refs a → g.unit b ≡ g.unit a
      → TurnsRoots g b c w now gone come → TurnsRoots g a c v now gone come
  turned_before a b c v w now gone come same geometry used refs units turned = record {
    roots = λ p. turned.roots p ∙ ap (λ (rs : List Root). times p (root_pages rs) + times p (root_pages (root_here come))) same;
    there = λ p. subst (λ (rs : List Root). times p (root_pages (root_here gone)) ≤ times p (root_pages rs)) same (turned.there p);
    went = subst (λ (y : Geometry). AllByRecursion (IsWhole y (g.unit a)) (root_here gone)) geometry (subst (λ (u : Units). AllByRecursion (IsWhole (g.geometry b) u) (root_here gone)) units turned.went);
    came = turned.came;
    counts = λ names. record {
      nodes = (turned.counts names).nodes;
      taken = each_as (IsTaken g b c) (IsTaken g a c) (turned.counts names).nodes (λ p is. (ap (λ (f : ℕ → Bool). f p) (sym used) ∙ is.0, is.1)) (turned.counts names).taken;
      pages = subst (λ (h : Geometry). AllByRecursion (InPageArea h) (turned.counts names).nodes) geometry (turned.counts names).pages;
      once = (turned.counts names).once;
      all = λ p is area away. (turned.counts names).all p (taken_later p is) (subst (λ (h : Geometry). InPageArea h p) (sym geometry) area) away;
      refs = λ p fits.
          let n : g.refs b p ≡ g.refs a p = ap (λ (f : ℕ → ℕ). f p) refs in
          omega (arith, n, (turned.counts names).refs p (omega (arith, fits, n)));
    };
    apart = λ names. turned.apart names;
    own = λ p c. (let h = turned.own p c in (
      h.0,
      h.1,
      own_before p h.2,
    ));
    tree = λ p taken away. turned.tree p (taken_later p taken) away;
  }
    where
      taken_later : (p : ℕ) → IsTaken g a c p → IsTaken g b c p
      taken_later p taken = (ap (λ (f : ℕ → Bool). f p) used ∙ taken.0, taken.1)

      shared_before : IsShared g b w come → IsShared g a v come
      shared_before s = record {
        there = λ p. subst (λ (rs : List Root). times p (root_pages (root_here come)) ≤ times p (root_pages rs)) same (s.there p);
        whole = subst (λ (y : Geometry). AllByRecursion (IsWhole y (g.unit a)) (root_here come)) geometry (subst (λ (u : Units). AllByRecursion (IsWhole (g.geometry b) u) (root_here come)) units s.whole);
      }

      own_before : (p : ℕ) → IsOwnUnit g b w gone come p → IsOwnUnit g a v gone come p
      own_before p (IsOwnUnit.kept was) = IsOwnUnit.kept (subst (λ (u : Units). Contains (units_under u gone) p) units was)
      own_before p (IsOwnUnit.taken free) = IsOwnUnit.taken (ap (λ (f : ℕ → Bool). f p) (sym used) ∙ free)
      own_before p (IsOwnUnit.shared s is) = IsOwnUnit.shared (shared_before s) (subst (λ (u : Units). Contains (units_under u come) p) units is)

  -- and to a later one, behind which nothing changes
  pub turned_later : (a b c : S) (v now : Volume) (gone come : Option Root) → Keeps g b c → TurnsRoots g a b v now gone come → TurnsRoots g a c v now gone come
  turned_later a b c v now was come k turned = record {
    roots = turned.roots;
    there = turned.there;
    went = turned.went;
    came = subst (λ (y : Geometry). AllByRecursion (IsWhole y (g.unit c)) (root_here come)) (sym (g.leads_geometry b c k.leads)) (subst (λ (u : Units). AllByRecursion (IsWhole (g.geometry b) u) (root_here come)) (sym k.units) turned.came);
    counts = λ names. record {
      nodes = (turned.counts names).nodes;
      taken = each_as (IsTaken g a b) (IsTaken g a c) (turned.counts names).nodes (λ p is. (is.0, ap (λ (f : ℕ → Bool). f p) k.used ∙ is.1)) (turned.counts names).taken;
      pages = (turned.counts names).pages;
      once = (turned.counts names).once;
      all = λ p is area away. (turned.counts names).all p (taken_sooner p is) area (ap (λ (f : ℕ → Bool). f p) (sym k.held) ∙ away);
      refs = λ p fits.
          let n : g.refs c p ≡ g.refs b p = ap (λ (f : ℕ → ℕ). f p) k.refs in
          let named : times p (all_named (g.unit c) (turned.counts names).nodes) ≡ times p (all_named (g.unit b) (turned.counts names).nodes) = ap (λ (u : Units). times p (all_named u (turned.counts names).nodes)) k.units in
          omega (arith, n, named, (turned.counts names).refs p (omega (arith, fits, named)));
    };
    apart = λ names. each_as (λ p. g.held b p ≡ false) (λ p. g.held c p ≡ false) (turned.counts names).nodes (λ p away. ap (λ (f : ℕ → Bool). f p) k.held ∙ away) (turned.apart names);
    own = λ p c. (let h = turned.own p (subst (λ (u : Units). Contains (units_under u come) p) k.units c) in (ap (λ (f : ℕ → Bool). f p) k.used ∙ h.0, ap (λ (f : ℕ → Bool). f p) k.held ∙ h.1, h.2));
    tree = λ p taken away. subst (λ (u : Units). Contains (units_under u come) p) (sym k.units) (turned.tree p (taken_sooner p taken) (ap (λ (f : ℕ → Bool). f p) (sym k.held) ∙ away));
  }
    where
      taken_sooner : (p : ℕ) → IsTaken g a c p → IsTaken g a b p
      taken_sooner p taken = (taken.0, ap (λ (f : ℕ → Bool). f p) (sym k.used) ∙ taken.1)
