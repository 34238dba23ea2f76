-- Records and versions that stand in files.
use Rattle.std.proofs.Common.{◌≡◌, ◌≢◌, ℕ, true, false, List, [], length, Option, Some, None, sym, ap, subst, ◌∙◌}
use Rattle.std.proofs.lemmas.Option.{same_Some}
use Rattle.std.specs.Prelude.{IfSome, IfNone}
use Rattle.ex_base.specs.declared.geometry.Geometry.{Geometry}
use Rattle.trees.specs.Trees.{Units}
use Rattle.trees.proofs.TreeLaws.{AreWhole}
use Rattle.versions.proofs.Roots.{root_length, root_is_for}
use Rattle.std.specs.List.{AllByRecursion}
use Rattle.ex_base.specs.Area.{catalog_no}
use Rattle.ex_base.specs.declared.names.Root.{Root}
use Rattle.trees.specs.Trees.{root_units}
use Rattle.trees.specs.Damage.{IsWhole}
use Rattle.ex_base.specs.declared.ground.Ground as ground
use Rattle.ex_base.specs.declared.names.Oid.{Oid}
use Rattle.ex_base.specs.declared.names.Place.{Place}
use Rattle.ex_base.specs.Ports.{Keeps}
use Rattle.ex_base.proofs.Each.{each_as}
use Rattle.object_records.specs.Record.{Content, Small, Large, Record, BodyOf}
use Rattle.object_records.specs.declared.Head.{Head}
use Rattle.ex_base.specs.declared.names.Index.{Index}
use Rattle.file_bodies.specs.Files.{HasFileOf, HasBody, HasSomeBody}
use Rattle.file_bodies.proofs.Moving.{kept_body}
use Rattle.file_bodies.proofs.Belonging.{file_of_body}
use Rattle.versions.specs.Versions.{HasRecord, HasVersion, HoldsVersion, Spells, IsTreeUnit, place_of, content_units}
use Rattle.versions.specs.Found.{IsTold, HasLimits, IsReadable, found_of, size_of, root_of}
use Rattle.versions.specs.declared.finding.Found.{Found}
use Rattle.versions.proofs.Records.{one_record}

body_value : Option (List ℕ) → List ℕ
body_value None = []
body_value (Some body) = body

-- ---- contents

pub small_content : (geo : Geometry) (units : Units) (content : Content) (bytes : List ℕ) → root_of content ≡ None → Spells geo units content bytes → content ≡ Small bytes
small_content geo units (Small held) bytes none spells = ap Small (sym spells)
small_content geo units (Large root) bytes none spells = absurd (let e : Some root ≡ None = none in cc)

root_value : Root → Option Root → Root
root_value other None = other
root_value other (Some root) = root

pub large_content : (content : Content) (root : Root) → root_of content ≡ Some root → content ≡ Large root
unfolding root_value
large_content (Small held) root some = absurd (let e : None ≡ Some root = some in cc)
large_content (Large made) root some = ap Large (ap (root_value root) some)

module _ {S : Type 0} (g : ground.Ghosts S) where
  -- at a place stands one body
  pub one_body : (s : S) (index : Index) (place : Place) (a b : List ℕ) → HasSomeBody g s place a → HasBody g s index place b → a ≡ b
  one_body s index place a b some has = same_Some a b (sym some.has.stands ∙ has.stands)

  -- the file of a body is whole
  pub file_at : (s : S) (index : Index) (at place : Place) (body : List ℕ) → at ≡ place → HasBody g s index place body → HasFileOf g s at.page.0
  file_at s index at place body is has = subst (λ (p : Place). HasFileOf g s p.page.0) (sym is) (file_of_body g s index place body has)

  pub kept_record : (a b : S) (index : Index) (oid : Oid) (is : Record) → Keeps g a b → HasRecord g a index oid is → HasRecord g b index oid is
  kept_record a b index oid is kept has = record {
    body = has.body;
    stands = kept_body g a b index (place_of oid) has.body kept has.stands;
    spelled = has.spelled;
    number = has.number;
  }

  -- what is told of a body that stands at the place
  pub told_is : (s : S) (geo : Geometry) (index : Index) (oid : Oid) (body : List ℕ) (found : Found) (is : Record) → HasSomeBody g s (place_of oid) body → IsTold geo oid.unique body found → HasRecord g s index oid is → found ≡ found_of is
  told_is s geo index oid body found is some told has =
      told.told ∙ ap found_of (one_record has.body told.is is (subst (λ (b : List ℕ). BodyOf b told.is) (one_body s index (place_of oid) body has.body some has.stands) told.spelled) has.spelled)

  pub found_is : (s : S) (geo : Geometry) (index : Index) (oid : Oid) (body : List ℕ) (is : Record) → HasSomeBody g s (place_of oid) body → HasRecord g s index oid is → (found : Option Found)
      → IfSome found (IsTold geo oid.unique body) → IfNone found ((r : Record) → BodyOf body r → r.head.unique ≡ oid.unique → ⊥) → found ≡ Some (found_of is)
  found_is s geo index oid body is some has None told never = absurd (never is (subst (λ (b : List ℕ). BodyOf b is) (sym (one_body s index (place_of oid) body has.body some has.stands)) has.spelled) has.number)
  found_is s geo index oid body is some has (Some found) told never = ap Some (told_is s geo index oid body found is some told has)

  -- ---- a version has as many bytes as its content says

  size_spelled : (geo : Geometry) (units : Units) (content : Content) (bytes : List ℕ) → AreWhole geo units → Spells geo units content bytes → length bytes ≡ size_of content
  size_spelled geo units (Small held) bytes whole spells = ap length spells
  size_spelled geo units (Large root) bytes whole spells = root_length geo units root bytes whole spells.0

  pub version_size : (s : S) (index : Index) (oid : Oid) (head : Head) (content : Content) (bytes : List ℕ) → g.ready s → g.tells s → HoldsVersion g s index oid head content bytes → length bytes ≡ size_of content
  version_size s index oid head content bytes ready told has = size_spelled (g.geometry s) (g.unit s) content bytes (g.whole s ready told) has.spells

  pub told_size : (s : S) (geo : Geometry) (index : Index) (oid : Oid) (head : Head) (body : List ℕ) (content : Content) (bytes : List ℕ) → g.ready s → g.tells s → HasSomeBody g s (place_of oid) body → HoldsVersion g s index oid head content bytes
      → (found : Option Found) → IfSome found (IsTold geo oid.unique body) → IfSome found (λ f. f.size ≡ length bytes)
  told_size s geo index oid head body content bytes ready told some has None is = tt
  told_size s geo index oid head body content bytes ready told some has (Some found) is =
      ap (λ (f : Found). f.size) (told_is s geo index oid body found (record { head = head; content = content }) some is has.stored) ∙ sym (version_size s index oid head content bytes ready told has)

  -- ---- a version is readable

  limits_spelled : (geo : Geometry) (units : Units) (content : Content) (bytes : List ℕ) → Spells geo units content bytes → HasLimits geo content
  limits_spelled geo units (Small held) bytes spells = tt
  limits_spelled geo units (Large root) bytes spells = root_is_for geo units root bytes spells.0 spells.1

  pub version_readable : (s : S) (index : Index) (oid : Oid) (head : Head) (content : Content) (bytes : List ℕ) → HoldsVersion g s index oid head content bytes → IsReadable g s (place_of oid)
  version_readable s index oid head content bytes has = λ body some. record {
    is = record { head = head; content = content };
    spelled = subst (λ (b : List ℕ). BodyOf b (record { head = head; content = content })) (sym (one_body s index (place_of oid) body has.stored.body some has.stored.stands)) has.stored.spelled;
    limits = limits_spelled (g.geometry s) (g.unit s) content bytes has.spells;
  }

  -- a version in use is one that can be read
  pub holds_of : (s : S) (index : Index) (oid : Oid) (head : Head) (content : Content) (bytes : List ℕ) → HasVersion g s index oid head content bytes → HoldsVersion g s index oid head content bytes
  holds_of s index oid head content bytes has = record {
    stored = has.stored;
    spells = has.spells;
    apart = each_as (IsTreeUnit g s) (λ p. g.held s p ≡ false) (content_units (g.unit s) content) (λ p is. is.1) has.units;
  }

  -- it has the head that is told of it
  pub head_told : (s : S) (index : Index) (oid : Oid) (head told : Head) (content : Content) (bytes : List ℕ) → told ≡ head → HasVersion g s index oid head content bytes → HasVersion g s index oid told content bytes
  head_told s index oid head told content bytes same has = subst (λ (h : Head). HasVersion g s index oid h content bytes) (sym same) has

  pub kept_spells : (a b : S) (content : Content) (bytes : List ℕ) → Keeps g a b → Spells (g.geometry a) (g.unit a) content bytes → Spells (g.geometry b) (g.unit b) content bytes
  kept_spells a b content bytes kept spells =
      subst (λ (u : Units). Spells (g.geometry b) u content bytes) (sym kept.units) (subst (λ (geo : Geometry). Spells geo (g.unit a) content bytes) (sym (g.leads_geometry a b kept.leads)) spells)

  pub kept_holds : (a b : S) (index : Index) (oid : Oid) (head : Head) (content : Content) (bytes : List ℕ) → Keeps g a b → HoldsVersion g a index oid head content bytes → HoldsVersion g b index oid head content bytes
  kept_holds a b index oid head content bytes kept has = record {
    stored = kept_record a b index oid (record { head = head; content = content }) kept has.stored;
    spells = kept_spells a b content bytes kept has.spells;
    apart = subst (λ (u : Units). AllByRecursion (λ p. g.held b p ≡ false) (content_units u content)) (sym kept.units)
        (each_as (λ p. g.held a p ≡ false) (λ p. g.held b p ≡ false) (content_units (g.unit a) content) (λ p is. rw kept.held is) has.apart);
  }

  pub kept_version : (a b : S) (index : Index) (oid : Oid) (head : Head) (content : Content) (bytes : List ℕ) → Keeps g a b → HasVersion g a index oid head content bytes → HasVersion g b index oid head content bytes
  kept_version a b index oid head content bytes kept has = record {
    stored = kept_record a b index oid (record { head = head; content = content }) kept has.stored;
    spells = kept_spells a b content bytes kept has.spells;
    units = subst (λ (u : Units). AllByRecursion (IsTreeUnit g b) (content_units u content)) (sym kept.units)
        (each_as (IsTreeUnit g a) (IsTreeUnit g b) (content_units (g.unit a) content) (λ p is. (rw kept.used is.0, rw kept.held is.1)) has.units);
  }

  -- the tree of a large version is whole
  pub version_whole : (s : S) (index : Index) (oid : Oid) (head : Head) (root : Root) (bytes : List ℕ) → HoldsVersion g s index oid head (Large root) bytes → IsWhole (g.geometry s) (g.unit s) root
  version_whole s index oid head root bytes has = record {
    bytes = bytes;
    spells = has.spells.0;
    avoids = each_as (λ p. g.held s p ≡ false) (λ p. p ≢ catalog_no) (root_units (g.unit s) root) not_held has.apart;
  }
    where
      not_held : (p : ℕ) → g.held s p ≡ false → p ≡ catalog_no → ⊥
      not_held p isnt same = let yes : g.held s p ≡ true = ap (g.held s) same ∙ has.stored.stands.file.catalog.held in cc

  -- ---- what is told of a version says of which kind it is

  pub small_version : (s : S) (index : Index) (oid : Oid) (head : Head) (content : Content) (bytes : List ℕ) (f : Found) → f ≡ found_of (record { head = head; content = content }) → f.root ≡ None
      → HoldsVersion g s index oid head content bytes → HoldsVersion g s index oid head (Small bytes) bytes
  small_version s index oid head content bytes f told none has =
      subst (λ (t : Content). HoldsVersion g s index oid head t bytes) (small_content (g.geometry s) (g.unit s) content bytes (sym (ap (λ (x : Found). x.root) told) ∙ none) has.spells) has

  pub large_version : (s : S) (index : Index) (oid : Oid) (head : Head) (content : Content) (bytes : List ℕ) (f : Found) (root : Root) → f ≡ found_of (record { head = head; content = content }) → f.root ≡ Some root
      → HoldsVersion g s index oid head content bytes → HoldsVersion g s index oid head (Large root) bytes
  large_version s index oid head content bytes f root told some has =
      subst (λ (t : Content). HoldsVersion g s index oid head t bytes) (large_content content root (sym (ap (λ (x : Found). x.root) told) ∙ some)) has
