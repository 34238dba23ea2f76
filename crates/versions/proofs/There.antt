-- What is told of a version that stands where an OID leads, and records that stand on pages.
use Rattle.std.proofs.Common.{◌≡◌, ℕ, List, length, Option, Some, None, refl, sym, ap, subst, ◌∙◌}
use Rattle.std.proofs.lemmas.Option.{same_Some}
use Rattle.std.specs.Prelude.{IfSome, IfNone, ⊤}
use Rattle.ex_base.specs.declared.geometry.Geometry.{Geometry}
use Rattle.ex_base.specs.declared.ground.Ground as ground
use Rattle.ex_base.specs.declared.names.Index.{Index}
use Rattle.ex_base.specs.declared.names.Oid.{Oid}
use Rattle.ex_base.specs.declared.names.Place.{Place}
use Rattle.ex_base.specs.declared.names.Root.{Root}
use Rattle.object_records.specs.Record.{Content, Small, Large, Record, BodyOf}
use Rattle.object_records.specs.Reads.{large_record}
use Rattle.object_records.specs.declared.Head.{Head}
use Rattle.slotted_pages.specs.Reads.{IsPage}
use Rattle.file_index.specs.Index.{IsFilesPage}
use Rattle.versions.specs.Damage.{HasRecordOn, IsFoundAt, IsSmallAt, IsThereAnd, StandsOn}
use Rattle.versions.specs.Edited.{held_in}
use Rattle.versions.specs.Found.{found_of, root_of, size_of}
use Rattle.versions.specs.Versions.{HasRecord, HasVersion}
use Rattle.versions.specs.declared.finding.Found.{Found}
use Rattle.versions.proofs.Records.{one_record}

-- of a version one thing is told
pub found_one : (g : Geometry) (image : ℕ → List ℕ) (oid : Oid) (a b : Found) → IsFoundAt g image oid a → IsFoundAt g image oid b → a ≡ b
found_one g image oid a b x y =
    let same : x.body ≡ y.body = same_Some x.body y.body (sym x.stands ∙ y.stands) in
    let is : x.told.is ≡ y.told.is = one_record y.body x.told.is y.told.is (subst (λ (t : List ℕ). BodyOf t x.told.is) same x.told.spelled) y.told.spelled in
    x.told.told ∙ ap found_of is ∙ sym y.told.told

-- what is there of which something holds is there
pub there_any : (g : Geometry) (image : ℕ → List ℕ) (oid : Oid) (P : Found → Type 0) → IsThereAnd g image oid P → IsThereAnd g image oid (λ found. ⊤)
there_any g image oid P h = record { page = h.page; version = record { found = h.version.found; at = h.version.at; holds = tt } }

pub there_as : (g : Geometry) (image : ℕ → List ℕ) (oid : Oid) (P Q : Found → Type 0) → ((found : Found) → P found → Q found) → IsThereAnd g image oid P → IsThereAnd g image oid Q
there_as g image oid P Q f h = record { page = h.page; version = record { found = h.version.found; at = h.version.at; holds = f h.version.found h.version.holds } }

-- a version of which no root is told is a small one
pub small_at : (g : Geometry) (image : ℕ → List ℕ) (oid : Oid) (found : Found) → IsFoundAt g image oid found → found.root ≡ None → IsSmallAt image oid
small_at g image oid found at none = record {
  body = at.body;
  stands = at.stands;
  is = at.told.is;
  spelled = at.told.spelled;
  number = at.told.number;
  small = sym (ap (λ (f : Found). f.root) at.told.told) ∙ none;
}

-- no record stands at a place where none is read
pub lacks_on : {X : Type 0} (f : X → List ℕ) (o : Option X) (g : Geometry) (image : ℕ → List ℕ) (place : Place) → IfSome o (λ b. StandsOn image place (f b))
    → IfNone o (IsFilesPage g place.page.0 → IsPage (image place.page.0) → (body : List ℕ) → StandsOn image place body → ⊥) → IfSome o (λ b. (is : Record) → BodyOf (f b) is → ⊥) → HasRecordOn g image place → ⊥
lacks_on f None g image place stands none lacks h = none h.area h.page h.body h.stands
lacks_on f (Some b) g image place stands none lacks h = lacks h.is (subst (λ (t : List ℕ). BodyOf t h.is) (same_Some h.body (f b) (sym h.stands ∙ stands)) h.spelled)

-- ---- contents

pub held_size : (content : Content) → root_of content ≡ None → size_of content ≡ length (held_in content)
held_size (Small held) none = refl
held_size (Large root) none = absurd (let e : Some root ≡ None = none in cc)

-- a small version spells the bytes that its record holds
pub has_small : {S : Type 0} (g : ground.Ghosts S) (s : S) (index : Index) (oid : Oid) (head : Head) (content : Content) → root_of content ≡ None → HasRecord g s index oid (record { head = head; content = content })
    → HasVersion g s index oid head content (held_in content)
has_small g s index oid head (Small held) none has = record { stored = has; spells = refl; units = tt }
has_small g s index oid head (Large root) none has = absurd (let e : Some root ≡ None = none in cc)

-- a record with the head and the root that are told is the one of them
with_both : Head → Content → Record
with_both head content = record { head = head; content = content }

pub as_large : (is : Record) (head : Head) (root : Root) → head ≡ is.head → is.content ≡ Large root → is ≡ large_record head root
unfolding with_both
as_large is head root same large = ap (λ (t : Content). with_both is.head t) large ∙ ap (λ (h : Head). with_both h (Large root)) (sym same)
