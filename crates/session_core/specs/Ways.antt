-- Which pages of a session's volume are what names them, where a call has read them.
use Rattle.std.specs.Prelude.{◌≡◌, ℕ, List, Option, Some, None, Result, IfOk, IfSome}
use Rattle.ex_base.specs.declared.geometry.Geometry.{Geometry}
use Rattle.ex_base.specs.declared.names.Oid.{Oid}
use Rattle.ex_base.specs.declared.names.Root.{Root}
use Rattle.disk_model.specs.Outside.{Outside}
use Rattle.file_bodies.specs.Damage.{IsBelonging}
use Rattle.table_model.specs.declared.reply.Refusal.{Refusal}
use Rattle.table_model.specs.Requests.{Reference}
use Rattle.trees.specs.Damage.{AnyPage, IsSoundRoot}
use Rattle.trees.specs.Trees.{Units}
use Rattle.versions.specs.Damage.{IsFoundAt}
use Rattle.versions.specs.Versions.{place_of}
use Rattle.versions.specs.declared.finding.Found.{Found}
use Rattle.version_tree.specs.Linked.{head_in}
use Rattle.version_tree.specs.Links.{IsReadAnd, IsWalkedFrom, NewerOn, OlderOn}
use Rattle.session_core.specs.declared.session.objects.Named.{Named}
use Rattle.session_core.specs.declared.session.relatives.Relation.{Relation}
use Rattle.session_core.specs.declared.session.relatives.Relation.TheVariants as relation
use Rattle.session_core.specs.Damage.{image_on}
use Rattle.session_core.specs.Finding.{IsOutOfRange, oid_among}
use Rattle.session_core.specs.Sessions.{SessionState}

-- What a look for the version of an OID has read: the way to its page, and where one was found, its record.
pub record IsLookFor (g : Geometry) (image : ℕ → List ℕ) (oid : Oid) (told : Option Found) : Type 0 where
  pub way : IsBelonging g image oid.page.0
  pub stands : IfSome told (IsFoundAt g image oid)

-- the way to the page that an OID names: the catalog, and the index of the file that the page shows
abbrev pub IsSoundTo : Outside → SessionState → Oid → Type 0
IsSoundTo w s oid = IsBelonging s.geometry (image_on w s) oid.page.0

-- The same of the version that a line names: the way to the page of the OID that the line gives, where its numbers are in their range, and where one was
-- found, its record.
pub record IsLookBy (w : Outside) (s : SessionState) (x : Reference) (told : Result Named Refusal) : Type 0 where
  pub way : (oid : Oid) → oid_among s.names x ≡ Some oid → (IsOutOfRange oid → ⊥) → IsSoundTo w s oid
  pub stands : IfOk told (λ version. IsFoundAt s.geometry (image_on w s) version.oid version.found)

-- each node of the tree of a root is what names it
abbrev pub IsSoundTree : Geometry → Units → Root → Type 0
IsSoundTree g units root = (byte : ℕ) → IsSoundRoot g units AnyPage root byte byte

-- What was read for the relatives of a version: its record, and the page of its place, which shows a file, and each page of that; or what its links name,
-- and the file only where it has no link to a newer one.
abbrev pub HasReadRelatives : Relation → Geometry → (ℕ → List ℕ) → Oid → Type 0
HasReadRelatives relation.Object g image oid = IsReadAnd image oid (λ body. IsWalkedFrom g image (place_of oid))
HasReadRelatives relation.Derived g image oid = IsReadAnd image oid (λ body. NewerOn image (place_of oid) (head_in body) × ((head_in body).newer ≡ None → IsWalkedFrom g image (place_of oid)))
HasReadRelatives relation.Older g image oid = IsReadAnd image oid (λ body. OlderOn image (head_in body))
