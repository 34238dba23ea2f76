-- What a reply to a line that reads alone says of the pages that the line has read.
use Rattle.std.specs.Prelude.{◌≡◌, ℕ, Some, None, IfSome, ⊤}
use Rattle.ex_base.specs.Area.{catalog_no}
use Rattle.ex_base.specs.declared.names.Oid.{Oid}
use Rattle.ex_base.specs.declared.names.Root.{Root}
use Rattle.disk_model.specs.Outside.{Outside}
use Rattle.object_files.specs.Catalog.{FileEntry}
use Rattle.object_files.specs.Edits.{IsCatalogPage}
use Rattle.object_files.specs.Reads.{catalog_on}
use Rattle.open_scans.specs.OpenScans.{AtRow, HasSoundRest, position_of, scan_index}
use Rattle.table_model.specs.declared.reply.Reply.{Reply}
use Rattle.table_model.specs.declared.reply.Reply.TheVariants as reply
use Rattle.table_model.specs.Requests.{Reference, Request}
use Rattle.table_model.specs.Requests as request
use Rattle.versions.specs.Damage.{IsFoundAnd, IsReadThrough, IsWalkedOut}
use Rattle.versions.specs.declared.finding.Found.{Found}
use Rattle.session_core.specs.Damage.{image_on, units_on}
use Rattle.session_core.specs.Finding.{IsOutOfRange}
use Rattle.session_core.specs.Sessions.{SessionState}
use Rattle.session_core.specs.Ways.{HasReadRelatives, IsSoundTo, IsSoundTree}
use Rattle.session_core.specs.declared.session.relatives.Relation.TheVariants as relation
use Rattle.transactions.specs.Commands.{names_version}
use Rattle.transactions.specs.Lines.{named_as}
use Rattle.transactions.specs.Refused.{entry_named}

-- The record of the version that a line names was read. Of what it tells this holds.
abbrev pub HasRead : Outside → SessionState → Reference → (Found → Type 0) → Type 0
HasRead w s x Holds = (oid : Oid) → named_as s x oid → IsFoundAnd s.geometry (image_on w s) oid Holds

-- it has a root of this size and height, and each node of the tree was what names it
abbrev pub HasReadTree : Outside → SessionState → ℕ → ℕ → Found → Type 0
HasReadTree w s size height found = (root : Root) × (found.root ≡ Some root) × (root.size ≡ size) × (root.height ≡ height) × IsSoundTree s.geometry (units_on w s) root

-- What a line has read of the version, the scan or the file that it names, for this reply: each byte that it gives, or takes a digest of, lies in the record or
-- at the end of a sound way; the tree of which it tells is whole in its nodes; and of a file each page was one of it.
abbrev pub HasReadFor : Outside → SessionState → Request → Reply → Type 0
HasReadFor w s (request.Size x) (reply.Size size) = HasRead w s x (λ found. found.size ≡ size)
HasReadFor w s (request.Read x pos len) (reply.Read bytes) = HasRead w s x (IsReadThrough s.geometry (units_on w s) pos len)
HasReadFor w s (request.Digest x) (reply.Digest hash) = HasRead w s x (λ found. IsReadThrough s.geometry (units_on w s) 0 found.size found)
HasReadFor w s (request.Stat x) (reply.StatSmall size) = HasRead w s x (λ found. (found.root ≡ None) × (found.size ≡ size))
HasReadFor w s (request.Stat x) (reply.StatLarge size height leaves first) = HasRead w s x (HasReadTree w s size height)
HasReadFor w s (request.Versions x) (reply.Versions oids) = (oid : Oid) → named_as s x oid → HasReadRelatives relation.Object s.geometry (image_on w s) oid
HasReadFor w s (request.Scan x name group) (reply.Scan opened size) = HasRead w s x (λ found. found.size ≡ size)
HasReadFor w s (request.Next name len) (reply.Next bytes) = IfSome (scan_index s.scans name) (λ index. AtRow s.scans index (λ row. HasSoundRest s.geometry (units_on w s) len (position_of row.scan)))
HasReadFor w s (request.ListFile name) told = IsCatalogPage (image_on w s catalog_no)
    × ((entry : FileEntry) → entry_named (catalog_on (image_on w s catalog_no)) name ≡ Some entry → IsWalkedOut s.geometry (image_on w s) entry.file_no)
HasReadFor w s r told = ⊤

-- A line replied over pages that are what names them: those on the way to the record of the version that it names, where the numbers of the OID are in their
-- range, and what it has read of it.
pub record IsSoundReply (w : Outside) (s : SessionState) (r : Request) (told : Reply) : Type 0 where
  pub way : (oid : Oid) → names_version s r oid → (IsOutOfRange oid → ⊥) → IsSoundTo w s oid
  pub read : HasReadFor w s r told
