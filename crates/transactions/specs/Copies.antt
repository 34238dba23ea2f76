-- What a line that copies a version asks for, and why it is refused.
use Rattle.std.specs.Prelude.{◌≡◌, ℕ, ◌+◌, ◌^◌, ◌<◌, List, [], ◌∷◌, Bool, true, false, not, Option, Some, None, Result, Ok, Err}
use Rattle.ex_base.specs.declared.names.Oid.{Oid}
use Rattle.ex_base.specs.declared.notes.NoteKind.{NoteKind}
use Rattle.ex_base.specs.declared.notes.NoteKind.TheVariants as note_kind
use Rattle.table_model.specs.declared.machine.Machine.{Machine}
use Rattle.table_model.specs.declared.reply.Reply.{Reply}
use Rattle.table_model.specs.declared.reply.Reply.TheVariants as reply
use Rattle.table_model.specs.declared.reply.Refusal.{Refusal}
use Rattle.table_model.specs.declared.reply.Refusal.TheVariants as refusal
use Rattle.table_model.specs.Machines.{shown, the_oid}
use Rattle.table_model.specs.Refusals.{first, when}
use Rattle.table_model.specs.Requests.{Reference, Request}
use Rattle.table_model.specs.Requests as request
use Rattle.table_model.specs.Tables.{version_at}
use Rattle.version_lists.specs.declared.version.Version.{Version}
use Rattle.volume_model.specs.Volume.{is_frozen}
use Rattle.session_core.specs.declared.session.objects.Named.{Named}
use Rattle.session_core.specs.declared.updates.copying.Copying.{Copying}
use Rattle.session_core.specs.declared.updates.copying.Copying.TheVariants as copying
use Rattle.session_core.specs.Sessions.{SessionState}
use Rattle.transactions.specs.declared.copying.Original.{Original}
use Rattle.transactions.specs.Editing.{room_refusal}
use Rattle.transactions.specs.Lines.{Answered}
use Rattle.transactions.specs.Making.{making_need, takes_if}
use Rattle.transactions.specs.Scanning.{missing, unbound}

abbrev pub copy_request : Copying → Reference → Option (List ℕ) → Request
copy_request copying.Freeze x bind = request.Freeze x bind
copy_request copying.Derive x bind = request.Derive x bind

abbrev pub copy_reply : Copying → Oid → Reply
copy_reply copying.Freeze oid = reply.Freeze oid
copy_reply copying.Derive oid = reply.Derive oid

abbrev pub copy_kind : Copying → NoteKind
copy_kind copying.Freeze = note_kind.Frozen
copy_kind copying.Derive = note_kind.Derived

-- whether the versions that are copied so are frozen
abbrev pub copies_frozen : Copying → Bool
copies_frozen copying.Freeze = false
copies_frozen copying.Derive = true

-- why a version, frozen or not, is not copied so
abbrev pub kind_refusal : Copying → Bool → Option Refusal
kind_refusal copying.Freeze frozen = when frozen refusal.Frozen
kind_refusal copying.Derive frozen = when (not frozen) refusal.Current

-- why what was found is not copied so
abbrev pub found_refusal : Copying → Result Named Refusal → Option Refusal
found_refusal how (Ok named) = kind_refusal how (is_frozen named.found.head.state)
found_refusal how (Err why) = None

-- why no copy is made, and bound to the name, where there is one, of what was found
abbrev pub copy_refusal : SessionState → Result Named Refusal → Copying → Option (List ℕ) → Option Refusal
copy_refusal s told how bind = first (unbound told ∷ when (takes_if s bind) refusal.NameTaken ∷ missing told ∷ found_refusal how told ∷ [])

-- The version that was found may be copied so, and the name, where there is one, be bound.
pub record MayCopy (s : SessionState) (told : Result Named Refusal) (how : Copying) (bind : Option (List ℕ)) (version : Named) : Type 0 where
  pub none : copy_refusal s told how bind ≡ None
  pub found : told ≡ Ok version

-- The machine accepts the line. It names this version, of the kind that is copied so, and the copy has the next unique number.
pub record IsOriginal (m : Machine) (how : Copying) (x : Reference) (bind : Option (List ℕ)) (given : Original) : Type 0 where
  pub accepted : Answered m (copy_request how x bind) None
  pub own : the_oid m x ≡ given.oid
  pub version : Version
  pub is : version_at (shown m) given.oid ≡ Some version
  pub named : version.oid ≡ given.oid
  pub flag : version.frozen ≡ copies_frozen how
  pub next : (shown m).next_unique ≡ given.unique

-- There is room for the copy, a number follows its own, and the name, where there is one, is free.
pub record CanCopy (s : SessionState) (bind : Option (List ℕ)) (given : Original) : Type 0 where
  pub room : room_refusal s making_need ≡ None
  pub number : given.unique + 1 < 2 ^ 64
  pub untaken : takes_if s bind ≡ false
