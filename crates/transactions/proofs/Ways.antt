-- What lines that read alone have read.
use Rattle.std.proofs.Common.{◌≡◌, ◌∙◌, ℕ, ◌+◌, ◌<◌, ◌≤◌, zero, suc, List, Option, Some, None, Result, Ok, Err, refl, sym, ap, subst, arith}
use Rattle.std.specs.Prelude.{IfOk, IfSome, option_map}
use Rattle.ex_base.specs.Area.{catalog_no}
use Rattle.ex_base.specs.declared.geometry.Geometry.{Geometry}
use Rattle.ex_base.specs.declared.names.Oid.{Oid}
use Rattle.ex_base.specs.declared.names.Root.{Root}
use Rattle.disk_model.specs.Outside.{Outside}
use Rattle.disk_model.specs.Runs.{told_value}
use Rattle.object_files.specs.Catalog.{FileEntry}
use Rattle.object_files.specs.Edits.{IsCatalogPage}
use Rattle.object_files.specs.Reads.{catalog_on}
use Rattle.object_records.proofs.RecordLaws.{record_read}
use Rattle.object_records.specs.Reads.{record_on}
use Rattle.table_model.specs.declared.reply.Refusal.{Refusal}
use Rattle.table_model.specs.declared.reply.Reply.{Reply}
use Rattle.table_model.specs.Requests.{Reference, Request}
use Rattle.table_model.specs.Requests as request
use Rattle.session_views.specs.declared.stop.Stop.{Stop}
use Rattle.trees.specs.Trees.{Units}
use Rattle.versions.specs.Damage.{HasSoundWay, IsFoundAnd, IsFoundAt, IsReadThrough, IsWalkedOut}
use Rattle.versions.specs.Found.{found_of}
use Rattle.versions.specs.declared.finding.Found.{Found}
use Rattle.volume_port.specs.Reading.{TellsBytes}
use Rattle.session_core.specs.Catalogs.{FramesLend, catalog_bytes}
use Rattle.session_core.specs.Damage.{image_on}
use Rattle.session_core.specs.Finding.{oid_among}
use Rattle.session_core.specs.Sessions.{SessionState}
use Rattle.session_core.specs.Ways.{IsLookBy}
use Rattle.session_core.specs.declared.session.objects.Named.{Named}
use Rattle.session_core.proofs.Damage.{catalog_image}
use Rattle.transactions.specs.Commands.{names_version}
use Rattle.transactions.specs.Lines.{named_as}
use Rattle.transactions.specs.Refused.{entry_named}
use Rattle.transactions.specs.Ways.{HasRead, HasReadFor, IsSoundReply}

same_oid : (u v : Oid) → Some u ≡ Some v → u ≡ v
same_oid u v is = cc

-- the version that was found, of which this holds
pub read_so : (w : Outside) (s : SessionState) (x : Reference) (version : Named) → oid_among s.names x ≡ Some version.oid → (told : Result Named Refusal) → told ≡ Ok version → IsLookBy w s x told → (Holds : Found → Type 0) → Holds version.found
    → HasRead w s x Holds
read_so w s x version own told is look Holds holds = λ oid given.
    let at : IsLookBy w s x (Ok version) = subst (IsLookBy w s x) is look in
    record { found = version.found; at = subst (λ (o : Oid). IsFoundAt s.geometry (image_on w s) o version.found) (same_oid version.oid oid (sym own ∙ given)) at.stands; holds = holds }

-- of the OID that a line gives
pub relatives_so : (s : SessionState) (x : Reference) (own : Oid) → oid_among s.names x ≡ Some own → (P : Oid → Type 0) → P own → (oid : Oid) → named_as s x oid → P oid
relatives_so s x own is P holds = λ oid given. subst P (same_oid own oid (sym is ∙ given)) holds

-- what stands where an OID leads is one record
found_once : (g : Geometry) (image : ℕ → List ℕ) (oid : Oid) (one other : Found) → IsFoundAt g image oid one → IsFoundAt g image oid other → other ≡ one
found_once g image oid one other a b =
    let body : a.body ≡ b.body = by a.body b.body (sym a.stands ∙ b.stands) in
    let is : a.told.is ≡ b.told.is = sym (record_read a.body a.told.is a.told.spelled) ∙ ap record_on body ∙ record_read b.body b.told.is b.told.spelled in
    b.told.told ∙ ap found_of (sym is) ∙ sym a.told.told
  where
    by : (u v : List ℕ) → Some u ≡ Some v → u ≡ v
    by u v is = cc

-- all bytes of the version were read
pub read_whole : (g : Geometry) (image : ℕ → List ℕ) (units : Units) (oid : Oid) (found : Found) → IsFoundAt g image oid found → (0 < found.size → IsFoundAnd g image oid (IsReadThrough g units 0 found.size)) → IsReadThrough g units 0 found.size found
read_whole g image units oid found at read = by found.size refl
  where
    none : (o : Option Root) → IfSome o (HasSoundWay g units 0 0)
    none None = tt
    none (Some root) = λ byte from to. absurd (omega (arith, to))

    by : (size : ℕ) → found.size ≡ size → IsReadThrough g units 0 found.size found
    by zero is = subst (λ (n : ℕ). (0 + n ≤ found.size) × IfSome found.root (HasSoundWay g units 0 n)) (sym is) (omega arith, none found.root)
    by (suc n) is =
        let whole = read (omega (arith, is)) in
        subst (IsReadThrough g units 0 found.size) (found_once g image oid found whole.found at whole.at) whole.holds

-- a line that names no version and reads of none
pub nothing_read : (w : Outside) (s : SessionState) (r t : Request) (result : Result Reply Stop) → r ≡ t → ((oid : Oid) → names_version s t oid → ⊥) → ((told : Reply) → HasReadFor w s t told)
    → IfOk result (λ told. TellsBytes w s.groups → IsSoundReply w s r told)
nothing_read w s r t (Err why) is none read = tt
nothing_read w s r t (Ok told) is none read = λ tells. subst (λ (q : Request). IsSoundReply w s q told) (sym is) (record { way = λ oid named inside. absurd (none oid named); read = read told })

-- ---- the versions of a file

pub list_way : (w : Outside) (s : SessionState) (name page : List ℕ) → IsCatalogPage page → ((d : List ℕ) → w.disk ≡ Some d → FramesLend w s → page ≡ catalog_bytes s d)
    → (number : Option ℕ) → number ≡ option_map (λ (e : FileEntry). e.file_no) (entry_named (catalog_on page) name) → (TellsBytes w s.groups → IfSome number (IsWalkedOut s.geometry (image_on w s))) → (told : Reply)
    → TellsBytes w s.groups → IsSoundReply w s (request.ListFile name) told
list_way w s name page is reads number numbered walk told = λ tells.
    let disk = told_value w.disk tells.0 in
    let same : page ≡ image_on w s catalog_no = reads disk.0 disk.1 tells.1 ∙ sym (catalog_image w s disk.0 disk.1) in
    record {
      way = λ oid none inside. absurd none;
      read = subst (λ (bytes : List ℕ). IsCatalogPage bytes × ((entry : FileEntry) → entry_named (catalog_on bytes) name ≡ Some entry → IsWalkedOut s.geometry (image_on w s) entry.file_no)) same
          (is, λ entry has. subst (λ (o : Option ℕ). IfSome o (IsWalkedOut s.geometry (image_on w s))) (numbered ∙ ap (option_map (λ (e : FileEntry). e.file_no)) has) (walk tells));
    }

-- ---- on any command

-- as a command replies
pub way_as : (w : Outside) (s : SessionState) (r t : Request) (result : Result Reply Stop) → r ≡ t → IfOk result (λ told. TellsBytes w s.groups → IsSoundReply w s t told) → IfOk result (λ told. TellsBytes w s.groups → IsSoundReply w s r told)
way_as w s r t result is = subst (λ (q : Request). IfOk result (λ told. TellsBytes w s.groups → IsSoundReply w s q told)) (sym is)
