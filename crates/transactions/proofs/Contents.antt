-- How the contents of versions lie after a line, from what its update leaves.
use Rattle.std.proofs.Common.{◌≡◌, ◌∙◌, ℕ, List, Option, Result, Ok, Err, sym, ap, subst}
use Rattle.ex_base.specs.declared.names.Oid.{Oid}
use Rattle.disk_model.specs.Outside.{Outside}
use Rattle.table_model.specs.declared.machine.Machine.{Machine}
use Rattle.table_model.specs.declared.reply.Refusal.{Refusal}
use Rattle.table_model.specs.declared.reply.Reply.{Reply}
use Rattle.table_model.specs.declared.reply.Reply.TheVariants as reply
use Rattle.table_model.specs.Machines.{the_oid}
use Rattle.table_model.specs.Requests.{Request, Reference, given_bytes}
use Rattle.table_model.specs.Requests as request
use Rattle.session_views.specs.declared.stop.Stop.{Stop}
use Rattle.tree_store.specs.Stored.{unit_bytes}
use Rattle.versions.specs.Versions.{Change, Inserts, Appends, Replaces, Deletes}
use Rattle.volume_port.specs.Ported.{image_over}
use Rattle.session_core.specs.Contents.{EditShaped, VolumePages, pages_on}
use Rattle.session_core.specs.Sessions.{SessionState}
use Rattle.session_core.specs.Steps.{OnlyFrames}
use Rattle.transactions.specs.Contents.{LineShaped, StepShaped}
use Rattle.transactions.specs.Editing.{AsksFor, edit_reply}

-- a refusal leaves nothing to say
pub refused_shaped : (m : Machine) (old new : VolumePages) (r : Request) (why : Refusal) → LineShaped m old new r (reply.No why)
refused_shaped m old new (request.Create file bind) why = tt
refused_shaped m old new (request.Insert x pos given) why = tt
refused_shaped m old new (request.Append x given) why = tt
refused_shaped m old new (request.Replace x pos given) why = tt
refused_shaped m old new (request.Delete x pos len) why = tt
refused_shaped m old new (request.Freeze x bind) why = tt
refused_shaped m old new (request.Derive x bind) why = tt
refused_shaped m old new r why = tt

-- where a line read at most, the pages are those of before
pub read_pages : {a b : Outside} {old mid : SessionState} → OnlyFrames a b old mid → pages_on b mid ≡ pages_on a old
read_pages {a} {b} {old} {mid} read =
    ap (λ (s : SessionState). pages_on b s) read.same
    ∙ ap (λ (disk : Option (List ℕ)). made_pages old (image_over old.geometry old.meta (unit_bytes old.geometry disk)) (unit_bytes old.geometry disk)) read.reads.nothing.disk
  where
    made_pages : SessionState → (ℕ → List ℕ) → (ℕ → List ℕ) → VolumePages
    made_pages s image units = record { geometry = s.geometry; image = image; units = units }

-- an edit of the version that the line names is the line's
pub edit_lies : (m : Machine) (old new : VolumePages) (r : Request) (x : Reference) (change : Change) (oid : Oid) (size : ℕ) → AsksFor r x change → the_oid m x ≡ oid → EditShaped old new oid change → LineShaped m old new r (edit_reply change size)
edit_lies m old new (request.Insert y pos given) x change oid size asked own lies =
    subst (λ (c : Change). LineShaped m old new (request.Insert y pos given) (edit_reply c size)) (sym asked.1)
    (subst (λ (o : Oid). EditShaped old new o (Inserts pos (given_bytes given))) (sym (ap (λ (z : Reference). the_oid m z) asked.0 ∙ own)) (subst (EditShaped old new oid) asked.1 lies))
edit_lies m old new (request.Append y given) x change oid size asked own lies =
    subst (λ (c : Change). LineShaped m old new (request.Append y given) (edit_reply c size)) (sym asked.1)
    (subst (λ (o : Oid). EditShaped old new o (Appends (given_bytes given))) (sym (ap (λ (z : Reference). the_oid m z) asked.0 ∙ own)) (subst (EditShaped old new oid) asked.1 lies))
edit_lies m old new (request.Replace y pos given) x change oid size asked own lies =
    subst (λ (c : Change). LineShaped m old new (request.Replace y pos given) (edit_reply c size)) (sym asked.1)
    (subst (λ (o : Oid). EditShaped old new o (Replaces pos (given_bytes given))) (sym (ap (λ (z : Reference). the_oid m z) asked.0 ∙ own)) (subst (EditShaped old new oid) asked.1 lies))
edit_lies m old new (request.Delete y pos len) x change oid size asked own lies =
    subst (λ (c : Change). LineShaped m old new (request.Delete y pos len) (edit_reply c size)) (sym asked.1)
    (subst (λ (o : Oid). EditShaped old new o (Deletes pos len)) (sym (ap (λ (z : Reference). the_oid m z) asked.0 ∙ own)) (subst (EditShaped old new oid) asked.1 lies))
edit_lies m old new r x change oid size asked own lies = absurd asked

-- ---- any command

pub shaped_as : (a b : Outside) (old new : SessionState) (r s : Request) (result : Result Reply Stop) → r ≡ s → StepShaped a b old new s result → StepShaped a b old new r result
shaped_as a b old new r s result same shaped = subst (λ (t : Request). StepShaped a b old new t result) (sym same) shaped

-- a command of which nothing is said
pub unshaped : (a b : Outside) (old new : SessionState) (r s : Request) (result : Result Reply Stop) → r ≡ s → ((m : Machine) (p q : VolumePages) (told : Reply) → LineShaped m p q s told) → StepShaped a b old new r result
unshaped a b old new r s result same none = shaped_as a b old new r s result same (by result)
  where
    by : (o : Result Reply Stop) → StepShaped a b old new s o
    by (Ok told) = λ before is now. none before.machine (pages_on a old) (pages_on b new) told
    by (Err why) = tt
