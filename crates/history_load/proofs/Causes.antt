-- What stopped a load.
use Rattle.std.proofs.Common.{◌≡◌, ◌≤◌, Result, Ok, Err, refl, sym, subst, arith}
use Rattle.std.specs.Prelude.{IfErr}
use Rattle.std.specs.Result.{IsErrAnd}
use Rattle.disk_model.specs.Outside.{Outside, Rose}
use Rattle.ex_base.specs.Ports.{Cause, IsDamage}
use Rattle.ex_base.specs.declared.faults.PortFault.{PortFault}
use Rattle.ex_base.specs.declared.faults.PortFault.TheVariants.{Damaged, Disk as PortDisk, Memory as PortMemory}
use Rattle.commits.specs.declared.keep.CommitFault.{CommitFault}
use Rattle.commits.specs.declared.keep.CommitFault.TheVariants.{Memory as CommitMemory, Disk as CommitDisk}
use Rattle.history_writes.specs.declared.rows.LinkFault.{LinkFault}
use Rattle.history_writes.specs.declared.rows.LinkFault.TheVariants.{Bad as LinkBad, Disk as LinkDisk}
use Rattle.history_reads.specs.declared.heads.HeadFault.{HeadFault}
use Rattle.history_reads.specs.declared.progress.ReadFault.{ReadFault}
use Rattle.history_reads.specs.declared.progress.ReadFault.TheVariants.{Memory as NoMemory, Refused}
use Rattle.history_load.specs.Faults.{IsOfStream, LoadCause, WhereBad, fault_of_commit, fault_of_finish, fault_of_link, fault_of_port, fault_of_read}
use Rattle.history_load.specs.declared.ending.FinishFault.{FinishFault}
use Rattle.history_load.specs.declared.ending.FinishFault.TheVariants.{Bad as FinishBad, Disk as FinishDisk, Memory as FinishMemory}
use Rattle.history_load.specs.declared.faults.LoadFault.{LoadFault}
use Rattle.history_load.specs.declared.faults.LoadFault.TheVariants.{Disk, Memory, Source, Stream}

-- It did since an earlier moment too.
pub cause_since : (a b c : Outside) (fault : LoadFault) → a.disk_faults ≤ b.disk_faults → a.read_faults ≤ b.read_faults → LoadCause b c fault → LoadCause a c fault
cause_since a b c Source disk read cause = omega (arith, read, cause)
cause_since a b c Disk disk read cause = omega (arith, disk, cause)
cause_since a b c Memory disk read cause = tt
cause_since a b c (Stream fault) disk read cause = tt

-- Where records don't get their links, what is known of that holds.
pub link_bad : (r : Result (Unit {0}) LoadFault) (was : LinkFault) (X : Type 0) → IsErrAnd r (λ fault. fault ≡ fault_of_link was) → (was ≡ LinkBad → X) → IfErr r (WhereBad X)
link_bad (Ok x) was X is none = tt
link_bad (Err fault) LinkDisk X is none = subst (WhereBad X) (sym is) tt
link_bad (Err fault) LinkBad X is none = subst (WhereBad X) (sym is) (refl, none refl)

-- Where the stream doesn't stop it, nothing is known.
pub where_none : (X : Type 0) (fault : LoadFault) → (IsOfStream fault → ⊥) → WhereBad X fault
where_none X Source none = tt
where_none X Disk none = tt
where_none X Memory none = tt
where_none X (Stream fault) none = absurd (none tt)

pub where_as : (X Y : Type 0) (fault : LoadFault) → (X → Y) → WhereBad X fault → WhereBad Y fault
where_as X Y Source onward bad = tt
where_as X Y Disk onward bad = tt
where_as X Y Memory onward bad = tt
where_as X Y (Stream fault) onward bad = (bad.0, onward bad.1)

-- Where an item isn't taken, what is known of that holds.
pub read_bad : (r : Result (Unit {0}) LoadFault) (was : ReadFault) (X : Type 0) → IsErrAnd r (λ fault. fault ≡ fault_of_read was) → (was ≡ Refused → X) → IfErr r (WhereBad X)
read_bad (Ok x) was X is none = tt
read_bad (Err fault) NoMemory X is none = subst (WhereBad X) (sym is) tt
read_bad (Err fault) Refused X is none = subst (WhereBad X) (sym is) (refl, none refl)

-- ---- the cause of what is handed on, by the fault that it was

pub read_cause : (a b : Outside) (was : ReadFault) → LoadCause a b (fault_of_read was)
read_cause a b NoMemory = tt
read_cause a b Refused = tt

pub port_cause : (a b : Outside) (was : PortFault) → Cause a.disk_faults b.disk_faults was → LoadCause a b (fault_of_port was)
port_cause a b PortDisk cause = cause
port_cause a b PortMemory cause = tt
port_cause a b (Damaged page want got) cause = tt

pub link_cause : (a b : Outside) (was : LinkFault) → (was ≡ LinkDisk → Rose a.disk_faults b.disk_faults) → LoadCause a b (fault_of_link was)
link_cause a b LinkDisk rose = rose refl
link_cause a b LinkBad rose = tt

pub finish_cause : (a b : Outside) (was : FinishFault) → (was ≡ FinishDisk → Rose a.disk_faults b.disk_faults) → LoadCause a b (fault_of_finish was)
finish_cause a b FinishMemory rose = tt
finish_cause a b FinishDisk rose = rose refl
finish_cause a b FinishBad rose = tt

pub commit_cause : (a b : Outside) (was : CommitFault) → (was ≡ CommitDisk → Rose a.disk_faults b.disk_faults) → LoadCause a b (fault_of_commit was)
commit_cause a b CommitMemory rose = tt
commit_cause a b CommitDisk rose = rose refl

-- ---- what isn't of the stream

pub port_no_stream : (was : PortFault) → (IsDamage was → ⊥) → IsOfStream (fault_of_port was) → ⊥
port_no_stream PortDisk none of = of
port_no_stream PortMemory none of = of
port_no_stream (Damaged page want got) none of = none tt

pub source_no_stream : {X : Type 0} (r : Result X LoadFault) (was : LoadFault) (fault : HeadFault) → IsErrAnd r (λ f. f ≡ was) → was ≡ Source → r ≡ Err (Stream fault) → ⊥
source_no_stream (Ok x) was fault is source e = is
source_no_stream (Err f) was fault is source e = let no : Source ≡ Stream fault = cc in cc

pub memory_no_stream : {X : Type 0} (r : Result X LoadFault) (fault : HeadFault) → IsErrAnd r (λ f. f ≡ Memory) → r ≡ Err (Stream fault) → ⊥
memory_no_stream (Ok x) fault is e = is
memory_no_stream (Err f) fault is e = let no : Memory ≡ Stream fault = cc in cc

pub disk_no_stream : {X : Type 0} (r : Result X LoadFault) (fault : HeadFault) → IsErrAnd r (λ f. f ≡ Disk) → r ≡ Err (Stream fault) → ⊥
disk_no_stream (Ok x) fault is e = is
disk_no_stream (Err f) fault is e = let no : Disk ≡ Stream fault = cc in cc

-- ---- the fault of a stream

pub stream_same : (a b : HeadFault) → Stream a ≡ Stream b → a ≡ b
stream_same a b is = cc
