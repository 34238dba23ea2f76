-- What stops the end of a load: its test, or its commit.
use Rattle.std.proofs.Common.{◌≡◌, Result, Ok, Err, refl, subst, sym}
use Rattle.std.specs.Prelude.{IfErr}
use Rattle.std.specs.Result.{IsErrAnd}
use Rattle.commits.specs.declared.keep.CommitFault.{CommitFault}
use Rattle.commits.specs.declared.keep.CommitFault.TheVariants.{Memory as CommitMemory, Disk as CommitDisk}
use Rattle.history_load.specs.Faults.{fault_of_commit, fault_of_finish}
use Rattle.history_load.specs.declared.faults.LoadFault.{LoadFault}
use Rattle.history_load.specs.declared.faults.LoadFault.TheVariants.{Disk, Memory, Stream}
use Rattle.history_reads.specs.declared.heads.HeadFault.{HeadFault}
use Rattle.history_reads.specs.declared.heads.HeadFault.TheVariants.{Bad}
use Rattle.history_load.specs.declared.ending.FinishFault.{FinishFault}
use Rattle.history_load.specs.declared.ending.FinishFault.TheVariants.{Bad as FinishBad, Disk as FinishDisk, Memory as FinishMemory}

-- Where the stream stops its test, that has failed.
pub test_bad : {X : Type 0} (r : Result X LoadFault) (was : FinishFault) (Y : HeadFault → Type 0) → IsErrAnd r (λ fault. fault ≡ fault_of_finish was) → (was ≡ FinishBad → Y Bad) → (fault : HeadFault) → r ≡ Err (Stream fault) → Y fault
test_bad (Ok x) was Y is bad fault e = absurd is
test_bad (Err f) FinishMemory Y is bad fault e = absurd (let no : Memory ≡ Stream fault = cc in cc)
test_bad (Err f) FinishDisk Y is bad fault e = absurd (let no : Disk ≡ Stream fault = cc in cc)
test_bad (Err f) FinishBad Y is bad fault e = let same : Bad ≡ fault = cc in subst Y same (bad refl)

-- Where the disk doesn't stop its commit, there was no memory.
pub commit_kept : {X : Type 0} (r : Result X LoadFault) (was : CommitFault) (Y : Type 0) → IsErrAnd r (λ fault. fault ≡ fault_of_commit was) → (was ≡ CommitMemory → Y) → IfErr r (λ fault. (fault ≡ Disk → ⊥) → Y)
commit_kept (Ok x) was Y is kept = tt
commit_kept (Err f) CommitMemory Y is kept = λ other. kept refl
commit_kept (Err f) CommitDisk Y is kept = λ other. absurd (other is)

-- The stream doesn't stop it.
pub commit_no_stream : {X : Type 0} (r : Result X LoadFault) (was : CommitFault) (fault : HeadFault) → IsErrAnd r (λ f. f ≡ fault_of_commit was) → r ≡ Err (Stream fault) → ⊥
commit_no_stream (Ok x) was fault is e = absurd is
commit_no_stream (Err f) CommitMemory fault is e = absurd (let no : Memory ≡ Stream fault = cc in cc)
commit_no_stream (Err f) CommitDisk fault is e = absurd (let no : Disk ≡ Stream fault = cc in cc)

-- ---- a test ends in one way alone

abbrev pub is_of_disk : FinishFault → Type 0
is_of_disk FinishMemory = ⊥
is_of_disk FinishDisk = Unit {0}
is_of_disk FinishBad = ⊥

abbrev pub is_of_test : FinishFault → Type 0
is_of_test FinishMemory = ⊥
is_of_test FinishDisk = ⊥
is_of_test FinishBad = Unit {0}

-- Where it ends by the disk it is of the disk, and where it is bad it is of the test: nothing else is one of these.
pub ends_by_disk : (r : Result (Unit {0}) FinishFault) → r ≡ Err FinishDisk → IsErrAnd r is_of_disk
ends_by_disk r is = subst (λ (s : Result (Unit {0}) FinishFault). IsErrAnd s is_of_disk) (sym is) tt

pub ends_bad : (r : Result (Unit {0}) FinishFault) → r ≡ Err FinishBad → IsErrAnd r is_of_test
ends_bad r is = subst (λ (s : Result (Unit {0}) FinishFault). IsErrAnd s is_of_test) (sym is) tt
