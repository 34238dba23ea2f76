-- How a program ends that runs the words that it was started with.
use Rattle.std.specs.Prelude.{◌≡◌, ◌≢◌, ◌⊎◌, List, Option, Some, None, ℕ}
use Rattle.disk_model.specs.Outside.{Outside, ReadsOnly, Rose}
use Rattle.ex_base.specs.declared.faults.Seen.{Seen}
use Rattle.ex_base.specs.declared.names.PageNo.{PageNo}
use Rattle.command_words.specs.Items.{Text}
use Rattle.command_words.specs.Wishes.{Asks, IsOutside, NamesFile}
use Rattle.command_words.specs.declared.request.NamedFile.{NamedFile}
use Rattle.command_words.specs.declared.wish.Wish.{Wish}
use Rattle.command_line.specs.declared.status.Status.{Status}
use Rattle.command_line.specs.declared.status.Status.TheVariants.{Damaged, DiskFault, Memory, OutputFault, ScriptFault, Usage}
use Rattle.exsm_run.specs.declared.system.RunEnding.{RunEnding}
use Rattle.exsm_run.specs.Promises.{Promise}
use Rattle.exsm_run.specs.Status.{IsRefusal, code_of}

-- The system's reason for a status is that of the source, the sink or the disk, by which of them failed, and else there is none.
pub record IsCause {E : Type 0} (source sink disk : Option E) (status : Status) (cause : Option E) : Type 0 where
  pub script : status ≡ ScriptFault → cause ≡ source
  pub output : status ≡ OutputFault → cause ≡ sink
  pub disk_is : status ≡ DiskFault → cause ≡ disk
  pub none : status ≢ ScriptFault → status ≢ OutputFault → status ≢ DiskFault → cause ≡ None

-- What `run` answers of a status, where it runs the words on a host.
pub record Answers {H : Type 0} (outside : H → Outside) (words : List Text) (before after : H) (status : Status) : Type 0 where
  pub usage : status ≡ Usage → IsOutside words
  pub no_words : IsOutside words → (status ≡ Usage) ⊎ (status ≡ Memory)
  pub untouched : IsOutside words → after ≡ before
  pub script_fault : status ≡ ScriptFault → Rose (outside before).read_faults (outside after).read_faults
  pub output_fault : status ≡ OutputFault → Rose (outside before).write_faults (outside after).write_faults
  pub disk_fault : status ≡ DiskFault → Rose (outside before).disk_faults (outside after).disk_faults
  pub damaged : (page : PageNo) (want got : Seen) → status ≡ Damaged page want got → want ≢ got
  pub refused : IsRefusal status → ReadsOnly (outside before) (outside after)
  pub does : (wish : Wish) → Asks words wish → Promise outside wish (outside before) (outside after) status ⊎ ((status ≡ Memory) × (after ≡ before))
  -- A fault of the disk is told: with any other status none came.
  pub told : status ≢ DiskFault → (outside after).disk_faults ≡ (outside before).disk_faults

-- The words were run on a host that was opened so, and the ending has the status that `run` answered and the system's reason for it.
pub record RanWords {H : Type 0} (outside : H → Outside) (Opened : H → Type 0) (Told : H → RunEnding → Type 0) (words : List Text) (ending : RunEnding) : Type 0 where
  pub before : H
  pub after : H
  pub opened : Opened before
  pub answers : Answers outside words before after ending.status
  pub told : Told after ending

-- The words were run, or no memory was there to open the host.
abbrev pub RanOn : {H : Type 0} → (H → Outside) → (H → Type 0) → (H → RunEnding → Type 0) → List Text → RunEnding → Type 0
RanOn outside Opened Told words ending = (ending.status ≡ Memory) ⊎ RanWords outside Opened Told words ending

-- The file is the one that the words name, or none where they are no command line.
abbrev pub IsNamed : List Text → Option NamedFile → Type 0
IsNamed words None = IsOutside words
IsNamed words (Some file) = NamesFile words file.path.now file.make

-- The program ends with the code of how the words ended: they were run on a host over the file that they name, or no memory was there.
pub record EndsAs {H : Type 0} (outside : H → Outside) (Opened : Option NamedFile → H → Type 0) (Told : H → RunEnding → Type 0) (words : List Text) (code : ℕ) : Type 0 where
  pub ending : RunEnding
  pub code_is : code ≡ code_of ending.status
  pub ran : (ending.status ≡ Memory) ⊎ ((file : Option NamedFile) × IsNamed words file × RanWords outside (Opened file) Told words ending)

-- It ends so where the words couldn't be read.
abbrev pub EndsUnread : ℕ → Type 0
EndsUnread code = (code ≡ code_of Usage) ⊎ (code ≡ code_of Memory)
