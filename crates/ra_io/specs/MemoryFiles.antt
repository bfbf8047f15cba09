-- The settings of files in memory, and how many calls and faults there were.
use Rattle.std.specs.Prelude.{◌≡◌, ℕ, ◌^◌, ◌<◌, Bool, if◌then◌else◌, List, Option}
use Rattle.ra_io.specs.declared.memory.MemoryFiles.{MemoryFiles}
use Rattle.ra_io.specs.Faults.{raised}
use Rattle.ra_io.specs.Texts.{held_in}

-- the most bytes of one fetch
abbrev pub each : MemoryFiles → ℕ
each files = files.each

-- the numbers of the fetches that fail
abbrev pub fails : MemoryFiles → List ℕ
fails files = files.fails.items

-- how many fetches there were, and so the number of the next
abbrev pub calls : MemoryFiles → ℕ
calls files = files.calls.value

-- how many fetches failed
abbrev pub faults : MemoryFiles → ℕ
faults files = files.faults.value

-- the bytes of a name, if it was added
abbrev pub held : MemoryFiles → List ℕ → Option (List ℕ)
held files name = held_in files.texts name

pub counted : (files : MemoryFiles) → faults files < 2 ^ 64
counted files = files.faults.small

-- one fetch more, which failed or not; nothing else changes
pub record Counts (old new : MemoryFiles) (failed : Bool) : Type 0 where
  pub calls_rise : calls new ≡ raised (calls old)
  pub faults_rise : faults new ≡ (if failed then raised (faults old) else faults old)
  pub same_held : (other : List ℕ) → held new other ≡ held old other
  pub same_each : each new ≡ each old
  pub same_fails : fails new ≡ fails old
