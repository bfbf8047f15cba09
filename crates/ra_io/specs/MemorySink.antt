-- The settings of a sink in memory, what it took, and how many calls and faults there were.
use Rattle.std.specs.Prelude.{◌≡◌, ℕ, ◌-◌, ◌^◌, ◌<◌, Bool, if◌then◌else◌, List, length}
use Rattle.ra_io.specs.declared.memory.MemorySink.{MemorySink}
use Rattle.ra_io.specs.Faults.{raised}

-- what was taken
abbrev pub bytes : MemorySink → List ℕ
bytes sink = sink.bytes.items

-- how many more bytes there is room for
abbrev pub left : MemorySink → ℕ
left sink = sink.bytes.room - length sink.bytes.items

-- the most bytes of one put
abbrev pub each : MemorySink → ℕ
each sink = sink.each

-- the numbers of the puts that fail
abbrev pub fails : MemorySink → List ℕ
fails sink = sink.fails.items

-- how many puts there were, and so the number of the next
abbrev pub calls : MemorySink → ℕ
calls sink = sink.calls.value

-- how many puts failed
abbrev pub faults : MemorySink → ℕ
faults sink = sink.faults.value

pub counted : (sink : MemorySink) → faults sink < 2 ^ 64
counted sink = sink.faults.small

-- one put more, which failed or not; the settings stay
pub record Counts (old new : MemorySink) (failed : Bool) : Type 0 where
  pub calls_rise : calls new ≡ raised (calls old)
  pub faults_rise : faults new ≡ (if failed then raised (faults old) else faults old)
  pub same_each : each new ≡ each old
  pub same_fails : fails new ≡ fails old
