-- Counts of faults.
--
-- A function over `F: Files` and `O: Sink` that reads and writes says
--   ensures read { result ≡ Err Fault.Read → Rose (F.faults files.old name.now) (F.faults files.new name.now) }
--   ensures write { OnErr result (Rose (O.faults out.old) (O.faults out.new)) }
-- and, so that its callers can say the same, that no count falls:
--   ensures never_fall { (other : List ℕ) → F.faults files.old other ≤ F.faults files.new other }
--   ensures never_falls { O.faults out.old ≤ O.faults out.new }
-- That each count is below 2 ^ 64 is a law of both traits, `counted`, which the search finds by itself.
use Rattle.std.specs.Prelude.{◌≡◌, ℕ, ◌+◌, ◌-◌, ◌^◌, ◌<◌, ◌⊎◌, min}

-- the count rose in this call, or it is at its last value
abbrev pub Rose : ℕ → ℕ → Type 0
Rose before now = (before < now) ⊎ (now ≡ 2 ^ 64 - 1)

-- one more, if the count has not reached its last value
abbrev pub raised : ℕ → ℕ
raised count = min (count + 1) (2 ^ 64 - 1)
