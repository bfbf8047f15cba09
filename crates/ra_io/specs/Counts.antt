-- The number that a contract sees of a count.
use Rattle.std.specs.Prelude.{ℕ}
use Rattle.ra_io.specs.declared.counts.Count.{Count}

-- the number
abbrev pub number_of : Count → ℕ
number_of count = count.value
