-- A sink of a command, as a call finds it and as it leaves it.
use Rattle.std.specs.Prelude.{◌≡◌, ◌⊎◌, ℕ, List}
use Rattle.ra_io.specs.declared.outside.Sink as sink
use Rattle.ra_io.specs.Outside.{Writing, writing, Took, TookPart, WriteFailed}

-- what the sink took and how often taking failed; and a predicate that says that it is unchanged, including what is not
-- told of it
pub record Output : Type 1 where
  pub sink : Writing
  pub same : Type 0

-- in a clause `O.Sink` is the record of what a bound `O: Sink` tells
abbrev pub output : {O : Type 0} → sink.Ghosts O → O → O → Output
output told old new = record { sink = writing told old new; same = new ≡ old }

-- it took a front of the text, and then taking failed
abbrev pub BrokeOff : Writing → List ℕ → Type 0
BrokeOff out text = TookPart out text × WriteFailed out

-- it took the text, or a front of it if taking failed
abbrev pub Put : Writing → List ℕ → Type 0
Put out text = Took out text ⊎ BrokeOff out text
