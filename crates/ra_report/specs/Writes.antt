-- What a function does that writes a text to a sink.
use Rattle.std.specs.Prelude.{◌≤◌, List, ℕ, Result, OnOk, OnErr}
use Rattle.ra_io.specs.Outside.{Writing, Took}
use Rattle.ra_report.specs.Pieces.{BreaksOff}

-- the sink takes the whole text; or a put fails, which is counted, and it takes a front of it
pub record Writes {T E : Type 0} (out : Writing) (text : List ℕ) (said : Result T E) : Type 0 where
  pub whole : OnOk said (Took out text)
  pub part : OnErr said (BreaksOff out.taken out.taken_after out.before out.after text)
  pub never_falls : out.before ≤ out.after
