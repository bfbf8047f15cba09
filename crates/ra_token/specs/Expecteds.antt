-- What a sink that compares shows: what it counts as taken, and its faults.
use Rattle.std.specs.Prelude.{ℕ, ◌^◌, ◌<◌, List}
use Rattle.ra_token.specs.declared.expected.Expected.{Expected}
use Rattle.ra_token.specs.Comparing.{taken_of}

abbrev pub taken : Expected → List ℕ
taken sink = taken_of sink.expected.now sink.agreed sink.other

abbrev pub faults : Expected → ℕ
faults sink = sink.faults

pub counted : (sink : Expected) → faults sink < 2 ^ 64
counted sink = sink.small
